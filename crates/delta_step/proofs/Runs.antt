-- The canonical run of delta-stepping: bucket after bucket, until nothing is pending.
use Rattle.std.proofs.Common.{ℕ, zero, suc, ◌+◌, ◌-◌, ◌*◌, ◌/◌, ◌%◌, ◌^◌, ◌<◌, ◌≤◌, ◌≡◌, ◌≢◌, ◌&&◌, min, not, Bool, true, false, cond, List, [], ◌∷◌, Option, Some, length, get_or, slice_get, sum_by, All, arith, inl, inr, refl, sym, ap, ◌∙◌, subst}
use Rattle.std.specs.Prelude.{Contains, nat_lt}
use Rattle.std.proofs.Math.Nat.{mod-lt, mul-le-mul, mul-le-mul_right}
use Rattle.std.proofs.lemmas.Bool.{cases_eq, cases_lt, cases_Bool, and_parts, le-ltb, le-leb, ltb-false, false≢true}
use Rattle.std.proofs.lemmas.Nat.{div-mul-add, mod-mul-add}
use Rattle.std.proofs.lemmas.List.Sums.{sum_by-le, get_or-le-sum_by}
use Rattle.std.proofs.lemmas.Option.{get_or_from_slice_get}
use Rattle.bale_items.specs.declared.triple.Triple.{Triple}
use Rattle.list_laws.proofs.Lists.{find, within, get_map, got_map, all_from_gets}
use Rattle.list_laws.proofs.Sums.{total_same, total_part}
use Rattle.mtx_text.specs.Sparse.{Sparse}
use Rattle.round_program.specs.Canonical.{absorbed_round, end_all, states_at, votes_at, vote_sum, InRound}
use Rattle.round_program.proofs.Members.{in_round, absorbed_in}
use Rattle.least_walks.specs.declared.vertices.Vertex.{Vertex}
use Rattle.least_walks.specs.Walks.{AtMost, IsLeast}
use Rattle.least_walks.specs.Vertices.{unreached_vertex, marked_places, in_bucket, weight_in, places_where}
use Rattle.least_walks.proofs.Settled.{least_at}
use Rattle.least_walks.proofs.Members.{has_head}
use Rattle.least_walks.proofs.Offered.{none_improved, was_marked}
use Rattle.app_sssp.specs.SsspRuns.{IsGraph}
use Rattle.app_sssp.proofs.Rounds.{Stage}
use Rattle.app_sssp.proofs.Begins.{graph_edges}
use Rattle.delta_step.specs.declared.phase.Phase.TheVariants.{Find, Light, Heavy}
use Rattle.delta_step.specs.Deltas.{DeltaState, delta_rules, vote_in, ended_in, finding, after_activation, after_last_round}
use Rattle.delta_step.specs.laws.DeltaLaws.{delta_laws}
use Rattle.delta_step.specs.DeltaRuns.{delta_starts}
use Rattle.delta_step.proofs.Buckets.{is_light, Offers, offers_fall, Owes, active, calmed_stage, light_sent, heavy_sent, opened, none_open, light_owes, heavy_owes, bucket_low, Within, light_within, Beyond, heavy_beyond, Lit, lit_begins}
use Rattle.delta_step.proofs.BucketEnds.{lit_more, lit_ends, left_count, fewer_left, later_one}
use Rattle.delta_step.proofs.OfferRounds.{vertex_at, stage_of, at_vertex}
use Rattle.delta_step.proofs.Transits.{Keeps, Static, open_of, has_pick, was_pick, light_round, light_open, light_static, light_phase, light_bucket}
use Rattle.delta_step.proofs.HeavyRounds.{heavy_round, heavy_static, heavy_phase}
use Rattle.delta_step.proofs.FindRounds.{IsFinding, found_bucket, find_found, find_fresh, find_static, find_phase, find_bucket, find_open, bucket_floor, bucket_reached}
use Rattle.delta_step.proofs.Looks.{Weighed, offers_weighed, calmed_weighed, look_weighed, owes_open, look_owes, within_open, look_beyond, look_active, walk_inside, sum_more, sum_some}
use Rattle.delta_step.proofs.Begins.{starts_in_round}

-- how far weights can rise with each bucket
abbrev pub RISE : ℕ
RISE = 2_000_000_000_000

module _ (ranks : ℕ) (m : Sparse) (source width : ℕ) (some : 0 < ranks) (few : ranks ≤ 64) (positive : 0 < width) (narrow : width ≤ 1_000_000_000_000) (g : IsGraph m) (source_in : source < m.rows) where
  abbrev starts : List DeltaState
  starts = delta_starts ranks m source width

  abbrev es : List Triple
  es = m.entries

  abbrev shape : List ℕ
  shape = m.rows ∷ []

  abbrev most : ℕ
  most = m.rows * (m.rows + 2) + 2

  -- all ranks as the absorbs of round n are over
  abbrev pub full : ℕ → List DeltaState
  full n = absorbed_round delta_rules (states_at delta_rules starts n)

  abbrev pub stage : ℕ → Stage
  stage n = stage_of ranks (full n)

  abbrev votes : ℕ → ℕ
  votes n = votes_at delta_rules starts n

  next_in : (n : ℕ) → n < 2 ^ 63 → InRound delta_rules ranks (suc n) shape most (end_all delta_rules (full n))
  next_in n l = in_round delta_rules delta_laws ranks shape most starts (suc n) (starts_in_round ranks m source width positive narrow g.matrix g.square) (omega arith)

  pub full_in : (n : ℕ) → n < 2 ^ 63 → InRound delta_rules ranks n shape most (full n)
  full_in n l =
      absorbed_in delta_rules delta_laws ranks n shape most (states_at delta_rules starts n)
      (in_round delta_rules delta_laws ranks shape most starts n (starts_in_round ranks m source width positive narrow g.matrix g.square) (omega arith))

  -- ---- Votes

  sum_is : (n : ℕ) → votes n ≡ min (sum_by delta_rules.vote (full n)) (2 ^ 64 - 1)
  sum_is n = refl

  -- where each rank has a vote, there are votes, and one with more shows
  pub voted : (n : ℕ) → n < 2 ^ 63 → ((r : ℕ) (s : DeltaState) → slice_get (full n) r ≡ Some s → 1 ≤ delta_rules.vote s) → votes n ≢ 0
  voted n l each z =
      let all : InRound delta_rules ranks n shape most (full n) = full_in n l in
      let s = find (full n) 0 (subst (λ k. 0 < k) (sym all.size) some) in
      let more : length (full n) + delta_rules.vote s.0 ≤ sum_by delta_rules.vote (full n) + 1 = sum_more delta_rules.vote (full n) 0 s.0 (all_from_gets (λ t. 1 ≤ delta_rules.vote t) (full n) each) s.1 in
      let one : 1 ≤ delta_rules.vote s.0 = each 0 s.0 s.1 in
      let size : length (full n) ≡ ranks = all.size in
      let total : min (sum_by delta_rules.vote (full n)) (2 ^ 64 - 1) ≡ 0 = z in
      omega arith

  light_vote : (s : DeltaState) → s.phase ≡ Light → delta_rules.vote s ≡ 1 + length (places_where (in_bucket s.width s.bucket) s.vertices)
  light_vote s e = ap (λ p. vote_in p s) e

  -- ---- A bucket

  record InBucket (r0 r k b top : ℕ) : Type 0 where
    pub static : Static es m.rows width ranks (full r)
    pub bucket : (j : ℕ) (s : DeltaState) → slice_get (full r) j ≡ Some s → s.bucket ≡ b
    pub owes : Owes es source width (open_of ranks (full r)) (stage r)
    pub weighed : Weighed (stage r)
    pub within : Within width b top (open_of ranks (full r)) (stage r)
    pub lit : Lit es width b k (stage r0) (stage r)
    pub falls : (v n : ℕ) → AtMost ((stage r0).found v) n → AtMost ((stage r).found v) n
    pub quiet : (j : ℕ) → j < r → votes j ≢ 0

  -- what a light round leaves
  record AfterLight (r0 r k b top : ℕ) : Type 0 where
    pub in_bucket : InBucket r0 r k b top
    pub phase : (j : ℕ) (s : DeltaState) → slice_get (full r) j ≡ Some s → s.phase ≡ Light
    pub late : m.rows ≤ k → (v : ℕ) → active width b (stage r) v ≡ false

  one_later : (r : ℕ) → ((j : ℕ) → j < r → votes j ≢ 0) → votes r ≢ 0 → (j : ℕ) → j < suc r → votes j ≢ 0
  one_later r before here j l = elim (cases_eq j r) [ inl same ↦ subst (λ i. votes i ≢ 0) (sym same) here | inr other ↦ before j (omega (arith, other)) ]

  light_step : (r0 r k b top : ℕ) → r < 2 ^ 62 → b * width + width + width ≤ top → top ≤ 2 ^ 60 → InBucket r0 r k b top → votes r ≢ 0
      → ((j : ℕ) (s : DeltaState) → slice_get (full r) j ≡ Some s → delta_rules.ended s (vote_sum delta_rules (full r)) ≡ after_activation s) → AfterLight r0 (suc r) (suc k) b top
  light_step r0 r k b top small room fits h voting becomes =
      let low : (v k : ℕ) → (stage r).found v ≡ Some k → k ≤ 2 ^ 60 = λ v k found. (let t : k ≤ top = h.within.below v k found in omega arith) in
      let now : InRound delta_rules ranks r shape most (full r) = full_in r (omega arith) in
      let next : InRound delta_rules ranks (suc r) shape most (end_all delta_rules (full r)) = next_in r (omega arith) in
      let round : Offers es (light_sent width b (stage r)) (calmed_stage width b (stage r)) (stage (suc r)) =
      light_round es m.rows width ranks r (suc r) b (full r) shape most some (graph_edges m g) now next h.static h.bucket low becomes in
      let open' : (v : ℕ) → opened (open_of ranks (full r)) width b (stage r) v ≡ open_of ranks (full (suc r)) v =
      light_open es m.rows width ranks r (suc r) b (full r) shape most some (graph_edges m g) now next h.static h.bucket low becomes in
      let lit : Lit es width b (suc k) (stage r0) (stage (suc r)) = lit_more es source width b top (open_of ranks (full r)) (stage r0) (stage r) (stage (suc r)) positive h.owes h.within round k h.lit in
      record {
        in_bucket =
            record {
              static = light_static es m.rows width ranks r (suc r) b (full r) shape most some (graph_edges m g) now next h.static h.bucket low becomes;
              bucket = light_bucket es m.rows width ranks r (suc r) b (full r) shape most some (graph_edges m g) now next h.static h.bucket low becomes;
              owes =
                  owes_open es source width (opened (open_of ranks (full r)) width b (stage r)) (open_of ranks (full (suc r))) (stage (suc r)) open'
                  (light_owes es source width b (open_of ranks (full r)) (stage r) (stage (suc r)) h.owes round);
              weighed = offers_weighed es (light_sent width b (stage r)) (calmed_stage width b (stage r)) (stage (suc r)) round (calmed_weighed width b (stage r) h.weighed);
              within =
                  within_open width b top (opened (open_of ranks (full r)) width b (stage r)) (open_of ranks (full (suc r))) (stage (suc r)) open'
                  (light_within es width b top (open_of ranks (full r)) (stage r) (stage (suc r)) positive room h.within round);
              lit = lit;
              falls = λ v n a. offers_fall es (light_sent width b (stage r)) (calmed_stage width b (stage r)) (stage (suc r)) round v n (h.falls v n a);
              quiet = one_later r h.quiet voting;
            };
        phase = light_phase es m.rows width ranks r (suc r) b (full r) shape most some (graph_edges m g) now next h.static h.bucket low becomes;
        late = λ l.
            lit_ends es source width b top (open_of ranks (full r)) (stage r0) (stage r) (stage (suc r)) positive h.owes h.within round m.rows k (graph_edges m g).from (graph_edges m g).to h.lit lit l;
      }

  -- the active vertices of a rank are those that it counts
  counted : (r b j : ℕ) (s : DeltaState) → Static es m.rows width ranks (full r) → slice_get (full r) j ≡ Some s → s.bucket ≡ b → (v : ℕ) → v % ranks ≡ j
      → active width b (stage r) v ≡ ((get_or s.vertices (v / ranks) unreached_vertex).improved && in_bucket s.width s.bucket (get_or s.vertices (v / ranks) unreached_vertex))
  counted r b j s static at is v own =
      ap (λ (w : Vertex). w.improved && weight_in width b w.weight) (at_vertex ranks (full r) j s v at own)
      ∙ ap (λ w. (get_or s.vertices (v / ranks) unreached_vertex).improved && weight_in w b (get_or s.vertices (v / ranks) unreached_vertex).weight) (sym (static.wide j s at))
      ∙ ap (λ k. (get_or s.vertices (v / ranks) unreached_vertex).improved && weight_in s.width k (get_or s.vertices (v / ranks) unreached_vertex).weight) (sym is)

  -- few votes: none is active
  none_active : (r0 r k b top : ℕ) → r < 2 ^ 62 → AfterLight r0 r k b top → votes r ≤ ranks → (v : ℕ) → active width b (stage r) v ≡ false
  none_active r0 r k b top small h low v =
      let all : InRound delta_rules ranks r shape most (full r) = full_in r (omega arith) in
      let j : ℕ = v % ranks in
      let s = find (full r) j (subst (λ n. j < n) (sym all.size) (mod-lt v some)) in
      let vote : delta_rules.vote s.0 ≡ 1 + length (places_where (in_bucket s.0.width s.0.bucket) s.0.vertices) = light_vote s.0 (h.phase j s.0 s.1) in
      let more : length (full r) + delta_rules.vote s.0 ≤ sum_by delta_rules.vote (full r) + 1 =
      sum_more delta_rules.vote (full r) j s.0 (all_from_gets (λ t. 1 ≤ delta_rules.vote t) (full r) (λ i t at. (let o : delta_rules.vote t ≡ 1 + length (places_where (in_bucket t.width t.bucket) t.vertices) = light_vote t (h.phase i t at) in omega arith))) s.1 in
      let size : length (full r) ≡ ranks = all.size in
      let total : min (sum_by delta_rules.vote (full r)) (2 ^ 64 - 1) ≤ ranks = low in
      let empty : length (places_where (in_bucket s.0.width s.0.bucket) s.0.vertices) ≡ 0 = omega arith in
      elim (cases_Bool (active width b (stage r) v)) [
        | inr off ↦ off
        | inl on ↦
            (let here = has_pick (in_bucket s.0.width s.0.bucket) s.0.vertices (v / ranks) (sym (counted r b j s.0 h.in_bucket.static s.1 (h.in_bucket.bucket j s.0 s.1) v refl) ∙ on) in
            absurd (let l : here.0 < length (places_where (in_bucket s.0.width s.0.bucket) s.0.vertices) = here.1 in omega arith))
      ]

  -- none active: few votes
  votes_low : (r0 r k b top : ℕ) → r < 2 ^ 62 → AfterLight r0 r k b top → ((v : ℕ) → active width b (stage r) v ≡ false) → votes r ≤ ranks
  votes_low r0 r k b top small h none =
      let all : InRound delta_rules ranks r shape most (full r) = full_in r (omega arith) in
      let each : All (λ s. delta_rules.vote s ≤ 1) (full r) =
      all_from_gets (λ s. delta_rules.vote s ≤ 1) (full r) (λ j s at.
      let low : j < ranks = subst (λ n. j < n) all.size (within (full r) j s at) in
      let vote : delta_rules.vote s ≡ 1 + length (places_where (in_bucket s.width s.bucket) s.vertices) = light_vote s (h.phase j s at) in
      let empty : length (places_where (in_bucket s.width s.bucket) s.vertices) ≡ 0 = no_picks j s at low (places_where (in_bucket s.width s.bucket) s.vertices) refl in
      omega arith) in
      let sum : sum_by delta_rules.vote (full r) ≤ length (full r) * 1 = sum_by-le delta_rules.vote 1 (full r) each in
      let size : length (full r) ≡ ranks = all.size in
      let total : votes r ≡ min (sum_by delta_rules.vote (full r)) (2 ^ 64 - 1) = refl in
      omega arith
    where
      no_picks : (j : ℕ) (s : DeltaState) → slice_get (full r) j ≡ Some s → j < ranks → (ps : List ℕ) → places_where (in_bucket s.width s.bucket) s.vertices ≡ ps → length ps ≡ 0
      no_picks j s at low [] e = refl
      no_picks j s at low (p ∷ ps) e =
          let on : ((get_or s.vertices p unreached_vertex).improved && in_bucket s.width s.bucket (get_or s.vertices p unreached_vertex)) ≡ true =
          was_pick (in_bucket s.width s.bucket) s.vertices p (subst (λ qs. Contains qs p) (sym e) (has_head p ps)) in
          let v : ℕ = p * ranks + j in
          let is : active width b (stage r) v ≡ true =
          counted r b j s h.in_bucket.static at (h.in_bucket.bucket j s at) v (mod-mul-add p ranks j low)
          ∙ ap (λ q. (get_or s.vertices q unreached_vertex).improved && in_bucket s.width s.bucket (get_or s.vertices q unreached_vertex)) (div-mul-add p ranks j low) ∙ on in
          absurd (false≢true (sym (none v) ∙ is))

  light_voted : (r0 r k b top : ℕ) → r < 2 ^ 62 → AfterLight r0 r k b top → votes r ≢ 0
  light_voted r0 r k b top small h =
      voted r (omega arith) (λ j s at. (let vote : delta_rules.vote s ≡ 1 + length (places_where (in_bucket s.width s.bucket) s.vertices) = light_vote s (h.phase j s at) in omega arith))

  -- the last light round
  record LastLight (r0 b top limit : ℕ) : Type 0 where
    pub r : ℕ
    pub k : ℕ
    pub by : r ≤ limit
    pub after : AfterLight r0 r k b top
    pub none : (v : ℕ) → active width b (stage r) v ≡ false

  lights_end : (q r0 r k b top : ℕ) → r + q < 2 ^ 62 → k + q ≡ m.rows → b * width + width + width ≤ top → top ≤ 2 ^ 60 → AfterLight r0 r k b top → LastLight r0 b top (r + q)
  lights_end zero r0 r k b top small e room fits h = record { r = r; k = k; by = omega arith; after = h; none = h.late (omega arith) }
  lights_end (suc q) r0 r k b top small e room fits h =
      elim (cases_Bool (nat_lt ranks (votes r))) [
        | inr few' ↦ record { r = r; k = k; by = omega arith; after = h; none = none_active r0 r k b top (omega arith) h (ltb-false ranks (votes r) few') }
        | inl more ↦
            let step : AfterLight r0 (suc r) (suc k) b top =
            light_step r0 r k b top (omega arith) room fits h.in_bucket (light_voted r0 r k b top (omega arith) h)
            (λ j s at. ap (λ p. ended_in p s (votes r)) (h.phase j s at)
            ∙ ap (λ n. cond (nat_lt n (votes r)) (after_activation s) (after_last_round s)) ((full_in r (omega arith)).each j s at).all_ranks ∙ ap (λ t. cond t (after_activation s) (after_last_round s)) more) in
            let rest : LastLight r0 b top (suc r + q) = lights_end q r0 (suc r) (suc k) b top (omega arith) (omega arith) room fits step in
            record { r = rest.r; k = rest.k; by = (let l : rest.r ≤ suc r + q = rest.by in omega arith); after = rest.after; none = rest.none }
      ]

  -- ---- Find rounds

  pub record AtFind (r F floor : ℕ) : Type 0 where
    pub static : Static es m.rows width ranks (full r)
    pub phase : (j : ℕ) (s : DeltaState) → slice_get (full r) j ≡ Some s → s.phase ≡ Find
    pub b : ℕ
    pub bucket : (j : ℕ) (s : DeltaState) → slice_get (full r) j ≡ Some s → s.bucket ≡ b
    pub owes : Owes es source width none_open (stage r)
    pub weighed : Weighed (stage r)
    pub beyond : Beyond width floor (F * RISE) (stage r)
    pub b_floor : (v k : ℕ) → (stage r).fresh v ≡ true → (stage r).found v ≡ Some k → b * width ≤ k
    pub b_reached : (v k : ℕ) → (stage r).fresh v ≡ true → (stage r).found v ≡ Some k → (u : ℕ) × (active width b (stage r) u ≡ true)
    pub closed : (v : ℕ) → open_of ranks (full r) v ≡ false
    pub room : left_count m.rows (floor * width) (stage r).found + F ≤ m.rows
    pub quiet : (j : ℕ) → j < r → votes j ≢ 0

  find_at : (r F floor : ℕ) → r < 2 ^ 62 → Static es m.rows width ranks (end_all delta_rules (full r))
      → ((j : ℕ) (t : DeltaState) → slice_get (end_all delta_rules (full r)) j ≡ Some t → IsFinding width t)
      → ((v : ℕ) → (stage_of ranks (end_all delta_rules (full r))).found v ≡ (stage r).found v) → ((v : ℕ) → (stage_of ranks (end_all delta_rules (full r))).fresh v ≡ (stage r).fresh v)
      → Owes es source width none_open (stage r) → Weighed (stage r) → Beyond width floor (F * RISE) (stage r) → F * RISE ≤ 2 ^ 60
      → left_count m.rows (floor * width) (stage r).found + F ≤ m.rows → ((j : ℕ) → j < suc r → votes j ≢ 0) → AtFind (suc r) F floor
  find_at r F floor small static finds f g' owes weighed beyond top room quiet =
      let begun : List DeltaState = end_all delta_rules (full r) in
      let next : InRound delta_rules ranks (suc r) shape most begun = next_in r (omega arith) in
      let low : (v k : ℕ) → (stage_of ranks begun).found v ≡ Some k → k ≤ 2 ^ 60 = λ v k found. (let t : k ≤ F * RISE = beyond.below v k (sym (f v) ∙ found) in omega arith) in
      let weights : Weighed (stage_of ranks begun) = look_weighed (stage r) (stage_of ranks begun) f g' weighed in
      let found : (v : ℕ) → (stage (suc r)).found v ≡ (stage r).found v = λ v. find_found es m.rows width ranks (suc r) begun shape most some positive next static finds low weights v ∙ f v in
      let fresh : (v : ℕ) → (stage (suc r)).fresh v ≡ (stage r).fresh v = λ v. find_fresh es m.rows width ranks (suc r) begun shape most some positive next static finds low weights v ∙ g' v in
      record {
        static = find_static es m.rows width ranks (suc r) begun shape most some positive next static finds low weights;
        phase = find_phase es m.rows width ranks (suc r) begun shape most some positive next static finds low weights;
        b = found_bucket es m.rows width ranks (suc r) begun shape most some positive next static finds low weights;
        bucket = find_bucket es m.rows width ranks (suc r) begun shape most some positive next static finds low weights;
        owes = look_owes es source width none_open (stage r) (stage (suc r)) found fresh owes;
        weighed = look_weighed (stage r) (stage (suc r)) found fresh weighed;
        beyond = look_beyond width floor (F * RISE) (stage r) (stage (suc r)) found fresh beyond;
        b_floor = λ v k pending at. bucket_floor es m.rows width ranks (suc r) begun shape most some positive next static finds low weights v k (g' v ∙ sym (fresh v) ∙ pending) (f v ∙ sym (found v) ∙ at);
        b_reached = λ v k pending at.
            (let u = bucket_reached es m.rows width ranks (suc r) begun shape most some positive next static finds low weights v k (g' v ∙ sym (fresh v) ∙ pending) (f v ∙ sym (found v) ∙ at) in (
              u.0,
              look_active width (found_bucket es m.rows width ranks (suc r) begun shape most some positive next static finds low weights) (stage_of ranks begun) (stage (suc r))
                  (λ v. found v ∙ sym (f v)) (λ v. fresh v ∙ sym (g' v)) u.0 u.1,
            ));
        closed = find_open es m.rows width ranks (suc r) begun shape most some positive next static finds low weights;
        room = subst (λ k. k + F ≤ m.rows) (sym (count_same (stage (suc r)).found (stage r).found found)) room;
        quiet = quiet;
      }
    where
      count_same : (a c : ℕ → Option ℕ) → ((v : ℕ) → a v ≡ c v) → left_count m.rows (floor * width) a ≡ left_count m.rows (floor * width) c
      count_same a c same = total_same m.rows (λ v. later_one (floor * width) (a v)) (λ v. later_one (floor * width) (c v)) (λ v l. ap (later_one (floor * width)) (same v))

  -- no votes in a find round: nothing is pending
  none_pending : (r F floor : ℕ) → r < 2 ^ 62 → AtFind r F floor → votes r ≡ 0 → (v : ℕ) → (stage r).fresh v ≡ false
  none_pending r F floor small h none v =
      let all : InRound delta_rules ranks r shape most (full r) = full_in r (omega arith) in
      let j : ℕ = v % ranks in
      let s = find (full r) j (subst (λ n. j < n) (sym all.size) (mod-lt v some)) in
      let vote : delta_rules.vote s.0 ≡ length (marked_places s.0.vertices) = ap (λ p. vote_in p s.0) (h.phase j s.0 s.1) in
      let total : sum_by delta_rules.vote (full r) ≡ 0 = (let t : min (sum_by delta_rules.vote (full r)) (2 ^ 64 - 1) ≡ 0 = none in omega arith) in
      let one : delta_rules.vote (get_or (full r) j s.0) ≤ sum_by delta_rules.vote (full r) = get_or-le-sum_by delta_rules.vote (full r) j s.0 (within (full r) j s.0 s.1) in
      let mine : delta_rules.vote s.0 ≤ sum_by delta_rules.vote (full r) = subst (λ t. delta_rules.vote t ≤ sum_by delta_rules.vote (full r)) (get_or_from_slice_get (full r) j s.0 s.0 s.1) one in
      ap (λ (w : Vertex). w.improved) (at_vertex ranks (full r) j s.0 v s.1 refl) ∙ none_improved 0 s.0.vertices (omega arith) (v / ranks)

  -- votes in one: a vertex is pending
  some_pending : (r F floor : ℕ) → r < 2 ^ 62 → AtFind r F floor → votes r ≢ 0 → (v : ℕ) × ((stage r).fresh v ≡ true)
  some_pending r F floor small h more =
      let all : InRound delta_rules ranks r shape most (full r) = full_in r (omega arith) in
      let total : 0 < sum_by delta_rules.vote (full r) = elim (cases_lt 0 (sum_by delta_rules.vote (full r))) [
        | inl l ↦ l
        | inr z ↦ absurd (more (let e : min (sum_by delta_rules.vote (full r)) (2 ^ 64 - 1) ≡ 0 = omega arith in e))
      ] in
      let s = sum_some delta_rules.vote (full r) total in
      let low : s.0 < ranks = subst (λ n. s.0 < n) all.size (within (full r) s.0 s.1 s.2) in
      let vote : delta_rules.vote s.1 ≡ length (marked_places s.1.vertices) = ap (λ p. vote_in p s.1) (h.phase s.0 s.1 s.2) in
      let voting : 0 < delta_rules.vote s.1 = s.3 in
      one_of s.0 s.1 s.2 low (marked_places s.1.vertices) refl (omega arith)
    where
      one_of : (j : ℕ) (s : DeltaState) → slice_get (full r) j ≡ Some s → j < ranks → (ps : List ℕ) → marked_places s.vertices ≡ ps → 0 < length ps → (v : ℕ) × ((stage r).fresh v ≡ true)
      one_of j s at low [] e l = absurd (omega arith)
      one_of j s at low (p ∷ ps) e l =
          let q = was_marked 0 s.vertices p (subst (λ qs. Contains qs p) (sym e) (has_head p ps)) in (
            q.0 * ranks + j,
            ap (λ (w : Vertex). w.improved) (at_vertex ranks (full r) j s (q.0 * ranks + j) at (mod-mul-add q.0 ranks j low))
                ∙ ap (λ k. (get_or s.vertices k unreached_vertex).improved) (div-mul-add q.0 ranks j low) ∙ q.3,
          )

  -- ---- From one find round to the next

  heavy_voted : (r : ℕ) → r < 2 ^ 62 → ((j : ℕ) (s : DeltaState) → slice_get (full r) j ≡ Some s → s.phase ≡ Heavy) → votes r ≢ 0
  heavy_voted r small phase = voted r (omega arith) (λ j s at. (let one : delta_rules.vote s ≡ 1 = ap (λ p. vote_in p s) (phase j s at) in omega arith))

  -- a find round after one that left these vertices
  pub find_after : (r F floor : ℕ) → r < 2 ^ 62
      → ((j : ℕ) (s : DeltaState) → slice_get (full r) j ≡ Some s → IsFinding width (delta_rules.ended s (votes r)) × ((delta_rules.ended s (votes r)).vertices ≡ s.vertices))
      → Static es m.rows width ranks (end_all delta_rules (full r))
      → Owes es source width none_open (stage r) → Weighed (stage r) → Beyond width floor (F * RISE) (stage r) → F * RISE ≤ 2 ^ 60
      → left_count m.rows (floor * width) (stage r).found + F ≤ m.rows → ((j : ℕ) → j < suc r → votes j ≢ 0) → AtFind (suc r) F floor
  find_after r F floor small facts static owes weighed beyond top room quiet =
      find_at r F floor small static
      (λ j t at. (let s = got_map (λ s. delta_rules.ended s (votes r)) (full r) j t at in subst (IsFinding width) s.2 (facts j s.0 s.1).0))
      (λ v. ap (λ (w : Vertex). w.weight) (same v)) (λ v. ap (λ (w : Vertex). w.improved) (same v)) owes weighed beyond top room quiet
    where
      same : (v : ℕ) → vertex_at ranks (end_all delta_rules (full r)) v ≡ vertex_at ranks (full r) v
      same v =
          let all : InRound delta_rules ranks r shape most (full r) = full_in r (omega arith) in
          let j : ℕ = v % ranks in
          let s = find (full r) j (subst (λ n. j < n) (sym all.size) (mod-lt v some)) in
          at_vertex ranks (end_all delta_rules (full r)) j (delta_rules.ended s.0 (votes r)) v (get_map (λ s. delta_rules.ended s (votes r)) (full r) j s.0 s.1) refl
          ∙ ap (λ vs. get_or vs (v / ranks) unreached_vertex) (facts j s.0 s.1).1
          ∙ sym (at_vertex ranks (full r) j s.0 v s.1 refl)

  -- what does not change as a round ends
  begun_static : (r : ℕ) → Static es m.rows width ranks (full r)
      → ((j : ℕ) (s : DeltaState) → slice_get (full r) j ≡ Some s → delta_rules.ended s (votes r) ≡ finding s) → Static es m.rows width ranks (end_all delta_rules (full r))
  begun_static r static becomes =
      record {
        size = λ j t at. (let s = was j t at in ap (λ (u : DeltaState). u.rows) s.2 ∙ static.size j s.0 s.1);
        wide = λ j t at. (let s = was j t at in ap (λ (u : DeltaState). u.width) s.2 ∙ static.wide j s.0 s.1);
        light = λ j t at. (let s = was j t at in subst (λ (u : DeltaState). Keeps es ranks j (is_light width) u.light) (sym s.2) (static.light j s.0 s.1));
        heavy = λ j t at. (let s = was j t at in subst (λ (u : DeltaState). Keeps es ranks j (λ e. not (is_light width e)) u.heavy) (sym s.2) (static.heavy j s.0 s.1));
      }
    where
      was : (j : ℕ) (t : DeltaState) → slice_get (end_all delta_rules (full r)) j ≡ Some t → (s : DeltaState) × (slice_get (full r) j ≡ Some s) × (t ≡ finding s)
      was j t at = (let s = got_map (λ s. delta_rules.ended s (votes r)) (full r) j t at in (s.0, s.1, sym s.2 ∙ becomes j s.0 s.1))

  after_heavy : (r F floor : ℕ) → r < 2 ^ 62 → Static es m.rows width ranks (full r) → ((j : ℕ) (s : DeltaState) → slice_get (full r) j ≡ Some s → s.phase ≡ Heavy)
      → Owes es source width none_open (stage r) → Weighed (stage r) → Beyond width floor (F * RISE) (stage r) → F * RISE ≤ 2 ^ 60
      → left_count m.rows (floor * width) (stage r).found + F ≤ m.rows → ((j : ℕ) → j < suc r → votes j ≢ 0) → AtFind (suc r) F floor
  after_heavy r F floor small static phase owes weighed beyond top room quiet =
      find_after r F floor small
      (λ j s at. (subst (IsFinding width) (sym (becomes j s at)) (record { phase = refl; none = refl; unsettled = refl; wide = static.wide j s at; outgoing = refl }), ap (λ (u : DeltaState). u.vertices) (becomes j s at)))
      (begun_static r static becomes) owes weighed beyond top room quiet
    where
      becomes : (j : ℕ) (s : DeltaState) → slice_get (full r) j ≡ Some s → delta_rules.ended s (votes r) ≡ finding s
      becomes j s at = ap (λ p. ended_in p s (votes r)) (phase j s at)

  -- the next find round, one bucket on
  record NextFind (F limit : ℕ) : Type 0 where
    pub at : ℕ
    pub by : at ≤ limit
    pub up : ℕ
    pub found : AtFind at (suc F) up

  module _ (r F floor u : ℕ) (small : r + m.rows + 3 < 2 ^ 62) (h : AtFind r F floor) (more : votes r ≢ 0) (on : active width h.b (stage r) u ≡ true) where
    abbrev top : ℕ
    top = suc F * RISE

    weight_of_u : (k : ℕ) × ((stage r).found u ≡ Some k)
    weight_of_u = h.weighed u (and_parts ((stage r).fresh u) (weight_in width h.b ((stage r).found u)) on).0

    u_in : (h.b * width ≤ weight_of_u.0) × (weight_of_u.0 < h.b * width + width)
    u_in = bucket_low width h.b weight_of_u.0 positive (ap (weight_in width h.b) (sym weight_of_u.1) ∙ (and_parts ((stage r).fresh u) (weight_in width h.b ((stage r).found u)) on).1)

    room_low : h.b * width ≤ F * RISE
    room_low = (let low : h.b * width ≤ weight_of_u.0 = u_in.0 in let high : weight_of_u.0 ≤ F * RISE = h.beyond.below u weight_of_u.0 weight_of_u.1 in omega arith)

    top_is : suc F * RISE ≡ F * RISE + RISE
    top_is = grind arith

    begins : InBucket r r 0 h.b top
    begins =
        let within : Within width h.b top (open_of ranks (full r)) (stage r) =
        record {
          floor = h.b_floor;
          open_in = λ v k o found. absurd (false≢true (sym (h.closed v) ∙ o));
          below = λ v k found. (let b : k ≤ F * RISE = h.beyond.below v k found in let e : suc F * RISE ≡ F * RISE + RISE = top_is in omega arith);
          open_found = λ v o. absurd (false≢true (sym (h.closed v) ∙ o));
        } in
        record {
          static = h.static;
          bucket = h.bucket;
          owes = owes_open es source width none_open (open_of ranks (full r)) (stage r) (λ v. sym (h.closed v)) h.owes;
          weighed = h.weighed;
          within = within;
          lit = lit_begins es width h.b top (open_of ranks (full r)) (stage r) within;
          falls = λ v n a. a;
          quiet = h.quiet;
        }

    F_low : suc F ≤ m.rows
    F_low =
        let total : left_count m.rows (floor * width) (stage r).found + F ≤ m.rows = h.room in
        let some_left : 0 < left_count m.rows (floor * width) (stage r).found =
        (let k : later_one (floor * width) ((stage r).found u) ≡ 1 =
        ap (later_one (floor * width)) weight_of_u.1 ∙ ap (λ (b : Bool). cond {A = ℕ} b 1 0) (le-leb (floor * width) weight_of_u.0 (h.beyond.floor u weight_of_u.0 (and_parts ((stage r).fresh u) (weight_in width h.b ((stage r).found u)) on).0 weight_of_u.1)) in
        let part : later_one (floor * width) ((stage r).found u) ≤ left_count m.rows (floor * width) (stage r).found = total_part m.rows (λ v. later_one (floor * width) ((stage r).found v)) u u_inside in
        omega arith) in
        omega arith
      where
        u_inside : u < m.rows
        u_inside =
            let w = h.owes.walked u weight_of_u.0 weight_of_u.1 in
            walk_inside es m.rows (graph_edges m g).to w.0 source u w.1 source_in

    u_low : u < m.rows
    u_low =
        let w = h.owes.walked u weight_of_u.0 weight_of_u.1 in
        walk_inside es m.rows (graph_edges m g).to w.0 source u w.1 source_in

    top_fits : top ≤ 2 ^ 60
    top_fits =
        let n : suc F ≤ m.rows = F_low in
        let tall : m.rows ≤ 16384 = g.matrix.tall in
        omega arith

    first_light : AfterLight r (suc r) 1 h.b top
    first_light =
        light_step r r 0 h.b top (omega arith) (let low : h.b * width ≤ F * RISE = room_low in let e : suc F * RISE ≡ F * RISE + RISE = top_is in omega arith) top_fits begins more
        (λ j s at. ap (λ p. ended_in p s (votes r)) (h.phase j s at))

    last_light : LastLight r h.b top (suc r + (m.rows - 1))
    last_light =
        lights_end (m.rows - 1) r (suc r) 1 h.b top (omega arith) (omega arith) (let low : h.b * width ≤ F * RISE = room_low in let e : suc F * RISE ≡ F * RISE + RISE = top_is in omega arith) top_fits first_light

    next_find : NextFind F (r + m.rows + 2)
    next_find =
        let last : LastLight r h.b top (suc r + (m.rows - 1)) = last_light in
        let q : ℕ = last.r in
        let by : q ≤ suc r + (m.rows - 1) = last.by in
        let small_q : q < 2 ^ 62 = omega arith in
        let inside : InBucket r q last.k h.b top = last.after.in_bucket in
        let low : (v k : ℕ) → (stage q).found v ≡ Some k → k ≤ 2 ^ 60 = λ v k found. (let t : k ≤ top = inside.within.below v k found in let f : top ≤ 2 ^ 60 = top_fits in omega arith) in
        let now : InRound delta_rules ranks q shape most (full q) = full_in q (omega arith) in
        let next : InRound delta_rules ranks (suc q) shape most (end_all delta_rules (full q)) = next_in q (omega arith) in
        let fewer : votes q ≤ ranks = votes_low r q last.k h.b top small_q last.after last.none in
        let becomes : (j : ℕ) (s : DeltaState) → slice_get (full q) j ≡ Some s → delta_rules.ended s (votes q) ≡ after_last_round s =
        λ j s at. ap (λ p. ended_in p s (votes q)) (last.after.phase j s at) ∙ ap (λ n. cond (nat_lt n (votes q)) (after_activation s) (after_last_round s)) (now.each j s at).all_ranks ∙ ap (λ t. cond t (after_activation s) (after_last_round s)) (le-ltb ranks (votes q) fewer) in
        let round : Offers es (heavy_sent width (open_of ranks (full q))) (stage q) (stage (suc q)) =
        heavy_round es m.rows width ranks q (suc q) (full q) shape most some (graph_edges m g) now next inside.static low becomes in
        let static : Static es m.rows width ranks (full (suc q)) = heavy_static es m.rows width ranks q (suc q) (full q) shape most some (graph_edges m g) now next inside.static low becomes in
        let phase : (j : ℕ) (s : DeltaState) → slice_get (full (suc q)) j ≡ Some s → s.phase ≡ Heavy = heavy_phase es m.rows width ranks q (suc q) (full q) shape most some (graph_edges m g) now next inside.static low becomes in
        let beyond : Beyond width (suc h.b) top (stage (suc q)) =
        heavy_beyond es width h.b top 1_000_000_000_000 (open_of ranks (full q)) (stage q) (stage (suc q)) positive (graph_edges m g).light
        (let l : h.b * width ≤ F * RISE = room_low in let e : suc F * RISE ≡ F * RISE + RISE = top_is in omega arith) inside.within last.none round in
        let owes : Owes es source width none_open (stage (suc q)) = heavy_owes es source width (open_of ranks (full q)) (stage q) (stage (suc q)) inside.owes round in
        let weighed : Weighed (stage (suc q)) = offers_weighed es (heavy_sent width (open_of ranks (full q))) (stage q) (stage (suc q)) round inside.weighed in
        let falls : (v n : ℕ) → AtMost ((stage r).found v) n → AtMost ((stage (suc q)).found v) n = λ v n a. offers_fall es (heavy_sent width (open_of ranks (full q))) (stage q) (stage (suc q)) round v n (inside.falls v n a) in
        let from : floor * width ≤ weight_of_u.0 = h.beyond.floor u weight_of_u.0 (and_parts ((stage r).fresh u) (weight_in width h.b ((stage r).found u)) on).0 weight_of_u.1 in
        let high : weight_of_u.0 < h.b * width + width = u_in.1 in
        let next_low : suc h.b * width ≡ h.b * width + width = grind arith in
        let less : left_count m.rows (suc h.b * width) (stage (suc q)).found < left_count m.rows (floor * width) (stage r).found =
        fewer_left m.rows (floor * width) (suc h.b * width) u weight_of_u.0 (stage r).found (stage (suc q)).found (omega arith) falls u_low weight_of_u.1 from (omega arith) in
        let room : left_count m.rows (suc h.b * width) (stage (suc q)).found + suc F ≤ m.rows = (let old : left_count m.rows (floor * width) (stage r).found + F ≤ m.rows = h.room in omega arith) in
        record {
          at = suc (suc q);
          by = omega arith;
          up = suc h.b;
          found =
              after_heavy (suc q) (suc F) (suc h.b) (omega arith) static phase owes weighed beyond top_fits room
              (one_later (suc q) (one_later q inside.quiet (light_voted r q last.k h.b top small_q last.after)) (heavy_voted (suc q) (omega arith) phase));
        }

  -- ---- The end

  -- the run's last round
  pub record Over : Type 0 where
    pub last : ℕ
    pub few_rounds : last ≤ m.rows * (m.rows + 2) + 1
    pub none : votes last ≡ 0
    pub quiet : (j : ℕ) → j < last → votes j ≢ 0
    pub size : (r : ℕ) (s : DeltaState) → slice_get (full last) r ≡ Some s → s.rows ≡ m.rows
    pub phase : (r : ℕ) (s : DeltaState) → slice_get (full last) r ≡ Some s → s.phase ≡ Find
    pub least : (v : ℕ) → IsLeast es source v ((stage last).found v)

  over_at : (r F floor : ℕ) → r < 2 ^ 62 → r ≤ m.rows * (m.rows + 2) + 1 → AtFind r F floor → votes r ≡ 0 → Over
  over_at r F floor small few_rounds h none =
      record {
        last = r;
        few_rounds = few_rounds;
        none = none;
        quiet = h.quiet;
        size = h.static.size;
        phase = h.phase;
        least =
            least_at es source (stage r).found
            (λ e has k found. elim (h.owes.owed e has k found) [
              | inl relaxed ↦ relaxed
              | inr (inl pending) ↦ absurd (false≢true (sym (none_pending r F floor small h none e.i) ∙ pending))
              | inr (inr late) ↦ absurd (false≢true late.0)
            ])
            h.owes.walked h.owes.start;
      }

  rounds_low : m.rows * (m.rows + 2) ≤ 16384 * 16386
  rounds_low = (let tall : m.rows ≤ 16384 = g.matrix.tall in mul-le-mul tall (let k : m.rows + 2 ≤ 16386 = omega arith in k))

  small_round : (r F : ℕ) → F ≤ m.rows → r ≤ F * (m.rows + 2) + 1 → (r + m.rows + 3 < 2 ^ 62) × (r ≤ m.rows * (m.rows + 2) + 1)
  small_round r F le by =
      let bound : F * (m.rows + 2) ≤ m.rows * (m.rows + 2) = mul-le-mul_right (m.rows + 2) le in
      let low : m.rows * (m.rows + 2) ≤ 16384 * 16386 = rounds_low in
      let tall : m.rows ≤ 16384 = g.matrix.tall in
      ((let a : r + m.rows + 3 < 2 ^ 62 = omega arith in a), (let b : r ≤ m.rows * (m.rows + 2) + 1 = omega arith in b))

  -- a vertex of the bucket
  picked_vertex : (r F floor : ℕ) → r < 2 ^ 62 → (h : AtFind r F floor) → votes r ≢ 0 → (u : ℕ) × (active width h.b (stage r) u ≡ true)
  picked_vertex r F floor small h more =
      let v = some_pending r F floor small h more in
      let k = h.weighed v.0 v.1 in
      h.b_reached v.0 k.0 v.1 k.1

  pub buckets_end : (q r F floor : ℕ) → F + q ≡ m.rows → r ≤ F * (m.rows + 2) + 1 → AtFind r F floor → Over
  buckets_end zero r F floor e by h =
      let small = small_round r F (omega arith) by in
      let low : r + m.rows + 3 < 2 ^ 62 = small.0 in
      elim (cases_eq (votes r) 0) [
        | inl none ↦ over_at r F floor (omega arith) small.1 h none
        | inr more ↦
            let u = picked_vertex r F floor (omega arith) h more in
            absurd (let l : suc F ≤ m.rows = F_low r F floor u.0 low h more u.1 in omega arith)
      ]
  buckets_end (suc q) r F floor e by h =
      let small = small_round r F (omega arith) by in
      let low : r + m.rows + 3 < 2 ^ 62 = small.0 in
      elim (cases_eq (votes r) 0) [
        | inl none ↦ over_at r F floor (omega arith) small.1 h none
        | inr more ↦
            let u = picked_vertex r F floor (omega arith) h more in
            let n : NextFind F (r + m.rows + 2) = next_find r F floor u.0 low h more u.1 in
            let next : n.at ≤ r + m.rows + 2 = n.by in
            let one : suc F * (m.rows + 2) ≡ F * (m.rows + 2) + (m.rows + 2) = grind arith in
            buckets_end q n.at (suc F) n.up (omega arith) (omega arith) n.found
      ]
