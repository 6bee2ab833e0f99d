-- Each round of delta-stepping, as a step over the whole graph and as what each rank sends.
use Rattle.std.proofs.Common.{◌≡◌, ◌≢◌, ℕ, suc, ◌+◌, ◌-◌, ◌*◌, ◌/◌, ◌%◌, ◌^◌, ◌<◌, ◌≤◌, ◌&&◌, not, Bool, true, false, eqb, List, [], ◌∷◌, Option, Some, None, length, map, get_or, slice_get, All, arith, inl, inr, refl, sym, ap, ◌∙◌, subst}
use Rattle.std.specs.List.{filter, fold, list_any, range_with_len}
use Rattle.std.proofs.Math.Nat.{mod-lt}
use Rattle.std.proofs.lemmas.Bool.{and_parts, or_cases, false≢true}
use Rattle.std.proofs.lemmas.Nat.{div-mul-add, mod-mul-add}
use Rattle.std.proofs.lemmas.List.Elements.{All-contains, filter_agree}
use Rattle.std.proofs.lemmas.List.Sorted.{All-permutation}
use Rattle.bale_items.specs.declared.Item.{Item}
use Rattle.bale_items.specs.declared.triple.Triple.{Triple}
use Rattle.list_laws.proofs.Lists.{find, within, get_map, got_map}
use Rattle.list_laws.proofs.Sums.{total_same}
use Rattle.mtx_text.specs.Sparse.{Sparse}
use Rattle.mtx_text.specs.Cells.{gathered_cells}
use Rattle.round_program.specs.Canonical.{end_all, vote_sum, InRound}
use Rattle.round_program.proofs.Members.{in_round}
use Rattle.sparse_rows.specs.Owners.{places_for}
use Rattle.sparse_rows.proofs.Deals.{filter_filter}
use Rattle.sparse_rows.proofs.Gathering.{gathered_dealt, gathered_moves}
use Rattle.least_walks.specs.declared.table.Edge.{Edge}
use Rattle.least_walks.specs.declared.vertices.Vertex.{Vertex}
use Rattle.least_walks.specs.Tables.{table_of, offers_by_place}
use Rattle.least_walks.specs.Vertices.{unreached_vertex, lesser, least_marked, marked_places, in_bucket, weight_in, places_where, calm_if}
use Rattle.least_walks.proofs.Marks.{picks_all}
use Rattle.app_sssp.specs.SsspRuns.{IsGraph}
use Rattle.app_sssp.proofs.Rounds.{Stage}
use Rattle.app_sssp.proofs.Begins.{graph_edges, own_edges}
use Rattle.delta_step.specs.declared.phase.Phase.{Phase}
use Rattle.delta_step.specs.declared.phase.Phase.TheVariants.{First, Find, Light, Heavy}
use Rattle.delta_step.specs.Deltas.{DeltaState, delta_rules, after_activation, after_last_round, ascending, announced_items, bucket_of}
use Rattle.delta_step.specs.laws.DeltaLaws.{delta_laws}
use Rattle.delta_step.specs.DeltaRuns.{delta_starts}
use Rattle.delta_step.proofs.Begins.{starts_in_round}
use Rattle.delta_step.proofs.Buckets.{Offers, active, calmed_stage, light_sent, heavy_sent, opened}
use Rattle.delta_step.proofs.FindRounds.{IsFinding, find_found, find_fresh, find_static, find_phase, find_bucket, find_open, find_was, found_bucket, bucket_floor, bucket_reached}
use Rattle.delta_step.proofs.HeavyRounds.{heavy_round, heavy_static, heavy_phase, heavy_was}
use Rattle.delta_step.proofs.Looks.{Weighed, offers_weighed, calmed_weighed, look_weighed, look_active}
use Rattle.delta_step.proofs.OfferRounds.{vertex_at, stage_of, at_vertex}
use Rattle.delta_step.proofs.Runs.{full, full_in}
use Rattle.delta_step.proofs.Transits.{Static, open_of, at_open, calm_at, calm_weight, light_round, light_open, light_static, light_phase, light_bucket, light_was}
use Rattle.round_tables.specs.Delta.{Look, is_light, is_active, some_active, Changes, least_pending, line_in}
use Rattle.round_tables.proofs.SsspLists.{in_range_list, marks_are, vertex_in, own_vertices as vertices_own, IsLight}
use Rattle.round_tables.proofs.DeltaLists.{any_there, fold_map, fold_on, offers_by_vertex, light_range, heavy_range}
use Rattle.round_tables.proofs.DeltaWeights.{LIMIT, one_found, reached, reached_most, Bounded, bounded_more, to_improves}

-- ---- Looks

abbrev phase_in : Option DeltaState → Phase
phase_in None = First
phase_in (Some s) = s.phase

abbrev bucket_in : Option DeltaState → ℕ
bucket_in None = 0
bucket_in (Some s) = s.bucket

module _ (ranks : ℕ) (m : Sparse) (source width : ℕ) (some : 0 < ranks) (few : ranks ≤ 64) (positive : 0 < width) (narrow : width ≤ 1_000_000_000_000) (g : IsGraph m) (source_in : source < m.rows) where
  abbrev pub starts : List DeltaState
  starts = delta_starts ranks m source width

  abbrev pub shape : List ℕ
  shape = m.rows ∷ []

  abbrev pub most : ℕ
  most = m.rows * (m.rows + 2) + 2

  -- all ranks as the absorbs of round n are over, and as the next round begins
  abbrev pub all : ℕ → List DeltaState
  all n = full ranks m source width some few positive narrow g source_in n

  abbrev pub begun : ℕ → List DeltaState
  begun n = end_all delta_rules (all n)

  abbrev pub stage : ℕ → Stage
  stage n = stage_of ranks (all n)

  abbrev pub look : ℕ → Look
  look n =
      record {
        phase = phase_in (slice_get (all n) 0);
        found = (stage n).found;
        pending = (stage n).fresh;
        settled = open_of ranks (all n);
        bucket = bucket_in (slice_get (all n) 0);
      }

  pub all_in : (n : ℕ) → n < 2 ^ 62 → InRound delta_rules ranks n shape most (all n)
  all_in n l = full_in ranks m source width some few positive narrow g source_in n (omega arith)

  next_in : (n : ℕ) → n < 2 ^ 62 → InRound delta_rules ranks (suc n) shape most (begun n)
  next_in n l = in_round delta_rules delta_laws ranks shape most starts (suc n) (starts_in_round ranks m source width positive narrow g.matrix g.square) (omega arith)

  pub rank_at : (n : ℕ) → n < 2 ^ 62 → (j : ℕ) → j < ranks → (s : DeltaState) × (slice_get (all n) j ≡ Some s)
  rank_at n l j low = find (all n) j (subst (λ k. j < k) (sym (all_in n l).size) low)

  pub low_rank : (n : ℕ) → n < 2 ^ 62 → (j : ℕ) (s : DeltaState) → slice_get (all n) j ≡ Some s → j < ranks
  low_rank n l j s at = subst (λ k. j < k) (all_in n l).size (within (all n) j s at)

  pub phase_is : (n : ℕ) → n < 2 ^ 62 → (p : Phase) → ((j : ℕ) (s : DeltaState) → slice_get (all n) j ≡ Some s → s.phase ≡ p) → (look n).phase ≡ p
  phase_is n l p h = (let s = rank_at n l 0 some in ap phase_in s.1 ∙ h 0 s.0 s.1)

  bucket_is : (n : ℕ) → n < 2 ^ 62 → (b : ℕ) → ((j : ℕ) (s : DeltaState) → slice_get (all n) j ≡ Some s → s.bucket ≡ b) → (look n).bucket ≡ b
  bucket_is n l b h = (let s = rank_at n l 0 some in ap bucket_in s.1 ∙ h 0 s.0 s.1)

  -- which each rank has
  each_phase : (n : ℕ) → n < 2 ^ 62 → (p : Phase) → ((j : ℕ) (s : DeltaState) → slice_get (all n) j ≡ Some s → s.phase ≡ p) → (j : ℕ) (s : DeltaState) → slice_get (all n) j ≡ Some s → s.phase ≡ (look n).phase
  each_phase n l p h j s at = h j s at ∙ sym (phase_is n l p h)

  each_bucket : (n : ℕ) → n < 2 ^ 62 → (b : ℕ) → ((j : ℕ) (s : DeltaState) → slice_get (all n) j ≡ Some s → s.bucket ≡ b) → (j : ℕ) (s : DeltaState) → slice_get (all n) j ≡ Some s → s.bucket ≡ (look n).bucket
  each_bucket n l b h j s at = h j s at ∙ sym (bucket_is n l b h)

  -- the edges of a rank
  abbrev pub light_of : ℕ → List (List Edge)
  light_of j = table_of ranks (places_for ranks m.rows) 0 width (gathered_cells (own_edges ranks j m.entries))

  abbrev pub heavy_of : ℕ → List (List Edge)
  heavy_of j = table_of ranks (places_for ranks m.rows) (width + 1) (2 ^ 64 - 1) (gathered_cells (own_edges ranks j m.entries))

  -- what is known as round n is over, of any after the first
  pub record Known (n : ℕ) : Type 0 where
    pub phase : (j : ℕ) (s : DeltaState) → slice_get (all n) j ≡ Some s → s.phase ≡ (look n).phase
    pub bucket : (j : ℕ) (s : DeltaState) → slice_get (all n) j ≡ Some s → s.bucket ≡ (look n).bucket
    pub later : (look n).phase ≢ First
    pub static : Static m.entries m.rows width ranks (all n)
    pub light : (j : ℕ) (s : DeltaState) → slice_get (all n) j ≡ Some s → s.light ≡ light_of j
    pub heavy : (j : ℕ) (s : DeltaState) → slice_get (all n) j ≡ Some s → s.heavy ≡ heavy_of j
    pub weighed : Weighed (stage n)
    pub bound : Bounded m.rows (stage n).found
    pub inside : (v k : ℕ) → (stage n).found v ≡ Some k → v < m.rows
    pub settled_in : (look n).phase ≢ Heavy → (v : ℕ) → open_of ranks (all n) v ≡ true → v < m.rows

  -- and the next round
  pub record Stepped (n : ℕ) (p : Phase) : Type 0 where
    pub known : Known (suc n)
    pub phase : (look (suc n)).phase ≡ p
    pub changes : Changes p m width (look n) (look (suc n))
    pub sent : (j : ℕ) (s : DeltaState) → slice_get (begun n) j ≡ Some s → s.outgoing ≡ line_in p ranks m width (look n) j

  low_weights : (found : ℕ → Option ℕ) → Bounded m.rows found → (v k : ℕ) → found v ≡ Some k → k ≤ 2 ^ 60
  low_weights found bound v k is =
      let a : k ≤ reached m.rows found * LIMIT = bound v k is in
      let b : reached m.rows found ≤ m.rows * 1 = reached_most m.rows found in
      let tall : m.rows ≤ 16384 = g.matrix.tall in
      omega arith

  inside_more : (sent : Triple → Bool) (x y : Stage) → Offers m.entries sent x y → ((v k : ℕ) → x.found v ≡ Some k → v < m.rows) → (v k : ℕ) → y.found v ≡ Some k → v < m.rows
  inside_more sent x y round old v k found =
      elim (round.each v) [
        | inl same ↦ old v k (sym same.0 ∙ found)
        | inr new' ↦ (let i = new'.1 in subst (λ u. u < m.rows) i.to (All-contains (λ (t : Triple). t.j < m.rows) m.entries i.edge (graph_edges m g).to i.is))
      ]

  -- ---- A rank's places and its vertices

  small_edges : All IsLight (gathered_cells m.entries)
  small_edges =
      All-permutation IsLight m.entries (gathered_cells m.entries) (gathered_moves m.entries g.matrix.once)
      (λ k d l. record { plain = (graph_edges m g).plain k d l; light = (graph_edges m g).light k d l })

  vertex_is : (n : ℕ) → n < 2 ^ 62 → (j : ℕ) (s : DeltaState) → slice_get (all n) j ≡ Some s → (p : ℕ) → get_or s.vertices p unreached_vertex ≡ vertex_at ranks (all n) (vertex_in ranks j p)
  vertex_is n l j s at p =
      let low : j < ranks = low_rank n l j s at in
      ap (λ q. get_or s.vertices q unreached_vertex) (sym (div-mul-add p ranks j low)) ∙ sym (at_vertex ranks (all n) j s (vertex_in ranks j p) at (mod-mul-add p ranks j low))

  pub size_is : (n : ℕ) → n < 2 ^ 62 → Static m.entries m.rows width ranks (all n) → (j : ℕ) (s : DeltaState) → slice_get (all n) j ≡ Some s → length s.vertices ≡ places_for ranks m.rows
  size_is n l static j s at =
      let member = (all_in n l).each j s at in
      member.valid.places ∙ ap (λ p. places_for p s.rows) member.all_ranks ∙ ap (places_for ranks) (static.size j s at)

  pub marks : (n : ℕ) → n < 2 ^ 62 → (j : ℕ) (s : DeltaState) → slice_get (all n) j ≡ Some s → length s.vertices ≡ places_for ranks m.rows
      → marked_places s.vertices ≡ filter (λ p. (look n).pending (vertex_in ranks j p)) (range_with_len 0 (places_for ranks m.rows))
  marks n l j s at size =
      marks_are (λ p. (look n).pending (vertex_in ranks j p)) 0 s.vertices (λ i inside.
      ap (λ q. (look n).pending (vertex_in ranks j q)) (let z : 0 + i ≡ i = omega arith in z) ∙ sym (ap (λ (x : Vertex). x.improved) (vertex_is n l j s at i)))
      ∙ ap (λ k. filter (λ p. (look n).pending (vertex_in ranks j p)) (range_with_len 0 k)) size

  -- what ranks send, from what each becomes
  sent_from : (n : ℕ) (next : DeltaState → DeltaState) (lines : ℕ → List (ℕ × Item))
      → ((j : ℕ) (s : DeltaState) → slice_get (all n) j ≡ Some s → delta_rules.ended s (vote_sum delta_rules (all n)) ≡ next s)
      → ((j : ℕ) (s : DeltaState) → slice_get (all n) j ≡ Some s → (next s).outgoing ≡ lines j)
      → (j : ℕ) (t : DeltaState) → slice_get (begun n) j ≡ Some t → t.outgoing ≡ lines j
  sent_from n next lines becomes sends j t at =
      (let s = got_map (λ s. delta_rules.ended s (vote_sum delta_rules (all n))) (all n) j t at in outgoing_of t (delta_rules.ended s.0 (vote_sum delta_rules (all n))) (next s.0) (lines j) s.2 (becomes j s.0 s.1) (sends j s.0 s.1))
    where
      outgoing_of : (t u w : DeltaState) (line : List (ℕ × Item)) → u ≡ t → u ≡ w → w.outgoing ≡ line → t.outgoing ≡ line
      outgoing_of t u w line a b is = ap (λ (x : DeltaState). x.outgoing) (sym a ∙ b) ∙ is

  -- ---- Light rounds

  abbrev test_of : DeltaState → Vertex → Bool
  test_of s = in_bucket s.width s.bucket

  active_is : (n : ℕ) → n < 2 ^ 62 → Known n → (j : ℕ) (s : DeltaState) → slice_get (all n) j ≡ Some s → (p : ℕ)
      → ((look n).pending (vertex_in ranks j p) && test_of s (get_or s.vertices p unreached_vertex)) ≡ is_active width (look n) (vertex_in ranks j p)
  active_is n l k j s at p =
      ap (λ w. (look n).pending (vertex_in ranks j p) && weight_in w s.bucket (get_or s.vertices p unreached_vertex).weight) (k.static.wide j s at)
      ∙ ap (λ b. (look n).pending (vertex_in ranks j p) && weight_in width b (get_or s.vertices p unreached_vertex).weight) (k.bucket j s at)
      ∙ ap (λ (x : Vertex). (look n).pending (vertex_in ranks j p) && weight_in width (look n).bucket x.weight) (vertex_is n l j s at p)

  pub picked_is : (n : ℕ) → n < 2 ^ 62 → Known n → (j : ℕ) (s : DeltaState) → slice_get (all n) j ≡ Some s
      → places_where (test_of s) s.vertices ≡ filter (λ p. is_active width (look n) (vertex_in ranks j p)) (range_with_len 0 (places_for ranks m.rows))
  picked_is n l k j s at =
      sym (picks_all (test_of s) s.vertices)
      ∙ ap (filter (λ q. test_of s (get_or s.vertices q unreached_vertex))) (marks n l j s at (size_is n l k.static j s at))
      ∙ filter_filter (λ q. test_of s (get_or s.vertices q unreached_vertex)) (λ p. (look n).pending (vertex_in ranks j p)) (range_with_len 0 (places_for ranks m.rows))
      ∙ filter_agree _ _ (active_is n l k j s at) (range_with_len 0 (places_for ranks m.rows))

  pub pending_in : (n : ℕ) → Known n → (v : ℕ) → (look n).pending v ≡ true → v < m.rows
  pending_in n k v is = (let w = k.weighed v is in k.inside v w.0 w.1)

  pub active_in : (n : ℕ) → Known n → (v : ℕ) → is_active width (look n) v ≡ true → v < m.rows
  active_in n k v is = pending_in n k v (and_parts ((look n).pending v) (weight_in width (look n).bucket ((look n).found v)) is).0

  -- a rank keeps its edges
  kept_lit : (s u : DeltaState) (vs : List Vertex) (j : ℕ) → s ≡ record (after_activation u) { vertices = vs } → u.light ≡ light_of j → u.heavy ≡ heavy_of j → (s.light ≡ light_of j) × (s.heavy ≡ heavy_of j)
  kept_lit s u vs j is a b = (ap (λ (x : DeltaState). x.light) is ∙ a, ap (λ (x : DeltaState). x.heavy) is ∙ b)

  lit_sends : (n : ℕ) → n < 2 ^ 61 → Known n → (j : ℕ) (s : DeltaState) → slice_get (all n) j ≡ Some s → (after_activation s).outgoing ≡ line_in Light ranks m width (look n) j
  lit_sends n l k j s at =
      ap (λ ts. offers_by_place ts (map (calm_if (test_of s)) s.vertices) (places_where (test_of s) s.vertices)) (k.light j s at ∙ ap (table_of ranks (places_for ranks m.rows) 0 width) (gathered_dealt ranks j m.entries g.matrix.once))
      ∙ offers_by_vertex ranks j m.rows 0 width (gathered_cells m.entries) (map (calm_if (test_of s)) s.vertices) (places_where (test_of s) s.vertices) (look n).found (is_active width (look n)) (is_light width)
      (low_rank n (omega arith) j s at) small_edges (λ i d lo. light_range width (get_or (gathered_cells m.entries) i d) (small_edges i d lo))
      (λ p. ap (λ (x : Vertex). x.weight) (calm_at (test_of s) s.vertices p refl) ∙ calm_weight (test_of s) (get_or s.vertices p unreached_vertex) ∙ ap (λ (x : Vertex). x.weight) (vertex_is n (omega arith) j s at p))
      (low_weights (stage n).found k.bound) (picked_is n (omega arith) k j s at) (active_in n k)

  pub to_light : (n : ℕ) → n < 2 ^ 61 → Known n → (look n).phase ≢ Heavy → ((j : ℕ) (s : DeltaState) → slice_get (all n) j ≡ Some s → delta_rules.ended s (vote_sum delta_rules (all n)) ≡ after_activation s) → Stepped n Light
  to_light n l k not_heavy becomes =
      let b : ℕ = (look n).bucket in
      let now : InRound delta_rules ranks n shape most (all n) = all_in n (omega arith) in
      let next : InRound delta_rules ranks (suc n) shape most (begun n) = next_in n (omega arith) in
      let low : (v w : ℕ) → (stage n).found v ≡ Some w → w ≤ 2 ^ 60 = low_weights (stage n).found k.bound in
      let round : Offers m.entries (light_sent width b (stage n)) (calmed_stage width b (stage n)) (stage (suc n)) =
      light_round m.entries m.rows width ranks n (suc n) b (all n) shape most some (graph_edges m g) now next k.static k.bucket low becomes in
      let phase : (look (suc n)).phase ≡ Light = phase_is (suc n) (omega arith) Light (light_phase m.entries m.rows width ranks n (suc n) b (all n) shape most some (graph_edges m g) now next k.static k.bucket low becomes) in
      let bucket : (look (suc n)).bucket ≡ b = bucket_is (suc n) (omega arith) b (light_bucket m.entries m.rows width ranks n (suc n) b (all n) shape most some (graph_edges m g) now next k.static k.bucket low becomes) in
      let open' : (v : ℕ) → opened (open_of ranks (all n)) width b (stage n) v ≡ open_of ranks (all (suc n)) v =
      light_open m.entries m.rows width ranks n (suc n) b (all n) shape most some (graph_edges m g) now next k.static k.bucket low becomes in
      let was = light_was m.entries m.rows width ranks n (suc n) b (all n) shape most some (graph_edges m g) now next k.static k.bucket low becomes in
      record {
        known =
            record {
              phase = each_phase (suc n) (omega arith) Light (light_phase m.entries m.rows width ranks n (suc n) b (all n) shape most some (graph_edges m g) now next k.static k.bucket low becomes);
              bucket = each_bucket (suc n) (omega arith) b (light_bucket m.entries m.rows width ranks n (suc n) b (all n) shape most some (graph_edges m g) now next k.static k.bucket low becomes);
              later = λ e. (let no' : Light ≡ First = sym phase ∙ e in cc);
              static = light_static m.entries m.rows width ranks n (suc n) b (all n) shape most some (graph_edges m g) now next k.static k.bucket low becomes;
              light = λ j s at. (let w = was j s at in (kept_lit s w.0 w.1 j w.3 (k.light j w.0 w.2) (k.heavy j w.0 w.2)).0);
              heavy = λ j s at. (let w = was j s at in (kept_lit s w.0 w.1 j w.3 (k.light j w.0 w.2) (k.heavy j w.0 w.2)).1);
              weighed = offers_weighed m.entries (light_sent width b (stage n)) (calmed_stage width b (stage n)) (stage (suc n)) round (calmed_weighed width b (stage n) k.weighed);
              bound = bounded_more m.rows m.entries (light_sent width b (stage n)) (calmed_stage width b (stage n)) (stage (suc n)) (graph_edges m g).to (graph_edges m g).light round k.bound;
              inside = inside_more (light_sent width b (stage n)) (calmed_stage width b (stage n)) (stage (suc n)) round k.inside;
              settled_in = λ d v is. elim (or_cases (open_of ranks (all n) v) (active width b (stage n) v) (open' v ∙ is)) [
                | inl before ↦ k.settled_in not_heavy v before
                | inr new' ↦ active_in n k v new'
              ];
            };
        phase = phase;
        changes =
            record {
              bucket = bucket;
              settled = λ v. sym (open' v);
              improves = to_improves m.entries (light_sent width b (stage n)) (calmed_stage width b (stage n)) (look (suc n)) round;
            };
        sent = sent_from n after_activation (line_in Light ranks m width (look n)) becomes (lit_sends n l k);
      }

  -- ---- Heavy rounds

  settled_is : (n : ℕ) → n < 2 ^ 62 → Known n → (j : ℕ) (s : DeltaState) → slice_get (all n) j ≡ Some s
      → ascending (length s.vertices) s.settled ≡ filter (λ p. (look n).settled (vertex_in ranks j p)) (range_with_len 0 (places_for ranks m.rows))
  settled_is n l k j s at =
      let low : j < ranks = low_rank n l j s at in
      ap (λ c. ascending c s.settled) (size_is n l k.static j s at)
      ∙ filter_agree (λ p. list_any (eqb p) s.settled) (λ p. open_of ranks (all n) (vertex_in ranks j p)) (λ p.
      sym (at_open ranks (all n) j s (vertex_in ranks j p) at (mod-mul-add p ranks j low) ∙ ap (λ q. list_any (eqb q) s.settled) (div-mul-add p ranks j low)))
      (range_with_len 0 (places_for ranks m.rows))

  kept_heavy : (s u : DeltaState) (vs : List Vertex) (j b : ℕ) → s ≡ record (after_last_round u) { vertices = vs } → u.light ≡ light_of j → u.heavy ≡ heavy_of j → u.bucket ≡ b
      → (s.light ≡ light_of j) × (s.heavy ≡ heavy_of j) × (s.bucket ≡ b)
  kept_heavy s u vs j b is l h e = (ap (λ (x : DeltaState). x.light) is ∙ l, ap (λ (x : DeltaState). x.heavy) is ∙ h, ap (λ (x : DeltaState). x.bucket) is ∙ e)

  heavy_sends : (n : ℕ) → n < 2 ^ 61 → Known n → (look n).phase ≢ Heavy → (j : ℕ) (s : DeltaState) → slice_get (all n) j ≡ Some s → (after_last_round s).outgoing ≡ line_in Heavy ranks m width (look n) j
  heavy_sends n l k not_heavy j s at =
      ap (λ ts. offers_by_place ts s.vertices (ascending (length s.vertices) s.settled)) (k.heavy j s at ∙ ap (table_of ranks (places_for ranks m.rows) (width + 1) (2 ^ 64 - 1)) (gathered_dealt ranks j m.entries g.matrix.once))
      ∙ offers_by_vertex ranks j m.rows (width + 1) (2 ^ 64 - 1) (gathered_cells m.entries) s.vertices (ascending (length s.vertices) s.settled) (look n).found (look n).settled (λ t. not (is_light width t))
      (low_rank n (omega arith) j s at) small_edges (λ i d lo. heavy_range width (get_or (gathered_cells m.entries) i d) (small_edges i d lo))
      (λ p. ap (λ (x : Vertex). x.weight) (vertex_is n (omega arith) j s at p))
      (low_weights (stage n).found k.bound) (settled_is n (omega arith) k j s at) (k.settled_in not_heavy)

  pub to_heavy : (n : ℕ) → n < 2 ^ 61 → Known n → (look n).phase ≢ Heavy → ((j : ℕ) (s : DeltaState) → slice_get (all n) j ≡ Some s → delta_rules.ended s (vote_sum delta_rules (all n)) ≡ after_last_round s) → Stepped n Heavy
  to_heavy n l k not_heavy becomes =
      let now : InRound delta_rules ranks n shape most (all n) = all_in n (omega arith) in
      let next : InRound delta_rules ranks (suc n) shape most (begun n) = next_in n (omega arith) in
      let low : (v w : ℕ) → (stage n).found v ≡ Some w → w ≤ 2 ^ 60 = low_weights (stage n).found k.bound in
      let round : Offers m.entries (heavy_sent width (open_of ranks (all n))) (stage n) (stage (suc n)) =
      heavy_round m.entries m.rows width ranks n (suc n) (all n) shape most some (graph_edges m g) now next k.static low becomes in
      let phase : (look (suc n)).phase ≡ Heavy = phase_is (suc n) (omega arith) Heavy (heavy_phase m.entries m.rows width ranks n (suc n) (all n) shape most some (graph_edges m g) now next k.static low becomes) in
      let was = heavy_was m.entries m.rows width ranks n (suc n) (all n) shape most some (graph_edges m g) now next k.static low becomes in
      let buckets : (j : ℕ) (s : DeltaState) → slice_get (all (suc n)) j ≡ Some s → s.bucket ≡ (look n).bucket = λ j s at. (let w = was j s at in (kept_heavy s w.0 w.1 j (look n).bucket w.3 (k.light j w.0 w.2) (k.heavy j w.0 w.2) (k.bucket j w.0 w.2)).2) in
      record {
        known =
            record {
              phase = each_phase (suc n) (omega arith) Heavy (heavy_phase m.entries m.rows width ranks n (suc n) (all n) shape most some (graph_edges m g) now next k.static low becomes);
              bucket = each_bucket (suc n) (omega arith) (look n).bucket buckets;
              later = λ e. (let no' : Heavy ≡ First = sym phase ∙ e in cc);
              static = heavy_static m.entries m.rows width ranks n (suc n) (all n) shape most some (graph_edges m g) now next k.static low becomes;
              light = λ j s at. (let w = was j s at in (kept_heavy s w.0 w.1 j (look n).bucket w.3 (k.light j w.0 w.2) (k.heavy j w.0 w.2) (k.bucket j w.0 w.2)).0);
              heavy = λ j s at. (let w = was j s at in (kept_heavy s w.0 w.1 j (look n).bucket w.3 (k.light j w.0 w.2) (k.heavy j w.0 w.2) (k.bucket j w.0 w.2)).1);
              weighed = offers_weighed m.entries (heavy_sent width (open_of ranks (all n))) (stage n) (stage (suc n)) round k.weighed;
              bound = bounded_more m.rows m.entries (heavy_sent width (open_of ranks (all n))) (stage n) (stage (suc n)) (graph_edges m g).to (graph_edges m g).light round k.bound;
              inside = inside_more (heavy_sent width (open_of ranks (all n))) (stage n) (stage (suc n)) round k.inside;
              settled_in = λ d v is. absurd (d phase);
            };
        phase = phase;
        changes = to_improves m.entries (heavy_sent width (open_of ranks (all n))) (stage n) (look (suc n)) round;
        sent = sent_from n after_last_round (line_in Heavy ranks m width (look n)) becomes (heavy_sends n l k not_heavy);
      }

  -- ---- Find rounds

  -- a rank that finds next, from the one that it was
  pub record ToFind (n : ℕ) : Type 0 where
    pub finds : (j : ℕ) (s : DeltaState) → slice_get (all n) j ≡ Some s → IsFinding width (delta_rules.ended s (vote_sum delta_rules (all n)))
    pub stays : (j : ℕ) (s : DeltaState) → slice_get (all n) j ≡ Some s → (delta_rules.ended s (vote_sum delta_rules (all n))).vertices ≡ s.vertices
    pub light : (j : ℕ) (s : DeltaState) → slice_get (all n) j ≡ Some s → (delta_rules.ended s (vote_sum delta_rules (all n))).light ≡ light_of j
    pub heavy : (j : ℕ) (s : DeltaState) → slice_get (all n) j ≡ Some s → (delta_rules.ended s (vote_sum delta_rules (all n))).heavy ≡ heavy_of j
    pub static : Static m.entries m.rows width ranks (begun n)
    pub size : (j : ℕ) (s : DeltaState) → slice_get (all n) j ≡ Some s → length s.vertices ≡ places_for ranks m.rows
    pub weighed : Weighed (stage n)
    pub bound : Bounded m.rows (stage n).found
    pub inside : (v k : ℕ) → (stage n).found v ≡ Some k → v < m.rows

  least_is : (n : ℕ) → n < 2 ^ 62 → (h : ToFind n) → (j : ℕ) (s : DeltaState) → slice_get (all n) j ≡ Some s → least_marked s.vertices ≡ least_pending ranks m (look n) j
  least_is n l h j s at =
      let own : List ℕ = filter (λ p. (look n).pending (vertex_in ranks j p)) (range_with_len 0 (places_for ranks m.rows)) in
      fold_on (λ w p. lesser w (get_or s.vertices p unreached_vertex).weight) (λ w p. lesser w ((look n).found (vertex_in ranks j p))) None (marked_places s.vertices)
      (λ w p. ap (λ (x : Vertex). lesser w x.weight) (vertex_is n l j s at p))
      ∙ ap (fold (λ w p. lesser w ((look n).found (vertex_in ranks j p))) None) (marks n l j s at (h.size j s at))
      ∙ sym (fold_map (λ w v. lesser w ((look n).found v)) (vertex_in ranks j) None own)
      ∙ ap (fold (λ w v. lesser w ((look n).found v)) None) (vertices_own ranks j m.rows (look n).pending (low_rank n l j s at) (λ v is. (let w = h.weighed v is in h.inside v w.0 w.1)))

  begun_tables : (n : ℕ) → ToFind n → (j : ℕ) (s t : DeltaState) (b : ℕ) → s ≡ record t { bucket = b } → slice_get (begun n) j ≡ Some t → (s.light ≡ light_of j) × (s.heavy ≡ heavy_of j)
  begun_tables n h j s t b is at =
      (let u = got_map (λ s. delta_rules.ended s (vote_sum delta_rules (all n))) (all n) j t at in tables s t (delta_rules.ended u.0 (vote_sum delta_rules (all n))) is u.2 (h.light j u.0 u.1) (h.heavy j u.0 u.1))
    where
      tables : (s t u : DeltaState) → s ≡ record t { bucket = b } → u ≡ t → u.light ≡ light_of j → u.heavy ≡ heavy_of j → (s.light ≡ light_of j) × (s.heavy ≡ heavy_of j)
      tables s t u a c l k = (ap (λ (x : DeltaState). x.light) a ∙ ap (λ (x : DeltaState). x.light) (sym c) ∙ l, ap (λ (x : DeltaState). x.heavy) a ∙ ap (λ (x : DeltaState). x.heavy) (sym c) ∙ k)

  find_sends : (n : ℕ) → n < 2 ^ 61 → ToFind n → (j : ℕ) (s : DeltaState) → slice_get (all n) j ≡ Some s → (delta_rules.ended s (vote_sum delta_rules (all n))).outgoing ≡ line_in Find ranks m width (look n) j
  find_sends n l h j s at =
      let t : DeltaState = delta_rules.ended s (vote_sum delta_rules (all n)) in
      told t (h.finds j s at) ((next_in n (omega arith)).each j t (get_map (λ s. delta_rules.ended s (vote_sum delta_rules (all n))) (all n) j s at)).all_ranks (h.stays j s at) (least_is n (omega arith) h j s at)
    where
      told : (t : DeltaState) → IsFinding width t → t.ranks ≡ ranks → t.vertices ≡ s.vertices → least_marked s.vertices ≡ least_pending ranks m (look n) j → t.outgoing ≡ line_in Find ranks m width (look n) j
      told t is all_ranks stays least =
          is.outgoing
          ∙ ap (λ c. announced_items c (bucket_of t.width (least_marked t.vertices))) all_ranks
          ∙ ap (λ w. announced_items ranks (bucket_of w (least_marked t.vertices))) is.wide
          ∙ ap (λ vs. announced_items ranks (bucket_of width (least_marked vs))) stays
          ∙ ap (λ o. announced_items ranks (bucket_of width o)) least

  -- an active vertex is one of the graph
  one_active : (n : ℕ) → Weighed (stage n) → ((v k : ℕ) → (stage n).found v ≡ Some k → v < m.rows) → (u : ℕ) → is_active width (look n) u ≡ true → some_active m width (look n) ≡ true
  one_active n weighed inside u on =
      let w = weighed u (and_parts ((look n).pending u) (weight_in width (look n).bucket ((look n).found u)) on).0 in
      any_there (is_active width (look n)) (range_with_len 0 m.rows) u (in_range_list m.rows u (inside u w.0 w.1)) on

  pub to_find : (n : ℕ) → n < 2 ^ 61 → ToFind n → Stepped n Find
  to_find n l h =
      let next : InRound delta_rules ranks (suc n) shape most (begun n) = next_in n (omega arith) in
      let finds : (j : ℕ) (t : DeltaState) → slice_get (begun n) j ≡ Some t → IsFinding width t =
      λ j t at. (let s = got_map (λ s. delta_rules.ended s (vote_sum delta_rules (all n))) (all n) j t at in subst (IsFinding width) s.2 (h.finds j s.0 s.1)) in
      let f : (v : ℕ) → (stage_of ranks (begun n)).found v ≡ (stage n).found v = λ v. ap (λ (w : Vertex). w.weight) (same n l h v) in
      let p : (v : ℕ) → (stage_of ranks (begun n)).fresh v ≡ (stage n).fresh v = λ v. ap (λ (w : Vertex). w.improved) (same n l h v) in
      let low : (v w : ℕ) → (stage_of ranks (begun n)).found v ≡ Some w → w ≤ 2 ^ 60 = λ v w is. low_weights (stage n).found h.bound v w (sym (f v) ∙ is) in
      let weights : Weighed (stage_of ranks (begun n)) = look_weighed (stage n) (stage_of ranks (begun n)) f p h.weighed in
      let found : (v : ℕ) → (stage (suc n)).found v ≡ (stage n).found v = λ v. find_found m.entries m.rows width ranks (suc n) (begun n) shape most some positive next h.static finds low weights v ∙ f v in
      let pending : (v : ℕ) → (stage (suc n)).fresh v ≡ (stage n).fresh v = λ v. find_fresh m.entries m.rows width ranks (suc n) (begun n) shape most some positive next h.static finds low weights v ∙ p v in
      let phase : (look (suc n)).phase ≡ Find = phase_is (suc n) (omega arith) Find (find_phase m.entries m.rows width ranks (suc n) (begun n) shape most some positive next h.static finds low weights) in
      let b : ℕ = found_bucket m.entries m.rows width ranks (suc n) (begun n) shape most some positive next h.static finds low weights in
      let bucket : (look (suc n)).bucket ≡ b = bucket_is (suc n) (omega arith) b (find_bucket m.entries m.rows width ranks (suc n) (begun n) shape most some positive next h.static finds low weights) in
      let was = find_was m.entries m.rows width ranks (suc n) (begun n) shape most some positive next h.static finds low weights in
      let open' : (v : ℕ) → open_of ranks (all (suc n)) v ≡ false = find_open m.entries m.rows width ranks (suc n) (begun n) shape most some positive next h.static finds low weights in
      let bound : Bounded m.rows (stage (suc n)).found =
      λ v w is. subst (λ r. w ≤ r * LIMIT) (sym (total_same m.rows (λ v. one_found ((stage (suc n)).found v)) (λ v. one_found ((stage n).found v)) (λ v low. ap one_found (found v)))) (h.bound v w (sym (found v) ∙ is)) in
      let inside : (v w : ℕ) → (stage (suc n)).found v ≡ Some w → v < m.rows = λ v w is. h.inside v w (sym (found v) ∙ is) in
      let weighed : Weighed (stage (suc n)) = look_weighed (stage n) (stage (suc n)) found pending h.weighed in
      let reach : (v w : ℕ) → (stage (suc n)).fresh v ≡ true → (stage (suc n)).found v ≡ Some w → some_active m width (look (suc n)) ≡ true =
      λ v w is has.
      (let u = bucket_reached m.entries m.rows width ranks (suc n) (begun n) shape most some positive next h.static finds low weights v w (p v ∙ sym (pending v) ∙ is) (f v ∙ sym (found v) ∙ has) in
      one_active (suc n) weighed inside u.0
      (subst (λ c. active width c (stage (suc n)) u.0 ≡ true) (sym bucket)
      (look_active width b (stage_of ranks (begun n)) (stage (suc n)) (λ v. found v ∙ sym (f v)) (λ v. pending v ∙ sym (p v)) u.0 u.1))) in
      record {
        known =
            record {
              phase = each_phase (suc n) (omega arith) Find (find_phase m.entries m.rows width ranks (suc n) (begun n) shape most some positive next h.static finds low weights);
              bucket = each_bucket (suc n) (omega arith) b (find_bucket m.entries m.rows width ranks (suc n) (begun n) shape most some positive next h.static finds low weights);
              later = λ e. (let no' : Find ≡ First = sym phase ∙ e in cc);
              static = find_static m.entries m.rows width ranks (suc n) (begun n) shape most some positive next h.static finds low weights;
              light = λ j s at. (let w = was j s at in (begun_tables n h j s w.0 b w.2 w.1).0);
              heavy = λ j s at. (let w = was j s at in (begun_tables n h j s w.0 b w.2 w.1).1);
              weighed = weighed;
              bound = bound;
              inside = inside;
              settled_in = λ d v is. absurd (false≢true (sym (open' v) ∙ is));
            };
        phase = phase;
        changes =
            record {
              found = found;
              pending = pending;
              settled = open';
              least = λ v w is has. subst (λ c. c * width ≤ w) (sym bucket) (bucket_floor m.entries m.rows width ranks (suc n) (begun n) shape most some positive next h.static finds low weights v w (p v ∙ sym (pending v) ∙ is) (f v ∙ sym (found v) ∙ has));
              reached = λ v is. reach v (weighed v is).0 is (weighed v is).1;
            };
        sent = sent_from n (λ s. delta_rules.ended s (vote_sum delta_rules (all n))) (line_in Find ranks m width (look n)) (λ j s at. refl) (find_sends n l h);
      }
    where
      same : (n : ℕ) → n < 2 ^ 61 → ToFind n → (v : ℕ) → vertex_at ranks (begun n) v ≡ vertex_at ranks (all n) v
      same n l h v =
          let j : ℕ = v % ranks in
          let s = rank_at n (omega arith) j (mod-lt v some) in
          at_vertex ranks (begun n) j (delta_rules.ended s.0 (vote_sum delta_rules (all n))) v (get_map (λ s. delta_rules.ended s (vote_sum delta_rules (all n))) (all n) j s.0 s.1) refl
          ∙ ap (λ vs. get_or vs (v / ranks) unreached_vertex) (h.stays j s.0 s.1)
          ∙ sym (at_vertex ranks (all n) j s.0 v s.1 refl)
