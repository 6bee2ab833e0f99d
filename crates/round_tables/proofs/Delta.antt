-- The rounds of delta-stepping.
use Rattle.std.proofs.Common.{◌≡◌, ◌≢◌, ℕ, zero, suc, ◌+◌, ◌-◌, ◌*◌, ◌/◌, ◌%◌, ◌^◌, ◌<◌, ◌≤◌, ◌==◌, ◌&&◌, min, Bool, true, false, cond, List, [], ◌∷◌, Some, None, length, map, get_or, slice_get, sum_by, All, arith, inl, inr, refl, sym, ap, ◌∙◌, subst, lit<}
use Rattle.std.specs.Prelude.{Contains, nat_lt, not, if◌then◌else◌}
use Rattle.std.specs.List.{range_with_len}
use Rattle.std.proofs.Math.Nat.{mod-lt, mul-le-mul}
use Rattle.std.proofs.lemmas.Bool.{cases_Bool, cases_eq, cases_lt, eq-eqb, ne_eqb, lt-ltb, le-ltb, false≢true}
use Rattle.std.proofs.lemmas.Nat.{div-mul-add, mod-mul-add}
use Rattle.std.proofs.lemmas.List.{length-map}
use Rattle.std.proofs.lemmas.List.FromFn.{length-map-range_with_len}
use Rattle.std.proofs.lemmas.List.Sums.{sum_by-le, get_or-le-sum_by}
use Rattle.std.proofs.lemmas.Option.{get_or_from_slice_get}
use Rattle.list_laws.proofs.Lists.{within, get_once, got_map, all_from_gets}
use Rattle.mtx_text.specs.Sparse.{Sparse}
use Rattle.round_program.specs.Canonical.{end_all, votes_at, vote_sum, InRound}
use Rattle.sparse_rows.specs.Owners.{places_for}
use Rattle.least_walks.specs.Tables.{table_of}
use Rattle.least_walks.specs.declared.vertices.Vertex.{Vertex}
use Rattle.least_walks.specs.Vertices.{unreached_vertex, marked_places, in_bucket, weight_in, places_where}
use Rattle.least_walks.proofs.Members.{has_head}
use Rattle.least_walks.proofs.Offered.{weighing, none_improved, was_marked}
use Rattle.app_sssp.specs.SsspRuns.{IsGraph, vertices_begin}
use Rattle.app_sssp.proofs.Begins.{begin_source, begin_other, begin_len}
use Rattle.delta_step.specs.declared.phase.Phase.{Phase}
use Rattle.delta_step.specs.declared.phase.Phase.TheVariants.{First, Find, Light, Heavy}
use Rattle.delta_step.specs.Deltas.{DeltaState, delta_rules, vote_in, ended_in, finding, sorted_out, after_activation, after_last_round}
use Rattle.delta_step.specs.DeltaRuns.{delta_begins, delta_starts}
use Rattle.delta_step.proofs.Begins.{first, first_at, light_keeps, heavy_keeps, only_source, pending_found}
use Rattle.delta_step.proofs.Ends.{over, run_rounds}
use Rattle.delta_step.proofs.FindRounds.{IsFinding}
use Rattle.delta_step.proofs.Looks.{sum_more, sum_some}
use Rattle.delta_step.proofs.OfferRounds.{vertex_at, at_vertex}
use Rattle.delta_step.proofs.Transits.{Keeps, has_pick, was_pick}
use Rattle.sparse_rows.specs.Emits.{Emit}
use Rattle.round_tables.specs.Sssp.{to_rows}
use Rattle.round_tables.specs.Delta.{Look, is_light, is_active, some_active, next_phase, next_of, Finds, Changes, line_in, HasDeltaRounds, DeltaRounds}
use Rattle.sparse_rows.proofs.Emitted.{emit_made, emit_each}
use Rattle.round_tables.specs.Tables.{IsDeltaTable, delta_line, delta_vote}
use Rattle.round_tables.specs.Follows.{HasTable}
use Rattle.round_tables.proofs.Votes.{vote_each}
use Rattle.round_tables.proofs.SsspLists.{in_range_list, vertex_in, own_vertices as own_by_place}
use Rattle.round_tables.proofs.DeltaLists.{any_there, there_any}
use Rattle.round_tables.proofs.DeltaSteps.{all, look, all_in, rank_at, low_rank, phase_is, size_is, marks, picked_is, pending_in, Known, Stepped, active_in, to_light, to_heavy, ToFind, to_find}

module _ (ranks : ℕ) (m : Sparse) (source width : ℕ) (some : 0 < ranks) (few : ranks ≤ 64) (positive : 0 < width) (narrow : width ≤ 1_000_000_000_000) (g : IsGraph m) (source_in : source < m.rows) where
  abbrev starts : List DeltaState
  starts = delta_starts ranks m source width

  abbrev full : ℕ → List DeltaState
  full n = all ranks m source width some few positive narrow g source_in n

  abbrev sees : ℕ → Look
  sees n = look ranks m source width some few positive narrow g source_in n

  abbrev cast : ℕ → ℕ
  cast n = votes_at delta_rules starts n

  abbrev Knows : ℕ → Type 0
  Knows n = Known ranks m source width some few positive narrow g source_in n

  abbrev Steps : ℕ → Phase → Type 0
  Steps n p = Stepped ranks m source width some few positive narrow g source_in n p

  full_in : (n : ℕ) → n < 2 ^ 62 → InRound delta_rules ranks n (m.rows ∷ []) (m.rows * (m.rows + 2) + 2) (full n)
  full_in n l = all_in ranks m source width some few positive narrow g source_in n l

  at_rank : (n : ℕ) → n < 2 ^ 62 → (j : ℕ) → j < ranks → (s : DeltaState) × (slice_get (full n) j ≡ Some s)
  at_rank n l j low = rank_at ranks m source width some few positive narrow g source_in n l j low

  -- ---- Votes of a light round

  light_vote : (s : DeltaState) → s.phase ≡ Light → delta_rules.vote s ≡ 1 + length (places_where (in_bucket s.width s.bucket) s.vertices)
  light_vote s e = ap (λ p. vote_in p s) e

  counted : (n : ℕ) → Knows n → (j : ℕ) (s : DeltaState) → slice_get (full n) j ≡ Some s → (v : ℕ) → v % ranks ≡ j
      → is_active width (sees n) v ≡ ((get_or s.vertices (v / ranks) unreached_vertex).improved && in_bucket s.width s.bucket (get_or s.vertices (v / ranks) unreached_vertex))
  counted n k j s at v own =
      ap (λ (w : Vertex). w.improved && weight_in width (sees n).bucket w.weight) (at_vertex ranks (full n) j s v at own)
      ∙ ap (λ w. (get_or s.vertices (v / ranks) unreached_vertex).improved && weight_in w (sees n).bucket (get_or s.vertices (v / ranks) unreached_vertex).weight) (sym (k.static.wide j s at))
      ∙ ap (λ b. (get_or s.vertices (v / ranks) unreached_vertex).improved && weight_in s.width b (get_or s.vertices (v / ranks) unreached_vertex).weight) (sym (k.bucket j s at))

  -- few votes: none is active
  none_active : (n : ℕ) → n < 2 ^ 61 → Knows n → (sees n).phase ≡ Light → cast n ≤ ranks → (v : ℕ) → is_active width (sees n) v ≡ false
  none_active n l k light low v =
      let here : InRound delta_rules ranks n (m.rows ∷ []) (m.rows * (m.rows + 2) + 2) (full n) = full_in n (omega arith) in
      let j : ℕ = v % ranks in
      let s = at_rank n (omega arith) j (mod-lt v some) in
      let vote : delta_rules.vote s.0 ≡ 1 + length (places_where (in_bucket s.0.width s.0.bucket) s.0.vertices) = light_vote s.0 (k.phase j s.0 s.1 ∙ light) in
      let more : length (full n) + delta_rules.vote s.0 ≤ sum_by delta_rules.vote (full n) + 1 =
      sum_more delta_rules.vote (full n) j s.0 (all_from_gets (λ t. 1 ≤ delta_rules.vote t) (full n) (λ i t at. (let o : delta_rules.vote t ≡ 1 + length (places_where (in_bucket t.width t.bucket) t.vertices) = light_vote t (k.phase i t at ∙ light) in omega arith))) s.1 in
      let size : length (full n) ≡ ranks = here.size in
      let total : min (sum_by delta_rules.vote (full n)) (2 ^ 64 - 1) ≤ ranks = low in
      let empty : length (places_where (in_bucket s.0.width s.0.bucket) s.0.vertices) ≡ 0 = omega arith in
      elim (cases_Bool (is_active width (sees n) v)) [
        | inr off ↦ off
        | inl on ↦
            (let there = has_pick (in_bucket s.0.width s.0.bucket) s.0.vertices (v / ranks) (sym (counted n k j s.0 s.1 v refl) ∙ on) in
            absurd (let lo : there.0 < length (places_where (in_bucket s.0.width s.0.bucket) s.0.vertices) = there.1 in omega arith))
      ]

  -- none active: few votes
  votes_low : (n : ℕ) → n < 2 ^ 61 → Knows n → (sees n).phase ≡ Light → ((v : ℕ) → is_active width (sees n) v ≡ false) → cast n ≤ ranks
  votes_low n l k light none =
      let here : InRound delta_rules ranks n (m.rows ∷ []) (m.rows * (m.rows + 2) + 2) (full n) = full_in n (omega arith) in
      let each : All (λ s. delta_rules.vote s ≤ 1) (full n) =
      all_from_gets (λ s. delta_rules.vote s ≤ 1) (full n) (λ j s at.
      let vote : delta_rules.vote s ≡ 1 + length (places_where (in_bucket s.width s.bucket) s.vertices) = light_vote s (k.phase j s at ∙ light) in
      let empty : length (places_where (in_bucket s.width s.bucket) s.vertices) ≡ 0 = no_picks j s at (low_rank ranks m source width some few positive narrow g source_in n (omega arith) j s at) (places_where (in_bucket s.width s.bucket) s.vertices) refl in
      omega arith) in
      let sum : sum_by delta_rules.vote (full n) ≤ length (full n) * 1 = sum_by-le delta_rules.vote 1 (full n) each in
      let size : length (full n) ≡ ranks = here.size in
      let total : cast n ≡ min (sum_by delta_rules.vote (full n)) (2 ^ 64 - 1) = refl in
      omega arith
    where
      no_picks : (j : ℕ) (s : DeltaState) → slice_get (full n) j ≡ Some s → j < ranks → (ps : List ℕ) → places_where (in_bucket s.width s.bucket) s.vertices ≡ ps → length ps ≡ 0
      no_picks j s at low [] e = refl
      no_picks j s at low (p ∷ ps) e =
          let on : ((get_or s.vertices p unreached_vertex).improved && in_bucket s.width s.bucket (get_or s.vertices p unreached_vertex)) ≡ true =
          was_pick (in_bucket s.width s.bucket) s.vertices p (subst (λ qs. Contains qs p) (sym e) (has_head p ps)) in
          let v : ℕ = p * ranks + j in
          let is : is_active width (sees n) v ≡ true =
          counted n k j s at v (mod-mul-add p ranks j low)
          ∙ ap (λ q. (get_or s.vertices q unreached_vertex).improved && in_bucket s.width s.bucket (get_or s.vertices q unreached_vertex)) (div-mul-add p ranks j low) ∙ on in
          absurd (false≢true (sym (none v) ∙ is))

  -- some vertex is active exactly where there are more votes than ranks
  more_votes : (n : ℕ) → n < 2 ^ 61 → Knows n → (sees n).phase ≡ Light → nat_lt ranks (cast n) ≡ some_active m width (sees n)
  more_votes n l k light =
      elim (cases_Bool (some_active m width (sees n))) [
        | inl is ↦
            (let v = there_any (is_active width (sees n)) (range_with_len 0 m.rows) is in
            elim (cases_lt ranks (cast n)) [
              | inl more ↦ lt-ltb ranks (cast n) more ∙ sym is
              | inr low ↦ absurd (false≢true (sym (none_active n l k light low v.0) ∙ v.1))
            ])
        | inr none ↦
            le-ltb ranks (cast n) (votes_low n l k light (λ v. elim (cases_Bool (is_active width (sees n) v)) [
              | inr off ↦ off
              | inl on ↦
                  absurd (false≢true (sym none ∙ any_there (is_active width (sees n)) (range_with_len 0 m.rows) v (in_range_list m.rows v (active_in ranks m source width some few positive narrow g source_in n k v on)) on))
            ])) ∙ sym none
      ]

  -- ---- From each round to the next

  heavy_finds : (n : ℕ) → n < 2 ^ 61 → Knows n → (sees n).phase ≡ Heavy → ToFind ranks m source width some few positive narrow g source_in n
  heavy_finds n l k heavy =
      let becomes : (j : ℕ) (s : DeltaState) → slice_get (full n) j ≡ Some s → delta_rules.ended s (vote_sum delta_rules (full n)) ≡ finding s =
      λ j s at. ap (λ p. ended_in p s (vote_sum delta_rules (full n))) (k.phase j s at ∙ heavy) in
      let was : (j : ℕ) (t : DeltaState) → slice_get (end_all delta_rules (full n)) j ≡ Some t → (s : DeltaState) × (slice_get (full n) j ≡ Some s) × (t ≡ finding s) =
      λ j t at. (let s = got_map (λ s. delta_rules.ended s (vote_sum delta_rules (full n))) (full n) j t at in (s.0, s.1, sym s.2 ∙ becomes j s.0 s.1)) in
      record {
        finds = λ j s at. subst (IsFinding width) (sym (becomes j s at)) (record { phase = refl; none = refl; unsettled = refl; wide = k.static.wide j s at; outgoing = refl });
        stays = λ j s at. ap (λ (u : DeltaState). u.vertices) (becomes j s at);
        light = λ j s at. ap (λ (u : DeltaState). u.light) (becomes j s at) ∙ k.light j s at;
        heavy = λ j s at. ap (λ (u : DeltaState). u.heavy) (becomes j s at) ∙ k.heavy j s at;
        static =
            record {
              size = λ j t at. (let s = was j t at in ap (λ (u : DeltaState). u.rows) s.2 ∙ k.static.size j s.0 s.1);
              wide = λ j t at. (let s = was j t at in ap (λ (u : DeltaState). u.width) s.2 ∙ k.static.wide j s.0 s.1);
              light = λ j t at. (let s = was j t at in subst (λ (u : DeltaState). Keeps m.entries ranks j (is_light width) u.light) (sym s.2) (k.static.light j s.0 s.1));
              heavy = λ j t at. (let s = was j t at in subst (λ (u : DeltaState). Keeps m.entries ranks j (λ e. not (is_light width e)) u.heavy) (sym s.2) (k.static.heavy j s.0 s.1));
            };
        size = λ j s at. (let member = (full_in n (omega arith)).each j s at in member.valid.places ∙ ap (λ p. places_for p s.rows) member.all_ranks ∙ ap (places_for ranks) (k.static.size j s at));
        weighed = k.weighed;
        bound = k.bound;
        inside = k.inside;
      }

  step_at : (n : ℕ) → n < 2 ^ 61 → Knows n → (p : Phase) → (sees n).phase ≡ p → Steps n (next_phase p (some_active m width (sees n)))
  step_at n l k First is = absurd (k.later is)
  step_at n l k Find is =
      to_light ranks m source width some few positive narrow g source_in n l k (λ e. (let no' : Find ≡ Heavy = sym is ∙ e in cc))
      (λ j s at. ap (λ p. ended_in p s (vote_sum delta_rules (full n))) (k.phase j s at ∙ is))
  step_at n l k Heavy is = to_find ranks m source width some few positive narrow g source_in n l (heavy_finds n l k is)
  step_at n l k Light is =
      let not_heavy : (sees n).phase ≢ Heavy = λ e. (let no' : Light ≡ Heavy = sym is ∙ e in cc) in
      let ends : (b : Bool) → some_active m width (sees n) ≡ b → (j : ℕ) (s : DeltaState) → slice_get (full n) j ≡ Some s → delta_rules.ended s (vote_sum delta_rules (full n)) ≡ cond b (after_activation s) (after_last_round s) =
      λ b e j s at.
      ap (λ p. ended_in p s (vote_sum delta_rules (full n))) (k.phase j s at ∙ is)
      ∙ ap (λ c. cond (nat_lt c (vote_sum delta_rules (full n))) (after_activation s) (after_last_round s)) ((full_in n (omega arith)).each j s at).all_ranks
      ∙ ap (λ c. cond c (after_activation s) (after_last_round s)) (more_votes n l k is ∙ e) in
      elim (cases_Bool (some_active m width (sees n))) [
        | inl on ↦ subst (λ b. Steps n (next_phase Light b)) (sym on) (to_light ranks m source width some few positive narrow g source_in n l k not_heavy (ends true on))
        | inr off ↦ subst (λ b. Steps n (next_phase Light b)) (sym off) (to_heavy ranks m source width some few positive narrow g source_in n l k not_heavy (ends false off))
      ]

  -- ---- The first round

  first_is : (j : ℕ) (s : DeltaState) → slice_get (full 0) j ≡ Some s → s ≡ first ranks m source width j
  first_is j s at =
      get_once (full 0) j s (first ranks m source width j) at (first_at ranks m source width j some positive narrow g (low_rank ranks m source width some few positive narrow g source_in 0 (lit< tt) j s at))

  first_phase : (sees 0).phase ≡ First
  first_phase = phase_is ranks m source width some few positive narrow g source_in 0 (lit< tt) First (λ j s at. ap (λ (u : DeltaState). u.phase) (first_is j s at))

  first_finds : ToFind ranks m source width some few positive narrow g source_in 0
  first_finds =
      let becomes : (j : ℕ) (s : DeltaState) → slice_get (full 0) j ≡ Some s → delta_rules.ended s (vote_sum delta_rules (full 0)) ≡ finding (sorted_out (first ranks m source width j)) =
      λ j s at. ap (λ t. delta_rules.ended t (vote_sum delta_rules (full 0))) (first_is j s at) in
      let was : (j : ℕ) (t : DeltaState) → slice_get (end_all delta_rules (full 0)) j ≡ Some t → t ≡ finding (sorted_out (first ranks m source width j)) =
      λ j t at. (let s = got_map (λ s. delta_rules.ended s (vote_sum delta_rules (full 0))) (full 0) j t at in sym s.2 ∙ becomes j s.0 s.1) in
      record {
        finds = λ j s at. subst (IsFinding width) (sym (becomes j s at)) (record { phase = refl; none = refl; unsettled = refl; wide = refl; outgoing = refl });
        stays = λ j s at. ap (λ (u : DeltaState). u.vertices) (becomes j s at) ∙ sym (ap (λ (u : DeltaState). u.vertices) (first_is j s at));
        light = λ j s at. ap (λ (u : DeltaState). u.light) (becomes j s at) ∙ ap (λ c. table_of ranks c 0 width (first ranks m source width j).arriving) (begin_len ranks m.rows source j);
        heavy = λ j s at. ap (λ (u : DeltaState). u.heavy) (becomes j s at) ∙ ap (λ c. table_of ranks c (width + 1) (2 ^ 64 - 1) (first ranks m source width j).arriving) (begin_len ranks m.rows source j);
        static =
            record {
              size = λ j t at. ap (λ (u : DeltaState). u.rows) (was j t at);
              wide = λ j t at. ap (λ (u : DeltaState). u.width) (was j t at);
              light = λ j t at. subst (λ (u : DeltaState). Keeps m.entries ranks j (is_light width) u.light) (sym (was j t at)) (light_keeps ranks m source width j some g);
              heavy = λ j t at. subst (λ (u : DeltaState). Keeps m.entries ranks j (λ e. not (is_light width e)) u.heavy) (sym (was j t at)) (heavy_keeps ranks m source width j some g);
            };
        size = λ j s at. ap (λ (u : DeltaState). length u.vertices) (first_is j s at) ∙ begin_len ranks m.rows source j;
        weighed = pending_found ranks m source width some positive narrow g source_in;
        bound = λ v w is. (let z : w ≡ 0 = (only_source ranks m source width some positive narrow g source_in v w is).1 in omega arith);
        inside = λ v w is. subst (λ u. u < m.rows) (sym (only_source ranks m source width some positive narrow g source_in v w is).0) source_in;
      }

  vertex_first : (v : ℕ) → vertex_at ranks (full 0) v ≡ get_or (vertices_begin ranks m.rows source (v % ranks)) (v / ranks) unreached_vertex
  vertex_first v = at_vertex ranks (full 0) (v % ranks) (first ranks m source width (v % ranks)) v (first_at ranks m source width (v % ranks) some positive narrow g (mod-lt v some)) refl

  first_vertex : (v : ℕ) → vertex_at ranks (full 0) v ≡ cond (v == source) (weighing 0) unreached_vertex
  first_vertex v =
      elim (cases_eq v source) [
        | inl same ↦
            ap (vertex_at ranks (full 0)) same ∙ vertex_first source ∙ begin_source ranks m.rows source some source_in ∙ sym (ap (λ b. cond b (weighing 0) unreached_vertex) (eq-eqb v source same))
        | inr other ↦ vertex_first v ∙ begin_other ranks m.rows source v some other ∙ sym (ap (λ b. cond b (weighing 0) unreached_vertex) (ne_eqb v source other))
      ]

  weight_first : (b : Bool) → (cond b (weighing 0) unreached_vertex).weight ≡ (if b then Some 0 else None)
  weight_first true = refl
  weight_first false = refl

  mark_first : (b : Bool) → (cond b (weighing 0) unreached_vertex).improved ≡ b
  mark_first true = refl
  mark_first false = refl

  -- ---- All rounds

  known_at : (n : ℕ) → suc n < 2 ^ 61 → Knows (suc n)
  known_at zero l = (to_find ranks m source width some few positive narrow g source_in 0 (lit< tt) first_finds).known
  known_at (suc n) l = (step_at (suc n) (omega arith) (known_at n (omega arith)) (sees (suc n)).phase refl).known

  step : (n : ℕ) → n < 2 ^ 60 → Steps n (next_of m width (sees n))
  step zero l = subst (λ p. Steps 0 (next_phase p (some_active m width (sees 0)))) (sym first_phase) (to_find ranks m source width some few positive narrow g source_in 0 (lit< tt) first_finds)
  step (suc n) l = step_at (suc n) (omega arith) (known_at n (omega arith)) (sees (suc n)).phase refl

  -- no votes in a find round: nothing is pending
  none_pending : (n : ℕ) → n < 2 ^ 62 → ((j : ℕ) (s : DeltaState) → slice_get (full n) j ≡ Some s → s.phase ≡ Find) → cast n ≡ 0 → (v : ℕ) → (sees n).pending v ≡ false
  none_pending n l phase none v =
      let j : ℕ = v % ranks in
      let s = at_rank n l j (mod-lt v some) in
      let vote : delta_rules.vote s.0 ≡ length (marked_places s.0.vertices) = ap (λ p. vote_in p s.0) (phase j s.0 s.1) in
      let total : sum_by delta_rules.vote (full n) ≡ 0 = (let t : min (sum_by delta_rules.vote (full n)) (2 ^ 64 - 1) ≡ 0 = none in omega arith) in
      let one : delta_rules.vote (get_or (full n) j s.0) ≤ sum_by delta_rules.vote (full n) = get_or-le-sum_by delta_rules.vote (full n) j s.0 (within (full n) j s.0 s.1) in
      let mine : delta_rules.vote s.0 ≤ sum_by delta_rules.vote (full n) = subst (λ t. delta_rules.vote t ≤ sum_by delta_rules.vote (full n)) (get_or_from_slice_get (full n) j s.0 s.0 s.1) one in
      ap (λ (w : Vertex). w.improved) (at_vertex ranks (full n) j s.0 v s.1 refl) ∙ none_improved 0 s.0.vertices (omega arith) (v / ranks)

  -- votes in one: a vertex is pending
  some_pending : (n : ℕ) → n < 2 ^ 61 → Knows n → (sees n).phase ≡ Find → cast n ≢ 0 → (v : ℕ) × ((sees n).pending v ≡ true)
  some_pending n l k phase more =
      let total : 0 < sum_by delta_rules.vote (full n) = elim (cases_lt 0 (sum_by delta_rules.vote (full n))) [
        | inl up ↦ up
        | inr z ↦ absurd (more (let e : min (sum_by delta_rules.vote (full n)) (2 ^ 64 - 1) ≡ 0 = omega arith in e))
      ] in
      let s = sum_some delta_rules.vote (full n) total in
      let vote : delta_rules.vote s.1 ≡ length (marked_places s.1.vertices) = ap (λ p. vote_in p s.1) (k.phase s.0 s.1 s.2 ∙ phase) in
      let voting : 0 < delta_rules.vote s.1 = s.3 in
      one_of s.0 s.1 s.2 (low_rank ranks m source width some few positive narrow g source_in n (omega arith) s.0 s.1 s.2) (marked_places s.1.vertices) refl (omega arith)
    where
      one_of : (j : ℕ) (s : DeltaState) → slice_get (full n) j ≡ Some s → j < ranks → (ps : List ℕ) → marked_places s.vertices ≡ ps → 0 < length ps → (v : ℕ) × ((sees n).pending v ≡ true)
      one_of j s at low [] e up = absurd (omega arith)
      one_of j s at low (p ∷ ps) e up =
          let q = was_marked 0 s.vertices p (subst (λ qs. Contains qs p) (sym e) (has_head p ps)) in (
            q.0 * ranks + j,
            ap (λ (w : Vertex). w.improved) (at_vertex ranks (full n) j s (q.0 * ranks + j) at (mod-mul-add q.0 ranks j low))
                ∙ ap (λ c. (get_or s.vertices c unreached_vertex).improved) (div-mul-add q.0 ranks j low) ∙ q.3,
          )

  -- and so one is active
  found_some : (n : ℕ) → n < 2 ^ 60 → (sees n).phase ≡ Find → cast n ≢ 0 → some_active m width (sees n) ≡ true
  found_some zero l find' more = absurd (let no' : First ≡ Find = sym first_phase ∙ find' in cc)
  found_some (suc n) l find' more =
      let now : Steps n (next_of m width (sees n)) = step n (omega arith) in
      let finds : Finds m width (sees n) (sees (suc n)) = subst (λ p. Changes p m width (sees n) (sees (suc n))) (sym now.phase ∙ find') now.changes in
      let v = some_pending (suc n) (omega arith) now.known find' more in
      finds.reached v.0 v.1

  pub table : HasDeltaRounds ranks m source width
  table =
      let end = over ranks m source width some few positive narrow g source_in in
      let last : ℕ = end.last in
      let bound : last ≤ m.rows * (m.rows + 2) + 1 = end.few_rounds in
      let tall : m.rows ≤ 16384 = g.matrix.tall in
      let most : m.rows * (m.rows + 2) ≤ 16384 * 16386 = mul-le-mul tall (let k : m.rows + 2 ≤ 16386 = omega arith in k) in
      let one : (n : ℕ) → suc n ≡ n + 1 = λ n. omega arith in
      record {
        look = sees;
        begins = first_phase;
        source_found = λ v. ap (λ (w : Vertex). w.weight) (first_vertex v) ∙ weight_first (v == source);
        source_pending = λ v. ap (λ (w : Vertex). w.improved) (first_vertex v) ∙ mark_first (v == source);
        last = last;
        few = end.few_rounds;
        phases = λ n early. subst (λ k. (sees k).phase ≡ next_of m width (sees n)) (one n) (step n (omega arith)).phase;
        changes = λ n early. subst (λ k. Changes (next_of m width (sees n)) m width (sees n) (sees k)) (one n) (step n (omega arith)).changes;
        some = λ n early find'. found_some n (omega arith) find' (end.quiet n early);
        over = phase_is ranks m source width some few positive narrow g source_in last (omega arith) Find end.phase;
        none = none_pending last (omega arith) end.phase end.none;
        least = end.least;
        rounds = run_rounds ranks m source width some few positive narrow g source_in;
        entries_sent = emit_made delta_rules starts 0 ranks (delta_begins ranks m source width) (to_rows ranks m) refl (λ r low. refl);
        sent = λ n early.
            subst (λ k. Emit delta_rules starts k ranks (line_in (next_of m width (sees n)) ranks m width (sees n))) (one n)
            (emit_each delta_rules starts (suc n) ranks (line_in (next_of m width (sees n)) ranks m width (sees n)) (length-map (full n) _ ∙ (full_in n (omega arith)).size) (step n (omega arith)).sent);
      }

  -- ---- The votes

  vote_on : (n : ℕ) → suc n < 2 ^ 60 → Knows (suc n) → (p : Phase) → (sees (suc n)).phase ≡ p → (r : ℕ) (s : DeltaState) → slice_get (full (suc n)) r ≡ Some s
      → vote_in p s ≡ delta_vote p ranks m width (sees (suc n)) r
  vote_on n l k First is r s at = refl
  vote_on n l k Heavy is r s at = refl
  vote_on n l k Find is r s at =
      let low : r < ranks = low_rank ranks m source width some few positive narrow g source_in (suc n) (omega arith) r s at in
      sym (length-map (marked_places s.vertices) (vertex_in ranks r))
      ∙ ap (λ ps. length (map (vertex_in ranks r) ps)) (marks ranks m source width some few positive narrow g source_in (suc n) (omega arith) r s at (size_is ranks m source width some few positive narrow g source_in (suc n) (omega arith) k.static r s at))
      ∙ ap length (own_by_place ranks r m.rows (sees (suc n)).pending low (pending_in ranks m source width some few positive narrow g source_in (suc n) k))
  vote_on n l k Light is r s at =
      let low : r < ranks = low_rank ranks m source width some few positive narrow g source_in (suc n) (omega arith) r s at in
      let active : ℕ → Bool = is_active width (sees (suc n)) in
      ap (λ c. 1 + c)
      (sym (length-map (places_where (in_bucket s.width s.bucket) s.vertices) (vertex_in ranks r))
      ∙ ap (λ ps. length (map (vertex_in ranks r) ps)) (picked_is ranks m source width some few positive narrow g source_in (suc n) (omega arith) k r s at)
      ∙ ap length (own_by_place ranks r m.rows active low (active_in ranks m source width some few positive narrow g source_in (suc n) k)))

  vote_is : (n : ℕ) → n < 2 ^ 60 → (r : ℕ) (s : DeltaState) → slice_get (full n) r ≡ Some s → delta_rules.vote s ≡ delta_vote (sees n).phase ranks m width (sees n) r
  vote_is zero l r s at =
      ap (λ (u : DeltaState). vote_in u.phase u) (first_is r s at) ∙ sym (ap (λ p. delta_vote p ranks m width (sees 0) r) first_phase)
  vote_is (suc n) l r s at =
      let k : Knows (suc n) = known_at n (omega arith) in
      ap (λ p. vote_in p s) (k.phase r s at) ∙ vote_on n l k (sees (suc n)).phase refl r s at

  pub delta_table : HasTable delta_rules starts ranks (IsDeltaTable ranks m source width)
  unfolding table
  delta_table =
      let tall : m.rows ≤ 16384 = g.matrix.tall in
      let most : m.rows * (m.rows + 2) ≤ 16384 * 16386 = mul-le-mul tall (let k : m.rows + 2 ≤ 16386 = omega arith in k) in
      let bound : table.last ≤ m.rows * (m.rows + 2) + 1 = table.few in
      record {
        table = record { rounds = table.last + 1; line = delta_line ranks m width sees; vote = λ n. delta_vote (sees n).phase ranks m width (sees n) };
        is =
            record {
              look = sees;
              begins = table.begins;
              source_found = table.source_found;
              source_pending = table.source_pending;
              last = table.last;
              phases = table.phases;
              changes = table.changes;
              some = table.some;
              over = table.over;
              none = table.none;
              is = refl;
            };
        follows =
            record {
              has_rounds = table.rounds;
              sent = sends;
              voted = λ n low. vote_each delta_rules starts n ranks (delta_vote (sees n).phase ranks m width (sees n)) (length-map-range_with_len (delta_begins ranks m source width) 0 ranks) (λ r s inside at. vote_is n (omega arith) r s at);
            };
      }
    where
      sends : (n : ℕ) → n < table.last + 1 → Emit delta_rules starts n ranks (delta_line ranks m width sees n)
      sends zero low = table.entries_sent
      sends (suc k) low =
          subst (λ n. Emit delta_rules starts n ranks (line_in (next_of m width (sees k)) ranks m width (sees k))) (let z : k + 1 ≡ suc k = omega arith in z) (table.sent k (omega arith))

pub delta : DeltaRounds
delta ranks m source width some few positive narrow g source_in = table ranks m source width some few positive narrow g source_in
