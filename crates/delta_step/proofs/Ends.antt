-- The canonical run of delta-stepping ends within n (n + 2) + 2 rounds, and then each weight is
-- least.
use Rattle.std.proofs.Common.{ℕ, suc, ◌+◌, ◌-◌, ◌*◌, ◌/◌, ◌%◌, ◌^◌, ◌<◌, ◌≤◌, ◌≡◌, ◌≢◌, ◌==◌, not, Bool, List, Some, length, map, get_or, slice_get, arith, refl, sym, ap, ◌∙◌, subst, lit<, lit≤}
use Rattle.std.proofs.Math.Nat.{mul-le-mul}
use Rattle.std.proofs.lemmas.Bool.{eq-eqb, ne_eqb}
use Rattle.std.proofs.lemmas.List.{length-map}
use Rattle.list_laws.proofs.Lists.{within, get_once, got_map}
use Rattle.mtx_text.specs.Sparse.{Sparse}
use Rattle.round_program.specs.Canonical.{end_all, states_at, votes_at, HasRounds, EndsWithin}
use Rattle.round_program.proofs.Members.{rounds_once}
use Rattle.sparse_rows.specs.Owners.{places_for}
use Rattle.least_walks.specs.declared.vertices.Vertex.{Vertex}
use Rattle.least_walks.specs.Walks.{IsLeast}
use Rattle.least_walks.specs.Vertices.{unreached_vertex, calm_if, in_bucket}
use Rattle.app_sssp.specs.SsspRuns.{IsGraph}
use Rattle.delta_step.specs.Deltas.{DeltaState, delta_rules, ended_in, finding, sorted_out, after_activation}
use Rattle.delta_step.specs.DeltaRuns.{delta_starts}
use Rattle.delta_step.proofs.Buckets.{is_light}
use Rattle.delta_step.proofs.BucketEnds.{left_count, later_most}
use Rattle.delta_step.proofs.OfferRounds.{at_vertex}
use Rattle.delta_step.proofs.Transits.{Keeps, calm_at, calm_weight}
use Rattle.delta_step.proofs.FindRounds.{IsFinding}
use Rattle.delta_step.proofs.Begins.{first, first_at, light_keeps, heavy_keeps, only_source, pending_found, first_owes}
use Rattle.delta_step.proofs.Runs.{full, stage, full_in, AtFind, find_after, voted, Over, buckets_end}

module _ (ranks : ℕ) (m : Sparse) (source width : ℕ) (some : 0 < ranks) (few : ranks ≤ 64) (positive : 0 < width) (narrow : width ≤ 1_000_000_000_000) (g : IsGraph m) (source_in : source < m.rows) where
  abbrev starts : List DeltaState
  starts = delta_starts ranks m source width

  abbrev all_at : ℕ → List DeltaState
  all_at n = full ranks m source width some few positive narrow g source_in n

  first_is : (j : ℕ) (s : DeltaState) → slice_get (all_at 0) j ≡ Some s → s ≡ first ranks m source width j
  first_is j s at =
      let low : j < ranks = subst (λ k. j < k) (full_in ranks m source width some few positive narrow g source_in 0 (lit< tt)).size (within (all_at 0) j s at) in
      get_once (all_at 0) j s (first ranks m source width j) at (first_at ranks m source width j some positive narrow g low)

  abbrev votes : ℕ → ℕ
  votes n = votes_at delta_rules starts n

  ended_first : (j : ℕ) (s : DeltaState) → slice_get (all_at 0) j ≡ Some s → delta_rules.ended s (votes 0) ≡ finding (sorted_out (first ranks m source width j))
  ended_first j s at = ap (λ t. delta_rules.ended t (votes 0)) (first_is j s at)

  was_first : (j : ℕ) (t : DeltaState) → slice_get (end_all delta_rules (all_at 0)) j ≡ Some t → t ≡ finding (sorted_out (first ranks m source width j))
  was_first j t at = (let s = got_map (λ s. delta_rules.ended s (votes 0)) (all_at 0) j t at in sym s.2 ∙ ended_first j s.0 s.1)

  first_find : AtFind ranks m source width some few positive narrow g source_in 1 0 0
  first_find =
      find_after ranks m source width some few positive narrow g source_in 0 0 0 (lit< tt)
      (λ j s at. (
        subst (IsFinding width) (sym (ended_first j s at)) (record { phase = refl; none = refl; unsettled = refl; wide = refl; outgoing = refl }),
        ap (λ (u : DeltaState). u.vertices) (ended_first j s at) ∙ sym (ap (λ (u : DeltaState). u.vertices) (first_is j s at)),
      ))
      (record {
        size = λ j t at. ap (λ (u : DeltaState). u.rows) (was_first j t at);
        wide = λ j t at. ap (λ (u : DeltaState). u.width) (was_first j t at);
        light = λ j t at. subst (λ (u : DeltaState). Keeps m.entries ranks j (is_light width) u.light) (sym (was_first j t at)) (light_keeps ranks m source width j some g);
        heavy = λ j t at. subst (λ (u : DeltaState). Keeps m.entries ranks j (λ e. not (is_light width e)) u.heavy) (sym (was_first j t at)) (heavy_keeps ranks m source width j some g);
      })
      (first_owes ranks m source width some positive narrow g source_in)
      (pending_found ranks m source width some positive narrow g source_in)
      (record {
        floor = λ v k pending found. omega arith;
        below = λ v k found. (let is = only_source ranks m source width some positive narrow g source_in v k found in let z : k ≡ 0 = is.1 in omega arith);
      })
      (lit≤ tt)
      (let all : left_count m.rows (0 * width) (stage ranks m source width some few positive narrow g source_in 0).found ≤ m.rows * 1 = later_most m.rows (0 * width) (stage ranks m source width some few positive narrow g source_in 0).found in omega arith)
      (λ j l. subst (λ i. votes i ≢ 0) (let e : 0 ≡ j = omega arith in e)
      (voted ranks m source width some few positive narrow g source_in 0 (lit< tt) (λ i s at. (let one : delta_rules.vote s ≡ 1 = ap delta_rules.vote (first_is i s at) in omega arith))))

  pub over : Over ranks m source width some few positive narrow g source_in
  over = buckets_end ranks m source width some few positive narrow g source_in m.rows 1 0 0 (omega arith) (omega arith) first_find

  pub run_rounds : HasRounds delta_rules starts (over.last + 1)
  run_rounds =
      record {
        some = omega arith;
        goes = λ k l. ap not (ne_eqb (votes k) 0 (over.quiet k (omega arith)));
        stops = (let back : over.last + 1 - 1 ≡ over.last = omega arith in ap (λ k. not (votes k == 0)) back ∙ ap not (eq-eqb (votes over.last) 0 over.none));
      }

  pub run_ends : EndsWithin delta_rules starts (m.rows * (m.rows + 2) + 2)
  run_ends = record { rounds = over.last + 1; has_rounds = run_rounds; at_most = (let l : over.last ≤ m.rows * (m.rows + 2) + 1 = over.few_rounds in omega arith) }

  -- what the owner of a vertex has at the end
  pub record IsOwner (v : ℕ) (s : DeltaState) : Type 0 where
    pub rows : s.rows ≡ m.rows
    pub size : length s.vertices ≡ places_for ranks m.rows
    pub least : IsLeast m.entries source v (get_or s.vertices (v / ranks) unreached_vertex).weight

  rounds_are : (rounds : ℕ) → HasRounds delta_rules starts rounds → rounds ≡ suc over.last
  rounds_are rounds h = rounds_once delta_rules starts rounds (over.last + 1) h run_rounds ∙ (let e : over.last + 1 ≡ suc over.last = omega arith in e)

  last_low : over.last < 2 ^ 62
  last_low =
      let few_rounds : over.last ≤ m.rows * (m.rows + 2) + 1 = over.few_rounds in
      let tall : m.rows ≤ 16384 = g.matrix.tall in
      let bound : m.rows * (m.rows + 2) ≤ 16384 * 16386 = mul-le-mul tall (let k : m.rows + 2 ≤ 16386 = omega arith in k) in
      omega arith

  pub ends_len : (rounds : ℕ) → HasRounds delta_rules starts rounds → length (states_at delta_rules starts rounds) ≡ ranks
  ends_len rounds h =
      let low : over.last < 2 ^ 62 = last_low in
      ap (λ k. length (states_at delta_rules starts k)) (rounds_are rounds h) ∙ length-map (all_at over.last) _
      ∙ (full_in ranks m source width some few positive narrow g source_in over.last (omega arith)).size

  pub owner_has : (rounds : ℕ) → HasRounds delta_rules starts rounds → (v : ℕ) (s : DeltaState) → slice_get (states_at delta_rules starts rounds) (v % ranks) ≡ Some s → IsOwner v s
  owner_has rounds h v s at =
      let low : over.last < 2 ^ 62 = last_low in
      let r : ℕ = v % ranks in
      let there : slice_get (end_all delta_rules (all_at over.last)) r ≡ Some s = subst (λ k. slice_get (states_at delta_rules starts k) r ≡ Some s) (rounds_are rounds h) at in
      let u = got_map (λ t. delta_rules.ended t (votes over.last)) (all_at over.last) r s there in
      let all = full_in ranks m source width some few positive narrow g source_in over.last (omega arith) in
      let is : s ≡ after_activation u.0 = sym u.2 ∙ ap (λ p. ended_in p u.0 (votes over.last)) (over.phase r u.0 u.1) in
      let rows : u.0.rows ≡ m.rows = over.size r u.0 u.1 in
      let test : Vertex → Bool = in_bucket u.0.width u.0.bucket in
      let vs : s.vertices ≡ map (calm_if test) u.0.vertices = ap (λ (t : DeltaState). t.vertices) is in
      record {
        rows = ap (λ (t : DeltaState). t.rows) is ∙ rows;
        size = ap length vs ∙ length-map u.0.vertices (calm_if test) ∙ (all.each r u.0 u.1).valid.places ∙ ap (λ p. places_for p u.0.rows) (all.each r u.0 u.1).all_ranks ∙ ap (places_for ranks) rows;
        least =
            subst (IsLeast m.entries source v)
            (ap (λ (w : Vertex). w.weight) (at_vertex ranks (all_at over.last) r u.0 v u.1 refl)
            ∙ sym (ap (λ ws. (get_or ws (v / ranks) unreached_vertex).weight) vs ∙ ap (λ (w : Vertex). w.weight) (calm_at test u.0.vertices (v / ranks) refl) ∙ calm_weight test (get_or u.0.vertices (v / ranks) unreached_vertex)))
            (over.least v);
      }
