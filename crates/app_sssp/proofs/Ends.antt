-- The canonical run of sssp: it ends within n + 1 rounds, and then each weight is least.
use Rattle.std.proofs.Common.{ℕ, zero, suc, ◌+◌, ◌-◌, ◌*◌, ◌/◌, ◌%◌, ◌^◌, ◌<◌, ◌≤◌, ◌≡◌, ◌≢◌, ◌==◌, true, false, cond, List, [], ◌∷◌, Some, length, map, get_or, slice_get, sum_by, All, arith, inl, inr, refl, sym, ap, ◌∙◌, subst, lit<}
use Rattle.std.specs.Prelude.{◌||◌, not}
use Rattle.std.proofs.Math.Nat.{mod-lt}
use Rattle.std.proofs.lemmas.Bool.{cases_eq, eq-eqb, ne_eqb, false≢true}
use Rattle.std.proofs.lemmas.Nat.{div-mul-add, mod-mul-add}
use Rattle.std.proofs.lemmas.List.{length-map}
use Rattle.std.proofs.lemmas.List.Sums.{sum_by-le, get_or-le-sum_by}
use Rattle.std.proofs.lemmas.Option.{get_or_from_slice_get}
use Rattle.list_laws.proofs.Lists.{find, within, get_once, got_map, all_from_gets}
use Rattle.mtx_text.specs.Sparse.{Sparse}
use Rattle.round_program.specs.Canonical.{absorbed_round, end_all, states_at, votes_at, vote_sum, HasRounds, EndsWithin, InRound}
use Rattle.round_program.proofs.Members.{in_round, absorbed_in, rounds_once}
use Rattle.sparse_rows.specs.Owners.{places_for}
use Rattle.least_walks.specs.declared.vertices.Vertex.{Vertex}
use Rattle.least_walks.specs.Walks.{IsLeast}
use Rattle.least_walks.specs.Vertices.{unreached_vertex, marked_places, calm}
use Rattle.least_walks.proofs.Offered.{none_improved, none_counted, calm_at}
use Rattle.app_sssp.specs.Sssps.{SsspState, sssp_rules}
use Rattle.app_sssp.specs.laws.SsspLaws.{sssp_laws}
use Rattle.app_sssp.specs.SsspRuns.{IsGraph, sssp_starts}
use Rattle.app_sssp.proofs.Rounds.{Stage, Round, Reached, next_reached, none_fresh, all_least}
use Rattle.app_sssp.proofs.Stages.{Knows, stage_of, at_vertex, one_round, still_knows, still_size}
use Rattle.app_sssp.proofs.Begins.{graph_edges, starts_in_round, first, first_at, first_knows, first_reached}

-- the greatest weight of an edge
abbrev pub LIMIT : ℕ
LIMIT = 1_000_000_000_000

-- ---- The first number with a property

record First (f : ℕ → ℕ) (n : ℕ) : Type 0 where
  pub at : ℕ
  pub some : 1 ≤ at
  pub low : at ≤ n
  pub zero_there : f at ≡ 0
  pub none_before : (k : ℕ) → 1 ≤ k → k < at → f k ≢ 0

first_from : (f : ℕ → ℕ) (n m left : ℕ) → 1 ≤ m → m + left ≡ n → f n ≡ 0 → ((k : ℕ) → 1 ≤ k → k < m → f k ≢ 0) → First f n
first_from f n m zero some e z before = record { at = m; some = some; low = omega arith; zero_there = ap f (let s : m ≡ n = omega arith in s) ∙ z; none_before = before }
first_from f n m (suc left) some e z before =
    elim (cases_eq (f m) 0) [
      | inl here ↦ record { at = m; some = some; low = omega arith; zero_there = here; none_before = before }
      | inr not_here ↦ first_from f n (suc m) left (omega arith) (omega arith) z (λ k l h. elim (cases_eq k m) [
        | inl same ↦ subst (λ j. f j ≢ 0) (sym same) not_here
        | inr other ↦ before k l (omega (arith, other))
      ])
    ]

first_zero : (f : ℕ → ℕ) (n : ℕ) → 1 ≤ n → f n ≡ 0 → First f n
first_zero f n some z = first_from f n 1 (n - 1) (omega arith) (omega arith) z (λ k l h. absurd (omega arith))

-- ---- The rounds

module _ (ranks : ℕ) (m : Sparse) (source : ℕ) (some : 0 < ranks) (g : IsGraph m) (source_in : source < m.rows) where
  abbrev starts : List SsspState
  starts = sssp_starts ranks m source

  -- all ranks as the absorbs of round n are over
  abbrev pub full : ℕ → List SsspState
  full n = absorbed_round sssp_rules (states_at sssp_rules starts n)

  abbrev pub stage : ℕ → Stage
  stage n = stage_of ranks (full n)

  full_in : (n : ℕ) → n < 2 ^ 64 → InRound sssp_rules ranks n (m.rows ∷ []) (m.rows + 1) (full n)
  full_in n l =
      absorbed_in sssp_rules sssp_laws ranks n (m.rows ∷ []) (m.rows + 1) (states_at sssp_rules starts n)
      (in_round sssp_rules sssp_laws ranks (m.rows ∷ []) (m.rows + 1) starts n (starts_in_round ranks m source g.matrix g.square) l)

  pub record Run (n : ℕ) : Type 0 where
    pub size : (r : ℕ) (s : SsspState) → slice_get (full n) r ≡ Some s → s.rows ≡ m.rows
    pub knows : (r : ℕ) (s : SsspState) → slice_get (full n) r ≡ Some s → Knows m.entries ranks r s
    pub reached : Reached m.entries source LIMIT n (stage n)

  -- weights stay below 2^60
  small : (n : ℕ) → n ≤ 16384 → Run n → (v k : ℕ) → (stage n).found v ≡ Some k → k ≤ 2 ^ 60
  small n l run v k found = (let b : k ≤ n * LIMIT = run.reached.bounded v k found in omega arith)

  round_at : (n : ℕ) → n ≤ 16384 → Run n → Round m.entries (stage n) (stage (suc n))
  round_at n l run =
      one_round m.entries m.rows ranks n (full n) (m.rows ∷ []) (m.rows + 1) some (graph_edges m g) (full_in n (omega arith)) run.size run.knows (small n l run)

  next_run : (n : ℕ) → n ≤ 16384 → Run n → Run (suc n)
  next_run n l run =
      record {
        size = still_size m.entries m.rows ranks n (full n) (m.rows ∷ []) (m.rows + 1) some (graph_edges m g) (full_in n (omega arith)) run.size run.knows (small n l run);
        knows = still_knows m.entries m.rows ranks n (full n) (m.rows ∷ []) (m.rows + 1) some (graph_edges m g) (full_in n (omega arith)) run.size run.knows (small n l run);
        reached =
            subst (λ k. Reached m.entries source LIMIT k (stage (suc n))) (let e : n + 1 ≡ suc n = omega arith in e)
            (next_reached m.entries source LIMIT n (stage n) (stage (suc n)) (graph_edges m g).light run.reached (round_at n l run));
      }

  first_is : (r : ℕ) (s : SsspState) → slice_get (full 0) r ≡ Some s → s ≡ first ranks m source r
  first_is r s at =
      let low : r < ranks = subst (λ k. r < k) (full_in 0 (lit< tt)).size (within (full 0) r s at) in
      get_once (full 0) r s (first ranks m source r) at (first_at ranks m source r some g low)

  pub run_at : (n : ℕ) → n ≤ 16385 → Run n
  run_at zero l =
      record {
        size = λ r s at. ap (λ (t : SsspState). t.rows) (first_is r s at);
        knows = λ r s at. subst (Knows m.entries ranks r) (sym (first_is r s at)) (first_knows ranks m source r some g);
        reached = first_reached ranks m source some g source_in LIMIT;
      }
  run_at (suc n) l = next_run n (omega arith) (run_at n (omega arith))

  -- ---- Votes

  vote_later : (s : SsspState) → s.round ≢ 0 → sssp_rules.vote s ≡ length (marked_places s.vertices)
  vote_later s n = ap (λ b. cond b 0 (length (marked_places s.vertices))) (ne_eqb s.round 0 n)

  -- no votes: no vertex was improved
  none_voted : (n : ℕ) → 1 ≤ n → n < 2 ^ 64 → votes_at sssp_rules starts n ≡ 0 → (v : ℕ) → (stage n).fresh v ≡ false
  none_voted n late l none v =
      let r : ℕ = v % ranks in
      let all : InRound sssp_rules ranks n (m.rows ∷ []) (m.rows + 1) (full n) = full_in n l in
      let s = find (full n) r (subst (λ k. r < k) (sym all.size) (mod-lt v some)) in
      let total : sum_by sssp_rules.vote (full n) ≡ 0 = omega (arith, none) in
      let one : sssp_rules.vote (get_or (full n) r s.0) ≤ sum_by sssp_rules.vote (full n) = get_or-le-sum_by sssp_rules.vote (full n) r s.0 (within (full n) r s.0 s.1) in
      let is : get_or (full n) r s.0 ≡ s.0 = get_or_from_slice_get (full n) r s.0 s.0 s.1 in
      let mine : sssp_rules.vote s.0 ≤ sum_by sssp_rules.vote (full n) = subst (λ t. sssp_rules.vote t ≤ sum_by sssp_rules.vote (full n)) is one in
      let round : s.0.round ≡ n = (all.each r s.0 s.1).same_round in
      let marks : length (marked_places s.0.vertices) ≡ 0 = sym (vote_later s.0 (λ z. absurd (omega arith))) ∙ (let e : sssp_rules.vote s.0 ≡ 0 = omega (arith, mine, total) in e) in
      ap (λ (w : Vertex). w.improved) (at_vertex ranks (full n) r s.0 v s.1 refl) ∙ none_improved 0 s.0.vertices marks (v / ranks)

  -- no vertex improved: no votes
  none_left : (n : ℕ) → 1 ≤ n → n < 2 ^ 64 → ((v : ℕ) → (stage n).fresh v ≡ false) → votes_at sssp_rules starts n ≡ 0
  none_left n late l calm' =
      let all : InRound sssp_rules ranks n (m.rows ∷ []) (m.rows + 1) (full n) = full_in n l in
      let each : All (λ s. sssp_rules.vote s ≤ 0) (full n) =
      all_from_gets (λ s. sssp_rules.vote s ≤ 0) (full n) (λ r s at.
      let low : r < ranks = subst (λ k. r < k) all.size (within (full n) r s at) in
      let round : s.round ≡ n = (all.each r s at).same_round in
      let marks : length (marked_places s.vertices) ≡ 0 =
      none_counted 0 s.vertices (λ p.
      ap (λ q. (get_or s.vertices q unreached_vertex).improved) (sym (div-mul-add p ranks r low))
      ∙ ap (λ (w : Vertex). w.improved) (sym (at_vertex ranks (full n) r s (p * ranks + r) at (mod-mul-add p ranks r low)))
      ∙ calm' (p * ranks + r)) in
      let vote : sssp_rules.vote s ≡ 0 = vote_later s (λ z. absurd (omega arith)) ∙ marks in
      omega (arith, vote)) in
      let total : sum_by sssp_rules.vote (full n) ≤ length (full n) * 0 = sum_by-le sssp_rules.vote 0 (full n) each in
      omega (arith, total)

  -- ---- The end

  shape_goes : (n votes : ℕ) → n ≢ 0 → (n == 0 || not (votes == 0)) ≡ not (votes == 0)
  shape_goes n votes d = ap (λ b. b || not (votes == 0)) (ne_eqb n 0 d)

  last_votes : votes_at sssp_rules starts m.rows ≡ 0
  last_votes =
      let tall : m.rows ≤ 16384 = g.matrix.tall in
      let k : ℕ = m.rows - 1 in
      let up : suc k ≡ m.rows = omega arith in
      let before : Run k = run_at k (omega arith) in
      let then' : Run (suc k) = run_at (suc k) (omega arith) in
      let none : (v : ℕ) → (stage (suc k)).fresh v ≡ false =
      none_fresh m.entries m.rows source LIMIT k (stage k) (stage (suc k)) (graph_edges m g).from (graph_edges m g).to before.reached
      (subst (λ j. Reached m.entries source LIMIT j (stage (suc k))) (let e : suc k ≡ k + 1 = omega arith in e) then'.reached) (round_at k (omega arith) before) (omega arith) in
      subst (λ j. votes_at sssp_rules starts j ≡ 0) up (none_left (suc k) (omega arith) (omega arith) none)

  pub run_ends : EndsWithin sssp_rules starts (m.rows + 1)
  run_ends =
      let last : First (votes_at sssp_rules starts) m.rows = first_zero (votes_at sssp_rules starts) m.rows (omega arith) last_votes in
      record {
        rounds = last.at + 1;
        has_rounds =
            record {
              some = omega arith;
              goes = λ k l. goes k last l;
              stops =
                  (let back : last.at + 1 - 1 ≡ last.at = omega arith in
                  ap (λ k. k == 0 || not (votes_at sssp_rules starts k == 0)) back
                  ∙ shape_goes last.at (votes_at sssp_rules starts last.at) (λ z. absurd (let s : 1 ≤ last.at = last.some in omega arith))
                  ∙ ap not (eq-eqb (votes_at sssp_rules starts last.at) 0 last.zero_there));
            };
        at_most = (let l : last.at ≤ m.rows = last.low in omega arith);
      }
    where
      goes : (k : ℕ) (last : First (votes_at sssp_rules starts) m.rows) → k + 1 < last.at + 1 → (k == 0 || not (votes_at sssp_rules starts k == 0)) ≡ true
      goes k last l =
          elim (cases_eq k 0) [
            | inl z ↦ ap (λ b. b || not (votes_at sssp_rules starts k == 0)) (eq-eqb k 0 z)
            | inr n ↦
                shape_goes k (votes_at sssp_rules starts k) n
                ∙ ap not (ne_eqb (votes_at sssp_rules starts k) 0 (last.none_before k (omega (arith, n)) (omega arith)))
          ]

  -- after the run
  pub record Over (rounds : ℕ) : Type 0 where
    pub last : ℕ
    pub is : rounds ≡ suc last
    pub few : last ≤ m.rows
    pub least : (v : ℕ) → IsLeast m.entries source v ((stage last).found v)

  pub when_over : (rounds : ℕ) → HasRounds sssp_rules starts rounds → Over rounds
  when_over rounds h =
      let same : rounds ≡ run_ends.rounds = rounds_once sssp_rules starts rounds run_ends.rounds h run_ends.has_rounds in
      let bound : run_ends.rounds ≤ m.rows + 1 = run_ends.at_most in
      let tall : m.rows ≤ 16384 = g.matrix.tall in
      let k : ℕ = rounds - 1 in
      let late : k ≢ 0 = λ z. absurd (false≢true (sym h.stops ∙ ap (λ j. j == 0 || not (votes_at sssp_rules starts j == 0)) z)) in
      let none : votes_at sssp_rules starts k ≡ 0 = quiet (votes_at sssp_rules starts k) (sym (shape_goes k (votes_at sssp_rules starts k) late) ∙ h.stops) in
      let few : k ≤ m.rows = omega arith in
      record {
        last = k;
        is = (let s : 0 < rounds = h.some in omega arith);
        few = few;
        least = all_least m.entries source LIMIT k (stage k) (run_at k (omega arith)).reached (none_voted k (omega (arith, late)) (omega arith) none);
      }
    where
      quiet : (n : ℕ) → not (n == 0) ≡ false → n ≡ 0
      quiet n h = elim (cases_eq n 0) [ inl z ↦ z | inr d ↦ absurd (false≢true (sym h ∙ ap not (ne_eqb n 0 d))) ]

  -- what the owner of a vertex has at the end
  pub record IsOwner (v : ℕ) (s : SsspState) : Type 0 where
    pub rows : s.rows ≡ m.rows
    pub size : length s.vertices ≡ places_for ranks m.rows
    pub least : IsLeast m.entries source v (get_or s.vertices (v / ranks) unreached_vertex).weight

  pub ends_len : (rounds : ℕ) → HasRounds sssp_rules starts rounds → length (states_at sssp_rules starts rounds) ≡ ranks
  ends_len rounds h =
      let over : Over rounds = when_over rounds h in
      let tall : m.rows ≤ 16384 = g.matrix.tall in
      let few : over.last ≤ m.rows = over.few in
      ap (λ k. length (states_at sssp_rules starts k)) over.is ∙ length-map (full over.last) _ ∙ (full_in over.last (omega arith)).size

  pub owner_has : (rounds : ℕ) → HasRounds sssp_rules starts rounds → (v : ℕ) (s : SsspState) → slice_get (states_at sssp_rules starts rounds) (v % ranks) ≡ Some s → IsOwner v s
  owner_has rounds h v s at =
      let over : Over rounds = when_over rounds h in
      let tall : m.rows ≤ 16384 = g.matrix.tall in
      let few : over.last ≤ m.rows = over.few in
      let r : ℕ = v % ranks in
      let votes : ℕ = vote_sum sssp_rules (full over.last) in
      let there : slice_get (end_all sssp_rules (full over.last)) r ≡ Some s = subst (λ k. slice_get (states_at sssp_rules starts k) r ≡ Some s) over.is at in
      let u = got_map (λ t. sssp_rules.ended t votes) (full over.last) r s there in
      let all : InRound sssp_rules ranks over.last (m.rows ∷ []) (m.rows + 1) (full over.last) = full_in over.last (omega arith) in
      let run : Run over.last = run_at over.last (omega arith) in
      let rows : u.0.rows ≡ m.rows = run.size r u.0 u.1 in
      let vs : s.vertices ≡ map calm u.0.vertices = ap (λ (t : SsspState). t.vertices) (sym u.2) in
      record {
        rows = ap (λ (t : SsspState). t.rows) (sym u.2) ∙ rows;
        size = ap length vs ∙ length-map u.0.vertices calm ∙ (all.each r u.0 u.1).valid.places ∙ ap (λ p. places_for p u.0.rows) (all.each r u.0 u.1).all_ranks ∙ ap (places_for ranks) rows;
        least =
            subst (IsLeast m.entries source v)
            (ap (λ (w : Vertex). w.weight) (at_vertex ranks (full over.last) r u.0 v u.1 refl) ∙ sym (ap (λ (w : Vertex). w.weight) (calm_at u.0.vertices (v / ranks))) ∙ ap (λ ws. (get_or ws (v / ranks) unreached_vertex).weight) (sym vs))
            (over.least v);
      }
