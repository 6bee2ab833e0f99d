-- An even round of topo takes the ranks from what a level frees to the claims of the next level.
use Rattle.std.proofs.Common.{ℕ, suc, ◌+◌, ◌-◌, ◌*◌, ◌/◌, ◌%◌, ◌^◌, ◌<◌, ◌≤◌, ◌≡◌, ◌≢◌, ◌==◌, ◌++◌, min, Bool, true, false, cond, eqb, List, [], ◌∷◌, Some, map, length, slice_get, count_by, All, arith, inl, inr, refl, sym, ap, ◌∙◌, subst}
use Rattle.std.specs.Prelude.{nat_lt}
use Rattle.std.specs.List.{AllPairs, fold, filter, range_with_len}
use Rattle.std.proofs.Math.Nat.{mod-lt}
use Rattle.std.proofs.lemmas.Bool.{cases_eq, cases_lt, eq-eqb, ne_eqb, eqb-true}
use Rattle.std.proofs.lemmas.List.Elements.{All-head, All-tail, All-nil, All-map}
use Rattle.std.proofs.lemmas.List.FromFn.{length-map-range_with_len}
use Rattle.bale_items.specs.declared.Item.{Item}
use Rattle.bale_items.specs.declared.triple.Triple.{Triple}
use Rattle.list_laws.proofs.Lists.{get_once}
use Rattle.mtx_text.specs.Sparse.{Sparse, IsSparse}
use Rattle.mtx_text.specs.Cells.{is_before, InOrder, with_value_raised}
use Rattle.mtx_text.proofs.PlaceOrder.{pairs_none}
use Rattle.mtx_text.proofs.Raised.{raised_ordered}
use Rattle.mtx_text.proofs.Gathered.{raised_keeps}
use Rattle.round_program.specs.Canonical.{absorbed_round, after_whole_round, InRound}
use Rattle.round_program.specs.Orders.{absorb_each}
use Rattle.sparse_rows.specs.Deals.{dealt}
use Rattle.sparse_rows.specs.Owners.{places_for}
use Rattle.sparse_rows.proofs.Doubles.{one_if}
use Rattle.sparse_rows.proofs.EveryEntry.{every_owned}
use Rattle.sparse_rows.proofs.Gathering.{row_of, pairs_map}
use Rattle.sparse_rows.proofs.Places.{place_own, place_below}
use Rattle.sparse_rows.proofs.Starts.{made_at, made_from, round_made}
use Rattle.app_topo.specs.Levels.{Claim, row_claims, is_ready, claimed_column}
use Rattle.app_topo.specs.Topos.{TopoState, topo_rules, spot, number_at, placed_in, topo_next_outgoing, claims_of, falls_of, own_rows, after_entry, claimed_by, after_fall}
use Rattle.app_topo.specs.laws.TopoLaws.{topo_laws, in_even, added_here, added_there, added_len}
use Rattle.app_topo.proofs.Counting.{count_cons, count_append}
use Rattle.app_topo.proofs.LevelFacts.{IsReady, ready_from}
use Rattle.app_topo.proofs.TopoTables.{table, table_at, added_all, IsFor}
use Rattle.app_topo.proofs.TopoStates.{claims, next, freed, open_number, open_sum, fall_item, claiming, freeing}
use Rattle.app_topo.proofs.TopoClaims.{every, raised_count, dealt_counts, map_counts, rises_more}
use Rattle.app_topo.proofs.TopoClaimRound.{all_claiming}
use Rattle.app_topo.proofs.TopoFalls.{minus_one, minus_column, come_falls, falls_own, numbers_after, sums_after, number_falls, lost}
use Rattle.app_topo.proofs.TopoReady.{Less, comes, claims_next, ready_where, claimed_closed, to_filter, in_range}

abbrev falls_all : TopoState → List (ℕ × Item) → TopoState
falls_all s came = fold (λ u e. after_fall u e.1) s came

each_fallen : (s : TopoState) (came : List (ℕ × Item)) → s.round ≢ 0 → s.round % 2 ≢ 1 → absorb_each topo_rules s came ≡ falls_all s came
each_fallen s [] n o = refl
each_fallen s (e ∷ es) n o =
    ap (λ u. absorb_each topo_rules u es) (in_even s (after_entry s e.1) (claimed_by s e.1) (after_fall s e.1) n o) ∙ each_fallen (after_fall s e.1) es n o

falls_parts : (s : TopoState) (came : List (ℕ × Item))
    → falls_all s came ≡ record s { numbers = added_all s.ranks every minus_one s.numbers came; sums = added_all s.ranks every minus_column s.sums came; came = (falls_all s came).came }
falls_parts s [] = refl
falls_parts s (e ∷ es) = falls_parts (after_fall s e.1) es

-- ---- The rows whose number falls to 1

abbrev has : ℕ → List Triple → ℕ
has i cells = count_by (λ c. c.i == i) cells

maybe_has : (i : ℕ) (b : Bool) (t : Triple) (cells : List Triple) → 0 < has i cells → 0 < has i (cond b (with_value_raised t cells) cells)
maybe_has i true t cells h =
    let c : has i (t ∷ cells) ≡ one_if (eqb t.i i) + has i cells = count_cons (λ c. eqb c.i i) t cells in
    omega (arith, c, (raised_count i t cells).1)
maybe_has i false t cells h = h

now_has : (i : ℕ) (b : Bool) (t : Triple) (cells : List Triple) → b ≡ true → t.i ≡ i → 0 < has i (cond b (with_value_raised t cells) cells)
now_has i b t cells is same =
    let c : has i (t ∷ cells) ≡ one_if (eqb t.i i) + has i cells = count_cons (λ c. eqb c.i i) t cells in
    let one : one_if (eqb t.i i) ≡ 1 = ap one_if (eq-eqb t.i i same) in
    let here : 0 < has i (with_value_raised t cells) = omega (arith, c, one, (raised_count i t cells).1) in
    subst (λ q. 0 < has i (cond q (with_value_raised t cells) cells)) (sym is) here

stays_marked : (i : ℕ) (s : TopoState) (es : List (ℕ × Item)) → 0 < has i s.came → 0 < has i (falls_all s es).came
stays_marked i s [] h = h
stays_marked i s (e ∷ es) h = stays_marked i (after_fall s e.1) es (maybe_has i ((number_at s.ranks s.numbers e.1.a + (2 ^ 64 - 1)) % 2 ^ 64 == 1) (spot e.1.a 0) s.came h)

abbrev times : ℕ → List (ℕ × Item) → ℕ
times i es = count_by (λ e. e.1.a == i) es

unchanged : (i r n : ℕ) (s : TopoState) (es : List (ℕ × Item)) → All (IsFor s.ranks r n) es → i % s.ranks ≡ r → times i es ≡ 0 → number_at s.ranks (falls_all s es).numbers i ≡ number_at s.ranks s.numbers i
unchanged i r n s [] own mine none = refl
unchanged i r n s (e ∷ es) own mine none =
    let c : times i (e ∷ es) ≡ one_if (eqb e.1.a i) + times i es = count_cons (λ e. eqb e.1.a i) e es in
    let here = All-head (IsFor s.ranks r n) e es own in
    let apart : e.1.a ≢ i = λ same. (let one : one_if (eqb e.1.a i) ≡ 1 = ap one_if (eq-eqb e.1.a i same) in omega arith) in
    unchanged i r n (after_fall s e.1) es (All-tail (IsFor s.ranks r n) e es own) mine (omega arith)
    ∙ added_there s.ranks s.numbers e.1.a i (2 ^ 64 - 1) (λ place. apart (place_own s.ranks e.1.a i (here.0 ∙ sym mine) place))

touched : (i r n : ℕ) (s : TopoState) (es : List (ℕ × Item)) → 0 < s.ranks → All (IsFor s.ranks r n) es → length s.numbers ≡ places_for s.ranks n → i % s.ranks ≡ r
    → number_at s.ranks (falls_all s es).numbers i ≡ 1 → 0 < times i es → 0 < has i (falls_all s es).came
touched i r n s [] some own size mine one came = absurd (omega arith)
touched i r n s (e ∷ es) some own size mine one came =
    let c : times i (e ∷ es) ≡ one_if (eqb e.1.a i) + times i es = count_cons (λ e. eqb e.1.a i) e es in
    let here = All-head (IsFor s.ranks r n) e es own in
    let rest = All-tail (IsFor s.ranks r n) e es own in
    elim (cases_lt 0 (times i es)) [
      | inl later ↦ touched i r n (after_fall s e.1) es some rest (added_len s.ranks s.numbers e.1.a (2 ^ 64 - 1) ∙ size) mine one later
      | inr never ↦
          let same : e.1.a ≡ i = elim (cases_eq e.1.a i) [ inl q ↦ q | inr q ↦ (let z : one_if (eqb e.1.a i) ≡ 0 = ap one_if (ne_eqb e.1.a i q) in absurd (omega arith)) ] in
          let place : e.1.a / s.ranks < length s.numbers = subst (λ k. e.1.a / s.ranks < k) (sym size) (place_below s.ranks n e.1.a some here.1) in
          let now : (number_at s.ranks s.numbers e.1.a + (2 ^ 64 - 1)) % 2 ^ 64 ≡ 1 =
          sym (added_here s.ranks s.numbers e.1.a i (2 ^ 64 - 1) (ap (λ k. k / s.ranks) same) place)
          ∙ sym (unchanged i r n (after_fall s e.1) es rest mine (omega arith)) ∙ one in
          stays_marked i (after_fall s e.1) es (now_has i ((number_at s.ranks s.numbers e.1.a + (2 ^ 64 - 1)) % 2 ^ 64 == 1) (spot e.1.a 0) s.came (eq-eqb _ 1 now) same)
    ]

-- what is marked are own rows, rising
record AreMarks (ranks r : ℕ) (cells : List Triple) : Type 0 where
  ordered : InOrder cells
  own : All (λ u. u.i % ranks ≡ r) cells
  flat : All (λ u. u.j ≡ 0) cells

maybe_marks : (ranks r a : ℕ) (b : Bool) (cells : List Triple) → a % ranks ≡ r → AreMarks ranks r cells → AreMarks ranks r (cond b (with_value_raised (spot a 0) cells) cells)
maybe_marks ranks r a true cells own h =
    record {
      ordered = raised_ordered (spot a 0) cells h.ordered;
      own = raised_keeps (λ u. u.i % ranks ≡ r) (λ s u e f p q. p) (spot a 0) cells own h.own;
      flat = raised_keeps (λ u. u.j ≡ 0) (λ s u e f p q. p) (spot a 0) cells refl h.flat;
    }
maybe_marks ranks r a false cells own h = h

are_marks : (r n : ℕ) (s : TopoState) (es : List (ℕ × Item)) → All (IsFor s.ranks r n) es → AreMarks s.ranks r s.came → AreMarks s.ranks r (falls_all s es).came
are_marks r n s [] own h = h
are_marks r n s (e ∷ es) own h =
    are_marks r n (after_fall s e.1) es (All-tail (IsFor s.ranks r n) e es own) (maybe_marks s.ranks r e.1.a ((number_at s.ranks s.numbers e.1.a + (2 ^ 64 - 1)) % 2 ^ 64 == 1) s.came (All-head (IsFor s.ranks r n) e es own).0 h)

-- ---- The round

abbrev all_freeing : ℕ → Sparse → ℕ → List TopoState
all_freeing ranks m t = map (freeing ranks m t) (range_with_len 0 ranks)

abbrev pub IsFreeing : ℕ → Sparse → ℕ → Type 0
IsFreeing ranks m t = InRound topo_rules ranks (2 * t + 2) (m.rows ∷ []) (2 * m.rows + 2) (map (freeing ranks m t) (range_with_len 0 ranks))

falls_absorbed : (ranks : ℕ) (m : Sparse) (t r : ℕ) → 0 < ranks → r < ranks → IsFreeing ranks m t
    → slice_get (absorbed_round topo_rules (all_freeing ranks m t)) r ≡ Some (falls_all (freeing ranks m t r) (come_falls ranks m t r))
falls_absorbed ranks m t r some low begun =
    let even : (2 * t + 2) % 2 ≢ 1 = λ e. absurd (omega arith) in
    every_owned topo_rules topo_laws ranks (2 * t + 2) (m.rows ∷ []) (2 * m.rows + 2) (all_freeing ranks m t) (row_of ranks) (λ u. u.j % ranks) fall_item (freed m t)
    begun (λ k d l. mod-lt _ some)
    (λ f u here. ap topo_rules.emissions (sym (made_from (freeing ranks m t) ranks f u here).1))
    r (freeing ranks m t r) (made_at (freeing ranks m t) ranks r low)
    ∙ ap Some (each_fallen (freeing ranks m t r) (come_falls ranks m t r) (λ z. absurd (omega arith)) even)

abbrev after_falls : ℕ → Sparse → ℕ → ℕ → List Triple → TopoState
after_falls ranks m t r marks = record (freeing ranks m t r) { numbers = table ranks r m.rows (open_number m (claims m (suc t))); sums = table ranks r m.rows (open_sum m (claims m (suc t))); came = marks }

abbrev fallen_marks : ℕ → Sparse → ℕ → ℕ → List Triple
fallen_marks ranks m t r = (falls_all (freeing ranks m t r) (come_falls ranks m t r)).came

falls_are : (ranks : ℕ) (m : Sparse) (t r : ℕ) → r < ranks → m.rows ≡ m.cols → IsSparse m
    → falls_all (freeing ranks m t r) (come_falls ranks m t r) ≡ after_falls ranks m t r (fallen_marks ranks m t r)
falls_are ranks m t r low square is =
    let s : TopoState = freeing ranks m t r in
    let came : List (ℕ × Item) = come_falls ranks m t r in
    let marks : List Triple = fallen_marks ranks m t r in
    falls_parts s came
    ∙ ap (λ w. record s { numbers = w; sums = added_all ranks every minus_column s.sums came; came = marks }) (numbers_after ranks m t r low square is)
    ∙ ap (λ w. record s { numbers = table ranks r m.rows (open_number m (claims m (suc t))); sums = w; came = marks }) (sums_after ranks m t r low square is)

-- a row that a level leaves with one entry lost one
lost_some : (m : Sparse) (t i : ℕ) → IsSparse m → i < m.rows → open_number m (claims m (suc t)) i ≡ 1 → 0 < lost m t i
lost_some m t i is low one =
    elim (cases_lt 0 (lost m t i)) [
      | inl some ↦ some
      | inr none ↦
          let before : open_number m (claims m t) i ≡ 1 = omega (arith, number_falls m t i is) in
          let ready : IsReady m.entries (claims m t) i = ready_where m t i before in
          let here : 0 < comes i (filter (is_ready m.entries (claims m t)) (range_with_len 0 m.rows)) =
          to_filter (is_ready m.entries (claims m t)) i (range_with_len 0 m.rows) (ready_from m.entries (claims m t) i ready.unclaimed ready.one) (in_range m.rows i low) in
          let claims_it : row_claims i (next m t) ≡ comes i (filter (is_ready m.entries (claims m t)) (range_with_len 0 m.rows)) =
          map_counts (λ (c : Claim). eqb c.0 i) (λ i. (i, claimed_column m.entries (claims m t) i)) (filter (is_ready m.entries (claims m t)) (range_with_len 0 m.rows)) in
          let both : row_claims i (claims m (suc t)) ≡ row_claims i (claims m t) + row_claims i (next m t) = count_append (λ (c : Claim). eqb c.0 i) (claims m t) (next m t) in
          let zero_left : open_number m (claims m (suc t)) i ≡ 0 = claimed_closed m (suc t) i (omega arith) in
          absurd (omega arith)
    ]

ends_claiming : (ranks : ℕ) (m : Sparse) (t r votes : ℕ) → 0 < ranks → r < ranks → m.rows ≡ m.cols → IsSparse m → t ≤ 16384
    → topo_rules.ended (after_falls ranks m t r (fallen_marks ranks m t r)) votes ≡ claiming ranks m (suc t) r
ends_claiming ranks m t r votes some low square is small =
    let s : TopoState = freeing ranks m t r in
    let came : List (ℕ × Item) = come_falls ranks m t r in
    let marks : List Triple = fallen_marks ranks m t r in
    let u : TopoState = after_falls ranks m t r marks in
    let end : TopoState = claiming ranks m (suc t) r in
    let nonzero : u.round ≢ 0 = λ z. absurd (omega arith) in
    let even : u.round % 2 ≢ 1 = λ z. absurd (omega arith) in
    let round : min (2 * t + 2 + 1) (2 ^ 64 - 1) ≡ 2 * suc t + 1 = omega arith in
    let columns : cond (u.round == 0) u.came u.columns ≡ u.columns = ap (λ b. cond b u.came u.columns) (ne_eqb u.round 0 nonzero) in
    let claimed : cond (u.round % 2 == 1) (u.claimed ++ map (placed_in (2 * t + 2)) u.outgoing) u.claimed ≡ u.claimed =
    ap (λ b. cond b (u.claimed ++ map (placed_in (2 * t + 2)) u.outgoing) u.claimed) (ne_eqb (u.round % 2) 1 even) in
    let are : AreMarks ranks r marks =
    are_marks r m.rows s came (falls_own ranks m t r square is) (record { ordered = pairs_none (λ s t. is_before s t ≡ true); own = All-nil (λ u. u.i % ranks ≡ r); flat = All-nil (λ u. u.j ≡ 0) }) in
    let rows : List ℕ = map (λ v. v.i) marks in
    let up : AllPairs Less rows = pairs_map (λ u. u.j ≡ 0) (λ s t. is_before s t ≡ true) Less (λ v. v.i) marks (λ s t a b h. rises_more s t h a b) are.flat are.ordered in
    let own : All (λ i. i % ranks ≡ r) rows = All-map (λ i. i % ranks ≡ r) (λ v. v.i) marks are.own in
    let all : (i : ℕ) → i % ranks ≡ r → i < m.rows → open_number m (claims m (suc t)) i ≡ 1 → 0 < comes i rows = λ i mine inside one.
    (let number : number_at ranks (falls_all s came).numbers i ≡ 1 =
    ap (λ (w : TopoState). number_at ranks w.numbers i) (falls_are ranks m t r low square is) ∙ table_at ranks r m.rows i (open_number m (claims m (suc t))) some mine inside ∙ one in
    let falls_of_it : times i came ≡ lost m t i =
    map_counts (λ e. eqb e.1.a i) (λ u. (row_of ranks u, fall_item u)) (dealt (λ u. u.j % ranks) r (freed m t))
    ∙ dealt_counts (λ u. u.j % ranks) r (λ u. eqb u.j i) (freed m t) (λ v e. ap (λ k. k % ranks) (eqb-true v.j i e) ∙ mine) in
    let lost_it : 0 < lost m t i = lost_some m t i is inside one in
    let marked : 0 < has i marks = touched i r m.rows s came some (falls_own ranks m t r square is) (length-map-range_with_len (λ k. open_number m (claims m t) (k * ranks + r)) 0 (places_for ranks m.rows)) mine number (subst (λ k. 0 < k) (sym falls_of_it) lost_it) in
    subst (λ k. 0 < k) (sym (map_counts (λ y. eqb y i) (λ v. v.i) marks)) marked) in
    let outgoing : topo_next_outgoing u ≡ end.outgoing =
    in_even u (claims_of ranks m.rows u.numbers u.sums (own_rows ranks r m.rows)) (cond (nat_lt u.round (2 ^ 64 - 1)) (falls_of ranks u.columns u.came) []) (claims_of ranks m.rows u.numbers u.sums rows) nonzero even
    ∙ claims_next ranks m (suc t) r rows some square is up own all in
    ap (λ w. record (topo_rules.ended u votes) { round = w }) round
    ∙ ap (λ w. record (topo_rules.ended u votes) { round = 2 * suc t + 1; columns = w }) columns
    ∙ ap (λ w. record (topo_rules.ended u votes) { round = 2 * suc t + 1; columns = u.columns; claimed = w }) claimed
    ∙ ap (λ w. record (topo_rules.ended u votes) { round = 2 * suc t + 1; columns = u.columns; claimed = u.claimed; outgoing = w }) outgoing

pub fall_round : (ranks : ℕ) (m : Sparse) (t : ℕ) → 0 < ranks → m.rows ≡ m.cols → IsSparse m → t ≤ 16384 → IsFreeing ranks m t
    → after_whole_round topo_rules (map (freeing ranks m t) (range_with_len 0 ranks)) ≡ all_claiming ranks m (suc t)
fall_round ranks m t some square is small begun =
    round_made topo_rules ranks (freeing ranks m t) (claiming ranks m (suc t)) (λ r votes low u at.
    ap (λ w. topo_rules.ended w votes)
    (get_once (absorbed_round topo_rules (all_freeing ranks m t)) r u _ at (falls_absorbed ranks m t r some low begun) ∙ falls_are ranks m t r low square is)
    ∙ ends_claiming ranks m t r votes some low square is small)
