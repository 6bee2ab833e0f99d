-- What the ranks of topo have in the end, taken together.
use Rattle.std.proofs.Common.{ℕ, zero, suc, ◌+◌, ◌-◌, ◌*◌, ◌/◌, ◌%◌, ◌^◌, ◌<◌, ◌≤◌, ◌≡◌, ◌≢◌, ◌==◌, ◌++◌, Bool, true, false, cond, eqb, List, [], ◌∷◌, Some, None, map, length, get_or, slice_get, reverse, All, arith, inl, inr, refl, sym, ap, ap₂, ◌∙◌, subst}
use Rattle.std.specs.List.{AllPairs, filter, flat_map, list_all, range_with_len}
use Rattle.std.proofs.Math.Nat.{mod-lt}
use Rattle.std.proofs.lemmas.Bool.{cases_Bool, eq-eqb, eqb-true, and_from, and_parts}
use Rattle.std.proofs.lemmas.Bool.Decides.{nat_tests}
use Rattle.std.proofs.lemmas.Simd.{map-map}
use Rattle.std.proofs.lemmas.List.{map-append, append-nil, length-map}
use Rattle.std.proofs.lemmas.List.Concat.{flat_map-append}
use Rattle.std.proofs.lemmas.List.Sums.{fold-append}
use Rattle.std.proofs.lemmas.List.Elements.{All-head, All-tail, All-nil, All-cons, All-append, All-map, filter-append}
use Rattle.std.proofs.lemmas.List.FromFn.{length-map-range_with_len, length-range_with_len, get_or-range_with_len}
use Rattle.list_laws.specs.Sums.{total}
use Rattle.bale_items.specs.declared.triple.Triple.{Triple}
use Rattle.bale_items.specs.Bits.{twos_complement, from_twos_complement}
use Rattle.list_laws.proofs.Lists.{get_once}
use Rattle.mtx_text.specs.Sparse.{Sparse, IsSparse}
use Rattle.mtx_text.specs.Cells.{is_before, InOrder, with_value_raised, raised_all, gathered_cells}
use Rattle.mtx_text.proofs.PlaceOrder.{pairs_head, pairs_tail, pairs_cons, pairs_none, row_before, column_before}
use Rattle.mtx_text.proofs.Gathered.{gathered_permutes, gathered_itself}
use Rattle.mtx_text.proofs.Shuffles.{range_more}
use Rattle.sparse_rows.specs.Deals.{dealt}
use Rattle.sparse_rows.proofs.Deals.{hands_together}
use Rattle.sparse_rows.proofs.EveryEntry.{same_map}
use Rattle.sparse_rows.proofs.Gathering.{dealt_map, pairs_map, pairs_filter}
use Rattle.sparse_rows.proofs.Starts.{made_at}
use Rattle.sparse_rows.proofs.Places.{place_below}
use Rattle.sparse_rows.specs.Owners.{places_for}
use Rattle.app_topo.specs.declared.placed.Placed.{Placed}
use Rattle.app_topo.specs.Levels.{Claim, row_claims, col_claims, is_ready, claimed_column, levels_complete, topo_order, row_position, col_position}
use Rattle.app_topo.specs.Triangular.{IsValid}
use Rattle.app_topo.specs.Topos.{TopoState, number_at}
use Rattle.app_topo.specs.TopoRuns.{TopoEnded}
use Rattle.app_topo.specs.TopoEnds.{cell_of_level, cell_place}
use Rattle.app_topo.proofs.Counting.{all_once, count_total}
use Rattle.app_topo.proofs.LevelFacts.{rows_below, rows_once}
use Rattle.app_topo.proofs.Printed.{Inside, Complete, complete_size, complete_parts, printed}
use Rattle.app_topo.proofs.Claimed.{complete_from, order_exists}
use Rattle.app_topo.proofs.TopoTables.{table_at}
use Rattle.app_topo.proofs.TopoStates.{claims, next, claim_row, placed_upto, freeing}
use Rattle.app_topo.proofs.TopoClaims.{next_inside}
use Rattle.app_topo.proofs.TopoReady.{Less, range_up}
use Rattle.app_topo.proofs.TopoRun.{IsLastLevel, last_level, stays, ended_are}

-- the claims of the levels below t, as cells
level_cell : ℕ → Claim → Triple
level_cell t c = record { i = t; j = c.0; v = from_twos_complement c.1 }

pub level_cells : Sparse → ℕ → List Triple
level_cells m zero = []
level_cells m (suc t) = level_cells m t ++ map (level_cell t) (next m t)

-- a rank has those of its rows
abbrev cell_owner : ℕ → Triple → ℕ
cell_owner ranks u = u.j % ranks

own_cells : (ranks : ℕ) (m : Sparse) (r t : ℕ) → map cell_of_level (placed_upto ranks m r t) ≡ dealt (cell_owner ranks) r (level_cells m t)
unfolding level_cells level_cell
own_cells ranks m r zero = refl
own_cells ranks m r (suc t) =
    let mine : List Claim = dealt (claim_row ranks) r (next m t) in
    map-append cell_of_level (placed_upto ranks m r t) (map (λ c. record { level = t; row = c.0; column = c.1 }) mine)
    ∙ ap₂ (λ a b. a ++ b) (own_cells ranks m r t)
    (map-map cell_of_level (λ (c : Claim). record { level = t; row = c.0; column = c.1 }) mine ∙ sym (dealt_map (cell_owner ranks) r (level_cell t) (next m t)))
    ∙ sym (filter-append (λ u. eqb (cell_owner ranks u) r) (level_cells m t) (map (level_cell t) (next m t)))

-- they are in order
pairs_append : {X : Type 0} (R : X → X → Type 0) (xs ys : List X) → AllPairs R xs → AllPairs R ys → All (λ x. All (R x) ys) xs → AllPairs R (xs ++ ys)
pairs_append R [] ys a b c = b
pairs_append R (x ∷ xs) ys a b c =
    pairs_cons R x (xs ++ ys) (All-append (R x) xs ys (pairs_head R x xs a) (All-head (λ x. All (R x) ys) x xs c))
    (pairs_append R xs ys (pairs_tail R x xs a) b (All-tail (λ x. All (R x) ys) x xs c))

levels_low : (m : Sparse) (t : ℕ) → All (λ u. u.i < t) (level_cells m t)
unfolding level_cells level_cell
levels_low m zero = All-nil (λ u. u.i < zero)
levels_low m (suc t) =
    All-append (λ u. u.i < suc t) (level_cells m t) (map (level_cell t) (next m t)) (λ k d l. (let low : (get_or (level_cells m t) k d).i < t = levels_low m t k d l in omega arith))
    (All-map (λ u. u.i < suc t) (level_cell t) (next m t) (λ k d l. omega arith))

level_ordered : (m : Sparse) (t : ℕ) → InOrder (map (level_cell t) (next m t))
unfolding level_cell
level_ordered m t =
    let rows : List ℕ = filter (is_ready m.entries (claims m t)) (range_with_len 0 m.rows) in
    let cell : ℕ → Triple = λ i. level_cell t (i, claimed_column m.entries (claims m t) i) in
    subst InOrder (sym (map-map (level_cell t) (λ i. (i, claimed_column m.entries (claims m t) i)) rows))
    (pairs_map (λ i. i ≡ i) Less (λ s u. is_before s u ≡ true) cell rows (λ i k a b less. column_before t i t k refl less) (λ k d l. refl)
    (pairs_filter Less (is_ready m.entries (claims m t)) (range_with_len 0 m.rows) (range_up 0 m.rows)))

cells_ordered : (m : Sparse) (t : ℕ) → InOrder (level_cells m t)
unfolding level_cells level_cell
cells_ordered m zero = pairs_none (λ s u. is_before s u ≡ true)
cells_ordered m (suc t) =
    pairs_append (λ s u. is_before s u ≡ true) (level_cells m t) (map (level_cell t) (next m t)) (cells_ordered m t) (level_ordered m t) (λ k d l.
    let s : Triple = get_or (level_cells m t) k d in
    let low : s.i < t = levels_low m t k d l in
    All-map (λ u. is_before s u ≡ true) (level_cell t) (next m t) (λ k2 d2 l2. row_before s.i s.j t _ low))

-- and they are the claims
word_back : (w : ℕ) → w < 2 ^ 64 → twos_complement (from_twos_complement w) ≡ w
word_back w h = grind (arith, nat_tests)

small_columns : (m : Sparse) (t : ℕ) → m.rows ≡ m.cols → IsSparse m → All (λ u. twos_complement u.v < 2 ^ 32) (level_cells m t)
unfolding level_cells level_cell
small_columns m zero square is = All-nil (λ u. twos_complement u.v < 2 ^ 32)
small_columns m (suc t) square is =
    let tall : m.rows ≤ 16384 = is.tall in
    All-append (λ u. twos_complement u.v < 2 ^ 32) (level_cells m t) (map (level_cell t) (next m t)) (small_columns m t square is)
    (All-map (λ u. twos_complement u.v < 2 ^ 32) (level_cell t) (next m t) (λ k d l.
    let low : (get_or (next m t) k d).1 < m.rows = next_inside m t square is k d l in
    subst (λ w. w < 2 ^ 32) (sym (word_back (get_or (next m t) k d).1 (omega arith))) (omega arith)))

cells_claims : (m : Sparse) (t : ℕ) → m.rows ≡ m.cols → IsSparse m → map cell_place (level_cells m t) ≡ claims m t
unfolding level_cells level_cell
cells_claims m zero square is = refl
cells_claims m (suc t) square is =
    let tall : m.rows ≤ 16384 = is.tall in
    map-append cell_place (level_cells m t) (map (level_cell t) (next m t))
    ∙ ap₂ (λ a b. a ++ b) (cells_claims m t square is)
    (map-map cell_place (level_cell t) (next m t)
    ∙ same_map (λ c. cell_place (level_cell t c)) (λ c. c) (next m t) (λ k d l.
    let low : (get_or (next m t) k d).1 < m.rows = next_inside m t square is k d l in
    ap (λ w. ((get_or (next m t) k d).0, w)) (word_back (get_or (next m t) k d).1 (omega arith)))
    ∙ same_list (next m t))
  where
    same_list : {X : Type 0} (xs : List X) → map (λ x. x) xs ≡ xs
    same_list [] = refl
    same_list (x ∷ xs) = ap (λ ys. x ∷ ys) (same_list xs)

-- the claims after the last level are those of n levels
pub final_claims : (m : Sparse) (l : ℕ) → IsLastLevel m l → claims m (suc l) ≡ claims m m.rows
final_claims m l last =
    let low : l ≤ m.rows = last.low in
    let one : suc l ≡ l + 1 = omega arith in
    let two : m.rows ≡ l + (m.rows - l) = omega arith in
    ap (claims m) one ∙ stays m l 1 last.over ∙ sym (ap (claims m) two ∙ stays m l (m.rows - l) last.over)

-- ---- The programs

programs_len : (m : Sparse) (ps : List TopoState) (h : TopoEnded m ps) → length ps ≡ h.ranks
programs_len m ps h = (let l = last_level m in ap length (ended_are m ps h l.0 l.1) ∙ length-map-range_with_len (freeing h.ranks m l.0) 0 h.ranks)

pub some_ranks : (m : Sparse) (ps : List TopoState) (h : TopoEnded m ps) → 0 < length ps
some_ranks m ps h = subst (λ n. 0 < n) (sym (programs_len m ps h)) h.some

ended_at : (m : Sparse) (ps : List TopoState) (h : TopoEnded m ps) (r : ℕ) → r < length ps → slice_get ps r ≡ Some (freeing (length ps) m (last_level m).0 r)
ended_at m ps h r low =
    let l = last_level m in
    let size : length ps ≡ h.ranks = programs_len m ps h in
    ap (λ ss. slice_get ss r) (ended_are m ps h l.0 l.1) ∙ made_at (freeing h.ranks m l.0) h.ranks r (subst (λ n. r < n) size low) ∙ ap (λ n. Some (freeing n m l.0 r)) (sym size)

pub rank_found : (m : Sparse) (ps : List TopoState) (h : TopoEnded m ps) (r : ℕ) → r < length ps → slice_get ps r ≡ None → ⊥
rank_found m ps h r low none = let there = ended_at m ps h r low in cc

-- the rows of all ranks
pub all_cells : Sparse → List Triple
all_cells m = level_cells m (suc (last_level m).0)

pub rank_cells : (m : Sparse) (ps : List TopoState) (h : TopoEnded m ps) (r : ℕ) (s : TopoState) → r < length ps → slice_get ps r ≡ Some s
    → map cell_of_level s.claimed ≡ dealt (cell_owner (length ps)) r (all_cells m)
unfolding all_cells
rank_cells m ps h r s low at =
    ap (λ (t : TopoState). map cell_of_level t.claimed) (get_once ps r s _ at (ended_at m ps h r low)) ∙ own_cells (length ps) m r (suc (last_level m).0)

pub rank_levels : (m : Sparse) (ps : List TopoState) (h : TopoEnded m ps) (r : ℕ) (s : TopoState) → r < length ps → slice_get ps r ≡ Some s → All (λ (q : Placed). q.level < 2 ^ 32) s.claimed
rank_levels m ps h r s low at =
    let l = last_level m in
    let tall : m.rows ≤ 16384 = h.matrix.tall in
    let few : l.0 ≤ m.rows = l.1.low in
    subst (λ (t : TopoState). All (λ (q : Placed). q.level < 2 ^ 32) t.claimed) (sym (get_once ps r s _ at (ended_at m ps h r low)))
    (below (length ps) m r (suc l.0) (omega arith))
  where
    below : (ranks : ℕ) (m : Sparse) (r t : ℕ) → t < 2 ^ 32 → All (λ (q : Placed). q.level < 2 ^ 32) (placed_upto ranks m r t)
    below ranks m r zero small = All-nil (λ (q : Placed). q.level < 2 ^ 32)
    below ranks m r (suc t) small =
        All-append (λ (q : Placed). q.level < 2 ^ 32) (placed_upto ranks m r t) (map (λ c. record { level = t; row = c.0; column = c.1 }) (dealt (claim_row ranks) r (next m t)))
        (below ranks m r t (omega arith)) (All-map (λ (q : Placed). q.level < 2 ^ 32) (λ (c : Claim). record { level = t; row = c.0; column = c.1 }) (dealt (claim_row ranks) r (next m t)) (λ k d l. omega arith))

-- the cells of the ranks below one
abbrev pub upto_rank : ℕ → Sparse → ℕ → List Triple
upto_rank ranks m n = gathered_cells (flat_map (λ r. dealt (cell_owner ranks) r (all_cells m)) (range_with_len 0 n))

pub ranks_more : (ranks : ℕ) (m : Sparse) (r : ℕ) (old new part : List Triple) → old ≡ upto_rank ranks m r → part ≡ dealt (cell_owner ranks) r (all_cells m) → new ≡ raised_all old part → new ≡ upto_rank ranks m (r + 1)
ranks_more ranks m r old new part so_far is one =
    let parts : List ℕ → List Triple = flat_map (λ r. dealt (cell_owner ranks) r (all_cells m)) in
    let more : parts (range_with_len 0 (r + 1)) ≡ parts (range_with_len 0 r) ++ dealt (cell_owner ranks) r (all_cells m) =
    ap parts (range_more r) ∙ flat_map-append (λ r. dealt (cell_owner ranks) r (all_cells m)) (range_with_len 0 r) (r ∷ [])
    ∙ ap (λ ys. parts (range_with_len 0 r) ++ ys) (append-nil (dealt (cell_owner ranks) r (all_cells m))) in
    one ∙ ap (λ os. raised_all os part) so_far ∙ ap (raised_all (gathered_cells (parts (range_with_len 0 r)))) is
    ∙ sym (ap gathered_cells more ∙ fold-append (λ cells t. with_value_raised t cells) [] (parts (range_with_len 0 r)) (dealt (cell_owner ranks) r (all_cells m)))

whole : (m : Sparse) (ps : List TopoState) (h : TopoEnded m ps) (all : List Triple) (n : ℕ) → n ≡ length ps → all ≡ upto_rank (length ps) m n → all ≡ all_cells m
unfolding all_cells
whole m ps h all n is so_far =
    let cells : List Triple = all_cells m in
    so_far ∙ ap (upto_rank (length ps) m) is
    ∙ gathered_permutes cells (flat_map (λ r. dealt (cell_owner (length ps)) r cells) (range_with_len 0 (length ps))) (hands_together (length ps) (cell_owner (length ps)) cells (λ k d l. mod-lt _ (some_ranks m ps h)))
    ∙ gathered_itself cells (cells_ordered m (suc (last_level m).0))

pub whole_claims : (m : Sparse) (ps : List TopoState) (h : TopoEnded m ps) (all : List Triple) (n : ℕ) → n ≡ length ps → all ≡ upto_rank (length ps) m n → map cell_place all ≡ claims m m.rows
unfolding all_cells
whole_claims m ps h all n is so_far =
    ap (map cell_place) (whole m ps h all n is so_far) ∙ cells_claims m (suc (last_level m).0) h.square h.matrix ∙ final_claims m (last_level m).0 (last_level m).1

pub whole_small : (m : Sparse) (ps : List TopoState) (h : TopoEnded m ps) (all : List Triple) (n : ℕ) → n ≡ length ps → all ≡ upto_rank (length ps) m n → All (λ u. twos_complement u.v < 2 ^ 32) all
unfolding all_cells
whole_small m ps h all n is so_far = subst (All (λ u. twos_complement u.v < 2 ^ 32)) (sym (whole m ps h all n is so_far)) (small_columns m (suc (last_level m).0) h.square h.matrix)

-- the count of a column
pub column_count : (m : Sparse) (ps : List TopoState) (h : TopoEnded m ps) (j : ℕ) (s : TopoState) → j < m.rows → slice_get ps (j % length ps) ≡ Some s → number_at (length ps) s.counts j ≡ col_claims j (claims m m.rows)
column_count m ps h j s low at =
    let some : 0 < length ps = some_ranks m ps h in
    ap (λ (t : TopoState). number_at (length ps) t.counts j) (get_once ps (j % length ps) s _ at (ended_at m ps h (j % length ps) (mod-lt j some)))
    ∙ table_at (length ps) (j % length ps) m.rows j (λ j. col_claims j (claims m (suc (last_level m).0))) some refl low
    ∙ ap (col_claims j) (final_claims m (last_level m).0 (last_level m).1)

-- ---- The answer

-- complete: as many claims as rows, and each column once
all_true : (p : ℕ → Bool) (xs : List ℕ) → list_all p xs ≡ true → All (λ x. p x ≡ true) xs
all_true p [] h = All-nil (λ x. p x ≡ true)
all_true p (x ∷ xs) h = All-cons (λ x. p x ≡ true) x xs (and_parts (p x) (list_all p xs) h).0 (all_true p xs (and_parts (p x) (list_all p xs) h).1)

all_of : (p : ℕ → Bool) (xs : List ℕ) → All (λ x. p x ≡ true) xs → list_all p xs ≡ true
all_of p [] h = refl
all_of p (x ∷ xs) h = and_from (p x) (list_all p xs) (All-head (λ x. p x ≡ true) x xs h) (all_of p xs (All-tail (λ x. p x ≡ true) x xs h))

abbrev pub cols_once : ℕ → List Claim → ℕ → Bool
cols_once n cs j = eqb (col_claims j cs) 1

-- one column more
pub once_more : (p : ℕ → Bool) (j : ℕ) → list_all p (range_with_len 0 j) ≡ true → p j ≡ true → list_all p (range_with_len 0 (j + 1)) ≡ true
once_more p j so_far here =
    ap (list_all p) (range_more j) ∙ all_of p (range_with_len 0 j ++ j ∷ []) (All-append (λ x. p x ≡ true) (range_with_len 0 j) (j ∷ []) (all_true p (range_with_len 0 j) so_far) (All-cons (λ x. p x ≡ true) j [] here (All-nil (λ x. p x ≡ true))))

in_all : (p : ℕ → Bool) (n j : ℕ) → list_all p (range_with_len 0 n) ≡ true → j < n → p j ≡ true
in_all p n j h low =
    let is : get_or (range_with_len 0 n) j 0 ≡ j = get_or-range_with_len 0 n j 0 low ∙ omega arith in
    subst (λ k. p k ≡ true) is (all_true p (range_with_len 0 n) h j 0 (subst (λ k. j < k) (sym (length-range_with_len 0 n)) low))

pub once_broken : (p : ℕ → Bool) (n j : ℕ) → j < n → p j ≡ false → false ≡ list_all p (range_with_len 0 n)
once_broken p n j low broken =
    elim (cases_Bool (list_all p (range_with_len 0 n))) [
      | inl whole ↦ (let here : p j ≡ true = in_all p n j whole low in absurd (cc))
      | inr not_whole ↦ sym not_whole
    ]

inside_of : (m : Sparse) → m.rows ≡ m.cols → IsSparse m → Inside m.rows m.entries
inside_of m square is = record { row = λ k d l. (is.inside k d l).row; col = λ k d l. subst (λ n. (get_or m.entries k d).j < n) (sym square) (is.inside k d l).col }

pub too_few : (m : Sparse) (placed : List Triple) → map cell_place placed ≡ claims m m.rows → length placed ≢ m.rows → levels_complete m.rows (claims m m.rows) ≡ false
too_few m placed is few =
    elim (cases_Bool (levels_complete m.rows (claims m m.rows))) [
      | inl whole ↦ absurd (few (sym (length-map placed cell_place) ∙ ap length is ∙ complete_size m.rows (claims m m.rows) (rows_below m.rows m.entries m.rows) (complete_parts m.rows (claims m m.rows) whole)))
      | inr not_whole ↦ not_whole
    ]

pub not_once : (m : Sparse) → list_all (λ j. col_claims j (claims m m.rows) == 1) (range_with_len 0 m.rows) ≡ false → levels_complete m.rows (claims m m.rows) ≡ false
not_once m broken =
    elim (cases_Bool (levels_complete m.rows (claims m m.rows))) [
      | inl whole ↦
          let parts : Complete m.rows (claims m m.rows) = complete_parts m.rows (claims m m.rows) whole in
          let all : list_all (λ j. col_claims j (claims m m.rows) == 1) (range_with_len 0 m.rows) ≡ true =
          all_of (λ j. eqb (col_claims j (claims m m.rows)) 1) (range_with_len 0 m.rows) (λ k d l.
          let size : length (range_with_len 0 m.rows) ≡ m.rows = length-range_with_len 0 m.rows in
          let is : get_or (range_with_len 0 m.rows) k d ≡ 0 + k = get_or-range_with_len 0 m.rows k d (omega arith) in
          eq-eqb (col_claims (get_or (range_with_len 0 m.rows) k d) (claims m m.rows)) 1 (parts.cols (get_or (range_with_len 0 m.rows) k d) (omega arith))) in
          absurd (cc)
      | inr not_whole ↦ not_whole
    ]

pub complete_then : (m : Sparse) (placed : List Triple) → map cell_place placed ≡ claims m m.rows → length placed ≡ m.rows → list_all (λ j. col_claims j (claims m m.rows) == 1) (range_with_len 0 m.rows) ≡ true
    → levels_complete m.rows (claims m m.rows) ≡ true
complete_then m placed is enough cols =
    let size : length (claims m m.rows) ≡ m.rows = ap length (sym is) ∙ length-map placed cell_place ∙ enough in
    let sum : total m.rows (λ i. row_claims i (claims m m.rows)) ≡ length (claims m m.rows) = count_total m.rows (λ (c : Claim). c.0) (claims m m.rows) (rows_below m.rows m.entries m.rows) in
    complete_from m.rows (claims m m.rows) (record {
      rows = all_once m.rows (λ i. row_claims i (claims m m.rows)) (λ i low. rows_once m.rows m.entries m.rows i) (omega (arith, sum, size));
      cols = λ j low. eqb-true (col_claims j (claims m m.rows)) 1 (in_all (λ j. eqb (col_claims j (claims m m.rows)) 1) m.rows j cols low);
    })

pub order_none : (m : Sparse) → levels_complete m.rows (claims m m.rows) ≡ false → None ≡ topo_order m.rows m.entries
order_none m broken = ap (λ b. cond b (Some (reverse (claims m m.rows))) None) (sym broken)

pub none_valid : (m : Sparse) (p q : ℕ → ℕ) → m.rows ≡ m.cols → IsSparse m → levels_complete m.rows (claims m m.rows) ≡ false → IsValid m.rows m.entries p q → ⊥
none_valid m p q square is broken v = (let whole : levels_complete m.rows (claims m m.rows) ≡ true = order_exists m.rows m.entries p q v (inside_of m square is) is.once in absurd (cc))

pub order_some : (m : Sparse) (placed : List Triple) (places : List Claim) → map cell_place placed ≡ claims m m.rows → places ≡ reverse (map cell_place placed) → levels_complete m.rows (claims m m.rows) ≡ true → Some places ≡ topo_order m.rows m.entries
order_some m placed places is back whole = ap Some (back ∙ ap reverse is) ∙ ap (λ b. cond b (Some (reverse (claims m m.rows))) None) (sym whole)

pub order_valid : (m : Sparse) (placed : List Triple) (places : List Claim) → m.rows ≡ m.cols → IsSparse m → map cell_place placed ≡ claims m m.rows → places ≡ reverse (map cell_place placed) → levels_complete m.rows (claims m m.rows) ≡ true
    → IsValid m.rows m.entries (row_position places) (col_position places)
order_valid m placed places square is same back whole =
    subst (λ o. IsValid m.rows m.entries (row_position o) (col_position o)) (sym (back ∙ ap reverse same)) (printed m.rows m.entries (inside_of m square is) whole)

pub column_place : (m : Sparse) (ps : List TopoState) (h : TopoEnded m ps) (j : ℕ) (s : TopoState) → j < m.rows → slice_get ps (j % length ps) ≡ Some s → j / length ps < length s.counts
column_place m ps h j s low at =
    let some : 0 < length ps = some_ranks m ps h in
    subst (λ (t : TopoState). j / length ps < length t.counts) (sym (get_once ps (j % length ps) s _ at (ended_at m ps h (j % length ps) (mod-lt j some))))
    (subst (λ k. j / length ps < k) (sym (length-map-range_with_len (λ k. col_claims (k * length ps + j % length ps) (claims m (suc (last_level m).0))) 0 (places_for (length ps) m.rows))) (place_below (length ps) m.rows j some low))
