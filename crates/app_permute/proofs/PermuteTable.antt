-- The rounds of permute.
use Rattle.std.proofs.Common.{◌≡◌, ℕ, ◌%◌, ◌<◌, ◌≤◌, List, [], ◌∷◌, Some, All, map, length, get_or, slice_get, arith, refl, sym, ap, ◌∙◌, subst, lit<}
use Rattle.std.specs.Prelude.{nat_abs}
use Rattle.std.specs.List.{range_with_len}
use Rattle.std.proofs.Math.Nat.{mod-lt}
use Rattle.bale_items.specs.declared.Item.{Item}
use Rattle.bale_items.specs.declared.triple.Triple.{Triple}
use Rattle.bale_items.specs.Bits.{twos_complement}
use Rattle.list_laws.proofs.Lists.{get_once}
use Rattle.mtx_text.specs.Sparse.{Sparse, IsSparse}
use Rattle.mtx_text.specs.Cells.{with_value_raised, raised_all, gathered_cells}
use Rattle.mtx_text.specs.Permutations.{Permutes}
use Rattle.mtx_text.proofs.Bands.{as_many}
use Rattle.round_program.specs.Canonical.{absorbed_round, after_whole_round, states_at, InRound}
use Rattle.round_program.specs.Orders.{absorb_each}
use Rattle.round_program.proofs.Members.{in_round}
use Rattle.sparse_rows.specs.Deals.{dealt}
use Rattle.sparse_rows.specs.Owners.{Numbered, with_numbers, entry_owner, row_owner}
use Rattle.sparse_rows.proofs.EveryEntry.{came_to, every_owned}
use Rattle.sparse_rows.proofs.Gathering.{row_of, landed, gathered_dealt}
use Rattle.sparse_rows.proofs.Starts.{made_at, made_from, all_numbered, numbered_map, all_owned, round_made}
use Rattle.app_permute.specs.Carried.{cell_item, item_cell}
use Rattle.app_permute.specs.Reorderings.{number_among}
use Rattle.app_permute.specs.Permutes.{PermuteState, permute_rules, kept_as, to_column, to_row}
use Rattle.app_permute.specs.laws.PermuteLaws.{permute_laws}
use Rattle.app_permute.specs.PermuteRuns.{own_numbers, permute_begins, permute_starts}
use Rattle.app_permute.proofs.CellWords.{word_back, cell_back}
use Rattle.app_permute.proofs.PermuteCells.{crossed, by_row, by_column, rows_inside, columns_inside, to_columns_differ, numbered_as}
use Rattle.std.proofs.lemmas.List.Sorted.{IsPermutation-map}
use Rattle.mtx_text.proofs.Gathered.{gathered_permutes}
use Rattle.sparse_rows.proofs.Gathering.{gathered_moves}
use Rattle.app_permute.proofs.PermuteOwners.{starts_in_round, three_rounds}
use Rattle.app_permute.specs.PermuteTable.{PermuteRounds, permute_to_rows, to_columns, to_new_rows, columns_by_new_row}
use Rattle.sparse_rows.proofs.Emitted.{emit_made}

-- ---- The states between the rounds

abbrev crossing : ℕ → Sparse → List ℕ → List ℕ → ℕ → PermuteState
crossing ranks m p q r = record (permute_begins ranks m p q r) { round = 1; outgoing = map (to_column ranks (own_numbers ranks r p)) (dealt (row_of ranks) r (by_row m)) }

abbrev landing : ℕ → Sparse → List ℕ → List ℕ → ℕ → PermuteState
landing ranks m p q r = record (permute_begins ranks m p q r) { round = 2; outgoing = map (to_row ranks (own_numbers ranks r q)) (dealt (row_of ranks) r (by_column p m)) }

-- what a round's absorbs change
each_kept : (n : ℕ) (s : PermuteState) (es : List (ℕ × Item)) → absorb_each permute_rules (record s { round = n }) es ≡ record s { round = n; cells = raised_all s.cells (map (λ e. kept_as n e.1) es) }
each_kept n s [] = refl
each_kept n s (e ∷ es) = each_kept n (record s { cells = with_value_raised (kept_as n e.1) s.cells }) es

-- ---- Round 0: to the owners of rows

abbrev first_come : ℕ → Sparse → ℕ → List (ℕ × Item)
first_come ranks m r = came_to (entry_owner ranks) (row_owner ranks) (λ e. cell_item e.1) r (with_numbers m.entries)

first_cells : (ranks : ℕ) (m : Sparse) (r : ℕ) → IsSparse m → gathered_cells (map (λ e. kept_as 0 e.1) (first_come ranks m r)) ≡ dealt (row_of ranks) r (by_row m)
first_cells ranks m r is =
    ap gathered_cells
    (landed (entry_owner ranks) (λ e. cell_item e.1) (λ (e : Numbered). e.1) (kept_as 0) ranks r (with_numbers m.entries)
    (all_numbered (λ (t : Triple). item_cell (cell_item t) ≡ t) 0 m.entries (λ k d l. cell_back (get_or m.entries k d) (is.inside k d l).limit))
    ∙ ap (dealt (row_of ranks) r) (numbered_map (λ t. t) 0 m.entries ∙ map_same m.entries))
    ∙ gathered_dealt ranks r m.entries is.once
  where
    map_same : (ts : List Triple) → map (λ t. t) ts ≡ ts
    map_same [] = refl
    map_same (t ∷ ts) = ap (λ us. t ∷ us) (map_same ts)

first_round : (ranks : ℕ) (m : Sparse) (p q : List ℕ) → 0 < ranks → IsSparse m → Permutes m.rows p → Permutes m.cols q
    → states_at permute_rules (permute_starts ranks m p q) 1 ≡ map (crossing ranks m p q) (range_with_len 0 ranks)
first_round ranks m p q some is hp hq =
    let starts : List PermuteState = permute_starts ranks m p q in
    round_made permute_rules ranks (permute_begins ranks m p q) (crossing ranks m p q) (λ r votes low t at.
    let s : PermuteState = permute_begins ranks m p q r in
    let absorbed : slice_get (absorbed_round permute_rules starts) r ≡ Some (absorb_each permute_rules s (first_come ranks m r)) =
    every_owned permute_rules permute_laws ranks 0 (m.rows ∷ m.cols ∷ []) 3 starts (entry_owner ranks) (row_owner ranks) (λ e. cell_item e.1) (with_numbers m.entries)
    (starts_in_round ranks m p q is hp hq) (all_owned ranks 0 m.entries some)
    (λ f u here. ap permute_rules.emissions (sym (made_from (permute_begins ranks m p q) ranks f u here).1))
    r s (made_at (permute_begins ranks m p q) ranks r low) in
    let same : t ≡ record s { cells = dealt (row_of ranks) r (by_row m) } =
    get_once (absorbed_round permute_rules starts) r t _ at absorbed ∙ each_kept 0 s (first_come ranks m r) ∙ ap (λ cells. record s { cells = cells }) (first_cells ranks m r is) in
    ap (λ u. permute_rules.ended u votes) same)

-- ---- Round 1: to the owners of columns

abbrev for_column : List ℕ → Triple → Item
for_column p t = record { a = number_among p t.i; b = t.j; c = twos_complement t.v }

abbrev second_come : ℕ → Sparse → List ℕ → ℕ → List (ℕ × Item)
second_come ranks m p r = came_to (row_of ranks) (λ t. t.j % ranks) (for_column p) r (by_row m)

second_cells : (ranks : ℕ) (m : Sparse) (p : List ℕ) (r : ℕ) → IsSparse m → Permutes m.rows p
    → gathered_cells (map (λ e. kept_as 1 e.1) (second_come ranks m p r)) ≡ dealt (row_of ranks) r (by_column p m)
second_cells ranks m p r is hp =
    ap gathered_cells
    (landed (row_of ranks) (for_column p) (crossed p) (kept_as 1) ranks r (by_row m)
    (λ k d l. (let t : Triple = get_or (by_row m) k d in let limit : nat_abs t.v ≤ 1_000_000_000_000 = (rows_inside m is k d l).limit in ap (λ v. record { i = t.j; j = number_among p t.i; v = v }) (word_back t.v (omega arith)))))
    ∙ gathered_dealt ranks r (map (crossed p) (by_row m)) (to_columns_differ m p is hp)

second_round : (ranks : ℕ) (m : Sparse) (p q : List ℕ) → 0 < ranks → IsSparse m → Permutes m.rows p → Permutes m.cols q
    → states_at permute_rules (permute_starts ranks m p q) 2 ≡ map (landing ranks m p q) (range_with_len 0 ranks)
second_round ranks m p q some is hp hq =
    let ss : List PermuteState = map (crossing ranks m p q) (range_with_len 0 ranks) in
    let begun : InRound permute_rules ranks 1 (m.rows ∷ m.cols ∷ []) 3 ss =
    subst (InRound permute_rules ranks 1 (m.rows ∷ m.cols ∷ []) 3) (first_round ranks m p q some is hp hq) (in_round permute_rules permute_laws ranks (m.rows ∷ m.cols ∷ []) 3 (permute_starts ranks m p q) 1 (starts_in_round ranks m p q is hp hq) (lit< tt)) in
    let rows : All (λ t. t.i < length p) (by_row m) = λ k d l. subst (λ n. (get_or (by_row m) k d).i < n) (sym (as_many m.rows p hp)) (rows_inside m is k d l).row in
    ap (after_whole_round permute_rules) (first_round ranks m p q some is hp hq)
    ∙ round_made permute_rules ranks (crossing ranks m p q) (landing ranks m p q) (λ r votes low t at.
    let s : PermuteState = crossing ranks m p q r in
    let absorbed : slice_get (absorbed_round permute_rules ss) r ≡ Some (absorb_each permute_rules s (second_come ranks m p r)) =
    every_owned permute_rules permute_laws ranks 1 (m.rows ∷ m.cols ∷ []) 3 ss (row_of ranks) (λ t. t.j % ranks) (for_column p) (by_row m)
    begun (λ k d l. mod-lt _ some)
    (λ f u here. ap permute_rules.emissions (sym (made_from (crossing ranks m p q) ranks f u here).1)
    ∙ numbered_as (λ n t. (t.j % ranks, record { a = n; b = t.j; c = twos_complement t.v })) ranks f p (by_row m) some rows)
    r s (made_at (crossing ranks m p q) ranks r low) in
    let same : t ≡ record s { cells = dealt (row_of ranks) r (by_column p m) } =
    get_once (absorbed_round permute_rules ss) r t _ at absorbed ∙ each_kept 1 s (second_come ranks m p r) ∙ ap (λ cells. record s { cells = cells }) (second_cells ranks m p r is hp) in
    ap (λ u. permute_rules.ended u votes) same)

-- ---- The rounds

-- the cells by column and new row come in one order, whatever the order in which they were gathered
columns_are : (m : Sparse) (p : List ℕ) → IsSparse m → by_column p m ≡ columns_by_new_row p m
columns_are m p is =
    gathered_permutes (map (crossed p) m.entries) (map (crossed p) (by_row m)) (IsPermutation-map (crossed p) _ _ (gathered_moves m.entries is.once))

pub permute : PermuteRounds
permute ranks m p q some is hp hq =
    let starts : List PermuteState = permute_starts ranks m p q in
    let rows : All (λ t. t.i < length p) (by_row m) = λ k d l. subst (λ n. (get_or (by_row m) k d).i < n) (sym (as_many m.rows p hp)) (rows_inside m is k d l).row in
    let cols : All (λ t. t.i < length q) (by_column p m) = λ k d l. subst (λ n. (get_or (by_column p m) k d).i < n) (sym (as_many m.cols q hq)) (columns_inside m p is hp k d l).row in
    record {
      rounds = three_rounds starts;
      rows_sent = emit_made permute_rules starts 0 ranks (permute_begins ranks m p q) (permute_to_rows ranks m) refl (λ r low. refl);
      columns_sent = emit_made permute_rules starts 1 ranks (crossing ranks m p q) (to_columns ranks m p) (first_round ranks m p q some is hp hq)
          (λ r low. numbered_as (λ n t. (t.j % ranks, record { a = n; b = t.j; c = twos_complement t.v })) ranks r p (by_row m) some rows);
      new_rows_sent = emit_made permute_rules starts 2 ranks (landing ranks m p q) (to_new_rows ranks m p q) (second_round ranks m p q some is hp hq)
          (λ r low.
          numbered_as (λ n t. (t.j % ranks, record { a = t.j; b = n; c = twos_complement t.v })) ranks r q (by_column p m) some cols
          ∙ ap (λ ts. map (λ (t : Triple). (t.j % ranks, record { a = t.j; b = number_among q t.i; c = twos_complement t.v })) (dealt (row_of ranks) r ts)) (columns_are m p is));
    }
