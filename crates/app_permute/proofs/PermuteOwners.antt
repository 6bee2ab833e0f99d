-- What the ranks of permute have after each of their three rounds, and in the end: the rows of the
-- permuted matrix that are theirs.
use Rattle.std.proofs.Common.{◌≡◌, ℕ, ◌%◌, ◌<◌, ◌≤◌, ◌^◌, ◌==◌, true, List, [], ◌∷◌, Some, None, All, map, length, get_or, slice_get, arith, refl, sym, ap, ◌∙◌, subst, lit<}
use Rattle.std.specs.Prelude.{nat_abs}
use Rattle.std.specs.List.{range_with_len, flat_map}
use Rattle.std.proofs.Math.Nat.{mod-lt}
use Rattle.std.proofs.lemmas.Bool.Decides.{nat_tests}
use Rattle.std.proofs.lemmas.List.Elements.{All-map, All-filter, All-nil}
use Rattle.std.proofs.lemmas.List.FromFn.{length-map-range_with_len}
use Rattle.bale_items.specs.declared.Item.{Item}
use Rattle.bale_items.specs.declared.triple.Triple.{Triple}
use Rattle.bale_items.specs.Bits.{twos_complement}
use Rattle.list_laws.proofs.Lists.{get_once}
use Rattle.mtx_text.specs.Sparse.{Sparse, IsSparse, IsEntry}
use Rattle.mtx_text.specs.Cells.{is_before, with_value_raised, raised_all, gathered_cells}
use Rattle.mtx_text.specs.Permutations.{Permutes}
use Rattle.mtx_text.proofs.Bands.{as_many}
use Rattle.mtx_text.proofs.PlaceOrder.{pairs_none}
use Rattle.mtx_text.proofs.Gathered.{gathered_ordered}
use Rattle.round_program.specs.Canonical.{absorbed_round, after_whole_round, states_at, HasRounds, EndsWithin, InRound}
use Rattle.round_program.specs.Orders.{absorb_each}
use Rattle.round_program.proofs.Members.{rounds_once, in_round}
use Rattle.sparse_rows.specs.Deals.{dealt}
use Rattle.sparse_rows.specs.Owners.{Numbered, with_numbers, entry_owner, row_owner, own_entries}
use Rattle.sparse_rows.proofs.EveryEntry.{came_to, every_owned}
use Rattle.sparse_rows.proofs.Gathering.{row_of, landed, gathered_dealt, parts_gathered}
use Rattle.sparse_rows.proofs.Starts.{made_at, made_from, made_in_round, all_numbered, numbered_map, all_owned, round_made}
use Rattle.app_permute.specs.Carried.{cell_item, item_cell}
use Rattle.app_permute.specs.Reorderings.{number_among, with_new_numbers}
use Rattle.app_permute.specs.Permutes.{PermuteState, IsPermuting, IsKeptCell, permute_rules, may_permute, kept_as, to_column, to_row}
use Rattle.app_permute.specs.laws.PermuteLaws.{permute_laws}
use Rattle.app_permute.specs.PermuteRuns.{own_numbers, permute_begins, permute_starts, PermuteEnded}
use Rattle.app_permute.proofs.CellWords.{word_back, word_of, cell_back}
use Rattle.app_permute.proofs.PermuteNumbers.{has_numbers}
use Rattle.app_permute.proofs.PermuteCells.{crossed, by_row, by_column, by_new_row, rows_inside, columns_inside, to_columns_differ, to_rows_differ, arrived, numbered_as}

-- ---- The start

fits_here : (rows cols ranks r : ℕ) (t : Triple) → r < ranks → rows ≤ 16384 → cols ≤ 16384 → t.i < rows → t.j < cols → twos_complement t.v < 2 ^ 64
    → may_permute (rows ∷ cols ∷ []) ranks 0 (t.i % ranks) r (cell_item t) ≡ true
fits_here rows cols ranks r t low tall wide row col word = grind (arith, nat_tests)

pub begins_valid : (ranks : ℕ) (m : Sparse) (p q : List ℕ) (r : ℕ) → r < ranks → IsSparse m → Permutes m.rows p → Permutes m.cols q → IsPermuting (permute_begins ranks m p q r)
begins_valid ranks m p q r low is hp hq =
    let tall : m.rows ≤ 16384 = is.tall in
    let wide : m.cols ≤ 16384 = is.wide in
    record {
      own = low;
      tall = omega arith;
      wide = omega arith;
      row_numbers = has_numbers ranks r m.rows p low hp;
      col_numbers = has_numbers ranks r m.cols q low hq;
      kept = All-nil (IsKeptCell m.rows m.cols ranks r);
      ordered = pairs_none (λ s t. is_before s t ≡ true);
      fit =
          All-map (λ e. may_permute (m.rows ∷ m.cols ∷ []) ranks 0 e.0 r e.1 ≡ true) (λ (e : Numbered). (row_owner ranks e, cell_item e.1)) (own_entries ranks r m.entries)
          (All-filter (λ (e : Numbered). e.0 % ranks == r) (λ (e : Numbered). may_permute (m.rows ∷ m.cols ∷ []) ranks 0 (row_owner ranks e) r (cell_item e.1) ≡ true) (with_numbers m.entries)
          (all_numbered (λ (t : Triple). may_permute (m.rows ∷ m.cols ∷ []) ranks 0 (t.i % ranks) r (cell_item t) ≡ true) 0 m.entries
          (λ k d l. let e : IsEntry m (get_or m.entries k d) = is.inside k d l in fits_here m.rows m.cols ranks r (get_or m.entries k d) low is.tall is.wide e.row e.col (word_of (get_or m.entries k d).v e.limit))));
    }

pub starts_in_round : (ranks : ℕ) (m : Sparse) (p q : List ℕ) → IsSparse m → Permutes m.rows p → Permutes m.cols q → InRound permute_rules ranks 0 (m.rows ∷ m.cols ∷ []) 3 (permute_starts ranks m p q)
starts_in_round ranks m p q is hp hq =
    made_in_round permute_rules (permute_begins ranks m p q) ranks 0 (m.rows ∷ m.cols ∷ []) 3
    (λ r low. record { valid = begins_valid ranks m p q r low is hp hq; own_rank = refl; all_ranks = refl; same_round = refl; same_shape = refl; same_most = refl })

-- a rank as permute begins, from its fields
pub begins_is : (ranks : ℕ) (m : Sparse) (p q : List ℕ) (r rows cols : ℕ) (new_rows new_cols : List ℕ) (outgoing : List (ℕ × Item))
    → rows ≡ m.rows → cols ≡ m.cols → new_rows ≡ own_numbers ranks r p → new_cols ≡ own_numbers ranks r q → outgoing ≡ (permute_begins ranks m p q r).outgoing
    → record { rank = r; ranks = ranks; round = 0; rows = rows; cols = cols; new_rows = new_rows; new_cols = new_cols; outgoing = outgoing; cells = [] } ≡ permute_begins ranks m p q r
begins_is ranks m p q r rows cols new_rows new_cols outgoing a b c d e =
    let s : PermuteState = permute_begins ranks m p q r in
    ap (λ w. record s { rows = w; cols = cols; new_rows = new_rows; new_cols = new_cols; outgoing = outgoing }) a
    ∙ ap (λ w. record s { cols = w; new_rows = new_rows; new_cols = new_cols; outgoing = outgoing }) b
    ∙ ap (λ w. record s { new_rows = w; new_cols = new_cols; outgoing = outgoing }) c
    ∙ ap (λ w. record s { new_cols = w; outgoing = outgoing }) d
    ∙ ap (λ w. record s { outgoing = w }) e

-- three rounds
pub three_rounds : (starts : List PermuteState) → HasRounds permute_rules starts 3
three_rounds starts = record { some = lit< tt; goes = λ m l. grind (arith, nat_tests); stops = refl }

pub within_three : (starts : List PermuteState) → EndsWithin permute_rules starts 3
within_three starts = record { rounds = 3; has_rounds = three_rounds starts; at_most = omega arith }

-- ---- The states between the rounds

abbrev crossing : ℕ → Sparse → List ℕ → List ℕ → ℕ → PermuteState
crossing ranks m p q r = record (permute_begins ranks m p q r) { round = 1; outgoing = map (to_column ranks (own_numbers ranks r p)) (dealt (row_of ranks) r (by_row m)) }

abbrev landing : ℕ → Sparse → List ℕ → List ℕ → ℕ → PermuteState
landing ranks m p q r = record (permute_begins ranks m p q r) { round = 2; outgoing = map (to_row ranks (own_numbers ranks r q)) (dealt (row_of ranks) r (by_column p m)) }

abbrev over : ℕ → Sparse → List ℕ → List ℕ → ℕ → PermuteState
over ranks m p q r = record (permute_begins ranks m p q r) { round = 3; outgoing = []; cells = dealt (row_of ranks) r (by_new_row p q m) }

-- what a round's absorbs change
each_kept : (n : ℕ) (s : PermuteState) (es : List (ℕ × Item)) → absorb_each permute_rules (record s { round = n }) es ≡ record s { round = n; cells = raised_all s.cells (map (λ e. kept_as n e.1) es) }
each_kept n s [] = refl
each_kept n s (e ∷ es) = each_kept n (record s { cells = with_value_raised (kept_as n e.1) s.cells }) es

-- ---- Round 0: to the owners of rows

abbrev first_come : ℕ → Sparse → ℕ → List (ℕ × Item)
first_come ranks m r = came_to (entry_owner ranks) (row_owner ranks) (λ e. cell_item e.1) r (with_numbers m.entries)

first_cells : (ranks : ℕ) (m : Sparse) (r : ℕ) → IsSparse m → gathered_cells (map (λ e. kept_as 0 e.1) (first_come ranks m r)) ≡ dealt (row_of ranks) r (by_row m)
first_cells ranks m r is =
    ap gathered_cells
    (landed (entry_owner ranks) (λ e. cell_item e.1) (λ (e : Numbered). e.1) (kept_as 0) ranks r (with_numbers m.entries)
    (all_numbered (λ (t : Triple). item_cell (cell_item t) ≡ t) 0 m.entries (λ k d l. cell_back (get_or m.entries k d) (is.inside k d l).limit))
    ∙ ap (dealt (row_of ranks) r) (numbered_map (λ t. t) 0 m.entries ∙ map_same m.entries))
    ∙ gathered_dealt ranks r m.entries is.once
  where
    map_same : (ts : List Triple) → map (λ t. t) ts ≡ ts
    map_same [] = refl
    map_same (t ∷ ts) = ap (λ us. t ∷ us) (map_same ts)

first_round : (ranks : ℕ) (m : Sparse) (p q : List ℕ) → 0 < ranks → IsSparse m → Permutes m.rows p → Permutes m.cols q
    → states_at permute_rules (permute_starts ranks m p q) 1 ≡ map (crossing ranks m p q) (range_with_len 0 ranks)
first_round ranks m p q some is hp hq =
    let starts : List PermuteState = permute_starts ranks m p q in
    round_made permute_rules ranks (permute_begins ranks m p q) (crossing ranks m p q) (λ r votes low t at.
    let s : PermuteState = permute_begins ranks m p q r in
    let absorbed : slice_get (absorbed_round permute_rules starts) r ≡ Some (absorb_each permute_rules s (first_come ranks m r)) =
    every_owned permute_rules permute_laws ranks 0 (m.rows ∷ m.cols ∷ []) 3 starts (entry_owner ranks) (row_owner ranks) (λ e. cell_item e.1) (with_numbers m.entries)
    (starts_in_round ranks m p q is hp hq) (all_owned ranks 0 m.entries some)
    (λ f u here. ap permute_rules.emissions (sym (made_from (permute_begins ranks m p q) ranks f u here).1))
    r s (made_at (permute_begins ranks m p q) ranks r low) in
    let same : t ≡ record s { cells = dealt (row_of ranks) r (by_row m) } =
    get_once (absorbed_round permute_rules starts) r t _ at absorbed ∙ each_kept 0 s (first_come ranks m r) ∙ ap (λ cells. record s { cells = cells }) (first_cells ranks m r is) in
    ap (λ u. permute_rules.ended u votes) same)

-- ---- Round 1: to the owners of columns

abbrev for_column : List ℕ → Triple → Item
for_column p t = record { a = number_among p t.i; b = t.j; c = twos_complement t.v }

abbrev second_come : ℕ → Sparse → List ℕ → ℕ → List (ℕ × Item)
second_come ranks m p r = came_to (row_of ranks) (λ t. t.j % ranks) (for_column p) r (by_row m)

second_cells : (ranks : ℕ) (m : Sparse) (p : List ℕ) (r : ℕ) → IsSparse m → Permutes m.rows p
    → gathered_cells (map (λ e. kept_as 1 e.1) (second_come ranks m p r)) ≡ dealt (row_of ranks) r (by_column p m)
second_cells ranks m p r is hp =
    ap gathered_cells
    (landed (row_of ranks) (for_column p) (crossed p) (kept_as 1) ranks r (by_row m)
    (λ k d l. (let t : Triple = get_or (by_row m) k d in let limit : nat_abs t.v ≤ 1_000_000_000_000 = (rows_inside m is k d l).limit in ap (λ v. record { i = t.j; j = number_among p t.i; v = v }) (word_back t.v (omega arith)))))
    ∙ gathered_dealt ranks r (map (crossed p) (by_row m)) (to_columns_differ m p is hp)

second_round : (ranks : ℕ) (m : Sparse) (p q : List ℕ) → 0 < ranks → IsSparse m → Permutes m.rows p → Permutes m.cols q
    → states_at permute_rules (permute_starts ranks m p q) 2 ≡ map (landing ranks m p q) (range_with_len 0 ranks)
second_round ranks m p q some is hp hq =
    let ss : List PermuteState = map (crossing ranks m p q) (range_with_len 0 ranks) in
    let begun : InRound permute_rules ranks 1 (m.rows ∷ m.cols ∷ []) 3 ss =
    subst (InRound permute_rules ranks 1 (m.rows ∷ m.cols ∷ []) 3) (first_round ranks m p q some is hp hq) (in_round permute_rules permute_laws ranks (m.rows ∷ m.cols ∷ []) 3 (permute_starts ranks m p q) 1 (starts_in_round ranks m p q is hp hq) (lit< tt)) in
    let rows : All (λ t. t.i < length p) (by_row m) = λ k d l. subst (λ n. (get_or (by_row m) k d).i < n) (sym (as_many m.rows p hp)) (rows_inside m is k d l).row in
    ap (after_whole_round permute_rules) (first_round ranks m p q some is hp hq)
    ∙ round_made permute_rules ranks (crossing ranks m p q) (landing ranks m p q) (λ r votes low t at.
    let s : PermuteState = crossing ranks m p q r in
    let absorbed : slice_get (absorbed_round permute_rules ss) r ≡ Some (absorb_each permute_rules s (second_come ranks m p r)) =
    every_owned permute_rules permute_laws ranks 1 (m.rows ∷ m.cols ∷ []) 3 ss (row_of ranks) (λ t. t.j % ranks) (for_column p) (by_row m)
    begun (λ k d l. mod-lt _ some)
    (λ f u here. ap permute_rules.emissions (sym (made_from (crossing ranks m p q) ranks f u here).1)
    ∙ numbered_as (λ n t. (t.j % ranks, record { a = n; b = t.j; c = twos_complement t.v })) ranks f p (by_row m) some rows)
    r s (made_at (crossing ranks m p q) ranks r low) in
    let same : t ≡ record s { cells = dealt (row_of ranks) r (by_column p m) } =
    get_once (absorbed_round permute_rules ss) r t _ at absorbed ∙ each_kept 1 s (second_come ranks m p r) ∙ ap (λ cells. record s { cells = cells }) (second_cells ranks m p r is hp) in
    ap (λ u. permute_rules.ended u votes) same)

-- ---- Round 2: to the owners of new rows

abbrev for_row : List ℕ → Triple → Item
for_row q t = record { a = t.j; b = number_among q t.i; c = twos_complement t.v }

abbrev third_come : ℕ → Sparse → List ℕ → List ℕ → ℕ → List (ℕ × Item)
third_come ranks m p q r = came_to (row_of ranks) (λ t. t.j % ranks) (for_row q) r (by_column p m)

third_cells : (ranks : ℕ) (m : Sparse) (p q : List ℕ) (r : ℕ) → IsSparse m → Permutes m.rows p → Permutes m.cols q
    → gathered_cells (map (λ e. kept_as 2 e.1) (third_come ranks m p q r)) ≡ dealt (row_of ranks) r (by_new_row p q m)
third_cells ranks m p q r is hp hq =
    ap gathered_cells
    (landed (row_of ranks) (for_row q) (crossed q) (kept_as 2) ranks r (by_column p m)
    (λ k d l. (let t : Triple = get_or (by_column p m) k d in let limit : nat_abs t.v ≤ 1_000_000_000_000 = (columns_inside m p is hp k d l).limit in ap (λ v. record { i = t.j; j = number_among q t.i; v = v }) (word_back t.v (omega arith)))))
    ∙ gathered_dealt ranks r (map (crossed q) (by_column p m)) (to_rows_differ m p q is hp hq)

third_round : (ranks : ℕ) (m : Sparse) (p q : List ℕ) → 0 < ranks → IsSparse m → Permutes m.rows p → Permutes m.cols q
    → states_at permute_rules (permute_starts ranks m p q) 3 ≡ map (over ranks m p q) (range_with_len 0 ranks)
third_round ranks m p q some is hp hq =
    let ss : List PermuteState = map (landing ranks m p q) (range_with_len 0 ranks) in
    let begun : InRound permute_rules ranks 2 (m.rows ∷ m.cols ∷ []) 3 ss =
    subst (InRound permute_rules ranks 2 (m.rows ∷ m.cols ∷ []) 3) (second_round ranks m p q some is hp hq) (in_round permute_rules permute_laws ranks (m.rows ∷ m.cols ∷ []) 3 (permute_starts ranks m p q) 2 (starts_in_round ranks m p q is hp hq) (lit< tt)) in
    let cols : All (λ t. t.i < length q) (by_column p m) = λ k d l. subst (λ n. (get_or (by_column p m) k d).i < n) (sym (as_many m.cols q hq)) (columns_inside m p is hp k d l).row in
    ap (after_whole_round permute_rules) (second_round ranks m p q some is hp hq)
    ∙ round_made permute_rules ranks (landing ranks m p q) (over ranks m p q) (λ r votes low t at.
    let s : PermuteState = landing ranks m p q r in
    let absorbed : slice_get (absorbed_round permute_rules ss) r ≡ Some (absorb_each permute_rules s (third_come ranks m p q r)) =
    every_owned permute_rules permute_laws ranks 2 (m.rows ∷ m.cols ∷ []) 3 ss (row_of ranks) (λ t. t.j % ranks) (for_row q) (by_column p m)
    begun (λ k d l. mod-lt _ some)
    (λ f u here. ap permute_rules.emissions (sym (made_from (landing ranks m p q) ranks f u here).1)
    ∙ numbered_as (λ n t. (t.j % ranks, record { a = t.j; b = n; c = twos_complement t.v })) ranks f q (by_column p m) some cols)
    r s (made_at (landing ranks m p q) ranks r low) in
    let same : t ≡ record s { cells = dealt (row_of ranks) r (by_new_row p q m) } =
    get_once (absorbed_round permute_rules ss) r t _ at absorbed ∙ each_kept 2 s (third_come ranks m p q r) ∙ ap (λ cells. record s { cells = cells }) (third_cells ranks m p q r is hp hq) in
    ap (λ u. permute_rules.ended u votes) same)

-- ---- The programs after their run

ended_are : (p q : List ℕ) (m : Sparse) (ps : List PermuteState) (h : PermuteEnded p q m ps) → ps ≡ map (over h.ranks m p q) (range_with_len 0 h.ranks)
ended_are p q m ps h =
    let starts : List PermuteState = permute_starts h.ranks m p q in
    h.ended.states ∙ ap (states_at permute_rules starts) (rounds_once permute_rules starts h.ended.rounds 3 h.ended.has_rounds (three_rounds starts)) ∙ third_round h.ranks m p q h.some h.matrix h.rows h.cols

programs_len : (p q : List ℕ) (m : Sparse) (ps : List PermuteState) (h : PermuteEnded p q m ps) → length ps ≡ h.ranks
programs_len p q m ps h = ap length (ended_are p q m ps h) ∙ length-map-range_with_len (over h.ranks m p q) 0 h.ranks

ended_at : (p q : List ℕ) (m : Sparse) (ps : List PermuteState) (h : PermuteEnded p q m ps) (r : ℕ) → r < length ps → slice_get ps r ≡ Some (over h.ranks m p q r)
ended_at p q m ps h r low = ap (λ ss. slice_get ss r) (ended_are p q m ps h) ∙ made_at (over h.ranks m p q) h.ranks r (subst (λ n. r < n) (programs_len p q m ps h) low)

pub rank_found : (p q : List ℕ) (m : Sparse) (ps : List PermuteState) (h : PermuteEnded p q m ps) (r : ℕ) → r < length ps → slice_get ps r ≡ None → ⊥
rank_found p q m ps h r low none = let there = ended_at p q m ps h r low in cc

-- the permuted matrix's entries
abbrev pub moved_cells : List ℕ → List ℕ → Sparse → List Triple
moved_cells p q m = gathered_cells (map (with_new_numbers p q) m.entries)

-- what a rank has
pub rank_cells : (p q : List ℕ) (m : Sparse) (ps : List PermuteState) (h : PermuteEnded p q m ps) (r : ℕ) (s : PermuteState) → r < length ps → slice_get ps r ≡ Some s
    → s.cells ≡ dealt (row_of (length ps)) r (moved_cells p q m)
rank_cells p q m ps h r s low at =
    ap (λ (t : PermuteState). t.cells) (get_once ps r s _ at (ended_at p q m ps h r low))
    ∙ ap (λ n. dealt (row_of n) r (by_new_row p q m)) (sym (programs_len p q m ps h))
    ∙ ap (dealt (row_of (length ps)) r) (arrived m p q h.matrix h.rows)

-- and all ranks together have the whole matrix
pub whole : (p q : List ℕ) (m : Sparse) (ps : List PermuteState) (h : PermuteEnded p q m ps) (all : List Triple) (n : ℕ) → n ≡ length ps
    → all ≡ gathered_cells (flat_map (λ r. dealt (row_of (length ps)) r (moved_cells p q m)) (range_with_len 0 n)) → all ≡ moved_cells p q m
whole p q m ps h all n is so_far =
    so_far ∙ ap (λ k. gathered_cells (flat_map (λ r. dealt (row_of (length ps)) r (moved_cells p q m)) (range_with_len 0 k))) is
    ∙ parts_gathered (length ps) (moved_cells p q m) (gathered_ordered (map (with_new_numbers p q) m.entries)) (λ k d l. mod-lt _ (subst (λ k. 0 < k) (sym (programs_len p q m ps h)) h.some))
