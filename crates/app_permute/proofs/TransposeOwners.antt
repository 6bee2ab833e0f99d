-- What the ranks of transpose have after their round: the rows of the transposed matrix that are
-- theirs.
use Rattle.std.proofs.Common.{◌≡◌, ℕ, ◌%◌, ◌<◌, ◌≤◌, ◌^◌, ◌==◌, cond, Bool, true, false, List, [], ◌∷◌, Some, None, map, length, get_or, slice_get, arith, refl, sym, ap, ◌∙◌, subst, lit<}
use Rattle.std.specs.List.{range_with_len, flat_map}
use Rattle.std.proofs.Math.Nat.{mod-lt}
use Rattle.std.proofs.lemmas.Bool.Decides.{nat_tests}
use Rattle.std.proofs.lemmas.List.Elements.{All-map, All-filter}
use Rattle.std.proofs.lemmas.List.FromFn.{length-map-range_with_len}
use Rattle.bale_items.specs.declared.Item.{Item}
use Rattle.bale_items.specs.declared.triple.Triple.{Triple}
use Rattle.bale_items.specs.Bits.{twos_complement}
use Rattle.list_laws.proofs.Lists.{get_once}
use Rattle.mtx_text.specs.Sparse.{Sparse, IsSparse, IsEntry}
use Rattle.mtx_text.specs.Cells.{is_before, InOrder, with_value_raised, raised_all, gathered_cells}
use Rattle.mtx_text.proofs.PlaceOrder.{pairs_none}
use Rattle.mtx_text.proofs.Gathered.{gathered_ordered}
use Rattle.mtx_text.proofs.Raised.{raised_ordered}
use Rattle.round_program.specs.Canonical.{absorbed_round, states_at, HasRounds, EndsWithin, InRound}
use Rattle.round_program.specs.Orders.{absorb_each}
use Rattle.round_program.proofs.Members.{rounds_once}
use Rattle.sparse_rows.specs.Deals.{dealt}
use Rattle.sparse_rows.specs.Owners.{Numbered, with_numbers, entry_owner, column_owner, own_entries}
use Rattle.sparse_rows.proofs.EveryEntry.{came_to, every_owned}
use Rattle.sparse_rows.proofs.Gathering.{row_of, landed, gathered_dealt, parts_gathered}
use Rattle.sparse_rows.proofs.Starts.{made_at, made_from, made_in_round, all_numbered, numbered_map, all_owned, round_made}
use Rattle.app_permute.specs.Carried.{cell_item, item_cell}
use Rattle.app_permute.specs.Reorderings.{over_diagonal}
use Rattle.app_permute.specs.Transposes.{TransposeState, IsTransposing, transpose_rules, may_transpose}
use Rattle.app_permute.specs.laws.TransposeLaws.{transpose_laws}
use Rattle.app_permute.specs.TransposeRuns.{transpose_begins, transpose_starts, TransposeEnded}
use Rattle.app_permute.proofs.CellWords.{word_of, cell_back}
use Rattle.app_permute.proofs.Answers.{turned_differ}

-- ---- The start

fits_here : (rows cols ranks r : ℕ) (t : Triple) → r < ranks → rows ≤ 16384 → cols ≤ 16384 → t.i < rows → t.j < cols → twos_complement t.v < 2 ^ 64
    → may_transpose (cols ∷ rows ∷ []) ranks 0 (t.j % ranks) r (cell_item (over_diagonal t)) ≡ true
fits_here rows cols ranks r t low tall wide row col word = grind (arith, nat_tests)

pub begins_valid : (ranks : ℕ) (m : Sparse) (r : ℕ) → r < ranks → IsSparse m → IsTransposing (transpose_begins ranks m r)
begins_valid ranks m r low is =
    let tall : m.rows ≤ 16384 = is.tall in
    let wide : m.cols ≤ 16384 = is.wide in
    let Fits : Numbered → Type 0 = λ e. may_transpose (m.cols ∷ m.rows ∷ []) ranks 0 (column_owner ranks e) r (cell_item (over_diagonal e.1)) ≡ true in
    record {
      own = low;
      tall = omega arith;
      wide = omega arith;
      ordered = pairs_none (λ s t. is_before s t ≡ true);
      fit =
          All-map (λ e. may_transpose (m.cols ∷ m.rows ∷ []) ranks 0 e.0 r e.1 ≡ true) (λ (e : Numbered). (column_owner ranks e, cell_item (over_diagonal e.1))) (own_entries ranks r m.entries)
          (All-filter (λ (e : Numbered). e.0 % ranks == r) Fits (with_numbers m.entries)
          (all_numbered (λ (t : Triple). may_transpose (m.cols ∷ m.rows ∷ []) ranks 0 (t.j % ranks) r (cell_item (over_diagonal t)) ≡ true) 0 m.entries
          (λ k d l. let e : IsEntry m (get_or m.entries k d) = is.inside k d l in fits_here m.rows m.cols ranks r (get_or m.entries k d) low is.tall is.wide e.row e.col (word_of (get_or m.entries k d).v e.limit))));
    }

pub starts_in_round : (ranks : ℕ) (m : Sparse) → IsSparse m → InRound transpose_rules ranks 0 (m.cols ∷ m.rows ∷ []) 1 (transpose_starts ranks m)
starts_in_round ranks m is =
    made_in_round transpose_rules (transpose_begins ranks m) ranks 0 (m.cols ∷ m.rows ∷ []) 1
    (λ r low. record { valid = begins_valid ranks m r low is; own_rank = refl; all_ranks = refl; same_round = refl; same_shape = refl; same_most = refl })

-- a rank as transpose begins, from its fields
pub begins_is : (ranks : ℕ) (m : Sparse) (r rows cols : ℕ) (outgoing : List (ℕ × Item)) → rows ≡ m.cols → cols ≡ m.rows → outgoing ≡ (transpose_begins ranks m r).outgoing
    → record { rank = r; ranks = ranks; round = 0; rows = rows; cols = cols; outgoing = outgoing; cells = [] } ≡ transpose_begins ranks m r
begins_is ranks m r rows cols outgoing a b c =
    let s : TransposeState = transpose_begins ranks m r in
    ap (λ w. record s { rows = w; cols = cols; outgoing = outgoing }) a ∙ ap (λ w. record s { cols = w; outgoing = outgoing }) b ∙ ap (λ w. record s { outgoing = w }) c

-- the run has one round
pub one_round : (starts : List TransposeState) → HasRounds transpose_rules starts 1
one_round starts = record { some = lit< tt; goes = λ m l. absurd (omega arith); stops = refl }

pub within_one : (starts : List TransposeState) → EndsWithin transpose_rules starts 1
within_one starts = record { rounds = 1; has_rounds = one_round starts; at_most = omega arith }

-- a rank in its round, after a cell that was raised or found no memory
pub raise_valid : (s : TransposeState) (b : Bool) (x : Item) (cells : List Triple) → IsTransposing s → cells ≡ cond b (with_value_raised (item_cell x) s.cells) s.cells → IsTransposing (record s { cells = cells })
raise_valid s true x cells v h = record { own = v.own; tall = v.tall; wide = v.wide; ordered = subst InOrder (sym h) (raised_ordered (item_cell x) s.cells v.ordered); fit = v.fit }
raise_valid s false x cells v h = record { own = v.own; tall = v.tall; wide = v.wide; ordered = subst InOrder (sym h) v.ordered; fit = v.fit }

-- ---- The end

-- the transposed matrix's entries
abbrev pub turned_cells : Sparse → List Triple
turned_cells m = gathered_cells (map over_diagonal m.entries)

-- a rank after the round
abbrev pub over : ℕ → Sparse → ℕ → TransposeState
over ranks m r = record (transpose_begins ranks m r) { round = 1; outgoing = []; cells = dealt (row_of ranks) r (turned_cells m) }

-- what came to a rank
abbrev came : ℕ → Sparse → ℕ → List (ℕ × Item)
came ranks m r = came_to (entry_owner ranks) (column_owner ranks) (λ e. cell_item (over_diagonal e.1)) r (with_numbers m.entries)

each_raised : (s : TransposeState) (es : List (ℕ × Item)) → absorb_each transpose_rules s es ≡ record s { cells = raised_all s.cells (map (λ e. item_cell e.1) es) }
each_raised s [] = refl
each_raised s (e ∷ es) = each_raised (record s { cells = with_value_raised (item_cell e.1) s.cells }) es

came_cells : (ranks : ℕ) (m : Sparse) (r : ℕ) → IsSparse m → gathered_cells (map (λ e. item_cell e.1) (came ranks m r)) ≡ dealt (row_of ranks) r (turned_cells m)
came_cells ranks m r is =
    ap gathered_cells
    (landed (entry_owner ranks) (λ e. cell_item (over_diagonal e.1)) (λ (e : Numbered). over_diagonal e.1) item_cell ranks r (with_numbers m.entries)
    (all_numbered (λ (t : Triple). item_cell (cell_item (over_diagonal t)) ≡ over_diagonal t) 0 m.entries (λ k d l. cell_back (over_diagonal (get_or m.entries k d)) (is.inside k d l).limit))
    ∙ ap (dealt (row_of ranks) r) (numbered_map over_diagonal 0 m.entries))
    ∙ gathered_dealt ranks r (map over_diagonal m.entries) (turned_differ m is)

the_round : (ranks : ℕ) (m : Sparse) → 0 < ranks → IsSparse m → states_at transpose_rules (transpose_starts ranks m) 1 ≡ map (over ranks m) (range_with_len 0 ranks)
the_round ranks m some is =
    round_made transpose_rules ranks (transpose_begins ranks m) (over ranks m) (λ r votes low t at.
    let absorbed : slice_get (absorbed_round transpose_rules (transpose_starts ranks m)) r ≡ Some (absorb_each transpose_rules (transpose_begins ranks m r) (came ranks m r)) =
    every_owned transpose_rules transpose_laws ranks 0 (m.cols ∷ m.rows ∷ []) 1 (transpose_starts ranks m) (entry_owner ranks) (column_owner ranks) (λ e. cell_item (over_diagonal e.1)) (with_numbers m.entries)
    (starts_in_round ranks m is) (all_owned ranks 0 m.entries some)
    (λ f s here. ap transpose_rules.emissions (sym (made_from (transpose_begins ranks m) ranks f s here).1))
    r (transpose_begins ranks m r) (made_at (transpose_begins ranks m) ranks r low) in
    let same : t ≡ record (transpose_begins ranks m r) { cells = dealt (row_of ranks) r (turned_cells m) } =
    get_once (absorbed_round transpose_rules (transpose_starts ranks m)) r t _ at absorbed ∙ each_raised (transpose_begins ranks m r) (came ranks m r)
    ∙ ap (λ cells. record (transpose_begins ranks m r) { cells = cells }) (came_cells ranks m r is) in
    ap (λ s. transpose_rules.ended s votes) same)

-- the programs after their run
ended_are : (m : Sparse) (ps : List TransposeState) (h : TransposeEnded m ps) → ps ≡ map (over h.ranks m) (range_with_len 0 h.ranks)
ended_are m ps h =
    let starts : List TransposeState = transpose_starts h.ranks m in
    h.ended.states ∙ ap (states_at transpose_rules starts) (rounds_once transpose_rules starts h.ended.rounds 1 h.ended.has_rounds (one_round starts)) ∙ the_round h.ranks m h.some h.matrix

pub programs_len : (m : Sparse) (ps : List TransposeState) (h : TransposeEnded m ps) → length ps ≡ h.ranks
programs_len m ps h = ap length (ended_are m ps h) ∙ length-map-range_with_len (over h.ranks m) 0 h.ranks

ended_at : (m : Sparse) (ps : List TransposeState) (h : TransposeEnded m ps) (r : ℕ) → r < length ps → slice_get ps r ≡ Some (over h.ranks m r)
ended_at m ps h r low = ap (λ ss. slice_get ss r) (ended_are m ps h) ∙ made_at (over h.ranks m) h.ranks r (subst (λ n. r < n) (programs_len m ps h) low)

pub rank_found : (m : Sparse) (ps : List TransposeState) (h : TransposeEnded m ps) (r : ℕ) → r < length ps → slice_get ps r ≡ None → ⊥
rank_found m ps h r low none = let there = ended_at m ps h r low in cc

-- what a rank has
pub rank_cells : (m : Sparse) (ps : List TransposeState) (h : TransposeEnded m ps) (r : ℕ) (s : TransposeState) → r < length ps → slice_get ps r ≡ Some s
    → s.cells ≡ dealt (row_of (length ps)) r (turned_cells m)
rank_cells m ps h r s low at =
    ap (λ (t : TransposeState). t.cells) (get_once ps r s _ at (ended_at m ps h r low))
    ∙ ap (λ n. dealt (row_of n) r (turned_cells m)) (sym (programs_len m ps h))

-- and all ranks together have the whole matrix
pub whole : (m : Sparse) (ps : List TransposeState) (h : TransposeEnded m ps) (all : List Triple) (n : ℕ) → n ≡ length ps
    → all ≡ gathered_cells (flat_map (λ r. dealt (row_of (length ps)) r (turned_cells m)) (range_with_len 0 n)) → all ≡ turned_cells m
whole m ps h all n is so_far =
    so_far ∙ ap (λ k. gathered_cells (flat_map (λ r. dealt (row_of (length ps)) r (turned_cells m)) (range_with_len 0 k))) is
    ∙ parts_gathered (length ps) (turned_cells m) (gathered_ordered (map over_diagonal m.entries)) (λ k d l. mod-lt _ (subst (λ k. 0 < k) (sym (programs_len m ps h)) h.some))
