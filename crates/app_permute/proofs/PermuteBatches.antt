-- What a batch makes of the cells of a rank of permute is what it makes of the rank.
use Rattle.std.proofs.Common.{ℕ, ◌%◌, ◌^◌, ◌≡◌, ◌≢◌, ◌==◌, Bool, true, false, List, [], ◌∷◌, map, cond, refl, sym, ap, ap₂, ◌∙◌, subst}
use Rattle.std.specs.Prelude.{◌&&◌, nat_lt}
use Rattle.std.specs.List.{All}
use Rattle.std.proofs.lemmas.Bool.{eq-eqb, ne_eqb}
use Rattle.bale_items.specs.declared.Item.{Item}
use Rattle.bale_items.specs.declared.triple.Triple.{Triple}
use Rattle.bale_items.specs.Bits.{from_twos_complement}
use Rattle.mtx_text.specs.Cells.{InOrder, with_value_raised}
use Rattle.mtx_text.proofs.Gathered.{raised_keeps}
use Rattle.round_program.specs.Batches.{taken_in, all_taken_in}
use Rattle.app_permute.specs.declared.carried.RowOwner.{RowOwner}
use Rattle.app_permute.specs.Carried.{item_cell, may_cell}
use Rattle.app_permute.specs.Permutes.{PermuteState, IsPermuting, IsKeptCell, permute_rules}
use Rattle.app_permute.specs.laws.PermuteLaws.{may_by, kept_by, greater_kept}
use Rattle.app_permute.specs.code.Batches.{own_raised, all_raised, turned_over}

-- the owner of a rank's rows, and that of its columns
abbrev pub row_owner_of : PermuteState → RowOwner
row_owner_of s = record { rank = s.rank; ranks = s.ranks; rows = s.rows; cols = s.cols }

abbrev pub column_owner_of : PermuteState → RowOwner
column_owner_of s = record { rank = s.rank; ranks = s.ranks; rows = s.cols; cols = s.rows }

swapped : (f a b : Bool) → (f && a && b) ≡ (f && b && a)
swapped false a b = refl
swapped true true true = refl
swapped true true false = refl
swapped true false true = refl
swapped true false false = refl

-- the owner of a column may be sent a cell as the owner of a row may be sent the turned one
may_turned : (rows cols ranks rank from : ℕ) (x : Item) → may_by true rows cols ranks rank from x ≡ may_cell cols rows ranks rank from (turned_over (from, x)).1
may_turned rows cols ranks rank from x =
    ap₂ (λ f i. f && x.b % ranks == rank && i) (swapped (nat_lt from ranks) (nat_lt x.a rows) (nat_lt x.b cols))
    (ap (λ w. w && nat_lt x.c (2 ^ 64)) (swapped true (nat_lt x.a (2 ^ 64)) (nat_lt x.b (2 ^ 64))))

inside : (s : PermuteState) (b : Bool) (x y : List Triple) → cond b (record s { cells = x }) (record s { cells = y }) ≡ record s { cells = cond b x y }
inside s true x y = refl
inside s false x y = refl

-- what a rank takes in, once it is known whether the round is that of the columns
abbrev taken_by : PermuteState → Bool → ℕ → Item → PermuteState
taken_by s b from x =
    cond (may_by b s.rows s.cols s.ranks s.rank from x) (record s { cells = with_value_raised (cond b (record { i = x.b; j = x.a; v = from_twos_complement x.c }) (item_cell x)) s.cells }) s

one_column : (s : PermuteState) (cells : List Triple) (from : ℕ) (x : Item) → s.round ≡ 1
    → taken_in permute_rules (record s { cells = cells }) from x ≡ record s { cells = own_raised (column_owner_of s) cells from (turned_over (from, x)).1 }
one_column s cells from x z =
    ap (λ b. taken_by (record s { cells = cells }) b from x) (eq-eqb s.round 1 z)
    ∙ inside s (may_by true s.rows s.cols s.ranks s.rank from x) (with_value_raised (item_cell (turned_over (from, x)).1) cells) cells
    ∙ ap (λ m. record s { cells = cond m (with_value_raised (item_cell (turned_over (from, x)).1) cells) cells }) (may_turned s.rows s.cols s.ranks s.rank from x)

one_row : (s : PermuteState) (cells : List Triple) (from : ℕ) (x : Item) → s.round ≢ 1
    → taken_in permute_rules (record s { cells = cells }) from x ≡ record s { cells = own_raised (row_owner_of s) cells from x }
one_row s cells from x n =
    ap (λ b. taken_by (record s { cells = cells }) b from x) (ne_eqb s.round 1 n)
    ∙ inside s (may_cell s.rows s.cols s.ranks s.rank from x) (with_value_raised (item_cell x) cells) cells

pub columns_taken : (s : PermuteState) (cells : List Triple) (came : List (ℕ × Item)) → s.round ≡ 1
    → all_taken_in permute_rules (record s { cells = cells }) came ≡ record s { cells = all_raised (column_owner_of s) cells (map turned_over came) }
columns_taken s cells [] z = refl
columns_taken s cells (e ∷ es) z =
    ap (λ t. all_taken_in permute_rules t es) (one_column s cells e.0 e.1 z) ∙ columns_taken s (own_raised (column_owner_of s) cells e.0 (turned_over e).1) es z

pub rows_taken : (s : PermuteState) (cells : List Triple) (came : List (ℕ × Item)) → s.round ≢ 1
    → all_taken_in permute_rules (record s { cells = cells }) came ≡ record s { cells = all_raised (row_owner_of s) cells came }
rows_taken s cells [] n = refl
rows_taken s cells (e ∷ es) n =
    ap (λ t. all_taken_in permute_rules t es) (one_row s cells e.0 e.1 n) ∙ rows_taken s (own_raised (row_owner_of s) cells e.0 e.1) es n

-- an own cell more leaves all the owner's
pub own_kept : (b : Bool) (owner : RowOwner) (from : ℕ) (x : Item) (cells : List Triple) → may_cell owner.rows owner.cols owner.ranks owner.rank from x ≡ true
    → All (IsKeptCell owner.rows owner.cols owner.ranks owner.rank) cells → All (IsKeptCell owner.rows owner.cols owner.ranks owner.rank) (cond b (with_value_raised (item_cell x) cells) cells)
own_kept true owner from x cells may all =
    raised_keeps (IsKeptCell owner.rows owner.cols owner.ranks owner.rank) (greater_kept owner.rows owner.cols owner.ranks owner.rank) (item_cell x) cells
    (kept_by false owner.rows owner.cols owner.ranks owner.rank from x may) all
own_kept false owner from x cells may all = all

-- the state that a batch leaves, or a part of one
pub batch_valid : (s : PermuteState) (b : Bool) (cells : List Triple) → IsPermuting s → (s.round == 1) ≡ b
    → (All (IsKeptCell (cond b s.cols s.rows) (cond b s.rows s.cols) s.ranks s.rank) s.cells → All (IsKeptCell (cond b s.cols s.rows) (cond b s.rows s.cols) s.ranks s.rank) cells)
    → InOrder cells → IsPermuting (record s { cells = cells })
batch_valid s b cells v e own order =
    record {
      own = v.own;
      tall = v.tall;
      wide = v.wide;
      row_numbers = v.row_numbers;
      col_numbers = v.col_numbers;
      kept = subst (λ c. All (IsKeptCell (cond c s.cols s.rows) (cond c s.rows s.cols) s.ranks s.rank) cells) (sym e)
          (own (subst (λ c. All (IsKeptCell (cond c s.cols s.rows) (cond c s.rows s.cols) s.ranks s.rank) s.cells) e v.kept));
      ordered = order;
      fit = v.fit;
    }
