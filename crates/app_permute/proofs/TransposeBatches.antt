-- What a batch makes of the cells of a rank is what it makes of the rank.
use Rattle.std.proofs.Common.{ℕ, ◌≡◌, ◌≢◌, ◌==◌, Bool, true, false, List, [], ◌∷◌, cond, refl, ap, ◌∙◌}
use Rattle.std.specs.Prelude.{◌&&◌}
use Rattle.std.proofs.lemmas.Bool.{ne_eqb}
use Rattle.bale_items.specs.declared.Item.{Item}
use Rattle.bale_items.specs.declared.triple.Triple.{Triple}
use Rattle.mtx_text.specs.Cells.{InOrder, with_value_raised}
use Rattle.mtx_text.proofs.Raised.{raised_ordered}
use Rattle.round_program.specs.Batches.{taken_in, all_taken_in}
use Rattle.app_permute.specs.declared.carried.RowOwner.{RowOwner}
use Rattle.app_permute.specs.Carried.{item_cell, may_cell}
use Rattle.app_permute.specs.Transposes.{TransposeState, transpose_rules}
use Rattle.app_permute.specs.code.Batches.{own_raised, all_raised}

inside : (s : TransposeState) (b : Bool) (x y : List Triple) → cond b (record s { cells = x }) (record s { cells = y }) ≡ record s { cells = cond b x y }
inside s true x y = refl
inside s false x y = refl

-- the owner of a rank's rows
abbrev pub owner_of : TransposeState → RowOwner
owner_of s = record { rank = s.rank; ranks = s.ranks; rows = s.rows; cols = s.cols }

-- cells come in round 0
one : (s : TransposeState) (cells : List Triple) (n from : ℕ) (x : Item) → n ≡ 0
    → taken_in transpose_rules (record s { round = n; cells = cells }) from x ≡ record s { round = n; cells = own_raised (owner_of s) cells from x }
one s cells n from x z =
    ap (λ b. cond (b && may_cell s.rows s.cols s.ranks s.rank from x) (record s { round = n; cells = with_value_raised (item_cell x) cells }) (record s { round = n; cells = cells })) (ap (λ k. k == 0) z)
    ∙ inside (record s { round = n }) (may_cell s.rows s.cols s.ranks s.rank from x) (with_value_raised (item_cell x) cells) cells

pub cells_taken : (s : TransposeState) (cells : List Triple) (came : List (ℕ × Item)) → s.round ≡ 0
    → all_taken_in transpose_rules (record s { cells = cells }) came ≡ record s { cells = all_raised (owner_of s) cells came }
cells_taken s cells [] z = refl
cells_taken s cells (e ∷ es) z =
    ap (λ t. all_taken_in transpose_rules t es) (one s cells s.round e.0 e.1 z) ∙ cells_taken s (own_raised (owner_of s) cells e.0 e.1) es z

-- and none in a later one
late : (s : TransposeState) (b : Bool) (from : ℕ) (x : Item) → b ≡ false → cond (b && may_cell s.rows s.cols s.ranks s.rank from x) (record s { cells = with_value_raised (item_cell x) s.cells }) s ≡ s
late s false from x e = refl
late s true from x e = absurd (cc)

pub no_cells : (s : TransposeState) (came : List (ℕ × Item)) → s.round ≢ 0 → all_taken_in transpose_rules s came ≡ s
no_cells s [] n = refl
no_cells s (e ∷ es) n = ap (λ t. all_taken_in transpose_rules t es) (late s (s.round == 0) e.0 e.1 (ne_eqb s.round 0 n)) ∙ no_cells s es n

-- the cells stay in order
pub own_ordered : (b : Bool) (t : Triple) (cells : List Triple) → InOrder cells → InOrder (cond b (with_value_raised t cells) cells)
own_ordered true t cells o = raised_ordered t cells o
own_ordered false t cells o = o
