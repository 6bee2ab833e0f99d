-- One cell more leaves the cells in order, and the owner's.
use Rattle.std.proofs.Common.{sym, ◌∙◌, subst}
use Rattle.std.specs.List.{All}
use Rattle.mtx_text.specs.Cells.{InOrder}
use Rattle.app_permute.specs.Carried.{item_cell}
use Rattle.app_permute.specs.Permutes.{IsKeptCell}
use Rattle.app_permute.proofs.PermuteBatches.{own_kept}
use Rattle.app_permute.proofs.TransposeBatches.{own_ordered}
use Rattle.app_permute.proofs.carried.raise_own.Goals as goal

pub returns-then-cell_fits-clause-ordered : goal.returns-then-cell_fits-clause-ordered
returns-then-cell_fits-clause-ordered c =
    subst InOrder (sym c.raise_cell.ensures) (own_ordered _ (item_cell c.args.item) c.args.cells.now c.requires.ordered)

pub returns-then-cell_fits-clause-own : goal.returns-then-cell_fits-clause-own
returns-then-cell_fits-clause-own c = λ all.
    let o = c.args.owner in
    subst (All (IsKeptCell o.rows o.cols o.ranks o.rank)) (sym c.raise_cell.ensures)
    (own_kept _ o c.args.from c.args.item c.args.cells.now (sym c.cell_fits.ensures ∙ c.if-cell_fits.true) all)
