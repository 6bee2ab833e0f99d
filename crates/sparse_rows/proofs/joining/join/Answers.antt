use Rattle.std.proofs.Common.{length, sym, ap, ◌∙◌, subst}
use Rattle.std.specs.List.{flat_map}
use Rattle.mtx_text.specs.Sparse.{Sparse}
use Rattle.mtx_text.specs.Maps.{at}
use Rattle.mtx_text.specs.Cells.{InOrder}
use Rattle.mtx_text.proofs.Gathered.{gathered_ordered}
use Rattle.sparse_rows.proofs.Joined.{values_joined, all_inside}
use Rattle.sparse_rows.proofs.joining.join.Goals as goal

pub of_all_cells-requires-clause-inside : goal.of_all_cells-requires-clause-inside
of_all_cells-requires-clause-inside c = all_inside c.args.rows c.args.cols c.args.kind c.args.rows_of.now c.requires.inside

pub returns-clause-values : goal.returns-clause-values
returns-clause-values c = λ i j.
    ap (λ (m : Sparse). at m i j) c.in_ok-m.ensures.matrix
    ∙ values_joined (length c.args.rows_of.now) i j c.args.rows_of.now c.requires.own c.in_ok-m.ensures.ordered

pub returns-clause-ordered : goal.returns-clause-ordered
returns-clause-ordered c =
    subst InOrder (sym (ap (λ (m : Sparse). m.entries) c.in_ok-m.ensures.matrix)) (gathered_ordered (flat_map (λ cells. cells) c.args.rows_of.now))
