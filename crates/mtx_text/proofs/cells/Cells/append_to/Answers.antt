use Rattle.std.proofs.Common.{◌++◌, ◌≡◌, sym, ap, ◌∙◌, rules, subst}
use Rattle.mtx_text.specs.Cells.{gathered_cells, InOrder}
use Rattle.mtx_text.proofs.Gathered.{gathered_append, gathered_ordered}
use Rattle.mtx_text.proofs.cells.Cells.append_to.Goals as goal

pub returns-clause-cells : goal.returns-clause-cells
returns-clause-cells c =
    let before = c.args.triples.now.items in
    let mine = c.self.inside.triples.items in
    let same : gathered_cells (before ++ mine) ≡ gathered_cells (before ++ c.args.self.now) =
    sym (gathered_append before mine) ∙ ap (λ cells. gathered_cells (before ++ cells)) c.self.view_is in
    let items : c.extend_from_slice.new.self.items ≡ before ++ mine = search (rules, c.in_ok-extend_from_slice.was, c.extend_from_slice.ensures.items, c.as_slice.ensures.value) in
    ap gathered_cells items ∙ same

pub returns-clause-ordered : goal.returns-clause-ordered
returns-clause-ordered c = subst InOrder c.self.view_is (gathered_ordered c.self.inside.triples.items)

pub returns-in_err-extend_from_slice-clause-ordered : goal.returns-in_err-extend_from_slice-clause-ordered
returns-in_err-extend_from_slice-clause-ordered c = subst InOrder c.self.view_is (gathered_ordered c.self.inside.triples.items)
