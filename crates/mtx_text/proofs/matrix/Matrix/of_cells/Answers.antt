use Rattle.std.proofs.Common.{◌≡◌, ◌++◌, [], sym, ap, ◌∙◌, subst, IfOk}
use Rattle.std.specs.List.{All}
use Rattle.mtx_text.specs.Cells.{gathered_cells, InOrder, sparse}
use Rattle.mtx_text.specs.Sparse.{IsEntry}
use Rattle.mtx_text.proofs.Gathered.{gathered_itself}
use Rattle.mtx_text.proofs.matrix.Matrix.of_cells.Goals as goal

pub of_ordered-requires : goal.of_ordered-requires
of_ordered-requires c =
    let same : c.gather.new.triples.items ≡ c.args.cells.now =
    c.gather.ensures ∙ c.in_ok-append_to.ensures.cells ∙ ap (λ ts. gathered_cells (ts ++ c.args.cells.now)) c.new-triples.ensures.items
    ∙ gathered_itself c.args.cells.now c.append_to.ensures.ordered in
    record {
      sides = c.requires.sides;
      inside = subst (All (λ t. IsEntry (sparse c.args.rows c.args.cols c.args.kind []) t)) (sym same) c.requires.inside;
      ordered = subst InOrder (sym same) c.append_to.ensures.ordered;
    }

pub returns : goal.returns
returns c =
    let same : c.gather.new.triples.items ≡ c.args.cells.now =
    c.gather.ensures ∙ c.in_ok-append_to.ensures.cells ∙ ap (λ ts. gathered_cells (ts ++ c.args.cells.now)) c.new-triples.ensures.items
    ∙ gathered_itself c.args.cells.now c.append_to.ensures.ordered in
    subst (λ cells. IfOk c.of_ordered.result (λ m. m ≡ sparse c.args.rows c.args.cols c.args.kind cells)) same c.of_ordered.ensures.matrix
