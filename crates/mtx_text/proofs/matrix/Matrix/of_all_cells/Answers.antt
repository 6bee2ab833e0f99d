use Rattle.std.proofs.Common.{◌≡◌, [], IfOk, take, rules, sym, ap, ◌∙◌, subst}
use Rattle.std.specs.List.{All, flat_map}
use Rattle.std.proofs.lemmas.List.{take_all}
use Rattle.std.proofs.lemmas.List.Elements.{All-more}
use Rattle.mtx_text.specs.Cells.{InOrder, together, sparse}
use Rattle.mtx_text.specs.Sparse.{IsEntry}
use Rattle.mtx_text.proofs.Gathered.{gathered_alike, gathered_ordered, together_more}
use Rattle.mtx_text.proofs.matrix.Matrix.of_all_cells.Goals as goal

pub loop-cells-preserved : goal.loop-cells-preserved
loop-cells-preserved c =
    let all = c.args.all.now in
    let k = c.loop-cells.cells-index in
    let cells = c.cells-item.result in
    record {
      same = c.in_ok-append_to.ensures.cells
          ∙ gathered_alike c.loop-cells.triples.items (flat_map (λ cells. cells) (take k all)) cells c.loop-cells.invariant.same
          ∙ sym (together_more all k cells c.loop-cells-test.true c.cells-item.is);
      ordered = All-more (λ cells. InOrder cells) all k cells c.loop-cells-test.true c.loop-cells.invariant.ordered
          (subst InOrder c.cells-item.is c.append_to.ensures.ordered);
    }

pub of_ordered-requires : goal.of_ordered-requires
of_ordered-requires c =
    let all = c.args.all.now in
    let same : c.gather.new.triples.items ≡ together all =
    c.gather.ensures ∙ c.loop-cells.invariant.same ∙ ap together (take_all c.loop-cells.cells-index all c.loop-cells-test.false) in
    record {
      sides = c.requires.sides;
      inside = subst (All (λ t. IsEntry (sparse c.args.rows c.args.cols c.args.kind []) t)) (sym same) c.requires.inside;
      ordered = subst InOrder (sym same) (gathered_ordered (flat_map (λ cells. cells) all));
    }

pub returns-clause-matrix : goal.returns-clause-matrix
returns-clause-matrix c =
    let all = c.args.all.now in
    let same : c.gather.new.triples.items ≡ together all =
    c.gather.ensures ∙ c.loop-cells.invariant.same ∙ ap together (take_all c.loop-cells.cells-index all c.loop-cells-test.false) in
    subst (λ cells. IfOk c.of_ordered.result (λ m. m ≡ sparse c.args.rows c.args.cols c.args.kind cells)) same c.of_ordered.ensures.matrix

pub returns-clause-ordered : goal.returns-clause-ordered
returns-clause-ordered c =
    let all = c.args.all.now in
    let done : All (λ cells. InOrder cells) all =
    subst (All (λ cells. InOrder cells)) (take_all c.loop-cells.cells-index all c.loop-cells-test.false) c.loop-cells.invariant.ordered in
    search (rules, done)
