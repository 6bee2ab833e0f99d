use Rattle.std.proofs.Common.{◌≡◌, List, Bor, [], map, arith, sym, ap, ◌∙◌, subst, All}
use Rattle.std.specs.Option.{option_copied}
use Rattle.list_laws.proofs.Results.{if_ok_is, if_ok_from}
use Rattle.mtx_text.specs.Sparse.{Sparse, IsEntry}
use Rattle.bale_items.specs.declared.triple.Triple.{Triple}
use Rattle.mtx_text.specs.Cells.{sparse, together}
use Rattle.mtx_text.proofs.MapsTogether.{together_push}
use Rattle.sparse_rows.proofs.Gathering.{parts_more}
use Rattle.app_permute.specs.Reorderings.{transpose_of, IsTransposed}
use Rattle.app_permute.proofs.Answers.{turned_inside, transposed_is}
use Rattle.app_permute.proofs.TransposeOwners.{turned_cells, rank_cells, whole}
use Rattle.app_permute.proofs.transpose_run.transpose_end.Goals as goal

abbrev now : Bor (List Triple) → List Triple
now m = m.now

pub loop-rank-init : goal.loop-rank-init
loop-rank-init c = ap (λ l. together (map now l)) c.in_ok-maps.ensures.items

pub loop-rank-preserved : goal.loop-rank-preserved
loop-rank-preserved c =
    parts_more _ c.loop-rank.rank (turned_cells c.args.m.now) (together (map now c.loop-rank.maps.items)) (together (map now c.push.new.self.items)) _
    c.loop-rank.invariant
    (c.cells.ensures ∙ rank_cells c.args.m.now c.args.p.now c.requires.ended c.loop-rank.rank c.in-Some.program.now (omega arith) (sym c.get.ensures ∙ ap option_copied c.in-Some.is))
    (together_push now c.loop-rank.maps.items c.push.new.self.items c.cells.result c.in_ok-push.ensures.items)

pub of_own_cells-requires-clause-inside : goal.of_own_cells-requires-clause-inside
of_own_cells-requires-clause-inside c =
    let m : Sparse = c.args.m.now in
    let all : c.in_ok-all.all ≡ turned_cells m =
    whole m c.args.p.now c.requires.ended c.in_ok-all.all c.loop-rank.rank (omega arith)
    (c.in_ok-all.ensures ∙ ap (λ l. together (map now l)) c.deref.ensures.value ∙ c.loop-rank.invariant) in
    let same : sparse c.cols.result c.rows.result c.kind.result [] ≡ sparse m.cols m.rows m.kind [] =
    ap (λ k. sparse k c.rows.result c.kind.result []) c.cols.ensures ∙ ap (λ k. sparse m.cols k c.kind.result []) c.rows.ensures ∙ ap (λ k. sparse m.cols m.rows k []) c.kind.ensures in
    subst (λ b. All (IsEntry b) c.in_ok-all.all) (sym same) (subst (All (IsEntry (sparse m.cols m.rows m.kind []))) (sym all) (turned_inside m c.requires.ended.matrix))

pub returns-clause-matrix : goal.returns-clause-matrix
returns-clause-matrix c =
    let m : Sparse = c.args.m.now in
    let all : c.in_ok-all.all ≡ turned_cells m =
    whole m c.args.p.now c.requires.ended c.in_ok-all.all c.loop-rank.rank (omega arith)
    (c.in_ok-all.ensures ∙ ap (λ l. together (map now l)) c.deref.ensures.value ∙ c.loop-rank.invariant) in
    let same : sparse c.cols.result c.rows.result c.kind.result c.in_ok-all.all ≡ transpose_of m =
    ap (λ k. sparse k c.rows.result c.kind.result c.in_ok-all.all) c.cols.ensures ∙ ap (λ k. sparse m.cols k c.kind.result c.in_ok-all.all) c.rows.ensures
    ∙ ap (λ k. sparse m.cols m.rows k c.in_ok-all.all) c.kind.ensures ∙ ap (sparse m.cols m.rows m.kind) all in
    if_ok_from (λ b. b ≡ transpose_of m) c.of_own_cells.result (λ b e. if_ok_is _ c.of_own_cells.result b e c.of_own_cells.ensures.matrix ∙ same)

pub returns-clause-values : goal.returns-clause-values
returns-clause-values c =
    let m : Sparse = c.args.m.now in
    if_ok_from (IsTransposed m) c.of_own_cells.result (λ b e. subst (IsTransposed m) (sym (if_ok_is (λ b. b ≡ transpose_of m) c.of_own_cells.result b e (returns-clause-matrix c))) (transposed_is m c.requires.ended.matrix))
