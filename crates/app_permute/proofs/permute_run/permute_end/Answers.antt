use Rattle.std.proofs.Common.{◌≡◌, List, Bor, [], map, arith, sym, ap, ◌∙◌, subst, All}
use Rattle.std.specs.Option.{option_copied}
use Rattle.list_laws.proofs.Results.{if_ok_is, if_ok_from}
use Rattle.mtx_text.specs.Sparse.{Sparse, IsEntry}
use Rattle.bale_items.specs.declared.triple.Triple.{Triple}
use Rattle.mtx_text.specs.Cells.{sparse, together}
use Rattle.mtx_text.proofs.MapsTogether.{together_push}
use Rattle.sparse_rows.proofs.Gathering.{parts_more}
use Rattle.app_permute.specs.Reorderings.{reordering_of, IsPermuted}
use Rattle.app_permute.proofs.Answers.{moved_inside, permuted_is}
use Rattle.app_permute.proofs.PermuteOwners.{moved_cells, rank_cells, rank_found, whole}
use Rattle.app_permute.proofs.permute_run.permute_end.Goals as goal

pub unreachable-requires : goal.unreachable-requires
unreachable-requires c =
    let e = c.requires.ended in
    rank_found e.0 e.1 c.args.m.now c.args.p.now e.2 c.loop-rank.rank (omega arith) (sym c.get.ensures ∙ ap option_copied c.in_default.is)

abbrev now : Bor (List Triple) → List Triple
now m = m.now

pub loop-rank-init : goal.loop-rank-init
loop-rank-init c = λ rp cp h. ap (λ l. together (map now l)) c.in_ok-maps.ensures.items

pub loop-rank-preserved : goal.loop-rank-preserved
loop-rank-preserved c = λ rp cp h.
    parts_more _ c.loop-rank.rank (moved_cells rp cp c.args.m.now) (together (map now c.loop-rank.maps.items)) (together (map now c.push.new.self.items)) _
    (c.loop-rank.invariant rp cp h)
    (c.cells.ensures ∙ rank_cells rp cp c.args.m.now c.args.p.now h c.loop-rank.rank c.in-Some.program.now (omega arith) (sym c.get.ensures ∙ ap option_copied c.in-Some.is))
    (together_push now c.loop-rank.maps.items c.push.new.self.items c.cells.result c.in_ok-push.ensures.items)

pub of_own_cells-requires-clause-inside : goal.of_own_cells-requires-clause-inside
of_own_cells-requires-clause-inside c =
    let m : Sparse = c.args.m.now in
    let e = c.requires.ended in
    let all : c.in_ok-all.all ≡ moved_cells e.0 e.1 m =
    whole e.0 e.1 m c.args.p.now e.2 c.in_ok-all.all c.loop-rank.rank (omega arith)
    (c.in_ok-all.ensures ∙ ap (λ l. together (map now l)) c.deref.ensures.value ∙ c.loop-rank.invariant e.0 e.1 e.2) in
    let same : sparse c.rows.result c.cols.result c.kind.result [] ≡ sparse m.rows m.cols m.kind [] =
    ap (λ k. sparse k c.cols.result c.kind.result []) c.rows.ensures ∙ ap (λ k. sparse m.rows k c.kind.result []) c.cols.ensures ∙ ap (λ k. sparse m.rows m.cols k []) c.kind.ensures in
    subst (λ b. All (IsEntry b) c.in_ok-all.all) (sym same) (subst (All (IsEntry (sparse m.rows m.cols m.kind []))) (sym all) (moved_inside m e.0 e.1 e.2.rows e.2.cols e.2.matrix))

pub returns-clause-matrix : goal.returns-clause-matrix
returns-clause-matrix c = λ rp cp h.
    let m : Sparse = c.args.m.now in
    let all : c.in_ok-all.all ≡ moved_cells rp cp m =
    whole rp cp m c.args.p.now h c.in_ok-all.all c.loop-rank.rank (omega arith)
    (c.in_ok-all.ensures ∙ ap (λ l. together (map now l)) c.deref.ensures.value ∙ c.loop-rank.invariant rp cp h) in
    let same : sparse c.rows.result c.cols.result c.kind.result c.in_ok-all.all ≡ reordering_of rp cp m =
    ap (λ k. sparse k c.cols.result c.kind.result c.in_ok-all.all) c.rows.ensures ∙ ap (λ k. sparse m.rows k c.kind.result c.in_ok-all.all) c.cols.ensures
    ∙ ap (λ k. sparse m.rows m.cols k c.in_ok-all.all) c.kind.ensures ∙ ap (sparse m.rows m.cols m.kind) all in
    if_ok_from (λ b. b ≡ reordering_of rp cp m) c.of_own_cells.result (λ b e. if_ok_is _ c.of_own_cells.result b e c.of_own_cells.ensures.matrix ∙ same)

pub returns-clause-values : goal.returns-clause-values
returns-clause-values c = λ rp cp h.
    let m : Sparse = c.args.m.now in
    if_ok_from (IsPermuted rp cp m) c.of_own_cells.result (λ b e.
    subst (IsPermuted rp cp m) (sym (if_ok_is (λ b. b ≡ reordering_of rp cp m) c.of_own_cells.result b e (returns-clause-matrix c rp cp h))) (permuted_is m rp cp h.rows h.cols h.matrix))
