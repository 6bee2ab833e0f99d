use Rattle.std.proofs.Common.{◌==◌, sym, ◌∙◌, arith}
use Rattle.std.proofs.lemmas.Bool.{eq-eqb, ne_eqb}
use Rattle.app_topo.specs.Levels.{claims_after, col_claims}
use Rattle.app_topo.proofs.TopoEnding.{once_more, once_broken}
use Rattle.app_topo.proofs.topo_answer.columns_once.Goals as goal

pub returns-then-claims_at-ne1 : goal.returns-then-claims_at-ne1
returns-then-claims_at-ne1 c =
    let m = c.args.m.now in
    once_broken (λ j. col_claims j (claims_after m.rows m.entries m.rows) == 1) m.rows c.loop-j.j (omega arith) (ne_eqb _ 1 (λ e. c.if-claims_at-ne1.true (c.claims_at.ensures ∙ e)))

pub loop-j-preserved : goal.loop-j-preserved
loop-j-preserved c =
    let m = c.args.m.now in
    once_more (λ j. col_claims j (claims_after m.rows m.entries m.rows) == 1) c.loop-j.j c.loop-j.invariant (eq-eqb _ 1 (sym c.claims_at.ensures ∙ c.if-claims_at-ne1.false))
