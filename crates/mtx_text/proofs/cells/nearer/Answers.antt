use Rattle.std.proofs.Common.{Some, cond, sym, ap, ◌∙◌}
use Rattle.mtx_text.proofs.Nearest.{nearer_is, near}
use Rattle.mtx_text.proofs.cells.nearer.Goals as goal

pub returns-then-comes_before : goal.returns-then-comes_before
returns-then-comes_before c = nearer_is c.args.i c.args.j c.args.t c.args.best c.args.best
    (ap (λ b. cond b c.args.best (near c.args.t c.args.best)) (sym (sym c.comes_before.ensures ∙ c.if-comes_before.true)))

pub returns-in-None : goal.returns-in-None
returns-in-None c =
    let t = c.args.t in
    nearer_is c.args.i c.args.j t c.args.best (Some t)
    (ap (near t) (sym c.in-None.is)
    ∙ ap (λ b. cond b c.args.best (near t c.args.best)) (sym (sym c.comes_before.ensures ∙ c.if-comes_before.false)))

pub returns-in-Some : goal.returns-in-Some
returns-in-Some c =
    let t = c.args.t in
    nearer_is c.args.i c.args.j t c.args.best (Some c.first_of.result)
    (ap Some c.first_of.ensures
    ∙ ap (near t) (sym c.in-Some.is)
    ∙ ap (λ b. cond b c.args.best (near t c.args.best)) (sym (sym c.comes_before.ensures ∙ c.if-comes_before.false)))
