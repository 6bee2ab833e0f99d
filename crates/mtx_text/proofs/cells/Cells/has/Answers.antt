use Rattle.std.proofs.Common.{sym, ap, ◌∙◌}
use Rattle.mtx_text.proofs.Nearest.{has_is, found_at}
use Rattle.mtx_text.proofs.cells.Cells.has.Goals as goal

pub returns-in-Some : goal.returns-in-Some
returns-in-Some c =
    c.is_at.ensures
    ∙ sym (has_is c.args.i c.args.j c.args.self.now c.at_or_after.ensures.ordered ∙ ap (found_at c.args.i c.args.j) (sym c.at_or_after.ensures.first ∙ c.in-Some.is))

pub returns-in-None : goal.returns-in-None
returns-in-None c =
    sym (has_is c.args.i c.args.j c.args.self.now c.at_or_after.ensures.ordered ∙ ap (found_at c.args.i c.args.j) (sym c.at_or_after.ensures.first ∙ c.in-None.is))
