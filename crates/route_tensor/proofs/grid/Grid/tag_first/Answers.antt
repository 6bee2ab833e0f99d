use Rattle.std.proofs.Common.{sym, subst}
use Rattle.route_tensor.specs.Tag.{IsFair}
use Rattle.route_tensor.proofs.Tags.{first_tag_made, tag_at_fair}
use Rattle.route_tensor.proofs.grid.Grid.tag_first.Goals as goal

pub returns-clause-value : goal.returns-clause-value
returns-clause-value c = first_tag_made _ _ _ _ _ c.digit.ensures.value c.digit-2.ensures.value

pub returns-clause-fair : goal.returns-clause-fair
returns-clause-fair c = subst (IsFair c.args.self.now 1) (sym (returns-clause-value c)) (tag_at_fair _ _ _ _ c.digit.ensures.grid)
