use Rattle.std.proofs.Common.{sym, subst, ap, ◌∙◌, ◌+◌, arith}
use Rattle.route_tensor.specs.Tag.{IsFair, next_tag}
use Rattle.route_tensor.proofs.Tags.{next_tag_made_1, next_tag_made_2, next_tag_fair, next_tag-tag_at}
use Rattle.route_tensor.proofs.grid.Grid.tag_next.Goals as goal

pub returns-then-h-eq1-clause-value : goal.returns-then-h-eq1-clause-value
returns-then-h-eq1-clause-value c = next_tag_made_1 _ _ _ _ _ c.if-h-eq1.true c.coord-done.ensures.value

pub returns-then-h-eq1-clause-fair : goal.returns-then-h-eq1-clause-fair
returns-then-h-eq1-clause-fair c = subst (IsFair c.args.self.now (c.args.h + 1)) (sym (returns-then-h-eq1-clause-value c)) (next_tag_fair _ _ _ c.args.b _ c.coord-done.ensures.grid c.requires.link c.requires.fair c.requires.next)

pub returns-then-h-eq1-clause-route : goal.returns-then-h-eq1-clause-route
returns-then-h-eq1-clause-route c = λ s d r e. returns-then-h-eq1-clause-value c ∙ ap (λ t. next_tag c.args.self.now t c.args.h c.args.a) e ∙ next_tag-tag_at _ s d _ _ c.args.b c.coord-done.ensures.grid r c.requires.next

pub returns-else-h-eq1-clause-value : goal.returns-else-h-eq1-clause-value
returns-else-h-eq1-clause-value c = next_tag_made_2 _ _ _ _ _ (omega (arith, c.if-h-eq1.false, c.coord-done.ensures.grid.few, c.requires.next, c.requires.link.first_hop)) c.coord-done.ensures.value

pub returns-else-h-eq1-clause-fair : goal.returns-else-h-eq1-clause-fair
returns-else-h-eq1-clause-fair c = subst (IsFair c.args.self.now (c.args.h + 1)) (sym (returns-else-h-eq1-clause-value c)) (next_tag_fair _ _ _ c.args.b _ c.coord-done.ensures.grid c.requires.link c.requires.fair c.requires.next)

pub returns-else-h-eq1-clause-route : goal.returns-else-h-eq1-clause-route
returns-else-h-eq1-clause-route c = λ s d r e. returns-else-h-eq1-clause-value c ∙ ap (λ t. next_tag c.args.self.now t c.args.h c.args.a) e ∙ next_tag-tag_at _ s d _ _ c.args.b c.coord-done.ensures.grid r c.requires.next
