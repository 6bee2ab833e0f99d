use Rattle.std.proofs.Common.{refl, ap, ◌∙◌}
use Rattle.route_tensor.specs.Tag.{sender_of, destination_of}
use Rattle.route_tensor.proofs.Tags.{pair_route, pair_tag, sender-tag_at, destination-tag_at}
use Rattle.route_tensor.proofs.grid.Grid.pair_of.Goals as goal

pub returns-clause-route : goal.returns-clause-route
returns-clause-route c = rw (c.place.ensures.value, c.place-2.ensures.value, c.tag_rank-rank.ensures.value) (pair_route _ _ _ _ _ c.place.ensures.grid c.requires.link c.requires.fair)

pub returns-clause-tag : goal.returns-clause-tag
returns-clause-tag c = rw (c.place.ensures.value, c.place-2.ensures.value, c.tag_rank-rank.ensures.value) (pair_tag _ _ _ _ _ c.place.ensures.grid c.requires.link c.requires.fair)

pub returns-clause-sender : goal.returns-clause-sender
returns-clause-sender c = rw (c.place.ensures.value, c.tag_rank-rank.ensures.value) refl

pub returns-clause-destination : goal.returns-clause-destination
returns-clause-destination c = rw (c.place-2.ensures.value, c.tag_rank-rank.ensures.value) refl

pub returns-clause-each : goal.returns-clause-each
returns-clause-each c = λ s d route tag. (
  returns-clause-sender c ∙ (ap (λ t. sender_of c.args.self.now t c.args.h c.args.a) tag ∙ sender-tag_at c.args.self.now s d c.args.h c.args.a c.args.b c.place.ensures.grid route),
  returns-clause-destination c ∙ (ap (λ t. destination_of c.args.self.now t c.args.h c.args.b) tag ∙ destination-tag_at c.args.self.now s d c.args.h c.args.a c.args.b c.place.ensures.grid route),
)
