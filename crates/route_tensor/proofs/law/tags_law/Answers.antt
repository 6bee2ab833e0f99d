use Rattle.route_tensor.proofs.Tags.{named_on_route}
use Rattle.route_tensor.proofs.law.tags_law.Goals as goal

pub returns : goal.returns
returns c = λ dims s d h a b grid route. named_on_route dims s d h a b grid route
