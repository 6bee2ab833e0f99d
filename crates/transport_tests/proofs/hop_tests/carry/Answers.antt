use Rattle.list_laws.proofs.Lists.{all_get}
use Rattle.route_tensor.specs.Ends.{hop_at}
use Rattle.route_tensor.specs.Tag.{IsFair}
use Rattle.transport_tests.proofs.hop_tests.carry.Goals as goal

pub returns-clause-fair : goal.returns-clause-fair
returns-clause-fair g c e same =
    all_get (λ x. IsFair c.args.from.now.dims (hop_at c.args.from.now.dims c.args.link) x.tag) _ 0 e c.lend_out-parcel.ensures.sound.1 (cc)
