use Rattle.std.proofs.Common.{arith}
use Rattle.route_tensor.proofs.Neighbours.{hop_to_has}
use Rattle.hop_core.proofs.carrying.hop_of.Goals as goal

pub returns-then-this-eq1-clause-value : goal.returns-then-this-eq1-clause-value
returns-then-this-eq1-clause-value g c =
    let r = hop_to_has c.args.routes.now.dims c.args.number c.requires.number in
    omega (arith, r.first, r.last, c.requires.hops, c.if-this-eq1.true)
