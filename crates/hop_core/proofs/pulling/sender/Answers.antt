use Rattle.std.proofs.Common.{◌≡◌, ◌-◌, ◌∙◌, sym, ap, arith, length}
use Rattle.route_tensor.specs.Grid.{place}
use Rattle.route_tensor.specs.Neighbour.{neighbour}
use Rattle.route_tensor.specs.Tag.{tag_rank}
use Rattle.route_tensor.proofs.Places.{place-zero}
use Rattle.hop_core.proofs.pulling.sender.Goals as goal

pub returns-then-this-eq1 : goal.returns-then-this-eq1
returns-then-this-eq1 g c =
    let dims = c.args.routes.now.dims in
    let a = neighbour dims c.args.routes.now.rank c.args.i in
    let t = tag_rank dims c.args.tag in
    let one : length dims ≡ 1 = omega (arith, c.requires.hops, c.if-this-eq1.true) in
    ap (λ n. n.rank) c.neighbour.ensures.value ∙ sym (ap (λ k. place dims a t (k - 1)) one ∙ place-zero dims a t)
