use Rattle.std.proofs.Common.{ap, subst}
use Rattle.std.specs.Prelude.{sum}
use Rattle.hop_core.specs.State.{State}
use Rattle.rank_node.specs.Movers.{IsNew}
use Rattle.rank_node.specs.Movers.MoverState.{Conveying}
use Rattle.rank_node.specs.Movers.Manner.{ByConveyor}
use Rattle.rank_node.proofs.Fresh.{new_conveying}
use Rattle.rank_node.proofs.conveying.new_conveyor.Goals as goal

pub returns : goal.returns
returns g c =
    let made = c.in_ok-conveyor.ensures.made in
    subst (λ r. IsNew c.args.grid.now r (ByConveyor c.args.steady) (Conveying c.begin.new.self)) (ap (λ (t : State). t.rank) made)
    (new_conveying c.args.grid.now (sum c.args.grid.now) c.args.steady c.in_ok-conveyor.conveyor c.begin.new.self (ap (λ (t : State). t.outs) made) (ap (λ (t : State). t.ins) made) (ap (λ (t : State). t.done) made) (ap (λ (t : State). t.epoch) made)
    (ap (λ (t : State). t.dims) made) (ap (λ (t : State). t.steady) made) c.in_ok-conveyor.ensures.agrees c.begin.ensures.state c.begin.ensures.kept c.begin.ensures.step c.known.ensures.sound)
