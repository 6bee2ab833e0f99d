use Rattle.std.proofs.Common.{sum, ap}
use Rattle.hop_core.specs.State.{State}
use Rattle.query_node.proofs.Fresh.{first_of}
use Rattle.query_node.proofs.bi_node.begun.Goals as goal

pub returns : goal.returns
returns g c =
    let made = c.in_ok-conveyor.ensures.made in
    first_of c.args.grid.now c.args.rank (sum c.args.grid.now) c.args.steady c.in_ok-conveyor.conveyor c.begin.new.self
    (ap (λ (t : State). t.dims) made) (ap (λ (t : State). t.rank) made) (ap (λ (t : State). t.steady) made) (ap (λ (t : State). t.outs) made)
    (ap (λ (t : State). t.ins) made) (ap (λ (t : State). t.done) made) (ap (λ (t : State). t.epoch) made)
    c.in_ok-conveyor.ensures.agrees c.begin.ensures.state c.begin.ensures.kept c.known.ensures.sound
