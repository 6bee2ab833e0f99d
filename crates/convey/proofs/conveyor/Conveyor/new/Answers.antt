use Rattle.std.proofs.Common.{ap, ◌∙◌}
use Rattle.hop_core.specs.Lent.Lent.{Given}
use Rattle.hop_core.specs.State.{State}
use Rattle.convey.proofs.Advances.{new_agrees}
use Rattle.convey.proofs.conveyor.Conveyor.new.Goals as goal

pub returns-clause-agrees : goal.returns-clause-agrees
returns-clause-agrees g c =
    let given : State → State = λ st. record st { lent = Given } in
    let e = c.take_spare-parcel.ensures.state ∙ ap given c.in_ok-state.ensures in
    new_agrees c.take_spare-parcel.new.self _ _ (ap (λ t. t.outs) e) (ap (λ t. t.ins) e) (ap (λ t. t.epoch) e) (ap (λ t. t.pulled) e)
