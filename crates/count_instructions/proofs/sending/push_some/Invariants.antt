use Rattle.std.proofs.Common.{◌≡◌, ◌-◌}
use Rattle.convey.specs.Conveyors.{KeepsAgreement}
use Rattle.count_instructions.proofs.sending.push_some.Given as goal

abbrev pub invariant-loop-pushed : goal.invariant-loop-pushed
invariant-loop-pushed g l = record {
  kept : KeepsAgreement l.initial.conveyor l.conveyor;
  same : l.conveyor ≡ record l.initial.conveyor { outs = l.conveyor.outs; pulled = l.conveyor.pulled };
}

abbrev pub decreases-loop-pushed : goal.decreases-loop-pushed
decreases-loop-pushed g l = l.items - l.pushed
