use Rattle.std.proofs.Common.{◌≡◌}
use Rattle.convey.specs.Conveyors.{KeepsAgreement}
use Rattle.count_instructions.proofs.taking.sum_all.Given as goal

abbrev pub invariant-loop : goal.invariant-loop
invariant-loop g l = record {
  kept : KeepsAgreement l.initial.conveyor l.conveyor;
  same : l.conveyor ≡ record l.initial.conveyor { ins = l.conveyor.ins; pulled = l.conveyor.pulled };
}
