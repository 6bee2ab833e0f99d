use Rattle.std.proofs.Common.{length, drop, ◌-◌, ◌≡◌, ◌≤◌}
use Rattle.port_bank.specs.Machine.Step.{Pull}
use Rattle.rank_handles.specs.Many.{steps_of}
use Rattle.rank_handles.specs.RankAtBank.{RunOf}
use Rattle.rank_handles.proofs.many.pull_while_some.Given as goal

abbrev pub invariant-loop-count : goal.invariant-loop-count
invariant-loop-count g l =
    (l.count ≤ length l.items) × (length l.items ≡ length l.initial.items) × (length l.from ≡ length l.items) × (drop l.count l.items ≡ drop l.count l.initial.items)
    × (drop l.count l.from ≡ drop l.count l.initial.from) × RunOf (steps_of Pull l.count l.items l.from) l.initial.conveyor l.conveyor

abbrev pub decreases-loop-count : goal.decreases-loop-count
decreases-loop-count g l = length l.initial.items - l.count
