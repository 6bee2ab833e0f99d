use Rattle.std.proofs.Common.{length, ◌-◌, ◌≤◌}
use Rattle.port_bank.specs.Machine.Step.{Push}
use Rattle.rank_handles.specs.Many.{steps_of}
use Rattle.rank_handles.specs.RankAtBank.{RunOf}
use Rattle.rank_handles.proofs.many.push_while_room.Given as goal

abbrev pub invariant-loop-count : goal.invariant-loop-count
invariant-loop-count g l = (l.count ≤ length l.items) × RunOf (steps_of Push l.count l.items l.to) l.initial.conveyor l.conveyor

abbrev pub decreases-loop-count : goal.decreases-loop-count
decreases-loop-count g l = length l.items - l.count
