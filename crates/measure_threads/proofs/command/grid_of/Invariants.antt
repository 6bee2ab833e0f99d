use Rattle.std.proofs.Common.{◌≤◌}
use Rattle.measure_threads.proofs.command.grid_of.Given as goal

abbrev pub invariant-loop-part : goal.invariant-loop-part
invariant-loop-part l = l.hops ≤ 3
