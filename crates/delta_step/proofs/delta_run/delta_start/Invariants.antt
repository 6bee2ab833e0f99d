use Rattle.std.proofs.Common.{◌≡◌, map}
use Rattle.std.specs.List.{range_with_len}
use Rattle.delta_step.specs.DeltaRuns.{delta_begins}
use Rattle.delta_step.proofs.delta_run.delta_start.Given as goal

abbrev pub invariant-loop-rank : goal.invariant-loop-rank
invariant-loop-rank l = l.progs ≡ map (delta_begins l.ranks l.m l.source l.delta) (range_with_len 0 l.rank)
