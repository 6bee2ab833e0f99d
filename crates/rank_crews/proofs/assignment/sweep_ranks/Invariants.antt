use Rattle.std.proofs.Common.{◌≡◌, ◌+◌, false}
use Rattle.std.specs.List.{sum_by}
use Rattle.rank_crews.specs.Runs.{AllRan}
use Rattle.rank_crews.proofs.Sweeps.{SweptSoFar}
use Rattle.rank_crews.proofs.assignment.sweep_ranks.Given as goal

abbrev pub invariant-loop-i : goal.invariant-loop-i
invariant-loop-i g l = record {
  counted : sum_by g.A.Seated.turns l.ranks.items + l.fn.steps ≡ sum_by g.A.Seated.turns l.fn.ranks.items + l.steps;
  ran : AllRan (g.A.Seated.ran g.J.GateLog.notified) l.fn.ranks.items l.ranks.items;
  each : SweptSoFar g.A.Seated.over g.A.Seated.turns l.i l.fn.ranks.items l.ranks.items;
  still : l.moved ≡ false → AllRan g.A.Seated.still l.fn.ranks.items l.ranks.items;
}
