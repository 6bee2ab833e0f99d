use Rattle.std.proofs.Common.{◌≡◌, drop}
use Rattle.std.specs.List.{list_all}
use Rattle.rank_crews.proofs.assignment.all_over.Given as goal

abbrev pub invariant-loop-at : goal.invariant-loop-at
invariant-loop-at g l = list_all g.A.Seated.over l.ranks ≡ list_all g.A.Seated.over (drop l.at-index l.ranks)
