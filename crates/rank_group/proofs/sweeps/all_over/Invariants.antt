use Rattle.std.proofs.Common.{◌≡◌, drop}
use Rattle.std.specs.List.{list_all}
use Rattle.rank_group.proofs.sweeps.all_over.Given as goal

abbrev pub invariant-loop-rank : goal.invariant-loop-rank
invariant-loop-rank g l = list_all (λ n. n.over) l.all ≡ list_all (λ n. n.over) (drop l.rank-index l.all)
