use Rattle.std.proofs.Common.{◌≡◌, ◌++◌}
use Rattle.rank_group.specs.Drives.{progs_of}
use Rattle.rank_group.proofs.ranks.take_progs.Given as goal

abbrev pub invariant-loop-rank : goal.invariant-loop-rank
invariant-loop-rank g l = l.progs ++ progs_of l.rank-iterator ≡ progs_of l.fn.all.items
