use Rattle.std.proofs.Common.{◌≡◌, ◌==◌, true}
use Rattle.std.specs.List.{list_all, range_with_len}
use Rattle.app_topo.specs.Levels.{claims_after, col_claims}
use Rattle.app_topo.proofs.topo_answer.columns_once.Given as goal

abbrev pub invariant-loop-j : goal.invariant-loop-j
invariant-loop-j l = list_all (λ j. col_claims j (claims_after l.m.rows l.m.entries l.m.rows) == 1) (range_with_len 0 l.j) ≡ true
