use Rattle.std.proofs.Common.{ℕ, ◌≡◌, ◌<◌, map, Result, IfOk}
use Rattle.std.specs.List.{range_with_len}
use Rattle.bale_items.specs.declared.fault.NoMemory.{NoMemory}
use Rattle.reductions.proofs.making.programs.Given as goal

abbrev pub invariant-loop-rank : goal.invariant-loop-rank
invariant-loop-rank g l =
    (f : ℕ → g.row.Q.Denot) → ((r : ℕ) (q : Result g.row.Q.Denot NoMemory) → r < l.fn.ranks → goal.F-post g l.fn.make r q → IfOk q (λ s. s ≡ f r))
    → l.progs ≡ map f (range_with_len 0 l.rank)
