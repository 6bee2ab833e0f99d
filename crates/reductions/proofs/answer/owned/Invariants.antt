use Rattle.std.proofs.Common.{◌≡◌}
use Rattle.reductions.specs.Answers.{owned_values}
use Rattle.reductions.proofs.answer.owned.Given as goal

abbrev pub invariant-loop-key : goal.invariant-loop-key
invariant-loop-key g l = l.answer.items ≡ owned_values g.Q.HasCells.cells_of l.progs l.key
