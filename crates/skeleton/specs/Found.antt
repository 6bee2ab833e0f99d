-- What the run finds.
use Rattle.std.specs.Prelude.{ℕ, ◌≡◌, List}
use Rattle.mtx_text.specs.Sparse.{Sparse}
use Rattle.round_program.specs.Canonical.{HaveEnded}
use Rattle.reductions.specs.Answers.{owned_values}
use Rattle.skeleton.specs.State.{State, rules}
use Rattle.skeleton.specs.Starts.{starts}

-- The cell of each column, as its owner has it after the canonical run.
pub record IsFound (ranks : ℕ) (m : Sparse) (found : List ℕ) : Type 0 where
  pub ends : List State
  pub ended : HaveEnded rules (starts ranks m) ends
  pub each : found ≡ owned_values (λ s. s.cells) ends m.cols
