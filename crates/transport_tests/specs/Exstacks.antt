-- The exstacks of a test.
use Rattle.std.specs.Prelude.{◌≡◌, ℕ, List, []}
use Rattle.route_tensor.specs.Grid.{ranks}
use Rattle.exstack.specs.State.{Stack}
use Rattle.exstack.specs.Agreement.{AgreesIn}
use Rattle.exstack.specs.Standing.{IsStack}

-- A rank's exstack on which nothing was done.
pub record StackStartsOut (cap : ℕ) (dims : List ℕ) (r : ℕ) (st : Stack) : Type 0 where
  pub same_ranks : st.ranks ≡ ranks dims
  pub same_rank : st.rank ≡ r
  pub agrees : AgreesIn 0 st (λ l. []) (λ l. [])
  pub standing : IsStack cap st
