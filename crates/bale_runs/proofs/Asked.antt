-- What ig's askers bring to an exchange.
use Rattle.std.proofs.Common.{ℕ, List}
use Rattle.mtx_text.specs.Sparse.{Sparse}
use Rattle.app_histo_ig.specs.Asking.{AskingState, ig_talk}
use Rattle.app_histo_ig.specs.AskingRuns.{AreAskersOf}
use Rattle.biconvey.specs.Drives.{AreAskers}

pub they_ask : (m : Sparse) (p : ℕ) (askers : List AskingState) → AreAskersOf m p askers → AreAskers ig_talk p askers
they_ask m p askers are = record { size = are.size; each = λ r s at. let is = are.each r s at in (is.own_rank, is.all_ranks) }
