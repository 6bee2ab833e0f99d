-- How the exstacks of all ranks keep step with one another.
use Rattle.std.specs.Prelude.{◌≡◌, ◌⊎◌, ℕ, ◌+◌, ◌*◌, ◌<◌, ◌≤◌, true, false, ◌||◌, [], ◌∷◌, length}
use Rattle.route_tensor.specs.Link.{links}
use Rattle.port_bank.specs.Logs.{Logs, starting_at, ending_at}
use Rattle.port_bank.specs.Link.{LinkLaw}
use Rattle.exstack.specs.declared.stage.Stage.{Stage}
use Rattle.exstack.specs.declared.stage.Stage.TheVariants.{Start, Proceeding, Filling, Exchanging, Full, AllDone}
use Rattle.exstack.specs.State.{Stack, stack_out_at, stack_in_at, number, is_proceeding, is_exchanging}
use Rattle.exstack.specs.Agreement.{AgreesIn}
use Rattle.exstack.specs.Standing.{IsStack}

-- How many rounds of its epoch an exstack has finished, in cycle n.
-- While it exchanges in cycle 1 it has finished three.
abbrev pub finished_in : ℕ → Stage → ℕ
finished_in n Start = 0
finished_in n Proceeding = 2 * n
finished_in n Filling = 2 * n + 1
finished_in n Exchanging = 2 * n + 1
finished_in n Full = 2 * n + 2
finished_in n AllDone = 2 * n + 1

-- A rank in cycle n has finished m rounds of epoch e at least, or is past it.
abbrev pub HasFinishedRounds : ℕ → ℕ → ℕ → Stack → Type 0
HasFinishedRounds e m n x = (e < x.epoch) ⊎ ((x.epoch ≡ e) × (m ≤ finished_in n x.stage))

-- It has posted its parcels of round m, counted from 0: it has finished that round, or no parcel of
-- it is due on a link out.
pub record IsPosted (m n : ℕ) (x : Stack) : Type 0 where
  pub round : finished_in n x.stage ≡ m
  pub begun : (is_proceeding x.stage || is_exchanging x.stage) ≡ true
  pub none_due : (b : ℕ) → b < x.ranks → (stack_out_at x b).due ≡ false

abbrev pub HasPostedRounds : ℕ → ℕ → ℕ → Stack → Type 0
HasPostedRounds e m n x = (e < x.epoch) ⊎ ((x.epoch ≡ e) × ((m < finished_in n x.stage) ⊎ IsPosted m n x))

-- The exstacks of all ranks agree with the ports of one bank, rank r in cycle n r.
pub record InStep (ranks cap slots : ℕ) (n : ℕ → ℕ) (all : ℕ → Stack) (sent got : Logs) : Type 0 where
  pub links_keep : (l : ℕ) → l < links (ranks ∷ []) → LinkLaw cap slots (sent l) (got l)
  pub few : ranks ≤ 64
  pub same_ranks : (r : ℕ) → r < ranks → (all r).ranks ≡ ranks
  pub same_rank : (r : ℕ) → r < ranks → (all r).rank ≡ r
  pub standing : (r : ℕ) → r < ranks → IsStack cap (all r)
  pub agree : (r : ℕ) → r < ranks
      → AgreesIn (n r) (all r) (starting_at (ranks ∷ []) r sent) (ending_at (ranks ∷ []) r got)

-- If every rank has finished as many rounds as rank r, all that was posted on the links on which
-- r has a parcel to post was collected: one slot is room enough.
abbrev pub RoomLaw : Type 0
RoomLaw = (ranks cap slots : ℕ) (n : ℕ → ℕ) (all : ℕ → Stack) (sent got : Logs) → InStep ranks cap slots n all sent got
    → (r b : ℕ) → r < ranks → b < ranks
    → HasFinishedRounds (all r).epoch (finished_in (n r) (all r).stage) (n b) (all b) → (stack_out_at (all r) b).due ≡ true
    → length (got (number ranks r b)) ≡ length (sent (number ranks r b))

-- And if every rank has posted its parcels of the round that r is in, something waits on each
-- link on which r has a parcel to collect. So two turns of every rank finish a round.
abbrev pub ArrivalLaw : Type 0
ArrivalLaw = (ranks cap slots : ℕ) (n : ℕ → ℕ) (all : ℕ → Stack) (sent got : Logs)
    → InStep ranks cap slots n all sent got → (r a : ℕ) → r < ranks → a < ranks
    → HasPostedRounds (all r).epoch (finished_in (n r) (all r).stage) (n a) (all a) → (stack_in_at (all r) a).due ≡ true
    → length (got (number ranks a r)) < length (sent (number ranks a r))
