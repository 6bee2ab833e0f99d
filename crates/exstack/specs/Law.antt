-- The laws that tie the exstacks of all ranks together.
use Rattle.std.specs.Prelude.{◌≡◌, ◌≢◌, ℕ, ◌<◌, ◌≤◌, Bool, List, [], ◌∷◌, Some}
use Rattle.item_buffer.specs.Contents.{Shipped}
use Rattle.list_laws.specs.Lists.{IsPrefix, changed}
use Rattle.route_tensor.specs.Link.{links}
use Rattle.port_bank.specs.Logs.{Logs, starting_at, ending_at, starting_elsewhere, ending_elsewhere}
use Rattle.port_bank.specs.Link.{LinkLaw}
use Rattle.port_bank.specs.Machine.{Step, after, NamesRank, IsOwnStep, IsStep, EpochsClose}
use Rattle.port_bank.specs.Machine.{Ranks}
use Rattle.exstack.specs.State.{Stack}
use Rattle.exstack.specs.Cycles.{proceed_parcel, exchange_parcel}
use Rattle.exstack.specs.Agreement.{StackAgrees}
use Rattle.exstack.specs.Parts.{stack_part, AreOwnSteps, proceed_steps}
use Rattle.exstack.specs.Standing.{IsStack}

-- The exstacks of all ranks agree with the ports of one bank: of each rank's own links its port has
-- the bank's lists.
pub record StacksAgree (ranks cap slots : ℕ) (all : ℕ → Stack) (sent got : Logs) : Type 0 where
  pub few : ranks ≤ 64
  pub links_keep : (l : ℕ) → l < links (ranks ∷ []) → LinkLaw cap slots (sent l) (got l)
  pub same_ranks : (r : ℕ) → r < ranks → (all r).ranks ≡ ranks
  pub same_rank : (r : ℕ) → r < ranks → (all r).rank ≡ r
  pub standing : (r : ℕ) → r < ranks → IsStack cap (all r)
  pub agree : (r : ℕ) → r < ranks → StackAgrees (all r) (starting_at (ranks ∷ []) r sent) (ending_at (ranks ∷ []) r got)

-- The state of the machine that they stand for.
abbrev pub stacks_state : ℕ → (ℕ → Stack) → Logs → Logs → Ranks
stacks_state ranks all sent got = λ r. stack_part (all r) (starting_at (ranks ∷ []) r sent) (ending_at (ranks ∷ []) r got)

-- A call on the exstack of rank r over its port: the other exstacks stay, and so do the lists of
-- the others' links; the bank keeps its law, and the exstack agrees with its port again.
pub record IsStackCall (ranks cap slots r : ℕ) (old new : ℕ → Stack) (sent sent' got got' : Logs) : Type 0 where
  pub rank : r < ranks
  pub others : (q : ℕ) → q < ranks → q ≢ r → new q ≡ old q
  pub sent_elsewhere : starting_elsewhere (ranks ∷ []) r sent' ≡ starting_elsewhere (ranks ∷ []) r sent
  pub got_elsewhere : ending_elsewhere (ranks ∷ []) r got' ≡ ending_elsewhere (ranks ∷ []) r got
  pub links_keep : (l : ℕ) → l < links (ranks ∷ []) → LinkLaw cap slots (sent' l) (got' l)
  pub same_ranks : (new r).ranks ≡ ranks
  pub same_rank : (new r).rank ≡ r
  pub standing : IsStack cap (new r)
  pub agrees : StackAgrees (new r) (starting_at (ranks ∷ []) r sent') (ending_at (ranks ∷ []) r got')

-- The exstacks of all ranks go on agreeing, in whatever order calls are made on them.
abbrev pub StacksStayTogether : Type 0
StacksStayTogether = (ranks cap slots r : ℕ) (old new : ℕ → Stack) (sent sent' got got' : Logs)
    → StacksAgree ranks cap slots old sent got → IsStackCall ranks cap slots r old new sent sent' got got'
    → StacksAgree ranks cap slots new sent' got'

-- The exchange law: if they agree, and a call is a step of its rank's own part, it is a step of
-- the machine.
abbrev pub StackExchangeLaw : Type 0
StackExchangeLaw = (ranks cap slots r : ℕ) (step : Step) (old new : ℕ → Stack) (sent sent' got got' : Logs)
    → StacksAgree ranks cap slots old sent got → IsStackCall ranks cap slots r old new sent sent' got got'
    → NamesRank ranks step
    → IsOwnStep step (stacks_state ranks old sent got r) (stacks_state ranks new sent' got' r)
    → IsStep ranks r step (stacks_state ranks old sent got) (stacks_state ranks new sent' got')

-- Several steps of the machine by one rank, one after the other.
abbrev pub AreSteps : ℕ → ℕ → List Step → Ranks → Ranks → Type 0
AreSteps ranks r [] old new = (q : ℕ) → q < ranks → new q ≡ old q
AreSteps ranks r (s ∷ ss) old new = IsStep ranks r s old (changed old r (after s (old r)))
    × AreSteps ranks r ss (changed old r (after s (old r))) new

-- And a proceed poll is its one or two steps of the machine.
abbrev pub ProceedLaw : Type 0
ProceedLaw = (ranks cap slots r : ℕ) (was now complete : Bool) (old new : ℕ → Stack) (sent sent' got got' : Logs)
    → StacksAgree ranks cap slots old sent got → IsStackCall ranks cap slots r old new sent sent' got got'
    → AreOwnSteps (proceed_steps was now complete) (stacks_state ranks old sent got r) (stacks_state ranks new sent' got' r)
    → AreSteps ranks r (proceed_steps was now complete) (stacks_state ranks old sent got) (stacks_state ranks new sent' got')

-- The closes law: if they agree, the parts that they stand for close their epochs together.
abbrev pub StackClosesLaw : Type 0
StackClosesLaw = (ranks cap slots : ℕ) (all : ℕ → Stack) (sent got : Logs)
    → StacksAgree ranks cap slots all sent got → EpochsClose ranks (stacks_state ranks all sent got)

-- The cycles law: the n-th exchange parcel that a reader got is the n-th that its sender sent, and
-- so for proceed parcels.
abbrev pub CyclesLaw : Type 0
CyclesLaw = (e n : ℕ) (p : Shipped) (sent got : List Shipped) → IsPrefix got sent
    → (exchange_parcel e n got ≡ Some p → exchange_parcel e n sent ≡ Some p)
    × (proceed_parcel e n got ≡ Some p → proceed_parcel e n sent ≡ Some p)
