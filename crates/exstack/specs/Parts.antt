-- A running rank's part of the exchange machine, by its exstack and its port's lists.
use Rattle.std.specs.Prelude.{◌≡◌, ℕ, ◌-◌, ◌<◌, ◌==◌, Bool, true, false, ◌&&◌, not, if◌then◌else◌, List, [], ◌∷◌, ◌++◌}
use Rattle.std.specs.Prelude.{length, take, Option, Some, None, IfSome}
use Rattle.bale_items.specs.declared.item.Item.{Item}
use Rattle.port_bank.specs.Port.{PortView}
use Rattle.port_bank.specs.Frames.{SamePort}
use Rattle.port_bank.specs.Logs.{Logs}
use Rattle.port_bank.specs.Machine.{Part, Step, IsOwnStep, after, for_ranks}
use Rattle.port_bank.specs.Machine.Step.{Pull, Unpull, Done, Complete, Idle}
use Rattle.exstack.specs.State.{Stack, stack_dims, stack_out_at, stack_in_at, stack_link_to, stack_link_from, stack_unread, lowest_unread_sender, pop_from}
use Rattle.exstack.specs.State.{popped_from, is_all_done}
use Rattle.exstack.specs.Cycles.{entries_sent, entries_exchanged, items}
use Rattle.exstack.specs.Agreement.{AgreesIn, StackAgrees}

-- What a rank pushed toward d in an epoch: what it sent there and, in its current epoch, what waits
-- for d.
-- With [x] sent and [y] waiting it is [x, y].
abbrev pub stack_pushed_to : Stack → Logs → ℕ → ℕ → List Item
stack_pushed_to st sent e d =
    items (entries_sent e (sent (stack_link_to st d))) ++ (if e == st.epoch then items (stack_out_at st d).waiting else [])

-- What it pulled of s: what came in exchange parcels, less what is unread.
-- With [x, y] come and y unread it is [x].
abbrev pub popped_of : Stack → Logs → ℕ → ℕ → List Item
popped_of st got e s =
    let all : List Item = items (entries_exchanged e (got (stack_link_from st s))) in
    take (length all - (if e == st.epoch then length (stack_in_at st s).unread else 0)) all

-- The rank's part of the machine.
abbrev pub stack_part : Stack → Logs → Logs → Part
stack_part st sent got = record {
  epoch = st.epoch;
  done = st.done;
  complete = is_all_done st.stage;
  latest = st.popped;
  pushed = for_ranks st.ranks (stack_pushed_to st sent);
  pulled = for_ranks st.ranks (popped_of st got);
}

-- A call is a step of the rank's part of the exchange machine, over the lists of a port that the
-- call doesn't see.
abbrev pub IsStackStep : Step → Stack → Stack → Type 0
IsStackStep step old new = (n : ℕ) (sent got : Logs) → AgreesIn n old sent got
    → IsOwnStep step (stack_part old sent got) (stack_part new sent got)

-- A call keeps the agreement with a port that it doesn't see.
abbrev pub StackKeepsAgreement : Stack → Stack → Type 0
StackKeepsAgreement old new = (n : ℕ) (sent got : Logs) → AgreesIn n old sent got → AgreesIn n new sent got

-- The port is the exstack's own: of its grid and its rank, and with lists that agree with it.
pub record IsStackAtPort (st : Stack) (port : PortView) : Type 0 where
  pub same_dims : port.dims ≡ stack_dims st
  pub same_rank : port.rank ≡ st.rank
  pub agrees : StackAgrees st port.sent port.got

-- What any call at the port keeps: the exstack agrees with it again, and both are those of the same
-- rank.
pub record StackKeepsPort (old new : Stack)
    (port port' : PortView) : Type 0 where
  pub agrees : StackAgrees new port'.sent port'.got
  pub ranks : new.ranks ≡ old.ranks
  pub rank : new.rank ≡ old.rank
  pub same_port : SamePort port port'

-- A call that the port doesn't see: the exstack stays that of its rank, and keeps the agreement.
pub record StackStaysWithRank (old new : Stack) : Type 0 where
  pub ranks : new.ranks ≡ old.ranks
  pub rank : new.rank ≡ old.rank
  pub kept : (sent got : Logs) → StackAgrees old sent got → StackAgrees new sent got

-- What a pop is to a port that it doesn't see and to the machine, by its answer: an item of a rank,
-- or nothing unread.
pub record IsPop (answer : Option (ℕ × Item)) (old new : Stack) : Type 0 where
  pub sender : IfSome answer (λ p. p.0 < old.ranks)
  pub none_unread : answer ≡ None → stack_unread old ≡ 0
  pub kept : StackKeepsAgreement old new
  pub step_item : IfSome answer (λ p. IsStackStep (Pull p.0 p.1) old new)
  pub step_none : answer ≡ None → IsStackStep Idle old new

-- And an unpop, by its answer.
pub record IsUnpop (back : Bool) (old new : Stack) : Type 0 where
  pub kept : StackKeepsAgreement old new
  pub step_back : back ≡ true → IsStackStep Unpull old new
  pub step_none : back ≡ false → IsStackStep Idle old new

-- Several steps of a rank's own part, one after the other.
abbrev pub AreOwnSteps : List Step → Part → Part → Type 0
AreOwnSteps [] old new = new ≡ old
AreOwnSteps (s ∷ ss) old new = IsOwnStep s old (after s old) × AreOwnSteps ss (after s old) new

-- The steps that a proceed poll is: Done if it notes done for the first time in the epoch, and
-- Complete if it answers AllDone; Idle if neither. The call that says that the rank is done
-- may be the one that completes it.
abbrev pub proceed_steps : Bool → Bool → Bool → List Step
proceed_steps was now complete =
    if (now && not was) then (if complete then Done ∷ Complete ∷ [] else Done ∷ [])
    else (if complete then Complete ∷ [] else Idle ∷ [])

-- The next pop gives this item of this sender: it is a step of the rank's part of the exchange
-- machine, and keeps the agreement.
pub record PopGivesNext (st : Stack) (from : ℕ) (item : Item) : Type 0 where
  pub value : pop_from st (lowest_unread_sender st) ≡ Some (from, item)
  pub step : IsStackStep (Pull from item) st (popped_from st (lowest_unread_sender st))
  pub kept : StackKeepsAgreement st (popped_from st (lowest_unread_sender st))
