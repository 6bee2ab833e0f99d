-- What the polls of an exstack need of it and of its port, and what they make of them, from old to
-- new and from port to port'.
use Rattle.std.specs.Prelude.{◌≡◌, ℕ, ◌<◌, Bool, true, false, None}
use Rattle.port_bank.specs.Port.{PortView}
use Rattle.port_bank.specs.Frames.{SamePort}
use Rattle.port_bank.specs.Machine.{IsOwnStep}
use Rattle.port_bank.specs.Machine.Step.{Idle}
use Rattle.exstack.specs.declared.stage.Stage.TheVariants.{Proceeding}
use Rattle.exstack.specs.State.{Stack, stack_in_at, stack_link_from, stack_unread}
use Rattle.exstack.specs.State.{may_proceed, may_exchange, in_proceed, in_exchange}
use Rattle.exstack.specs.Steps.{MadeRound}
use Rattle.exstack.specs.Agreement.{AgreesIn, StackAgrees, cycle_after}
use Rattle.exstack.specs.Cycles.{exchange_parcel, entries_if_any}
use Rattle.exstack.specs.Parts.{AreOwnSteps, proceed_steps, stack_part, IsStackAtPort}
use Rattle.exstack.specs.State.{is_all_done}

-- An exstack may poll a proceed round; the caller says whether its rank is done.
-- may: its stage allows one.
-- at_port: the port is its own.
-- read: nothing is unread.
-- done_stays: a rank that was done in this epoch is done still.
-- same_done: within a round a rank says the same in each poll.
pub record MayPollProceed (told : Bool) (st : Stack) (port : PortView) : Type 0 where
  pub may : may_proceed st.stage ≡ true
  pub at_port : IsStackAtPort st port
  pub read : stack_unread st ≡ 0
  pub done_stays : st.done ≡ true → told ≡ true
  pub same_done : st.stage ≡ Proceeding → told ≡ st.done

-- A poll of a proceed round, whatever it answers.
-- agrees, cycle: the exstack agrees with the port again, in the cycle that a proceed round leads
-- to.
-- same: of the exstack only its stage, its links, what was popped last and whether it is done
-- change.
-- steps: it is these steps of the rank's part of the exchange machine.
-- round: what was posted and collected.
pub record PollsProceed (told : Bool) (old new : Stack) (port port' : PortView) : Type 0 where
  pub agrees : StackAgrees new port'.sent port'.got
  pub cycle : (n : ℕ) → AgreesIn n old port.sent port.got → AgreesIn (cycle_after n old.stage) new port'.sent port'.got
  pub same : new ≡ record old { stage = new.stage; done = told; outs = new.outs; ins = new.ins; popped = None }
  pub steps : AreOwnSteps (proceed_steps old.done told (is_all_done new.stage)) (stack_part old port.sent port.got)
      (stack_part new port'.sent port'.got)
  pub round : MadeRound told false (in_proceed told old) new port.sent port'.sent port.got port'.got
  pub same_port : SamePort port port'

-- An exstack may poll an exchange round.
pub record MayPollExchange (st : Stack) (port : PortView) : Type 0 where
  pub may : may_exchange st.stage ≡ true
  pub at_port : IsStackAtPort st port

-- A poll of an exchange round, whatever it answers.
-- agrees, cycle: the exstack agrees with the port again, in the same cycle.
-- same: of the exstack only its stage, its links and what was popped last change.
-- step: it is a step of the rank's part of the exchange machine.
-- round: what was posted and collected.
-- whole: a parcel that this poll collected is the exchange parcel of its cycle, and all of it is
-- unread.
pub record PollsExchange (old new : Stack) (port port' : PortView) : Type 0 where
  pub agrees : StackAgrees new port'.sent port'.got
  pub cycle : (n : ℕ) → AgreesIn n old port.sent port.got → AgreesIn n new port'.sent port'.got
  pub same : new ≡ record old { stage = new.stage; outs = new.outs; ins = new.ins; popped = None }
  pub step : IsOwnStep Idle (stack_part old port.sent port.got) (stack_part new port'.sent port'.got)
  pub round : MadeRound false true (in_exchange old) new port.sent port'.sent port.got port'.got
  pub whole : (n a : ℕ) → AgreesIn n old port.sent port.got → a < old.ranks
      → (stack_in_at (in_exchange old) a).due ≡ true → (stack_in_at new a).due ≡ false
      → (stack_in_at new a).unread ≡ entries_if_any (exchange_parcel old.epoch n (port'.got (stack_link_from old a)))
  pub same_port : SamePort port port'
