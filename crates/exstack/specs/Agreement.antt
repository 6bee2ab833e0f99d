-- When a port's lists agree with an exstack.
use Rattle.std.specs.Prelude.{◌≡◌, ℕ, ◌+◌, ◌*◌, ◌<◌, ◌≤◌, ◌==◌, Bool, true, false, List, length, Option, Some, None}
use Rattle.std.specs.Prelude.{if◌then◌else◌}
use Rattle.bale_items.specs.declared.item.Entry.{Entry}
use Rattle.item_buffer.specs.Contents.{Shipped}
use Rattle.list_laws.specs.Lists.{IsPrefix, Ends}
use Rattle.port_bank.specs.Logs.{Logs, lasts, segment, EndsLast, lasts_in}
use Rattle.port_bank.specs.Shapes.{IsExstackShape}
use Rattle.port_bank.specs.Relay.{RelayLaw}
use Rattle.exstack.specs.declared.stage.Stage.{Stage}
use Rattle.exstack.specs.declared.stage.Stage.TheVariants.{Start, Proceeding, Filling, Exchanging, Full, AllDone}
use Rattle.exstack.specs.Links.{StackIn, with_put_back}
use Rattle.exstack.specs.State.{Stack, stack_out_at, stack_in_at, stack_dims, stack_link_to, stack_link_from}
use Rattle.exstack.specs.Cycles.{exchange_parcel, entries_if_any, entries_exchanged}

-- How many rounds of its epoch an exstack has begun, in cycle n: each cycle has a proceed round and
-- an exchange round.
-- While it fills its buffers in cycle 1 it has begun three.
abbrev pub rounds_in : ℕ → Stage → ℕ
rounds_in n Start = 0
rounds_in n Proceeding = 2 * n + 1
rounds_in n Filling = 2 * n + 1
rounds_in n Exchanging = 2 * n + 2
rounds_in n Full = 2 * n + 2
rounds_in n AllDone = 2 * n + 1

-- The cycle in which a proceed poll is.
abbrev pub cycle_after : ℕ → Stage → ℕ
cycle_after n Start = 0
cycle_after n Proceeding = n
cycle_after n Filling = n
cycle_after n Exchanging = n
cycle_after n Full = n + 1
cycle_after n AllDone = n

-- A link whose parcel of this round may be due, against its log.
-- ended: it has ended as many epochs as there were, and the current one if and only if it is
-- through with it.
-- by_last: if it is through, nothing comes after the parcel marked last.
-- each_round: else the current segment has one parcel for each round, but for that which is due.
-- until: if it is through, that segment has one for each round up to that in which it ended,
-- which is this one or an earlier one.
-- Example: a link that was closed in cycle 0 has one parcel, the proceed parcel of that cycle,
-- while the exstack goes on to cycle 3.
pub record LinkAgrees (epoch rounds : ℕ) (through due : Bool) (log : List Shipped) : Type 0 where
  pub ended : lasts log ≡ lasts_in epoch through
  pub by_last : through ≡ true → EndsLast log
  pub each_round : through ≡ false → length (segment epoch log) + (if due then 1 else 0) ≡ rounds
  pub until : through ≡ true → length (segment epoch log) ≤ rounds

-- The entry that an unpop would put back at a link, if any, and then the unread ones.
abbrev pub back_first : Option ℕ → ℕ → StackIn → List Entry
back_first None a i = i.unread
back_first (Some p) a i = if p == a then (with_put_back i.back i).unread else i.unread

-- The port's lists agree with an exstack in cycle n of its epoch.
-- outs, ins: each link out does, and each link in.
-- shapes: the logs of the links out have the exstack shape.
-- law: the lists meet the relay law.
-- came: what is unread of a sender, or may be put back, is the latest that came in exchange parcels
-- of this epoch.
-- in_cycle: and it is the end of the exchange parcel of cycle n.
-- own: on the link from the rank to itself, what was got is a prefix of what was sent.
pub record AgreesIn (n : ℕ) (st : Stack) (sent got : Logs) : Type 0 where
  pub outs : (b : ℕ) → b < st.ranks
      → LinkAgrees st.epoch (rounds_in n st.stage) (stack_out_at st b).closed (stack_out_at st b).due (sent (stack_link_to st b))
  pub ins : (a : ℕ) → a < st.ranks
      → LinkAgrees st.epoch (rounds_in n st.stage) (stack_in_at st a).ended (stack_in_at st a).due (got (stack_link_from st a))
  pub shapes : (b : ℕ) → b < st.ranks → IsExstackShape (sent (stack_link_to st b))
  pub law : RelayLaw (stack_dims st) st.rank sent got
  pub came : (a : ℕ) → a < st.ranks
      → Ends (entries_exchanged st.epoch (got (stack_link_from st a))) (back_first st.popped a (stack_in_at st a))
  pub in_cycle : (a : ℕ) → a < st.ranks
      → Ends (entries_if_any (exchange_parcel st.epoch n (got (stack_link_from st a)))) (back_first st.popped a (stack_in_at st a))
  pub own : IsPrefix (got (stack_link_to st st.rank)) (sent (stack_link_to st st.rank))

-- They agree, in some cycle.
pub record StackAgrees (st : Stack) (sent got : Logs) : Type 0 where
  pub cycle : ℕ
  pub agrees : AgreesIn cycle st sent got
