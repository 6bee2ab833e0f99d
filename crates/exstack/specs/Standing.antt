-- What holds of an exstack at every moment.
use Rattle.std.specs.Prelude.{◌≡◌, ℕ, ◌<◌, ◌≤◌, Bool, true, false, ◌||◌, [], length, Some, IsSome}
use Rattle.item_buffer.specs.Capacity.{IsCap}
use Rattle.list_laws.specs.Lists.{EachAt}
use Rattle.exstack.specs.declared.stage.Stage.{Stage}
use Rattle.exstack.specs.declared.stage.Stage.TheVariants.{Start, Proceeding, Filling, Exchanging, Full, AllDone}
use Rattle.exstack.specs.Links.{StackOut, StackIn}
use Rattle.exstack.specs.State.{Stack, stack_in_at, is_proceeding, is_exchanging, may_read, is_all_done}

-- Whether entries may wait on a link out: while buffers are filled, and in the exchange until they
-- are posted.
abbrev pub may_wait : Stage → Bool → Bool
may_wait Start due = false
may_wait Proceeding due = false
may_wait Filling due = true
may_wait Exchanging due = due
may_wait Full due = false
may_wait AllDone due = false

-- A link out holds at most its capacity. It is closed only if the rank is done, and if the
-- rank is done it is closed unless its parcel is due; a closed one is empty, and nothing is due on
-- it. Parcels are due within rounds alone, and exchange parcels from ranks alone that aren't done.
pub record IsStackOut (cap : ℕ) (stage : Stage) (done : Bool) (o : StackOut) : Type 0 where
  pub fits : length o.waiting ≤ cap
  pub closed_empty : o.closed ≡ true → o.waiting ≡ []
  pub closed_done : o.closed ≡ true → done ≡ true
  pub done_closed : done ≡ true → o.due ≡ false → o.closed ≡ true
  pub due_open : o.due ≡ true → o.closed ≡ false
  pub due_round : o.due ≡ true → (is_proceeding stage || is_exchanging stage) ≡ true
  pub due_exchange : o.due ≡ true → is_exchanging stage ≡ true → done ≡ false
  pub sent_on : may_wait stage o.due ≡ false → o.waiting ≡ []

-- A link in on which a parcel is due is empty and hasn't ended; outside of exchanges every link in
-- is empty, and at AllDone each has ended.
pub record IsStackIn (stage : Stage) (i : StackIn) : Type 0 where
  pub due_open : i.due ≡ true → i.ended ≡ false
  pub due_empty : i.due ≡ true → i.unread ≡ []
  pub due_round : i.due ≡ true → (is_proceeding stage || is_exchanging stage) ≡ true
  pub read : may_read stage ≡ false → i.unread ≡ []
  pub all_ended : is_all_done stage ≡ true → i.ended ≡ true

-- The sender of the item that was popped last: that item can be put back.
pub record CanUnpop (st : Stack) (a : ℕ) : Type 0 where
  pub within : a < st.ranks
  pub back : IsSome (stack_in_at st a).back
  pub came : (stack_in_at st a).due ≡ false
  pub reading : may_read st.stage ≡ true

-- An exstack for parcels of capacity cap.
pub record IsStack (cap : ℕ) (st : Stack) : Type 0 where
  pub is_cap : IsCap cap
  pub rank : st.rank < st.ranks
  pub few : st.ranks ≤ 64
  pub all_outs : length st.outs ≡ st.ranks
  pub all_ins : length st.ins ≡ st.ranks
  pub each_out : EachAt (λ b o. IsStackOut cap st.stage st.done o) st.outs
  pub each_in : EachAt (λ a i. IsStackIn st.stage i) st.ins
  pub can_unpop : (a : ℕ) → st.popped ≡ Some a → CanUnpop st a

-- What the code stores beside the state: a sender below which no inbox has an unread item.
pub record IsKeptStack (cap : ℕ) (st : Stack) (from : ℕ) : Type 0 where
  pub standing : IsStack cap st
  pub from_high : from ≤ st.ranks
  pub from_none : (a : ℕ) → a < from → (stack_in_at st a).unread ≡ []
