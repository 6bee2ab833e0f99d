-- How the cycles of an exstack are bounded by what its rank has to send.
use Rattle.std.specs.Prelude.{◌≡◌, ◌⊎◌, ℕ, ◌+◌, ◌<◌, ◌≤◌, ⊤, true, false, ◌||◌, [], length, Some}
use Rattle.item_buffer.specs.Contents.{Shipped}
use Rattle.port_bank.specs.Logs.{Logs}
use Rattle.exstack.specs.declared.stage.Stage.{Stage}
use Rattle.exstack.specs.declared.stage.Stage.TheVariants.{Start, Proceeding, Filling, Exchanging, Full, AllDone}
use Rattle.exstack.specs.State.{Stack, stack_out_at, stack_in_at, stack_link_to, stack_link_from, is_proceeding, is_exchanging, has_proceeded, has_exchanged}
use Rattle.exstack.specs.Cycles.{proceed_parcel}
use Rattle.exstack.specs.Agreement.{AgreesIn, cycle_after}
use Rattle.round_program.specs.Rules.{Rules}
use Rattle.rank_node.specs.Movers.{MoverState}
use Rattle.rank_node.specs.Movers.MoverState.{Conveying, Stacking}
use Rattle.rank_node.specs.Runs.{Running}
use Rattle.rank_node.specs.Sending.{to_send}

-- How many exchange rounds of its epoch an exstack has begun, in cycle n.
-- While it fills its buffers in cycle 1 it has begun one.
abbrev pub exchanges_in : ℕ → Stage → ℕ
exchanges_in n Start = 0
exchanges_in n Proceeding = n
exchanges_in n Filling = n
exchanges_in n Exchanging = n + 1
exchanges_in n Full = n + 1
exchanges_in n AllDone = n

-- In how many cycles of its epoch the proceed round was over and the exchange continued.
-- While it fills its buffers in cycle 1 these are two, the cycles 0 and 1.
abbrev pub cycles_gone_on : ℕ → Stage → ℕ
cycles_gone_on n Start = 0
cycles_gone_on n Proceeding = n
cycles_gone_on n Filling = n + 1
cycles_gone_on n Exchanging = n + 1
cycles_gone_on n Full = n + 1
cycles_gone_on n AllDone = n

-- In cycle m of epoch e the exchange continued, since the proceed parcel of some rank wasn't marked
-- last.
-- In cycle 0, if rank 1 had something to push: sender 1 with its first parcel of the epoch.
pub record WentOn (e m : ℕ) (x : Stack) (got : Logs) : Type 0 where
  pub sender : ℕ
  pub low : sender < x.ranks
  pub parcel : Shipped
  pub came : proceed_parcel e m (got (stack_link_from x sender)) ≡ Some parcel
  pub going : parcel.last ≡ false

-- A rank's proceed parcel of cycle m isn't marked last only if the rank has more than m items to
-- send in that epoch.
-- With two items to send in epoch 0 the parcels of the cycles 0 and 1 may be unmarked, and that of
-- cycle 2 is marked last at the latest.
abbrev pub MarksLast : (ℕ → ℕ) → Stack → Logs → Type 0
MarksLast quota x sent = (e b m : ℕ) (p : Shipped) → b < x.ranks → proceed_parcel e m (sent (stack_link_to x b)) ≡ Some p
    → p.last ≡ false → m < quota e

-- A rank that has at most `quota e` items to send in epoch e is in cycle n of its exstack. So an
-- epoch has at most one cycle more than its rank with the most items has items: three, with two
-- items at rank 0 and none elsewhere.
-- few: it has at most that many items in this epoch.
-- paced: until it is done it pushes at least one item in each cycle.
-- left, emptied: for as it begins to fill its buffers, an item remains to be pushed and no entry is
-- waiting.
-- went_on: each cycle in which the exchange continued did so because of some rank's proceed parcel.
-- marks: its own proceed parcels are marked last in time.
pub record InCycle {S : Type 0} (R : Rules S) (quota : ℕ → ℕ) (n : ℕ) (run : Running S) (x : Stack)
    (sent got : Logs) : Type 0 where
  pub agrees : AgreesIn n x sent got
  pub few : length (to_send R run.prog run.sends) ≤ quota x.epoch
  pub paced : x.done ≡ false → exchanges_in n x.stage ≤ run.next
  pub left : x.stage ≡ Filling → x.done ≡ false → run.next < length (to_send R run.prog run.sends)
  pub emptied : x.stage ≡ Filling → (b : ℕ) → b < x.ranks → (stack_out_at x b).waiting ≡ []
  pub went_on : (m : ℕ) → m < cycles_gone_on n x.stage → WentOn x.epoch m x got
  pub marks : MarksLast quota x sent

-- The same rank as its exchange round begins or continues: its buffers are filled, and until it is
-- done it has pushed more items than there were cycles before.
pub record InExchange {S : Type 0} (R : Rules S) (quota : ℕ → ℕ) (n : ℕ) (run : Running S) (x : Stack)
    (sent got : Logs) : Type 0 where
  pub agrees : AgreesIn n x sent got
  pub few : length (to_send R run.prog run.sends) ≤ quota x.epoch
  pub paced : x.done ≡ false → n < run.next
  pub went_on : (m : ℕ) → m < n + 1 → WentOn x.epoch m x got
  pub marks : MarksLast quota x sent

-- The stages that a turn at a given stage may leave: the turn makes the next poll, and stays in
-- place only at the end of the epoch.
-- From Full it is Proceeding, Filling or AllDone, and never Full.
abbrev pub IsOnward : Stage → Stage → Type 0
IsOnward Start s = has_proceeded s ≡ true
IsOnward Proceeding s = has_proceeded s ≡ true
IsOnward Filling s = has_exchanged s ≡ true
IsOnward Exchanging s = has_exchanged s ≡ true
IsOnward Full s = has_proceeded s ≡ true
IsOnward AllDone s = s ≡ AllDone

-- A parcel of the round remains to be posted on the link to some rank, or to be collected from the
-- link of some rank.
pub record DueOut (x : Stack) : Type 0 where
  pub other : ℕ
  pub low : other < x.ranks
  pub due : (stack_out_at x other).due ≡ true

pub record DueIn (x : Stack) : Type 0 where
  pub other : ℕ
  pub low : other < x.ranks
  pub due : (stack_in_at x other).due ≡ true

-- An exstack within a round waits for a parcel.
abbrev pub Awaits : Stack → Type 0
Awaits x = (is_proceeding x.stage || is_exchanging x.stage) ≡ true → DueOut x ⊎ DueIn x

-- The same for either transport; over conveyors this states nothing.
abbrev pub IsInCycle : {S : Type 0} → Rules S → (ℕ → ℕ) → ℕ → Running S → MoverState → Logs → Logs → Type 0
IsInCycle R quota n run (Conveying c) sent got = ⊤
IsInCycle R quota n run (Stacking cap x) sent got = InCycle R quota n run x sent got

-- The cycle after a turn: one later if an exchange round was over before it.
abbrev pub cycle_of_turn : ℕ → MoverState → ℕ
cycle_of_turn n (Conveying c) = n
cycle_of_turn n (Stacking cap x) = cycle_after n x.stage

-- A turn moves an exstack's stage forward.
abbrev pub TurnsOnward : MoverState → MoverState → Type 0
TurnsOnward (Conveying c) (Conveying c') = ⊤
TurnsOnward (Conveying c) (Stacking k x) = ⊥
TurnsOnward (Stacking k x) (Conveying c) = ⊥
TurnsOnward (Stacking k x) (Stacking k' x') = IsOnward x.stage x'.stage

-- Within a round an exstack waits for a parcel.
abbrev pub AwaitsSome : MoverState → Type 0
AwaitsSome (Conveying c) = ⊤
AwaitsSome (Stacking cap x) = Awaits x
