-- What the parts of a turn do.
use Rattle.std.specs.Prelude.{◌≡◌, ◌≢◌, ℕ, ◌<◌, ◌≤◌, length, Bool, List, slice_get, Some}
use Rattle.bale_items.specs.declared.item.Item.{Item}
use Rattle.port_bank.specs.Machine.{Part}
use Rattle.convey.specs.Buffers.{buffers_of, in_of}
use Rattle.convey.specs.Conveyors.{AgreesWith, KeepsAgreement, open_count_toward}
use Rattle.convey.specs.Parts.{part_of}
use Rattle.hop_core.specs.declared.phase.Phase.TheVariants.{Dormant}
use Rattle.hop_core.specs.State.{State}
use Rattle.round_program.specs.Rules.{Rules}
use Rattle.route_tensor.specs.Grid.{ranks}
use Rattle.port_bank.specs.Logs.{Logs}
use Rattle.exstack.specs.Links.{headroom_of}
use Rattle.exstack.specs.State.{Stack}
use Rattle.exstack.specs.State.{stack_dims, stack_out_at}
use Rattle.exstack.specs.Agreement.{AgreesIn}
use Rattle.exstack.specs.Parts as exstacks
use Rattle.rank_node.specs.declared.sends.Sends.{Sends}
use Rattle.rank_node.specs.Sending.{is_voting}
use Rattle.rank_node.specs.Runs.{IsPushed, HasTaken}

-- After pushes: more of the items are pushed, in the current epoch, and nothing else changed.
pub record PushedOn (items : List (ℕ × Item)) (p next next' : ℕ) (part part' : Part) : Type 0 where
  pub epoch : part'.epoch ≡ part.epoch
  pub done : part'.done ≡ part.done
  pub pulled : part'.pulled ≡ part.pulled
  pub elsewhere : (e d : ℕ) → e ≢ part.epoch → part'.pushed e d ≡ part.pushed e d
  pub pushed : IsPushed items p next part → IsPushed items p next' part'

-- A link in that had ended still has.
abbrev pub SameEnds : State → State → Type 0
SameEnds old new = (l : ℕ) → (in_of new l).ended ≡ (in_of old l).ended

-- No inbox holds more than before.
abbrev pub InboxesShrink : State → State → Type 0
InboxesShrink old new = (l : ℕ) → length (in_of new l).parcel.untaken ≤ length (in_of old l).parcel.untaken

-- What pulls do to a conveyor; their items are summed or absorbed.
pub record PullsItems {S : Type 0} (R : Rules S) (voting : Bool) (old c : State) (prog prog' : S) (sum sum' : ℕ)
    (spoiled spoiled' : Bool) : Type 0 where
  pub begun : c.phase ≢ Dormant
  pub same : c ≡ record old { ins = c.ins; pulled = c.pulled }
  pub ends : SameEnds old c
  pub fewer : InboxesShrink old c
  pub emissions : R.emissions prog' ≡ R.emissions prog
  pub kept : KeepsAgreement old c
  pub taken : (h : ℕ → S) (rank round next : ℕ) (sends : Sends) (sent got : Logs) → is_voting sends ≡ voting
      → AgreesWith old sent got
      → HasTaken R (ranks old.dims) rank h round sends next prog sum spoiled (part_of (buffers_of old) sent got)
      → HasTaken R (ranks old.dims) rank h round sends next prog' sum' spoiled' (part_of (buffers_of c) sent got)

-- What pushes do to a conveyor: of the items from number `from` on those below `next` are pushed.
-- If one remains, the open parcel toward its receiver is full.
pub record PushesItems (cap : ℕ) (es : List (ℕ × Item)) (old c : State) (from next : ℕ) : Type 0 where
  pub forward : from ≤ next
  pub low : next ≤ length es
  pub same : c ≡ record old { outs = c.outs; pulled = c.pulled }
  pub kept : KeepsAgreement old c
  pub pushed : (sent got : Logs) → AgreesWith old sent got
      → PushedOn es (ranks old.dims) from next (part_of (buffers_of old) sent got) (part_of (buffers_of c) sent got)
  pub refused : (to : ℕ) (x : Item) → slice_get es next ≡ Some (to, x) → open_count_toward c to ≡ cap
  pub receiver : (to : ℕ) (x : Item) → slice_get es next ≡ Some (to, x) → to < ranks c.dims

-- What pushes do to an exstack: of the items from number `from` on those below `next` are pushed.
-- If one remains, the buffer toward its receiver is full.
pub record FillsItems (cap : ℕ) (es : List (ℕ × Item)) (old x : Stack) (from next : ℕ) : Type 0 where
  pub forward : from ≤ next
  pub low : next ≤ length es
  pub same : x ≡ record old { outs = x.outs; popped = x.popped }
  pub kept : exstacks.StackKeepsAgreement old x
  pub pushed : (n : ℕ) (sent got : Logs) → AgreesIn n old sent got
      → PushedOn es (ranks (stack_dims old)) from next (exstacks.stack_part old sent got) (exstacks.stack_part x sent got)
  pub refused : (to : ℕ) (y : Item) → slice_get es next ≡ Some (to, y) → headroom_of cap (stack_out_at x to) ≡ 0
  pub none : next ≡ from → x.outs ≡ old.outs

-- What pops do to an exstack; their items are summed or absorbed.
pub record PopsItems {S : Type 0} (R : Rules S) (voting : Bool) (old x : Stack) (prog prog' : S) (sum sum' : ℕ)
    (spoiled spoiled' : Bool) : Type 0 where
  pub same : x ≡ record old { ins = x.ins; popped = x.popped }
  pub emissions : R.emissions prog' ≡ R.emissions prog
  pub kept : exstacks.StackKeepsAgreement old x
  pub taken : (h : ℕ → S) (rank round next : ℕ) (sends : Sends) (n : ℕ) (sent got : Logs) → is_voting sends ≡ voting
      → AgreesIn n old sent got
      → HasTaken R (ranks (stack_dims old)) rank h round sends next prog sum spoiled (exstacks.stack_part old sent got)
      → HasTaken R (ranks (stack_dims old)) rank h round sends next prog' sum' spoiled' (exstacks.stack_part x sent got)
