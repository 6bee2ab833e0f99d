-- Pushes into a conveyor or into an exstack.
use Rattle.std.specs.Prelude.{◌≡◌, ℕ, ◌<◌, ◌≤◌, Bool, true, false, List, length, None}
use Rattle.std.specs.List.{All}
use Rattle.bale_items.specs.declared.item.Item.{Item}
use Rattle.route_tensor.specs.Grid.{ranks}
use Rattle.port_bank.specs.Machine.Step.{Push, Idle}
use Rattle.hop_core.specs.declared.phase.Phase.TheVariants.{Working}
use Rattle.hop_core.specs.State.{State}
use Rattle.convey.specs.Conveyors as conveyors
use Rattle.convey.specs.Conveyors.{open_count_toward}
use Rattle.exstack.specs.declared.stage.Stage.TheVariants.{Filling}
use Rattle.exstack.specs.Links.{headroom_of}
use Rattle.exstack.specs.State.{Stack}
use Rattle.exstack.specs.State.{stack_dims, stack_out_at, pushed_on}
use Rattle.exstack.specs.Parts as exstacks

-- An item for a rank may be pushed into a conveyor.
pub record MayPush (c : State) (to : ℕ) : Type 0 where
  pub low : to < ranks c.dims
  pub working : c.phase ≡ Working
  pub not_done : c.done ≡ false

-- The items from number `from` on may be pushed into it: each is for an existing rank, and a rank
-- that is done has none left.
pub record MayPushOn (es : List (ℕ × Item)) (c : State) (from : ℕ) : Type 0 where
  pub low : from ≤ length es
  pub receivers : All (λ e. e.0 < ranks c.dims) es
  pub working : c.done ≡ false → c.phase ≡ Working
  pub all_pushed : c.done ≡ true → from ≡ length es

-- What a push into a conveyor does. If it is refused, the open parcel toward the rank is full.
pub record AfterConveyorPush (cap : ℕ) (old : State) (to : ℕ) (x : Item) (accepted : Bool) (c : State) : Type 0 where
  pub same : c ≡ record old { outs = c.outs; pulled = c.pulled }
  pub kept : conveyors.KeepsAgreement old c
  pub step : accepted ≡ true → conveyors.IsStepOf (Push to x) old c
  pub idle : accepted ≡ false → conveyors.IsStepOf Idle old c
  pub full : accepted ≡ false → open_count_toward c to ≡ cap

-- An item for a rank may be pushed into an exstack.
pub record MayFill (x : Stack) (to : ℕ) : Type 0 where
  pub low : to < x.ranks
  pub filling : x.stage ≡ Filling
  pub not_done : x.done ≡ false

-- The items from number `from` on may be pushed into it.
pub record MayFillOn (es : List (ℕ × Item)) (x : Stack) (from : ℕ) : Type 0 where
  pub low : from ≤ length es
  pub receivers : All (λ e. e.0 < ranks (stack_dims x)) es
  pub filling : x.stage ≡ Filling
  pub all_pushed : x.done ≡ true → from ≡ length es

-- What a push into an exstack does. If it is refused, the buffer toward the rank is full.
pub record FillsOne (cap : ℕ) (old : Stack) (to : ℕ) (y : Item) (accepted : Bool) (x : Stack) : Type 0 where
  pub kept : exstacks.StackKeepsAgreement old x
  pub pushed : accepted ≡ true → x ≡ pushed_on old y to
  pub step : accepted ≡ true → exstacks.IsStackStep (Push to y) old x
  pub unpushed : accepted ≡ false → x ≡ record old { popped = None }
  pub idle : accepted ≡ false → exstacks.IsStackStep Idle old x
  pub full : accepted ≡ false → headroom_of cap (stack_out_at old to) ≡ 0
