-- What each call on a rank leaves of it. What the call answers is said in Answers.
use Rattle.std.specs.Prelude.{◌≡◌, ◌≢◌, ◌<◌, ⊤, ℕ, Bool, false, Option, Some, None, Err, IfOk}
use Rattle.bale_items.specs.declared.item.Item.{Item}
use Rattle.route_tensor.specs.Grid.{ranks}
use Rattle.port_bank.specs.Machine.Step.{Push, Pull, Unpull, Reset, Idle}
use Rattle.hop_core.specs.declared.phase.Phase.TheVariants.{Dormant, Working}
use Rattle.convey.specs.Buffers.{is_complete}
use Rattle.convey.specs.Progress.{advance_step}
use Rattle.rank_handles.specs.declared.answer.Answer.TheVariants.{Good, Full, Nothing, NotBegun, DoneAlready}
use Rattle.rank_handles.specs.Seated.{Seated, Moved}
use Rattle.rank_handles.specs.Answers.{begin_answer, push_answer, pull_result, unpull_answer, advance_answer}
use Rattle.rank_handles.specs.Answers.{reset_answer}

-- A call on the rank that is there leaves this of it. If there is none, there is none after it.
abbrev pub OnRank : (Seated → Seated → Type 0) → Option Seated → Option Seated → Type 0
OnRank R (Some old) (Some new) = R old new
OnRank R None None = ⊤
OnRank R (Some old) None = ⊥
OnRank R None (Some new) = ⊥

-- Only an advance sends and collects: all else leaves what the seat sent and got (links). Misuse
-- changes nothing.
pub record Begin (old new : Seated) : Type 0 where
  pub links : new.seat ≡ old.seat
  pub begun : begin_answer old.state.phase ≡ Good → Moved Idle Working old new
  pub misuse : begin_answer old.state.phase ≢ Good → new ≡ old

-- Full: nothing was pushed, and nothing can be put back any more.
pub record Pushing (item : Item) (to : ℕ) (old new : Seated) : Type 0 where
  pub links : new.seat ≡ old.seat
  pub pushed : push_answer old to ≡ Good → Moved (Push to item) Working old new
  pub full : push_answer old to ≡ Full → Moved Idle Working old new
  pub still_full : push_answer old to ≡ Full → push_answer new to ≡ Full
  pub misuse : push_answer old to ≢ Good → push_answer old to ≢ Full → new ≡ old

pub record Pulling (old new : Seated) : Type 0 where
  pub links : new.seat ≡ old.seat
  pub sender : IfOk (pull_result old) (λ p. p.0 < ranks old.state.dims)
  pub pulled : IfOk (pull_result old) (λ p. Moved (Pull p.0 p.1) old.state.phase old new)
  pub nothing : pull_result old ≡ Err Nothing → Moved Idle old.state.phase old new
  pub still_none : pull_result old ≡ Err Nothing → pull_result new ≡ Err Nothing
  pub misuse : pull_result old ≡ Err NotBegun → new ≡ old

pub record Unpulling (old new : Seated) : Type 0 where
  pub links : new.seat ≡ old.seat
  pub put_back : unpull_answer old ≡ Good → Moved Unpull old.state.phase old new
  pub nothing : unpull_answer old ≡ Nothing → Moved Idle old.state.phase old new

-- In an epoch that has begun a rank is Working exactly as long as it isn't done.
pub record WorksUntilDone (done : Bool) (s : Seated) : Type 0 where
  pub begun : s.state.phase ≢ Dormant
  pub working : done ≡ false → s.state.phase ≡ Working
  pub undone : s.state.phase ≡ Working → done ≡ false

pub record Advancing (done : Bool) (old new : Seated) : Type 0 where
  pub advanced : advance_answer old done new.state.phase ≢ NotBegun
      → advance_answer old done new.state.phase ≢ DoneAlready
      → Moved (advance_step old.state.done done (is_complete new.state.phase)) new.state.phase old new
  pub done_is : advance_answer old done new.state.phase ≢ NotBegun
      → advance_answer old done new.state.phase ≢ DoneAlready → new.state.done ≡ done
  pub works : advance_answer old done new.state.phase ≢ NotBegun
      → advance_answer old done new.state.phase ≢ DoneAlready → WorksUntilDone done new
  pub not_begun : advance_answer old done new.state.phase ≡ NotBegun → new ≡ old
  pub not_undone : advance_answer old done new.state.phase ≡ DoneAlready → new ≡ old

pub record Resetting (old new : Seated) : Type 0 where
  pub links : new.seat ≡ old.seat
  pub ended : reset_answer old ≡ Good → Moved Reset Dormant old new
  pub misuse : reset_answer old ≢ Good → new ≡ old

-- As contracts name them.
unfoldable pub Begins : Seated → Seated → Type 0
Begins old new = Begin old new

unfoldable pub Pushes : Item → ℕ → Seated → Seated → Type 0
Pushes item to old new = Pushing item to old new

unfoldable pub Pulls : Seated → Seated → Type 0
Pulls old new = Pulling old new

unfoldable pub Unpulls : Seated → Seated → Type 0
Unpulls old new = Unpulling old new

unfoldable pub Advances : Bool → Seated → Seated → Type 0
Advances done old new = Advancing done old new

unfoldable pub Resets : Seated → Seated → Type 0
Resets old new = Resetting old new
