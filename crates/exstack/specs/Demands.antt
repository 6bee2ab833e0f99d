-- What some calls ask of an exstack.
use Rattle.std.specs.Prelude.{◌≡◌, ℕ, ◌<◌, ◌≤◌, false, List, length, slice_index_or}
use Rattle.exstack.specs.declared.stage.Stage.TheVariants.{Filling}
use Rattle.exstack.specs.Links.{StackIn, no_stack_in, has_unread}
use Rattle.exstack.specs.State.{Stack}

-- An item may be pushed toward this rank: the buffers are filled, and the rank hasn't said that it
-- is done.
pub record MayPushTo (st : Stack) (to : ℕ) : Type 0 where
  pub filling : st.stage ≡ Filling
  pub not_done : st.done ≡ false
  pub within : to < st.ranks

-- Of these links in none below `from` has an unread item.
-- If of three links only the last one has, from may be 0, 1 or 2.
pub record NoneBelow (ins : List StackIn) (from : ℕ) : Type 0 where
  pub few : length ins ≤ 64
  pub high : from ≤ length ins
  pub none : (a : ℕ) → a < from → has_unread (slice_index_or ins a no_stack_in) ≡ false
