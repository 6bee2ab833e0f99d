-- What is kept of an elastic rank, and what one of its pulls of an item leaves.
use Rattle.std.specs.Prelude.{◌≡◌, ◌≢◌, ℕ, ◌-◌, ◌<◌, List, [], length, slice_index_or, Option, Some, None}
use Rattle.std.specs.Prelude.{◌⊎◌, Result, Ok, Err, IfOk, OnErr, IfErr, false}
use Rattle.std.specs.List.{All, flat_map}
use Rattle.bale_items.specs.declared.item.Item.{Item}
use Rattle.list_laws.specs.Sums.{total}
use Rattle.route_tensor.specs.Grid.{ranks}
use Rattle.port_bank.specs.Flow.{flow}
use Rattle.port_bank.specs.Machine.{Part}
use Rattle.link_slots.specs.SeatView.{collected_from}
use Rattle.hop_core.specs.declared.phase.Phase.TheVariants.{Dormant, Working}
use Rattle.elastic.specs.Spelling.{IsLetter, spelling}
use Rattle.elastic.specs.code.Begun.{begun_items}
use Rattle.rank_handles.specs.declared.answer.Answer.{Answer}
use Rattle.rank_handles.specs.declared.answer.Answer.TheVariants as answer
use Rattle.rank_handles.specs.Seated.{Seated, part}
use Rattle.rank_handles.specs.Answers.{pull_result}
use Rattle.rank_handles.specs.Strings.{pushed_with, strings_of, with_string}
use Rattle.rank_handles.specs.StringCalls.{Walked, PushingPending}

-- Items that are a list of whole strings.
pub record AreStrings (items : List Item) : Type 0 where
  pub strings : List (List ℕ)
  pub short : All IsLetter strings
  pub is : items ≡ flat_map spelling strings

-- Nothing was pushed or pulled in the epochs after the present one.
abbrev pub IsAhead : Part → Type 0
IsAhead p = (e r : ℕ) → p.epoch < e → (p.pushed e r ≡ []) × (p.pulled e r ≡ [])

-- Nothing was pushed or pulled.
abbrev pub IsUntouched : Part → Type 0
IsUntouched p = (e r : ℕ) → (p.pushed e r ≡ []) × (p.pulled e r ≡ [])

-- What was pushed in this epoch, with what is pending, are whole strings. Nothing is pending but
-- while the rank works.
pub record IsSent (s : Seated) (pending : List (ℕ × Item)) : Type 0 where
  pub working : s.state.phase ≢ Working → pending ≡ []
  pub whole : (r : ℕ) → AreStrings (pushed_with (part s) pending (part s).epoch r)

-- For each sender the items of the string that it has begun.
pub record KeepsBegun (s : Seated) (begun : List (List Item)) : Type 0 where
  pub senders : length begun ≡ ranks s.state.dims
  pub begun_is : (r : ℕ) → slice_index_or begun r [] ≡ begun_items [] ((part s).pulled (part s).epoch r)

-- A rank isn't done before it is told so.
pub record IsUndone (s : Seated) : Type 0 where
  pub dormant : s.state.phase ≡ Dormant → s.state.done ≡ false
  pub working : s.state.phase ≡ Working → s.state.done ≡ false

pub record IsElastic (s : Seated) (pending : List (ℕ × Item)) (begun : List (List Item)) : Type 0 where
  pub undone : IsUndone s
  pub ahead : IsAhead (part s)
  pub sent : IsSent s pending
  pub read : KeepsBegun s begun

-- How many items came in this epoch from a rank; and how many that came are still to be pulled.
abbrev pub came_from : Seated → ℕ → ℕ
came_from s r =
    length (flow s.state.dims (collected_from s.seat) r s.state.rank (length s.state.dims) s.state.epoch)

abbrev pub unpulled : Seated → ℕ
unpulled s = total (ranks s.state.dims) (λ r. came_from s r - length ((part s).pulled (part s).epoch r))

-- Of pending items some were pushed: they are pushed or pending, as before.
pub record PendingMoved (pending : List (ℕ × Item)) (old : Seated) (left : List (ℕ × Item)) (new : Seated) : Type 0 where
  pub walked : Walked old new
  pub phase : new.state.phase ≡ old.state.phase
  pub done : new.state.done ≡ old.state.done
  pub epoch : (part new).epoch ≡ (part old).epoch
  pub pulled : (part new).pulled ≡ (part old).pulled
  pub same : pushed_with (part new) left ≡ pushed_with (part old) pending

pub record PendingPushed (pending : List (ℕ × Item)) (old : Seated) (left : List (ℕ × Item)) (new : Seated) : Type 0 where
  pub pushing : PushingPending pending old left new
  pub moved : PendingMoved pending old left new
  pub none : pending ≡ [] → (left ≡ []) × (new ≡ old)

-- Pulls of items changed nothing but what was pulled.
pub record OnlyPulled (old new : Seated) : Type 0 where
  pub walked : Walked old new
  pub links : new.seat ≡ old.seat
  pub phase : new.state.phase ≡ old.state.phase
  pub done : new.state.done ≡ old.state.done
  pub epoch : (part new).epoch ≡ (part old).epoch
  pub pushed : (part new).pushed ≡ (part old).pushed

-- They completed no string, or this one of this sender.
pub record NoString (old new : Seated) : Type 0 where
  pub only : OnlyPulled old new
  pub strings : strings_of (part new).pulled ≡ strings_of (part old).pulled

pub record OneString (from : ℕ) (string : List ℕ) (old new : Seated) : Type 0 where
  pub only : OnlyPulled old new
  pub strings : strings_of (part new).pulled ≡ with_string (strings_of (part old).pulled) (part old).epoch from string

-- What pulls of items leave, up to one that completes a string: this string of this sender, or no
-- string. Then no item is left, or there was no memory.
pub record StringPulled (result : Result ℕ Answer) (string : List ℕ) (old new : Seated) : Type 0 where
  pub given : IfOk result (λ from. OneString from string old new)
  pub none : OnErr result (NoString old new)
  pub nothing : result ≡ Err answer.Nothing → pull_result new ≡ Err answer.Nothing
  pub errors : IfErr result (λ a. (a ≡ answer.Nothing) ⊎ (a ≡ answer.NoMemory))

-- By what a call answered that pulled one item: one less is left to be pulled, unless there was
-- none or no memory.
abbrev pub ItemPulled : Result (Option ℕ) Answer → List ℕ → Seated → Seated → Type 0
ItemPulled (Ok None) string old new = NoString old new × (unpulled new < unpulled old)
ItemPulled (Ok (Some from)) string old new = OneString from string old new
ItemPulled (Err a) string old new = StringPulled (Err a) string old new
