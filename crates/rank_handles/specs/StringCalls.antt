-- What each call on an elastic rank answers, and what it leaves.
use Rattle.std.specs.Prelude.{◌≡◌, ◌≢◌, ◌==◌, ◌&&◌, not, ⊤, ℕ, nat_lt, if◌then◌else◌, Bool, List, [], ◌∷◌, length}
use Rattle.std.specs.Prelude.{◌⊎◌, Option, Some, None, Result, Ok, Err, IfOk, IfErr, OnErr, is_some, ℤ}
use Rattle.bale_items.specs.declared.item.Item.{Item}
use Rattle.route_tensor.specs.Grid.{ranks}
use Rattle.port_bank.specs.Machine.{Step}
use Rattle.hop_core.specs.declared.phase.Phase.TheVariants.{Dormant, Working, Complete}
use Rattle.rank_handles.specs.declared.answer.Answer.{Answer}
use Rattle.rank_handles.specs.declared.answer.Answer.TheVariants as answer
use Rattle.rank_handles.specs.Seated.{Seated, part}
use Rattle.rank_handles.specs.Answers.{while_working, push_answer, pull_result, advance_answer}
use Rattle.rank_handles.specs.Calls.{Begins, Advances, Resets}
use Rattle.rank_handles.specs.Codes.{code_of}
use Rattle.rank_handles.specs.Grouped.{Grouped, IsNewRank, answer_with}
use Rattle.rank_handles.specs.Many.{MayAll, after_all}
use Rattle.rank_handles.specs.Strings.{ElasticState, with_string, strings_toward, strings_from}

-- A call made steps of the exchange machine, one after the other. The rank's bank, its grid and its
-- number stay.
pub record Walked (old new : Seated) : Type 0 where
  pub steps : List Step
  pub may : MayAll steps (part old)
  pub is : part new ≡ after_all steps (part old)
  pub bank : new.seat.id ≡ old.seat.id
  pub shape : new.seat.shape ≡ old.seat.shape
  pub rank : new.state.rank ≡ old.state.rank
  pub dims : new.state.dims ≡ old.state.dims

-- What a call leaves of an elastic rank that is there. If there is none, there is none after it.
abbrev pub OnElastic : (ElasticState → ElasticState → Type 0) → Option ElasticState → Option ElasticState → Type 0
OnElastic R (Some old) (Some new) = R old new
OnElastic R None None = ⊤
OnElastic R (Some old) None = ⊥
OnElastic R None (Some new) = ⊥

-- The strings pushed, and those pulled, are the same.
pub record SameStrings (old new : ElasticState) : Type 0 where
  pub toward : strings_toward new ≡ strings_toward old
  pub from : strings_from new ≡ strings_from old

-- What a push of a string answers, if there is memory. Full comes only while a part of the
-- string before it is pending.
abbrev pub is_none_pending : List (ℕ × Item) → Bool
is_none_pending pending = length pending == 0

abbrev pub string_answer : ElasticState → List ℕ → ℕ → Answer
string_answer s bytes to = while_working s.rank.state.phase (
    if not (nat_lt to (ranks s.rank.state.dims)) then answer.NoSuchRank
    else if nat_lt 65_535 (length bytes) then answer.TooLong
    else if is_none_pending s.pending then answer.Good else answer.Full)

-- A call pushed this string: it is the last of those toward that rank, and no other list changed.
pub record PushingString (bytes : List ℕ) (to : ℕ) (old new : ElasticState) : Type 0 where
  pub walked : Walked old.rank new.rank
  pub toward : strings_toward new ≡ with_string (strings_toward old) (part old.rank).epoch to bytes
  pub from : strings_from new ≡ strings_from old
  pub phase : new.rank.state.phase ≡ Working
  pub string : new.string ≡ old.string

-- A call gave this string of this sender: it is the last of those pulled of it, and no other list
-- changed.
pub record PullingString (from : ℕ) (old new : ElasticState) : Type 0 where
  pub walked : Walked old.rank new.rank
  pub given : List ℕ
  pub string : new.string ≡ Some given
  pub from_is : strings_from new ≡ with_string (strings_from old) (part old.rank).epoch from given
  pub toward : strings_toward new ≡ strings_toward old
  pub phase : new.rank.state.phase ≡ old.rank.state.phase
  pub pending : new.pending ≡ old.pending

-- A call gave no string, and lost none.
pub record PullingNoString (old new : ElasticState) : Type 0 where
  pub walked : Walked old.rank new.rank
  pub string : new.string ≡ None
  pub same : SameStrings old new
  pub phase : new.rank.state.phase ≡ old.rank.state.phase
  pub pending : new.pending ≡ old.pending

-- A pull of a string. Before the first epoch, and between two, it is misuse. Otherwise it gives a
-- string, or gives none and loses none: because nothing is left to be pulled, or because memory ran
-- out.
pub record PullOf (result : Result ℕ Answer) (old new : ElasticState) : Type 0 where
  pub not_begun : old.rank.state.phase ≡ Dormant → (result ≡ Err answer.NotBegun) × (new ≡ old)
  pub given : old.rank.state.phase ≢ Dormant → IfOk result (λ from. PullingString from old new)
  pub none : old.rank.state.phase ≢ Dormant → OnErr result (PullingNoString old new)
  pub errors : old.rank.state.phase ≢ Dormant
      → IfErr result (λ a. (a ≡ answer.Nothing) ⊎ (a ≡ answer.NoMemory))
  pub nothing : result ≡ Err answer.Nothing → pull_result new.rank ≡ Err answer.Nothing

-- Pending items were pushed, in order, until the next one found no room.
pub record PushingPending (pending : List (ℕ × Item)) (old : Seated) (left : List (ℕ × Item)) (new : Seated) : Type 0 where
  pub walked : Walked old new
  pub phase : new.state.phase ≡ old.state.phase
  pub stuck : (d : ℕ) (x : Item) (rest : List (ℕ × Item)) → left ≡ (d, x) ∷ rest → push_answer new d ≢ answer.Good

-- An advance pushes what is pending first. As long as something is, it isn't told that the rank is
-- done.
pub record AdvancingStrings (done : Bool) (old new : ElasticState) : Type 0 where
  pub pushed : Seated
  pub pending : PushingPending old.pending old.rank new.pending pushed
  pub advanced : Advances (done && is_none_pending new.pending) pushed new.rank
  pub done_is : new.rank.state.done ≡ (done && is_none_pending new.pending)
  pub complete : new.rank.state.phase ≡ Complete → new.pending ≡ []
  pub same : SameStrings old new
  pub string : new.string ≡ old.string

-- As contracts name them.
unfoldable pub PushesString : List ℕ → ℕ → ElasticState → ElasticState → Type 0
PushesString bytes to old new = PushingString bytes to old new

unfoldable pub PullsString : Result ℕ Answer → ElasticState → ElasticState → Type 0
PullsString result old new = PullOf result old new

-- Misuse changes nothing.
pub record StringsAdvance (done : Bool) (old new : ElasticState) : Type 0 where
  pub advanced : advance_answer old.rank done new.rank.state.phase ≢ answer.NotBegun
      → advance_answer old.rank done new.rank.state.phase ≢ answer.DoneAlready → AdvancingStrings done old new
  pub not_begun : advance_answer old.rank done new.rank.state.phase ≡ answer.NotBegun → new ≡ old
  pub not_undone : advance_answer old.rank done new.rank.state.phase ≡ answer.DoneAlready → new ≡ old

unfoldable pub AdvancesStrings : Bool → ElasticState → ElasticState → Type 0
AdvancesStrings done old new = StringsAdvance done old new

-- An epoch begins, or ends: no string is pushed or pulled.
pub record StringsBegin (old new : ElasticState) : Type 0 where
  pub begins : Begins old.rank new.rank
  pub same : SameStrings old new
  pub pending : new.pending ≡ old.pending
  pub string : new.string ≡ old.string

unfoldable pub BeginsStrings : ElasticState → ElasticState → Type 0
BeginsStrings old new = StringsBegin old new

pub record StringsReset (old new : ElasticState) : Type 0 where
  pub resets : Resets old.rank new.rank
  pub same : SameStrings old new
  pub pending : new.pending ≡ old.pending
  pub string : new.string ≡ old.string

unfoldable pub ResetsStrings : ElasticState → ElasticState → Type 0
ResetsStrings old new = StringsReset old new

-- An elastic rank that was just made: before its first epoch, with no strings.
pub record NewElastic (g : Grouped) (rank : ℕ) (s : ElasticState) : Type 0 where
  pub rank_is : IsNewRank g rank s.rank
  pub pending : s.pending ≡ []
  pub string : s.string ≡ None
  pub toward : strings_toward s ≡ (λ e r. [])
  pub from : strings_from s ≡ (λ e r. [])

-- The string that the latest pull gave is lent, if there is one.
abbrev pub string_lent : ElasticState → Answer
string_lent s = if is_some s.string then answer.Good else answer.Nothing

unfoldable pub StringLentBy : List ℕ → Option ElasticState → Type 0
StringLentBy bytes None = ⊥
StringLentBy bytes (Some s) = s.string ≡ Some bytes

-- A pull by C: what it answered is this code, and the sender is put if it is asked for.
abbrev pub from_given : Result ℕ Answer → ℕ → ℕ
from_given (Ok from) there = from
from_given (Err a) there = there

abbrev pub PulledThere : Result ℕ Answer → Option ElasticState → Option ElasticState → Type 0
PulledThere r None None = r ≡ Err answer.Gone
PulledThere r (Some old) (Some new) = PullsString r old new
PulledThere r (Some old) None = ⊥
PulledThere r None (Some new) = ⊥

pub record HasPulled (code : ℤ) (from from' : ℕ) (old new : Option ElasticState) : Type 0 where
  pub result : Result ℕ Answer
  pub code_is : code ≡ code_of (answer_with result)
  pub from_is : from' ≡ from_given result from
  pub pulls : PulledThere result old new
