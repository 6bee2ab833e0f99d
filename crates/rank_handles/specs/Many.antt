-- Calls of many items, as so many single ones.
use Rattle.std.specs.Prelude.{◌≡◌, ◌≢◌, ◌<◌, ℕ, zero, suc, Bool, ⊤, List, [], ◌∷◌, ◌++◌, length, drop, slice_index_or}
use Rattle.std.specs.Prelude.{nat_lt}
use Rattle.std.specs.Prelude.{if◌then◌else◌}
use Rattle.std.specs.Prelude.{Result, Ok, Err, ℤ, pos, negsuc}
use Rattle.std.specs.List.{list_all}
use Rattle.bale_items.specs.declared.item.Item.{Item}
use Rattle.route_tensor.specs.Grid.{ranks}
use Rattle.port_bank.specs.Machine.{Part, Step, MayBy, after}
use Rattle.port_bank.specs.Machine.Step.{Push, Pull, Idle}
use Rattle.rank_handles.specs.declared.item.BaleItem.{BaleItem}
use Rattle.rank_handles.specs.declared.answer.Answer.{Answer}
use Rattle.rank_handles.specs.declared.answer.Answer.TheVariants.{Good, Full, Nothing, More, Near, Complete, NoMemory}
use Rattle.rank_handles.specs.declared.answer.Answer.TheVariants.{NotBegun, BegunAlready, DoneAlready, NoSuchRank}
use Rattle.rank_handles.specs.declared.answer.Answer.TheVariants.{NotComplete, Gone, BadNumbers, InUse, RankTaken}
use Rattle.rank_handles.specs.declared.answer.Answer.TheVariants.{NoMoreEpochs, NotLent, TooLong}
use Rattle.rank_handles.specs.Items.{item_of}
use Rattle.rank_handles.specs.Codes.{code_of}
use Rattle.rank_handles.specs.Answers.{while_working, once_begun, push_answer, pull_result}
use Rattle.rank_handles.specs.Seated.{Seated, part}

-- One step for each of the first n items, with the rank that is at the same place.
-- steps_of Push 2 (x, y, z) (3, 0, 1) is Push 3 x, Push 0 y.
unfoldable pub steps_of : (ℕ → Item → Step) → ℕ → List BaleItem → List ℕ → List Step
steps_of make zero items to = []
steps_of make (suc n) [] to = []
steps_of make (suc n) (x ∷ items) [] = []
steps_of make (suc n) (x ∷ items) (r ∷ to) = make r (item_of x) ∷ steps_of make n items to

-- The step of the call that found no room, or no item, if fewer than all were moved.
abbrev pub then_idle : ℕ → ℕ → List Step
then_idle n most = if nat_lt n most then Idle ∷ [] else []

-- Past the first n places, what items and senders a call was given is as it was.
pub record SamePast (n : ℕ) (items items' : List BaleItem) (from from' : List ℕ) : Type 0 where
  pub items_are : drop n items' ≡ drop n items
  pub from_are : drop n from' ≡ drop n from

-- What steps, one after the other, make of a rank's part, and whether it may make them.
unfoldable pub after_all : List Step → Part → Part
after_all [] p = p
after_all (s ∷ steps) p = after_all steps (after s p)

unfoldable pub MayAll : List Step → Part → Type 0
MayAll [] p = ⊤
MayAll (s ∷ steps) p = MayBy s p × MayAll steps (after s p)

-- A call made these steps. The rank's phase, its bank, its grid and its number stay.
pub record Run (steps : List Step) (old new : Seated) : Type 0 where
  pub may : MayAll steps (part old)
  pub is : part new ≡ after_all steps (part old)
  pub phase : new.state.phase ≡ old.state.phase
  pub bank : new.seat.id ≡ old.seat.id
  pub shape : new.seat.shape ≡ old.seat.shape
  pub rank : new.state.rank ≡ old.state.rank
  pub dims : new.state.dims ≡ old.state.dims

unfoldable pub RanSteps : List Step → Seated → Seated → Type 0
RanSteps steps old new = Run steps old new

-- Whether every destination is a rank.
unfoldable pub all_ranks : ℕ → List ℕ → Bool
all_ranks n to = list_all (λ r. nat_lt r n) to

-- What is wrong with a push of these: of the rank, or else of a destination. Good if nothing is.
abbrev pub push_many_answer : Seated → List ℕ → Answer
push_many_answer s to = while_working s.state.phase (if all_ranks (ranks s.state.dims) to then Good else NoSuchRank)

-- What is wrong with a pull.
abbrev pub pull_many_answer : Seated → Answer
pull_many_answer s = once_begun s.state.phase Good

-- What a call that moved n items tells, where this is what is wrong, or Good.
abbrev pub number_or : Answer → ℕ → Result ℕ Answer
number_or Good n = Ok n
number_or Full n = Err Full
number_or Nothing n = Err Nothing
number_or More n = Err More
number_or Near n = Err Near
number_or Complete n = Err Complete
number_or NoMemory n = Err NoMemory
number_or NotBegun n = Err NotBegun
number_or BegunAlready n = Err BegunAlready
number_or DoneAlready n = Err DoneAlready
number_or NoSuchRank n = Err NoSuchRank
number_or NotComplete n = Err NotComplete
number_or Gone n = Err Gone
number_or BadNumbers n = Err BadNumbers
number_or InUse n = Err InUse
number_or RankTaken n = Err RankTaken
number_or NoMoreEpochs n = Err NoMoreEpochs
number_or NotLent n = Err NotLent
number_or TooLong n = Err TooLong

-- How many a call moved: none if something was wrong.
abbrev pub moved_by : Result ℕ Answer → ℕ
moved_by (Ok n) = n
moved_by (Err a) = 0

-- The number that C is told, and how many it says were moved.
abbrev pub told_of : Result ℕ Answer → ℤ
told_of (Ok n) = pos n
told_of (Err a) = code_of a

abbrev pub count_in : ℤ → ℕ
count_in (pos n) = n
count_in (negsuc n) = 0

-- A call pushed the first n of these items, as so many single calls, until one found no room.
-- Misuse changes nothing.
pub record PushingMany (items : List BaleItem) (to : List ℕ) (n : ℕ) (old new : Seated) : Type 0 where
  pub links : new.seat ≡ old.seat
  pub misuse : push_many_answer old to ≢ Good → new ≡ old
  pub pushed : push_many_answer old to ≡ Good → RanSteps (steps_of Push n items to ++ then_idle n (length items)) old new
  pub full : push_many_answer old to ≡ Good → n < length items → push_answer new (slice_index_or to n 0) ≡ Full

unfoldable pub PushesMany : List BaleItem → List ℕ → ℕ → Seated → Seated → Type 0
PushesMany items to n old new = PushingMany items to n old new

-- A call pulled n items to the first of these places, as so many single calls, until there were
-- none or as many as there are places (most).
pub record PullingMany (most : ℕ) (items : List BaleItem) (from : List ℕ) (n : ℕ) (old new : Seated) : Type 0 where
  pub links : new.seat ≡ old.seat
  pub misuse : pull_many_answer old ≢ Good → new ≡ old
  pub pulled : pull_many_answer old ≡ Good → RanSteps (steps_of Pull n items from ++ then_idle n most) old new
  pub none : pull_many_answer old ≡ Good → n < most → pull_result new ≡ Err Nothing

unfoldable pub PullsMany : ℕ → List BaleItem → List ℕ → ℕ → Seated → Seated → Type 0
PullsMany most items from n old new = PullingMany most items from n old new
