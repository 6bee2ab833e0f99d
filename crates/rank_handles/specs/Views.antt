-- What a view lends, and what it is to pull a part of it.
use Rattle.std.specs.Prelude.{◌≡◌, ◌≢◌, ℕ, Bool, ◌==◌, not, nat_lt, if◌then◌else◌, List, [], ◌∷◌, length, take, map, Option}
use Rattle.std.specs.Prelude.{Some, None}
use Rattle.std.specs.Option.{option_map}
use Rattle.bale_items.specs.declared.item.Entry.{Entry}
use Rattle.route_tensor.specs.Neighbour.{neighbour}
use Rattle.route_tensor.specs.Tag.{sender_of}
use Rattle.port_bank.specs.Machine.{Step}
use Rattle.port_bank.specs.Machine.Step.{Pull}
use Rattle.hop_core.specs.State.{State, in_at, lowest_unread, pull_from, pulls}
use Rattle.rank_handles.specs.declared.answer.Answer.{Answer}
use Rattle.rank_handles.specs.declared.answer.Answer.TheVariants.{Good, NotLent}
use Rattle.rank_handles.specs.Answers.{once_begun}
use Rattle.rank_handles.specs.Seated.{Seated}
use Rattle.rank_handles.specs.Many.{RanSteps}

-- The entries before the first one that another rank sent, of entries that came from the rank near.
-- Of entries of the ranks 2, 2, 5, 2 those of 2 are the first two.
unfoldable pub leading : List ℕ → ℕ → ℕ → List Entry → List Entry
leading dims near from [] = []
leading dims near from (e ∷ es) =
    if sender_of dims e.tag (length dims) near == from then e ∷ leading dims near from es else []

-- The rank that sent what the next pull gives.
abbrev pub lender : State → Option ℕ
lender st = option_map (λ p. p.0) (pull_from st (lowest_unread st))

-- What a view lends: the entries of the inbox from which the next pull takes, as long as they are
-- of one sender.
unfoldable pub lent_of : State → Option ℕ → Option ℕ → List Entry
lent_of st None from = []
lent_of st (Some i) None = []
lent_of st (Some i) (Some from) = leading st.dims (neighbour st.dims st.rank i) from (in_at st i).parcel.untaken

abbrev pub lent : State → List Entry
lent st = lent_of st (lowest_unread st) (lender st)

-- These are the entries that a view of this rank lends, and their sender.
pub record Lending (entries : List Entry) (from : ℕ) (s : Seated) : Type 0 where
  pub entries_are : entries ≡ lent s.state
  pub from_is : Some from ≡ lender s.state

unfoldable pub LentBy : List Entry → ℕ → Option Seated → Type 0
LentBy entries from None = ⊥
LentBy entries from (Some s) = Lending entries from s

-- What is wrong with a call that pulls n items of a view: Good if nothing is.
abbrev pub pulled_answer : Seated → ℕ → Answer
pulled_answer s n = once_begun s.state.phase (if nat_lt (length (lent s.state)) n then NotLent else Good)

-- The steps by which the items of entries of one sender are pulled.
unfoldable pub pull_steps : Option ℕ → List Entry → List Step
pull_steps None es = []
pull_steps (Some from) es = map (λ e. Pull from e.item) es

-- A call pulled the first n items that a view lends, as so many single calls. Misuse changes
-- nothing.
pub record PullingLent (n : ℕ) (old new : Seated) : Type 0 where
  pub links : new.seat ≡ old.seat
  pub misuse : pulled_answer old n ≢ Good → new ≡ old
  pub pulled : pulled_answer old n ≡ Good
      → RanSteps (pull_steps (lender old.state) (take n (lent old.state))) old new
  pub state : pulled_answer old n ≡ Good → new.state ≡ pulls n old.state

unfoldable pub PullsLent : ℕ → Seated → Seated → Type 0
PullsLent n old new = PullingLent n old new
