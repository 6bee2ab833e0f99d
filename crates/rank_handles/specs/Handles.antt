-- What contracts see of a handle, and of a call on it.
use Rattle.std.specs.Prelude.{ℕ, Bool, Option, Some, None, Result, Err, List, is_some, if◌then◌else◌}
use Rattle.route_tensor.specs.Grid.{ranks}
use Rattle.hop_core.specs.declared.phase.Phase.{Phase}
use Rattle.hop_core.specs.declared.phase.Phase.TheVariants.{Dormant}
use Rattle.rank_handles.specs.declared.part.Part.{Part}
use Rattle.rank_handles.specs.declared.part.Part.TheVariants.{Empty, Group, Rank, Elastic}
use Rattle.rank_handles.specs.declared.answer.Answer.{Answer}
use Rattle.rank_handles.specs.declared.answer.Answer.TheVariants.{Gone, InUse}
use Rattle.rank_handles.specs.Grouped.{Grouped, IsNewGroup, IsNewRank, with_given, rank_answer, group_answer}
use Rattle.rank_handles.specs.Seated.{Seated}
use Rattle.rank_handles.specs.Strings.{ElasticState}
use Rattle.rank_handles.specs.StringCalls.{NewElastic}

-- The rank, the elastic rank, or the group, that a handle has.
abbrev pub rank_in : Option Part → Option Seated
rank_in (Some (Rank r)) = Some r
rank_in (Some (Group g)) = None
rank_in (Some (Elastic e)) = None
rank_in (Some Empty) = None
rank_in None = None

abbrev pub group_in : Option Part → Option Grouped
group_in (Some (Group g)) = Some g
group_in (Some (Rank r)) = None
group_in (Some (Elastic e)) = None
group_in (Some Empty) = None
group_in None = None

abbrev pub elastic_in : Option Part → Option ElasticState
elastic_in (Some (Elastic e)) = Some e
elastic_in (Some (Group g)) = None
elastic_in (Some (Rank r)) = None
elastic_in (Some Empty) = None
elastic_in None = None

-- What a call answers: Gone if there is none, and else by what is there.
abbrev pub if_there : {T : Type 0} → Option T → (T → Answer) → Answer
if_there None f = Gone
if_there (Some x) f = f x

abbrev pub result_if_there : {T U : Type 0} → Option T → (T → Result U Answer) → Result U Answer
result_if_there None f = Err Gone
result_if_there (Some x) f = f x

-- How many ranks there are, 0 if there is none.
abbrev pub ranks_in : Option Seated → ℕ
ranks_in None = 0
ranks_in (Some s) = ranks s.state.dims

-- The phase of a rank. If there is none, that of a rank before its first epoch.
abbrev pub phase_in : Option Seated → Phase
phase_in None = Dormant
phase_in (Some s) = s.state.phase

-- What becomes of the wish to make a group, or a rank of a group, if there is memory: the handle
-- that is to have it must have none.
abbrev pub new_group_answer : Option Grouped → List ℕ → ℕ → ℕ → Answer
new_group_answer there dims cap slots = if is_some there then InUse else group_answer dims cap slots

abbrev pub new_rank_answer : {T : Type 0} → Option Grouped → Option T → ℕ → Answer
new_rank_answer group there rank = if is_some there then InUse else if_there group (λ g. rank_answer g rank)

-- A group of these numbers is there, which was just made.
unfoldable pub HasNewGroup : List ℕ → ℕ → ℕ → Bool → Option Grouped → Type 0
HasNewGroup dims cap slots steady None = ⊥
HasNewGroup dims cap slots steady (Some g) = IsNewGroup dims cap slots steady g

-- A rank of the group is there, which was just made.
unfoldable pub HasNewRank : Option Grouped → ℕ → Option Seated → Type 0
HasNewRank None rank new = ⊥
HasNewRank (Some g) rank None = ⊥
HasNewRank (Some g) rank (Some s) = IsNewRank g rank s

-- The same of an elastic rank: no string was pushed or pulled, and none is pending.
unfoldable pub HasNewElastic : Option Grouped → ℕ → Option ElasticState → Type 0
HasNewElastic None rank new = ⊥
HasNewElastic (Some g) rank None = ⊥
HasNewElastic (Some g) rank (Some s) = NewElastic g rank s

-- The group once a rank of it was made.
abbrev pub given_in : Option Grouped → ℕ → Option Grouped
given_in None rank = None
given_in (Some g) rank = Some (with_given g rank)
