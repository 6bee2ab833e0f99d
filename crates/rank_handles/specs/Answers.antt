-- What a call on a rank answers, by the rank before it.
use Rattle.std.specs.Prelude.{ℕ, Bool, ◌^◌, ◌&&◌, not, nat_lt, if◌then◌else◌, Option, Some, None, Result, Ok, Err}
use Rattle.std.specs.Prelude.{is_some}
use Rattle.bale_items.specs.declared.item.Item.{Item}
use Rattle.route_tensor.specs.Grid.{ranks}
use Rattle.hop_core.specs.declared.phase.Phase.{Phase}
use Rattle.hop_core.specs.declared.phase.Phase.TheVariants as phase
use Rattle.hop_core.specs.State.{lowest_unread, pull_from}
use Rattle.convey.specs.Conveyors.{open_count_toward}
use Rattle.rank_handles.specs.declared.answer.Answer.{Answer}
use Rattle.rank_handles.specs.declared.answer.Answer.TheVariants.{Good, Full, Nothing, More, Near, Complete, NotBegun}
use Rattle.rank_handles.specs.declared.answer.Answer.TheVariants.{BegunAlready, DoneAlready, NoSuchRank, NotComplete}
use Rattle.rank_handles.specs.declared.answer.Answer.TheVariants.{NoMoreEpochs}
use Rattle.rank_handles.specs.Seated.{Seated}

-- An answer that needs an epoch that has begun.
abbrev pub once_begun : Phase → Answer → Answer
once_begun phase.Dormant a = NotBegun
once_begun phase.Working a = a
once_begun phase.Endgame a = a
once_begun phase.Cleanup a = a
once_begun phase.Complete a = a

-- begin needs a rank that is Dormant.
abbrev pub begin_answer : Phase → Answer
begin_answer phase.Dormant = Good
begin_answer phase.Working = BegunAlready
begin_answer phase.Endgame = BegunAlready
begin_answer phase.Cleanup = BegunAlready
begin_answer phase.Complete = BegunAlready

-- push needs an epoch that has begun, a rank that isn't done, and a rank to push to. Full comes
-- if the open parcel toward that rank holds as many entries as it can.
abbrev pub while_working : Phase → Answer → Answer
while_working phase.Dormant a = NotBegun
while_working phase.Working a = a
while_working phase.Endgame a = DoneAlready
while_working phase.Cleanup a = DoneAlready
while_working phase.Complete a = DoneAlready

abbrev pub push_answer : Seated → ℕ → Answer
push_answer s to = while_working s.state.phase (
    if nat_lt to (ranks s.state.dims) then (if nat_lt (open_count_toward s.state to) s.state.cap then Good else Full)
    else NoSuchRank)

-- pull needs an epoch that has begun. It gives the first unread item and its sender.
abbrev pub item_or_nothing : Option (ℕ × Item) → Result (ℕ × Item) Answer
item_or_nothing (Some p) = Ok p
item_or_nothing None = Err Nothing

abbrev pub pull_once_begun : Phase → Result (ℕ × Item) Answer → Result (ℕ × Item) Answer
pull_once_begun phase.Dormant r = Err NotBegun
pull_once_begun phase.Working r = r
pull_once_begun phase.Endgame r = r
pull_once_begun phase.Cleanup r = r
pull_once_begun phase.Complete r = r

abbrev pub pull_result : Seated → Result (ℕ × Item) Answer
pull_result s = pull_once_begun s.state.phase (item_or_nothing (pull_from s.state (lowest_unread s.state)))

-- unpull puts an item back if the latest call pulled one.
abbrev pub unpull_answer : Seated → Answer
unpull_answer s = if is_some s.state.pulled then Good else Nothing

-- advance needs an epoch that has begun, and done stays said. What it answers is the phase after
-- it.
abbrev pub progress_answer : Phase → Answer
progress_answer phase.Dormant = More
progress_answer phase.Working = More
progress_answer phase.Endgame = More
progress_answer phase.Cleanup = Near
progress_answer phase.Complete = Complete

abbrev pub advance_answer : Seated → Bool → Phase → Answer
advance_answer s done after =
    once_begun s.state.phase (if (s.state.done && not done) then DoneAlready else progress_answer after)

-- reset needs an epoch that is complete, and a number for the next one.
abbrev pub when_complete : Phase → Answer → Answer
when_complete phase.Dormant a = NotComplete
when_complete phase.Working a = NotComplete
when_complete phase.Endgame a = NotComplete
when_complete phase.Cleanup a = NotComplete
when_complete phase.Complete a = a

abbrev pub reset_answer : Seated → Answer
reset_answer s = when_complete s.state.phase (if nat_lt s.state.epoch (2 ^ 63) then Good else NoMoreEpochs)
