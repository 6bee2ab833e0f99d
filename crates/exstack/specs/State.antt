-- One rank's exstack, as contracts see it, and what follows from it.
use Rattle.std.specs.Prelude.{ℕ, zero, suc, ◌+◌, ◌*◌, Bool, true, false, if◌then◌else◌, min, map, replicate, List, []}
use Rattle.std.specs.Prelude.{◌∷◌, length, slice_get, slice_set, slice_index_or, Option, Some, None}
use Rattle.std.specs.List.{list_all, sum_by, position}
use Rattle.std.specs.Option.{option_map}
use Rattle.bale_items.specs.declared.item.Item.{Item}
use Rattle.exstack.specs.declared.stage.Stage.{Stage}
use Rattle.exstack.specs.declared.stage.Stage.TheVariants.{Start, Proceeding, Filling, Exchanging, Full, AllDone}
use Rattle.exstack.specs.declared.stage.Poll.{Poll}
use Rattle.exstack.specs.declared.stage.Poll.TheVariants as poll
use Rattle.exstack.specs.declared.stage.Proceed.{Proceed}
use Rattle.exstack.specs.declared.stage.Proceed.TheVariants as proceed
use Rattle.exstack.specs.Links.{StackOut, StackIn, no_stack_out, no_stack_in, with_waiting_entry, with_first_read, with_put_back, plain_entry, headroom_of}
use Rattle.exstack.specs.Links.{has_unread, begun_out, begun_in, stack_out_in_new_epoch, stack_in_in_new_epoch}

-- An exstack: how many ranks there are, whose it is, its stage, whether the rank said that it is
-- done in this epoch, the epoch, its links out and in by the rank at their other end, and the
-- sender of the item that the latest call popped, if it popped one.
pub record Stack : Type 0 where
  pub ranks : ℕ
  pub rank : ℕ
  pub stage : Stage
  pub done : Bool
  pub epoch : ℕ
  pub outs : List StackOut
  pub ins : List StackIn
  pub popped : Option ℕ

-- A new exstack.
abbrev pub new_stack : ℕ → ℕ → Stack
new_stack ranks rank =
    record {
      ranks = ranks;
      rank = rank;
      stage = Start;
      done = false;
      epoch = 0;
      outs = replicate ranks no_stack_out;
      ins = replicate ranks no_stack_in;
      popped = None;
    }

abbrev pub stack_out_at : Stack → ℕ → StackOut
stack_out_at st b = slice_index_or st.outs b no_stack_out

abbrev pub stack_in_at : Stack → ℕ → StackIn
stack_in_at st a = slice_index_or st.ins a no_stack_in

-- The grid: one hop between all ranks.
abbrev pub stack_dims : Stack → List ℕ
stack_dims st = st.ranks ∷ []

-- On one hop the link from rank a to rank b has the number a * P + b, for P ranks.
-- Among 4 ranks the link from 1 to 2 has the number 6.
abbrev pub number : ℕ → ℕ → ℕ → ℕ
number ranks a b = a * ranks + b

-- The numbers of the rank's link to b and of its link from a.
abbrev pub stack_link_to : Stack → ℕ → ℕ
stack_link_to st b = number st.ranks st.rank b

abbrev pub stack_link_from : Stack → ℕ → ℕ
stack_link_from st a = number st.ranks a st.rank

-- How many entries may still be pushed toward that rank for which it is least.
abbrev pub least_headroom : ℕ → List StackOut → ℕ
least_headroom cap [] = cap
least_headroom cap (o ∷ os) = min (headroom_of cap o) (least_headroom cap os)

-- How many items are unread.
abbrev pub stack_unread : Stack → ℕ
stack_unread st = sum_by (λ i. length i.unread) st.ins

-- The lowest sender of an unread item.
abbrev pub lowest_unread_sender : Stack → Option ℕ
lowest_unread_sender st = position has_unread st.ins

-- What a push leaves.
abbrev pub pushed_on : Stack → Item → ℕ → Stack
pushed_on st item to = record st { outs = slice_set st.outs to (with_waiting_entry (stack_out_at st to) (plain_entry item)); popped = None }

-- What a pop gives if the lowest sender of an unread item is this one, and what it leaves.
abbrev pub pop_from : Stack → Option ℕ → Option (ℕ × Item)
pop_from st None = None
pop_from st (Some a) = option_map (λ e. (a, e.item)) (slice_get (stack_in_at st a).unread 0)

abbrev pub popped_from : Stack → Option ℕ → Stack
popped_from st None = record st { popped = None }
popped_from st (Some a) = record st { ins = slice_set st.ins a (with_first_read (stack_in_at st a)); popped = Some a }

-- What n pops leave, one after the other.
-- Of the inboxes [], [x, y], [z] two leave [z], and three nothing.
abbrev pub pops : ℕ → Stack → Stack
pops zero st = st
pops (suc n) st = popped_from (pops n st) (lowest_unread_sender (pops n st))

-- What an unpop leaves.
abbrev pub after_unpop : Stack → Option ℕ → Stack
after_unpop st None = st
after_unpop st (Some a) =
    record st { ins = slice_set st.ins a (with_put_back (stack_in_at st a).back (stack_in_at st a)); popped = None }

-- What a reset leaves.
abbrev pub after_reset : Stack → Stack
after_reset st =
    record st {
      stage = Start;
      done = false;
      epoch = st.epoch + 1;
      outs = map stack_out_in_new_epoch st.outs;
      ins = map stack_in_in_new_epoch st.ins;
      popped = None;
    }

-- What holds at a stage of an epoch.
-- is_proceeding, is_exchanging: it lies within a proceed round, or within an exchange round.
-- may_proceed: a proceed round may begin or go on, which it may at the start of an epoch, after an
-- exchange round, and within the round. may_exchange: an exchange round may, after a proceed round
-- that goes on, and within the round.
-- may_read: items may be unread, from an exchange round on until the next proceed round.
-- is_over: every rank is done.
-- has_proceeded, has_exchanged: a proceed poll, or an exchange poll, may leave an exstack in it.
pub record StageRow : Type 0 where
  pub is_proceeding : Bool
  pub is_exchanging : Bool
  pub may_proceed : Bool
  pub may_exchange : Bool
  pub may_read : Bool
  pub is_over : Bool
  pub has_proceeded : Bool
  pub has_exchanged : Bool

abbrev stage_row : Bool → Bool → Bool → Bool → Bool → Bool → Bool → Bool → StageRow
stage_row a b c d e f g h =
    record {
      is_proceeding = a;
      is_exchanging = b;
      may_proceed = c;
      may_exchange = d;
      may_read = e;
      is_over = f;
      has_proceeded = g;
      has_exchanged = h;
    }

-- The columns are those of StageRow, in order.
abbrev pub row_of_stage : Stage → StageRow
row_of_stage Start = stage_row false false true false false false false false
row_of_stage Proceeding = stage_row true false true false false false true false
row_of_stage Filling = stage_row false false false true false false true false
row_of_stage Exchanging = stage_row false true false true true false false true
row_of_stage Full = stage_row false false true false true false false true
row_of_stage AllDone = stage_row false false false false false true true false

abbrev pub is_proceeding : Stage → Bool
is_proceeding stage = (row_of_stage stage).is_proceeding

abbrev pub is_exchanging : Stage → Bool
is_exchanging stage = (row_of_stage stage).is_exchanging

abbrev pub may_proceed : Stage → Bool
may_proceed stage = (row_of_stage stage).may_proceed

abbrev pub may_exchange : Stage → Bool
may_exchange stage = (row_of_stage stage).may_exchange

abbrev pub may_read : Stage → Bool
may_read stage = (row_of_stage stage).may_read

abbrev pub is_all_done : Stage → Bool
is_all_done stage = (row_of_stage stage).is_over

abbrev pub has_proceeded : Stage → Bool
has_proceeded stage = (row_of_stage stage).has_proceeded

abbrev pub has_exchanged : Stage → Bool
has_exchanged stage = (row_of_stage stage).has_exchanged

-- A proceed round, or an exchange round, has begun: if it hadn't, a parcel is due on each open
-- link.
abbrev pub in_proceed : Bool → Stack → Stack
in_proceed done st = if is_proceeding st.stage then record st { popped = None }
    else record st {
      stage = Proceeding;
      done = done;
      outs = map begun_out st.outs;
      ins = map begun_in st.ins;
      popped = None;
    }

abbrev pub in_exchange : Stack → Stack
in_exchange st = if is_exchanging st.stage then record st { popped = None }
    else record st { stage = Exchanging; outs = map begun_out st.outs; ins = map begun_in st.ins; popped = None }

-- The link that a round still waits for: the lowest link out on which a parcel is due, or else the
-- lowest such link in.
abbrev pub missing_in : ℕ → ℕ → Option ℕ → Option ℕ
missing_in ranks rank None = None
missing_in ranks rank (Some a) = Some (number ranks a rank)

abbrev pub missing_out : ℕ → ℕ → Option ℕ → List StackIn → Option ℕ
missing_out ranks rank None ins = missing_in ranks rank (position (λ i. i.due) ins)
missing_out ranks rank (Some b) ins = Some (number ranks rank b)

abbrev pub missing_link : Stack → Option ℕ
missing_link st = missing_out st.ranks st.rank (position (λ o. o.due) st.outs) st.ins

-- Whether every link in has ended.
abbrev pub all_ended : Stack → Bool
all_ended st = list_all (λ i. i.ended) st.ins

-- The answer of a proceed poll, by the link that the round still waits for and whether every link
-- in has ended; and the answer of an exchange poll.
abbrev pub proceed_answer : Option ℕ → Bool → Proceed
proceed_answer (Some link) ended = proceed.NotYet link
proceed_answer None ended = if ended then proceed.AllDone else proceed.GoOn

abbrev pub exchange_answer : Option ℕ → Poll
exchange_answer (Some link) = poll.NotYet link
exchange_answer None = poll.Ready

-- The stage after an answer.
abbrev pub stage_of_proceed : Proceed → Stage
stage_of_proceed proceed.GoOn = Filling
stage_of_proceed proceed.AllDone = AllDone
stage_of_proceed (proceed.NotYet link) = Proceeding

abbrev pub stage_of_exchange : Poll → Stage
stage_of_exchange poll.Ready = Full
stage_of_exchange (poll.NotYet link) = Exchanging
