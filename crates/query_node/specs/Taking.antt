-- What the parts of a turn do.
use Rattle.std.specs.Prelude.{◌≡◌, ◌≢◌, ℕ, ◌<◌, ◌≤◌, ◌^◌, false, List, length, drop, slice_get, Some}
use Rattle.std.specs.List.{All}
use Rattle.bale_items.specs.declared.item.Item.{Item}
use Rattle.route_tensor.specs.Grid.{ranks}
use Rattle.port_bank.specs.Logs.{Logs}
use Rattle.port_bank.specs.Machine.{Part, ItemLists, with_item}
use Rattle.port_bank.specs.Machine.Step.{Push, Idle}
use Rattle.hop_core.specs.declared.phase.Phase.TheVariants.{Dormant, Working}
use Rattle.hop_core.specs.declared.phase.Pushed.{Pushed}
use Rattle.hop_core.specs.declared.phase.Pushed.TheVariants.{Accepted, Full}
use Rattle.hop_core.specs.State.{State, lowest_unread, pull_from}
use Rattle.convey.specs.Buffers.{buffers_of}
use Rattle.convey.specs.Conveyors.{AgreesWith, KeepsAgreement, IsStepOf, open_count_toward}
use Rattle.convey.specs.Parts.{part_of}
use Rattle.round_program.specs.Talks.{Talk, SameTalk}
use Rattle.round_program.specs.Replies.{carrying, answers, heard_by, places_to}
use Rattle.rank_node.specs.Pulls.{PushedOn, InboxesShrink}

-- Pushes of the items from number `from` on, until one is refused or all are pushed.
-- refused: the open parcel toward the receiver of the first remaining item is full.
pub record PushesQueries (items : List (ℕ × Item)) (cap from next : ℕ) (c c' : State) : Type 0 where
  pub forward : from ≤ next
  pub low : next ≤ length items
  pub same : c' ≡ record c { outs = c'.outs; pulled = c'.pulled }
  pub kept : KeepsAgreement c c'
  pub on : (sent got : Logs) → AgreesWith c sent got
      → PushedOn items (ranks c.dims) from next (part_of (buffers_of c) sent got) (part_of (buffers_of c') sent got)
  pub refused : (to : ℕ) (x : Item) → slice_get items next ≡ Some (to, x)
      → (to < ranks c'.dims) × (open_count_toward c' to ≡ cap)

-- Queries may be pulled of q, and their answers pushed on r: q has begun, and r is working and
-- isn't done.
pub record MayAnswer (q r : State) : Type 0 where
  pub begun : q.phase ≢ Dormant
  pub same_dims : r.dims ≡ q.dims
  pub working : r.phase ≡ Working
  pub not_done : r.done ≡ false

-- To each of p ranks was pushed the answer to each query that was pulled of it, and nothing else.
abbrev pub IsAnswered : {S : Type 0} → Talk S → S → ℕ → Part → Part → Type 0
IsAnswered T s p asked replied = (f : ℕ) → f < p
    → replied.pushed replied.epoch f ≡ answers T s f (asked.pulled asked.epoch f)

-- Pulls of queries and pushes of their answers, equally many.
pub record AnswersOn {S : Type 0} (T : Talk S) (s : S) (p : ℕ) (asked asked' replied replied' : Part) : Type 0 where
  pub asked_epoch : asked'.epoch ≡ asked.epoch
  pub asked_pushed : asked'.pushed ≡ asked.pushed
  pub replied_epoch : replied'.epoch ≡ replied.epoch
  pub replied_pulled : replied'.pulled ≡ replied.pulled
  pub answered : IsAnswered T s p asked replied → IsAnswered T s p asked' replied'

-- The same of the conveyor of queries, which goes from q to q', and the conveyor of replies, from r
-- to r'.
pub record AnswersQueries {S : Type 0} (T : Talk S) (s : S) (q q' r r' : State) : Type 0 where
  pub same : q' ≡ record q { ins = q'.ins; pulled = q'.pulled }
  pub same_replies : r' ≡ record r { outs = r'.outs; pulled = r'.pulled }
  pub fewer : InboxesShrink q q'
  pub kept : KeepsAgreement q q'
  pub kept_replies : KeepsAgreement r r'
  pub on : (asking asked replying replied : Logs) → AgreesWith q asking asked → AgreesWith r replying replied
      → AnswersOn T s (ranks q.dims) (part_of (buffers_of q) asking asked) (part_of (buffers_of q') asking asked)
      (part_of (buffers_of r) replying replied) (part_of (buffers_of r') replying replied)

-- The answer to the next query of q was refused: in r, the conveyor of replies, the open parcel
-- toward the rank that asked, `to`, is full.
pub record RefusesAnswer (cap to : ℕ) (q r : State) : Type 0 where
  pub query : Item
  pub next : pull_from q (lowest_unread q) ≡ Some (to, query)
  pub low : to < ranks r.dims
  pub full : open_count_toward r to ≡ cap

-- What a rank that began in the state `start` has heard of p ranks: `came e d` are the replies of
-- rank d in epoch e; the only epoch is 0.
-- lines: for each rank the numbers of the queries to it that have no reply yet.
-- small: a reply is a number of 64 bits.
pub record HasHeard {S : Type 0} (T : Talk S) (start : S) (p : ℕ) (asker : S) (lines : List (List ℕ))
    (came : ItemLists) : Type 0 where
  pub valid : T.valid start
  pub same : SameTalk T start asker
  pub state : asker ≡ heard_by T start (came 0)
  pub all : length lines ≡ p
  pub waits : (d : ℕ) → d < p → slice_get lines d ≡ Some (drop (length (came 0 d)) (places_to d 0 (T.queries start)))
  pub small : (d : ℕ) → All (λ x. x.a < 2 ^ 64) (came 0 d)

-- Replies may be pulled of r and heard: it is in its first epoch, and what came so far was heard.
pub record MayHear {S : Type 0} (T : Talk S) (asker : S) (lines : List (List ℕ)) (r : State) : Type 0 where
  pub begun : r.phase ≢ Dormant
  pub first : r.epoch ≡ 0
  pub heard : (start : S) × (sent : Logs) × (got : Logs) × AgreesWith r sent got
      × HasHeard T start (ranks r.dims) asker lines (part_of (buffers_of r) sent got).pulled

-- Pulls of replies, each of which is heard.
pub record Hears {S : Type 0} (T : Talk S) (asker asker' : S) (lines lines' : List (List ℕ))
    (r r' : State) : Type 0 where
  pub same : r' ≡ record r { ins = r'.ins; pulled = r'.pulled }
  pub fewer : InboxesShrink r r'
  pub kept : KeepsAgreement r r'
  pub talk : T.queries asker' ≡ T.queries asker
  pub on : (start : S) (replying replied : Logs) → AgreesWith r replying replied
      → HasHeard T start (ranks r.dims) asker lines (part_of (buffers_of r) replying replied).pulled
      → HasHeard T start (ranks r.dims) asker' lines' (part_of (buffers_of r') replying replied).pulled

-- A push of the answer to one query of the rank `from`.
pub record PushesAnswer {S : Type 0} (T : Talk S) (s : S) (cap from : ℕ) (query : Item) (result : Pushed)
    (r r' : State) : Type 0 where
  pub same : r' ≡ record r { outs = r'.outs; pulled = r'.pulled }
  pub kept : KeepsAgreement r r'
  pub accepted : result ≡ Accepted → IsStepOf (Push from (carrying (T.answer s from query.a))) r r'
  pub refused : result ≡ Full → IsStepOf Idle r r' × (open_count_toward r' from ≡ cap)

-- One more reply of the rank `from` is heard.
pub record HearsOne {S : Type 0} (T : Talk S) (from reply : ℕ) (asker asker' : S)
    (lines lines' : List (List ℕ)) : Type 0 where
  pub talk : T.queries asker' ≡ T.queries asker
  pub on : (start : S) (came : ItemLists) (x : Item) → x.a ≡ reply → HasHeard T start (length lines) asker lines came
      → HasHeard T start (length lines) asker' lines' (with_item came 0 from x)
