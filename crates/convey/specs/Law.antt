-- The exchange law: conveyors over one bank make steps of the exchange machine.
use Rattle.std.specs.Prelude.{◌≡◌, ◌≢◌, ℕ, ◌<◌, true, List, [], length, Some}
use Rattle.bale_items.specs.declared.item.Entry.{Entry}
use Rattle.route_tensor.specs.Grid.{ranks, IsGrid}
use Rattle.route_tensor.specs.Link.{links}
use Rattle.route_tensor.specs.Ends.{hop_at, sender_at, reader_at}
use Rattle.port_bank.specs.Logs.{Logs, starting_at, ending_at, starting_elsewhere, ending_elsewhere}
use Rattle.port_bank.specs.Link.{LinkLaw}
use Rattle.port_bank.specs.Machine.{Ranks, Step, NamesRank, IsOwnStep, IsStep, EpochsClose}
use Rattle.convey.specs.Buffers.{Buffers}
use Rattle.convey.specs.Agreement.{Agrees}
use Rattle.convey.specs.Parts.{part_of}

-- A link in of the last hop.
pub record IsLastIn (b : Buffers) (l : ℕ) : Type 0 where
  pub below : l < links b.dims
  pub reader : reader_at b.dims l ≡ b.rank
  pub hop : hop_at b.dims l ≡ length b.dims

-- What a rank's buffers keep by themselves.
-- closed_empty: nothing waits on a link that is closed.
-- closed_done: a link of hop 1 is closed only if the rank is done.
-- all_closed, all_ended, all_read: a rank is complete only if each link is closed or has ended,
-- and nothing is unread.
-- latest: a pull takes from a link of the last hop.
pub record IsSound (b : Buffers) : Type 0 where
  pub closed_empty : (l : ℕ) → l < links b.dims → sender_at b.dims l ≡ b.rank → b.closed l ≡ true → b.waiting l ≡ []
  pub closed_done : (l : ℕ) → l < links b.dims → sender_at b.dims l ≡ b.rank → hop_at b.dims l ≡ 1 → b.closed l ≡ true
      → b.done ≡ true
  pub all_closed : b.complete ≡ true → (l : ℕ) → l < links b.dims → sender_at b.dims l ≡ b.rank → b.closed l ≡ true
  pub all_ended : b.complete ≡ true → (l : ℕ) → l < links b.dims → reader_at b.dims l ≡ b.rank → b.ended l ≡ true
  pub all_read : b.complete ≡ true → (l : ℕ) → l < links b.dims → reader_at b.dims l ≡ b.rank → b.unread l ≡ []
  pub latest : (l : ℕ) (e : Entry) → b.latest ≡ Some (l, e) → IsLastIn b l

-- The conveyors of all ranks agree with the ports of one bank: of each rank's own links its port
-- has the bank's lists.
pub record AgreeTogether (dims : List ℕ) (cap slots : ℕ) (all : ℕ → Buffers) (sent got : Logs) : Type 0 where
  pub grid : IsGrid dims
  pub links_keep : (l : ℕ) → l < links dims → LinkLaw cap slots (sent l) (got l)
  pub same_dims : (r : ℕ) → r < ranks dims → (all r).dims ≡ dims
  pub same_rank : (r : ℕ) → r < ranks dims → (all r).rank ≡ r
  pub sound : (r : ℕ) → r < ranks dims → IsSound (all r)
  pub agree : (r : ℕ) → r < ranks dims → Agrees (all r) (starting_at dims r sent) (ending_at dims r got)

-- The state of the machine that they stand for.
abbrev pub state_of : List ℕ → (ℕ → Buffers) → Logs → Logs → Ranks
state_of dims all sent got = λ r. part_of (all r) (starting_at dims r sent) (ending_at dims r got)

-- A call on the conveyor of rank r over its port: the other conveyors stay, and so do the lists of
-- the others' links; the bank keeps its law, and the conveyor agrees with its port again.
pub record IsCall (dims : List ℕ) (cap slots r : ℕ) (old new : ℕ → Buffers) (sent sent' got got' : Logs) : Type 0 where
  pub rank : r < ranks dims
  pub others : (q : ℕ) → q < ranks dims → q ≢ r → new q ≡ old q
  pub sent_elsewhere : starting_elsewhere dims r sent' ≡ starting_elsewhere dims r sent
  pub got_elsewhere : ending_elsewhere dims r got' ≡ ending_elsewhere dims r got
  pub links_keep : (l : ℕ) → l < links dims → LinkLaw cap slots (sent' l) (got' l)
  pub same_dims : (new r).dims ≡ dims
  pub same_rank : (new r).rank ≡ r
  pub sound : IsSound (new r)
  pub agrees : Agrees (new r) (starting_at dims r sent') (ending_at dims r got')

-- The conveyors of all ranks go on agreeing, in whatever order calls are made on them.
abbrev pub StaysTogether : Type 0
StaysTogether = (dims : List ℕ) (cap slots r : ℕ) (old new : ℕ → Buffers) (sent sent' got got' : Logs)
    → AgreeTogether dims cap slots old sent got → IsCall dims cap slots r old new sent sent' got got'
    → AgreeTogether dims cap slots new sent' got'

-- The exchange law: if they agree, and a call is a step of its rank's own part, it is a step of
-- the machine.
abbrev pub ExchangeLaw : Type 0
ExchangeLaw = (dims : List ℕ) (cap slots r : ℕ) (step : Step) (old new : ℕ → Buffers) (sent sent' got got' : Logs)
    → AgreeTogether dims cap slots old sent got → IsCall dims cap slots r old new sent sent' got got'
    → NamesRank (ranks dims) step
    → IsOwnStep step (state_of dims old sent got r) (state_of dims new sent' got' r)
    → IsStep (ranks dims) r step (state_of dims old sent got) (state_of dims new sent' got')

-- The closes law: if they agree, the parts that they stand for close their epochs together.
abbrev pub ClosesLaw : Type 0
ClosesLaw = (dims : List ℕ) (cap slots : ℕ) (all : ℕ → Buffers) (sent got : Logs)
    → AgreeTogether dims cap slots all sent got → EpochsClose (ranks dims) (state_of dims all sent got)
