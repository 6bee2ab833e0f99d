-- A rank that asks and answers, between two turns.
use Rattle.std.specs.Prelude.{Bool, ◌≡◌, ◌≢◌, ◌⊎◌, ℕ, ◌+◌, ◌<◌, ◌≤◌, true, false, List, [], ◌++◌, length}
use Rattle.std.specs.List.{flat_map}
use Rattle.item_buffer.specs.Contents.{Shipped}
use Rattle.route_tensor.specs.Grid.{ranks}
use Rattle.route_tensor.specs.Link.{links}
use Rattle.route_tensor.specs.Ends.{reader_at}
use Rattle.port_bank.specs.Port.{PortView}
use Rattle.port_bank.specs.Frames.{SamePort}
use Rattle.port_bank.specs.Logs.{Logs}
use Rattle.hop_core.specs.declared.phase.Phase.TheVariants.{Dormant, Working, Complete}
use Rattle.hop_core.specs.State.{State}
use Rattle.convey.specs.Advance.{ListsGrow}
use Rattle.convey.specs.Buffers.{buffers_of, in_of}
use Rattle.convey.specs.Conveyors.{HoldsAtMost, AgreesWith}
use Rattle.convey.specs.Law.{IsSound}
use Rattle.convey.specs.Parts.{part_of}
use Rattle.round_program.specs.Talks.{Talk}
use Rattle.round_program.specs.Replies.{asks_of}
use Rattle.rank_node.specs.Runs.{IsPushed}
use Rattle.rank_node.specs.Movers.{AllRead}
use Rattle.query_node.specs.Taking.{IsAnswered, PushesQueries, AnswersQueries, RefusesAnswer, HasHeard}

-- What contracts see of a BiNode: its asker, how many queries are pushed, for each rank the numbers
-- of the queries to it that have no reply yet, and the conveyors of queries and of replies.
pub record BiState (S : Type 0) : Type 0 where
  pub asker : S
  pub next : ℕ
  pub lines : List (List ℕ)
  pub queries : State
  pub replies : State

-- The logs of two banks: what was sent and got of queries, and of replies.
pub record Sides : Type 0 where
  pub asking : Logs
  pub asked : Logs
  pub replying : Logs
  pub replied : Logs

-- A conveyor in its first epoch, over a port with these logs.
pub record IsRunning (c : State) (sent got : Logs) : Type 0 where
  pub first : c.epoch ≡ 0
  pub begun : c.phase ≢ Dormant
  pub working : c.done ≡ false → c.phase ≡ Working
  pub sound : IsSound (buffers_of c)
  pub agrees : AgreesWith c sent got

-- A conveyor that has begun its first epoch: nothing was pushed or pulled.
pub record IsFirst (dims : List ℕ) (rank : ℕ) (steady : Bool) (c : State) : Type 0 where
  pub same_dims : c.dims ≡ dims
  pub same_rank : c.rank ≡ rank
  pub same_steady : c.steady ≡ steady
  pub working : c.phase ≡ Working
  pub not_done : c.done ≡ false
  pub runs : IsRunning c (λ l. []) (λ l. [])
  pub unread : (l : ℕ) → (in_of c l).parcel.untaken ≡ []
  pub none_pushed : (e d : ℕ) → (part_of (buffers_of c) (λ l. []) (λ l. [])).pushed e d ≡ []
  pub none_pulled : (e d : ℕ) → (part_of (buffers_of c) (λ l. []) (λ l. [])).pulled e d ≡ []

-- A BiNode between two turns, of a rank that began in the state `start`, over a port of queries (it
-- sent `asking` and got `asked`) and one of replies (`replying`, `replied`).
-- next_low, all_pushed, pushed: it has pushed a prefix of its queries; all of them if it is done
-- asking.
-- answered: it pushed its answers, in order, to the queries that it pulled, and nothing else.
-- over: it is done replying only if the queries of all ranks are over.
-- heard: it heard what came, matched by order alone. read: nothing that came is unheard.
pub record IsBiNode {S : Type 0} (T : Talk S) (start : S) (n : BiState S)
    (asking asked replying replied : Logs) : Type 0 where
  pub asks : IsRunning n.queries asking asked
  pub replies : IsRunning n.replies replying replied
  pub same_dims : n.replies.dims ≡ n.queries.dims
  pub same_rank : n.replies.rank ≡ n.queries.rank
  pub own_rank : T.rank start ≡ n.queries.rank
  pub all_ranks : T.ranks start ≡ ranks n.queries.dims
  pub next_low : n.next ≤ length (asks_of T start)
  pub all_pushed : n.queries.done ≡ true → n.next ≡ length (asks_of T start)
  pub pushed : IsPushed (asks_of T start) (ranks n.queries.dims) n.next (part_of (buffers_of n.queries) asking asked)
  pub answered : IsAnswered T start (ranks n.queries.dims) (part_of (buffers_of n.queries) asking asked)
      (part_of (buffers_of n.replies) replying replied)
  pub over : n.replies.done ≡ true → n.queries.phase ≡ Complete
  pub heard : HasHeard T start (ranks n.replies.dims) n.asker n.lines
      (part_of (buffers_of n.replies) replying replied).pulled
  pub read : AllRead n.replies

-- A BiNode that hasn't turned, of an asker in the state `start`: nothing was sent or collected on
-- its ports.
pub record IsNewBiNode {S : Type 0} (T : Talk S) (dims : List ℕ) (steady : Bool) (start : S)
    (n : BiState S) : Type 0 where
  pub node : IsBiNode T start n (λ l. []) (λ l. []) (λ l. []) (λ l. [])
  pub asker : n.asker ≡ start
  pub queries : IsFirst dims (T.rank start) steady n.queries
  pub replies : IsFirst dims (T.rank start) steady n.replies

-- A port has a conveyor's grid and rank.
pub record IsPortOf (c : State) (port : PortView) : Type 0 where
  pub same_dims : port.dims ≡ c.dims
  pub same_rank : port.rank ≡ c.rank

-- What a turn does in one direction, for queries or for replies: it advances once.
-- grows: its logs only grow, each by one parcel at most, with parcels of the conveyor's shape.
-- lie: an inbox holds at most what it held and what came in.
pub record AdvancesOnce (cap : ℕ) (c c' : State)
    (port port' : PortView) : Type 0 where
  pub steady : c'.steady ≡ c.steady
  pub same_port : SamePort port port'
  pub grows : ListsGrow cap c port port'
  pub lie : (l : ℕ) (more : List Shipped) → l < links c.dims → reader_at c.dims l ≡ c.rank
      → port'.got l ≡ port.got l ++ more
      → length (in_of c' l).parcel.untaken ≤ length (in_of c l).parcel.untaken + length (flat_map (λ p. p.entries) more)

-- The queries of a turn that takes a rank from n to n': it pushes those from number n.next on, up
-- to number n'.next.
-- at_push: the conveyor of queries after these pushes, before it advances; no parcel is over its
-- capacity.
-- pushes: if a query remains, the open parcel toward its receiver is full.
pub record HasAsked {S : Type 0} (T : Talk S) (cap : ℕ) (n n' : BiState S) : Type 0 where
  pub at_push : State
  pub fits : HoldsAtMost cap at_push
  pub pushes : PushesQueries (asks_of T n.asker) cap n.next n'.next n.queries at_push

-- The answers of a turn, over a port of queries whose logs grow from asking and asked to asking'
-- and asked'.
-- at_pull: the conveyor of queries after it advanced, before any query is pulled.
-- agrees, epoch, pulled: it agrees with the port, and no query was pulled since the turn began.
-- at_push: the conveyor of replies after the answers are pushed, before it advances; no parcel is
-- over its capacity.
-- answers: queries are pulled and their answers pushed, equally many.
-- all: no query that came remains unread, or the answer to the next one was refused.
pub record HasAnswered {S : Type 0} (T : Talk S) (cap : ℕ) (n n' : BiState S)
    (asking asked asking' asked' : Logs) : Type 0 where
  pub at_pull : State
  pub agrees : AgreesWith at_pull asking' asked'
  pub epoch : at_pull.epoch ≡ n.queries.epoch
  pub pulled : (part_of (buffers_of at_pull) asking' asked').pulled
      ≡ (part_of (buffers_of n.queries) asking asked).pulled
  pub at_push : State
  pub fits : HoldsAtMost cap at_push
  pub answers : AnswersQueries T n.asker at_pull n'.queries n.replies at_push
  pub all : AllRead n'.queries ⊎ ((to : ℕ) × RefusesAnswer cap to n'.queries at_push)
