-- A rank within a turn: what holds after each post and each collect of the turn.
use Rattle.std.specs.Prelude.{◌≡◌, ◌⊎◌, ℕ, ◌<◌, List}
use Rattle.route_tensor.specs.Grid.{ranks}
use Rattle.list_laws.specs.Lists.{IsPrefix}
use Rattle.port_bank.specs.Port.{PortView}
use Rattle.round_program.specs.Talks.{Talk}
use Rattle.round_program.specs.Replies.{replies_of}
use Rattle.query_node.specs.Banks.{IsLawfulBank, got_from}
use Rattle.query_node.specs.States.{BiState, Sides, IsBiNode}
use Rattle.query_node.specs.Ranks.{sides_at}

-- The logs of a port of queries and of a port of replies.
abbrev pub sides_of_ports : PortView → PortView → Sides
sides_of_ports queries replies =
    record {
      asking = queries.sent;
      asked = queries.got;
      replying = replies.sent;
      replied = replies.got;
    }

-- Each log is a prefix of the later one.
pub record OnlyGrow (old new : Sides) : Type 0 where
  pub asking : (l : ℕ) → IsPrefix (old.asking l) (new.asking l)
  pub asked : (l : ℕ) → IsPrefix (old.asked l) (new.asked l)
  pub replying : (l : ℕ) → IsPrefix (old.replying l) (new.replying l)
  pub replied : (l : ℕ) → IsPrefix (old.replied l) (new.replied l)

-- A rank's own logs at a moment of a turn that takes them from `old` to `new`: some of its posts
-- and collects have been made.
-- order: no reply is posted in the turn until all of its queries are collected.
-- A turn that collects the query parcel p and then posts the reply parcel a has the moments [], [];
-- [p], []; and [p], [a]. It has no moment [], [a].
pub record IsMoment (old new now : Sides) : Type 0 where
  pub since : OnlyGrow old now
  pub until : OnlyGrow now new
  pub order : ((l : ℕ) → now.replying l ≡ old.replying l) ⊎ ((l : ℕ) → now.asked l ≡ new.asked l)

-- Rank r of a grid is between two turns, by its own logs.
pub record IsBetweenTurns {S : Type 0} (T : Talk S) (dims : List ℕ) (r : ℕ) (start : S) (n : BiState S)
    (own : Sides) : Type 0 where
  pub same_dims : n.queries.dims ≡ dims
  pub same_rank : n.queries.rank ≡ r
  pub node : IsBiNode T start n own.asking own.asked own.replying own.replied

-- Rank r at some step of an exchange: at a moment of a turn that took it from `before` to `after`.
-- Between two turns it is at a moment of a turn that moves nothing.
pub record IsUnderway {S : Type 0} (T : Talk S) (dims : List ℕ) (r : ℕ) (start : S)
    (now : Sides) : Type 0 where
  pub before : BiState S
  pub old : Sides
  pub stood : IsBetweenTurns T dims r start before old
  pub after : BiState S
  pub new : Sides
  pub stands : IsBetweenTurns T dims r start after new
  pub moment : IsMoment old new now

-- The replies theorem at every step, over two banks that keep the laws, with each rank at some
-- moment of its own turn: the replies that a rank got of another, and so those that it heard, are a
-- prefix of that rank's answers to its queries.
abbrev pub StepLaw : {S : Type 0} → Talk S → Type 0
StepLaw {S} T = (dims : List ℕ) (starts : ℕ → S) (s : Sides) → IsLawfulBank dims s.asking s.asked
    → IsLawfulBank dims s.replying s.replied
    → ((r : ℕ) → r < ranks dims → IsUnderway T dims r (starts r) (sides_at dims r s))
    → (r d : ℕ) → r < ranks dims → d < ranks dims
    → IsPrefix (got_from dims s.replied r d) (replies_of T starts d r)
