-- The ranks of an exchange of queries and replies, over any two banks that keep the laws.
use Rattle.std.specs.Prelude.{◌≡◌, ℕ, ◌<◌, List}
use Rattle.bale_items.specs.declared.item.Item.{Item}
use Rattle.route_tensor.specs.Grid.{ranks, IsGrid}
use Rattle.route_tensor.specs.Link.{links}
use Rattle.list_laws.specs.Lists.{IsPrefix}
use Rattle.port_bank.specs.Logs.{starting_at, ending_at}
use Rattle.port_bank.specs.Link.{LinkLaw}
use Rattle.hop_core.specs.declared.phase.Phase.TheVariants.{Complete}
use Rattle.convey.specs.Buffers.{buffers_of}
use Rattle.convey.specs.Parts.{part_of}
use Rattle.round_program.specs.Talks.{Talk}
use Rattle.round_program.specs.Replies.{replies_of, heard_by, after_answers}
use Rattle.query_node.specs.States.{BiState, Sides, IsBiNode}

-- The logs of the links that start at rank r, or end there.
abbrev pub sides_at : List ℕ → ℕ → Sides → Sides
sides_at dims r s =
    record {
      asking = starting_at dims r s.asking;
      asked = ending_at dims r s.asked;
      replying = starting_at dims r s.replying;
      replied = ending_at dims r s.replied;
    }

-- Rank r agrees with its own logs; it began in the state `start`.
pub record HasBiRank {S : Type 0} (T : Talk S) (dims : List ℕ) (r : ℕ) (start : S) (n : BiState S)
    (s : Sides) : Type 0 where
  pub same_dims : n.queries.dims ≡ dims
  pub same_rank : n.queries.rank ≡ r
  pub node : IsBiNode T start n (starting_at dims r s.asking) (ending_at dims r s.asked) (starting_at dims r s.replying)
      (ending_at dims r s.replied)

-- All ranks over two banks whose links keep their laws; rank r began in the state `starts r`.
pub record AllBiRanks {S : Type 0} (T : Talk S) (dims : List ℕ) (cap slots : ℕ) (starts : ℕ → S) (ns : ℕ → BiState S)
    (s : Sides) : Type 0 where
  pub grid : IsGrid dims
  pub queries_keep : (l : ℕ) → l < links dims → LinkLaw cap slots (s.asking l) (s.asked l)
  pub replies_keep : (l : ℕ) → l < links dims → LinkLaw cap slots (s.replying l) (s.replied l)
  pub each : (r : ℕ) → r < ranks dims → HasBiRank T dims r (starts r) (ns r) s

-- What rank r pulled of rank d: the replies that it heard.
abbrev pub heard_of : {S : Type 0} → List ℕ → (ℕ → BiState S) → Sides → ℕ → ℕ → List Item
heard_of dims ns s r d =
    (part_of (buffers_of (ns r).replies) (starting_at dims r s.replying) (ending_at dims r s.replied)).pulled 0 d

-- Whenever no rank is within a turn, the replies that a rank heard of another are a prefix of that
-- rank's answers to its queries, and its state is the one after hearing them, matched by order
-- alone.
pub record HearsInOrder {S : Type 0} (T : Talk S) (dims : List ℕ) (starts : ℕ → S) (ns : ℕ → BiState S)
    (s : Sides) : Type 0 where
  pub begins : (r d : ℕ) → r < ranks dims → d < ranks dims → IsPrefix (heard_of dims ns s r d) (replies_of T starts d r)
  pub state : (r : ℕ) → r < ranks dims → (ns r).asker ≡ heard_by T (starts r) (heard_of dims ns s r)

abbrev pub OrderLaw : {S : Type 0} → Talk S → Type 0
OrderLaw {S} T = (dims : List ℕ) (cap slots : ℕ) (starts : ℕ → S) (ns : ℕ → BiState S) (s : Sides)
    → AllBiRanks T dims cap slots starts ns s → HearsInOrder T dims starts ns s

-- Once all ranks are complete, each has heard the answer to each of its queries.
pub record AllComplete {S : Type 0} (dims : List ℕ) (ns : ℕ → BiState S) : Type 0 where
  pub queries : (r : ℕ) → r < ranks dims → (ns r).queries.phase ≡ Complete
  pub replies : (r : ℕ) → r < ranks dims → (ns r).replies.phase ≡ Complete

abbrev pub EndLaw : {S : Type 0} → Talk S → Type 0
EndLaw {S} T = (dims : List ℕ) (cap slots : ℕ) (starts : ℕ → S) (ns : ℕ → BiState S) (s : Sides)
    → AllBiRanks T dims cap slots starts ns s → AllComplete dims ns
    → (r : ℕ) → r < ranks dims → (ns r).asker ≡ after_answers T starts r
