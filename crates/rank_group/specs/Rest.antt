-- The rest law of nodes: if a sweep over conveyors moved nothing, the lowest epoch is over.
use Rattle.std.specs.Prelude.{◌≡◌, ◌⊎◌, ℕ, ◌<◌, ◌≤◌, Bool, true, List}
use Rattle.route_tensor.specs.Grid.{ranks, IsGrid}
use Rattle.route_tensor.specs.Link.{links}
use Rattle.port_bank.specs.Logs.{Logs, starting_at, ending_at}
use Rattle.port_bank.specs.Link.{LinkLaw}
use Rattle.round_program.specs.Rules.{Rules}
use Rattle.rank_node.specs.Movers.{mover_dims, mover_rank, epoch_in, manner_in, has_completed, lying}
use Rattle.rank_node.specs.Movers.Manner.{ByConveyor}
use Rattle.rank_node.specs.Nodes.{NodeState, IsNode}
use Rattle.rank_node.specs.Moves.{Waits}
use Rattle.rank_group.specs.Ranks.{crowded_in, idle_in}

-- Node n of rank r moves its items over conveyors of a bank with these logs; h m is the state of
-- its program at the start of round m.
pub record IsConveyingNode {S : Type 0} (R : Rules S) (dims : List ℕ) (steady : Bool) (r : ℕ) (h : ℕ → S)
    (n : NodeState S) (sent got : Logs) : Type 0 where
  pub same_dims : mover_dims n.mover ≡ dims
  pub same_rank : mover_rank n.mover ≡ r
  pub manner : manner_in n.mover ≡ ByConveyor steady
  pub node : IsNode R h n (starting_at dims r sent) (ending_at dims r got)

-- A turn of rank r took its node from n to n', didn't run out of memory, and moved nothing: the
-- logs of the bank are as before.
-- epoch: it is in the same epoch. kept: no inbox lost an item.
-- waits: what the turn waits for, given that its port knows the state of the bank.
pub record MovesNothing {S : Type 0} (R : Rules S) (dims : List ℕ) (slots : ℕ) (steady : Bool) (r : ℕ)
    (h : ℕ → S) (n n' : NodeState S) (sent got : Logs) : Type 0 where
  pub conveyed : IsConveyingNode R dims steady r h n sent got
  pub epoch : epoch_in n'.mover ≡ epoch_in n.mover
  pub kept : (l : ℕ) → lying n.mover l ≤ lying n'.mover l
  pub waits : Waits R n.run n.mover n'.mover (starting_at dims r sent) (ending_at dims r got)
      (starting_at dims r sent) (ending_at dims r got) (crowded_in dims slots r sent got)
      (idle_in dims r sent got)

-- A sweep over the nodes of all ranks that posted or collected no parcel and took no item out of an
-- inbox. No rank is in an epoch before e.
-- turned: each rank in epoch e had completed it before, or was turned.
-- The ranks may be in different epochs.
pub record IsQuietSweep {S : Type 0} (R : Rules S) (dims : List ℕ) (cap slots e : ℕ) (steady : Bool)
    (h : ℕ → ℕ → S) (old new : ℕ → NodeState S) (sent got : Logs) : Type 0 where
  pub grid : IsGrid dims
  pub some : 0 < slots
  pub links_keep : (l : ℕ) → l < links dims → LinkLaw cap slots (sent l) (got l)
  pub conveys : (r : ℕ) → r < ranks dims → IsConveyingNode R dims steady r (h r) (new r) sent got
  pub least : (r : ℕ) → r < ranks dims → e ≤ epoch_in (new r).mover
  pub turned : (r : ℕ) → r < ranks dims → epoch_in (new r).mover ≡ e
      → (has_completed (new r).mover ≡ true)
      ⊎ MovesNothing R dims slots steady r (h r) (old r) (new r) sent got

-- After such a sweep each rank in the lowest epoch has completed it.
abbrev pub NodesRestLaw : {S : Type 0} → Rules S → Type 0
NodesRestLaw {S} R = (dims : List ℕ) (cap slots e : ℕ) (steady : Bool) (h : ℕ → ℕ → S)
    (old new : ℕ → NodeState S) (sent got : Logs)
    → IsQuietSweep R dims cap slots e steady h old new sent got
    → (r : ℕ) → r < ranks dims → epoch_in (new r).mover ≡ e → has_completed (new r).mover ≡ true
