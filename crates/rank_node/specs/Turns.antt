-- What a turn of a rank over its port makes.
use Rattle.std.specs.Prelude.{◌≡◌, ℕ}
use Rattle.port_bank.specs.Port.{PortView, is_crowded, is_idle}
use Rattle.port_bank.specs.Frames.{SamePort}
use Rattle.exstack.specs.State.{Stack}
use Rattle.round_program.specs.Rules.{Rules}
use Rattle.rank_node.specs.Movers.MoverState.{Stacking}
use Rattle.rank_node.specs.Runs.{Running}
use Rattle.rank_node.specs.Nodes.{NodeState}
use Rattle.rank_node.specs.Moves.{AfterMoves, Leaves, DueIsCrowded, Waits}
use Rattle.rank_node.specs.Cycles.{IsInCycle, cycle_of_turn, IsOnward, TurnsOnward, AwaitsSome}

-- Whatever it answers.
-- moves: it is a node again, of the same rank and round, that advanced or polled once: the lists
-- only grow, each by one parcel at most, and of the transport's shape, so that over conveyors that
-- aren't steady items travel in few parcels (port_bank's few_parcels_law).
-- leaves: what it leaves in the inboxes, and unpushed.
-- cycle, onward: an exstack's cycles keep pace with what its rank has to send, and its stages go
-- on.
pub record Turns (cap : ℕ) {S : Type 0} (R : Rules S)
    (old new : NodeState S) (port port' : PortView) : Type 0 where
  pub moves : AfterMoves R cap old new port.sent port.got port'.sent port'.got
  pub leaves : Leaves R cap old.run new.run old.mover new.mover port.got port'.got
  pub cycle : (quota : ℕ → ℕ) (n : ℕ) → IsInCycle R quota n old.run old.mover port.sent port.got
      → IsInCycle R quota (cycle_of_turn n old.mover) new.run new.mover port'.sent port'.got
  pub onward : TurnsOnward old.mover new.mover
  pub same_port : SamePort port port'

-- What a turn with memory further leaves.
-- awaits: within a round an exstack waits for a parcel.
-- due, waits: what outside keeps a link out that is due, a rank that moved no parcel, and one that
-- waits within a round.
pub record TurnsInFull {S : Type 0} (R : Rules S)
    (old new : NodeState S) (port port' : PortView) : Type 0 where
  pub awaits : AwaitsSome new.mover
  pub due : DueIsCrowded new.mover (is_crowded port')
  pub waits : Waits R old.run old.mover new.mover port.sent port.got port'.sent port'.got
      (is_crowded port') (is_idle port')

-- What one poll of an exstack makes of it: nothing more is pushed, and what is to be sent stays.
pub record Polls (cap : ℕ) {S : Type 0} (R : Rules S)
    (run run' : Running S) (x x' : Stack) (port port' : PortView) : Type 0 where
  pub moves : AfterMoves R cap (record { run = run; mover = Stacking cap x })
      (record { run = run'; mover = Stacking cap x' }) port.sent port.got port'.sent port'.got
  pub onward : IsOnward x.stage x'.stage
  pub next : run'.next ≡ run.next
  pub emissions : R.emissions run'.prog ≡ R.emissions run.prog
  pub sends : run'.sends ≡ run.sends
  pub same_port : SamePort port port'
