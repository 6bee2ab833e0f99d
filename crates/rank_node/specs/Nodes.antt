-- A node: a program and its rank's transport, over many epochs.
use Rattle.std.specs.Prelude.{◌≡◌, ℕ, ◌<◌, ◌≤◌, ⊤, false, List, [], length}
use Rattle.route_tensor.specs.Grid.{ranks}
use Rattle.port_bank.specs.Logs.{Logs}
use Rattle.exstack.specs.declared.stage.Stage.TheVariants.{Proceeding}
use Rattle.round_program.specs.Rules.{Rules}
use Rattle.rank_node.specs.Movers.{MoverState, Manner, mover_dims, mover_rank, part_in, IsMoving, HasCap, IsNew}
use Rattle.rank_node.specs.Movers.MoverState.{Conveying, Stacking}
use Rattle.rank_node.specs.Sending.{is_voting, to_send}
use Rattle.rank_node.specs.Runs.{Running, HasPassed, IsWithinEpoch}
use Rattle.rank_node.specs.Cycles.{IsInCycle}

-- What contracts see of a node: how far its run has come, and its transport.
pub record NodeState (S : Type 0) : Type 0 where
  pub run : Running S
  pub mover : MoverState

-- In a proceed round that a rank began before it was done, some item remains to be pushed, as when
-- the round began.
abbrev pub IsPaced : {S : Type 0} → Rules S → Running S → MoverState → Type 0
IsPaced R run (Conveying c) = ⊤
IsPaced R run (Stacking cap x) = x.stage ≡ Proceeding → x.done ≡ false
    → run.next < length (to_send R run.prog run.sends)

-- A node between two turns, over a port with these logs; h m is the state of its program at the
-- start of round m, or the state that it would have had if memory hadn't run out.
pub record IsNode {S : Type 0} (R : Rules S) (h : ℕ → S) (n : NodeState S) (sent got : Logs) : Type 0 where
  pub moving : IsMoving n.mover sent got
  pub paced : IsPaced R n.run n.mover
  pub passed : HasPassed R (ranks (mover_dims n.mover)) (mover_rank n.mover) h n.run.round (is_voting n.run.sends)
      (part_in n.mover sent got)
  pub within : IsWithinEpoch R (ranks (mover_dims n.mover)) h n.run (part_in n.mover sent got)

-- A node that hasn't turned, of a program in the state `start`: nothing was sent or collected on
-- its port, and no item is pushed.
-- mover: its transport is unused, and is of the program's rank.
-- cycle: over an exstack it is in cycle 0.
pub record IsNewNode {S : Type 0} (R : Rules S) (cap : ℕ) (dims : List ℕ) (manner : Manner) (start : S)
    (n : NodeState S) : Type 0 where
  pub node : IsNode R (λ m. start) n (λ l. []) (λ l. [])
  pub prog : n.run.prog ≡ start
  pub next : n.run.next ≡ 0
  pub mover : IsNew dims (R.rank start) manner n.mover
  pub same_cap : HasCap cap n.mover
  pub cycle : (quota : ℕ → ℕ) → length (R.emissions start) ≤ quota 0
      → IsInCycle R quota 0 n.run n.mover (λ l. []) (λ l. [])
