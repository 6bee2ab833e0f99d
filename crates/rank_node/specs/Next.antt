-- What follows an epoch.
use Rattle.std.specs.Prelude.{◌≡◌, ◌≢◌, ℕ, ◌==◌, ◌+◌, ◌-◌, ◌^◌, ◌<◌, ◌≤◌, true, false, length, if◌then◌else◌}
use Rattle.port_bank.specs.Logs.{Logs}
use Rattle.round_program.specs.Rules.{Rules}
use Rattle.rank_node.specs.Movers.{MoverState, mover_dims, mover_rank, epoch_in, manner_in, has_completed, HasCap, IsStarting, SameUnread}
use Rattle.rank_node.specs.Sending.{is_voting, to_send}
use Rattle.rank_node.specs.Cycles.{IsInCycle}
use Rattle.rank_node.specs.Nodes.{NodeState, IsNode}

-- A history with another state at the start of round m.
-- extended h 3 s is s at 3, and h elsewhere.
abbrev pub with_next : {S : Type 0} → (ℕ → S) → ℕ → S → ℕ → S
with_next h m s = λ k. if k == m then s else h k

-- A node whose run is over: in its last epoch of votes it learned that no round follows, and it
-- ended the round.
-- worked: the state of the program before that.
pub record HasStopped {S : Type 0} (R : Rules S) (h : ℕ → S) (n : NodeState S) (sent got : Logs) : Type 0 where
  pub worked : S
  pub node : IsNode R h (record { run = record n.run { prog = worked }; mover = n.mover }) sent got
  pub complete : has_completed n.mover ≡ true
  pub voting : is_voting n.run.sends ≡ true
  pub unspoiled : n.run.spoiled ≡ false
  pub clean : n.run.sum ≢ 2 ^ 64 - 1
  pub stops : R.goes_on (R.shape worked) (R.round worked) n.run.sum ≡ false
  pub ended : n.run.prog ≡ R.ended worked n.run.sum

-- A node that may go on to the next epoch: its epoch is over, and its number is below 2^63.
pub record MayGoOn {S : Type 0} (R : Rules S) (n : NodeState S) : Type 0 where
  pub over : has_completed n.mover ≡ true
  pub epochs : epoch_in n.mover < 2 ^ 63
  pub history : ℕ → S
  pub sent : Logs
  pub got : Logs
  pub node : IsNode R history n sent got

-- What stays of a node's transport as its epoch ends, whether or not another follows.
pub record KeepsTransport (cap : ℕ) (m m' : MoverState) : Type 0 where
  pub dims : mover_dims m' ≡ mover_dims m
  pub rank : mover_rank m' ≡ mover_rank m
  pub manner : manner_in m' ≡ manner_in m
  pub same_cap : HasCap cap m'
  pub unread : SameUnread m m'

-- The next epoch of a node begins.
-- votes: after a round's work come its votes.
-- work: after the votes comes the next round, if the program goes on; its state is the one with
-- memory.
-- starts, cycle: an exstack begins the epoch in cycle 0, and keeps pace with what its rank has to
-- send in it.
pub record BeginsEpoch {S : Type 0} (R : Rules S) (n n' : NodeState S) : Type 0 where
  pub epoch : epoch_in n'.mover ≡ epoch_in n.mover + 1
  pub votes : is_voting n.run.sends ≡ false → (h : ℕ → S) (sent got : Logs) → IsNode R h n sent got
      → IsNode R h n' sent got
  pub work : is_voting n.run.sends ≡ true → (h : ℕ → S) (sent got : Logs) → IsNode R h n sent got
      → IsNode R (with_next h (n.run.round + 1) (R.ended n.run.prog n.run.sum)) n' sent got
  pub starts : IsStarting n'.mover
  pub cycle : (quota : ℕ → ℕ) (k : ℕ) (sent got : Logs) → IsInCycle R quota k n.run n.mover sent got
      → length (to_send R n'.run.prog n'.run.sends) ≤ quota (epoch_in n'.mover)
      → IsInCycle R quota 0 n'.run n'.mover sent got

-- No epoch follows for a node.
pub record EndsRun {S : Type 0} (R : Rules S) (n n' : NodeState S) : Type 0 where
  pub stays : n'.mover ≡ n.mover
  pub stopped : (h : ℕ → S) (sent got : Logs) → IsNode R h n sent got → HasStopped R h n' sent got
