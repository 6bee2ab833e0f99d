-- What a turn does to a node, over either transport.
use Rattle.std.specs.Prelude.{◌≡◌, ℕ, ⊤, ◌+◌, ◌<◌, ◌≤◌, ◌==◌, Bool, true, false, List, ◌++◌, length}
use Rattle.std.specs.List.{flat_map}
use Rattle.item_buffer.specs.Contents.{Shipped}
use Rattle.list_laws.specs.Lists.{IsPrefix}
use Rattle.route_tensor.specs.Link.{links}
use Rattle.route_tensor.specs.Ends.{sender_at, reader_at}
use Rattle.port_bank.specs.Port.{PortView, is_crowded, is_idle}
use Rattle.port_bank.specs.Logs.{Logs}
use Rattle.hop_core.specs.Link.{is_due}
use Rattle.hop_core.specs.State.{State}
use Rattle.convey.specs.Buffers.{in_of, out_of}
use Rattle.convey.specs.Conveyors.{HoldsAtMost}
use Rattle.exstack.specs.declared.stage.Stage.TheVariants.{Filling}
use Rattle.exstack.specs.State.{Stack}
use Rattle.exstack.specs.State.{stack_out_at, stack_in_at, stack_link_to, stack_link_from}
use Rattle.round_program.specs.Rules.{Rules}
use Rattle.rank_node.specs.Sending.{to_send}
use Rattle.rank_node.specs.Movers.{MoverState, IsLogShape, mover_dims, mover_rank, epoch_in, manner_in}
use Rattle.rank_node.specs.Movers.MoverState.{Conveying, Stacking}
use Rattle.rank_node.specs.Runs.{Running}
use Rattle.rank_node.specs.Nodes.{NodeState, IsNode}
use Rattle.rank_node.specs.Pulls.{PushesItems, FillsItems}
use Rattle.rank_node.specs.Stuck.{IsStuck}

-- A node that may turn over its own port, in a run whose programs began in these states.
pub record MayTurn {S : Type 0} (R : Rules S) (n : NodeState S)
    (port : PortView) : Type 0 where
  pub same_dims : port.dims ≡ mover_dims n.mover
  pub same_rank : port.rank ≡ mover_rank n.mover
  pub first : ℕ → S
  pub node : IsNode R first n port.sent port.got

-- kept: it is a node again.
-- sent_grows .. one_got: the logs only grow, each by one parcel at most.
-- shape: what was posted is filled as this transport fills parcels.
pub record AfterMoves {S : Type 0} (R : Rules S) (cap : ℕ) (n n' : NodeState S)
    (sent got sent' got' : Logs) : Type 0 where
  pub kept : (h : ℕ → S) → IsNode R h n sent got → IsNode R h n' sent' got'
  pub dims : mover_dims n'.mover ≡ mover_dims n.mover
  pub rank : mover_rank n'.mover ≡ mover_rank n.mover
  pub manner : manner_in n'.mover ≡ manner_in n.mover
  pub epoch : epoch_in n'.mover ≡ epoch_in n.mover
  pub round : n'.run.round ≡ n.run.round
  pub sends : n'.run.sends ≡ n.run.sends
  pub sent_grows : (l : ℕ) → IsPrefix (sent l) (sent' l)
  pub got_grows : (l : ℕ) → IsPrefix (got l) (got' l)
  pub one_sent : (l : ℕ) → l < links (mover_dims n.mover) → sender_at (mover_dims n.mover) l ≡ mover_rank n.mover
      → length (sent' l) ≤ length (sent l) + 1
  pub one_got : (l : ℕ) → l < links (mover_dims n.mover) → reader_at (mover_dims n.mover) l ≡ mover_rank n.mover
      → length (got' l) ≤ length (got l) + 1
  pub shape : (l : ℕ) → l < links (mover_dims n.mover) → sender_at (mover_dims n.mover) l ≡ mover_rank n.mover
      → IsLogShape (manner_in n.mover) cap (sent l) → IsLogShape (manner_in n.mover) cap (sent' l)

-- What a turn over a conveyor further does.
-- lies: an inbox holds at most what it held and what came in.
-- at_push: the conveyor after the turn's pushes, before it advanced; no parcel is over its
-- capacity.
-- pushed: what the pushes did. They go on until the open parcel toward the next item's receiver is
-- full, or no item remains.
-- done: the rank is done if and only if all its items are pushed.
pub record LeavesAfterAdvance {S : Type 0} (R : Rules S) (cap : ℕ) (run run' : Running S) (c c' : State)
    (got got' : Logs) : Type 0 where
  pub lies : (l : ℕ) (more : List Shipped) → l < links c.dims → reader_at c.dims l ≡ c.rank → got' l ≡ got l ++ more
      → length (in_of c' l).parcel.untaken ≤ length (in_of c l).parcel.untaken + length (flat_map (λ p. p.entries) more)
  pub at_push : State
  pub fits : HoldsAtMost cap at_push
  pub pushed : PushesItems cap (to_send R run'.prog run'.sends) c at_push run.next run'.next
  pub done : c'.done ≡ (run'.next == length (to_send R run'.prog run'.sends))

-- What a turn over an exstack further does.
-- pushed: while the buffers are being filled, what its pushes did before it polled. They go on
-- until the buffer toward the next item's receiver is full, or no item remains.
-- unpushed: in other stages nothing is pushed.
pub record LeavesAfterPoll {S : Type 0} (R : Rules S) (cap : ℕ) (run run' : Running S) (x : Stack) : Type 0 where
  pub pushed : x.stage ≡ Filling
      → (at_push : Stack) × FillsItems cap (to_send R run'.prog run'.sends) x at_push run.next run'.next
  pub unpushed : (x.stage ≡ Filling → ⊥) → run'.next ≡ run.next

-- If a parcel of its round remains to be posted, the link is crowded, unless this turn collected a
-- parcel from it; if one remains to be collected, the link is idle.
pub record WaitsFor (x x' : Stack) (got got' : Logs) (is_crowded is_idle : ℕ → Bool) : Type 0 where
  pub posts : (b : ℕ) → b < x.ranks → (stack_out_at x' b).due ≡ true → got' (stack_link_to x b) ≡ got (stack_link_to x b)
      → is_crowded (stack_link_to x b) ≡ true
  pub collects : (a : ℕ) → a < x.ranks → (stack_in_at x' a).due ≡ true → is_idle (stack_link_from x a) ≡ true

-- What pushes alone do to a node over an exstack.
pub record AfterFill {S : Type 0} (R : Rules S) (cap : ℕ) (run run' : Running S) (x x' : Stack) : Type 0 where
  pub kept : (h : ℕ → S) (sent got : Logs) → IsNode R h (record { run = run; mover = Stacking cap x }) sent got
      → IsNode R h (record { run = run'; mover = Stacking cap x' }) sent got
  pub round : run'.round ≡ run.round
  pub sends : run'.sends ≡ run.sends
  pub pushed : FillsItems cap (to_send R run'.prog run'.sends) x x' run.next run'.next

-- What a turn further does, over either transport.
abbrev pub Leaves : {S : Type 0} → Rules S → ℕ → Running S → Running S → MoverState → MoverState → Logs → Logs → Type 0
Leaves R cap run run' (Conveying c) (Conveying c') got got' = LeavesAfterAdvance R cap run run' c c' got got'
Leaves R cap run run' (Conveying c) (Stacking k x) got got' = ⊥
Leaves R cap run run' (Stacking k x) (Conveying c) got got' = ⊥
Leaves R cap run run' (Stacking k x) (Stacking k' x') got got' = LeavesAfterPoll R cap run run' x

-- A link out whose parcel must be posted, since it is full or not empty on a steady conveyor, is
-- crowded.
abbrev pub DueIsCrowded : MoverState → (ℕ → Bool) → Type 0
DueIsCrowded (Conveying c) is_crowded = (l : ℕ) → l < links c.dims → sender_at c.dims l ≡ c.rank
    → is_due c.cap c.steady false (out_of c l) ≡ true → is_crowded l ≡ true
DueIsCrowded (Stacking cap x) is_crowded = ⊤

-- What a turn that didn't run out of memory left undone, and why; over a conveyor, for a turn that
-- moved no parcel.
abbrev pub Waits : {S : Type 0} → Rules S → Running S → MoverState → MoverState → Logs → Logs → Logs → Logs → (ℕ → Bool)
    → (ℕ → Bool) → Type 0
Waits {S} R run (Conveying c) (Conveying c') sent got sent' got' is_crowded is_idle =
    (h : ℕ → S) → IsNode R h (record { run = run; mover = Conveying c }) sent got → ((l : ℕ) → sent' l ≡ sent l)
    → ((l : ℕ) → got' l ≡ got l) → IsStuck c c' sent got sent' got' is_crowded is_idle
Waits R run (Conveying c) (Stacking k x) sent got sent' got' is_crowded is_idle = ⊥
Waits R run (Stacking k x) (Conveying c) sent got sent' got' is_crowded is_idle = ⊥
Waits R run (Stacking k x) (Stacking k' x') sent got sent' got' is_crowded is_idle =
    WaitsFor x x' got got' is_crowded is_idle
