-- The ranks of a run, each with its node, and what a turn does to one of them.
use Rattle.std.specs.Prelude.{◌≡◌, ◌⊎◌, ℕ, ◌+◌, ◌^◌, ◌<◌, ◌≤◌, ◌==◌, Bool, true, false, List, ◌++◌, length, slice_get, Some}
use Rattle.std.specs.Prelude.{if◌then◌else◌}
use Rattle.std.specs.List.{All}
use Rattle.item_buffer.specs.Contents.{Shipped}
use Rattle.route_tensor.specs.Grid.{ranks, IsGrid}
use Rattle.route_tensor.specs.Link.{links}
use Rattle.route_tensor.specs.Ends.{sender_at, reader_at}
use Rattle.port_bank.specs.Logs.{Logs, starting_at, ending_at}
use Rattle.port_bank.specs.Port.{PortView}
use Rattle.port_bank.specs.Link.{LinkLaw}
use Rattle.hop_core.specs.State.{State}
use Rattle.convey.specs.Buffers.{is_complete}
use Rattle.exstack.specs.State.{Stack}
use Rattle.exstack.specs.State.{is_all_done}
use Rattle.round_program.specs.Rules.{Rules}
use Rattle.rank_node.specs.declared.turn.Turn.{Turn}
use Rattle.rank_node.specs.declared.turn.Turn.TheVariants.{Going, Ended}
use Rattle.rank_node.specs.Movers.{MoverState, Manner, IsLogShape, mover_dims, mover_rank, epoch_in, manner_in, has_completed}
use Rattle.rank_node.specs.Movers.{HasCap, lying}
use Rattle.rank_node.specs.Movers.MoverState.{Conveying, Stacking}
use Rattle.rank_node.specs.Nodes.{NodeState, IsNode}
use Rattle.rank_node.specs.Stuck.{IsStuck}
use Rattle.rank_node.specs.Moves.{Waits, WaitsFor}
use Rattle.rank_node.specs.Sending.{to_send}
use Rattle.rank_node.specs.Cycles.{IsInCycle, cycle_of_turn, TurnsOnward, AwaitsSome}
use Rattle.rank_node.specs.Next.{HasStopped}
use Rattle.rank_group.specs.BankLogs.{parcel_entries, OwnLogsGrow}

-- A node, and whether its run is over.
pub record RankState (S : Type 0) : Type 0 where
  pub node : NodeState S
  pub over : Bool

-- The orders in which a sweep may turn p ranks: each rank exactly once.
pub record IsOrder (p : ℕ) (order : List ℕ) : Type 0 where
  pub size : length order ≡ p
  pub below : All (λ r. r < p) order
  pub each : (r : ℕ) → r < p → (i : ℕ) × (slice_get order i ≡ Some r)

-- Rank r with the logs of what it sent and of what it got; h m is the state of its program at the
-- start of round m.
pub record IsRank {S : Type 0} (R : Rules S) (dims : List ℕ) (cap : ℕ) (manner : Manner) (r : ℕ) (h : ℕ → S)
    (n : RankState S) (sent got : Logs) : Type 0 where
  pub same_dims : mover_dims n.node.mover ≡ dims
  pub same_rank : mover_rank n.node.mover ≡ r
  pub same_manner : manner_in n.node.mover ≡ manner
  pub same_cap : HasCap cap n.node.mover
  pub runs : n.over ≡ false → IsNode R h n.node sent got
  pub stopped : n.over ≡ true → HasStopped R h n.node sent got
  pub shape : (l : ℕ) → l < links dims → sender_at dims l ≡ r → IsLogShape manner cap (sent l)

-- The same, with the logs of all ranks.
abbrev pub HasRank : {S : Type 0} → Rules S → List ℕ → ℕ → Manner → ℕ → (ℕ → S) → RankState S → Logs → Logs → Type 0
HasRank R dims cap manner r h n sent got =
    IsRank R dims cap manner r h n (starting_at dims r sent) (ending_at dims r got)

-- A rank that may be turned over its own port: its run goes on, and its epoch's number is below
-- 2^63.
pub record MayTurnRank {S : Type 0} (R : Rules S) (cap : ℕ) (n : RankState S) (port : PortView) : Type 0 where
  pub going : n.over ≡ false
  pub few : epoch_in n.node.mover < 2 ^ 63
  pub manner : Manner
  pub h : ℕ → S
  pub rank : IsRank R port.dims cap manner port.rank h n port.sent port.got

-- All ranks of a run, with the logs of all links of any bank; h r m is the state of rank r's
-- program at the start of round m.
-- links_keep: each link keeps its law. each: each rank agrees with its own logs. begins: the
-- programs began in the states `starts`.
pub record AllRanks {S : Type 0} (R : Rules S) (dims : List ℕ) (cap slots : ℕ) (manner : Manner) (starts : List S)
    (h : ℕ → ℕ → S) (rs : List (RankState S)) (sent got : Logs) : Type 0 where
  pub grid : IsGrid dims
  pub links_keep : (l : ℕ) → l < links dims → LinkLaw cap slots (sent l) (got l)
  pub all : length rs ≡ ranks dims
  pub each : (r : ℕ) (n : RankState S) → slice_get rs r ≡ Some n → HasRank R dims cap manner r (h r) n sent got
  pub begins : (r : ℕ) (s : S) → slice_get starts r ≡ Some s → h r 0 ≡ s

-- How many epochs a rank has completed.
abbrev pub progress : {S : Type 0} → RankState S → ℕ
progress n = if n.over then epoch_in n.node.mover + 1 else epoch_in n.node.mover

-- Whether rank r's link l out has no free slot, and whether its link l in has nothing to collect,
-- by the logs of all ranks.
abbrev pub crowded_in : List ℕ → ℕ → ℕ → Logs → Logs → ℕ → Bool
crowded_in dims slots r sent got l = length (starting_at dims r sent l) == length (got l) + slots

abbrev pub idle_in : List ℕ → ℕ → Logs → Logs → ℕ → Bool
idle_in dims r sent got l = length (ending_at dims r got l) == length (sent l)

-- What a turn within an epoch leaves as it was: the grid, the rank, the manner and the epoch.
pub record SameMover (old new : MoverState) : Type 0 where
  pub dims : mover_dims new ≡ mover_dims old
  pub rank : mover_rank new ≡ mover_rank old
  pub manner : manner_in new ≡ manner_in old
  pub epoch : epoch_in new ≡ epoch_in old

-- How a turn of rank r's node continues its epoch.
-- waits: what it left undone has a cause.
-- cycle, onward, awaits: over an exstack it continues its cycles, moves its stage forward, and
-- waits for a parcel of its round.
pub record TurnsWithin {S : Type 0} (R : Rules S) (dims : List ℕ) (slots r : ℕ) (n n' : NodeState S)
    (sent got sent' got' : Logs) : Type 0 where
  pub waits : Waits R n.run n.mover n'.mover (starting_at dims r sent) (ending_at dims r got) (starting_at dims r sent')
      (ending_at dims r got') (crowded_in dims slots r sent' got') (idle_in dims r sent' got')
  pub cycle : (quota : ℕ → ℕ) (k : ℕ)
      → IsInCycle R quota k n.run n.mover (starting_at dims r sent) (ending_at dims r got)
      → IsInCycle R quota (cycle_of_turn k n.mover) n'.run n'.mover (starting_at dims r sent') (ending_at dims r got')
  pub onward : TurnsOnward n.mover n'.mover
  pub awaits : AwaitsSome n'.mover

-- What a turn of rank r's node does.
-- shape: its parcels are filled as its transport fills them. lies: an inbox holds at most what it
-- held and what came in. kept: it is still a node of the same run.
pub record AfterTurn {S : Type 0} (R : Rules S) (dims : List ℕ) (cap slots r : ℕ) (turn : Turn) (n n' : NodeState S)
    (sent got sent' got' : Logs) : Type 0 where
  pub own : OwnLogsGrow dims r sent got sent' got'
  pub same : SameMover n.mover n'.mover
  pub same_cap : HasCap cap n'.mover
  pub shape : (l : ℕ) → l < links dims → sender_at dims l ≡ r
      → IsLogShape (manner_in n.mover) cap (starting_at dims r sent l)
      → IsLogShape (manner_in n.mover) cap (starting_at dims r sent' l)
  pub lies : (l : ℕ) (more : List Shipped) → l < links dims → reader_at dims l ≡ r
      → ending_at dims r got' l ≡ ending_at dims r got l ++ more
      → lying n'.mover l ≤ lying n.mover l + length (parcel_entries more)
  pub kept : (h : ℕ → S) → IsNode R h n (starting_at dims r sent) (ending_at dims r got)
      → IsNode R h n' (starting_at dims r sent') (ending_at dims r got')
  pub ended : turn ≡ Ended → has_completed n'.mover ≡ true
  pub going : turn ≡ Going → has_completed n'.mover ≡ false
  pub within : TurnsWithin R dims slots r n n' sent got sent' got'

-- A turn over a conveyor moved no parcel and didn't end the epoch: the rank is blocked.
pub record IsBlockedConveyor (c c' : State) (sent got sent' got' : Logs) (is_crowded is_idle : ℕ → Bool) : Type 0 where
  pub stuck : IsStuck c c' sent got sent' got' is_crowded is_idle
  pub going : is_complete c'.phase ≡ false
  pub stays : c'.epoch ≡ c.epoch

-- A turn over an exstack didn't end the epoch: the rank is blocked.
pub record IsBlockedStack (x x' : Stack) (got got' : Logs) (is_crowded is_idle : ℕ → Bool) : Type 0 where
  pub waits : WaitsFor x x' got got' is_crowded is_idle
  pub going : is_all_done x'.stage ≡ false
  pub stays : x'.epoch ≡ x.epoch

-- The same over either transport.
abbrev pub IsBlockedMover : MoverState → MoverState → Logs → Logs → Logs → Logs → (ℕ → Bool) → (ℕ → Bool) → Type 0
IsBlockedMover (Conveying c) (Conveying c') sent got sent' got' is_crowded is_idle =
    IsBlockedConveyor c c' sent got sent' got' is_crowded is_idle
IsBlockedMover (Conveying c) (Stacking k x) sent got sent' got' is_crowded is_idle = ⊥
IsBlockedMover (Stacking k x) (Conveying c) sent got sent' got' is_crowded is_idle = ⊥
IsBlockedMover (Stacking k x) (Stacking k' x') sent got sent' got' is_crowded is_idle =
    IsBlockedStack x x' got got' is_crowded is_idle

-- Rank r wasn't turned: nothing of it changed.
pub record IsUnturned {S : Type 0} (dims : List ℕ) (r : ℕ) (n n' : RankState S)
    (sent got sent' got' : Logs) : Type 0 where
  pub same : n' ≡ n
  pub same_sent : starting_at dims r sent' ≡ starting_at dims r sent
  pub same_got : ending_at dims r got' ≡ ending_at dims r got

-- A turn left rank r in its epoch, which continues.
pub record StaysIn {S : Type 0} (R : Rules S) (dims : List ℕ) (slots r : ℕ) (n n' : RankState S)
    (sent got sent' got' : Logs) : Type 0 where
  pub still : n'.over ≡ false
  pub epoch : epoch_in n'.node.mover ≡ epoch_in n.node.mover
  pub going : has_completed n'.node.mover ≡ false
  pub within : TurnsWithin R dims slots r n.node n'.node sent got sent' got'

-- A turn ended the epoch of rank r: its next epoch began, or its run is over.
-- at_end: the node at the end of the epoch, before the next one begins.
pub record EndsEpoch {S : Type 0} (R : Rules S) (dims : List ℕ) (slots r : ℕ) (n n' : RankState S)
    (sent got sent' got' : Logs) : Type 0 where
  pub at_end : NodeState S
  pub same : SameMover n.node.mover at_end.mover
  pub within : TurnsWithin R dims slots r n.node at_end sent got sent' got'
  pub over : n'.over ≡ true → n'.node.mover ≡ at_end.mover
  pub next : n'.over ≡ false → epoch_in n'.node.mover ≡ epoch_in n.node.mover + 1
  pub anew : n'.over ≡ false → (quota : ℕ → ℕ) (k : ℕ)
      → IsInCycle R quota k at_end.run at_end.mover (starting_at dims r sent') (ending_at dims r got')
      → length (to_send R n'.node.run.prog n'.node.run.sends) ≤ quota (epoch_in n'.node.mover)
      → IsInCycle R quota 0 n'.node.run n'.node.mover (starting_at dims r sent') (ending_at dims r got')

-- What a turn of rank r does, including the step to its next epoch if one ended.
-- lies: an inbox holds at most what it held and what came in.
-- forward: its number of completed epochs never falls. left: if it is in the same epoch and no
-- parcel moved, it is blocked.
-- unturned, turned: a rank whose run is over isn't turned; any other stays in its epoch or ends it.
pub record AfterRank {S : Type 0} (R : Rules S) (dims : List ℕ) (cap slots r : ℕ) (n n' : RankState S)
    (sent got sent' got' : Logs) : Type 0 where
  pub own : OwnLogsGrow dims r sent got sent' got'
  pub lies : (l : ℕ) (more : List Shipped) → l < links dims → reader_at dims l ≡ r
      → ending_at dims r got' l ≡ ending_at dims r got l ++ more
      → lying n'.node.mover l ≤ lying n.node.mover l + length (parcel_entries more)
  pub forward : progress n ≤ progress n'
  pub kept : (manner : Manner) (h : ℕ → S) → HasRank R dims cap manner r h n sent got
      → (g : ℕ → S) × (g 0 ≡ h 0) × HasRank R dims cap manner r g n' sent' got'
  pub left : (manner : Manner) (h : ℕ → S) → HasRank R dims cap manner r h n sent got → n'.over ≡ false
      → progress n' ≡ progress n
      → ((l : ℕ) → starting_at dims r sent' l ≡ starting_at dims r sent l)
      → ((l : ℕ) → ending_at dims r got' l ≡ ending_at dims r got l)
      → IsBlockedMover n.node.mover n'.node.mover (starting_at dims r sent) (ending_at dims r got) (starting_at dims r sent')
      (ending_at dims r got') (crowded_in dims slots r sent' got') (idle_in dims r sent' got')
  pub unturned : n.over ≡ true → IsUnturned dims r n n' sent got sent' got'
  pub turned : n.over ≡ false
      → StaysIn R dims slots r n n' sent got sent' got' ⊎ EndsEpoch R dims slots r n n' sent got sent' got'
