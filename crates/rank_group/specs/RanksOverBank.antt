-- All ranks of a drive over one plain bank, and what a sweep over them does.
use Rattle.std.specs.Prelude.{◌≡◌, ◌⊎◌, ⊤, true, ℕ, ◌+◌, ◌^◌, ◌<◌, ◌≤◌, false, List, [], length, Option, Some}
use Rattle.std.specs.Prelude.{if◌then◌else◌}
use Rattle.std.specs.Prelude.{None, slice_get}
use Rattle.list_laws.specs.Sums.{total}
use Rattle.route_tensor.specs.Grid.{ranks}
use Rattle.route_tensor.specs.Link.{links}
use Rattle.route_tensor.specs.Ends.{reader_at}
use Rattle.port_bank.specs.Logs.{Logs, starting_at, ending_at}
use Rattle.port_bank.specs.Machine.{Part}
use Rattle.port_bank.specs.Plain.{Bank, IsBank, sent_of, got_of}
use Rattle.port_bank.specs.Relay.{RelayLaw}
use Rattle.hop_core.specs.Lent.Lent.{Given}
use Rattle.hop_core.specs.declared.phase.Phase.TheVariants.{Dormant}
use Rattle.hop_core.specs.State.{State}
use Rattle.convey.specs.Buffers.{in_of}
use Rattle.round_program.specs.Rules.{Rules}
use Rattle.round_program.specs.Canonical.{HasRounds, InRound}
use Rattle.rank_node.specs.Movers.{MoverState, Manner, part_in, lying}
use Rattle.rank_node.specs.Movers.MoverState.{Conveying, Stacking}
use Rattle.rank_node.specs.Next.{with_next}
use Rattle.rank_group.specs.BankLogs.{parcel_entries, moved}
use Rattle.rank_group.specs.Drives.{progs_of}
use Rattle.rank_group.specs.Ranks.{RankState, IsOrder, AllRanks, IsBlockedConveyor, progress, crowded_in, idle_in}
use Rattle.rank_group.specs.RoundProgress.{quota_of, most_rounds, MoverMadeHalves, KeepsCycle}

-- The conveyor of a rank that doesn't exist.
abbrev pub no_conveyor : State
no_conveyor = record {
  dims = [];
  rank = 0;
  cap = 0;
  steady = false;
  outs = [];
  ins = [];
  done = false;
  phase = Dormant;
  epoch = 0;
  lent = Given;
  pulled = None;
}

abbrev pub mover_in : {S : Type 0} → Option (RankState S) → MoverState
mover_in None = Conveying no_conveyor
mover_in (Some n) = n.node.mover

abbrev pub progress_in : {S : Type 0} → Option (RankState S) → ℕ
progress_in None = 0
progress_in (Some n) = progress n

-- How many epochs all ranks have completed, added up.
abbrev pub all_progress : {S : Type 0} → List ℕ → List (RankState S) → ℕ
all_progress dims rs = total (ranks dims) (λ r. progress_in (slice_get rs r))

-- A rank's history, extended by the final state if its run is over.
abbrev pub history_in : {S : Type 0} → (ℕ → S) → Option (RankState S) → ℕ → S
history_in h None = h
history_in h (Some n) = if n.over then with_next h (n.node.run.round + 1) n.node.run.prog else h

abbrev pub part_at : {S : Type 0} → List ℕ → List (RankState S) → Logs → Logs → ℕ → Part
part_at dims rs sent got r = part_in (mover_in (slice_get rs r)) (starting_at dims r sent) (ending_at dims r got)

-- How many entries are in the inbox of a link.
abbrev pub inbox : {S : Type 0} → List ℕ → List (RankState S) → ℕ → ℕ
inbox dims rs l = lying (mover_in (slice_get rs (reader_at dims l))) l

-- All ranks over one plain bank.
-- keeps: over exstacks each rank is in some cycle of its epoch.
pub record RanksOnBank {S : Type 0} (R : Rules S) (dims : List ℕ) (cap slots : ℕ) (manner : Manner) (starts : List S)
    (h : ℕ → ℕ → S) (rs : List (RankState S)) (sent got : Logs) : Type 0 where
  pub ranked : AllRanks R dims cap slots manner starts h rs sent got
  pub none_past : (l : ℕ) → links dims ≤ l → (sent l ≡ []) × (got l ≡ [])
  pub relays : (r : ℕ) → r < ranks dims → RelayLaw dims r sent got
  pub some : 0 < cap
  pub inboxes : (l : ℕ) → l < links dims → inbox dims rs l ≤ length (parcel_entries (got l))
  pub cycle : ℕ → ℕ
  pub keeps : (r : ℕ) (x : RankState S) → slice_get rs r ≡ Some x
      → KeepsCycle R (quota_of R (ranks dims) starts r) (cycle r) x (starting_at dims r sent) (ending_at dims r got)

-- How much has moved over all links.
abbrev pub moves : {S : Type 0} → List ℕ → List (RankState S) → Logs → Logs → ℕ
moves dims rs sent got = moved dims sent got (inbox dims rs)

-- A rank over a conveyor is blocked: its last turn left the logs as they were.
pub record IsBlockedRank (dims : List ℕ) (slots r : ℕ) (c' : State) (sent got : Logs) : Type 0 where
  pub c : State
  pub same_dims : c.dims ≡ dims
  pub same_rank : c.rank ≡ r
  pub same_epoch : c.epoch ≡ c'.epoch
  pub kept : (l : ℕ) → l < links dims → reader_at dims l ≡ r
      → length (in_of c l).parcel.untaken ≤ length (in_of c' l).parcel.untaken
  pub left : IsBlockedConveyor c c' (starting_at dims r sent) (ending_at dims r got) (starting_at dims r sent)
      (ending_at dims r got) (crowded_in dims slots r sent got) (idle_in dims r sent got)

-- Over exstacks this states nothing.
abbrev pub BlocksMover : List ℕ → ℕ → ℕ → MoverState → Logs → Logs → Type 0
BlocksMover dims slots r (Conveying c') sent got = IsBlockedRank dims slots r c' sent got
BlocksMover dims slots r (Stacking cap x) sent got = ⊤

-- Every rank, in its cycle, has made j half rounds.
abbrev pub AllMadeHalves : {S : Type 0} → (ℕ → ℕ) → ℕ → (ℕ → ℕ) → List (RankState S) → Type 0
AllMadeHalves {S} most j cycle rs = (r : ℕ) (x : RankState S) → slice_get rs r ≡ Some x
    → MoverMadeHalves most j x.over (cycle r) x.node.mover

-- What turns keep of the plain bank that they began with.
pub record KeepsBank (cap : ℕ) (before after : Bank) : Type 0 where
  -- It keeps the laws of a bank.
  pub lawful : IsBank cap after
  -- It has the same grid and number of slots.
  pub same_dims : after.dims ≡ before.dims
  pub same_slots : after.slots ≡ before.slots

-- The input of a drive: programs that begin one run of n rounds, and links with at least one slot.
pub record DrivePlan {S : Type 0} (R : Rules S) (dims : List ℕ) (slots : ℕ) (starts : List S) (n : ℕ) : Type 0 where
  pub shape : List ℕ
  pub most : ℕ
  pub start : InRound R (ranks dims) 0 shape most starts
  pub rounds : HasRounds R starts n
  pub few : n < 2 ^ 62
  pub some : 0 < slots

-- Ranks that a drive may turn over a plain bank.
pub record MayTurnRanks {S : Type 0} (R : Rules S) (cap : ℕ) (b : Bank) (rs : List (RankState S)) : Type 0 where
  pub manner : Manner
  pub starts : List S
  pub rounds : ℕ
  pub h : ℕ → ℕ → S
  pub plan : DrivePlan R b.dims b.slots starts rounds
  pub on_bank : RanksOnBank R b.dims cap b.slots manner starts h rs (sent_of b) (got_of b)

-- Ranks that it may turn in a sweep, each once in the order given.
pub record MaySweep {S : Type 0} (R : Rules S) (cap : ℕ) (b : Bank) (given : List ℕ)
    (rs : List (RankState S)) : Type 0 where
  pub order : IsOrder (ranks b.dims) given
  pub lawful : IsBank cap b
  pub turns : MayTurnRanks R cap b rs

-- Ranks that it may turn in sweeps of this order, to the end of the run that their programs begin.
pub record MayRunAll {S : Type 0} (R : Rules S) (cap : ℕ) (b : Bank) (given : List ℕ)
    (rs : List (RankState S)) : Type 0 where
  pub order : IsOrder (ranks b.dims) given
  pub lawful : IsBank cap b
  pub manner : Manner
  pub rounds : ℕ
  pub h : ℕ → ℕ → S
  pub plan : DrivePlan R b.dims b.slots (progs_of rs) rounds
  pub few : rounds ≤ plan.most
  pub on_bank : RanksOnBank R b.dims cap b.slots manner (progs_of rs) h rs (sent_of b) (got_of b)

-- What any turns of the ranks leave of the bank that they began with.
-- fewest: no epoch was completed but by a turn. posted: a turn posts at most one parcel on a link.
pub record AfterTurns {S : Type 0} (cap : ℕ) (b b' : Bank) (rs rs' : List (RankState S)) (turns turns' : ℕ) : Type 0 where
  pub bank : KeepsBank cap b b'
  pub fewest : all_progress b.dims rs' + turns ≤ all_progress b.dims rs + turns'
  pub posted : (l : ℕ) → l < links b.dims → length (sent_of b' l) + turns ≤ length (sent_of b l) + turns'

-- What the turns of the first i ranks of a sweep do to all ranks, which began in the cycles
-- `cycle0`.
-- grown: what has moved never shrinks. forward: no rank goes back to an earlier epoch.
-- rests: if nothing moved, each rank that was turned and is still in its epoch is blocked.
-- made: over exstacks, if every rank had made j half rounds, each still has, and each rank that was
-- turned has made one more.
pub record AfterSomeTurns {S : Type 0} (R : Rules S) (dims : List ℕ) (cap slots : ℕ) (manner : Manner) (starts : List S)
    (order : List ℕ) (i : ℕ) (cycle0 : ℕ → ℕ) (rs0 : List (RankState S)) (sent0 got0 : Logs) (rs : List (RankState S))
    (sent got : Logs) : Type 0 where
  pub h : ℕ → ℕ → S
  pub on_bank : RanksOnBank R dims cap slots manner starts h rs sent got
  pub grown : moves dims rs0 sent0 got0 ≤ moves dims rs sent got
  pub forward : (r : ℕ) (x0 x : RankState S) → slice_get rs0 r ≡ Some x0 → slice_get rs r ≡ Some x
      → progress x0 ≤ progress x
  pub rests : moves dims rs sent got ≤ moves dims rs0 sent0 got0 → (j r : ℕ) → j < i → slice_get order j ≡ Some r
      → (x0 x : RankState S) → slice_get rs0 r ≡ Some x0 → slice_get rs r ≡ Some x
      → x.over ≡ false → progress x ≡ progress x0 → BlocksMover dims slots r x.node.mover sent got
  pub made : (j : ℕ) → AllMadeHalves (most_rounds R (ranks dims) starts) j cycle0 rs0
      → AllMadeHalves (most_rounds R (ranks dims) starts) j on_bank.cycle rs
      × ((p r : ℕ) → p < i → slice_get order p ≡ Some r → (x : RankState S) → slice_get rs r ≡ Some x
      → (x.over ≡ true) ⊎ MoverMadeHalves (most_rounds R (ranks dims) starts) (j + 1) x.over (on_bank.cycle r) x.node.mover)
