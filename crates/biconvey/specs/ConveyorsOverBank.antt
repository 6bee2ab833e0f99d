-- One direction of an exchange, queries or replies: the conveyors of all ranks over one bank.
use Rattle.std.specs.Prelude.{◌≡◌, ℕ, ◌+◌, ◌<◌, ◌≤◌, Bool, false, List, [], ◌++◌, length, Option, Some, None}
use Rattle.std.specs.Prelude.{slice_get}
use Rattle.item_buffer.specs.Contents.{Shipped}
use Rattle.route_tensor.specs.Grid.{ranks}
use Rattle.route_tensor.specs.Link.{links}
use Rattle.route_tensor.specs.Ends.{reader_at}
use Rattle.port_bank.specs.Logs.{Logs, starting_at, ending_at}
use Rattle.port_bank.specs.Shapes.{IsConveyorShape}
use Rattle.hop_core.specs.Lent.Lent.{Given}
use Rattle.hop_core.specs.declared.phase.Phase.TheVariants.{Dormant}
use Rattle.hop_core.specs.State.{State}
use Rattle.convey.specs.Buffers.{in_of}
use Rattle.rank_group.specs.BankLogs.{parcel_entries, AreBankLogs, OwnLogsGrow, moved}

-- A rank's conveyor; for a rank that doesn't exist, an empty one.
abbrev pub conveyor_in : Option State → State
conveyor_in None =
    record {
      dims = [];
      rank = 0;
      cap = 0;
      steady = false;
      outs = [];
      ins = [];
      done = false;
      phase = Dormant;
      epoch = 0;
      lent = Given;
      pulled = None;
    }
conveyor_in (Some c) = c

-- How many entries are in the inbox of a link.
abbrev pub bi_inbox : List ℕ → List State → ℕ → ℕ
bi_inbox dims cs l = length (in_of (conveyor_in (slice_get cs (reader_at dims l))) l).parcel.untaken

-- How much has moved over all links.
abbrev pub bi_moves : List ℕ → List State → Logs → Logs → ℕ
bi_moves dims cs sent got = moved dims sent got (bi_inbox dims cs)

-- The conveyors of all ranks, over a bank with these logs.
pub record AreConveyorsOver (dims : List ℕ) (cap slots : ℕ) (steady : Bool) (cs : List State) (sent got : Logs) : Type 0 where
  pub lawful : AreBankLogs dims cap slots sent got
  pub all : length cs ≡ ranks dims
  pub steadies : (r : ℕ) (c : State) → slice_get cs r ≡ Some c → c.steady ≡ steady
  pub shape : (l : ℕ) → IsConveyorShape steady cap (sent l)
  pub inboxes : (l : ℕ) → l < links dims → bi_inbox dims cs l ≤ length (parcel_entries (got l))

-- What a turn of rank r does to its conveyor in this direction.
pub record AfterBiAdvance (dims : List ℕ) (cap r : ℕ) (c c' : State) (sent got sent' got' : Logs) : Type 0 where
  pub own : OwnLogsGrow dims r sent got sent' got'
  pub steady : c'.steady ≡ c.steady
  pub shape : (l : ℕ) → IsConveyorShape c.steady cap (starting_at dims r sent l)
      → IsConveyorShape c.steady cap (starting_at dims r sent' l)
  pub lies : (l : ℕ) (more : List Shipped) → l < links dims → reader_at dims l ≡ r
      → ending_at dims r got' l ≡ ending_at dims r got l ++ more
      → length (in_of c' l).parcel.untaken ≤ length (in_of c l).parcel.untaken + length (parcel_entries more)
