-- A slot bank's grid and number of slots, and what follows from them.
use Rattle.std.specs.Prelude.{◌≡◌, ℕ, ◌+◌, ◌-◌, ◌*◌, ◌%◌, ◌<◌, ◌≤◌, List, [], map, length}
use Rattle.item_buffer.specs.Contents.{Contents, as_shipped, as_arrived, blank}
use Rattle.route_tensor.specs.Grid.{ranks, dim, coord, IsGrid}
use Rattle.route_tensor.specs.Link.{links}
use Rattle.route_tensor.specs.Ends.{hop_at, sender_at, reader_at}
use Rattle.port_bank.specs.Logs.{Logs, lasts}
use Rattle.port_bank.specs.Relay.{HasFairTags, RelayLaw}
use Rattle.port_bank.specs.Port.{IsSlots}
use Rattle.atomic_table.specs.Seated.{TableId}
use Rattle.link_slots.specs.Wiring.{Wiring}

pub record Shape : Type 0 where
  pub dims : List ℕ
  pub slots : ℕ

abbrev pub no_shape : Shape
no_shape = record { dims = []; slots = 0 }

-- A grid of one to three numbers, with 1, 2, 4 or 8 slots for each link.
pub record IsShape (s : Shape) : Type 0 where
  pub grid : IsGrid s.dims
  pub some : 0 < s.slots
  pub few : s.slots ≤ 8
  pub counts : IsSlots s.slots

-- The doorbell of rank r and hop h is number r*k + h - 1; bit c of it is rung by the sender whose
-- coordinate h is c.
-- Example: in the grid 2, link 1 leads from rank 0 to rank 1 and has bit 0 of doorbell 1.
abbrev pub wiring : Shape → Wiring
wiring s = record {
  slots = s.slots;
  ranks = ranks s.dims;
  links = links s.dims;
  bells = ranks s.dims * length s.dims;
  from = sender_at s.dims;
  to = reader_at s.dims;
  bell = λ l. reader_at s.dims l * length s.dims + (hop_at s.dims l - 1);
  bit = λ l. coord s.dims (sender_at s.dims l) (hop_at s.dims l);
  width = λ b. dim s.dims (b % length s.dims + 1);
}

-- An empty fresh parcel that is not marked last, of any epoch.
abbrev pub IsBlank : Contents → Type 0
IsBlank p = p ≡ blank p.epoch

-- Parcel p may follow these on link l: it is fresh and no fuller than its capacity, its entries
-- have fair tags, and its epoch is the number
-- of last parcels before it.
pub record MayFollow (dims : List ℕ) (cap l : ℕ) (before : List Contents) (p : Contents) : Type 0 where
  pub fresh : p ≡ as_arrived (as_shipped p)
  pub fits : length p.untaken ≤ cap
  pub fair : HasFairTags dims (hop_at dims l) (as_shipped p)
  pub dated : p.epoch ≡ lasts (map as_shipped before)

-- Parcels as a log keeps them.
abbrev pub shipped_all : (ℕ → List Contents) → Logs
shipped_all logs = λ l. map as_shipped (logs l)

-- The relay law of one rank, over the parcels that it posted and those that it collected.
abbrev pub KeepsLaw : List ℕ → ℕ → (ℕ → List Contents) → (ℕ → List Contents) → Type 0
KeepsLaw dims r sent got = RelayLaw dims r (shipped_all sent) (shipped_all got)

-- The table has a bank's words and slots.
pub record IsBoard (s : Shape) (id : TableId) : Type 0 where
  pub shape : IsShape s
  pub words : id.words ≡ 16 * (2 * links s.dims + ranks s.dims * length s.dims)
  pub slots : id.slots ≡ s.slots * links s.dims
