-- What contracts see of one rank's port.
use Rattle.std.specs.Prelude.{ℕ, ◌+◌, List, length, ◌==◌, Bool, IsTrue, Result}
pub use Rattle.list_laws.specs.Lists.{changed}
use Rattle.bale_items.specs.declared.fault.NoMemory.{NoMemory}
use Rattle.item_buffer.specs.Contents.{Contents}
use Rattle.port_bank.specs.declared.port.Posted.{Posted}
use Rattle.port_bank.specs.declared.port.Collected.{Collected}
use Rattle.port_bank.specs.Calls.{Call}
use Rattle.port_bank.specs.Logs.{Logs}
use Rattle.port_bank.specs.Slots.{is_slot_count}

-- Plain data that no call on a port changes. On the plain port it is what the other ranks sent and
-- got, on a slot port the bank that its seat belongs to, and no logs.
pub record Others : Type 0 where
  pub bank : List ℕ
  pub sent : Logs
  pub got : Logs

-- What a port has, as contracts see it. A function of numbers has a value for each link.
-- rank, dims, slots: the rank, the grid, and the number of slots of each link.
-- sent, got: all parcels that the rank posted on each link, or collected there, in order. A link
-- that doesn't start at the rank, or end there, has none.
-- freed: for each link out, how many of its parcels the port knows to be collected.
-- known: for each link in, how many parcels the port knows to be posted.
-- calls: the calls of `post` that had memory and those of `collect`, in the order in which they
-- were made.
-- looks_out: how often `post` looked for room on each link out.
-- looks_in: how often `collect` looked on each link in.
-- listens: how often the port listened for each link in.
-- noted: how often it had listened for each link in, at the end of its latest collect there.
-- others: what belongs to others.
-- The counts looks_out, looks_in, listens and noted have 64 bits and saturate at the last number.
pub record PortView : Type 0 where
  pub rank : ℕ
  pub dims : List ℕ
  pub slots : ℕ
  pub sent : Logs
  pub got : Logs
  pub freed : ℕ → ℕ
  pub known : ℕ → ℕ
  pub calls : List Call
  pub looks_out : ℕ → ℕ
  pub looks_in : ℕ → ℕ
  pub listens : ℕ → ℕ
  pub noted : ℕ → ℕ
  pub others : Others

-- A link out is crowded for the port if it knows of no free slot there.
-- length sent = freed + slots
-- With 2 slots, 5 parcels posted and 3 known to be collected, the link is crowded.
abbrev pub is_crowded : PortView → ℕ → Bool
is_crowded v l = length (v.sent l) == v.freed l + v.slots

-- A link in is idle for the port if it collected every parcel that it knows of.
-- length got = known
-- With 3 parcels collected and 3 known to be posted, the link is idle.
abbrev pub is_idle : PortView → ℕ → Bool
is_idle v l = length (v.got l) == v.known l

-- What a call on a port did, by the port before, the link, the parcel at hand, the answer and the
-- port after.
abbrev pub PostDoes : Type 0 → Type 1
PostDoes P = P → ℕ → Contents → Result Posted NoMemory → P → Type 0

abbrev pub CollectDoes : Type 0 → Type 1
CollectDoes P = P → ℕ → Contents → Collected → P → Type 0

-- A link may have this many slots.
unfoldable pub IsSlots : ℕ → Type 0
IsSlots n = IsTrue (is_slot_count n)
