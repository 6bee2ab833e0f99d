-- What contracts see of a plain bank.
use Rattle.std.specs.Prelude.{◌≡◌, ℕ, ◌+◌, ◌<◌, false, List, [], ◌∷◌, ◌++◌, map, replicate, length}
use Rattle.std.specs.Prelude.{slice_index_or, slice_set, Result, Ok, IsErr}
use Rattle.bale_items.specs.declared.fault.NoMemory.{NoMemory}
use Rattle.bale_items.specs.Counters.{next_count}
use Rattle.item_buffer.specs.Capacity.{IsCap}
use Rattle.item_buffer.specs.Contents.{Shipped}
use Rattle.port_bank.specs.Logs.{Logs, starting_at, ending_at, starting_elsewhere, ending_elsewhere}
use Rattle.route_tensor.specs.Grid.{ranks, IsGrid}
use Rattle.route_tensor.specs.Link.{links}
use Rattle.port_bank.specs.declared.port.Posted.{Posted}
use Rattle.port_bank.specs.declared.port.Posted.TheVariants.{Sent, NoRoom}
use Rattle.port_bank.specs.declared.port.Collected.{Collected}
use Rattle.port_bank.specs.declared.port.Collected.TheVariants.{Got, Nothing}
use Rattle.port_bank.specs.Link.{LinkLaw}
use Rattle.port_bank.specs.Relay.{RelayLaw}
use Rattle.port_bank.specs.Calls.{Call}
use Rattle.port_bank.specs.Port.{Others, IsSlots, PortView}
use Rattle.port_bank.specs.Round.{Round}

-- One link: the parcels posted and those collected, how often its sender looked for room and its
-- reader looked, how often its reader listened for it, and how often it had at the end of its
-- latest collect.
pub record Channel : Type 0 where
  pub sent : List Shipped
  pub got : List Shipped
  pub looks_out : ℕ
  pub looks_in : ℕ
  pub listens : ℕ
  pub noted : ℕ

-- A link on which nothing was done.
abbrev pub unused_channel : Channel
unused_channel = record { sent = []; got = []; looks_out = 0; looks_in = 0; listens = 0; noted = 0 }

-- The link after its sender looked, found room and posted a parcel; and after it found none.
abbrev pub channel_after_post : Channel → Shipped → Channel
channel_after_post c p = record c { sent = c.sent ++ p ∷ []; looks_out = next_count c.looks_out }

abbrev pub channel_after_refusal : Channel → Channel
channel_after_refusal c = record c { looks_out = next_count c.looks_out }

-- The link after its reader looked and found nothing; and after it collected a parcel.
abbrev pub channel_after_look : Channel → Channel
channel_after_look c = record c { looks_in = next_count c.looks_in; listens = next_count c.listens; noted = next_count c.listens }

abbrev pub channel_after_collect : Channel → Shipped → Channel
channel_after_collect c p = record (channel_after_look c) { got = c.got ++ p ∷ [] }

-- A plain bank: its grid, its number of slots per link, and each link by its number.
pub record Bank : Type 0 where
  pub dims : List ℕ
  pub slots : ℕ
  pub channels : List Channel

abbrev pub channel_at : Bank → ℕ → Channel
channel_at b l = slice_index_or b.channels l unused_channel

-- The bank with another channel at link l.
abbrev pub with_channel : Bank → ℕ → Channel → Bank
with_channel b l c = record b { channels = slice_set b.channels l c }

-- All parcels posted on each link, and all collected.
abbrev pub sent_of : Bank → Logs
sent_of b = λ l. (channel_at b l).sent

abbrev pub got_of : Bank → Logs
got_of b = λ l. (channel_at b l).got

-- What the ranks other than r sent and got.
abbrev pub others_of : ℕ → Bank → Others
others_of r b =
    record { bank = []; sent = starting_elsewhere b.dims r (sent_of b); got = ending_elsewhere b.dims r (got_of b) }

-- What contracts see of rank r's port: its own part of the bank, and the calls that it noted.
abbrev pub view_of : ℕ → Bank → List Call → PortView
view_of r b calls = record {
  rank = r;
  dims = b.dims;
  slots = b.slots;
  sent = starting_at b.dims r (sent_of b);
  got = ending_at b.dims r (got_of b);
  freed = λ l. length (got_of b l);
  known = λ l. length (sent_of b l);
  calls = calls;
  looks_out = λ l. (channel_at b l).looks_out;
  looks_in = λ l. (channel_at b l).looks_in;
  listens = λ l. (channel_at b l).listens;
  noted = λ l. (channel_at b l).noted;
  others = others_of r b;
}

-- What a post did to the bank, by its answer: each look at a link is counted.
pub record BankPosted (old new : Bank) (l : ℕ) (p : Shipped) (r : Result Posted NoMemory) : Type 0 where
  pub sent : r ≡ Ok Sent → new ≡ with_channel old l (channel_after_post (channel_at old l) p)
  pub no_room : r ≡ Ok NoRoom → new ≡ with_channel old l (channel_after_refusal (channel_at old l))
  pub no_memory : IsErr r → new ≡ old

-- What a collect did: it looked and listened once, and p is the next parcel if it got one.
pub record BankCollected (old new : Bank) (l : ℕ) (p : Shipped) (r : Collected) : Type 0 where
  pub got : r ≡ Got → new ≡ with_channel old l (channel_after_collect (channel_at old l) p)
  pub nothing : r ≡ Nothing → new ≡ with_channel old l (channel_after_look (channel_at old l))

-- A bank on which nothing was done.
abbrev pub empty_bank : List ℕ → ℕ → Bank
empty_bank dims slots = record { dims = dims; slots = slots; channels = replicate (links dims) unused_channel }

-- What a plain bank of a capacity leaves when it is closed.
abbrev pub round_of_bank : ℕ → Bank → Round
round_of_bank cap b = record {
  dims = b.dims;
  cap = cap;
  slots = b.slots;
  by_slots = false;
  sent = map (λ c. c.sent) b.channels;
  got = map (λ c. c.got) b.channels;
}

-- What a plain bank keeps, for parcels of capacity cap: a link has 1, 2, 4 or 8 slots, and each
-- link keeps its law and each rank the relay law.
pub record IsBank (cap : ℕ) (b : Bank) : Type 0 where
  pub is_cap : IsCap cap
  pub grid : IsGrid b.dims
  pub counts : IsSlots b.slots
  pub number : length b.channels ≡ links b.dims
  pub each_link : (l : ℕ) → l < links b.dims → LinkLaw cap b.slots (sent_of b l) (got_of b l)
  pub each_rank : (r : ℕ) → r < ranks b.dims → RelayLaw b.dims r (sent_of b) (got_of b)

-- The rings of a bank have what is in transit on each link: what was sent there is what was got,
-- and then that.
-- Example: sent [p, q, r] and got [p] leave [q, r] in transit.
pub record HaveRings (channels : List Channel) (rings : List (List Shipped)) : Type 0 where
  pub number : length rings ≡ length channels
  pub each : (l : ℕ) → l < length channels
      → (slice_index_or channels l unused_channel).sent ≡ (slice_index_or channels l unused_channel).got ++ slice_index_or rings l []
