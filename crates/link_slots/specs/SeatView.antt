-- What contracts see of a slot bank, and of the seat of a rank.
use Rattle.std.specs.Prelude.{ℕ, ◌-◌, List, [], ◌∷◌, length, slice_index_or}
use Rattle.item_buffer.specs.Contents.{Contents}
use Rattle.atomic_table.specs.Seated.{TableId}
use Rattle.port_bank.specs.Logs.{Logs}
use Rattle.port_bank.specs.Calls.{Call}
use Rattle.port_bank.specs.Port.{PortView}
use Rattle.link_slots.specs.Logs.{Lists, out_of, in_of, sent_of, got_of, listens}
use Rattle.link_slots.specs.Shape.{Shape, shipped_all}
use Rattle.list_laws.specs.Counts.{saturated_count}
use Rattle.link_slots.specs.Counts.{noted_by}

-- A bank: which one it is, its grid and its number of slots per link.
pub record BankIdentity : Type 0 where
  pub id : TableId
  pub shape : Shape

-- A rank's seat: the bank that it belongs to, the rank, what the rank knows of its links, how often
-- it had heard the doorbell of each link in at the end of its latest collect there, and how many
-- epochs that link has ended.
pub record SeatView : Type 0 where
  pub id : TableId
  pub shape : Shape
  pub rank : ℕ
  pub lists : Lists Contents
  pub noted : List ℕ
  pub ended : List ℕ

-- A bank's name: no two banks have the same.
abbrev pub table_name : TableId → List ℕ
table_name id = id.words ∷ id.slots ∷ id.views_name ∷ id.atom ∷ id.block ∷ id.offset ∷ id.slot_names

-- All parcels that the rank posted on each link, and all that it collected.
abbrev pub posted_on : SeatView → Logs
posted_on s = shipped_all (sent_of s.lists)

abbrev pub collected_from : SeatView → Logs
collected_from s = shipped_all (got_of s.lists)

-- How many parcels of a link the rank knows to be released: its room less all slots.
-- Example: with 2 slots, after a look that found one released, room is 3 and freed is 1.
abbrev pub freed_on : SeatView → ℕ → ℕ
freed_on s l = (out_of s.lists l).room - s.shape.slots

-- How many parcels of a link the rank knows to be posted.
abbrev pub known_on : SeatView → ℕ → ℕ
known_on s l = length (in_of s.lists l).seen

-- How often the rank listened for a link.
abbrev pub listens_on : SeatView → ℕ → ℕ
listens_on s l = saturated_count (listens (in_of s.lists l))

-- How often it had heard the link's doorbell, and listened for the link, at the end of its latest
-- collect there.
abbrev pub hears_noted : SeatView → ℕ → ℕ
hears_noted s l = slice_index_or s.noted l 0

abbrev pub noted_at : SeatView → ℕ → ℕ
noted_at s l = noted_by (hears_noted s l) (in_of s.lists l)

-- What contracts see of the port of a seat, which noted these calls. It has no logs of others.
abbrev pub port_view : SeatView → List Call → PortView
port_view s calls = record {
  rank = s.rank;
  dims = s.shape.dims;
  slots = s.shape.slots;
  sent = posted_on s;
  got = collected_from s;
  freed = freed_on s;
  known = known_on s;
  calls = calls;
  looks_out = λ l. (out_of s.lists l).looks;
  looks_in = listens_on s;
  listens = listens_on s;
  noted = noted_at s;
  others = record { bank = table_name s.id; sent = λ l. []; got = λ l. [] };
}
