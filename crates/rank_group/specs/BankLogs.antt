-- The logs of all links over one bank: what holds of them, how a rank's turn lets them grow, and
-- how much has moved.
use Rattle.std.specs.Prelude.{◌≡◌, ℕ, ◌+◌, ◌-◌, ◌<◌, ◌≤◌, List, [], length}
use Rattle.std.specs.List.{flat_map}
use Rattle.bale_items.specs.declared.item.Entry.{Entry}
use Rattle.item_buffer.specs.Contents.{Shipped}
use Rattle.list_laws.specs.Lists.{IsPrefix}
use Rattle.list_laws.specs.Sums.{total}
use Rattle.route_tensor.specs.Grid.{ranks, IsGrid}
use Rattle.route_tensor.specs.Link.{links}
use Rattle.route_tensor.specs.Ends.{sender_at}
use Rattle.port_bank.specs.Logs.{Logs, starting_at, ending_at, starting_elsewhere, ending_elsewhere}
use Rattle.port_bank.specs.Link.{LinkLaw}
use Rattle.port_bank.specs.Relay.{RelayLaw}

-- The entries of some parcels.
abbrev pub parcel_entries : List Shipped → List Entry
parcel_entries log = flat_map (λ p. p.entries) log

-- The logs of a bank with this many slots a link: each link keeps its law, each rank relays only
-- what it got, and beyond the last link there is nothing.
pub record AreBankLogs (dims : List ℕ) (cap slots : ℕ) (sent got : Logs) : Type 0 where
  pub grid : IsGrid dims
  pub links_keep : (l : ℕ) → l < links dims → LinkLaw cap slots (sent l) (got l)
  pub none_past : (l : ℕ) → links dims ≤ l → (sent l ≡ []) × (got l ≡ [])
  pub relays : (r : ℕ) → r < ranks dims → RelayLaw dims r sent got

-- In a turn of rank r its own logs grow, and no other rank's log changes.
-- one_sent: it posts at most one parcel on a link.
pub record OwnLogsGrow (dims : List ℕ) (r : ℕ) (sent got sent' got' : Logs) : Type 0 where
  pub sent_elsewhere : starting_elsewhere dims r sent' ≡ starting_elsewhere dims r sent
  pub got_elsewhere : ending_elsewhere dims r got' ≡ ending_elsewhere dims r got
  pub sent_grows : (l : ℕ) → IsPrefix (starting_at dims r sent l) (starting_at dims r sent' l)
  pub got_grows : (l : ℕ) → IsPrefix (ending_at dims r got l) (ending_at dims r got' l)
  pub one_sent : (l : ℕ) → l < links dims → sender_at dims l ≡ r
      → length (starting_at dims r sent' l) ≤ length (starting_at dims r sent l) + 1

-- How much has moved over a link whose reader holds `inbox l` entries: parcels posted and
-- collected, and entries that the reader took.
-- With two parcels posted, one of them, of three entries, collected, and two of these still in the
-- inbox, it is 2 + 1 + 1 = 4.
abbrev pub moved_over : Logs → Logs → (ℕ → ℕ) → ℕ → ℕ
moved_over sent got inbox l = length (sent l) + length (got l) + (length (parcel_entries (got l)) - inbox l)

-- The same over all links.
abbrev pub moved : List ℕ → Logs → Logs → (ℕ → ℕ) → ℕ
moved dims sent got inbox = total (links dims) (moved_over sent got inbox)
