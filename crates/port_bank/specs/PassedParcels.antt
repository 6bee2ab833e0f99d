-- What went over a link, if nothing of it is kept.
use Rattle.std.specs.Prelude.{List, [], ◌∷◌, ◌++◌}
use Rattle.bale_items.specs.declared.item.Entry.{Entry}
use Rattle.item_buffer.specs.Contents.{Shipped}
use Rattle.port_bank.specs.declared.log.Entries.{Entries, None, And'}
use Rattle.port_bank.specs.declared.log.Log.{Log, Nothing, Then'}

-- The entries that passed, in order.
abbrev pub passed_entries : Entries → List Entry
passed_entries None = []
passed_entries (And' marker before entry) = passed_entries before ++ entry.value ∷ []

-- The parcels of a log, in the order in which they were added.
abbrev pub parcels_of : Log → List Shipped
parcels_of Nothing = []
parcels_of (Then' marker before entries last epoch) =
    parcels_of before ++ record { entries = passed_entries entries.value; last = last.value; epoch = epoch.value } ∷ []
