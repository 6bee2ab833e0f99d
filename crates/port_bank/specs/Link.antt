-- What the two logs of one link keep, at every moment.
use Rattle.std.specs.Prelude.{ℕ, ◌+◌, ◌≤◌, List, length}
use Rattle.std.specs.List.{All}
use Rattle.item_buffer.specs.Contents.{Shipped}
use Rattle.port_bank.specs.Logs.{IsDated}
use Rattle.list_laws.specs.Lists.{IsPrefix}

-- The law of a link between two ranks, for parcels of capacity cap and with so many slots.
-- begins: what its reader collected is a prefix of what was posted.
-- bound: at most as many parcels as there are slots are posted and not collected.
-- dated: each parcel has the epoch that it was posted in.
-- fits: no parcel holds more entries than its capacity.
-- Example: with 2 slots, posted [p, q, r] and collected [p] keep the bound; collected [] would not.
pub record LinkLaw (cap slots : ℕ) (sent got : List Shipped) : Type 0 where
  pub begins : IsPrefix got sent
  pub bound : length sent ≤ length got + slots
  pub dated : IsDated sent
  pub fits : All (λ p. length p.entries ≤ cap) sent
