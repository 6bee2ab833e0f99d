-- What NoRoom says of the slots of a link.
use Rattle.std.specs.Prelude.{◌≡◌, ℕ, ◌+◌, ◌<◌, length}
use Rattle.item_buffer.specs.Contents.{Contents}
use Rattle.route_tensor.specs.Link.{links}
use Rattle.route_tensor.specs.Ends.{sender_at, reader_at}
use Rattle.atomic_table.specs.Table.{State}
use Rattle.link_slots.specs.Logs.{OutLog, InLog, out_of, in_of}
use Rattle.link_slots.specs.Shape.{Shape}
use Rattle.link_slots.specs.WordSteps.{TableView, IsLawful}

-- What the sender of a link knows when a post answers NoRoom: it has looked for room since the
-- latest release, and has posted up to the room that it found.
pub record IsFullFor (o : OutLog Contents) (i : InLog Contents) : Type 0 where
  pub looked : i.released_at < o.looks
  pub posted : o.room ≡ length o.sent

-- In a lawful bank whose sender knows that of a link, every slot of the link is taken: as many
-- parcels as it has slots were posted and not collected.
-- Example: with 2 slots, rank 0 posted three parcels, of which rank 1 took one before rank 0
-- looked: a fourth finds no room, since parcels 1 and 2 are in transit.
abbrev pub NoRoomLaw : ℕ → Type 0
NoRoomLaw cap = (shape : Shape) (s : State Contents TableView) (l : ℕ) → (bank : IsLawful cap shape s)
    → l < links shape.dims
    → IsFullFor (out_of (bank.logs (sender_at shape.dims l)) l) (in_of (bank.logs (reader_at shape.dims l)) l)
    → length (out_of (bank.logs (sender_at shape.dims l)) l).sent
    ≡ (in_of (bank.logs (reader_at shape.dims l)) l).taken + shape.slots

-- And the step that counts a look finds all the room that there is: from the state s to s' the
-- link's reader did nothing, and its sender looked once more.
abbrev pub LookLaw : ℕ → Type 0
LookLaw cap = (shape : Shape) (s s' : State Contents TableView) (l : ℕ) → (was : IsLawful cap shape s)
    → (now : IsLawful cap shape s') → l < links shape.dims
    → in_of (now.logs (reader_at shape.dims l)) l ≡ in_of (was.logs (reader_at shape.dims l)) l
    → (out_of (was.logs (sender_at shape.dims l)) l).looks < (out_of (now.logs (sender_at shape.dims l)) l).looks
    → (out_of (now.logs (sender_at shape.dims l)) l).room
    ≡ (in_of (now.logs (reader_at shape.dims l)) l).taken + shape.slots
