-- A rank at a link that it writes.
use Rattle.std.specs.Prelude.{◌≡◌, ℕ, ◌<◌, length}
use Rattle.item_buffer.specs.Contents.{Contents}
use Rattle.atomic_table.specs.Table.{Me}
use Rattle.atomic_table.specs.Seated.{TableId}
use Rattle.link_slots.specs.declared.seat.ends.OutEnd.{OutEnd}
use Rattle.link_slots.specs.Logs.{out_of, with_out}
use Rattle.link_slots.specs.View.{own_logs, with_logs}
use Rattle.link_slots.specs.Shape.{Shape}
use Rattle.link_slots.specs.WordSteps.{TableView, IsAtOut, StaysSeated}
use Rattle.link_slots.specs.Counts.{IsOutEnd}

-- A rank's seat m in its place, and link l, which starts at the rank and has so many slots. What
-- the rank counts of the link, beside the table, agrees with the seat's lists.
pub record WritesLink (shape : Shape) (table place : TableId) (m : Me Contents TableView) (l slots : ℕ)
    (counts : OutEnd) : Type 0 where
  pub at : IsAtOut shape table place m l
  pub slots_are : slots ≡ shape.slots
  pub long : l < length (own_logs m.0).outs
  pub end : IsOutEnd shape.slots (out_of (own_logs m.0) l) counts.sent counts.spare

-- What a rank's step on that link leaves, from m to m': its counts tell again what its lists do,
-- and what it did on the link is all that changed of the seat.
pub record HasWrittenLink (shape : Shape) (place place' : TableId) (m m' : Me Contents TableView) (l : ℕ)
    (counts : OutEnd) : Type 0 where
  pub stays : StaysSeated shape place place' m'
  pub end : IsOutEnd shape.slots (out_of (own_logs m'.0) l) counts.sent counts.spare
  pub here : m'.0 ≡ with_logs m.0 (with_out (own_logs m.0) l (out_of (own_logs m'.0) l))
