-- The gathering seat: who has its seat still to come, and what was gathered.
use Rattle.std.specs.Prelude.{◌≡◌, ℕ, ◌<◌, Bool, true, false, List, [], map, length, replicate, slice_index_or, Option}
use Rattle.std.specs.Prelude.{Some, None}
use Rattle.item_buffer.specs.Contents.{Contents, as_shipped}
use Rattle.route_tensor.specs.Grid.{ranks}
use Rattle.route_tensor.specs.Link.{links}
use Rattle.route_tensor.specs.Ends.{reader_at}
use Rattle.atomic_table.specs.Table.{Me}
use Rattle.atomic_table.specs.Seated.{TableId}
use Rattle.port_bank.specs.Logs.{lasts}
use Rattle.link_slots.specs.declared.seat.rank_ends.RankEnds.{RankEnds}
use Rattle.link_slots.specs.declared.seat.rank_ends.EndedCounts.{EndedCounts}
use Rattle.link_slots.specs.Logs.{Lists, got_of}
use Rattle.link_slots.specs.View.{no_logs}
use Rattle.link_slots.specs.Shape.{Shape, IsShape}
use Rattle.link_slots.specs.WordSteps.{TableView}
use Rattle.link_slots.specs.OwnLinks.{IsOwn}
use Rattle.list_laws.specs.Counts.{saturated_count}
use Rattle.link_slots.specs.ClosedBank.{logs_at, ended_of}

-- What contracts see of it: its bank, the lists of each rank that has no seat, and which ranks'
-- seats were given out.
-- Example: at first the lists of all ranks are there and empty, and no rank is given out.
pub record Gathering : Type 0 where
  pub id : TableId
  pub shape : Shape
  pub lists : List (Option (Lists Contents))
  pub given : List Bool

abbrev pub is_gone : {A : Type 0} → Option A → Bool
is_gone (Some x) = false
is_gone None = true

-- The counts of a rank that did nothing yet.
pub record AreNew (count : ℕ) (e : RankEnds) : Type 0 where
  pub outs : e.outs.items ≡ replicate count (record { sent = 0; spare = 0 })
  pub ins : e.ins.items ≡ replicate count (record { taken = 0; waiting = 0; noted = 0; _filler = 0 })
  pub ears : e.ears ≡ replicate 3 (record { marks = 0; hears = 0 })
  pub ended : e.ended.items ≡ replicate count 0

-- A rank's seat is still to come.
abbrev pub HasNew : ℕ → Option RankEnds → Type 0
HasNew count (Some e) = AreNew count e
HasNew count None = ⊥

-- It holds no slot, has lists of each rank that are of its own links, has new counts and empty
-- lists for each rank whose seat is to come; and for each rank how many epochs its links in have
-- ended, by the lists that it has.
pub record IsGathering (shape : Shape) (m : Me Contents TableView) (ends : List (Option RankEnds))
    (ended : List (Option EndedCounts)) : Type 0 where
  pub shaped : IsShape shape
  pub of : m.0.shape ≡ shape
  pub no_slots : m.1 ≡ []
  pub lists_many : length m.0.lists ≡ ranks shape.dims
  pub ends_many : length ends ≡ ranks shape.dims
  pub each_new : (r : ℕ) (e : RankEnds) → slice_index_or ends r None ≡ Some e
      → AreNew (links shape.dims) e × (slice_index_or m.0.lists r None ≡ Some (no_logs (links shape.dims)))
  pub each_own : (r : ℕ) (x : Lists Contents) → slice_index_or m.0.lists r None ≡ Some x → IsOwn shape.dims r x
  pub ended_many : length ended ≡ ranks shape.dims
  pub each_ended : (r l : ℕ) → l < links shape.dims → reader_at shape.dims l ≡ r
      → ended_of (slice_index_or ended r None) l ≡ saturated_count (lasts (map as_shipped (got_of (logs_at m.0.lists r) l)))
