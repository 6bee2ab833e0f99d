-- What is kept of a rank's seat.
use Rattle.std.specs.Prelude.{◌≡◌, ℕ, ◌+◌, ◌<◌, List, length, map, slice_index_or}
use Rattle.item_buffer.specs.Capacity.{IsCap}
use Rattle.item_buffer.specs.Contents.{Contents, as_shipped}
use Rattle.route_tensor.specs.declared.by_hops.TheConstants.{MOST_HOPS}
use Rattle.route_tensor.specs.Grid.{ranks}
use Rattle.route_tensor.specs.Link.{links}
use Rattle.route_tensor.specs.Ends.{sender_at, reader_at}
use Rattle.atomic_table.specs.Table.{Me}
use Rattle.port_bank.specs.Logs.{lasts}
use Rattle.link_slots.specs.declared.seat.ends.OutEnd.{OutEnd}
use Rattle.link_slots.specs.declared.seat.ends.InEnd.{InEnd}
use Rattle.link_slots.specs.declared.seat.ear.Ear.{Ear}
use Rattle.link_slots.specs.declared.table.wire.Wire.{Wire}
use Rattle.atomic_table.specs.Seated.{TableId}
use Rattle.link_slots.specs.Logs.{out_of, in_of, got_of}
use Rattle.link_slots.specs.View.{own_logs, IsAlone}
use Rattle.link_slots.specs.Shape.{Shape, IsShape, IsBoard}
use Rattle.link_slots.specs.WordSteps.{TableView, HoldsSeat}
use Rattle.link_slots.specs.OwnLinks.{IsOwn}
use Rattle.list_laws.specs.Counts.{saturated_count}
use Rattle.link_slots.specs.Counts.{IsOutEnd, IsInEnd, IsHeard, AreGood, IsWire}

-- The seat is that of its rank, and its counts are those of the rank's links.
pub record IsSeat (cap : ℕ) (shape : Shape) (m : Me Contents TableView) (rank : ℕ) (outs : List OutEnd) (ins : List InEnd)
    (ears : List Ear) (ended : List ℕ) : Type 0 where
  pub shaped : IsShape shape
  pub manned : HoldsSeat shape m
  pub alone : IsAlone m.0
  pub own : IsOwn shape.dims rank (own_logs m.0)
  pub rank_is : m.0.pick ≡ rank
  pub rank_small : rank < ranks shape.dims
  pub outs_many : length outs ≡ links shape.dims
  pub ins_many : length ins ≡ links shape.dims
  pub ears_many : length ears ≡ MOST_HOPS
  pub ended_many : length ended ≡ links shape.dims
  pub lists_out : length (own_logs m.0).outs ≡ links shape.dims
  pub lists_in : length (own_logs m.0).ins ≡ links shape.dims
  pub each_out : (l : ℕ) (d : OutEnd) → l < links shape.dims → sender_at shape.dims l ≡ rank
      → let e = slice_index_or outs l d in IsOutEnd shape.slots (out_of (own_logs m.0) l) e.sent e.spare
  pub each_in : (l : ℕ) (d : InEnd) → l < links shape.dims → reader_at shape.dims l ≡ rank
      → let e = slice_index_or ins l d in IsInEnd shape.slots
      (in_of (own_logs m.0) l) e.taken e.waiting e.noted
  pub each_ear : (h : ℕ) (d : Ear) → h < MOST_HOPS
      → let e = slice_index_or ears h d in IsHeard shape rank (h + 1) (own_logs m.0) e.marks e.hears
  pub each_good : (l : ℕ) → l < links shape.dims → reader_at shape.dims l ≡ rank
      → AreGood cap shape l (in_of (own_logs m.0) l)
  pub each_ended : (l d : ℕ) → l < links shape.dims → reader_at shape.dims l ≡ rank
      → slice_index_or ended l d ≡ saturated_count (lasts (map as_shipped (got_of (own_logs m.0) l)))

-- What is stored of a bank beside its table: the words of each link, by its number.
pub record IsWiredUp (cap : ℕ) (shape : Shape) (id : TableId) (slots : ℕ) (grid : List ℕ)
    (wires : List Wire) : Type 0 where
  pub is_cap : IsCap cap
  pub board : IsBoard shape id
  pub slots_is : slots ≡ shape.slots
  pub grid_is : grid ≡ shape.dims
  pub many : length wires ≡ links shape.dims
  pub each : (l : ℕ) (d : Wire) → l < links shape.dims
      → let w = slice_index_or wires l d in IsWire shape.dims l w.bell w.mask w.hop
