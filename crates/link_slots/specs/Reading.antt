-- A rank at a link that it reads.
use Rattle.std.specs.Prelude.{◌≡◌, ◌≢◌, ℕ, suc, ◌<◌, ◌≤◌, false, take, length}
use mathlib.Core.Option.{some}
use lib.ListN.{get_elem?}
use Rattle.bale_items.specs.Counters.{RoseOrFull}
use Rattle.item_buffer.specs.Contents.{Contents}
use Rattle.route_tensor.specs.Link.{links}
use Rattle.route_tensor.specs.Ends.{hop_at, sender_at, reader_at}
use Rattle.list_laws.specs.Lists.{IsPrefix}
use Rattle.list_laws.specs.Counts.{saturated_count}
use Rattle.port_bank.specs.declared.port.Collected.{Collected}
use Rattle.port_bank.specs.declared.port.Collected.TheVariants.{Got, Nothing}
use Rattle.atomic_table.specs.Table.{Me}
use Rattle.atomic_table.specs.Seated.{TableId}
use Rattle.link_slots.specs.declared.seat.ends.InEnd.{InEnd}
use Rattle.link_slots.specs.declared.seat.ear.Ear.{Ear}
use Rattle.link_slots.specs.declared.table.wire.Wire.{Wire}
use Rattle.link_slots.specs.Logs.{Lists, out_of, in_of, with_in, taken_more, listens}
use Rattle.link_slots.specs.View.{own_logs, with_logs}
use Rattle.link_slots.specs.Shape.{Shape}
use Rattle.link_slots.specs.WordSteps.{TableView, IsAtIn, StaysSeated}
use Rattle.link_slots.specs.Counts.{IsInEnd, IsWire, IsHeard, KeepsOtherLinks, AreGood, noted_by}
use Rattle.link_slots.specs.Doorbell.{is_due, HeardWhere, LookedFor}

-- A rank's seat m in its place, and link l, which ends at the rank. What the rank counts of the
-- link and of its hop's doorbell, beside the table, agrees with the seat's lists.
pub record ReadsLink (shape : Shape) (table place : TableId) (m : Me Contents TableView) (l : ℕ) (counts : InEnd)
    (way : Wire) (bell : Ear) : Type 0 where
  pub at : IsAtIn shape table place m l
  pub long : length (own_logs m.0).ins ≡ links shape.dims
  pub end : IsInEnd shape.slots (in_of (own_logs m.0) l) counts.taken counts.waiting counts.noted
  pub wire : IsWire shape.dims l way.bell way.mask way.hop
  pub ear : IsHeard shape m.0.pick (hop_at shape.dims l) (own_logs m.0) bell.marks bell.hears

-- A rank's step on that link, from m to m': its counts agree with its lists again, nothing but the
-- lists of the seat changed, and of other links only what a hear changes.
pub record HasRead (shape : Shape) (place place' : TableId) (m m' : Me Contents TableView) (l : ℕ) (counts : InEnd)
    (bell : Ear) : Type 0 where
  pub stays : StaysSeated shape place place' m'
  pub end : IsInEnd shape.slots (in_of (own_logs m'.0) l) counts.taken counts.waiting counts.noted
  pub ear : IsHeard shape m.0.pick (hop_at shape.dims l) (own_logs m'.0) bell.marks bell.hears
  pub here : m'.0 ≡ with_logs m.0 (own_logs m'.0)
  pub others : KeepsOtherLinks shape m.0.pick l (own_logs m.0) (own_logs m'.0)

-- A collect from link l into parcel p, with p' at hand after it, for parcels of capacity cap: the
-- rank's lists go from x to x', and what it counts of the link from counts to counts'.
-- good: each parcel seen on the link may follow those before it.
-- seen, more: nothing that was seen is lost, and the rank listened no less often.
-- noted: how often the doorbell was heard by the end of the call is noted.
-- If the answer is Got:
--   taken, parcel: the parcel at hand is the next one of the link, and is counted as taken.
--   own: on a link from the rank to itself, what it saw is a prefix of what it posted.
-- If it is Nothing:
--   not_taken, kept: nothing was taken, and the parcel at hand didn't change.
--   none_known: everything that was seen is taken.
--   unmarked, listened: the rank listened since its latest collect on the link, which isn't marked
--   now.
-- If a parcel was at hand:
--   at_hand, no_looking: it is taken without a step of looking.
-- If none was:
--   heard, looked: the doorbell is heard if and only if a hear is due, and the link is looked in if
--   and only if it is then marked.
pub record CollectsOn (cap : ℕ) (shape : Shape) (rank l : ℕ) (counts counts' : InEnd) (x x' : Lists Contents)
    (p : Contents) (answer : Collected) (p' : Contents) : Type 0 where
  pub good : AreGood cap shape l (in_of x' l)
  pub seen : take (length (in_of x l).seen) (in_of x' l).seen ≡ (in_of x l).seen
  pub more : listens (in_of x l) ≤ listens (in_of x' l)
  pub noted : counts'.noted ≡ saturated_count (in_of x' l).hears
  pub taken : answer ≡ Got → (in_of x' l).taken ≡ suc (in_of x l).taken
  pub parcel : answer ≡ Got → get_elem? (in_of x' l).seen (in_of x l).taken ≡ some p'
  pub own : answer ≡ Got → sender_at shape.dims l ≡ rank → IsPrefix (in_of x' l).seen (out_of x' l).sent
  pub not_taken : answer ≡ Nothing → (in_of x' l).taken ≡ (in_of x l).taken
  pub none_known : answer ≡ Nothing → length (in_of x' l).seen ≡ (in_of x l).taken
  pub unmarked : answer ≡ Nothing → (in_of x' l).marked ≡ false
  pub listened : answer ≡ Nothing
      → RoseOrFull (noted_by counts.noted (in_of x l)) (saturated_count (listens (in_of x' l)))
  pub kept : answer ≡ Nothing → p' ≡ p
  pub at_hand : counts.waiting ≢ 0 → answer ≡ Got
  pub no_looking : counts.waiting ≢ 0 → x' ≡ with_in x l (taken_more (in_of x l) (in_of x' l).released_at)
  pub heard : counts.waiting ≡ 0 → (m : ℕ) → m < links shape.dims → reader_at shape.dims m ≡ rank
      → hop_at shape.dims m ≡ hop_at shape.dims l → m ≢ l
      → HeardWhere (is_due counts.noted (in_of x l)) (in_of x m) (in_of x' m)
  pub looked : counts.waiting ≡ 0 → LookedFor counts.noted (in_of x l) (in_of x' l)
