-- A running rank's part of the exchange machine, by its buffers and its port's lists.
use Rattle.std.specs.Prelude.{ℕ, ◌-◌, ◌==◌, List, [], ◌++◌, length, take, if◌then◌else◌}
use Rattle.std.specs.Option.{option_map}
use Rattle.bale_items.specs.declared.item.Item.{Item}
use Rattle.route_tensor.specs.Grid.{ranks}
use Rattle.route_tensor.specs.Tag.{sender_of}
use Rattle.route_tensor.specs.Ends.{sender_at}
use Rattle.port_bank.specs.Logs.{Logs}
use Rattle.port_bank.specs.Flow.{hop_link, flow}
use Rattle.route_tensor.specs.Pair.{belongs}
use Rattle.port_bank.specs.Machine.{Part, for_ranks}
use Rattle.convey.specs.Buffers.{Buffers}
use Rattle.convey.specs.Agreement.{items_among}

-- What a rank pushed toward d in an epoch: the flow that it sent on hop 1 and, in its current
-- epoch, the items for d in the open parcel.
-- With [x] sent and [y] in the open parcel toward d it is [x, y].
abbrev pub pushed_to : Buffers → Logs → ℕ → ℕ → List Item
pushed_to b sent e d = flow b.dims sent b.rank d 1 e
    ++ (if e == b.epoch then items_among (belongs b.dims b.rank d 1) (b.waiting (hop_link b.dims b.rank d 1)) else [])

-- How many items of s are unread: in the current epoch those in the inbox of the last link from s.
abbrev pub unread_of : Buffers → ℕ → ℕ → ℕ
unread_of b e s =
    if e == b.epoch
    then length
    (items_among (belongs b.dims s b.rank (length b.dims)) (b.unread (hop_link b.dims s b.rank (length b.dims)))) else 0

-- What a rank pulled of s in an epoch: the flow that it got on the last hop, less what is unread.
-- With [x, y] got and y unread it is [x].
abbrev pub pulled_of : Buffers → Logs → ℕ → ℕ → List Item
pulled_of b got e s =
    let came : List Item = flow b.dims got s b.rank (length b.dims) e in
    take (length came - unread_of b e s) came

-- The rank's part of the machine.
abbrev pub part_of : Buffers → Logs → Logs → Part
part_of b sent got = record {
  epoch = b.epoch;
  done = b.done;
  complete = b.complete;
  latest = option_map (λ p. sender_of b.dims p.1.tag (length b.dims) (sender_at b.dims p.0)) b.latest;
  pushed = for_ranks (ranks b.dims) (pushed_to b sent);
  pulled = for_ranks (ranks b.dims) (pulled_of b got);
}
