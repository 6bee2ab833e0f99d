-- One rank's links, as contracts see them.
use Rattle.std.specs.Prelude.{ℕ, ◌-◌, ◌==◌, Bool, false, not, if◌then◌else◌, List, [], ◌∷◌, ◌++◌, length, drop}
use Rattle.std.specs.Prelude.{slice_get, Option, Some, None}
use Rattle.bale_items.specs.declared.item.Item.{Item}
use Rattle.bale_items.specs.declared.item.Tag.{Tag}
use Rattle.bale_items.specs.declared.item.Entry.{Entry}
use Rattle.item_buffer.specs.Contents.{Shipped}

-- A link out: the entries that wait for its next exchange parcel; whether it is closed, that is,
-- its last parcel of this epoch was posted; and whether its parcel of this round is due, that is,
-- still to be posted.
pub record StackOut : Type 0 where
  pub waiting : List Entry
  pub closed : Bool
  pub due : Bool

-- A link in: the entries that came and are unread; the one that was read last, if it can be put
-- back; whether the link has ended, that is, its last parcel of this epoch was collected; and
-- whether its parcel of this round is due, that is, still to be collected.
pub record StackIn : Type 0 where
  pub unread : List Entry
  pub back : Option Entry
  pub ended : Bool
  pub due : Bool

-- A link of a new exstack; it is also the link that is read past the end of a list.
abbrev pub no_stack_out : StackOut
no_stack_out = record { waiting = []; closed = false; due = false }

abbrev pub no_stack_in : StackIn
no_stack_in = record { unread = []; back = None; ended = false; due = false }

-- An entry that goes over one hop: its tag has no digits.
abbrev pub no_tag : Tag
no_tag = record { d1 = 0; d2 = 0; d3 = 0 }

abbrev pub plain_entry : Item → Entry
plain_entry item = record { tag = no_tag; item = item }

-- How many entries may still be pushed on a link out.
-- At capacity 2 it is 1 if [x] waits.
abbrev pub headroom_of : ℕ → StackOut → ℕ
headroom_of cap o = cap - length o.waiting

-- Whether an inbox has an unread item.
abbrev pub has_unread : StackIn → Bool
has_unread i = not (length i.unread == 0)

-- A link out with one entry more.
abbrev pub with_waiting_entry : StackOut → Entry → StackOut
with_waiting_entry o e = record o { waiting = o.waiting ++ e ∷ [] }

-- A link in of which the first unread entry was read, or the first n one after the other; and one
-- with the entry that was read last put back.
-- Of [x, y, z] one leaves [y, z], and x to be put back; two leave [z], and y.
abbrev pub with_first_read : StackIn → StackIn
with_first_read i = record i { unread = drop 1 i.unread; back = slice_get i.unread 0 }

abbrev pub stack_read_on : ℕ → StackIn → StackIn
stack_read_on n i = record i { unread = drop n i.unread; back = (if n == 0 then i.back else slice_get i.unread (n - 1)) }

abbrev pub with_put_back : Option Entry → StackIn → StackIn
with_put_back None i = i
with_put_back (Some e) i = record i { unread = e ∷ i.unread; back = None }

-- A round begins: a parcel is due on each link that isn't closed, or hasn't ended.
abbrev pub begun_out : StackOut → StackOut
begun_out o = record o { due = not o.closed }

abbrev pub begun_in : StackIn → StackIn
begun_in i = record { unread = []; back = None; ended = i.ended; due = not i.ended }

-- The parcel of a link out in a round, and the link after it was posted: it is closed if that
-- was the last one.
abbrev pub parcel_of : Bool → ℕ → StackOut → Shipped
parcel_of last epoch o = record { entries = o.waiting; last = last; epoch = epoch }

abbrev pub gone : Bool → StackOut
gone last = record { waiting = []; closed = last; due = false }

-- A link in after it collected a parcel: of an exchange parcel the entries are unread, those of a
-- proceed parcel are dropped.
abbrev pub came : Bool → Shipped → StackIn
came exchange p = record { unread = if exchange then p.entries else []; back = None; ended = p.last; due = false }

-- A new epoch begins.
abbrev pub stack_out_in_new_epoch : StackOut → StackOut
stack_out_in_new_epoch o = record o { closed = false }

abbrev pub stack_in_in_new_epoch : StackIn → StackIn
stack_in_in_new_epoch i = record i { ended = false }
