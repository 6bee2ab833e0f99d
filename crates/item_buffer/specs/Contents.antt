-- What contracts see of a parcel, and what a link's log keeps of one.
use Rattle.std.specs.Prelude.{◌≡◌, ℕ, ◌+◌, ◌-◌, ◌==◌, Bool, false, if◌then◌else◌, List, [], drop, slice_get, Option}
use Rattle.std.specs.Prelude.{None}
use Rattle.bale_items.specs.declared.item.Entry.{Entry}

-- A parcel: the entries that nobody took yet, its two marks, the entry that `untake` would put
-- back, and the number of entries taken since the last clear and not put back.
-- Example: at capacity 3, after pushing x and y and taking one, untaken is [y], back is Some x,
-- taken is 1.
pub record Contents : Type 0 where
  pub untaken : List Entry
  pub last : Bool
  pub epoch : ℕ
  pub back : Option Entry
  pub taken : ℕ

-- A parcel is fresh if no entry of it is taken, so that there is none to put back either.
pub record IsFresh (c : Contents) : Type 0 where
  pub none_taken : c.taken ≡ 0
  pub none_back : c.back ≡ None

-- A parcel as a log keeps it: what travels, and nothing of who has read how far.
pub record Shipped : Type 0 where
  pub entries : List Entry
  pub last : Bool
  pub epoch : ℕ

-- What a log keeps of a parcel that is sent now: the entries left in it, and its marks.
abbrev pub as_shipped : Contents → Shipped
as_shipped c = record { entries = c.untaken; last = c.last; epoch = c.epoch }

-- A parcel as it arrives, with nothing taken: `as_shipped (as_arrived s)` is `s`.
abbrev pub as_arrived : Shipped → Contents
as_arrived s = record { untaken = s.entries; last = s.last; epoch = s.epoch; back = None; taken = 0 }

-- The empty fresh parcel of an epoch, not marked last.
abbrev pub blank : ℕ → Contents
blank epoch = record { untaken = []; last = false; epoch = epoch; back = None; taken = 0 }

-- A parcel after its first n untaken entries were taken, one after the other.
-- Of [x, y, z] two leave [z], and y to be put back; none leaves the parcel as it was.
abbrev pub after_skip : ℕ → Contents → Contents
after_skip n c = record c {
  untaken = drop n c.untaken;
  back = (if n == 0 then c.back else slice_get c.untaken (n - 1));
  taken = c.taken + n;
}
