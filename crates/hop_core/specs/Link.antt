-- The links of one rank, as contracts see them.
use Rattle.std.specs.Prelude.{◌≡◌, ℕ, Bool, true, false, ◌==◌, ◌&&◌, ◌||◌, not, ◌<◌, ◌≤◌, List, length, slice_get}
use Rattle.std.specs.Prelude.{slice_index_or, drop, Option, Some, None, ◌+◌, ◌-◌, ◌∷◌, ◌++◌, []}
use Rattle.bale_items.specs.declared.item.Entry.{Entry}
use Rattle.item_buffer.specs.Contents.{Contents, blank, after_skip}

-- A link out: its open parcel, and whether it is closed, that is, its last parcel of this epoch was
-- sent.
pub record Out : Type 0 where
  pub parcel : Contents
  pub closed : Bool

-- A link in: its inbox, and whether it has ended, that is, its last parcel of this epoch was got.
pub record In : Type 0 where
  pub parcel : Contents
  pub ended : Bool

-- The link that is read past the end of a list.
abbrev pub no_out : Out
no_out = record { parcel = blank 0; closed = false }

abbrev pub no_in : In
no_in = record { parcel = blank 0; ended = false }

abbrev pub is_empty : Contents → Bool
is_empty c = length c.untaken == 0

-- Whether an open parcel is to be sent: it is full, or the state is steady and it isn't empty, or
-- its hop has reached its end and the link isn't closed.
-- At capacity 2, not steady and before the end of its hop, [x] isn't due and [x, y] is.
abbrev pub is_due : ℕ → Bool → Bool → Out → Bool
is_due cap steady at_end o =
    (length o.parcel.untaken == cap) || (steady && not (is_empty o.parcel)) || (at_end && not o.closed)

-- Whether a parcel is to be collected into an inbox: it is empty and the link hasn't ended.
abbrev pub is_wanted : In → Bool
is_wanted i = is_empty i.parcel && not i.ended

-- Whether nothing of this epoch is left to come over a link, nor to be read from its inbox.
abbrev pub is_finished : In → Bool
is_finished i = i.ended && is_empty i.parcel

-- A search from link `from` on finds the lowest link whose inbox has an entry, and nothing only
-- if none has.
pub record FindsUnread (from : ℕ) (ins : List In) (found : Option ℕ) : Type 0 where
  pub from_here : (r : ℕ) → found ≡ Some r → from ≤ r
  pub within : (r : ℕ) → found ≡ Some r → r < length ins
  pub some : (r : ℕ) → found ≡ Some r → is_empty (slice_index_or ins r no_in).parcel ≡ false
  pub below : (r : ℕ) → found ≡ Some r → (i : ℕ) → from ≤ i → i < r
      → is_empty (slice_index_or ins i no_in).parcel ≡ true
  pub none : found ≡ None → (i : ℕ) → from ≤ i → i < length ins → is_empty (slice_index_or ins i no_in).parcel ≡ true

-- A parcel with one entry more.
abbrev pub with_entry : Contents → Entry → Contents
with_entry c e = record c { untaken = c.untaken ++ e ∷ [] }

-- A parcel whose first untaken entry was taken, and one whose entry taken last was put back.
-- Of [x, y] the first leaves [y], and x to be put back.
abbrev pub with_first_taken : Contents → Contents
with_first_taken c = record c { untaken = drop 1 c.untaken; back = slice_get c.untaken 0; taken = c.taken + 1 }

abbrev pub with_back : Option Entry → Contents → Contents
with_back None c = c
with_back (Some e) c = record c { untaken = e ∷ c.untaken; back = None; taken = c.taken - 1 }

-- A link in of which the first n untaken entries were taken, one after the other.
-- Of an inbox [x, y, z] two leave [z].
abbrev pub read_on : ℕ → In → In
read_on n x = record x { parcel = after_skip n x.parcel }
