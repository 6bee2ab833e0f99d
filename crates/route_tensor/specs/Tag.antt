-- Tags, and which are fair on a hop.
use Rattle.std.specs.Prelude.{◌≡◌, ℕ, zero, suc, ◌+◌, ◌-◌, ◌*◌, ◌<◌, ◌≤◌, nat_lt, List, [], ◌∷◌, length, if◌then◌else◌}
use Rattle.bale_items.specs.declared.item.Tag.{Tag}
use Rattle.route_tensor.specs.Grid.{dim, coord, place}

-- Digit h of a tag, counted from 1.
-- Digit 3 of the tag (0,1,1) is 1.
unfoldable pub digit : Tag → ℕ → ℕ
digit tag zero = 0
digit tag (suc zero) = tag.d1
digit tag (suc (suc zero)) = tag.d2
digit tag (suc (suc (suc zero))) = tag.d3
digit tag (suc (suc (suc (suc h)))) = 0

-- The tag with digit h set to c.
-- with_digit (0,1,1) 2 0 = (0,0,1)
unfoldable pub with_digit : Tag → ℕ → ℕ → Tag
with_digit tag zero c = tag
with_digit tag (suc zero) c = record tag { d1 = c }
with_digit tag (suc (suc zero)) c = record tag { d2 = c }
with_digit tag (suc (suc (suc zero))) c = record tag { d3 = c }
with_digit tag (suc (suc (suc (suc h)))) c = tag

-- A tag is fair on hop h: every digit of a dimension is below it, digit h and the digits past the
-- last dimension are 0.
-- On hop 1 of the grid 2x2x2 the tag (0,1,1) is fair and (1,1,1) isn't.
pub record IsFair (dims : List ℕ) (h : ℕ) (tag : Tag) : Type 0 where
  pub below : (i : ℕ) → 1 ≤ i → i ≤ length dims → digit tag i < dim dims i
  pub here : digit tag h ≡ 0
  pub past : (i : ℕ) → length dims < i → digit tag i ≡ 0

-- Digit i of the tag from s to d on hop h: below h the sender's coordinate, at h 0, above h the
-- destination's.
unfoldable pub tag_digit : List ℕ → ℕ → ℕ → ℕ → ℕ → ℕ
tag_digit dims s d h i = if nat_lt i h then coord dims s i else if nat_lt h i then coord dims d i else 0

-- The tag of an entry from s to d on its link of hop h.
-- In the grid 2x2x2 the tags from 1 to 6 are (0,1,1), (1,0,1) and (1,0,0).
abbrev pub tag_at : List ℕ → ℕ → ℕ → ℕ → Tag
tag_at dims s d h = record { d1 = tag_digit dims s d h 1; d2 = tag_digit dims s d h 2; d3 = tag_digit dims s d h 3 }

-- The tag on the next link, of an entry that came from a on hop h: digit h becomes a's coordinate,
-- digit h+1 becomes 0.
-- In the grid 2x2x2, with a = 1 and h = 1, (0,1,1) becomes (1,0,1).
abbrev pub next_tag : List ℕ → Tag → ℕ → ℕ → Tag
next_tag dims tag h a = with_digit (with_digit tag h (coord dims a h)) (h + 1) 0

-- The rank whose coordinates are these digits.
-- rank_of (n1 .. nk) (c1 .. ck) = c1 + n1 * (c2 + n2 * c3)
unfoldable pub rank_of : List ℕ → List ℕ → ℕ
rank_of [] cs = 0
rank_of (n ∷ ns) [] = 0
rank_of (n ∷ ns) (c ∷ cs) = c + n * rank_of ns cs

-- A tag read as a rank.
abbrev pub tag_rank : List ℕ → Tag → ℕ
tag_rank dims tag = rank_of dims (tag.d1 ∷ tag.d2 ∷ tag.d3 ∷ [])

-- The sender of an entry on the link (h,a,b): its coordinates below h are in the tag, the others
-- are a's.
-- In the grid 2x2x2, with the tag (1,0,1) on (2,0,2), it is 1.
abbrev pub sender_of : List ℕ → Tag → ℕ → ℕ → ℕ
sender_of dims tag h a = place dims a (tag_rank dims tag) (h - 1)

-- The destination of an entry on the link (h,a,b): its coordinates up to h are b's, the others
-- are in the tag.
-- In the grid 2x2x2, with the tag (1,0,1) on (2,0,2), it is 6.
abbrev pub destination_of : List ℕ → Tag → ℕ → ℕ → ℕ
destination_of dims tag h b = place dims (tag_rank dims tag) b h
