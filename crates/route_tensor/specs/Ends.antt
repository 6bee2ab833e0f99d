-- The two ends of a link, by its number.
use Rattle.std.specs.Prelude.{ℕ, zero, suc, ◌+◌, ◌-◌, ◌*◌, ◌/◌, ◌%◌, nat_lt, if◌then◌else◌, List, [], ◌∷◌}
use Rattle.route_tensor.specs.Grid.{ranks, dim}
use Rattle.route_tensor.specs.Link.{links_before}

-- The hop of a link, with p ranks: links are counted by hop, and hop h has p * nh of them.
unfoldable pub hop_among : ℕ → List ℕ → ℕ → ℕ
hop_among p [] l = 1
hop_among p (n ∷ ns) l = if nat_lt l (p * n) then 1 else suc (hop_among p ns (l - p * n))

-- The hop of the link with this number, counted from 1.
-- In the grid 2x2x2 the links 0 to 15 are those of hop 1, and link 17 is of hop 2.
unfoldable pub hop_at : List ℕ → ℕ → ℕ
hop_at dims l = hop_among (ranks dims) dims l

-- The place of a link among those of its hop.
-- link number - P * (n1 + .. + n(h-1))
-- In the grid 2x2x2 it is 1 for link 17.
unfoldable pub within_hop : List ℕ → ℕ → ℕ
within_hop dims l = l - ranks dims * links_before dims (hop_at dims l)

-- The rank at which the link with this number starts.
-- its place within its hop, divided by nh
-- In the grid 2x2x2 link 17 starts at rank 0.
unfoldable pub sender_at : List ℕ → ℕ → ℕ
sender_at dims l = within_hop dims l / dim dims (hop_at dims l)

-- Rank r with coordinate h set to c, counted from 1.
-- In the grid 2x2x2 rank 0 with coordinate 2 set to 1 is rank 2.
unfoldable pub with_coord : List ℕ → ℕ → ℕ → ℕ → ℕ
with_coord [] r h c = r
with_coord (n ∷ ns) r zero c = r
with_coord (n ∷ ns) r (suc zero) c = c + n * (r / n)
with_coord (n ∷ ns) r (suc (suc h)) c = r % n + n * with_coord ns (r / n) (suc h) c

-- The rank at which the link with this number ends: its sender, with coordinate h set to
-- its place within its hop, modulo nh.
-- In the grid 2x2x2 link 17 ends at rank 2.
unfoldable pub reader_at : List ℕ → ℕ → ℕ
reader_at dims l = with_coord dims (sender_at dims l) (hop_at dims l) (within_hop dims l % dim dims (hop_at dims l))
