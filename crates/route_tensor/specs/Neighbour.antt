-- A rank's neighbours by number.
use Rattle.std.specs.Prelude.{ℕ, ◌+◌, ◌-◌, List}
use Rattle.route_tensor.specs.Grid.{coord}
use Rattle.route_tensor.specs.Link.{links_before, link}
use Rattle.route_tensor.specs.Ends.{hop_among, hop_at, sender_at, reader_at, with_coord}

-- The hop on which neighbour number i of a rank lies. A rank has n1 + .. + nk neighbours, counted
-- by hop and then by coordinate: it has a link to each of them and one from each, and is its own
-- neighbour once on each hop.
-- In the grid 2x3x5 the neighbours 0 and 1 lie on hop 1, and 2, 3 and 4 on hop 2.
abbrev pub hop_to : List ℕ → ℕ → ℕ
hop_to dims i = hop_among 1 dims i

-- Neighbour number i of rank r: r with the coordinate of that hop set.
-- In the grid 2x2x2 the neighbours of rank 1 are 0, 1, 1, 3, 1 and 5.
abbrev pub neighbour : List ℕ → ℕ → ℕ → ℕ
neighbour dims r i = with_coord dims r (hop_to dims i) (i - links_before dims (hop_to dims i))

-- The number of the link from r to its neighbour number i, and of the link from that neighbour to
-- r.
-- In the grid 2x2x2 the links of rank 0 to and from its neighbour number 3, which is rank 2, have
-- the numbers 17 and 20.
abbrev pub link_to : List ℕ → ℕ → ℕ → ℕ
link_to dims r i = link dims (hop_to dims i) r (neighbour dims r i)

abbrev pub link_from : List ℕ → ℕ → ℕ → ℕ
link_from dims r i = link dims (hop_to dims i) (neighbour dims r i) r

-- Which neighbour of its sender a link leads to, and which neighbour of its reader it comes from.
-- In the grid 2x2x2 link 17 leads from rank 0 to its neighbour number 3.
abbrev pub out_index : List ℕ → ℕ → ℕ
out_index dims l = links_before dims (hop_at dims l) + coord dims (reader_at dims l) (hop_at dims l)

abbrev pub in_index : List ℕ → ℕ → ℕ
in_index dims l = links_before dims (hop_at dims l) + coord dims (sender_at dims l) (hop_at dims l)
