-- The edges of a rank's vertices, those of each vertex together, and the weights that they offer.
use Rattle.std.specs.Prelude.{ℕ, ◌+◌, ◌%◌, ◌/◌, ◌^◌, ◌==◌, ◌&&◌, nat_le, if◌then◌else◌, ◌++◌, Bool, List, [], ◌∷◌}
use Rattle.std.specs.Prelude.{Option, None, Some, map, slice_index_or}
use Rattle.std.specs.List.{filter, flat_map, range_with_len}
use Rattle.bale_items.specs.declared.Item.{Item}
use Rattle.bale_items.specs.declared.triple.Triple.{Triple}
use Rattle.bale_items.specs.Bits.{twos_complement}
use Rattle.list_laws.specs.Lists.{changed_at}
use Rattle.least_walks.specs.declared.table.Edge.{Edge}
use Rattle.least_walks.specs.declared.vertices.Vertex.{Vertex}
use Rattle.least_walks.specs.Vertices.{unreached_vertex}

-- The edge of an entry, as its row's owner keeps it: column j belongs to rank j mod ranks.
-- edge_of 2 (4,3,7) = to vertex 3, which rank 1 owns, with weight 7
abbrev pub edge_of : ℕ → Triple → Edge
edge_of ranks t = record { owner = t.j % ranks; to = t.j; weight = twos_complement t.v }

-- An entry with a weight from low to high.
abbrev pub in_range : ℕ → ℕ → Triple → Bool
in_range low high t = nat_le low (twos_complement t.v) && nat_le (twos_complement t.v) high

-- An entry of the vertex at place p, with a weight from low to high.
abbrev pub is_kept : ℕ → ℕ → ℕ → ℕ → Triple → Bool
is_kept ranks low high p t = t.i / ranks == p && in_range low high t

-- The edges of the vertex at place p with weights from low to high, in the order of the entries.
abbrev pub edges_at : ℕ → ℕ → ℕ → List Triple → ℕ → List Edge
edges_at ranks low high ts p = map (edge_of ranks) (filter (is_kept ranks low high p) ts)

-- The edges of the vertices at so many places.
abbrev pub table_of : ℕ → ℕ → ℕ → ℕ → List Triple → List (List Edge)
table_of ranks places low high ts = map (edges_at ranks low high ts) (range_with_len 0 places)

-- What an edge offers its end, once a walk of weight m leads to its beginning: to the end's owner,
-- the end and the sum of the weights.
abbrev pub offer : ℕ → Edge → ℕ × Item
offer m e = (e.owner, record { a = e.to; b = (m + e.weight) % 2 ^ 64; c = 0 })

abbrev pub offers_from : Option ℕ → List Edge → List (ℕ × Item)
offers_from None es = []
offers_from (Some m) es = map (offer m) es

-- What the vertex at place p offers along its edges.
abbrev pub offers_at : List (List Edge) → List Vertex → ℕ → List (ℕ × Item)
offers_at table vs p = offers_from (slice_index_or vs p unreached_vertex).weight (slice_index_or table p [])

-- What the vertices at some places offer, place by place.
abbrev pub offers_by_place : List (List Edge) → List Vertex → List ℕ → List (ℕ × Item)
offers_by_place table vs places = flat_map (offers_at table vs) places

-- The edge of an entry comes to its vertex, if its weight is from low to high.
abbrev pub table_with_edge : ℕ → ℕ → ℕ → Triple → List (List Edge) → List (List Edge)
table_with_edge ranks low high t rows =
    if in_range low high t then changed_at rows (t.i / ranks) [] (λ es. es ++ edge_of ranks t ∷ []) else rows
