-- The vertices of a rank, each with the least weight found so far, and which of them were improved.
use Rattle.std.specs.Prelude.{ℕ, suc, Bool, true, false, ◌&&◌, ◌==◌, ◌/◌, min, List, [], ◌∷◌, Option, None, Some}
use Rattle.std.specs.Prelude.{if◌then◌else◌}
use Rattle.std.specs.Prelude.{nat_lt, slice_index_or}
use Rattle.std.specs.List.{fold}
use Rattle.list_laws.specs.Lists.{changed_at}
use Rattle.least_walks.specs.declared.vertices.Vertex.{Vertex}

-- A vertex that no walk was found to.
abbrev pub unreached_vertex : Vertex
unreached_vertex = record { weight = None; improved = false }

-- A weight is better than what was found: nothing was found, or more.
-- is_better 5 None, is_better 5 (Some 7), and not is_better 5 (Some 5)
abbrev pub is_better : ℕ → Option ℕ → Bool
is_better w None = true
is_better w (Some m) = nat_lt w m

-- A vertex to which a walk of weight w leads: it is improved if w is better.
abbrev pub improve : ℕ → Vertex → Vertex
improve w v = if is_better w v.weight then record { weight = Some w; improved = true } else v

-- The vertex at a place is improved, if w is better.
abbrev pub improved_at : ℕ → ℕ → List Vertex → List Vertex
improved_at place w vs = changed_at vs place unreached_vertex (improve w)

-- The places of the improved vertices, ascending, of vertices of which the first is at place k.
abbrev pub marked_from : ℕ → List Vertex → List ℕ
marked_from k [] = []
marked_from k (v ∷ vs) = if v.improved then k ∷ marked_from (suc k) vs else marked_from (suc k) vs

-- The places of the improved vertices, ascending.
-- of three vertices with the first and the last improved: 0, 2
abbrev pub marked_places : List Vertex → List ℕ
marked_places vs = marked_from 0 vs

-- A vertex with its mark taken away.
abbrev pub calm : Vertex → Vertex
calm v = record { weight = v.weight; improved = false }

-- A weight is in a bucket: divided by the bucket's width it gives the bucket's number.
-- with width 3, weights 6, 7 and 8 are in bucket 2
abbrev pub weight_in : ℕ → ℕ → Option ℕ → Bool
weight_in width bucket None = false
weight_in width bucket (Some m) = m / width == bucket

abbrev pub in_bucket : ℕ → ℕ → Vertex → Bool
in_bucket width bucket v = weight_in width bucket v.weight

-- The places of the improved vertices that pass a test, ascending, of vertices of which the first
-- is at place k.
abbrev pub picked_from : (Vertex → Bool) → ℕ → List Vertex → List ℕ
picked_from test k [] = []
picked_from test k (v ∷ vs) =
    if v.improved && test v then k ∷ picked_from test (suc k) vs else picked_from test (suc k) vs

abbrev pub places_where : (Vertex → Bool) → List Vertex → List ℕ
places_where test vs = picked_from test 0 vs

-- A vertex with its mark taken away, if it passes a test.
abbrev pub calm_if : (Vertex → Bool) → Vertex → Vertex
calm_if test v = if test v then calm v else v

-- The lesser of two weights, of which either may be missing.
abbrev pub lesser : Option ℕ → Option ℕ → Option ℕ
lesser None b = b
lesser (Some a) None = Some a
lesser (Some a) (Some b) = Some (min a b)

-- The least weight of an improved vertex, or None if none is improved.
abbrev pub least_marked : List Vertex → Option ℕ
least_marked vs = fold (λ w p. lesser w (slice_index_or vs p unreached_vertex).weight) None (marked_places vs)
