-- How a table keeps its edges: all in one list, with the span of each vertex.
use Rattle.std.specs.Prelude.{◌≤◌, List, map, length, slice_range}
use Rattle.least_walks.specs.declared.table.Edge.{Edge}
use Rattle.least_walks.specs.declared.table.Span.{Span}

-- The edges in a span.
-- in_span (e0, .., e5) (from 2 to 4) = e2, e3
abbrev pub in_span : List Edge → Span → List Edge
in_span edges s = slice_range edges s.from s.to

-- The edges in each of some spans.
abbrev pub lists_of : List Edge → List Span → List (List Edge)
lists_of edges spans = map (in_span edges) spans

-- A span ends within the edges.
abbrev pub IsSpanWithin : List Edge → Span → Type 0
IsSpanWithin edges s = (s.from ≤ s.to) × (s.to ≤ length edges)
