-- What the label of a vertex means.
use Rattle.std.specs.Prelude.{ℕ, ◌≡◌, ◌≤◌, List, [], ◌∷◌, Contains, length}
use Rattle.std.specs.List.{flat_map}
use Rattle.bale_items.specs.declared.triple.Triple.{Triple}
use Rattle.list_laws.specs.Lists.{EachAt}
use Rattle.mtx_text.specs.Sparse.{Sparse}
use Rattle.components.specs.declared.labels.Link.{Link}

-- The links of a matrix: each entry joins its row and its column, in both directions.
-- links ((2,5,v), ..) = (2,5), (5,2), ..
abbrev pub links_of_entries : List Triple → List Link
links_of_entries entries = flat_map (λ t. record { from = t.i; to = t.j } ∷ record { from = t.j; to = t.i } ∷ []) entries

-- A way from vertex u to vertex v: a list of links that join up.
-- IsPath entries u v (l1, .., lk): l1 begins at u, each begins if the one before it ends, and lk
-- ends at v Over the entry (2,5,v) the list (5,2) is a way from 5 to 2, and the empty list is one
-- from 7 to 7.
abbrev pub IsPath : List Triple → ℕ → ℕ → List Link → Type 0
IsPath entries u v [] = u ≡ v
IsPath entries u v (l ∷ way) = Contains (links_of_entries entries) l × (l.from ≡ u) × IsPath entries l.to v way

-- Two vertices are connected: there is a way from one to the other.
abbrev pub Connected : List Triple → ℕ → ℕ → Type 0
Connected entries u v = (way : List Link) × IsPath entries u v way

-- The least number of a vertex that is connected to v.
-- Over (2,5,v), (5,1,v) it is 1 for each of 1, 2 and 5, and 3 for 3.
pub record IsLeastLabel (entries : List Triple) (v label : ℕ) : Type 0 where
  pub connected : Connected entries label v
  pub least : (u : ℕ) → Connected entries u v → label ≤ u

-- Each vertex of a square matrix is labelled by the least number of its component.
pub record AreComponents (m : Sparse) (labels : List ℕ) : Type 0 where
  pub each : length labels ≡ m.rows
  pub least : EachAt (IsLeastLabel m.entries) labels
