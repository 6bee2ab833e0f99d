-- The text that is written of a matrix.
use Rattle.std.specs.Prelude.{ℕ, ◌+◌, List, [], ◌∷◌, ◌++◌, length, codes, decimal}
use Rattle.std.specs.List.{flat_map}
use Rattle.std.specs.Fmt.{signed_decimal}
use Rattle.bale_items.specs.declared.triple.Triple.{Triple}
use Rattle.mtx_text.specs.declared.kind.Kind.{Kind}
use Rattle.mtx_text.specs.declared.kind.Kind.TheVariants as kind
use Rattle.mtx_text.specs.Sparse.{Sparse}

-- The first line, which says the kind. What is written is always general.
abbrev pub banner_text : Kind → List ℕ
banner_text kind.Integer = codes "%%MatrixMarket matrix coordinate integer general" ++ 10 ∷ []
banner_text kind.Pattern = codes "%%MatrixMarket matrix coordinate pattern general" ++ 10 ∷ []

-- The second line: rows, columns, entries.
abbrev pub size_text : Sparse → List ℕ
size_text m = decimal m.rows ++ 32 ∷ [] ++ decimal m.cols ++ 32 ∷ [] ++ decimal (length m.entries) ++ 10 ∷ []

-- An entry's line, whose row and column count from 1.
-- (0,2,-7) is "1 3 -7" in an integer matrix, and (0,2,1) is "1 3" in a pattern matrix.
abbrev pub entry_text : Kind → Triple → List ℕ
entry_text kind.Integer t =
    decimal (t.i + 1) ++ 32 ∷ [] ++ decimal (t.j + 1) ++ 32 ∷ [] ++ signed_decimal t.v ++ 10 ∷ []
entry_text kind.Pattern t = decimal (t.i + 1) ++ 32 ∷ [] ++ decimal (t.j + 1) ++ 10 ∷ []

-- The whole text: the banner, the sizes, and a line for each entry in the order of the list.
-- "%%MatrixMarket matrix coordinate integer general/2 3 2/1 3 -7/2 1 4/"
abbrev pub text_of : Sparse → List ℕ
text_of m = banner_text m.kind ++ (size_text m ++ flat_map (entry_text m.kind) m.entries)
