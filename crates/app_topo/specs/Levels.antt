-- The levels of a matrix's rows, and the order that they give.
use Rattle.std.specs.Prelude.{ℕ, zero, suc, ◌==◌, ◌&&◌, Bool, List, [], ◌++◌, Option, None, Some, map, reverse, length}
use Rattle.std.specs.Prelude.{if◌then◌else◌}
use Rattle.std.specs.Prelude.{slice_index_or, count_by}
use Rattle.std.specs.List.{filter, list_all, range_with_len, position_or_len}
use Rattle.bale_items.specs.declared.triple.Triple.{Triple}

-- A claim: a row, and the column that it claims.
abbrev pub Claim : Type 0
Claim = ℕ × ℕ

-- How many claims are of a row, and of a column. A row with a claim has a level; a column with a
-- claim is taken.
abbrev pub row_claims : ℕ → List Claim → ℕ
row_claims i claims = count_by (λ c. c.0 == i) claims

abbrev pub col_claims : ℕ → List Claim → ℕ
col_claims j claims = count_by (λ c. c.1 == j) claims

-- An open entry of row i: one outside the taken columns.
abbrev pub is_open : List Claim → ℕ → Triple → Bool
is_open claims i t = t.i == i && col_claims t.j claims == 0

-- The columns of the open entries of row i.
-- (0,0), (0,1), (1,1), (2,2) with no claims: 0 and 1 for row 0, 1 for row 1, 2 for row 2
abbrev pub open_columns : List Triple → List Claim → ℕ → List ℕ
open_columns entries claims i = map (λ t. t.j) (filter (is_open claims i) entries)

-- A row is ready if it has no level and exactly one open entry.
-- of the same entries with no claims: rows 1 and 2; once row 1 has claimed column 1, row 0 too
abbrev pub is_ready : List Triple → List Claim → ℕ → Bool
is_ready entries claims i = row_claims i claims == 0 && length (open_columns entries claims i) == 1

-- The column that a ready row claims: that of its one open entry.
abbrev pub claimed_column : List Triple → List Claim → ℕ → ℕ
claimed_column entries claims i = slice_index_or (open_columns entries claims i) 0 0

-- The next level: the ready rows of n, ascending, each with the column that it claims.
-- of the same entries with no claims: row 1 claims column 1, row 2 claims column 2
abbrev pub level : ℕ → List Triple → List Claim → List Claim
level n entries claims =
    map (λ i. (i, claimed_column entries claims i)) (filter (is_ready entries claims) (range_with_len 0 n))

-- The claims of the levels below t, level by level.
-- after two levels of the same entries: (1,1), (2,2), (0,0)
abbrev pub claims_after : ℕ → List Triple → ℕ → List Claim
claims_after n entries zero = []
claims_after n entries (suc t) = claims_after n entries t ++ level n entries (claims_after n entries t)

-- Every row of n has a level, and every column exactly one claim.
abbrev pub levels_complete : ℕ → List Claim → Bool
levels_complete n claims = list_all (λ x. row_claims x claims == 1 && col_claims x claims == 1) (range_with_len 0 n)

-- The order of a square matrix: all claims in reverse, so later levels first, and within a level
-- the greater row first; none if some row has no level or some column not exactly one claim. n
-- levels suffice, since each that isn't empty gives some row its level. In this order the matrix is
-- upper triangular with a full diagonal.
-- of the entries of open_columns: (0,0), (2,2), (1,1); of (0,0), (0,1), (1,0), (1,1): none
abbrev pub topo_order : ℕ → List Triple → Option (List Claim)
topo_order n entries =
    if levels_complete n (claims_after n entries n) then Some (reverse (claims_after n entries n)) else None

-- The position of a row, and of a column.
abbrev pub row_position : List Claim → ℕ → ℕ
row_position order i = position_or_len (λ c. c.0 == i) order

abbrev pub col_position : List Claim → ℕ → ℕ
col_position order j = position_or_len (λ c. c.1 == j) order
