-- The answer of a run, read from the owners of the keys.
use Rattle.std.specs.Prelude.{ℕ, ◌%◌, List, map, length, slice_get, slice_index_or, Option, Some, None}
use Rattle.std.specs.List.{range_with_len}
use Rattle.reductions.specs.Reductions.{ReducedState}

-- The cell of a key in a state, and 0 if there is no state.
abbrev pub cell_in : {S : Type 0} → (S → ReducedState) → Option S → ℕ → ℕ
cell_in cells None key = 0
cell_in cells (Some s) key = slice_index_or (cells s).cells key 0

-- The cell of a key as its owner has it, by the states of all ranks: key k belongs to rank k mod
-- ranks.
-- Of three ranks the second has the cells of the keys 1, 4, 7, ..
abbrev pub cell_of : {S : Type 0} → (S → ReducedState) → List S → ℕ → ℕ
cell_of cells states key = cell_in cells (slice_get states (key % length states)) key

-- The cells of the keys below a number, each as its owner has it.
abbrev pub owned_values : {S : Type 0} → (S → ReducedState) → List S → ℕ → List ℕ
owned_values cells states count = map (cell_of cells states) (range_with_len 0 count)
