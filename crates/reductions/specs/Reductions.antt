-- Cells by key, each reduced by what comes for it.
use Rattle.std.specs.Prelude.{ℕ, ◌+◌, ◌%◌, ◌^◌, ◌==◌, not, nat_eq, min, max, Bool, List, slice_index_or, if◌then◌else◌}
use Rattle.std.specs.Cmp.Lexicographic.{pointwise}
use Rattle.list_laws.specs.Lists.{changed_at}
use Rattle.reductions.specs.declared.reduced.Reduction.{Reduction}
use Rattle.reductions.specs.declared.reduced.Reduction.TheVariants.{Least, Greatest, Sum}

-- the cells as the round began, and as they are now
pub record ReducedState : Type 0 where
  pub before : List ℕ
  pub cells : List ℕ

-- What a cell and a value make: the lesser, the greater, or the sum modulo 2^64.
-- combined Least 5 3 = 3, combined Greatest 5 3 = 5, combined Sum 5 3 = 8
abbrev pub combination : Reduction → ℕ → ℕ → ℕ
combination Least cell value = min cell value
combination Greatest cell value = max cell value
combination Sum cell value = (cell + value) % 2 ^ 64

-- Cells as a round begins: they are what they were.
abbrev pub at_round_begin : List ℕ → ReducedState
at_round_begin values = record { before = values; cells = values }

-- A cell is reduced by a value.
-- reduced Least (7, 5, 9) 1 3 = (7, 3, 9)
abbrev pub after_item : Reduction → ReducedState → ℕ → ℕ → ReducedState
after_item how s key value =
    record { before = s.before; cells = changed_at s.cells key 0 (λ cell. combination how cell value) }

-- A cell has changed since the round began.
abbrev pub has_changed : ReducedState → ℕ → Bool
has_changed s key = not (slice_index_or s.cells key 0 == slice_index_or s.before key 0)

-- One vote if a cell has changed since the round began, else none.
abbrev pub vote_of : ReducedState → ℕ
vote_of s = if pointwise nat_eq s.cells s.before then 0 else 1
