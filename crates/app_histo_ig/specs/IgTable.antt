-- The rounds of ig.
use Rattle.std.specs.Prelude.{◌≤◌, ℕ, ◌%◌, List, map}
use Rattle.std.specs.List.{flat_map, range_with_len}
use Rattle.bale_items.specs.declared.Item.{Item}
use Rattle.bale_items.specs.Bits.{twos_complement}
use Rattle.mtx_text.specs.Sparse.{Sparse, IsSparse}
use Rattle.round_program.specs.Canonical.{HasRounds}
use Rattle.sparse_rows.specs.Deals.{dealt}
use Rattle.sparse_rows.specs.Owners.{own_entries, column_owner}
use Rattle.app_histo_ig.specs.IgLines.{column_sum}
use Rattle.app_histo_ig.specs.Igs.{ig_rules}
use Rattle.app_histo_ig.specs.IgRuns.{ig_starts}
use Rattle.app_histo_ig.specs.Sums.{sums_rules}
use Rattle.app_histo_ig.specs.SumsRuns.{sums_starts}
use Rattle.sparse_rows.specs.Emits.{item, Emit}

-- Round 0: the value of each own entry, to the owner of its column.
-- for each own entry (i,j,v) in order: to j mod ranks, (j, bits of v, 0)
-- of (0,0,5), (0,2,-7), (1,0,4) on 2 ranks: rank 0 emits (0,5,0) and then (0,4,0) to rank 0, rank 1
-- emits (2, 2^64 - 7, 0) to rank 0
abbrev pub values : ℕ → Sparse → ℕ → List (ℕ × Item)
values ranks m r = map (λ e. (e.1.j % ranks, item e.1.j (twos_complement e.1.v) 0)) (own_entries ranks r m.entries)

-- Round 1: the query of each own entry, to the owner of its column.
-- for each own entry (i,j,v) in order, with its number e: to j mod ranks, (j,e,0)
-- of the same: rank 0 emits (0,0,0) and then (0,2,0) to rank 0, rank 1 emits (2,1,0) to rank 0
abbrev pub queries : ℕ → Sparse → ℕ → List (ℕ × Item)
queries ranks m r = map (λ e. (e.1.j % ranks, item e.1.j e.0 0)) (own_entries ranks r m.entries)

-- Round 2: the sum of the column for each query that came, to the rank that asked.
-- for each rank f from 0 on and each entry of f in an own column j, in order, with its number e: to
-- f, (e, bits of the sum of j, 0)
-- of the same: rank 0 emits (0,9,0) and then (2,9,0) to rank 0, and then (1, 2^64 - 7, 0) to rank
-- 1; rank 1 emits nothing
abbrev pub replies : ℕ → Sparse → ℕ → List (ℕ × Item)
replies ranks m r =
    flat_map (λ f. map (λ e. (f, item e.0 (twos_complement (column_sum e.1.j m.entries)) 0))
    (dealt (column_owner ranks) r (own_entries ranks f m.entries)))
    (range_with_len 0 ranks)

-- ig has three rounds: values, queries and replies.
pub record HasIgRounds (ranks : ℕ) (m : Sparse) : Type 0 where
  pub rounds : HasRounds ig_rules (ig_starts ranks m) 3
  pub values_sent : Emit ig_rules (ig_starts ranks m) 0 ranks (values ranks m)
  pub queries_sent : Emit ig_rules (ig_starts ranks m) 1 ranks (queries ranks m)
  pub replies_sent : Emit ig_rules (ig_starts ranks m) 2 ranks (replies ranks m)

abbrev pub IgRounds : Type 0
IgRounds = (ranks : ℕ) (m : Sparse) → 1 ≤ ranks → IsSparse m → HasIgRounds ranks m

-- If ranks ask one another at once, the round of sums comes before: it is the first of the three
-- alone.
pub record HasIgSumsRounds (ranks : ℕ) (m : Sparse) : Type 0 where
  pub rounds : HasRounds sums_rules (sums_starts ranks m) 1
  pub values_sent : Emit sums_rules (sums_starts ranks m) 0 ranks (values ranks m)

abbrev pub IgSumsRounds : Type 0
IgSumsRounds = (ranks : ℕ) (m : Sparse) → HasIgSumsRounds ranks m
