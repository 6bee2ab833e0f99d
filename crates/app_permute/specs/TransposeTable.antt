-- The round of transpose.
use Rattle.std.specs.Prelude.{ℕ, ◌%◌, List, map}
use Rattle.bale_items.specs.declared.Item.{Item}
use Rattle.bale_items.specs.Bits.{twos_complement}
use Rattle.mtx_text.specs.Sparse.{Sparse}
use Rattle.round_program.specs.Canonical.{HasRounds}
use Rattle.sparse_rows.specs.Owners.{own_entries}
use Rattle.app_permute.specs.Transposes.{transpose_rules}
use Rattle.app_permute.specs.TransposeRuns.{transpose_starts}
use Rattle.sparse_rows.specs.Emits.{item, Emit}

-- Each own entry, turned, to the owner of its column, which is its new row.
-- for each own entry (i,j,v) in order: to j mod ranks, (j, i, bits of v)
-- of (0,2,-7), (1,0,4) on 2 ranks: rank 0 emits (2, 0, 2^64 - 7) to rank 0, rank 1 emits (0,1,4) to
-- rank 0
abbrev pub turned_entries : ℕ → Sparse → ℕ → List (ℕ × Item)
turned_entries ranks m r =
    map (λ e. (e.1.j % ranks, item e.1.j e.1.i (twos_complement e.1.v))) (own_entries ranks r m.entries)

-- transpose has one round, and in it the entries are emitted.
pub record HasTransposeRounds (ranks : ℕ) (m : Sparse) : Type 0 where
  pub rounds : HasRounds transpose_rules (transpose_starts ranks m) 1
  pub entries_sent : Emit transpose_rules (transpose_starts ranks m) 0 ranks (turned_entries ranks m)

abbrev pub TransposeRounds : Type 0
TransposeRounds = (ranks : ℕ) (m : Sparse) → HasTransposeRounds ranks m
