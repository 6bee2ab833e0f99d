-- The round of histo.
use Rattle.std.specs.Prelude.{ℕ, ◌%◌, List, map}
use Rattle.bale_items.specs.declared.Item.{Item}
use Rattle.mtx_text.specs.Sparse.{Sparse}
use Rattle.round_program.specs.Canonical.{HasRounds}
use Rattle.sparse_rows.specs.Owners.{own_entries}
use Rattle.app_histo_ig.specs.Histos.{histo_rules}
use Rattle.app_histo_ig.specs.HistoRuns.{histo_starts}
use Rattle.sparse_rows.specs.Emits.{item, Emit}

-- A one for each own entry, to the owner of its column.
-- for each own entry (i,j,v) in order: to j mod ranks, (j,1,0)
-- of (0,0), (0,2), (1,2), (2,1) on 2 ranks: rank 0 emits (0,1,0) and (2,1,0) to rank 0, rank 1
-- emits (2,1,0) to rank 0, (1,1,0) to rank 1
abbrev pub ones : ℕ → Sparse → ℕ → List (ℕ × Item)
ones ranks m r = map (λ e. (e.1.j % ranks, item e.1.j 1 0)) (own_entries ranks r m.entries)

-- histo has one round, and in it the ones are emitted.
pub record HasHistoRounds (ranks : ℕ) (m : Sparse) : Type 0 where
  pub rounds : HasRounds histo_rules (histo_starts ranks m) 1
  pub ones_sent : Emit histo_rules (histo_starts ranks m) 0 ranks (ones ranks m)

abbrev pub HistoRounds : Type 0
HistoRounds = (ranks : ℕ) (m : Sparse) → HasHistoRounds ranks m
