-- That each application goes by its table.
use Rattle.std.specs.Prelude.{◌≡◌, ◌≤◌, ◌<◌, ℕ, List}
use Rattle.mtx_text.specs.Sparse.{Sparse, IsSparse}
use Rattle.mtx_text.specs.Permutations.{Permutes}
use Rattle.elastic.specs.Mails.{mail_rules}
use Rattle.app_histo_ig.specs.Histos.{histo_rules}
use Rattle.app_histo_ig.specs.HistoRuns.{histo_starts}
use Rattle.app_histo_ig.specs.Igs.{ig_rules}
use Rattle.app_histo_ig.specs.IgRuns.{ig_starts}
use Rattle.app_histo_ig.specs.Sums.{sums_rules}
use Rattle.app_histo_ig.specs.SumsRuns.{sums_starts}
use Rattle.app_permute.specs.Permutes.{permute_rules}
use Rattle.app_permute.specs.PermuteRuns.{permute_starts}
use Rattle.app_permute.specs.Transposes.{transpose_rules}
use Rattle.app_permute.specs.TransposeRuns.{transpose_starts}
use Rattle.app_topo.specs.Topos.{topo_rules}
use Rattle.app_topo.specs.TopoRuns.{topo_starts}
use Rattle.app_sssp.specs.Sssps.{sssp_rules}
use Rattle.app_sssp.specs.SsspRuns.{IsGraph, sssp_starts}
use Rattle.delta_step.specs.Deltas.{delta_rules}
use Rattle.delta_step.specs.DeltaRuns.{delta_starts}
use Rattle.app_tally.specs.Tallies.{tally_rules}
use Rattle.app_tally.specs.TallyRuns.{tally_starts}
use Rattle.round_tables.specs.Tables.{histo_table, ig_table, sums_table, permute_table, transpose_table, tally_table}
use Rattle.round_tables.specs.Tables.{IsTopoTable, IsSsspTable, IsDeltaTable}
use Rattle.round_tables.specs.Follows.{FollowsTable, HasTable}

-- One clause for each application, with what its matrix needs.
pub record TableLaws : Type 0 where
  pub histo : (ranks : ℕ) (m : Sparse) → FollowsTable histo_rules (histo_starts ranks m) ranks (histo_table ranks m)
  pub ig : (ranks : ℕ) (m : Sparse) → 1 ≤ ranks → IsSparse m
      → FollowsTable ig_rules (ig_starts ranks m) ranks (ig_table ranks m)
  pub sums : (ranks : ℕ) (m : Sparse) → FollowsTable sums_rules (sums_starts ranks m) ranks (sums_table ranks m)
  pub permute : (ranks : ℕ) (m : Sparse) (p q : List ℕ) → 1 ≤ ranks → IsSparse m → Permutes m.rows p → Permutes m.cols q
      → FollowsTable permute_rules (permute_starts ranks m p q) ranks (permute_table ranks m p q)
  pub transpose : (ranks : ℕ) (m : Sparse)
      → FollowsTable transpose_rules (transpose_starts ranks m) ranks (transpose_table ranks m)
  pub topo : (ranks : ℕ) (m : Sparse) → 1 ≤ ranks → m.rows ≡ m.cols → IsSparse m
      → HasTable topo_rules (topo_starts ranks m) ranks (IsTopoTable ranks m)
  pub sssp : (ranks : ℕ) (m : Sparse) (source : ℕ) → 1 ≤ ranks → IsGraph m → source < m.rows
      → HasTable sssp_rules (sssp_starts ranks m source) ranks (IsSsspTable ranks m source)
  pub delta : (ranks : ℕ) (m : Sparse) (source width : ℕ) → 1 ≤ ranks → ranks ≤ 64 → 1 ≤ width
      → width ≤ 1_000_000_000_000 → IsGraph m → source < m.rows
      → HasTable delta_rules (delta_starts ranks m source width) ranks (IsDeltaTable ranks m source width)
  pub tally : (ranks : ℕ) (lines : List (List ℕ))
      → FollowsTable (mail_rules tally_rules) (tally_starts ranks lines) ranks (tally_table ranks lines)
