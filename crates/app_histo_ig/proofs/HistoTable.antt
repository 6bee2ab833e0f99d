-- The round of histo.
use Rattle.std.proofs.Common.{refl}
use Rattle.std.proofs.lemmas.Simd.{map-map}
use Rattle.sparse_rows.specs.Owners.{own_entries}
use Rattle.sparse_rows.proofs.Emitted.{emit_made}
use Rattle.app_histo_ig.specs.Histos.{histo_rules, to_own_column}
use Rattle.app_histo_ig.specs.HistoRuns.{histo_begins, histo_starts}
use Rattle.app_histo_ig.specs.HistoTable.{HistoRounds, ones}
use Rattle.app_histo_ig.proofs.HistoOwners.{one_round}

pub histo : HistoRounds
histo ranks m =
    record {
      rounds = one_round (histo_starts ranks m);
      ones_sent = emit_made histo_rules (histo_starts ranks m) 0 ranks (histo_begins ranks m) (ones ranks m) refl
          (λ r low. map-map (to_own_column ranks) (λ e. e.1.j) (own_entries ranks r m.entries));
    }
