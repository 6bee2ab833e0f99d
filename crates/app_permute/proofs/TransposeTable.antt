-- The round of transpose.
use Rattle.std.proofs.Common.{refl}
use Rattle.sparse_rows.proofs.Emitted.{emit_made}
use Rattle.app_permute.specs.Transposes.{transpose_rules}
use Rattle.app_permute.specs.TransposeRuns.{transpose_begins, transpose_starts}
use Rattle.app_permute.specs.TransposeTable.{TransposeRounds, turned_entries}
use Rattle.app_permute.proofs.TransposeOwners.{one_round}

pub transpose : TransposeRounds
transpose ranks m =
    record {
      rounds = one_round (transpose_starts ranks m);
      entries_sent = emit_made transpose_rules (transpose_starts ranks m) 0 ranks (transpose_begins ranks m) (turned_entries ranks m) refl (λ r low. refl);
    }
