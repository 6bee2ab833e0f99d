-- The rounds of topo.
use Rattle.std.proofs.Common.{◌+◌, ◌*◌, ◌≤◌, arith, refl}
use Rattle.app_topo.specs.Topos.{topo_rules}
use Rattle.app_topo.specs.TopoRuns.{topo_begins, topo_starts}
use Rattle.app_topo.proofs.TopoStates.{claiming, freeing}
use Rattle.app_topo.proofs.TopoRun.{at_claims, at_freeing, has_rounds, last_level}
use Rattle.app_topo.specs.TopoTable.{TopoRounds, entries_told, rows_claim, columns_fall}
use Rattle.sparse_rows.proofs.Emitted.{emit_made}

pub topo : TopoRounds
topo ranks m some square is =
    let last = last_level m in
    let tall : m.rows ≤ 16384 = is.tall in
    let low : last.0 ≤ m.rows = last.1.low in
    record {
      levels = last.0;
      few = last.1.low;
      some = last.1.before;
      none = last.1.over;
      rounds = has_rounds ranks m last.0 some square is last.1;
      entries_sent = emit_made topo_rules (topo_starts ranks m) 0 ranks (topo_begins ranks m) (entries_told ranks m) refl (λ r l. refl);
      claims_sent = λ t early. emit_made topo_rules (topo_starts ranks m) (2 * t + 1) ranks (claiming ranks m t) (rows_claim ranks m t) (at_claims ranks m t some square is (omega arith)) (λ r l. refl);
      falls_sent = λ t early. emit_made topo_rules (topo_starts ranks m) (2 * t + 2) ranks (freeing ranks m t) (columns_fall ranks m t) (at_freeing ranks m t some square is (omega arith)) (λ r l. refl);
    }
