use Rattle.std.proofs.Common.{◌≡◌}
use Rattle.bale_types.specs.Stream.{taken_with, IsTakenPrefix}
use Rattle.bale_types.specs.Out.{appended_bytes}
use Rattle.mtx_text.specs.Sparse.{Sparse}
use Rattle.app_histo_ig.specs.HistoLines.{histo_lines}
use Rattle.app_histo_ig.specs.HistoRuns.{HistoEnded}
use Rattle.app_histo_ig.proofs.histo_run.histo_write.Given as goal

abbrev pub invariant-loop-j : goal.invariant-loop-j
invariant-loop-j g l = record {
  so_far : (m : Sparse) → HistoEnded m l.p → appended_bytes g.K.Sink.taken l.out ≡ taken_with (appended_bytes g.K.Sink.taken l.initial.out) (histo_lines m.entries l.j);
  faults : g.K.Sink.faults l.out.sink.now ≡ g.K.Sink.faults l.initial.out.sink.now;
  grows : IsTakenPrefix (g.K.Sink.taken l.initial.out.sink.now) (g.K.Sink.taken l.out.sink.now);
  same_sink : l.out.sink.ghost_name ≡ l.initial.out.sink.ghost_name;
}
