use Rattle.std.proofs.Common.{◌≡◌, ℕ, Option}
use Rattle.bale_types.specs.Stream.{taken_with, IsTakenPrefix}
use Rattle.bale_types.specs.Out.{appended_bytes}
use Rattle.mtx_text.specs.Sparse.{Sparse}
use Rattle.least_walks.specs.Walks.{AreLeast}
use Rattle.least_walks.specs.Lines.{sssp_lines}
use Rattle.delta_step.specs.DeltaRuns.{DeltaEnded}
use Rattle.delta_step.proofs.delta_run.delta_write.Given as goal

abbrev pub invariant-loop-v : goal.invariant-loop-v
invariant-loop-v g l = record {
  so_far : (m : Sparse) (source : ℕ) → DeltaEnded m source l.p → (weights : ℕ → Option ℕ) → AreLeast m source weights
      → appended_bytes g.K.Sink.taken l.out ≡ taken_with (appended_bytes g.K.Sink.taken l.initial.out) (sssp_lines weights l.v);
  faults : g.K.Sink.faults l.out.sink.now ≡ g.K.Sink.faults l.initial.out.sink.now;
  grows : IsTakenPrefix (g.K.Sink.taken l.initial.out.sink.now) (g.K.Sink.taken l.out.sink.now);
  same_sink : l.out.sink.ghost_name ≡ l.initial.out.sink.ghost_name;
}
