use Rattle.std.proofs.Common.{◌≡◌, ◌<◌, ◌+◌, ◌*◌, take, length}
use Rattle.std.specs.List.{flat_map}
use Rattle.bale_types.specs.Stream.{taken_with, IsTakenPrefix}
use Rattle.bale_types.specs.Out.{appended_bytes}
use Rattle.app_histo_ig.specs.IgLines.{column_sum, ig_line}
use Rattle.app_histo_ig.proofs.answered.write_sums.Given as goal

abbrev pub invariant-loop-e : goal.invariant-loop-e
invariant-loop-e g l = record {
  dealt : l.at.turn * length l.p + l.at.rank ≡ l.e;
  rank : l.at.rank < length l.p;
  so_far : appended_bytes g.K.Sink.taken l.out ≡ taken_with (appended_bytes g.K.Sink.taken l.initial.out) (flat_map (λ t. ig_line t.i t.j (column_sum t.j l.m.entries)) (take l.e l.m.entries));
  faults : g.K.Sink.faults l.out.sink.now ≡ g.K.Sink.faults l.initial.out.sink.now;
  grows : IsTakenPrefix (g.K.Sink.taken l.initial.out.sink.now) (g.K.Sink.taken l.out.sink.now);
  same_sink : l.out.sink.ghost_name ≡ l.initial.out.sink.ghost_name;
}
