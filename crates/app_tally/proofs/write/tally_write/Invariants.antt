use Rattle.std.proofs.Common.{◌≡◌, take}
use Rattle.std.specs.List.{flat_map}
use Rattle.bale_types.specs.Stream.{taken_with, IsTakenPrefix}
use Rattle.bale_types.specs.Out.{appended_bytes}
use Rattle.app_tally.specs.Counts.{count_text}
use Rattle.app_tally.proofs.write.tally_write.Given as goal

abbrev pub invariant-loop-i : goal.invariant-loop-i
invariant-loop-i g l = record {
  so_far : appended_bytes g.K.Sink.taken l.out ≡ taken_with (appended_bytes g.K.Sink.taken l.initial.out) (flat_map count_text (take l.i l.c));
  faults : g.K.Sink.faults l.out.sink.now ≡ g.K.Sink.faults l.initial.out.sink.now;
  grows : IsTakenPrefix (g.K.Sink.taken l.initial.out.sink.now) (g.K.Sink.taken l.out.sink.now);
  same_sink : l.out.sink.ghost_name ≡ l.initial.out.sink.ghost_name;
}
