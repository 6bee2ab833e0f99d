use Rattle.std.proofs.Common.{◌≡◌, take}
use Rattle.std.specs.List.{flat_map}
use Rattle.bale_types.specs.Stream.{taken_with, IsTakenPrefix}
use Rattle.bale_types.specs.Out.{appended_bytes}
use Rattle.mtx_text.specs.Written.{entry_text}
use Rattle.mtx_text.proofs.write.write_lines.Given as goal

abbrev pub invariant-loop-t : goal.invariant-loop-t
invariant-loop-t g l = record {
  so_far : appended_bytes g.K.Sink.taken l.out ≡ taken_with (appended_bytes g.K.Sink.taken l.initial.out) (flat_map (entry_text l.kind) (take l.t-index l.entries));
  faults : g.K.Sink.faults l.out.sink.now ≡ g.K.Sink.faults l.initial.out.sink.now;
  grows : IsTakenPrefix (g.K.Sink.taken l.initial.out.sink.now) (g.K.Sink.taken l.out.sink.now);
  same_sink : l.out.sink.ghost_name ≡ l.initial.out.sink.ghost_name;
}
