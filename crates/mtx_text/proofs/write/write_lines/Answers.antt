use Rattle.std.proofs.Common.{rules, ap, subst, ◌∙◌}
use Rattle.bale_types.specs.Stream.{taken_with, IsTakenPrefix}
use Rattle.bale_types.specs.Out.{appended_bytes}
use Rattle.bale_types.proofs.Moves.{front_of_front, on_err_any, front_in_loop}
use Rattle.mtx_text.specs.Written.{entry_text}
use Rattle.mtx_text.proofs.WrittenPieces.{pieces_more}
use Rattle.mtx_text.proofs.write.write_lines.Goals as goal

pub loop-t-preserved : goal.loop-t-preserved
loop-t-preserved g c = record {
  so_far = pieces_more (entry_text c.args.kind) _ _ _ c.args.entries.now c.loop-t.t-index _ c.loop-t-test.true
      (c.in_ok-line.ensures.written.ok ∙ ap (taken_with (appended_bytes g.K.Sink.taken c.loop-t.out)) c.set.ensures) c.loop-t.invariant.so_far;
  faults = search rules;
  grows = front_of_front (g.K.Sink.taken c.args.out.now.sink.now) (g.K.Sink.taken c.loop-t.out.sink.now) (g.K.Sink.taken c.line.new.self.sink.now) c.loop-t.invariant.grows c.line.ensures.written.sink.grows;
  same_sink = search rules;
}

pub returns-in_err-line : goal.returns-in_err-line
returns-in_err-line g c = record {
  ok = search rules;
  err = on_err_any c.from_residual.result
      (front_in_loop (entry_text c.args.kind) _ _ _ c.args.entries.now c.loop-t.t-index _ c.loop-t-test.true c.loop-t.invariant.so_far
      (subst (λ text. IsTakenPrefix (g.K.Sink.taken c.line.new.self.sink.now) (taken_with (appended_bytes g.K.Sink.taken c.loop-t.out) text)) c.set.ensures c.in_err-line.ensures.written.err));
  sink = record {
    counts = search rules;
    grows = front_of_front (g.K.Sink.taken c.args.out.now.sink.now) (g.K.Sink.taken c.loop-t.out.sink.now) (g.K.Sink.taken c.line.new.self.sink.now) c.loop-t.invariant.grows c.line.ensures.written.sink.grows;
    same_sink = search rules;
  };
}
