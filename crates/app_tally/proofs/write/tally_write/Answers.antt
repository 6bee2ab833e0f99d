use Rattle.std.proofs.Common.{rules}
use Rattle.bale_types.proofs.Moves.{front_of_front, on_err_any}
use Rattle.app_tally.proofs.Written.{entry_more, entry_front}
use Rattle.app_tally.proofs.write.tally_write.Goals as goal

pub loop-i-preserved : goal.loop-i-preserved
loop-i-preserved g c = record {
  so_far = entry_more _ _ _ c.args.c.now c.loop-i.i c.times.result c.line.result.now (search rules) c.line.ensures c.times.ensures c.in_ok-write_entry.ensures.ok c.loop-i.invariant.so_far;
  faults = search rules;
  grows = front_of_front (g.K.Sink.taken c.args.out.now.sink.now) (g.K.Sink.taken c.loop-i.out.sink.now) (g.K.Sink.taken c.write_entry.new.out.sink.now) c.loop-i.invariant.grows c.write_entry.ensures.sink.grows;
  same_sink = search rules;
}

pub returns-in_err-write_entry : goal.returns-in_err-write_entry
returns-in_err-write_entry g c = record {
  ok = search rules;
  err = on_err_any c.from_residual.result
      (entry_front _ _ _ c.args.c.now c.loop-i.i c.times.result c.line.result.now (search rules) c.line.ensures c.times.ensures c.loop-i.invariant.so_far c.in_err-write_entry.ensures.err);
  sink = record { counts = search rules; grows = front_of_front (g.K.Sink.taken c.args.out.now.sink.now) (g.K.Sink.taken c.loop-i.out.sink.now) (g.K.Sink.taken c.write_entry.new.out.sink.now) c.loop-i.invariant.grows c.write_entry.ensures.sink.grows; same_sink = search rules };
}
