use Rattle.std.proofs.Common.{rules, sym, arith, ◌∙◌}
use Rattle.bale_types.proofs.Moves.{front_of_front, on_err_any}
use Rattle.app_topo.proofs.TopoText.{lines_more, front_at, lines_all}
use Rattle.app_topo.proofs.topo_lines.topo_write.Goals as goal

pub loop-x-preserved : goal.loop-x-preserved
loop-x-preserved g c = record {
  so_far = lines_more c.args.t.now c.loop-x.x (c.in-Some.row, c.in-Some.column) _ _ _ (sym c.in-Some.ensures) c.in_ok-write_line.ensures.ok c.loop-x.invariant.so_far;
  faults = search rules;
  grows = front_of_front (g.K.Sink.taken c.args.out.now.sink.now) (g.K.Sink.taken c.loop-x.out.sink.now) (g.K.Sink.taken c.write_line.new.out.sink.now) c.loop-x.invariant.grows c.write_line.ensures.sink.grows;
  same_sink = search rules;
}

pub returns-in_err-write_line : goal.returns-in_err-write_line
returns-in_err-write_line g c = record {
  ok = search rules;
  err = on_err_any c.from_residual.result (front_at c.args.t.now c.loop-x.x (c.in-Some.row, c.in-Some.column) _ _ _ (sym c.in-Some.ensures) c.in_err-write_line.ensures.err c.loop-x.invariant.so_far);
  sink = record { counts = search rules; grows = front_of_front (g.K.Sink.taken c.args.out.now.sink.now) (g.K.Sink.taken c.loop-x.out.sink.now) (g.K.Sink.taken c.write_line.new.out.sink.now) c.loop-x.invariant.grows c.write_line.ensures.sink.grows; same_sink = search rules };
}

pub returns : goal.returns
returns g c = record {
  ok = c.loop-x.invariant.so_far ∙ lines_all c.args.t.now c.loop-x.x _ (omega arith);
  err = search rules;
  sink = search rules;
}
