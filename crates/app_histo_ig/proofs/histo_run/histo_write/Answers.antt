use Rattle.std.proofs.Common.{◌<◌, rules, ◌∙◌, ap, subst, ℕ, List, Option}
use Rattle.bale_types.specs.Stream.{taken_with}
use Rattle.bale_types.proofs.Moves.{front_of_front, on_err_any}
use Rattle.app_histo_ig.specs.HistoLines.{histo_line}
use Rattle.app_histo_ig.proofs.HistoText.{histo_more, front_at_line}
use Rattle.app_histo_ig.proofs.histo_run.histo_write.Goals as goal

pub count_of-requires : goal.count_of-requires
count_of-requires g c =
    let ended = c.requires.ended in
    (ended.0, ended.1, subst (λ n. c.loop-j.j < n) (c.columns_counted-cols.ensures.columns ended.0 ended.1) c.loop-j-test.true)

pub loop-j-preserved : goal.loop-j-preserved
loop-j-preserved g c = record {
  so_far = λ m h.
      c.in_ok-write_count.ensures.ok
      ∙ ap (λ (t : Option (List ℕ)). taken_with t (histo_line c.loop-j.j c.count_of.result)) (c.loop-j.invariant.so_far m h)
      ∙ histo_more m.entries c.loop-j.j c.count_of.result (c.count_of.ensures m h) _;
  faults = search rules;
  grows = front_of_front (g.K.Sink.taken c.args.out.now.sink.now) (g.K.Sink.taken c.loop-j.out.sink.now) (g.K.Sink.taken c.write_count.new.out.sink.now) c.loop-j.invariant.grows c.write_count.ensures.sink.grows;
  same_sink = search rules;
}

pub returns-in_err-write_count-clause-sink : goal.returns-in_err-write_count-clause-sink
returns-in_err-write_count-clause-sink g c = record { counts = search rules; grows = front_of_front (g.K.Sink.taken c.args.out.now.sink.now) (g.K.Sink.taken c.loop-j.out.sink.now) (g.K.Sink.taken c.write_count.new.out.sink.now) c.loop-j.invariant.grows c.write_count.ensures.sink.grows; same_sink = search rules }

pub returns-in_err-write_count-clause-written : goal.returns-in_err-write_count-clause-written
returns-in_err-write_count-clause-written g c = λ m h. record {
  ok = search rules;
  err = on_err_any c.from_residual.result (front_at_line m.entries c.loop-j.j c.count_of.result m.cols (subst (λ n. c.loop-j.j < n) (c.columns_counted-cols.ensures.columns m h) c.loop-j-test.true)
      (c.count_of.ensures m h) _ _ _ (c.loop-j.invariant.so_far m h) c.in_err-write_count.ensures.err);
  sink = returns-in_err-write_count-clause-sink g c;
}
