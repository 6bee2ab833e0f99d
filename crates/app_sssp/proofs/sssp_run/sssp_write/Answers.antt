use Rattle.std.proofs.Common.{◌<◌, ◌≡◌, rules, arith, ◌∙◌, ap, subst, ℕ, List, Option}
use Rattle.bale_types.specs.Stream.{taken_with}
use Rattle.bale_types.specs.Out.{appended_bytes}
use Rattle.bale_types.proofs.Moves.{front_of_front, on_err_any}
use Rattle.least_walks.specs.Lines.{vertex_line, sssp_lines}
use Rattle.least_walks.proofs.Settled.{least_once}
use Rattle.least_walks.proofs.Texts.{lines_more, front_at_line}
use Rattle.app_sssp.proofs.Owners.{weights_found}
use Rattle.app_sssp.proofs.sssp_run.sssp_write.Goals as goal

pub weight_of-requires : goal.weight_of-requires
weight_of-requires g c =
    let ended = c.requires.ended in
    (ended.0, ended.1, ended.2, subst (λ n. c.loop-v.v < n) (c.vertices_in-rows.ensures.rows ended.0 ended.1 ended.2) c.loop-v-test.true)

pub loop-v-preserved : goal.loop-v-preserved
loop-v-preserved g c = record {
  so_far = λ m source h weights least.
      let low : c.loop-v.v < m.rows = subst (λ n. c.loop-v.v < n) (c.vertices_in-rows.ensures.rows m source h) c.loop-v-test.true in
      let same : c.weight_of.result ≡ weights c.loop-v.v = least_once m.entries source c.loop-v.v c.weight_of.result (weights c.loop-v.v) (c.weight_of.ensures m source h) (least c.loop-v.v low) in
      c.in_ok-write_vertex.ensures.ok
      ∙ ap (λ (t : Option (List ℕ)). taken_with t (vertex_line c.loop-v.v c.weight_of.result)) (c.loop-v.invariant.so_far m source h weights least)
      ∙ lines_more weights c.loop-v.v c.weight_of.result same _;
  faults = search rules;
  grows = front_of_front (g.K.Sink.taken c.args.out.now.sink.now) (g.K.Sink.taken c.loop-v.out.sink.now) (g.K.Sink.taken c.write_vertex.new.out.sink.now) c.loop-v.invariant.grows c.write_vertex.ensures.sink.grows;
  same_sink = search rules;
}

pub returns-in_err-write_vertex-clause-least : goal.returns-in_err-write_vertex-clause-least
returns-in_err-write_vertex-clause-least g c = λ m source h. weights_found m source c.args.p.now h

pub returns-clause-least : goal.returns-clause-least
returns-clause-least g c = λ m source h. weights_found m source c.args.p.now h

pub returns-in_err-write_vertex-clause-sink : goal.returns-in_err-write_vertex-clause-sink
returns-in_err-write_vertex-clause-sink g c = record { counts = search rules; grows = front_of_front (g.K.Sink.taken c.args.out.now.sink.now) (g.K.Sink.taken c.loop-v.out.sink.now) (g.K.Sink.taken c.write_vertex.new.out.sink.now) c.loop-v.invariant.grows c.write_vertex.ensures.sink.grows; same_sink = search rules }

pub returns-in_err-write_vertex-clause-written : goal.returns-in_err-write_vertex-clause-written
returns-in_err-write_vertex-clause-written g c = λ m source h weights least. record {
  ok = search rules;
  err = let low : c.loop-v.v < m.rows = subst (λ n. c.loop-v.v < n) (c.vertices_in-rows.ensures.rows m source h) c.loop-v-test.true in
      let same : c.weight_of.result ≡ weights c.loop-v.v = least_once m.entries source c.loop-v.v c.weight_of.result (weights c.loop-v.v) (c.weight_of.ensures m source h) (least c.loop-v.v low) in
      on_err_any c.from_residual.result (front_at_line weights c.loop-v.v m.rows c.weight_of.result low same _ _ _ (c.loop-v.invariant.so_far m source h weights least) c.in_err-write_vertex.ensures.err);
  sink = returns-in_err-write_vertex-clause-sink g c;
}

pub returns-clause-written : goal.returns-clause-written
returns-clause-written g c = λ m source h weights least. record {
  ok = let rows : c.vertices_in-rows.result ≡ m.rows = c.vertices_in-rows.ensures.rows m source h in
      let all : c.loop-v.v ≡ m.rows = omega (arith, c.loop-v.auto.v-end, c.loop-v-test.false, rows) in
      c.loop-v.invariant.so_far m source h weights least ∙ ap (λ n. taken_with (appended_bytes g.K.Sink.taken c.args.out.now) (sssp_lines weights n)) all;
  err = search rules;
  sink = search rules;
}
