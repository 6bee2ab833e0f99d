use Rattle.std.proofs.Common.{arith, rules}
use Rattle.bale_types.proofs.Moves.{front_of_front}
use Rattle.bale_types.proofs.out.Out.flush.Goals as goal

pub loop-self-preserved : goal.loop-self-preserved
loop-self-preserved g c = record {
  kept = search rules;
  no_fault = search rules;
  no_write = λ none. absurd (let z = c.loop-self.invariant.no_bytes none in omega arith);
  no_bytes = λ none. absurd (let z = c.loop-self.invariant.no_bytes none in omega arith);
  grows = front_of_front (g.K.Sink.taken c.args.self.now.sink.now) (g.K.Sink.taken c.loop-self.self.sink.now) (g.K.Sink.taken c.hand_some.new.sink) c.loop-self.invariant.grows c.hand_some.ensures.grows;
  same_sink = search rules;
}

pub returns-in_err-self-clause-sink : goal.returns-in_err-self-clause-sink
returns-in_err-self-clause-sink g c = record {
  counts = search rules;
  grows =
      front_of_front (g.K.Sink.taken c.args.self.now.sink.now) (g.K.Sink.taken c.loop-self.self.sink.now) (g.K.Sink.taken c.hand_some.new.sink) c.loop-self.invariant.grows c.hand_some.ensures.grows;
  same_sink = search rules;
}
