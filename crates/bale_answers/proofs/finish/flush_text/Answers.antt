use Rattle.std.proofs.Common.{rules}
use Rattle.bale_types.proofs.Moves.{front_of_front}
use Rattle.bale_answers.proofs.finish.flush_text.Goals as goal

pub returns-clause-sink : goal.returns-clause-sink
returns-clause-sink g c = record {
  counts = search rules;
  grows = front_of_front (g.K.Sink.taken c.args.out.now.sink.now) (g.K.Sink.taken c.text.new.self.sink.now) (g.K.Sink.taken c.flush.new.self.sink.now) c.text.ensures.written.sink.grows c.flush.ensures.sink.grows;
  same_sink = search rules;
}
