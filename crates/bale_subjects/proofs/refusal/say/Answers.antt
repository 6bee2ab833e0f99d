use Rattle.bale_types.proofs.Moves.{front_of_front}
use Rattle.bale_subjects.proofs.refusal.say.Goals as goal

pub returns-then-is_ok-clause-held : goal.returns-then-is_ok-clause-held
returns-then-is_ok-clause-held g c =
    front_of_front (g.E.Sink.taken c.args.out.now.sink.now) (g.E.Sink.taken c.text.new.self.sink.now) (g.E.Sink.taken c.flush.new.self.sink.now) c.text.ensures.written.sink.grows c.flush.ensures.sink.grows
