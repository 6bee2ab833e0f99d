use Rattle.std.proofs.Common.{ap, map}
use Rattle.round_examples.specs.code.AskView.{ask_state}
use Rattle.round_examples.proofs.AskSteps.{ended_valid}
use Rattle.round_examples.proofs.ask.AskProgram.end_round.Goals as goal

pub invariant_of-self : goal.invariant_of-self
invariant_of-self c =
    ended_valid (ask_state c.self.inside) _ _ _ _ c.self.invariant c.saturating_add-self-inside.ensures c.deref.ensures.value (ap (map (λ l. l.items)) c.deref-2.ensures.value) c.in_ok-self-inside.ensures
