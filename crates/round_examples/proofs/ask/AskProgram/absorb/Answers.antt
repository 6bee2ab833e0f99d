use Rattle.std.proofs.Common.{sym, subst}
use Rattle.round_program.specs.Laws.{Fits}
use Rattle.round_examples.specs.Asks.{ask_rules}
use Rattle.round_examples.specs.code.AskView.{ask_state}
use Rattle.round_examples.proofs.AskSteps.{note_valid}
use Rattle.round_examples.proofs.ask.AskProgram.absorb.Goals as goal

pub invariant_of-self : goal.invariant_of-self
invariant_of-self c =
    note_valid (ask_state c.self.inside) c.args.from c.args.item _ _ c.self.invariant (subst (λ s. Fits ask_rules s c.args.from c.args.item) (sym c.self.view_is) c.requires) c.if-self-eq0.true c.note.ensures
