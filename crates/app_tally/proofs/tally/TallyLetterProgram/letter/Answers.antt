use Rattle.std.proofs.Common.{slice_get, map, sym, ap, ◌∙◌}
use Rattle.app_tally.specs.Tallies.{tally_rules}
use Rattle.app_tally.proofs.TallyRounds.{letters_back}
use Rattle.app_tally.proofs.tally.TallyLetterProgram.letter.Goals as goal

pub returns : goal.returns
returns c =
    ap (λ s. slice_get (map (λ e. e.1) (tally_rules.letters s)) c.args.i) (sym c.self.view_is)
    ∙ ap (λ ls. slice_get ls c.args.i) (letters_back c.self.inside.ranks c.self.inside.own) ∙ c.at.ensures
