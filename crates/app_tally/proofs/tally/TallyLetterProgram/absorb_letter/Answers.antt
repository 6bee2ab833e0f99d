use Rattle.std.proofs.Common.{ap}
use Rattle.bale_types.proofs.Moves.{on_err_any}
use Rattle.app_tally.specs.Tallies.{tally_rules}
use Rattle.app_tally.proofs.tally.TallyLetterProgram.absorb_letter.Goals as goal

pub returns-clause-refused : goal.returns-clause-refused
returns-clause-refused c =
    on_err_any c.count.result (record { rank = ap (λ s. s.rank) c.self.view_is; ranks = ap (λ s. s.ranks) c.self.view_is; letters = ap tally_rules.letters c.self.view_is })
