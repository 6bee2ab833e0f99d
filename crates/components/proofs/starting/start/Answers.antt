use Rattle.std.proofs.Common.{[], ◌∷◌, rules}
use Rattle.round_program.specs.Canonical.{InRound, EndsWithin}
use Rattle.reductions.proofs.Starts.{made_so}
use Rattle.components.specs.LabelRules.{label_rules, most_label_rounds}
use Rattle.components.specs.Starts.{label_starts}
use Rattle.components.proofs.Starts.{starts_in_round}
use Rattle.components.proofs.Runs.{run_ends}
use Rattle.components.proofs.starting.start.Goals as goal

pub returns-clause-begins : goal.returns-clause-begins
returns-clause-begins c =
    made_so (InRound label_rules c.args.ranks 0 (c.args.m.now.rows ∷ []) most_label_rounds) c.programs.result (label_starts c.args.ranks c.args.m.now) (search rules)
    (starts_in_round c.args.ranks c.args.m.now c.requires.ranks.few c.known.ensures c.requires.square)

pub returns-clause-ends : goal.returns-clause-ends
returns-clause-ends c =
    made_so (λ ps. EndsWithin label_rules ps most_label_rounds) c.programs.result (label_starts c.args.ranks c.args.m.now) (search rules)
    (run_ends c.args.m.now c.args.ranks c.requires.ranks.some c.requires.ranks.few c.known.ensures c.requires.square)
