use Rattle.std.proofs.Common.{[], ◌∷◌, rules as found}
use Rattle.round_program.specs.Canonical.{InRound, EndsWithin}
use Rattle.reductions.proofs.Starts.{made_so}
use Rattle.skeleton.specs.State.{rules}
use Rattle.skeleton.specs.Starts.{starts}
use Rattle.skeleton.proofs.Starts.{starts_in_round, run_ends}
use Rattle.skeleton.proofs.starting.start.Goals as goal

pub returns-clause-begins : goal.returns-clause-begins
returns-clause-begins c =
    made_so (InRound rules c.args.ranks 0 (c.args.m.now.cols ∷ []) 1) c.programs.result (starts c.args.ranks c.args.m.now) (search found)
    (starts_in_round c.args.ranks c.args.m.now c.requires.few c.known.ensures)

pub returns-clause-ends : goal.returns-clause-ends
returns-clause-ends c = made_so (λ ps. EndsWithin rules ps 1) c.programs.result (starts c.args.ranks c.args.m.now) (search found) (run_ends c.args.ranks c.args.m.now)
