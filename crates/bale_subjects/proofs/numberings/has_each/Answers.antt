use Rattle.bale_subjects.proofs.Renumbering.{decided}
use Rattle.bale_subjects.proofs.numberings.has_each.Goals as goal

pub returns : goal.returns
returns c = decided c.args.n c.args.numbers.now c.in_ok-whole.whole c.in_ok-whole.ensures.0 c.in_ok-whole.ensures.1
