use Rattle.app_tally.proofs.TallyTable.{tally}
use Rattle.app_tally.proofs.rounds.tally_rounds.Goals as goal

pub returns : goal.returns
returns c = tally
