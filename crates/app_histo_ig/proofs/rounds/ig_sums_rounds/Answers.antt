use Rattle.app_histo_ig.proofs.IgTable.{ig_sums}
use Rattle.app_histo_ig.proofs.rounds.ig_sums_rounds.Goals as goal

pub returns : goal.returns
returns c = ig_sums
