use Rattle.app_histo_ig.proofs.IgTable.{ig}
use Rattle.app_histo_ig.proofs.rounds.ig_rounds.Goals as goal

pub returns : goal.returns
returns c = ig
