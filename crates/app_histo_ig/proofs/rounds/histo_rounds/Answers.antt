use Rattle.app_histo_ig.proofs.HistoTable.{histo}
use Rattle.app_histo_ig.proofs.rounds.histo_rounds.Goals as goal

pub returns : goal.returns
returns c = histo
