use Rattle.app_permute.proofs.PermuteTable.{permute}
use Rattle.app_permute.proofs.rounds.permute_rounds.Goals as goal

pub returns : goal.returns
returns c = permute
