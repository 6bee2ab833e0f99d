use Rattle.app_permute.proofs.TransposeTable.{transpose}
use Rattle.app_permute.proofs.rounds.transpose_rounds.Goals as goal

pub returns : goal.returns
returns c = transpose
