use Rattle.round_tables.proofs.Sssp.{sssp}
use Rattle.round_tables.proofs.laws.sssp_rounds.Goals as goal

pub returns : goal.returns
returns c = sssp
