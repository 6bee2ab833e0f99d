use Rattle.round_tables.proofs.Delta.{delta}
use Rattle.round_tables.proofs.laws.delta_rounds.Goals as goal

pub returns : goal.returns
returns c = delta
