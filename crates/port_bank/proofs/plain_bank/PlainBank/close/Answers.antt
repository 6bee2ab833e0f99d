use Rattle.port_bank.proofs.Closing.{closed_is_round}
use Rattle.port_bank.proofs.plain_bank.PlainBank.close.Goals as goal

pub new-requires : goal.new-requires
new-requires g c = closed_is_round g.row.CAP _ c.self.invariant.0
