use Rattle.std.proofs.Common.{subst}
use Rattle.port_bank.specs.Round.{IsRound}
use Rattle.port_bank.specs.Plain.{round_of_bank}
use Rattle.port_bank.proofs.Closing.{closed_is_round}
use Rattle.port_bank.proofs.plain_bank.PlainBank.live_law.Goals as goal

pub returns : goal.returns
returns g c = subst (λ b. IsRound (round_of_bank g.row.CAP b)) c.self.view_is (closed_is_round g.row.CAP _ c.self.invariant.0)
