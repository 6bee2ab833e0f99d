use Rattle.std.proofs.Common.{rules}
use Rattle.transport_tests.proofs.exstack_side.Side.pop_all.Goals as goal

pub returns-in_default : goal.returns-in_default
returns-in_default g c = record { ranks = search rules; rank = search rules; kept = λ sent got a. record { cycle = a.cycle; agrees = c.next_sender.ensures.kept a.cycle sent got a.agrees } }

pub returns : goal.returns
returns g c = record { ranks = search rules; rank = search rules; kept = λ sent got a. record { cycle = a.cycle; agrees = c.pop_all.ensures.kept a.cycle sent got (c.next_sender.ensures.kept a.cycle sent got a.agrees) } }
