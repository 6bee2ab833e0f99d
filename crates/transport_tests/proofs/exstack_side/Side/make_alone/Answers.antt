use Rattle.std.proofs.Common.{rules}
use Rattle.transport_tests.proofs.exstack_side.Side.make_alone.Goals as goal

pub returns-in-Push : goal.returns-in-Push
returns-in-Push g c = record { stays = record { ranks = search rules; rank = search rules; kept = λ sent got a. record { cycle = a.cycle; agrees = c.push.ensures.kept a.cycle sent got a.agrees } } }

pub returns-in-Pop : goal.returns-in-Pop
returns-in-Pop g c = record { stays = record { ranks = search rules; rank = search rules; kept = λ sent got a. record { cycle = a.cycle; agrees = c.pop.ensures.is.kept a.cycle sent got a.agrees } } }

pub returns-in-Unpop : goal.returns-in-Unpop
returns-in-Unpop g c = record { stays = record { ranks = search rules; rank = search rules; kept = λ sent got a. record { cycle = a.cycle; agrees = c.unpop.ensures.is.kept a.cycle sent got a.agrees } } }

pub returns-in-Reset : goal.returns-in-Reset
returns-in-Reset g c = record { stays = record { ranks = search rules; rank = search rules; kept = λ sent got a. record { cycle = 0; agrees = c.reset.ensures.kept a.cycle sent got a.agrees } } }
