use Rattle.std.proofs.Common.{arith}
use Rattle.exstack.proofs.Rooms.{room_small}
use Rattle.exstack.proofs.rounds.least_room.Goals as goal

pub loop-link-init : goal.loop-link-init
loop-link-init g c = record { value = omega (arith, room_small g.row.CAP c.args.outs.now); below = omega arith }
