use Rattle.std.proofs.Common.{arith}
use Rattle.drive_tests.proofs.Counted.{ordered_all}
use Rattle.drive_tests.proofs.serial_tests.order_of.Goals as goal

pub returns : goal.returns
returns c = ordered_all c.args.reversed c.args.ranks c.loop-place.place c.loop-place.order.items c.loop-place.invariant (omega (arith, c.loop-place-test.false, c.loop-place.auto.place-end))
