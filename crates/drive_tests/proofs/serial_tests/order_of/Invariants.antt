use Rattle.drive_tests.proofs.Counted.{Ordered}
use Rattle.drive_tests.proofs.serial_tests.order_of.Given as goal

abbrev pub invariant-loop-place : goal.invariant-loop-place
invariant-loop-place l = Ordered l.reversed l.ranks l.place l.order.items
