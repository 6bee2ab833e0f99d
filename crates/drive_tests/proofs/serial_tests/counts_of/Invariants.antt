use Rattle.std.proofs.Common.{◌≡◌, ◌*◌}
use Rattle.round_program.specs.Canonical.{items_at}
use Rattle.round_examples.specs.Counts.{count_rules}
use Rattle.drive_tests.proofs.Counted.{Counted}
use Rattle.drive_tests.proofs.serial_tests.counts_of.Given as goal

abbrev pub invariant-loop-rank : goal.invariant-loop-rank
invariant-loop-rank l = Counted l.ranks 3 l.rank l.progs × (l.ranks ≡ 1 → items_at count_rules l.progs 0 ≡ 4 * l.rank)
