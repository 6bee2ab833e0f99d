use Rattle.std.proofs.Common.{[], ◌∷◌, refl, rules, subst}
use Rattle.port_bank.specs.Port.{IsSlots}
use Rattle.round_program.specs.Canonical.{InRound}
use Rattle.round_examples.specs.Counts.{count_rules}
use Rattle.drive_tests.proofs.Counted.{one_round}
use Rattle.drive_tests.proofs.order_tests.turned_by.Goals as goal

pub drive_serial-told-requires-clause-slots : goal.drive_serial-told-requires-clause-slots
unfolding IsSlots
drive_serial-told-requires-clause-slots g c = refl

pub drive_serial-told-requires-clause-run : goal.drive_serial-told-requires-clause-run
drive_serial-told-requires-clause-run g c =
    let p = c.ranks-ranks.result in
    record { one_hop = search rules; begins = (p ∷ [], 1, subst (λ n. InRound count_rules n 0 (p ∷ []) 1 c.in_ok-progs.progs) c.ranks-ranks.ensures.value c.in_ok-progs.ensures, one_round c.in_ok-progs.progs) }
