use Rattle.std.proofs.Common.{[], ◌∷◌, refl, rules, subst, ◌∙◌, arith}
use Rattle.port_bank.specs.Port.{IsSlots}
use Rattle.round_program.specs.Canonical.{InRound}
use Rattle.round_examples.specs.Counts.{count_rules}
use Rattle.drive_tests.proofs.Counted.{has_one_round, one_round, few_by_conveyor, few_by_exstack, one_rank}
use Rattle.drive_tests.proofs.serial_tests.count.Goals as goal

pub drive_serial-requires-clause-slots : goal.drive_serial-requires-clause-slots
unfolding IsSlots
drive_serial-requires-clause-slots g c = refl

pub drive_serial-requires-clause-run : goal.drive_serial-requires-clause-run
drive_serial-requires-clause-run g c =
    record { one_hop = search rules; begins = (3 ∷ [], 1, subst (λ p. InRound count_rules p 0 (3 ∷ []) 1 c.in_ok-progs.progs) c.ranks-ranks.ensures.value c.in_ok-progs.ensures.round, one_round c.in_ok-progs.progs) }

pub returns-clause-few_by_conveyor : goal.returns-clause-few_by_conveyor
returns-clause-few_by_conveyor g c = λ by one. omega (
  arith,
  c.drive_serial.ensures.steps 1 (has_one_round c.in_ok-progs.progs),
  few_by_conveyor c.args.via c.args.steady c.args.grid.now c.in_ok-progs.progs by one (c.in_ok-progs.ensures.items (c.ranks-ranks.ensures.value ∙ one_rank c.args.grid.now one)),
)

pub returns-clause-few_by_exstack : goal.returns-clause-few_by_exstack
returns-clause-few_by_exstack g c = λ by one. omega (
  arith,
  c.drive_serial.ensures.steps 1 (has_one_round c.in_ok-progs.progs),
  few_by_exstack c.args.via c.args.steady c.args.grid.now c.in_ok-progs.progs by one (c.in_ok-progs.ensures.items (c.ranks-ranks.ensures.value ∙ one_rank c.args.grid.now one)),
)

pub returns-in_err-finished-clause-few_by_conveyor : goal.returns-in_err-finished-clause-few_by_conveyor
returns-in_err-finished-clause-few_by_conveyor g c = λ by one. omega (
  arith,
  c.drive_serial.ensures.steps 1 (has_one_round c.in_ok-progs.progs),
  few_by_conveyor c.args.via c.args.steady c.args.grid.now c.in_ok-progs.progs by one (c.in_ok-progs.ensures.items (c.ranks-ranks.ensures.value ∙ one_rank c.args.grid.now one)),
)

pub returns-in_err-finished-clause-few_by_exstack : goal.returns-in_err-finished-clause-few_by_exstack
returns-in_err-finished-clause-few_by_exstack g c = λ by one. omega (
  arith,
  c.drive_serial.ensures.steps 1 (has_one_round c.in_ok-progs.progs),
  few_by_exstack c.args.via c.args.steady c.args.grid.now c.in_ok-progs.progs by one (c.in_ok-progs.ensures.items (c.ranks-ranks.ensures.value ∙ one_rank c.args.grid.now one)),
)
