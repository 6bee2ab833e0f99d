use Rattle.std.proofs.Common.{◌<◌, ◌≤◌, ◌≡◌, ◌∙◌, ℕ, List, true, length, ap, subst, sym}
use Rattle.route_tensor.proofs.Coordinates.{ranks_some}
use Rattle.route_tensor.specs.Grid.{ranks}
use Rattle.round_program.specs.Ranks.{AreRanks}
use Rattle.round_program.specs.Canonical.{InRound, EndsWithin}
use Rattle.app_cases.specs.Any.{any_rules}
use Rattle.bale_runs.specs.Jobs.{manner_for}
use Rattle.bale_answers.specs.Tasks.{starts_of}
use Rattle.bale_runs.specs.Runs.{made_for, IsTaskRun, FewestOfTask, SweptInOrder}
use Rattle.rank_node.specs.Movers.{manner_of}
use Rattle.rank_group.specs.DrivePromises.{HasFinished, HasSwept, WithinTurns}
use Rattle.bale_runs.proofs.Cases.{task_run, turns_of_task, fewest_of_task, swept_in_order}
use Rattle.bale_runs.proofs.Exchanges.{is_slots, fit_grid}
use Rattle.bale_runs.proofs.Heard.{if_ok}
use Rattle.bale_runs.proofs.Orders.{by_number, ordered}
use Rattle.bale_runs.proofs.exchange.drive_serially.Given.{Over}
use Rattle.bale_runs.proofs.exchange.drive_serially.Goals.{In_ok-progs}
use Rattle.bale_runs.proofs.exchange.drive_serially.Goals as goal

pub start_task-requires-clause-ranks : goal.start_task-requires-clause-ranks
start_task-requires-clause-ranks g c =
    subst AreRanks (sym c.ranks.ensures.value) (record { some = ranks_some c.args.command.now.grid c.ranks.ensures.grid.positive; few = c.ranks.ensures.grid.small })

-- there are ranks, and a program for each
some : (g : Over) (c : In_ok-progs g) → 0 < length c.in_ok-progs.progs
some g c =
    let ranks : 1 ≤ ranks c.args.command.now.grid = ranks_some c.args.command.now.grid c.ranks.ensures.grid.positive in
    subst (λ n. 0 < n) (sym c.in_ok-progs.ensures.begins.2.size) (subst (λ n. 0 < n) (sym c.ranks.ensures.value) ranks)

-- they are those of the task
are : (g : Over) (c : In_ok-progs g) → c.in_ok-progs.progs ≡ starts_of c.args.command.now.task (ranks c.args.command.now.grid) c.args.subject.now
are g c = c.in_ok-progs.ensures.starts ∙ ap (λ n. starts_of c.args.command.now.task n c.args.subject.now) c.ranks.ensures.value

pub case_serial-requires-clause-capacity : goal.case_serial-requires-clause-capacity
case_serial-requires-clause-capacity g c = c.requires.ranges.travel.buffer

pub case_serial-requires-clause-slots : goal.case_serial-requires-clause-slots
case_serial-requires-clause-slots g c = is_slots c.args.command.now.travel.slots c.requires.ranges.travel.slots

pub case_serial-requires-clause-run : goal.case_serial-requires-clause-run
case_serial-requires-clause-run g c = record {
  one_hop = λ e. fit_grid c.args.command.now c.args.subject.now true c.requires.fits (sym c.via_of.ensures ∙ e);
  begins = subst (λ n. (shape : List ℕ) × (most : ℕ) × InRound any_rules n 0 shape most c.in_ok-progs.progs × EndsWithin any_rules c.in_ok-progs.progs most) c.ranks.ensures.value
      c.in_ok-progs.ensures.begins;
}

pub case_serial-requires-clause-order : goal.case_serial-requires-clause-order
case_serial-requires-clause-order g c =
    ordered c.ranks-2.result (ranks c.args.command.now.grid) c.deref.result.now (c.deref.ensures.value ∙ c.in_ok-order.ensures) c.ranks-2.ensures.value

pub returns-clause-run : goal.returns-clause-run
returns-clause-run g c =
    let x = (goal.at.returns-clause-run g c).In_ok-progs in
    if_ok c.case_serial.result (HasFinished any_rules c.in_ok-progs.progs (made_for true c.args.command.now) (manner_of c.via_of.result c.args.command.now.travel.steady))
    (IsTaskRun c.args.command.now.task c.args.subject.now (made_for true c.args.command.now) (manner_for c.args.command.now))
    (λ run h. task_run c.args.command.now.task c.args.subject.now (made_for true c.args.command.now) (manner_for c.args.command.now) c.in_ok-progs.progs run
    (ranks_some c.args.command.now.grid c.ranks.ensures.grid.positive) c.ranks.ensures.grid.small (are g x) (some g x)
    (subst (λ v. HasFinished any_rules c.in_ok-progs.progs (made_for true c.args.command.now) (manner_of v c.args.command.now.travel.steady) run) c.via_of.ensures h))
    c.case_serial.ensures.finished

pub returns-clause-steps : goal.returns-clause-steps
returns-clause-steps g c =
    let x = (goal.at.returns-clause-steps g c).In_ok-progs in
    turns_of_task c.args.command.now.task c.args.subject.now (manner_for c.args.command.now) c.args.command.now.grid c.args.steps.now c.case_serial.new.steps c.in_ok-progs.progs
    (are g x) (some g x)
    (subst (λ v. WithinTurns any_rules c.in_ok-progs.progs (manner_of v c.args.command.now.travel.steady) c.args.command.now.grid c.args.steps.now c.case_serial.new.steps)
    c.via_of.ensures c.case_serial.ensures.steps)

pub returns-clause-fewest : goal.returns-clause-fewest
returns-clause-fewest g c =
    let x = (goal.at.returns-clause-fewest g c).In_ok-progs in
    let dims = c.args.command.now.grid in
    if_ok c.case_serial.result (HasSwept any_rules c.in_ok-progs.progs (made_for true c.args.command.now) (manner_of c.via_of.result c.args.command.now.travel.steady) c.deref.result.now c.args.steps.now c.case_serial.new.steps)
    (λ run. FewestOfTask c.args.command.now.task c.args.subject.now dims c.args.steps.now c.case_serial.new.steps)
    (λ run h. fewest_of_task c.args.command.now.task c.args.subject.now dims c.args.steps.now c.case_serial.new.steps c.in_ok-progs.progs (are g x) (some g x) h.fewest)
    c.case_serial.ensures.swept

pub returns-clause-swept : goal.returns-clause-swept
returns-clause-swept g c =
    let x = (goal.at.returns-clause-swept g c).In_ok-progs in
    let dims = c.args.command.now.grid in
    let steady = c.args.command.now.travel.steady in
    if_ok c.case_serial.result (HasSwept any_rules c.in_ok-progs.progs (made_for true c.args.command.now) (manner_of c.via_of.result steady) c.deref.result.now c.args.steps.now c.case_serial.new.steps)
    (λ run. SweptInOrder (starts_of c.args.command.now.task (ranks dims) c.args.subject.now) (made_for true c.args.command.now) (manner_for c.args.command.now) c.args.steps.now c.case_serial.new.steps run.rounds)
    (λ run h. swept_in_order (starts_of c.args.command.now.task (ranks dims) c.args.subject.now) c.in_ok-progs.progs (made_for true c.args.command.now) (manner_of c.via_of.result steady)
    (manner_for c.args.command.now) c.deref.result.now c.args.steps.now c.case_serial.new.steps run (are g x)
    (by_number c.ranks-2.result (ranks dims) c.deref.result.now (c.deref.ensures.value ∙ c.in_ok-order.ensures) c.ranks-2.ensures.value)
    (ap (λ v. manner_of v steady) c.via_of.ensures) h)
    c.case_serial.ensures.swept
