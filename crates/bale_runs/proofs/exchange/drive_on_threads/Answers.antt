use Rattle.std.proofs.Common.{◌<◌, ◌≤◌, ◌≡◌, ◌∙◌, ℕ, List, false, length, ap, subst, sym}
use Rattle.route_tensor.proofs.Coordinates.{ranks_some}
use Rattle.route_tensor.specs.Grid.{ranks}
use Rattle.round_program.specs.Ranks.{AreRanks}
use Rattle.round_program.specs.Canonical.{InRound, EndsWithin}
use Rattle.app_cases.specs.Any.{any_rules}
use Rattle.bale_runs.specs.Jobs.{manner_for}
use Rattle.bale_answers.specs.Tasks.{starts_of}
use Rattle.bale_runs.specs.Runs.{made_for, IsTaskRun}
use Rattle.rank_node.specs.Movers.{manner_of}
use Rattle.rank_group.specs.DrivePromises.{HasFinished}
use Rattle.rank_group.specs.DrivePromises.{NotifiedOfTurns}
use Rattle.bale_answers.specs.Tasks.{plan_of}
use Rattle.bale_runs.proofs.Cases.{task_run, on_ok, told_of_task}
use Rattle.bale_runs.proofs.Exchanges.{is_slots, fit_grid}
use Rattle.bale_runs.proofs.Heard.{if_ok}
use Rattle.bale_runs.proofs.exchange.drive_on_threads.Given.{Over}
use Rattle.bale_runs.proofs.exchange.drive_on_threads.Goals.{In_ok-progs}
use Rattle.bale_runs.proofs.exchange.drive_on_threads.Goals as goal

pub start_task-requires-clause-ranks : goal.start_task-requires-clause-ranks
start_task-requires-clause-ranks g c =
    subst AreRanks (sym c.ranks.ensures.value) (record { some = ranks_some c.args.command.now.grid c.ranks.ensures.grid.positive; few = c.ranks.ensures.grid.small })

-- there are ranks, and a program for each
some : (g : Over) (c : In_ok-progs g) → 0 < length c.in_ok-progs.progs
some g c =
    let ranks : 1 ≤ ranks c.args.command.now.grid = ranks_some c.args.command.now.grid c.ranks.ensures.grid.positive in
    subst (λ n. 0 < n) (sym c.in_ok-progs.ensures.begins.2.size) (subst (λ n. 0 < n) (sym c.ranks.ensures.value) ranks)

-- they are those of the task
are : (g : Over) (c : In_ok-progs g) → c.in_ok-progs.progs ≡ starts_of c.args.command.now.task (ranks c.args.command.now.grid) c.args.subject.now
are g c = c.in_ok-progs.ensures.starts ∙ ap (λ n. starts_of c.args.command.now.task n c.args.subject.now) c.ranks.ensures.value

pub case_threads-requires-clause-capacity : goal.case_threads-requires-clause-capacity
case_threads-requires-clause-capacity g c κs within = c.requires.ranges.travel.buffer

pub case_threads-requires-clause-slots : goal.case_threads-requires-clause-slots
case_threads-requires-clause-slots g c κs within = is_slots c.args.command.now.travel.slots c.requires.ranges.travel.slots

pub case_threads-requires-clause-run : goal.case_threads-requires-clause-run
case_threads-requires-clause-run g c κs within = record {
  one_hop = λ e. fit_grid c.args.command.now c.args.subject.now false c.requires.fits (sym c.via_of.ensures ∙ e);
  begins = subst (λ n. (shape : List ℕ) × (most : ℕ) × InRound any_rules n 0 shape most c.in_ok-progs.progs × EndsWithin any_rules c.in_ok-progs.progs most) c.ranks.ensures.value
      c.in_ok-progs.ensures.begins;
}

pub returns-clause-run : goal.returns-clause-run
returns-clause-run g c =
    let x = (goal.at.returns-clause-run g c).In_ok-progs in
    if_ok c.case_threads.result (HasFinished any_rules c.in_ok-progs.progs (made_for false c.args.command.now) (manner_of c.via_of.result c.args.command.now.travel.steady))
    (IsTaskRun c.args.command.now.task c.args.subject.now (made_for false c.args.command.now) (manner_for c.args.command.now))
    (λ run h. task_run c.args.command.now.task c.args.subject.now (made_for false c.args.command.now) (manner_for c.args.command.now) c.in_ok-progs.progs run
    (ranks_some c.args.command.now.grid c.ranks.ensures.grid.positive) c.ranks.ensures.grid.small (are g x) (some g x)
    (subst (λ v. HasFinished any_rules c.in_ok-progs.progs (made_for false c.args.command.now) (manner_of v c.args.command.now.travel.steady) run) c.via_of.ensures h))
    c.case_threads.ensures.finished

pub returns-clause-notified : goal.returns-clause-notified
returns-clause-notified g c =
    let x = (goal.at.returns-clause-notified g c).In_ok-progs in
    let dims = c.args.command.now.grid in
    let t = c.args.command.now.task in
    on_ok c.case_threads.result (NotifiedOfTurns any_rules c.in_ok-progs.progs dims (g.G.Gate.notified c.args.gate.now)) (NotifiedOfTurns (plan_of t c.args.subject.now).rules ((plan_of t c.args.subject.now).starts (ranks dims)) dims (g.G.Gate.notified c.args.gate.now))
    (told_of_task t c.args.subject.now dims (g.G.Gate.notified c.args.gate.now) c.in_ok-progs.progs (are g x) (some g x)) c.case_threads.ensures.notified
