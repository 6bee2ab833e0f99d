use Rattle.std.proofs.Common.{◌<◌, ◌≤◌, ◌≡◌, ◌∙◌, ℕ, List, length, map, ap, refl, subst, sym, true, ◌+◌, ◌*◌}
use Rattle.route_tensor.proofs.Coordinates.{ranks_some}
use Rattle.route_tensor.specs.Grid.{ranks}
use Rattle.rank_node.specs.Movers.{manner_of}
use Rattle.rank_group.specs.DrivePromises.{HasFinished, HasSwept}
use Rattle.rank_node.specs.declared.via.Via.TheVariants as via
use Rattle.round_program.specs.Canonical.{InRound, EndsWithin}
use Rattle.app_cases.specs.Any.{any_rules, sums_way}
use Rattle.app_histo_ig.specs.SumsRuns.{sums_starts}
use Rattle.app_histo_ig.proofs.SumsStarts.{one_round}
use Rattle.bale_runs.specs.Asking.{HasSummed}
use Rattle.bale_runs.specs.Runs.{made_for, SweptInOrder}
use Rattle.bale_runs.proofs.Cases.{tells, fewest, swept_in_order}
use Rattle.bale_runs.proofs.Exchanges.{is_slots}
use Rattle.bale_runs.proofs.Heard.{if_ok, sums_at, sums_turns}
use Rattle.bale_runs.proofs.Orders.{by_number, ordered}
use Rattle.bale_runs.proofs.asking.sum_serially.Given.{Over}
use Rattle.bale_runs.proofs.asking.sum_serially.Goals.{In_ok-progs}
use Rattle.bale_runs.proofs.asking.sum_serially.Goals as goal

pub start_sums-requires-clause-some : goal.start_sums-requires-clause-some
start_sums-requires-clause-some g c = subst (λ n. 1 ≤ n) (sym c.ranks.ensures.value) (ranks_some c.args.command.now.grid c.ranks.ensures.grid.positive)

pub start_sums-requires-clause-few : goal.start_sums-requires-clause-few
start_sums-requires-clause-few g c = subst (λ n. n ≤ 64) (sym c.ranks.ensures.value) c.ranks.ensures.grid.small

-- there are ranks, and a program for each
some : (g : Over) (c : In_ok-progs g) → 0 < length c.in_ok-progs.progs
some g c =
    let ranks : 1 ≤ ranks c.args.command.now.grid = ranks_some c.args.command.now.grid c.ranks.ensures.grid.positive in
    subst (λ n. 0 < n) (sym c.in_ok-progs.ensures.begins.2.size) (subst (λ n. 0 < n) (sym c.ranks.ensures.value) ranks)

-- they are those that sum columns
are : (g : Over) (c : In_ok-progs g) → c.in_ok-progs.progs ≡ map sums_way.case (sums_starts (ranks c.args.command.now.grid) c.args.m.now)
are g c = c.in_ok-progs.ensures.starts ∙ ap (λ n. map sums_way.case (sums_starts n c.args.m.now)) c.ranks.ensures.value

pub case_serial-requires-clause-run : goal.case_serial-requires-clause-run
case_serial-requires-clause-run g c = record {
  one_hop = λ e. absurd cc;
  begins = subst (λ n. (shape : List ℕ) × (most : ℕ) × InRound any_rules n 0 shape most c.in_ok-progs.progs × EndsWithin any_rules c.in_ok-progs.progs most) c.ranks.ensures.value
      c.in_ok-progs.ensures.begins;
}

pub case_serial-requires-clause-order : goal.case_serial-requires-clause-order
case_serial-requires-clause-order g c =
    ordered c.ranks-2.result (ranks c.args.command.now.grid) c.deref.result.now (c.deref.ensures.value ∙ c.in_ok-order.ensures) c.ranks-2.ensures.value

pub returns-clause-summed : goal.returns-clause-summed
returns-clause-summed g c =
    let x = (goal.at.returns-clause-summed g c).In_ok-progs in
    let p = ranks c.args.command.now.grid in
    if_ok c.case_serial.result (HasFinished any_rules c.in_ok-progs.progs (made_for true c.args.command.now) (manner_of via.Convey c.args.command.now.travel.steady)) (HasSummed c.args.m.now (made_for true c.args.command.now) c.args.command.now.travel.steady)
    (λ run h. record {
      ended = sums_at c.args.m.now p c.in_ok-progs.progs run.progs (are g x) h.ended;
      rounds = tells sums_way.is_case (sums_starts p c.args.m.now) c.in_ok-progs.progs (made_for true c.args.command.now) (manner_of via.Convey c.args.command.now.travel.steady) run (are g x) (some g x) h;
    })
    c.case_serial.ensures.finished

pub returns-clause-steps : goal.returns-clause-steps
returns-clause-steps g c =
    let x = (goal.at.returns-clause-steps g c).In_ok-progs in
    sums_turns c.args.m.now c.args.command.now.travel.steady c.args.command.now.grid c.args.steps.now c.case_serial.new.steps c.in_ok-progs.progs (are g x) (some g x) c.case_serial.ensures.steps

pub case_serial-requires-clause-capacity : goal.case_serial-requires-clause-capacity
case_serial-requires-clause-capacity g c = c.requires.ranges.travel.buffer

pub case_serial-requires-clause-slots : goal.case_serial-requires-clause-slots
case_serial-requires-clause-slots g c = is_slots c.args.command.now.travel.slots c.requires.ranges.travel.slots

pub returns-clause-fewest : goal.returns-clause-fewest
returns-clause-fewest g c =
    let x = (goal.at.returns-clause-fewest g c).In_ok-progs in
    let dims = c.args.command.now.grid in
    let starts = sums_starts (ranks dims) c.args.m.now in
    if_ok c.case_serial.result (HasSwept any_rules c.in_ok-progs.progs (made_for true c.args.command.now) (manner_of via.Convey c.args.command.now.travel.steady) c.deref.result.now c.args.steps.now c.case_serial.new.steps)
    (λ run. c.args.steps.now + 2 * ranks dims ≤ c.case_serial.new.steps)
    (λ run h. fewest sums_way.is_case starts c.in_ok-progs.progs dims c.args.steps.now c.case_serial.new.steps (are g x) (some g x) h.fewest 1 (one_round starts))
    c.case_serial.ensures.swept

pub returns-clause-swept : goal.returns-clause-swept
returns-clause-swept g c =
    let x = (goal.at.returns-clause-swept g c).In_ok-progs in
    let dims = c.args.command.now.grid in
    let starts = map sums_way.case (sums_starts (ranks dims) c.args.m.now) in
    let manner = manner_of via.Convey c.args.command.now.travel.steady in
    if_ok c.case_serial.result (HasSwept any_rules c.in_ok-progs.progs (made_for true c.args.command.now) manner c.deref.result.now c.args.steps.now c.case_serial.new.steps)
    (λ run. SweptInOrder starts (made_for true c.args.command.now) manner c.args.steps.now c.case_serial.new.steps run.rounds)
    (λ run h. swept_in_order starts c.in_ok-progs.progs (made_for true c.args.command.now) manner manner c.deref.result.now c.args.steps.now c.case_serial.new.steps run (are g x)
    (by_number c.ranks-2.result (ranks dims) c.deref.result.now (c.deref.ensures.value ∙ c.in_ok-order.ensures) c.ranks-2.ensures.value) refl h)
    c.case_serial.ensures.swept
