use Rattle.std.proofs.Common.{◌≤◌, ◌≡◌, ◌+◌, ◌∙◌, [], ◌∷◌, refl, subst, true}
use Rattle.route_tensor.proofs.Coordinates.{ranks_some}
use Rattle.route_tensor.specs.Grid.{ranks}
use Rattle.app_histo_ig.specs.Asking.{ig_talk}
use Rattle.app_histo_ig.specs.AskingRuns.{AreAskersOf}
use Rattle.bale_runs.proofs.Asked.{they_ask}
use Rattle.biconvey.specs.DrivePromises.{HasExchanged, HasSweptBoth}
use Rattle.biconvey.specs.RanksOverBanks.{bi_turns_of}
use Rattle.std.specs.List.{range_with_len}
use Rattle.bale_runs.specs.Asking.{AskedInOrder, LeftByQueries}
use Rattle.bale_runs.proofs.Exchanges.{is_slots}
use Rattle.bale_runs.specs.Runs.{made_for}
use Rattle.bale_runs.proofs.Heard.{all_heard, if_ok, one_each}
use Rattle.bale_runs.proofs.Replied.{told_replies}
use Rattle.bale_runs.proofs.Orders.{by_number, ordered}
use Rattle.bale_runs.proofs.asking.hear_serially.Given.{Over}
use Rattle.bale_runs.proofs.asking.hear_serially.Goals.{In_ok-askers}
use Rattle.bale_runs.proofs.asking.hear_serially.Goals as goal

pub start_askers-requires : goal.start_askers-requires
start_askers-requires g c = record { ended = (ranks c.args.command.now.grid, ranks_some c.args.command.now.grid c.ranks.ensures.grid.positive, c.requires.ended) }

some : (g : Over) (c : In_ok-askers g) → 1 ≤ ranks c.args.command.now.grid
some g c = ranks_some c.args.command.now.grid c.ranks.ensures.grid.positive

are : (g : Over) (c : In_ok-askers g) → AreAskersOf c.args.m.now (ranks c.args.command.now.grid) c.in_ok-askers.askers
are g c = c.in_ok-askers.ensures.askers (ranks c.args.command.now.grid) (some g c) c.requires.ended

pub bi_serial-requires-clause-askers : goal.bi_serial-requires-clause-askers
bi_serial-requires-clause-askers g c =
    they_ask c.args.m.now (ranks c.args.command.now.grid) c.in_ok-askers.askers (are g (goal.at.bi_serial-requires-clause-askers g c).In_ok-askers)

pub bi_serial-requires-clause-order : goal.bi_serial-requires-clause-order
bi_serial-requires-clause-order g c =
    ordered c.ranks.result (ranks c.args.command.now.grid) c.deref.result.now (c.deref.ensures.value ∙ c.in_ok-order.ensures) c.ranks.ensures.value

pub returns-clause-asked : goal.returns-clause-asked
returns-clause-asked g c =
    let x = (goal.at.returns-clause-asked g c).In_ok-askers in
    let steady = c.args.command.now.travel.steady in
    if_ok c.bi_serial.result (HasExchanged ig_talk c.in_ok-askers.askers (made_for true c.args.command.now) steady) (LeftByQueries c.args.m.now (made_for true c.args.command.now) steady)
    (λ run h. record {
      heard = all_heard c.args.m.now (ranks c.args.command.now.grid) c.in_ok-askers.askers run.progs (some g x) c.known.ensures (are g x) h.heard;
      rounds = told_replies c.args.m.now (made_for true c.args.command.now) steady run.rounds c.in_ok-askers.askers c.known.ensures (are g x) h.rounds;
    })
    c.bi_serial.ensures.exchanged

pub returns-clause-steps : goal.returns-clause-steps
returns-clause-steps g c =
    let x = (goal.at.returns-clause-steps g c).In_ok-askers in
    subst (λ n. c.bi_serial.new.steps ≤ c.args.steps.now + bi_turns_of c.args.command.now.grid n) (one_each c.args.m.now (ranks c.args.command.now.grid) c.in_ok-askers.askers (some g x) (are g x)) c.bi_serial.ensures.steps

pub bi_serial-requires-clause-capacity : goal.bi_serial-requires-clause-capacity
bi_serial-requires-clause-capacity g c = c.requires.ranges.travel.buffer

pub bi_serial-requires-clause-slots : goal.bi_serial-requires-clause-slots
bi_serial-requires-clause-slots g c = is_slots c.args.command.now.travel.slots c.requires.ranges.travel.slots

pub returns-clause-fewest : goal.returns-clause-fewest
returns-clause-fewest g c =
    if_ok c.bi_serial.result (HasSweptBoth ig_talk c.in_ok-askers.askers (made_for true c.args.command.now) c.args.command.now.travel.steady c.deref.result.now c.args.steps.now c.bi_serial.new.steps) (λ run. c.args.steps.now + ranks c.args.command.now.grid ≤ c.bi_serial.new.steps)
    (λ run h. h.fewest) c.bi_serial.ensures.swept

pub returns-clause-swept : goal.returns-clause-swept
returns-clause-swept g c =
    let x = (goal.at.returns-clause-swept g c).In_ok-askers in
    let p = ranks c.args.command.now.grid in
    let made = made_for true c.args.command.now in
    let steady = c.args.command.now.travel.steady in
    let askers = c.in_ok-askers.askers in
    if_ok c.bi_serial.result (HasSweptBoth ig_talk askers made steady c.deref.result.now c.args.steps.now c.bi_serial.new.steps)
    (λ run. AskedInOrder c.args.m.now made steady c.args.steps.now c.bi_serial.new.steps run.rounds)
    (λ run h. record {
      askers = askers;
      are = are g x;
      run = run;
      left = refl;
      swept = subst (λ order. HasSweptBoth ig_talk askers made steady order c.args.steps.now c.bi_serial.new.steps run)
          (by_number c.ranks.result p c.deref.result.now (c.deref.ensures.value ∙ c.in_ok-order.ensures) c.ranks.ensures.value) h;
    })
    c.bi_serial.ensures.swept
