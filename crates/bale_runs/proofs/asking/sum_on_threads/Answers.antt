use Rattle.std.proofs.Common.{◌<◌, ◌≤◌, ◌≡◌, ◌∙◌, ℕ, List, length, map, ap, subst, sym, true, false}
use Rattle.route_tensor.proofs.Coordinates.{ranks_some}
use Rattle.route_tensor.specs.Grid.{ranks}
use Rattle.rank_node.specs.Movers.{manner_of}
use Rattle.rank_group.specs.DrivePromises.{HasFinished, NotifiedOfTurns}
use Rattle.rank_node.specs.declared.via.Via.TheVariants as via
use Rattle.round_program.specs.Canonical.{InRound, EndsWithin}
use Rattle.app_cases.specs.Any.{any_rules, sums_way}
use Rattle.app_histo_ig.specs.SumsRuns.{sums_starts}
use Rattle.bale_runs.specs.Asking.{HasSummed, NotifiedBy}
use Rattle.bale_subjects.specs.declared.subject.Subject.TheVariants as subject
use Rattle.app_histo_ig.proofs.SumsStarts.{one_round}
use Rattle.bale_runs.specs.Runs.{made_for}
use Rattle.bale_runs.proofs.Cases.{tells, on_ok, told_turns}
use Rattle.bale_runs.proofs.Exchanges.{is_slots}
use Rattle.bale_runs.proofs.Heard.{if_ok, sums_at}
use Rattle.bale_runs.proofs.asking.sum_on_threads.Given.{Over}
use Rattle.bale_runs.proofs.asking.sum_on_threads.Goals.{In_ok-progs}
use Rattle.bale_runs.proofs.asking.sum_on_threads.Goals as goal

pub start_sums-requires-clause-some : goal.start_sums-requires-clause-some
start_sums-requires-clause-some g c = subst (λ n. 1 ≤ n) (sym c.ranks.ensures.value) (ranks_some c.args.command.now.grid c.ranks.ensures.grid.positive)

pub start_sums-requires-clause-few : goal.start_sums-requires-clause-few
start_sums-requires-clause-few g c = subst (λ n. n ≤ 64) (sym c.ranks.ensures.value) c.ranks.ensures.grid.small

-- there are ranks, and a program for each
some : (g : Over) (c : In_ok-progs g) → 0 < length c.in_ok-progs.progs
some g c =
    let ranks : 1 ≤ ranks c.args.command.now.grid = ranks_some c.args.command.now.grid c.ranks.ensures.grid.positive in
    subst (λ n. 0 < n) (sym c.in_ok-progs.ensures.begins.2.size) (subst (λ n. 0 < n) (sym c.ranks.ensures.value) ranks)

-- they are those that sum columns
are : (g : Over) (c : In_ok-progs g) → c.in_ok-progs.progs ≡ map sums_way.case (sums_starts (ranks c.args.command.now.grid) c.args.m.now)
are g c = c.in_ok-progs.ensures.starts ∙ ap (λ n. map sums_way.case (sums_starts n c.args.m.now)) c.ranks.ensures.value

pub case_threads-requires-clause-run : goal.case_threads-requires-clause-run
case_threads-requires-clause-run g c κs within = record {
  one_hop = λ e. absurd cc;
  begins = subst (λ n. (shape : List ℕ) × (most : ℕ) × InRound any_rules n 0 shape most c.in_ok-progs.progs × EndsWithin any_rules c.in_ok-progs.progs most) c.ranks.ensures.value
      c.in_ok-progs.ensures.begins;
}

pub returns-clause-summed : goal.returns-clause-summed
returns-clause-summed g c =
    let x = (goal.at.returns-clause-summed g c).In_ok-progs in
    let p = ranks c.args.command.now.grid in
    if_ok c.case_threads.result (HasFinished any_rules c.in_ok-progs.progs (made_for false c.args.command.now) (manner_of via.Convey c.args.command.now.travel.steady)) (HasSummed c.args.m.now (made_for false c.args.command.now) c.args.command.now.travel.steady)
    (λ run h. record {
      ended = sums_at c.args.m.now p c.in_ok-progs.progs run.progs (are g x) h.ended;
      rounds = tells sums_way.is_case (sums_starts p c.args.m.now) c.in_ok-progs.progs (made_for false c.args.command.now) (manner_of via.Convey c.args.command.now.travel.steady) run (are g x) (some g x) h;
    })
    c.case_threads.ensures.finished

pub case_threads-requires-clause-capacity : goal.case_threads-requires-clause-capacity
case_threads-requires-clause-capacity g c κs within = c.requires.ranges.travel.buffer

pub case_threads-requires-clause-slots : goal.case_threads-requires-clause-slots
case_threads-requires-clause-slots g c κs within = is_slots c.args.command.now.travel.slots c.requires.ranges.travel.slots

pub returns-clause-notified : goal.returns-clause-notified
returns-clause-notified g c =
    let x = (goal.at.returns-clause-notified g c).In_ok-progs in
    let dims = c.args.command.now.grid in
    let starts = sums_starts (ranks dims) c.args.m.now in
    on_ok c.case_threads.result (NotifiedOfTurns any_rules c.in_ok-progs.progs dims (g.G.Gate.notified c.args.gate.now))
    (NotifiedBy true c.args.command.now (subject.Matrix c.args.m.now) (g.G.Gate.notified c.args.gate.now))
    (λ f r m low few. told_turns sums_way.is_case starts c.in_ok-progs.progs dims (g.G.Gate.notified c.args.gate.now) (are g x) (some g x) f 1 r m (one_round starts) low few)
    c.case_threads.ensures.notified
