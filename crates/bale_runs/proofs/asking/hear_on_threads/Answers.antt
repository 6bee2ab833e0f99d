use Rattle.std.proofs.Common.{◌≤◌, ◌≡◌, [], ◌∷◌, false}
use Rattle.route_tensor.proofs.Coordinates.{ranks_some}
use Rattle.route_tensor.specs.Grid.{ranks}
use Rattle.app_histo_ig.specs.Asking.{ig_talk}
use Rattle.app_histo_ig.specs.AskingRuns.{AreAskersOf}
use Rattle.bale_runs.proofs.Asked.{they_ask}
use Rattle.biconvey.specs.DrivePromises.{HasExchanged}
use Rattle.bale_runs.specs.Asking.{LeftByQueries}
use Rattle.bale_runs.proofs.Exchanges.{is_slots}
use Rattle.bale_runs.specs.Runs.{made_for}
use Rattle.bale_runs.proofs.Heard.{all_heard, if_ok}
use Rattle.bale_runs.proofs.Replied.{told_replies}
use Rattle.bale_runs.proofs.asking.hear_on_threads.Given.{Over}
use Rattle.bale_runs.proofs.asking.hear_on_threads.Goals.{In_ok-askers}
use Rattle.bale_runs.proofs.asking.hear_on_threads.Goals as goal

pub start_askers-requires : goal.start_askers-requires
start_askers-requires g c = record { ended = (ranks c.args.command.now.grid, ranks_some c.args.command.now.grid c.known-2.ensures.positive, c.requires.ended) }

some : (g : Over) (c : In_ok-askers g) → 1 ≤ ranks c.args.command.now.grid
some g c = ranks_some c.args.command.now.grid c.known-2.ensures.positive

are : (g : Over) (c : In_ok-askers g) → AreAskersOf c.args.m.now (ranks c.args.command.now.grid) c.in_ok-askers.askers
are g c = c.in_ok-askers.ensures.askers (ranks c.args.command.now.grid) (some g c) c.requires.ended

pub bi_threads-requires-clause-askers : goal.bi_threads-requires-clause-askers
bi_threads-requires-clause-askers g c κs within =
    they_ask c.args.m.now (ranks c.args.command.now.grid) c.in_ok-askers.askers (are g (goal.at.bi_threads-requires-clause-askers g c).In_ok-askers)

pub returns : goal.returns
returns g c =
    let x = (goal.at.returns g c).In_ok-askers in
    let steady = c.args.command.now.travel.steady in
    if_ok c.bi_threads.result (HasExchanged ig_talk c.in_ok-askers.askers (made_for false c.args.command.now) steady) (LeftByQueries c.args.m.now (made_for false c.args.command.now) steady)
    (λ run h. record {
      heard = all_heard c.args.m.now (ranks c.args.command.now.grid) c.in_ok-askers.askers run.progs (some g x) c.known.ensures (are g x) h.heard;
      rounds = told_replies c.args.m.now (made_for false c.args.command.now) steady run.rounds c.in_ok-askers.askers c.known.ensures (are g x) h.rounds;
    })
    c.bi_threads.ensures.exchanged

pub bi_threads-requires-clause-capacity : goal.bi_threads-requires-clause-capacity
bi_threads-requires-clause-capacity g c κs within = c.requires.ranges.travel.buffer

pub bi_threads-requires-clause-slots : goal.bi_threads-requires-clause-slots
bi_threads-requires-clause-slots g c κs within = is_slots c.args.command.now.travel.slots c.requires.ranges.travel.slots
