use Rattle.std.proofs.Common.{IfOk, subst}
use Rattle.app_histo_ig.specs.SumsRuns.{sums_starts}
use Rattle.app_histo_ig.specs.AskingRuns.{AreAskersOf}
use Rattle.app_histo_ig.proofs.SumsAsked.{as_many}
use Rattle.bale_runs.proofs.Heard.{some_starts, sums_ended}
use Rattle.bale_runs.proofs.asking.start_askers.Goals as goal

pub take_all-requires : goal.take_all-requires
take_all-requires c =
    let p = c.requires.ended.0 in
    record { ended = (sums_starts p c.args.m.now, some_starts c.args.m.now p c.requires.ended.1, c.requires.ended.2) }

pub ig_askers-requires : goal.ig_askers-requires
ig_askers-requires c =
    let p = c.requires.ended.0 in
    record {
      ended = sums_ended c.args.m.now p c.in_ok-sums.sums c.requires.ended.1 c.known.ensures
          (c.in_ok-sums.ensures.ended (sums_starts p c.args.m.now) (some_starts c.args.m.now p c.requires.ended.1) c.requires.ended.2);
    }

pub returns : goal.returns
returns c =
    record {
      askers = λ p some h.
          let sums = sums_ended c.args.m.now p c.in_ok-sums.sums some c.known.ensures (c.in_ok-sums.ensures.ended (sums_starts p c.args.m.now) (some_starts c.args.m.now p some) h) in
          subst (λ n. IfOk c.ig_askers.result (λ askers. AreAskersOf c.args.m.now n askers)) (as_many c.args.m.now c.in_ok-sums.sums sums) c.ig_askers.ensures;
    }
