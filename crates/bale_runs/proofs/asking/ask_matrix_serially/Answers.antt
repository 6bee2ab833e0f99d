use Rattle.std.proofs.Common.{◌+◌, ◌*◌, ◌≤◌, List, true, refl}
use Rattle.route_tensor.specs.Grid.{ranks}
use Rattle.rank_group.specs.declared.closed_round.ClosedRound.{ClosedRound}
use Rattle.bale_subjects.specs.declared.subject.Subject.TheVariants as subject
use Rattle.bale_runs.specs.Asking.{SweptByAsking, RecordsAsking}
use Rattle.bale_runs.specs.Runs.{made_for}
use Rattle.bale_runs.proofs.Cases.{finish, always, rounds_as}
use Rattle.bale_runs.proofs.Heard.{tells_asking, three_each, turns_of_both, turns_of_sums}
use Rattle.bale_runs.proofs.asking.ask_matrix_serially.Goals as goal

pub returns-clause-finish : goal.returns-clause-finish
returns-clause-finish g c =
    finish c.args.command.now (subject.Matrix c.args.m.now)
    (λ (rs : List ClosedRound). RecordsAsking c.args.m.now (made_for true c.args.command.now) c.args.command.now.travel.steady rs)
    g.K.Sink.taken g.K.Sink.faults c.args.out.now c.finish_asking.new.out c.finish_asking.result c.finish_asking.ensures
    (tells_asking c.args.m.now (made_for true c.args.command.now) c.args.command.now.travel.steady _ c.in_ok-summed.summed.rounds
    c.in_ok-replied.replied.rounds c.in_ok-summed.ensures.summed.rounds c.in_ok-replied.ensures.asked.rounds refl)

pub returns-in_err-summed-clause-steps : goal.returns-in_err-summed-clause-steps
returns-in_err-summed-clause-steps g c =
    turns_of_sums c.args.m.now c.args.command.now.travel.steady c.args.command.now.grid c.args.steps.now c.sum_serially.new.steps c.sum_serially.ensures.steps

pub returns-in_err-replied-clause-steps : goal.returns-in_err-replied-clause-steps
returns-in_err-replied-clause-steps g c =
    turns_of_both c.args.m.now c.args.command.now.travel.steady c.args.command.now.grid c.args.steps.now c.sum_serially.new.steps c.hear_serially.new.steps
    c.sum_serially.ensures.steps c.hear_serially.ensures.steps

pub returns-clause-steps : goal.returns-clause-steps
returns-clause-steps g c =
    turns_of_both c.args.m.now c.args.command.now.travel.steady c.args.command.now.grid c.args.steps.now c.sum_serially.new.steps c.hear_serially.new.steps
    c.sum_serially.ensures.steps c.hear_serially.ensures.steps

pub returns-clause-fewest : goal.returns-clause-fewest
returns-clause-fewest g c =
    let n = ranks c.args.command.now.grid in
    always c.finish_asking.result (c.args.steps.now + 3 * n ≤ c.hear_serially.new.steps)
    (three_each c.args.steps.now c.sum_serially.new.steps c.hear_serially.new.steps n c.in_ok-summed.ensures.fewest c.in_ok-replied.ensures.fewest)

pub returns-clause-swept : goal.returns-clause-swept
returns-clause-swept g c =
    rounds_as
    (λ (rs : List ClosedRound). SweptByAsking c.args.m.now (made_for true c.args.command.now) c.args.command.now.travel.steady c.args.steps.now c.hear_serially.new.steps rs)
    c.finish_asking.result c.finish_asking.ensures.rounds
    (record {
      between = c.sum_serially.new.steps;
      sums = c.in_ok-summed.summed.rounds;
      rest = c.in_ok-replied.replied.rounds;
      parts = refl;
      summed = c.in_ok-summed.ensures.swept;
      asked = c.in_ok-replied.ensures.swept;
    })
