use Rattle.std.proofs.Common.{List, false, refl}
use Rattle.rank_group.specs.declared.closed_round.ClosedRound.{ClosedRound}
use Rattle.bale_subjects.specs.declared.subject.Subject.TheVariants as subject
use Rattle.bale_runs.specs.Asking.{RecordsAsking}
use Rattle.bale_runs.specs.Runs.{made_for}
use Rattle.bale_runs.proofs.Cases.{finish}
use Rattle.bale_runs.proofs.Heard.{tells_asking}
use Rattle.bale_runs.proofs.asking.ask_matrix_on_threads.Goals as goal

pub returns-clause-finish : goal.returns-clause-finish
returns-clause-finish g c =
    finish c.args.command.now (subject.Matrix c.args.m.now)
    (λ (rs : List ClosedRound). RecordsAsking c.args.m.now (made_for false c.args.command.now) c.args.command.now.travel.steady rs)
    g.K.Sink.taken g.K.Sink.faults c.args.out.now c.finish_asking.new.out c.finish_asking.result c.finish_asking.ensures
    (tells_asking c.args.m.now (made_for false c.args.command.now) c.args.command.now.travel.steady _ c.in_ok-summed.summed.rounds
    c.in_ok-replied.replied.rounds c.in_ok-summed.ensures.summed.rounds c.in_ok-replied.ensures.rounds refl)
