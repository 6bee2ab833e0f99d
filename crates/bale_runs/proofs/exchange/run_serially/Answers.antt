use Rattle.std.proofs.Common.{true, false, sym, ◌∙◌}
use Rattle.bale_runs.proofs.Reports.{reported}
use Rattle.bale_runs.proofs.exchange.run_serially.Goals as goal

pub returns-then-by_asking-clause-finish : goal.returns-then-by_asking-clause-finish
returns-then-by_asking-clause-finish g c =
    reported true c.args.command.now c.args.subject.now true g.K.Sink.taken g.K.Sink.faults c.args.out.now c.ask_serially.new.out c.ask_serially.result
    (sym c.by_asking.ensures ∙ c.if-by_asking.true) c.known.ensures c.known_subject.ensures c.requires c.ask_serially.ensures.finish

pub returns-else-by_asking-clause-finish : goal.returns-else-by_asking-clause-finish
returns-else-by_asking-clause-finish g c =
    reported false c.args.command.now c.args.subject.now true g.K.Sink.taken g.K.Sink.faults c.args.out.now c.exchange_serially.new.out c.exchange_serially.result
    (sym c.by_asking.ensures ∙ c.if-by_asking.false) c.known.ensures c.known_subject.ensures c.requires c.exchange_serially.ensures.finish
