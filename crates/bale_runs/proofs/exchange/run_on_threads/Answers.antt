use Rattle.std.proofs.Common.{true, false, sym, ◌∙◌}
use Rattle.bale_runs.proofs.Reports.{reported, told_epochs}
use Rattle.bale_runs.proofs.exchange.run_on_threads.Goals as goal

pub returns-then-by_asking-clause-finish : goal.returns-then-by_asking-clause-finish
returns-then-by_asking-clause-finish g c =
    reported true c.args.command.now c.args.subject.now false g.K.Sink.taken g.K.Sink.faults c.args.out.now c.ask_on_threads.new.out c.ask_on_threads.result
    (sym c.by_asking.ensures ∙ c.if-by_asking.true) c.known.ensures c.known_subject.ensures c.requires c.ask_on_threads.ensures.finish

pub returns-then-by_asking-clause-notified : goal.returns-then-by_asking-clause-notified
returns-then-by_asking-clause-notified g c =
    told_epochs true c.args.command.now c.args.subject.now false (g.G.Gate.notified c.args.gate.now) c.ask_on_threads.result c.ask_on_threads.ensures.finish.rounds c.ask_on_threads.ensures.notified

pub returns-else-by_asking-clause-finish : goal.returns-else-by_asking-clause-finish
returns-else-by_asking-clause-finish g c =
    reported false c.args.command.now c.args.subject.now false g.K.Sink.taken g.K.Sink.faults c.args.out.now c.exchange_on_threads.new.out c.exchange_on_threads.result
    (sym c.by_asking.ensures ∙ c.if-by_asking.false) c.known.ensures c.known_subject.ensures c.requires c.exchange_on_threads.ensures.finish

pub returns-else-by_asking-clause-notified : goal.returns-else-by_asking-clause-notified
returns-else-by_asking-clause-notified g c =
    told_epochs false c.args.command.now c.args.subject.now false (g.G.Gate.notified c.args.gate.now) c.exchange_on_threads.result c.exchange_on_threads.ensures.finish.rounds c.exchange_on_threads.ensures.notified
