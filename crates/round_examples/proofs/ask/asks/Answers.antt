use Rattle.std.proofs.Common.{◌++◌, sym, ap, ◌∙◌}
use Rattle.std.proofs.lemmas.List.{append-nil, drop_all}
use Rattle.round_examples.specs.Asks.{asks_from}
use Rattle.round_examples.proofs.ask.asks.Goals as goal

pub returns : goal.returns
returns c =
    sym (append-nil c.loop-e.outgoing.items)
    ∙ (ap (λ w. c.loop-e.outgoing.items ++ asks_from c.args.ranks c.loop-e.e w) (sym (drop_all c.loop-e.e c.args.names.now c.loop-e-test.false))
    ∙ c.loop-e.invariant)
