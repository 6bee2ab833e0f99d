use Rattle.std.proofs.Common.{◌%◌, [], ◌∷◌, length, length-append, ap, arith}
use Rattle.std.proofs.lemmas.Nat.{mod_below}
use Rattle.round_examples.proofs.TrafficRuns.{aims_more}
use Rattle.measure_threads.proofs.exchange.targets_of.Goals as goal

pub loop-preserved : goal.loop-preserved
loop-preserved c =
    let to = c.next_word.result % c.args.ranks in
    let cell = c.next_word-cell.result % 1024 in (
      omega (arith, ap length c.in_ok-push.ensures.items, length-append c.loop.targets.items ((to, cell) ∷ []), c.loop.invariant.0),
      aims_more c.args.ranks c.loop.targets.items c.push.new.self.items (to, cell) c.loop.invariant.1 (mod_below c.next_word.result c.args.ranks c.requires, mod_below c.next_word-cell.result 1024 (omega arith)) c.in_ok-push.ensures.items,
    )
