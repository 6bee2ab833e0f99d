use Rattle.std.proofs.Common.{subst, All, length, ◌<◌, ◌^◌, arith}
use Rattle.round_examples.proofs.AskSteps.{asking_valid}
use Rattle.round_examples.proofs.ask.Ask.new.Goals as goal

pub invariant_of-result : goal.invariant_of-result
invariant_of-result c =
    let short : length c.args.names.now < 2 ^ 64 = omega arith in
    asking_valid c.args.rank c.args.ranks c.args.table.items c.args.names.now _ _ _ c.requires.rank c.requires.columns (subst (All (λ v. v < 2 ^ 64)) c.deref.ensures.value c.values_are_words.ensures) short c.requires.named c.in_ok-queries.ensures c.in_ok-outgoing.ensures
