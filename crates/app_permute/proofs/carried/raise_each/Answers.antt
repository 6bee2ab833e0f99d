use Rattle.app_permute.proofs.carried.raise_each.Goals as goal

pub returns-in_err-raise_own-clause-own : goal.returns-in_err-raise_own-clause-own
returns-in_err-raise_own-clause-own g c = λ all. c.raise_own.ensures.own (c.loop-from.invariant.own all)

pub returns-clause-own : goal.returns-clause-own
returns-clause-own g c = c.loop-from.invariant.own
