use Rattle.std.proofs.Common.{◌≡◌, ◌<◌, Some, length, subst, arith, rules}
use Rattle.exstack.specs.Standing.{IsStack}
use Rattle.exstack.proofs.Popping.{unpop_is, unpopped_by}
use Rattle.exstack.proofs.Calls.{unpop_within, unpop_kept}
use Rattle.exstack.proofs.exstack.Exstack.unpop.Goals as goal

pub index_mut-requires : goal.index_mut-requires
index_mut-requires g c =
    let popped : c.self.inside.popped ≡ Some c.in-Some.from = search rules in
    let w : c.in-Some.from < length c.self.inside.ins.items = unpop_within g.row.CAP _ c.self.inside.from c.in-Some.from c.self.invariant popped in
    omega (arith, w, c.self.inside.ins.ok)

pub invariant_of-self : goal.invariant_of-self
invariant_of-self g c =
    let popped : c.self.inside.popped ≡ Some c.in-Some.from = search rules in
    unpop_kept g.row.CAP _ c.self.inside.from c.in-Some.from c.self.invariant popped c.index_mut.result.now c.index_mut.ensures.value c.put_back.new.self c.put_back.ensures c.min-self-inside.result (search rules)

pub returns-in-None-clause-is : goal.returns-in-None-clause-is
returns-in-None-clause-is g c =
    let s : IsStack g.row.CAP c.args.self.now = subst (IsStack g.row.CAP) c.self.view_is c.self.invariant.standing in
    unpop_is g.row.CAP c.args.self.now _ _ s (search rules) (search rules)

pub returns-in-Some-clause-is : goal.returns-in-Some-clause-is
returns-in-Some-clause-is g c =
    let popped : c.self.inside.popped ≡ Some c.in-Some.from = search rules in
    unpopped_by g.row.CAP _ c.args.self.now c.self.inside.from c.in-Some.from c.index_mut.result.now c.put_back.new.self c.self.view_is c.self.invariant popped c.index_mut.ensures.value c.put_back.ensures
