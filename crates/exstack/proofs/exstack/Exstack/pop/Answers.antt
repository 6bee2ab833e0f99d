use Rattle.std.proofs.Common.{◌≡◌, Some, None, slice_get, subst, rules}
use Rattle.std.specs.List.{position}
use Rattle.exstack.specs.Links.{has_unread, with_first_read}
use Rattle.exstack.specs.Standing.{IsStack}
use Rattle.exstack.proofs.Popping.{pop_is, popped_by}
use Rattle.exstack.proofs.Calls.{none_kept, pop_kept, found_some, nothing_first}
use Rattle.exstack.proofs.exstack.Exstack.pop.Goals as goal

pub invariant_of-self : goal.invariant_of-self
invariant_of-self g c = none_kept g.row.CAP _ c.self.inside.from c.self.invariant (search rules)

pub returns-in_err-entry-clause-state : goal.returns-in_err-entry-clause-state
returns-in_err-entry-clause-state g c =
    let found : position has_unread c.self.inside.ins.items ≡ Some c.in-Some.from = search rules in
    let none : c.take.result ≡ None = search rules in
    absurd (found_some g.row.CAP _ c.self.inside.from c.in-Some.from c.index_mut.result.now c.self.invariant found c.index_mut.ensures.value (nothing_first c.index_mut.result.now c.take.result c.take.ensures.value none))

pub returns-in_err-entry-clause-is : goal.returns-in_err-entry-clause-is
returns-in_err-entry-clause-is g c =
    let found : position has_unread c.self.inside.ins.items ≡ Some c.in-Some.from = search rules in
    let none : c.take.result ≡ None = search rules in
    absurd (found_some g.row.CAP _ c.self.inside.from c.in-Some.from c.index_mut.result.now c.self.invariant found c.index_mut.ensures.value (nothing_first c.index_mut.result.now c.take.result c.take.ensures.value none))

pub invariant_of-self-2 : goal.invariant_of-self-2
invariant_of-self-2 g c =
    let found : position has_unread c.self.inside.ins.items ≡ Some c.in-Some.from = search rules in
    let read : c.take.new.self ≡ with_first_read c.index_mut.result.now = search rules in
    pop_kept g.row.CAP _ c.self.inside.from c.in-Some.from c.index_mut.result.now c.self.invariant found c.index_mut.ensures.value c.take.new.self read

pub returns-in_default-clause-is : goal.returns-in_default-clause-is
returns-in_default-clause-is g c =
    let s : IsStack g.row.CAP c.args.self.now = subst (IsStack g.row.CAP) c.self.view_is c.self.invariant.standing in
    pop_is g.row.CAP c.args.self.now _ _ s (search rules) (search rules)

pub returns-clause-is : goal.returns-clause-is
returns-clause-is g c =
    let found : position has_unread c.self.inside.ins.items ≡ Some c.in-Some.from = search rules in
    let read : c.take.new.self ≡ with_first_read c.index_mut.result.now = search rules in
    let first : slice_get c.index_mut.result.now.unread 0 ≡ Some c.in_ok-entry.entry = search rules in
    popped_by g.row.CAP _ c.args.self.now c.self.inside.from c.in-Some.from c.index_mut.result.now c.take.new.self c.self.view_is c.self.invariant c.in_ok-entry.entry found c.index_mut.ensures.value read first
