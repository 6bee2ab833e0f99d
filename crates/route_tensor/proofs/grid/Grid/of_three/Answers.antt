use Rattle.std.proofs.Common.{sym, ◌<◌, arith, ◌*◌}
use Rattle.route_tensor.proofs.Kept.{refusal_zero, refusal_many, refusal_none, kept_made}
use Rattle.route_tensor.proofs.grid.Grid.of_three.Goals as goal

pub returns-then-ranks-eq0-clause-refused : goal.returns-then-ranks-eq0-clause-refused
returns-then-ranks-eq0-clause-refused c = sym (refusal_zero _ _ _ _ (record { some = c.requires.some; few = c.requires.few; second = c.requires.second; third = c.requires.third }) (rw (c.from.ensures, c.from-2.ensures, c.from-3.ensures) at c.if-ranks-eq0.true))

pub returns-then-ranks-gt64-clause-refused : goal.returns-then-ranks-gt64-clause-refused
returns-then-ranks-gt64-clause-refused c = sym (refusal_many _ _ _ _ (record { some = c.requires.some; few = c.requires.few; second = c.requires.second; third = c.requires.third }) (rw (c.from.ensures, c.from-2.ensures, c.from-3.ensures) at c.if-ranks-gt64.true))

pub invariant_of-result : goal.invariant_of-result
invariant_of-result c =
    kept_made _ _ _ _ (record { some = c.requires.some; few = c.requires.few; second = c.requires.second; third = c.requires.third })
    (let some : 0 < c.from.result * c.from-2.result * c.from-3.result = omega (arith, c.if-ranks-eq0.false) in (rw (c.from.ensures, c.from-2.ensures, c.from-3.ensures) at some)) (rw (c.from.ensures, c.from-2.ensures, c.from-3.ensures) at c.if-ranks-gt64.false)

pub returns-clause-refused : goal.returns-clause-refused
returns-clause-refused c =
    sym (refusal_none _ _ _ _ (record { some = c.requires.some; few = c.requires.few; second = c.requires.second; third = c.requires.third })
    (let some : 0 < c.from.result * c.from-2.result * c.from-3.result = omega (arith, c.if-ranks-eq0.false) in (rw (c.from.ensures, c.from-2.ensures, c.from-3.ensures) at some)) (rw (c.from.ensures, c.from-2.ensures, c.from-3.ensures) at c.if-ranks-gt64.false))

pub returns-clause-grid : goal.returns-clause-grid
returns-clause-grid c = (invariant_of-result c).grid
