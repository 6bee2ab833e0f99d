use Rattle.std.proofs.Common.{sym, ◌<◌, ◌*◌, arith, length, sum, take}
use Rattle.std.proofs.Math.Nat.{mul-zero}
use Rattle.route_tensor.proofs.Links.{below_more, below_all, one_hop_more}
use Rattle.route_tensor.proofs.Ends.{hop_among_in}
use Rattle.route_tensor.proofs.grid.Grid.hop_among.Goals as goal

pub returns-then-number-per-2-clause-below : goal.returns-then-number-per-2-clause-below
returns-then-number-per-2-clause-below c =
    let two : 1 < length c.args.self.now = one_hop_more _ _ 1 _ c.requires.number (rw c.sum.ensures.value at c.if-number-per.false) in
    below_more _ _ 2 _ (omega arith) two (rw c.sum-else-number-per.ensures.value at c.if-number-per-2.true)

pub returns-else-number-per-2-clause-below : goal.returns-else-number-per-2-clause-below
returns-else-number-per-2-clause-below c =
    let three : 2 < length c.args.self.now = one_hop_more _ _ 2 _ c.requires.number (rw c.sum-else-number-per.ensures.value at c.if-number-per-2.false) in
    below_more _ _ 3 _ (omega arith) three (below_all _ _ 3 _ (omega (arith, three, c.sum.ensures.grid.few)) c.requires.number)

pub returns-then-number-per-clause-value : goal.returns-then-number-per-clause-value
returns-then-number-per-clause-value c =
    let some = c.sum.ensures.grid.some in
    let q : c.args.number < c.args.per * sum (take 1 c.args.self.now) = rw c.sum.ensures.value at c.if-number-per.true in
    sym (hop_among_in _ _ 1 _ (omega arith) some (omega (arith, mul-zero c.args.per)) (below_more _ _ 1 _ (omega arith) some q))

pub returns-then-number-per-2-clause-value : goal.returns-then-number-per-2-clause-value
returns-then-number-per-2-clause-value c =
    let two : 1 < length c.args.self.now = one_hop_more _ _ 1 _ c.requires.number (rw c.sum.ensures.value at c.if-number-per.false) in
    sym (hop_among_in _ _ 2 _ (omega arith) two (rw c.sum.ensures.value at c.if-number-per.false) (returns-then-number-per-2-clause-below c))

pub returns-else-number-per-2-clause-value : goal.returns-else-number-per-2-clause-value
returns-else-number-per-2-clause-value c =
    let three : 2 < length c.args.self.now = one_hop_more _ _ 2 _ c.requires.number (rw c.sum-else-number-per.ensures.value at c.if-number-per-2.false) in
    sym (hop_among_in _ _ 3 _ (omega arith) three (rw c.sum-else-number-per.ensures.value at c.if-number-per-2.false) (returns-else-number-per-2-clause-below c))
