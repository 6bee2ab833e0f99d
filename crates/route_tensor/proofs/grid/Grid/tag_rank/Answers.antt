use Rattle.std.proofs.Common.{arith}
use Rattle.route_tensor.proofs.Kept.{tag_parts}
use Rattle.route_tensor.proofs.grid.Grid.tag_rank.Goals as goal

pub overflow_mul-result : goal.overflow_mul-result
overflow_mul-result c = let b = tag_parts _ _ _ _ _ _ _ c.self.invariant c.self.view_is c.requires in rw c.from-3.ensures (omega (arith, b.product))

pub overflow_add-result : goal.overflow_add-result
overflow_add-result c = let b = tag_parts _ _ _ _ _ _ _ c.self.invariant c.self.view_is c.requires in rw (c.from-2.ensures, c.from-3.ensures) (omega (arith, b.inner))

pub overflow_mul-result-2 : goal.overflow_mul-result-2
overflow_mul-result-2 c = let b = tag_parts _ _ _ _ _ _ _ c.self.invariant c.self.view_is c.requires in rw (c.from-2.ensures, c.from-3.ensures) (omega (arith, b.outer))

pub overflow_add-result-2 : goal.overflow_add-result-2
overflow_add-result-2 c = let b = tag_parts _ _ _ _ _ _ _ c.self.invariant c.self.view_is c.requires in rw (c.from.ensures, c.from-2.ensures, c.from-3.ensures) (omega (arith, b.whole))

pub returns-clause-value : goal.returns-clause-value
returns-clause-value c = let b = tag_parts _ _ _ _ _ _ _ c.self.invariant c.self.view_is c.requires in rw (c.from.ensures, c.from-2.ensures, c.from-3.ensures) b.value

pub returns-clause-rank : goal.returns-clause-rank
returns-clause-rank c = let b = tag_parts _ _ _ _ _ _ _ c.self.invariant c.self.view_is c.requires in rw (c.from.ensures, c.from-2.ensures, c.from-3.ensures) b.rank
