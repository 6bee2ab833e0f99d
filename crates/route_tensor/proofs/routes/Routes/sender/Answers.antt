use Rattle.std.proofs.Common.{arith}
use Rattle.route_tensor.proofs.Tables.{table_of, sender_by_table}
use Rattle.route_tensor.proofs.routes.Routes.sender.Goals as goal

pub returns-clause-value : goal.returns-clause-value
returns-clause-value c = rw (c.from.ensures, c.from-2.ensures) (sender_by_table _ _ _ _ _ _ _ _ _ (table_of _ _ _ _ _ _ _ c.self.view_is c.self.invariant.0) c.requires.neighbour c.requires.last c.requires.fair c.index.ensures).value

pub returns-clause-rank : goal.returns-clause-rank
returns-clause-rank c = rw (c.from.ensures, c.from-2.ensures) (sender_by_table _ _ _ _ _ _ _ _ _ (table_of _ _ _ _ _ _ _ c.self.view_is c.self.invariant.0) c.requires.neighbour c.requires.last c.requires.fair c.index.ensures).rank

pub overflow_add-result : goal.overflow_add-result
overflow_add-result c = let s = (sender_by_table _ _ _ _ _ _ _ _ _ (table_of _ _ _ _ _ _ _ c.self.view_is c.self.invariant.0) c.requires.neighbour c.requires.last c.requires.fair c.index.ensures) in rw c.from.ensures (omega (arith, s.small))

pub overflow_mul-result : goal.overflow_mul-result
overflow_mul-result c = let s = (sender_by_table _ _ _ _ _ _ _ _ _ (table_of _ _ _ _ _ _ _ c.self.view_is c.self.invariant.0) c.requires.neighbour c.requires.last c.requires.fair c.index.ensures) in rw c.from-2.ensures (omega (arith, s.small))

pub overflow_add-result-2 : goal.overflow_add-result-2
overflow_add-result-2 c = let s = (sender_by_table _ _ _ _ _ _ _ _ _ (table_of _ _ _ _ _ _ _ c.self.view_is c.self.invariant.0) c.requires.neighbour c.requires.last c.requires.fair c.index.ensures) in rw (c.from.ensures, c.from-2.ensures) (omega (arith, s.small))
