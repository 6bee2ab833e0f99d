use Rattle.std.proofs.Common.{ℕ, arith, ap, length, length-take}
use Rattle.route_tensor.proofs.Kept.{strides_kept}
use Rattle.route_tensor.proofs.grid.Grid.stride.Goals as goal

pub returns-in-0-clause-value : goal.returns-in-0-clause-value
returns-in-0-clause-value c = (strides_kept _ _ _ _ _ _ c.self.view_is c.requires).none c.in-0.is

pub returns-in-1-clause-value : goal.returns-in-1-clause-value
returns-in-1-clause-value c = (strides_kept _ _ _ _ _ _ c.self.view_is c.requires).one c.in-1.is

pub returns-in-2-clause-value : goal.returns-in-2-clause-value
returns-in-2-clause-value c = (strides_kept _ _ _ _ _ _ c.self.view_is c.requires).two c.in-2.is

pub returns-in_default-clause-value : goal.returns-in_default-clause-value
returns-in_default-clause-value c = (strides_kept _ _ _ _ _ _ c.self.view_is c.requires).three (omega (arith, c.self.invariant.few, ap length c.self.view_is, length-take {A = ℕ}))
