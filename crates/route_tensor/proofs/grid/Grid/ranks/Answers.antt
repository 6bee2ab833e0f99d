use Rattle.std.proofs.Common.{sym, ap, ◌∙◌}
use Rattle.route_tensor.specs.Grid.{ranks}
use Rattle.route_tensor.proofs.Kept.{ranks_kept}
use Rattle.route_tensor.proofs.grid.Grid.ranks.Goals as goal

pub returns-clause-value : goal.returns-clause-value
returns-clause-value c = sym (ap ranks (sym c.self.view_is) ∙ ranks_kept _ _ _ _ c.self.invariant)
