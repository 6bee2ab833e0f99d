use Rattle.std.proofs.Common.{sym}
use Rattle.route_tensor.proofs.Coordinates.{coord_at, by_coordinates}
use Rattle.route_tensor.proofs.grid.Grid.coord.Goals as goal

pub returns-clause-value : goal.returns-clause-value
returns-clause-value c = rw (c.stride.ensures.value, c.dim.ensures.value) (sym (coord_at _ _ _ c.requires.first c.requires.last))

pub returns-clause-number : goal.returns-clause-number
returns-clause-number c = by_coordinates c.args.self.now c.args.r c.stride.ensures.grid.positive c.stride.ensures.grid.few c.requires.rank
