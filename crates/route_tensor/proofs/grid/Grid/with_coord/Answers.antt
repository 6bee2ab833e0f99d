use Rattle.std.proofs.Common.{◌∙◌, ◌≡◌, ◌<◌, ◌*◌, arith}
use Rattle.route_tensor.specs.Grid.{ranks, coord}
use Rattle.route_tensor.proofs.Coordinates.{lone_below, coord-lone}
use Rattle.route_tensor.proofs.Links.{with_coord_link, coord-with_coord}
use Rattle.route_tensor.proofs.Ends.{with_coord_made}
use Rattle.route_tensor.proofs.grid.Grid.with_coord.Goals as goal

pub place-moved-requires-clause-destination : goal.place-moved-requires-clause-destination
place-moved-requires-clause-destination c = rw c.stride.ensures.value (lone_below _ _ _ c.stride.ensures.grid.positive c.requires.first c.requires.last c.requires.coordinate)

pub overflow_mul-c : goal.overflow_mul-c
overflow_mul-c c =
    let h : c.args.c * c.stride.result < ranks c.args.self.now = rw c.stride.ensures.value (lone_below _ _ _ c.stride.ensures.grid.positive c.requires.first c.requires.last c.requires.coordinate) in
    omega (arith, h, c.stride.ensures.grid.small)

pub returns-clause-link : goal.returns-clause-link
returns-clause-link c = rw (c.place.ensures.value, c.place-moved.ensures.value) (with_coord_link _ _ _ _ c.stride.ensures.grid c.requires.first c.requires.last c.requires.rank (rw c.stride.ensures.value (lone_below _ _ _ c.stride.ensures.grid.positive c.requires.first c.requires.last c.requires.coordinate)))

pub returns-clause-coordinate : goal.returns-clause-coordinate
returns-clause-coordinate c =
    rw (c.place.ensures.value, c.place-moved.ensures.value, c.stride.ensures.value)
    (coord-with_coord _ _ _ _ c.stride.ensures.grid.positive c.requires.first ∙ coord-lone _ _ _ c.stride.ensures.grid.positive c.requires.first c.requires.last c.requires.coordinate)

pub returns-clause-value : goal.returns-clause-value
returns-clause-value c =
    let x : c.args.c * c.stride.result < ranks c.args.self.now = rw c.stride.ensures.value (lone_below _ _ _ c.stride.ensures.grid.positive c.requires.first c.requires.last c.requires.coordinate) in
    let e : coord c.args.self.now (c.args.c * c.stride.result) c.args.h ≡ c.args.c = rw c.stride.ensures.value (coord-lone _ _ _ c.stride.ensures.grid.positive c.requires.first c.requires.last c.requires.coordinate) in
    rw (c.place.ensures.value, c.place-moved.ensures.value) (with_coord_made _ _ _ _ _ c.stride.ensures.grid c.requires.first c.requires.last c.requires.rank x e)
