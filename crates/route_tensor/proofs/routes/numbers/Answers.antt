use Rattle.std.proofs.Common.{arith, subst, ◌<◌, sum, get_or}
use Rattle.route_tensor.proofs.Links.{sum_small}
use Rattle.route_tensor.proofs.Filling.{links_within, numbered_by, no_neighbour}
use Rattle.route_tensor.proofs.routes.numbers.Goals as goal

pub overflow_cast-i : goal.overflow_cast-i
overflow_cast-i c = omega (arith, sum_small _ c.links.ensures.grid, c.requires.all, c.loop-i-test.true)

pub overflow_cast-i-in-loop-i : goal.overflow_cast-i-in-loop-i
overflow_cast-i-in-loop-i c = omega (arith, sum_small _ c.links.ensures.grid, c.requires.all, c.loop-i-test.true)

pub index_mut-requires : goal.index_mut-requires
index_mut-requires c =
    let i : c.loop-i.i < sum c.args.grid.now = subst (λ n. c.loop-i.i < n) c.requires.all c.loop-i-test.true in
    let w = links_within c.args.grid.now c.args.rank c.loop-i.i (get_or c.args.neighbours.now c.loop-i.i no_neighbour) c.links.ensures.grid c.requires.rank i (c.requires.each c.loop-i.i no_neighbour c.loop-i-test.true) in
    omega (arith, w.0, c.loop-i.invariant.count)

pub index_mut-requires-in-loop-i : goal.index_mut-requires-in-loop-i
index_mut-requires-in-loop-i c =
    let i : c.loop-i.i < sum c.args.grid.now = subst (λ n. c.loop-i.i < n) c.requires.all c.loop-i-test.true in
    let w = links_within c.args.grid.now c.args.rank c.loop-i.i (get_or c.args.neighbours.now c.loop-i.i no_neighbour) c.links.ensures.grid c.requires.rank i (c.requires.each c.loop-i.i no_neighbour c.loop-i-test.true) in
    omega (arith, w.1, c.loop-i.invariant.count)

pub loop-i-preserved : goal.loop-i-preserved
loop-i-preserved c =
    let i : c.loop-i.i < sum c.args.grid.now = subst (λ n. c.loop-i.i < n) c.requires.all c.loop-i-test.true in
    numbered_by _ c.args.rank c.loop-i.i _ _ c.links.ensures.grid c.requires.rank i (c.requires.each _ _ c.loop-i-test.true) c.loop-i.invariant
