use Rattle.std.proofs.Common.{rules, length, vec_capacity, ◌≤◌, arith, ◌∙◌, sym, subst}
use Rattle.route_tensor.specs.Grid.{ranks}
use Rattle.list_laws.proofs.Lists.{within}
use Rattle.biconvey.proofs.Making.{Making, next_asker, making_none, making_more, making_all}
use Rattle.biconvey.proofs.nodes.nodes_of.Goals as goal

pub new-requires : goal.new-requires
new-requires g c =
    let here = next_asker g.A.Asker.talk c.args.grid.now c.args.steady c.args.askers c.loop-asker.askers c.loop-asker.all.items c.loop-asker.invariant.making c.in-Some.asker (sym c.in-Some.ensures.first) in
    let all = c.requires.askers in
    let m = all.each (length c.loop-asker.all.items) c.in-Some.asker here in
    (search rules, (c.requires.fits, ((omega (arith, m.0, within c.args.askers (length c.loop-asker.all.items) c.in-Some.asker here, all.size), m.1))))

pub loop-asker-init : goal.loop-asker-init
loop-asker-init g c = record {
  making = subst (Making g.A.Asker.talk c.args.grid.now c.args.steady c.args.askers c.args.askers) (sym c.in-Ok.ensures.items) (making_none g.A.Asker.talk c.args.grid.now c.args.steady c.args.askers);
  room = subst (λ n. n ≤ vec_capacity c.in-Ok.all) c.len.ensures c.in-Ok.ensures.capacity;
}

pub push_reserved-requires : goal.push_reserved-requires
push_reserved-requires g c =
    let here = next_asker g.A.Asker.talk c.args.grid.now c.args.steady c.args.askers c.loop-asker.askers c.loop-asker.all.items c.loop-asker.invariant.making c.in-Some.asker (sym c.in-Some.ensures.first) in
    omega (arith, within c.args.askers (length c.loop-asker.all.items) c.in-Some.asker here, c.loop-asker.invariant.room)

pub loop-asker-preserved : goal.loop-asker-preserved
loop-asker-preserved g c = record {
  making = making_more g.A.Asker.talk c.args.grid.now c.args.steady c.args.askers c.loop-asker.askers c.loop-asker.all.items c.loop-asker.invariant.making (ranks c.args.grid.now) c.take_first.new.self c.push_reserved.new.self.items
      c.in-Some.asker c.in_ok-node.node c.requires.askers (sym c.in-Some.ensures.first) c.take_first.ensures.rest c.push_reserved.ensures.items
      c.in_ok-node.ensures;
  room = subst (λ n. length c.args.askers ≤ n) (sym c.push_reserved.ensures.capacity) c.loop-asker.invariant.room;
}

pub returns : goal.returns
returns g c = making_all g.A.Asker.talk c.args.grid.now c.args.steady c.args.askers c.loop-asker.askers c.loop-asker.all.items c.loop-asker.invariant.making (sym c.take_first.ensures.first ∙ c.in_default-take_first.is)
