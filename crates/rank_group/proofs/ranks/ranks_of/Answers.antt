use Rattle.std.proofs.Common.{rules, length, ◌≤◌, arith, ◌∙◌, sym, subst}
use Rattle.route_tensor.specs.Grid.{ranks}
use Rattle.list_laws.proofs.Lists.{within}
use Rattle.rank_node.specs.Movers.{manner_of}
use Rattle.rank_group.proofs.Making.{next_prog, making_more, making_all}
use Rattle.rank_group.proofs.ranks.ranks_of.Goals as goal

pub new-requires : goal.new-requires
new-requires g c =
    let here = next_prog g.Q.Program.rules c.args.grid.now g.row.CAP (manner_of c.args.via c.args.steady) c.args.progs c.loop-prog.progs c.loop-prog.all.items c.loop-prog.invariant.making c.in-Some.prog (sym c.in-Some.ensures.first) in
    let all = c.requires.begins.2 in
    let m = all.each (length c.loop-prog.all.items) c.in-Some.prog here in
    (search rules, (c.requires.fits, ((c.requires.one_hop, (omega (arith, m.own_rank, within c.args.progs (length c.loop-prog.all.items) c.in-Some.prog here, all.size), m.all_ranks)))))

pub push_reserved-requires : goal.push_reserved-requires
push_reserved-requires g c =
    let here = next_prog g.Q.Program.rules c.args.grid.now g.row.CAP (manner_of c.args.via c.args.steady) c.args.progs c.loop-prog.progs c.loop-prog.all.items c.loop-prog.invariant.making c.in-Some.prog (sym c.in-Some.ensures.first) in
    omega (arith, within c.args.progs (length c.loop-prog.all.items) c.in-Some.prog here, c.loop-prog.invariant.room)

pub loop-prog-preserved : goal.loop-prog-preserved
loop-prog-preserved g c = record {
  making = making_more g.Q.Program.rules c.args.grid.now g.row.CAP (manner_of c.args.via c.args.steady) c.args.progs c.loop-prog.progs c.loop-prog.all.items c.loop-prog.invariant.making (ranks c.args.grid.now) c.requires.begins.0 c.requires.begins.1 c.take_first.new.self c.push_reserved.new.self.items
      c.in-Some.prog c.in_ok-node.node c.requires.begins.2 (sym c.in-Some.ensures.first) c.take_first.ensures.rest c.push_reserved.ensures.items
      c.in_ok-node.ensures;
  room = subst (λ n. length c.args.progs ≤ n) (sym c.push_reserved.ensures.capacity) c.loop-prog.invariant.room;
}

pub returns : goal.returns
returns g c =
    record {
      fresh = making_all g.Q.Program.rules c.args.grid.now g.row.CAP (manner_of c.args.via c.args.steady) c.args.progs c.loop-prog.progs c.loop-prog.all.items c.loop-prog.invariant.making (sym c.take_first.ensures.first ∙ c.in_default-take_first.is);
    }
