use Rattle.std.proofs.Common.{◌∙◌, ◌≤◌, length, vec_capacity, sym, subst, arith}
use Rattle.biconvey.proofs.Placing.{seated, seat_left, seating_more}
use Rattle.biconvey.proofs.seating.seat_all.Goals as goal

pub invariant_of-push_reserved : goal.invariant_of-push_reserved
invariant_of-push_reserved g c =
    let x = seated g.A.Asker.talk g.row.CAP c.args.queries.now c.args.replies.now c.requires.seats.shape c.loop-node.of_queries c.loop-node.of_replies c.loop-node.number c.args.all.items c.loop-node.yielded c.next.new.self c.loop-node.node-iterator c.loop-node.seated.items c.loop-node.invariant.seating
    c.seat-asking.new.g c.seat-replying.new.g c.in-Some.node c.new-asking.result.port.seat c.new-replying.result.port.seat c.in-Some.ensures.steps _ _ c.seat-asking.ensures.gather c.seat-replying.ensures.gather _ _ _ _
    ((c.new-asking.ensures.seat ∙ c.port.ensures.seat) ∙ c.seat-asking.ensures.seat) ((c.new-replying.ensures.seat ∙ c.port-in-loop-node.ensures.seat) ∙ c.seat-replying.ensures.seat) c.requires.seats.fresh.0 c.requires.seats.fresh.1 c.requires.seats.fresh.2 in
    record { steady = c.requires.seats.fresh.0; start = c.in-Some.node.asker; way = x.way }

pub push_reserved-requires : goal.push_reserved-requires
push_reserved-requires g c =
    omega (
      arith,
      seat_left g.A.Asker.talk g.row.CAP c.args.queries.now c.args.replies.now c.requires.seats.shape c.loop-node.of_queries c.loop-node.of_replies c.loop-node.number c.args.all.items c.loop-node.yielded c.next.new.self c.loop-node.node-iterator c.loop-node.seated.items c.loop-node.invariant.seating
          c.in-Some.node c.in-Some.ensures.steps (vec_capacity c.loop-node.seated) c.loop-node.invariant.room,
    )

pub loop-node-preserved : goal.loop-node-preserved
loop-node-preserved g c = record {
  seating = seating_more g.A.Asker.talk g.row.CAP c.args.queries.now c.args.replies.now c.requires.seats.shape c.loop-node.of_queries c.loop-node.of_replies c.loop-node.number c.args.all.items c.loop-node.yielded c.next.new.self c.loop-node.node-iterator c.loop-node.seated.items c.loop-node.invariant.seating
      c.seat-asking.new.g c.seat-replying.new.g c.in-Some.node c.new-asking.result.port.seat c.new-replying.result.port.seat c.in-Some.ensures.steps _ _ c.seat-asking.ensures.gather c.seat-replying.ensures.gather _ _ _ _
      ((c.new-asking.ensures.seat ∙ c.port.ensures.seat) ∙ c.seat-asking.ensures.seat) ((c.new-replying.ensures.seat ∙ c.port-in-loop-node.ensures.seat) ∙ c.seat-replying.ensures.seat) c.push_reserved.new.self.items c.push_reserved.ensures.items;
  room = subst (λ n. length c.args.all.items ≤ n) (sym c.push_reserved.ensures.capacity) c.loop-node.invariant.room;
}

pub returns-clause-seated : goal.returns-clause-seated
returns-clause-seated g c = c.loop-node.invariant.seating.each
