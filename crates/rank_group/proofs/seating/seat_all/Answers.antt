use Rattle.std.proofs.Common.{◌∙◌, ◌≤◌, length, vec_capacity, sym, subst, arith}
use Rattle.rank_group.proofs.Places.{seated, seat_left, seating_more}
use Rattle.rank_group.proofs.seating.seat_all.Goals as goal

pub invariant_of-push_reserved : goal.invariant_of-push_reserved
invariant_of-push_reserved g c =
    let R = g.Q.Program.rules in
    let x = seated R g.row.CAP c.args.bank.now c.loop-rank.gather c.loop-rank.number c.args.all.items c.loop-rank.yielded c.next.new.self c.loop-rank.rank-iterator c.loop-rank.seated.items c.loop-rank.invariant.seating
    c.seat-seat.new.g c.in-Some.rank c.new-port.result.port.seat c.in-Some.ensures.steps _ c.seat-seat.ensures.gather _ _ ((c.new-port.ensures.seat ∙ c.port.ensures.seat) ∙ c.seat-seat.ensures.seat) c.requires.fresh.0 c.requires.fresh.1 c.requires.fresh.2 in
    record { manner = c.requires.fresh.0; h = λ m. c.in-Some.rank.node.run.prog; way = x.way }

pub push_reserved-requires : goal.push_reserved-requires
push_reserved-requires g c =
    let R = g.Q.Program.rules in
    omega (
      arith,
      seat_left R g.row.CAP c.args.bank.now c.loop-rank.gather c.loop-rank.number c.args.all.items c.loop-rank.yielded c.next.new.self c.loop-rank.rank-iterator c.loop-rank.seated.items c.loop-rank.invariant.seating
          c.in-Some.rank c.in-Some.ensures.steps (vec_capacity c.loop-rank.seated) c.loop-rank.invariant.room,
    )

pub loop-rank-preserved : goal.loop-rank-preserved
loop-rank-preserved g c =
    let R = g.Q.Program.rules in
    record {
      seating = seating_more R g.row.CAP c.args.bank.now c.loop-rank.gather c.loop-rank.number c.args.all.items c.loop-rank.yielded c.next.new.self c.loop-rank.rank-iterator c.loop-rank.seated.items c.loop-rank.invariant.seating
          c.seat-seat.new.g c.in-Some.rank c.new-port.result.port.seat c.in-Some.ensures.steps _ c.seat-seat.ensures.gather _ _ ((c.new-port.ensures.seat ∙ c.port.ensures.seat) ∙ c.seat-seat.ensures.seat) c.push_reserved.new.self.items c.push_reserved.ensures.items;
      room = subst (λ n. length c.args.all.items ≤ n) (sym c.push_reserved.ensures.capacity) c.loop-rank.invariant.room;
    }

pub returns-clause-seated : goal.returns-clause-seated
returns-clause-seated g c = c.loop-rank.invariant.seating.each
