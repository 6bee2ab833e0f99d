use Rattle.std.proofs.Common.{◌++◌, ◌∷◌, [], ◌≤◌, length, vec_capacity, ap, ◌∙◌, sym, subst, arith, lit<}
use Rattle.link_slots.specs.Gathering.{Gathering}
use Rattle.link_slots.specs.SeatView.{BankIdentity}
use Rattle.rank_group.specs.Seats.{SeatedState}
use Rattle.rank_group.proofs.Places.{next_number, next_bank, leave_left, leaving_more}
use Rattle.rank_group.proofs.seating.gather_all.Goals as goal

pub gather-requires : goal.gather-requires
gather-requires g c =
    let i = c.seated.inside in
    let y : SeatedState g.row.Q.Denot = record { rank = i.rank; seat = c.into_seat.result; turns = i.turns; lost = i.lost } in
    let here = ap (λ s. record { rank = i.rank; seat = s; turns = i.turns; lost = i.lost }) c.into_seat.ensures.seat ∙ c.seated.view_is in
    let rest = c.next.new.self in
    let v = c.loop-seated.invariant.leaving in
    let is = c.in-Some.ensures.steps ∙ ap (λ z. z ∷ rest) (sym here) in
    let same = next_bank c.args.bank.now c.loop-seated.gather c.args.ended.items c.loop-seated.invariant.taken rest c.loop-seated.seated-iterator c.loop-seated.ranks.items v y is c.requires.same in
    (lit< tt, (lit< tt, (lit< tt, (v.bank, (ap (λ (b : BankIdentity). b.id) same, ap (λ (b : BankIdentity). b.shape) same)))))

pub push_reserved-requires : goal.push_reserved-requires
push_reserved-requires g c =
    omega (
      arith,
      leave_left c.args.bank.now c.loop-seated.gather c.args.ended.items c.loop-seated.invariant.taken c.next.new.self c.loop-seated.seated-iterator c.loop-seated.ranks.items c.loop-seated.invariant.leaving
          c.in-Some.seated c.in-Some.ensures.steps (vec_capacity c.loop-seated.ranks) c.loop-seated.invariant.room,
    )

pub loop-seated-preserved : goal.loop-seated-preserved
loop-seated-preserved g c =
    let b = c.args.bank.now in
    let i = c.seated.inside in
    let y : SeatedState g.row.Q.Denot = record { rank = i.rank; seat = c.into_seat.result; turns = i.turns; lost = i.lost } in
    let here = ap (λ s. record { rank = i.rank; seat = s; turns = i.turns; lost = i.lost }) c.into_seat.ensures.seat ∙ c.seated.view_is in
    let rest = c.next.new.self in
    let v = c.loop-seated.invariant.leaving in
    let t = c.gather.ensures in
    let is = c.in-Some.ensures.steps ∙ ap (λ z. z ∷ rest) (sym here) in
    let number = next_number b c.loop-seated.gather c.args.ended.items c.loop-seated.invariant.taken rest c.loop-seated.seated-iterator c.loop-seated.ranks.items v y is c.requires.number in
    record {
      taken = c.loop-seated.invariant.taken ++ y ∷ [];
      leaving = leaving_more b c.loop-seated.gather c.args.ended.items c.loop-seated.invariant.taken rest c.loop-seated.seated-iterator c.loop-seated.ranks.items v y is
          c.gather.new.g c.push_reserved.new.self.items number c.if-lost.false (ap (λ (z : Gathering). z.id) t.gather, ap (λ (z : Gathering). z.shape) t.gather) t.there t.others c.push_reserved.ensures.items;
      room = subst (λ n. length c.args.ended.items ≤ n) (sym c.push_reserved.ensures.capacity) c.loop-seated.invariant.room;
    }
