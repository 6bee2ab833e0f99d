use Rattle.std.proofs.Common.{◌++◌, ◌∷◌, [], ◌≤◌, length, vec_capacity, ap, ◌∙◌, sym, subst, arith, lit<}
use Rattle.link_slots.specs.Gathering.{Gathering}
use Rattle.link_slots.specs.SeatView.{BankIdentity}
use Rattle.biconvey.specs.Seats.{BiSeatedState}
use Rattle.biconvey.proofs.Placing.{next_numbers, next_banks, leave_left, leaving_more}
use Rattle.biconvey.proofs.seating.gather_all.Goals as goal

pub gather-requires : goal.gather-requires
gather-requires g c =
    let i = c.seated.inside in
    let sq = c.into_seat.result in
    let y : BiSeatedState g.row.A.Denot = record { node = i.node; queries = sq; replies = i.replies.port.seat; turns = i.turns } in
    let here = ap (λ s. record { node = i.node; queries = s; replies = i.replies.port.seat; turns = i.turns }) c.into_seat.ensures.seat ∙ c.seated.view_is in
    let rest = c.next.new.self in
    let v = c.loop-seated.invariant.leaving in
    let is = c.in-Some.ensures.steps ∙ ap (λ z. z ∷ rest) (sym here) in
    let same = next_banks c.args.queries.now c.args.replies.now c.loop-seated.of_queries c.loop-seated.of_replies c.args.ended.items c.loop-seated.invariant.taken rest c.loop-seated.seated-iterator c.loop-seated.nodes.items v y is c.requires.ended.same in
    (lit< tt, (lit< tt, (lit< tt, (v.queries.bank, (ap (λ (b : BankIdentity). b.id) same.0, ap (λ (b : BankIdentity). b.shape) same.0)))))

pub gather-requires-in-loop-seated : goal.gather-requires-in-loop-seated
gather-requires-in-loop-seated g c =
    let i = c.seated.inside in
    let sp = c.into_seat-in-loop-seated.result in
    let y : BiSeatedState g.row.A.Denot = record { node = i.node; queries = i.queries.port.seat; replies = sp; turns = i.turns } in
    let here = ap (λ s. record { node = i.node; queries = i.queries.port.seat; replies = s; turns = i.turns }) c.into_seat-in-loop-seated.ensures.seat ∙ c.seated.view_is in
    let rest = c.next.new.self in
    let v = c.loop-seated.invariant.leaving in
    let is = c.in-Some.ensures.steps ∙ ap (λ z. z ∷ rest) (sym here) in
    let same = next_banks c.args.queries.now c.args.replies.now c.loop-seated.of_queries c.loop-seated.of_replies c.args.ended.items c.loop-seated.invariant.taken rest c.loop-seated.seated-iterator c.loop-seated.nodes.items v y is c.requires.ended.same in
    (lit< tt, (lit< tt, (lit< tt, (v.replies.bank, (ap (λ (b : BankIdentity). b.id) same.1, ap (λ (b : BankIdentity). b.shape) same.1)))))

pub push_reserved-requires : goal.push_reserved-requires
push_reserved-requires g c =
    omega (
      arith,
      leave_left c.args.queries.now c.args.replies.now c.loop-seated.of_queries c.loop-seated.of_replies c.args.ended.items c.loop-seated.invariant.taken c.next.new.self c.loop-seated.seated-iterator c.loop-seated.nodes.items c.loop-seated.invariant.leaving
          c.in-Some.seated c.in-Some.ensures.steps (vec_capacity c.loop-seated.nodes) c.loop-seated.invariant.room,
    )

pub loop-seated-preserved : goal.loop-seated-preserved
loop-seated-preserved g c =
    let b = c.args.queries.now in
    let p = c.args.replies.now in
    let i = c.seated.inside in
    let sq = c.into_seat.result in
    let sp = c.into_seat-in-loop-seated.result in
    let y : BiSeatedState g.row.A.Denot = record { node = i.node; queries = sq; replies = sp; turns = i.turns } in
    let here = ap (λ s. record { node = i.node; queries = s; replies = sp; turns = i.turns }) c.into_seat.ensures.seat ∙ (ap (λ s. record { node = i.node; queries = i.queries.port.seat; replies = s; turns = i.turns }) c.into_seat-in-loop-seated.ensures.seat ∙ c.seated.view_is) in
    let rest = c.next.new.self in
    let v = c.loop-seated.invariant.leaving in
    let t = c.gather.ensures in
    let u = c.gather-in-loop-seated.ensures in
    let is = c.in-Some.ensures.steps ∙ ap (λ z. z ∷ rest) (sym here) in
    let numbers = next_numbers b p c.loop-seated.of_queries c.loop-seated.of_replies c.args.ended.items c.loop-seated.invariant.taken rest c.loop-seated.seated-iterator c.loop-seated.nodes.items v y is c.requires.ended.numbers in
    record {
      taken = c.loop-seated.invariant.taken ++ y ∷ [];
      leaving = leaving_more b p c.loop-seated.of_queries c.loop-seated.of_replies c.args.ended.items c.loop-seated.invariant.taken rest c.loop-seated.seated-iterator c.loop-seated.nodes.items v y is
          c.gather.new.g c.gather-in-loop-seated.new.g c.push_reserved.new.self.items numbers
          (ap (λ (z : Gathering). z.id) t.gather, ap (λ (z : Gathering). z.shape) t.gather) t.there t.others
          (ap (λ (z : Gathering). z.id) u.gather, ap (λ (z : Gathering). z.shape) u.gather) u.there u.others c.push_reserved.ensures.items;
      room = subst (λ n. length c.args.ended.items ≤ n) (sym c.push_reserved.ensures.capacity) c.loop-seated.invariant.room;
    }
