use Rattle.std.proofs.Common.{rules, ◌≡◌, ◌+◌, ◌||◌, true, false, true≢false, refl, sym, ap, subst, ◌∙◌, arith}
use Rattle.port_bank.specs.Port.{Others}
use Rattle.rank_group.specs.Seats.{SeatedState, HasSomeRun, TookTurns}
use Rattle.rank_crews.proofs.Crewed.{neither}
use Rattle.rank_group.proofs.OnWay.{turned, gave_up, has_way, one_place, going_progress}
use Rattle.rank_group.proofs.at_port.AtPortSeated.turn.Goals as goal

pub turn_over-requires : goal.turn_over-requires
turn_over-requires g c =
    let i = c.self.inside in
    let n = neither i.rank.over i.lost (ap (λ (x : SeatedState g.row.Q.Denot). x.rank.over || x.lost) c.self.view_is ∙ c.requires.going) in
    let x : SeatedState g.row.Q.Denot = record { rank = i.rank; seat = c.watch.new.self.port.seat; turns = i.turns; lost = i.lost } in
    let was : SeatedState g.row.Q.Denot = record { rank = i.rank; seat = i.port.port.seat; turns = i.turns; lost = i.lost } in
    let at : x ≡ was = ap (λ p. record { rank = i.rank; seat = p.seat; turns = i.turns; lost = i.lost }) c.watch.ensures.port in
    let w = subst (HasSomeRun g.Q.Program.rules g.row.CAP) (sym at) c.self.invariant in
    let few = w.way.few n.1 in
    let here = going_progress i.rank n.0 in
    let below = c.await_turn.ensures in
    (search rules, (refl, record { going = n.0; few = omega (arith, few, here, below); manner = w.manner; h = w.h; rank = w.way.runs n.1 }))

pub returns-after-got_on-clause-ran : goal.returns-after-got_on-clause-ran
returns-after-got_on-clause-ran g c =
    let i = c.self.inside in
    let R = g.Q.Program.rules in
    let n = neither i.rank.over i.lost (ap (λ (x : SeatedState g.row.Q.Denot). x.rank.over || x.lost) c.self.view_is ∙ c.requires.going) in
    let x : SeatedState g.row.Q.Denot = record { rank = i.rank; seat = c.watch.new.self.port.seat; turns = i.turns; lost = i.lost } in
    let was : SeatedState g.row.Q.Denot = record { rank = i.rank; seat = i.port.port.seat; turns = i.turns; lost = i.lost } in
    let at : x ≡ was = ap (λ p. record { rank = i.rank; seat = p.seat; turns = i.turns; lost = i.lost }) c.watch.ensures.port in
    let t = c.turn_over.ensures in
    let seat = c.turn_over.new.port.port.seat in
    let heard = subst (λ (z : SeatedState g.row.Q.Denot). g.J.GateLog.notified z.seat.rank z.turns ≡ true) (sym (at ∙ c.self.view_is)) c.requires.notified in
    let same = one_place x seat (ap (λ (r : Others). r.bank) t.same_port.others) t.same_port.dims t.same_port.slots in
    let y : SeatedState g.row.Q.Denot = record { rank = c.turn_over.new.rank; seat = seat; turns = i.turns + 1; lost = i.lost } in
    subst (λ (z : SeatedState g.row.Q.Denot). TookTurns R g.row.CAP g.J.GateLog.notified z y) (at ∙ c.self.view_is) (turned R g.row.CAP x c.turn_over.new.rank seat same t.same_port.rank g.J.GateLog.notified heard n.1 n.0 c.in-Ok.ensures.epoch c.in-Ok.ensures.kept)

pub returns-after-got_on-clause-one : goal.returns-after-got_on-clause-one
returns-after-got_on-clause-one g c = omega (arith, ap (λ (x : SeatedState g.row.Q.Denot). x.turns) c.self.view_is)

pub returns-in-Err : goal.returns-in-Err
returns-in-Err g c =
    let i = c.self.inside in
    let R = g.Q.Program.rules in
    let n = neither i.rank.over i.lost (ap (λ (x : SeatedState g.row.Q.Denot). x.rank.over || x.lost) c.self.view_is ∙ c.requires.going) in
    let x : SeatedState g.row.Q.Denot = record { rank = i.rank; seat = c.watch.new.self.port.seat; turns = i.turns; lost = i.lost } in
    let was : SeatedState g.row.Q.Denot = record { rank = i.rank; seat = i.port.port.seat; turns = i.turns; lost = i.lost } in
    let at : x ≡ was = ap (λ p. record { rank = i.rank; seat = p.seat; turns = i.turns; lost = i.lost }) c.watch.ensures.port in
    let t = c.turn_over.ensures in
    let seat = c.turn_over.new.port.port.seat in
    let heard = subst (λ (z : SeatedState g.row.Q.Denot). g.J.GateLog.notified z.seat.rank z.turns ≡ true) (sym (at ∙ c.self.view_is)) c.requires.notified in
    let same = one_place x seat (ap (λ (r : Others). r.bank) t.same_port.others) t.same_port.dims t.same_port.slots in
    let y : SeatedState g.row.Q.Denot = record { rank = c.turn_over.new.rank; seat = seat; turns = i.turns + 1; lost = true } in
    record {
      ran = subst (λ (z : SeatedState g.row.Q.Denot). TookTurns R g.row.CAP g.J.GateLog.notified z y) (at ∙ c.self.view_is) (gave_up R g.row.CAP x c.turn_over.new.rank seat same t.same_port.rank g.J.GateLog.notified heard);
      one = omega (arith, ap (λ (x : SeatedState g.row.Q.Denot). x.turns) c.self.view_is);
      counted = c.turn_over.ensures.steps;
      still = λ none. absurd (true≢false none);
      progress = λ some same.
          let was_lost : i.lost ≡ false = n.1 in
          absurd (true≢false (same.lost ∙ (sym (ap (λ (x : SeatedState g.row.Q.Denot). x.lost) c.self.view_is) ∙ was_lost)));
    }

pub invariant_of-self : goal.invariant_of-self
invariant_of-self g c =
    let i = c.self.inside in
    let R = g.Q.Program.rules in
    let n = neither i.rank.over i.lost (ap (λ (x : SeatedState g.row.Q.Denot). x.rank.over || x.lost) c.self.view_is ∙ c.requires.going) in
    let x : SeatedState g.row.Q.Denot = record { rank = i.rank; seat = c.watch.new.self.port.seat; turns = i.turns; lost = i.lost } in
    let was : SeatedState g.row.Q.Denot = record { rank = i.rank; seat = i.port.port.seat; turns = i.turns; lost = i.lost } in
    let at : x ≡ was = ap (λ p. record { rank = i.rank; seat = p.seat; turns = i.turns; lost = i.lost }) c.watch.ensures.port in
    let t = c.turn_over.ensures in
    let seat = c.turn_over.new.port.port.seat in
    let heard = subst (λ (z : SeatedState g.row.Q.Denot). g.J.GateLog.notified z.seat.rank z.turns ≡ true) (sym (at ∙ c.self.view_is)) c.requires.notified in
    let same = one_place x seat (ap (λ (r : Others). r.bank) t.same_port.others) t.same_port.dims t.same_port.slots in
    has_way R g.row.CAP g.J.GateLog.notified x _ (subst (HasSomeRun R g.row.CAP) (sym at) c.self.invariant) (turned R g.row.CAP x c.turn_over.new.rank seat same t.same_port.rank g.J.GateLog.notified heard n.1 n.0 c.in-Ok.ensures.epoch c.in-Ok.ensures.kept)

pub invariant_of-self-in-Err : goal.invariant_of-self-in-Err
invariant_of-self-in-Err g c =
    let i = c.self.inside in
    let R = g.Q.Program.rules in
    let x : SeatedState g.row.Q.Denot = record { rank = i.rank; seat = c.watch.new.self.port.seat; turns = i.turns; lost = i.lost } in
    let was : SeatedState g.row.Q.Denot = record { rank = i.rank; seat = i.port.port.seat; turns = i.turns; lost = i.lost } in
    let at : x ≡ was = ap (λ p. record { rank = i.rank; seat = p.seat; turns = i.turns; lost = i.lost }) c.watch.ensures.port in
    let t = c.turn_over.ensures in
    let seat = c.turn_over.new.port.port.seat in
    let heard = subst (λ (z : SeatedState g.row.Q.Denot). g.J.GateLog.notified z.seat.rank z.turns ≡ true) (sym (at ∙ c.self.view_is)) c.requires.notified in
    let same = one_place x seat (ap (λ (r : Others). r.bank) t.same_port.others) t.same_port.dims t.same_port.slots in
    has_way R g.row.CAP g.J.GateLog.notified x _ (subst (HasSomeRun R g.row.CAP) (sym at) c.self.invariant) (gave_up R g.row.CAP x c.turn_over.new.rank seat same t.same_port.rank g.J.GateLog.notified heard)
