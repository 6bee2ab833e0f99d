use Rattle.std.proofs.Common.{rules, ◌≡◌, ◌==◌, ◌+◌, Bool, true, false, true≢false, not, ◌||◌, refl, ap, sym, subst, ◌∙◌, arith, eqb-true}
use Rattle.std.proofs.lemmas.Bool.{eq-eqb}
use Rattle.port_bank.specs.Port.{Others}
use Rattle.rank_crews.proofs.Crewed.{neither}
use Rattle.biconvey.specs.Seats.{BiSeatedState, HasSomeBiRun, TookBiTurns, AskerMadeNoProgress}
use Rattle.biconvey.specs.RanksOverBanks.{is_over}
use Rattle.biconvey.proofs.OnPorts.{one_seat, has_way, turned, none_moved, some_moved, any_of}
use Rattle.biconvey.proofs.at_ports.AtPortsSeated.turn.Goals as goal

pub turn-requires : goal.turn-requires
turn-requires g c =
    let i = c.self.inside in
    let q = c.watch.new.self.port.seat in
    let p = c.watch-2.new.self.port.seat in
    let x : BiSeatedState g.row.A.Denot = record { node = i.node; queries = q; replies = p; turns = i.turns } in
    let was : BiSeatedState g.row.A.Denot = record { node = i.node; queries = i.queries.port.seat; replies = i.replies.port.seat; turns = i.turns } in
    let at : x ≡ was = ap (λ k. record { node = i.node; queries = k.seat; replies = p; turns = i.turns }) c.watch.ensures.port ∙ ap (λ k. record { node = i.node; queries = i.queries.port.seat; replies = k.seat; turns = i.turns }) c.watch-2.ensures.port in
    let w = subst (HasSomeBiRun g.A.Asker.talk g.row.CAP) (sym at) c.self.invariant in (
      search rules,
      record {
        queries = record { same_dims = sym w.way.queries.same_dims; same_rank = sym w.way.queries.same_rank };
        replies = record { same_dims = sym w.way.replies.same_dims; same_rank = sym w.way.replies.same_rank };
        start = w.start;
        node = w.way.node;
      },
    )

pub invariant_of-self : goal.invariant_of-self
invariant_of-self g c =
    let i = c.self.inside in
    let q = c.watch.new.self.port.seat in
    let p = c.watch-2.new.self.port.seat in
    let n = c.turn.new in
    let t = c.turn.ensures.turns in
    let x : BiSeatedState g.row.A.Denot = record { node = i.node; queries = q; replies = p; turns = i.turns } in
    let was : BiSeatedState g.row.A.Denot = record { node = i.node; queries = i.queries.port.seat; replies = i.replies.port.seat; turns = i.turns } in
    let at : x ≡ was = ap (λ k. record { node = i.node; queries = k.seat; replies = p; turns = i.turns }) c.watch.ensures.port ∙ ap (λ k. record { node = i.node; queries = i.queries.port.seat; replies = k.seat; turns = i.turns }) c.watch-2.ensures.port in
    let heard = subst (λ (z : BiSeatedState g.row.A.Denot). g.J.GateLog.notified z.queries.rank z.turns ≡ true) (sym (at ∙ c.self.view_is)) c.requires.notified in
    has_way g.A.Asker.talk g.row.CAP g.J.GateLog.notified x _ (subst (HasSomeBiRun g.A.Asker.talk g.row.CAP) (sym at) c.self.invariant)
    (turned g.A.Asker.talk g.row.CAP g.J.GateLog.notified i.node n.self q n.queries.port.seat p n.replies.port.seat i.turns heard
    (one_seat q n.queries.port.seat (ap (λ (r : Others). r.bank) t.queries.same_port.others) t.queries.same_port.dims t.queries.same_port.slots t.queries.same_port.rank)
    (one_seat p n.replies.port.seat (ap (λ (r : Others). r.bank) t.replies.same_port.others) t.replies.same_port.dims t.replies.same_port.slots t.replies.same_port.rank)
    t.dims t.rank t.queries.steady t.replies.steady t.kept t.queries.grows.shape t.replies.grows.shape)

pub returns : goal.returns
returns g c =
    let i = c.self.inside in
    let q = c.watch.new.self.port.seat in
    let p = c.watch-2.new.self.port.seat in
    let n = c.turn.new in
    let t = c.turn.ensures.turns in
    let x : BiSeatedState g.row.A.Denot = record { node = i.node; queries = q; replies = p; turns = i.turns } in
    let was : BiSeatedState g.row.A.Denot = record { node = i.node; queries = i.queries.port.seat; replies = i.replies.port.seat; turns = i.turns } in
    let at : x ≡ was = ap (λ k. record { node = i.node; queries = k.seat; replies = p; turns = i.turns }) c.watch.ensures.port ∙ ap (λ k. record { node = i.node; queries = i.queries.port.seat; replies = k.seat; turns = i.turns }) c.watch-2.ensures.port in
    let y : BiSeatedState g.row.A.Denot = record { node = n.self; queries = n.queries.port.seat; replies = n.replies.port.seat; turns = i.turns + 1 } in
    let heard = subst (λ (z : BiSeatedState g.row.A.Denot). g.J.GateLog.notified z.queries.rank z.turns ≡ true) (sym (at ∙ c.self.view_is)) c.requires.notified in
    record {
      ran = subst (λ (z : BiSeatedState g.row.A.Denot). TookBiTurns g.A.Asker.talk g.row.CAP g.J.GateLog.notified z y) (at ∙ c.self.view_is)
          (turned g.A.Asker.talk g.row.CAP g.J.GateLog.notified i.node n.self q n.queries.port.seat p n.replies.port.seat i.turns heard
          (one_seat q n.queries.port.seat (ap (λ (r : Others). r.bank) t.queries.same_port.others) t.queries.same_port.dims t.queries.same_port.slots t.queries.same_port.rank)
          (one_seat p n.replies.port.seat (ap (λ (r : Others). r.bank) t.replies.same_port.others) t.replies.same_port.dims t.replies.same_port.slots t.replies.same_port.rank)
          t.dims t.rank t.queries.steady t.replies.steady t.kept t.queries.grows.shape t.replies.grows.shape);
      one = omega (arith, ap (λ (x : BiSeatedState g.row.A.Denot). x.turns) c.self.view_is);
      counted = c.turn.ensures.steps;
      still = λ none.
          let asked = not (c.asked.result == c.asked-asked.result) in
          let last = neither ((asked || c.is_over-has_ended.result) || c.moved.result) c.moved-2.result none in
          let first = neither (asked || c.is_over-has_ended.result) c.moved.result last.0 in
          let made = neither asked c.is_over-has_ended.result first.0 in
          subst (λ (z : BiSeatedState g.row.A.Denot). AskerMadeNoProgress z y) c.self.view_is
          record {
            queries = none_moved i.queries.port.seat c.watch.new.self.first.value.seat n.queries.first.value.seat n.queries.port.seat (c.moved.ensures.none first.1)
                (ap (λ (r : Others). r.sent) t.queries.same_port.others) (ap (λ (r : Others). r.got) t.queries.same_port.others) (ap (λ k. k.seat) c.watch.ensures.first);
            replies = none_moved i.replies.port.seat c.watch-2.new.self.first.value.seat n.replies.first.value.seat n.replies.port.seat (c.moved-2.ensures.none last.1)
                (ap (λ (r : Others). r.sent) t.replies.same_port.others) (ap (λ (r : Others). r.got) t.replies.same_port.others) (ap (λ k. k.seat) c.watch-2.ensures.first);
            asked = sym c.asked.ensures ∙ (eqb-true c.asked.result c.asked-asked.result (not_not (c.asked.result == c.asked-asked.result) made.0) ∙ c.asked-asked.ensures);
            over = sym c.is_over-has_ended.ensures ∙ (made.1 ∙ sym (ap (λ (z : BiSeatedState g.row.A.Denot). is_over z.node) c.self.view_is ∙ c.requires.going));
          };
      progress = λ some same'.
          let same = subst (λ (z : BiSeatedState g.row.A.Denot). AskerMadeNoProgress z y) (sym c.self.view_is) same' in
          let asked = not (c.asked.result == c.asked-asked.result) in
          any_of ((asked || c.is_over-has_ended.result) || c.moved.result) c.moved-2.result some
          (λ e. any_of (asked || c.is_over-has_ended.result) c.moved.result e
          (λ e'. any_of asked c.is_over-has_ended.result e'
          (λ made. true≢false (sym made ∙ ap not (eq-eqb c.asked.result c.asked-asked.result (c.asked.ensures ∙ (same.asked ∙ sym c.asked-asked.ensures)))))
          (λ ended. true≢false (sym ended ∙ (c.is_over-has_ended.ensures ∙ (same.over ∙ (ap (λ (z : BiSeatedState g.row.A.Denot). is_over z.node) c.self.view_is ∙ c.requires.going))))))
          (λ m. some_moved i.queries.port.seat c.watch.new.self.first.value.seat n.queries.first.value.seat n.queries.port.seat (c.moved.ensures.some m)
          (ap (λ (r : Others). r.sent) t.queries.same_port.others) (ap (λ (r : Others). r.got) t.queries.same_port.others) (ap (λ k. k.seat) c.watch.ensures.first) same.queries))
          (λ m. some_moved i.replies.port.seat c.watch-2.new.self.first.value.seat n.replies.first.value.seat n.replies.port.seat (c.moved-2.ensures.some m)
          (ap (λ (r : Others). r.sent) t.replies.same_port.others) (ap (λ (r : Others). r.got) t.replies.same_port.others) (ap (λ k. k.seat) c.watch-2.ensures.first) same.replies);
    } where
      not_not : (b : Bool) → not b ≡ false → b ≡ true
      not_not true e = refl
      not_not false e = absurd (true≢false e)
