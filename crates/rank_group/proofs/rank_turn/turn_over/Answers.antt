use Rattle.std.proofs.Common.{rules, ◌≡◌, ◌+◌, ◌<◌, ◌^◌, Bool, true, false, not, cond, refl, ap, Ok, ◌∙◌, sym, subst, arith}
use Rattle.rank_node.specs.Movers.{epoch_in}
use Rattle.rank_group.specs.Ranks.{RankState, IsRank, progress}
use Rattle.rank_group.proofs.OneTurn.{OneTurn, NextTold, stays_in, goes_on}
use Rattle.rank_group.proofs.rank_turn.turn_over.Goals as goal

pub turn-requires : goal.turn-requires
turn-requires g c =
    let P = g.P.Port in
    let p = c.args.port.now in
    let is = c.requires.turns.rank in
    let inside : RankState g.row.Q.Denot = record { node = c.rank.inside.node; over = c.rank.inside.over } in
    let mine : IsRank g.Q.Program.rules (P.view p).dims g.row.CAP c.requires.turns.manner (P.view p).rank c.requires.turns.h inside (P.view p).sent (P.view p).got =
    subst (λ (m : RankState g.row.Q.Denot). IsRank g.Q.Program.rules (P.view p).dims g.row.CAP c.requires.turns.manner (P.view p).rank c.requires.turns.h m (P.view p).sent (P.view p).got) (sym c.rank.view_is) is in
    (search rules, record { same_dims = sym mine.same_dims; same_rank = sym mine.same_rank; first = c.requires.turns.h; node = mine.runs (ap (λ (m : RankState g.row.Q.Denot). m.over) c.rank.view_is ∙ c.requires.turns.going) })

pub next-requires : goal.next-requires
next-requires g c =
    let P = g.P.Port in
    let p = c.args.port.now in
    let inside : RankState g.row.Q.Denot = record { node = c.rank.inside.node; over = c.rank.inside.over } in
    let mine : IsRank g.Q.Program.rules (P.view p).dims g.row.CAP c.requires.turns.manner (P.view p).rank c.requires.turns.h inside (P.view p).sent (P.view p).got =
    subst (λ (m : RankState g.row.Q.Denot). IsRank g.Q.Program.rules (P.view p).dims g.row.CAP c.requires.turns.manner (P.view p).rank c.requires.turns.h m (P.view p).sent (P.view p).got) (sym c.rank.view_is) c.requires.turns.rank in
    let few = subst (λ (m : RankState g.row.Q.Denot). epoch_in m.node.mover < 2 ^ 63) (sym c.rank.view_is) c.requires.turns.few in (
      search rules,
      record {
        over = c.in-Ok.ensures.ended (ap Ok c.in-Ended.is);
        epochs = subst (λ e. e < 2 ^ 63) (sym c.turn.ensures.turns.moves.epoch) few;
        history = c.requires.turns.h;
        sent = (P.view c.turn.new.port).sent;
        got = (P.view c.turn.new.port).got;
        node = c.turn.ensures.turns.moves.kept c.requires.turns.h (mine.runs (ap (λ (m : RankState g.row.Q.Denot). m.over) c.rank.view_is ∙ c.requires.turns.going));
      },
    )

pub returns-in-Going-clause-kept : goal.returns-in-Going-clause-kept
returns-in-Going-clause-kept g c = λ manner h is.
    let P = g.P.Port in
    let p = c.args.port.now in
    let q = c.turn.new.port in
    let R = g.Q.Program.rules in
    let inside : RankState g.row.Q.Denot = record { node = c.rank.inside.node; over = c.rank.inside.over } in
    let on = ap (λ (m : RankState g.row.Q.Denot). m.over) c.rank.view_is ∙ c.requires.turns.going in
    let mine : IsRank R (P.view p).dims g.row.CAP manner (P.view p).rank h inside (P.view p).sent (P.view p).got =
    subst (λ (m : RankState g.row.Q.Denot). IsRank R (P.view p).dims g.row.CAP manner (P.view p).rank h m (P.view p).sent (P.view p).got) (sym c.rank.view_is) is in
    let t : OneTurn R g.row.CAP c.rank.inside.node c.turn.new.self (P.view p).sent (P.view p).got (P.view q).sent (P.view q).got =
    record { dims = c.turn.ensures.turns.moves.dims; rank = c.turn.ensures.turns.moves.rank; manner = c.turn.ensures.turns.moves.manner; cap_is = c.turn.ensures.cap; shape = c.turn.ensures.turns.moves.shape; kept = c.turn.ensures.turns.moves.kept } in
    (h, refl, stays_in R (P.view p).dims g.row.CAP (P.view p).rank manner h inside c.turn.new.self (P.view p).sent (P.view p).got (P.view q).sent (P.view q).got mine on t c.rank.inside.over on)

pub returns-in_ok-rank-inside-in-Ended-clause-kept : goal.returns-in_ok-rank-inside-in-Ended-clause-kept
returns-in_ok-rank-inside-in-Ended-clause-kept g c = λ manner h is.
    let P = g.P.Port in
    let p = c.args.port.now in
    let q = c.turn.new.port in
    let R = g.Q.Program.rules in
    let more = c.in_ok-rank-inside-in-Ended.field-0 in
    let inside : RankState g.row.Q.Denot = record { node = c.rank.inside.node; over = c.rank.inside.over } in
    let on = ap (λ (m : RankState g.row.Q.Denot). m.over) c.rank.view_is ∙ c.requires.turns.going in
    let mine : IsRank R (P.view p).dims g.row.CAP manner (P.view p).rank h inside (P.view p).sent (P.view p).got =
    subst (λ (m : RankState g.row.Q.Denot). IsRank R (P.view p).dims g.row.CAP manner (P.view p).rank h m (P.view p).sent (P.view p).got) (sym c.rank.view_is) is in
    let t : OneTurn R g.row.CAP c.rank.inside.node c.turn.new.self (P.view p).sent (P.view p).got (P.view q).sent (P.view q).got =
    record { dims = c.turn.ensures.turns.moves.dims; rank = c.turn.ensures.turns.moves.rank; manner = c.turn.ensures.turns.moves.manner; cap_is = c.turn.ensures.cap; shape = c.turn.ensures.turns.moves.shape; kept = c.turn.ensures.turns.moves.kept } in
    let x : NextTold R g.row.CAP c.turn.new.self c.next.new.self more = record {
      keeps = c.next.ensures.keeps;
      begins = λ e. c.in_ok-rank-inside-in-Ended.ensures.begins (ap Ok e);
      ends = λ e. c.in_ok-rank-inside-in-Ended.ensures.ends (ap Ok e);
    } in
    goes_on R (P.view p).dims g.row.CAP (P.view p).rank manner h inside c.turn.new.self (P.view p).sent (P.view p).got (P.view q).sent (P.view q).got mine on t c.next.new.self more x

pub returns-in-Going-clause-epoch : goal.returns-in-Going-clause-epoch
returns-in-Going-clause-epoch g c =
    let e = c.turn.ensures.turns.moves.epoch in
    let on = ap (λ (m : RankState g.row.Q.Denot). m.over) c.rank.view_is ∙ c.requires.turns.going in
    let was = ap (λ (m : RankState g.row.Q.Denot). progress m) c.rank.view_is in
    let here = ap (λ b. cond b (epoch_in c.rank.inside.node.mover + 1) (epoch_in c.rank.inside.node.mover)) on in
    let now = ap (λ b. cond b (epoch_in c.turn.new.self.mover + 1) (epoch_in c.turn.new.self.mover)) on in
    omega (arith, e, was, here, now)

pub returns-in_ok-rank-inside-in-Ended-clause-epoch : goal.returns-in_ok-rank-inside-in-Ended-clause-epoch
returns-in_ok-rank-inside-in-Ended-clause-epoch g c =
    let e = c.turn.ensures.turns.moves.epoch in
    let on = ap (λ (m : RankState g.row.Q.Denot). m.over) c.rank.view_is ∙ c.requires.turns.going in
    let was = ap (λ (m : RankState g.row.Q.Denot). progress m) c.rank.view_is in
    let here = ap (λ b. cond b (epoch_in c.rank.inside.node.mover + 1) (epoch_in c.rank.inside.node.mover)) on in
    let now : progress (record { node = c.next.new.self; over = not c.in_ok-rank-inside-in-Ended.field-0 }) ≡ epoch_in c.turn.new.self.mover + 1 = by c.in_ok-rank-inside-in-Ended.field-0 refl in
    omega (arith, e, was, here, now) where
      by : (more : Bool) → c.in_ok-rank-inside-in-Ended.field-0 ≡ more → progress (record { node = c.next.new.self; over = not c.in_ok-rank-inside-in-Ended.field-0 }) ≡ epoch_in c.turn.new.self.mover + 1
      by true is = ap (λ b. cond (not b) (epoch_in c.next.new.self.mover + 1) (epoch_in c.next.new.self.mover)) is ∙ (c.in_ok-rank-inside-in-Ended.ensures.begins (ap Ok is)).epoch
      by false is = ap (λ b. cond (not b) (epoch_in c.next.new.self.mover + 1) (epoch_in c.next.new.self.mover)) is ∙ ap (λ m. epoch_in m + 1) (c.in_ok-rank-inside-in-Ended.ensures.ends (ap Ok is)).stays
