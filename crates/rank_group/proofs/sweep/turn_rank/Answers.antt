use Rattle.std.proofs.Common.{rules, ◌≡◌, ◌+◌, ◌<◌, ◌^◌, ℕ, Bool, true, false, not, cond, ap, Ok, ◌∙◌, sym, subst, arith}
use Rattle.port_bank.specs.Plain.{sent_of, got_of}
use Rattle.port_bank.specs.Logs.{starting_at, ending_at}
use Rattle.rank_node.specs.declared.turn.Turn.{Turn}
use Rattle.rank_node.specs.Movers.{epoch_in}
use Rattle.rank_group.specs.Ranks.{RankState, HasRank, AfterTurn, AfterRank}
use Rattle.rank_group.proofs.OneTurn.{NextTold}
use Rattle.rank_group.proofs.Ranked.{rank_over, rank_going, rank_ended}
use Rattle.rank_group.proofs.sweep.turn_rank.Goals as goal

-- a rank whose run is over makes no turn, and another makes one
counted : (over : Bool) (steps : ℕ) → over ≡ true → steps ≡ steps + cond over 0 1
counted over steps e = let none : cond over 0 1 ≡ 0 = ap {B = ℕ} (λ b. cond b 0 1) e in omega (arith, none)

counts : (over : Bool) (steps after : ℕ) → over ≡ false → after ≡ steps + 1 → after ≡ steps + cond over 0 1
counts over steps after e one = let some : cond over 0 1 ≡ 1 = ap {B = ℕ} (λ b. cond b 0 1) e in omega (arith, one, some)

pub returns-then-rank-clause-steps : goal.returns-then-rank-clause-steps
returns-then-rank-clause-steps g c = counted _ c.args.steps.now (sym (ap (λ (m : RankState g.row.Q.Denot). m.over) c.rank.view_is) ∙ c.if-rank.true)

pub returns-in-Going-clause-steps : goal.returns-in-Going-clause-steps
returns-in-Going-clause-steps g c = counts _ c.args.steps.now c.turn_node.new.steps (sym (ap (λ (m : RankState g.row.Q.Denot). m.over) c.rank.view_is) ∙ c.if-rank.false) c.turn_node.ensures.steps

pub returns-in_ok-rank-inside-in-Ended-clause-steps : goal.returns-in_ok-rank-inside-in-Ended-clause-steps
returns-in_ok-rank-inside-in-Ended-clause-steps g c = counts _ c.args.steps.now c.turn_node.new.steps (sym (ap (λ (m : RankState g.row.Q.Denot). m.over) c.rank.view_is) ∙ c.if-rank.false) c.turn_node.ensures.steps

pub returns-then-rank-clause-turned : goal.returns-then-rank-clause-turned
returns-then-rank-clause-turned g c =
    rank_over g.Q.Program.rules c.args.bank.dims g.row.CAP c.args.bank.slots c.args.number c.args.rank.now (sent_of c.args.bank) (got_of c.args.bank) (sym (ap (λ (m : RankState g.row.Q.Denot). m.over) c.rank.view_is) ∙ c.if-rank.true)

pub turn_node-requires : goal.turn_node-requires
turn_node-requires g c =
    let inside : RankState g.row.Q.Denot = record { node = c.rank.inside.node; over = c.rank.inside.over } in
    let manner = c.requires.rank.0 in
    let h = c.requires.rank.1 in
    let is : HasRank g.Q.Program.rules c.args.bank.dims g.row.CAP manner c.args.number h inside (sent_of c.args.bank) (got_of c.args.bank) =
    subst (λ (m : RankState g.row.Q.Denot). HasRank g.Q.Program.rules c.args.bank.dims g.row.CAP manner c.args.number h m (sent_of c.args.bank) (got_of c.args.bank)) (sym c.rank.view_is) c.requires.rank.2 in
    (search rules, (search rules, (c.requires.number, (is.same_dims, (is.same_rank, (h, is.runs c.if-rank.false))))))

pub next-requires : goal.next-requires
next-requires g c =
    let inside : RankState g.row.Q.Denot = record { node = c.rank.inside.node; over = c.rank.inside.over } in
    let manner = c.requires.rank.0 in
    let h = c.requires.rank.1 in
    let is : HasRank g.Q.Program.rules c.args.bank.dims g.row.CAP manner c.args.number h inside (sent_of c.args.bank) (got_of c.args.bank) =
    subst (λ (m : RankState g.row.Q.Denot). HasRank g.Q.Program.rules c.args.bank.dims g.row.CAP manner c.args.number h m (sent_of c.args.bank) (got_of c.args.bank)) (sym c.rank.view_is) c.requires.rank.2 in
    let t = c.in_ok-bank.ensures.turned in
    let few = subst (λ (m : RankState g.row.Q.Denot). epoch_in m.node.mover < 2 ^ 63) (sym c.rank.view_is) c.requires.few in (
      search rules,
      record {
        over = t.ended c.in-Ended.is;
        epochs = subst (λ e. e < 2 ^ 63) (sym t.same.epoch) few;
        history = h;
        sent = starting_at c.args.bank.dims c.args.number (sent_of c.in_ok-bank.bank);
        got = ending_at c.args.bank.dims c.args.number (got_of c.in_ok-bank.bank);
        node = t.kept h (is.runs c.if-rank.false);
      },
    )

pub returns-in-Going-clause-turned : goal.returns-in-Going-clause-turned
returns-in-Going-clause-turned g c =
    let R = g.Q.Program.rules in
    let inside : RankState g.row.Q.Denot = record { node = c.rank.inside.node; over = c.rank.inside.over } in
    let t = subst (λ (u : Turn). AfterTurn R c.args.bank.dims g.row.CAP c.args.bank.slots c.args.number u c.rank.inside.node c.turn_node.new.node (sent_of c.args.bank) (got_of c.args.bank) (sent_of c.in_ok-bank.bank) (got_of c.in_ok-bank.bank)) c.in-Going.is c.in_ok-bank.ensures.turned in
    subst (λ (m : RankState g.row.Q.Denot). AfterRank R c.args.bank.dims g.row.CAP c.args.bank.slots c.args.number m (record { node = c.turn_node.new.node; over = c.rank.inside.over }) (sent_of c.args.bank) (got_of c.args.bank) (sent_of c.in_ok-bank.bank) (got_of c.in_ok-bank.bank)) c.rank.view_is
    (rank_going R c.args.bank.dims g.row.CAP c.args.bank.slots c.args.number inside c.turn_node.new.node c.rank.inside.over (sent_of c.args.bank) (got_of c.args.bank) (sent_of c.in_ok-bank.bank) (got_of c.in_ok-bank.bank) c.if-rank.false c.if-rank.false t)

pub returns-in_ok-rank-inside-in-Ended-clause-turned : goal.returns-in_ok-rank-inside-in-Ended-clause-turned
returns-in_ok-rank-inside-in-Ended-clause-turned g c =
    let R = g.Q.Program.rules in
    let inside : RankState g.row.Q.Denot = record { node = c.rank.inside.node; over = c.rank.inside.over } in
    let more = c.in_ok-rank-inside-in-Ended.field-0 in
    let t = subst (λ (u : Turn). AfterTurn R c.args.bank.dims g.row.CAP c.args.bank.slots c.args.number u c.rank.inside.node c.turn_node.new.node (sent_of c.args.bank) (got_of c.args.bank) (sent_of c.in_ok-bank.bank) (got_of c.in_ok-bank.bank)) c.in-Ended.is c.in_ok-bank.ensures.turned in
    let x : NextTold R g.row.CAP c.turn_node.new.node c.next.new.self more = record {
      keeps = c.next.ensures.keeps;
      begins = λ e. c.in_ok-rank-inside-in-Ended.ensures.begins (ap Ok e);
      ends = λ e. c.in_ok-rank-inside-in-Ended.ensures.ends (ap Ok e);
    } in
    subst (λ (m : RankState g.row.Q.Denot). AfterRank R c.args.bank.dims g.row.CAP c.args.bank.slots c.args.number m (record { node = c.next.new.self; over = not more }) (sent_of c.args.bank) (got_of c.args.bank) (sent_of c.in_ok-bank.bank) (got_of c.in_ok-bank.bank)) c.rank.view_is
    (rank_ended R c.args.bank.dims g.row.CAP c.args.bank.slots c.args.number inside c.turn_node.new.node c.next.new.self more (sent_of c.args.bank) (got_of c.args.bank) (sent_of c.in_ok-bank.bank) (got_of c.in_ok-bank.bank) c.if-rank.false t x)
