use Rattle.std.proofs.Common.{rules, ◌≡◌, ◌⊎◌, ◌<◌, ◌+◌, ◌∙◌, cond, take, length, get_or, arith, ap, subst, sym, refl, inr}
use Rattle.std.proofs.lemmas.List.{take_more}
use Rattle.std.proofs.Math.Seq.{take-length}
use Rattle.list_laws.proofs.Lists.{all_get, get_once}
use Rattle.route_tensor.specs.Grid.{ranks}
use Rattle.port_bank.specs.Plain.{sent_of, got_of}
use Rattle.rank_group.specs.Ranks.{RankState}
use Rattle.rank_group.specs.Turns.{Scene, IsTurnOf, TurnsOf}
use Rattle.rank_group.specs.RanksOverBank.{AfterSomeTurns}
use Rattle.rank_group.proofs.Ordered.{turns_more}
use Rattle.rank_group.proofs.Orders.{NoneTurned, sweeping_more, some_turn, swept_none, on_bank_at, order_at}
use Rattle.rank_group.proofs.sweep.sweep.Goals as goal

pub loop-i-init : goal.loop-i-init
loop-i-init g c =
    record {
      sweeping = record {
        is_bank = c.requires.sweeps.lawful;
        same_dims = refl;
        same_slots = refl;
        most_steps = omega arith;
        size = refl;
        turns = inr (record {
          same = λ r x0 x a b. ap (λ (y : RankState g.row.Q.Denot). y.over) (get_once c.args.all.now.items r x x0 b a);
          over = λ q r x low. absurd (omega (arith, low));
        });
        fewest = omega arith;
        completed = omega arith;
        posted = λ l below. omega arith;
        swept = λ manner starts n h p w. swept_none g.Q.Program.rules c.args.bank.dims g.row.CAP c.args.bank.slots manner starts c.args.order.now h c.args.all.now.items (sent_of c.args.bank) (got_of c.args.bank) w;
      };
      turns = refl;
    }

pub turn_one-requires : goal.turn_one-requires
turn_one-requires g c =
    let v = c.loop-i.invariant.sweeping in
    let low : c.loop-i.i < length c.args.order.now = c.loop-i-test.true in
    let number = all_get (λ r. r < ranks c.args.bank.dims) c.args.order.now c.loop-i.i (get_or c.args.order.now c.loop-i.i 0) c.requires.sweeps.order.below (order_at c.args.order.now c.loop-i.i low) in (
      search rules,
      (
        search rules,
        (
          subst (λ d. get_or c.args.order.now c.loop-i.i 0 < ranks d) (sym v.same_dims) number,
          (
            c.requires.law,
            on_bank_at g.Q.Program.rules g.row.CAP c.args.order.now c.args.all.now.items c.args.bank c.args.steps.now c.loop-i.i c.loop-i.all.items c.loop-i.bank c.loop-i.steps v c.requires.sweeps.turns,
          ),
        ),
      ),
    )

pub loop-i-preserved : goal.loop-i-preserved
loop-i-preserved g c =
    let v = c.loop-i.invariant.sweeping in
    let low : c.loop-i.i < length c.args.order.now = c.loop-i-test.true in
    let at = order_at c.args.order.now c.loop-i.i low in
    let number = all_get (λ r. r < ranks c.args.bank.dims) c.args.order.now c.loop-i.i (get_or c.args.order.now c.loop-i.i 0) c.requires.sweeps.order.below at in
    let w = (on_bank_at g.Q.Program.rules g.row.CAP c.args.order.now c.args.all.now.items c.args.bank c.args.steps.now c.loop-i.i c.loop-i.all.items c.loop-i.bank c.loop-i.steps v c.requires.sweeps.turns).on_bank in
    let sweeping = sweeping_more g.Q.Program.rules g.met.Q.Program.laws c.requires.law g.row.CAP c.args.order.now c.args.all.now.items c.args.bank c.args.steps.now c.loop-i.i (get_or c.args.order.now c.loop-i.i 0) c.loop-i.all.items c.turn_one.new.all.items c.loop-i.bank c.in_ok-bank.bank c.loop-i.steps c.turn_one.new.steps
    v at (subst (λ d. get_or c.args.order.now c.loop-i.i 0 < ranks d) (sym v.same_dims) number) c.in_ok-bank.ensures.bank.lawful c.in_ok-bank.ensures.bank.same_dims c.in_ok-bank.ensures.bank.same_slots c.turn_one.ensures.most_steps
    c.turn_one.ensures.fewest_steps (λ n was on. c.in_ok-bank.ensures.turned.counted n was ∙ ap (λ b. c.loop-i.steps + cond b 0 1) on) w.ranked.all c.turn_one.ensures.only.all c.turn_one.ensures.only.others c.in_ok-bank.ensures.turned.turned in
    let R = g.Q.Program.rules in
    let first : Scene g.row.Q.Denot = record { ranks = c.args.all.now.items; sent = sent_of c.args.bank; got = got_of c.args.bank; turns = c.args.steps.now } in
    let before : Scene g.row.Q.Denot = record { ranks = c.loop-i.all.items; sent = sent_of c.loop-i.bank; got = got_of c.loop-i.bank; turns = c.loop-i.steps } in
    let after : Scene g.row.Q.Denot = record { ranks = c.turn_one.new.all.items; sent = sent_of c.in_ok-bank.bank; got = got_of c.in_ok-bank.bank; turns = c.turn_one.new.steps } in
    let r = get_or c.args.order.now c.loop-i.i 0 in
    let one : IsTurnOf R c.loop-i.bank.dims g.row.CAP c.loop-i.bank.slots r before after = c.in_ok-bank.ensures.turned in
    let here : IsTurnOf R c.args.bank.dims g.row.CAP c.args.bank.slots r before after =
    subst (λ d. IsTurnOf R d g.row.CAP c.args.bank.slots r before after) v.same_dims (subst (λ k. IsTurnOf R c.loop-i.bank.dims g.row.CAP k r before after) v.same_slots one) in
    record {
      sweeping = sweeping;
      turns = subst (λ rs. TurnsOf R c.args.bank.dims g.row.CAP c.args.bank.slots rs first after) (sym (take_more c.args.order.now c.loop-i.i 0 low))
          (turns_more (IsTurnOf R c.args.bank.dims g.row.CAP c.args.bank.slots) (take c.loop-i.i c.args.order.now) r first before after c.loop-i.invariant.turns here);
    }

pub returns-clause-swept : goal.returns-clause-swept
returns-clause-swept g c = λ manner starts n h p w.
    let end : c.loop-i.i ≡ length c.args.order.now = omega (arith, c.loop-i-test.false, c.loop-i.auto.i-end) in
    subst (λ i. AfterSomeTurns g.Q.Program.rules c.args.bank.dims g.row.CAP c.args.bank.slots manner starts c.args.order.now i w.cycle c.args.all.now.items (sent_of c.args.bank) (got_of c.args.bank) c.loop-i.all.items (sent_of c.loop-i.bank) (got_of c.loop-i.bank)) end
    (c.loop-i.invariant.sweeping.swept manner starts n h p w)

pub returns-clause-some_step : goal.returns-clause-some_step
returns-clause-some_step g c = λ r x at on.
    let v = c.loop-i.invariant.sweeping in
    let end : c.loop-i.i ≡ length c.args.order.now = omega (arith, c.loop-i-test.false, c.loop-i.auto.i-end) in
    some_turn (ranks c.args.bank.dims) c.args.order.now c.args.all.now.items c.loop-i.all.items c.args.steps.now c.loop-i.steps c.requires.sweeps.order c.requires.sweeps.turns.on_bank.ranked.all v.size
    (subst (λ i. (c.args.steps.now < c.loop-i.steps) ⊎ NoneTurned c.args.order.now i c.args.all.now.items c.loop-i.all.items) end v.turns) r x at on

pub returns-clause-order : goal.returns-clause-order
returns-clause-order g c =
    let end : c.loop-i.i ≡ length c.args.order.now = omega (arith, c.loop-i-test.false, c.loop-i.auto.i-end) in
    let first : Scene g.row.Q.Denot = record { ranks = c.args.all.now.items; sent = sent_of c.args.bank; got = got_of c.args.bank; turns = c.args.steps.now } in
    let last : Scene g.row.Q.Denot = record { ranks = c.loop-i.all.items; sent = sent_of c.loop-i.bank; got = got_of c.loop-i.bank; turns = c.loop-i.steps } in
    subst (λ rs. TurnsOf g.Q.Program.rules c.args.bank.dims g.row.CAP c.args.bank.slots rs first last) (take-length c.args.order.now)
    (subst (λ i. TurnsOf g.Q.Program.rules c.args.bank.dims g.row.CAP c.args.bank.slots (take i c.args.order.now) first last) end c.loop-i.invariant.turns)

pub returns-clause-turns : goal.returns-clause-turns
returns-clause-turns g c =
    let v = c.loop-i.invariant.sweeping in
    record { bank = record { lawful = v.is_bank; same_dims = v.same_dims; same_slots = v.same_slots }; fewest = v.completed; posted = v.posted }
