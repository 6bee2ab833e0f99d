use Rattle.std.proofs.Common.{suc, ◌+◌, ◌<◌, ◌≤◌, rules, refl, arith, sym, ap, subst, ◌∙◌}
use Rattle.std.specs.List.{list_all}
use Rattle.port_bank.specs.Plain.{sent_of, got_of}
use Rattle.route_tensor.specs.Grid.{ranks}
use Rattle.route_tensor.specs.Link.{links}
use Rattle.rank_group.specs.Ranks.{RankState, IsOrder}
use Rattle.rank_group.specs.Drives.{progs_of}
use Rattle.rank_group.specs.Turns.{Scene, IsTurnOf, TurnsOf}
use Rattle.rank_group.specs.RanksOverBank.{all_progress}
use Rattle.rank_group.proofs.Ordered.{sweeps_more}
use Rattle.rank_group.proofs.Driven.{some_goes, each_over, steps_low, steps_lower, driving_none, driving_more, world_now, fewer_left}
use Rattle.rank_group.proofs.sweeps.run_all.Goals as goal

pub loop-bank-init : goal.loop-bank-init
loop-bank-init g c = record { completed = omega arith; posted = λ l below. omega arith; swept = (0, refl); driving = driving_none g.Q.Program.rules g.row.CAP c.args.all.now.items c.args.bank c.args.steps.now c.requires.runs.lawful }

pub returns-then-all_over-clause-over : goal.returns-then-all_over-clause-over
returns-then-all_over-clause-over g c = each_over c.loop-bank.all.items (ap (list_all (λ (n : RankState g.row.Q.Denot). n.over)) (sym c.deref.ensures.value) ∙ (sym c.all_over.ensures ∙ c.if-all_over.true))

pub returns-then-all_over-clause-on_bank : goal.returns-then-all_over-clause-on_bank
returns-then-all_over-clause-on_bank g c = λ manner starts n h p w. let r = c.loop-bank.invariant.driving.reached manner starts n h p w in (r.h, r.on_bank)

pub returns-then-all_over-clause-steps : goal.returns-then-all_over-clause-steps
returns-then-all_over-clause-steps g c = λ manner starts n h p w.
    let r = c.loop-bank.invariant.driving.reached manner starts n h p w in
    steps_low g.Q.Program.rules g.met.Q.Program.laws c.closes_laws.ensures c.rest_law.ensures c.args.bank.dims g.row.CAP c.args.bank.slots starts n p manner c.args.steps.now c.loop-bank.steps c.loop-bank.all.items (sent_of c.loop-bank.bank) (got_of c.loop-bank.bank) r

pub sweep-requires : goal.sweep-requires
sweep-requires g c =
    let v = c.loop-bank.invariant.driving in
    let q = c.requires.runs in (
      search rules,
      (
        search rules,
        (
          c.closes_laws.ensures,
          record {
            order = subst (λ d. IsOrder (ranks d) c.args.order.now) (sym v.same_dims) q.order;
            lawful = v.is_bank;
            turns = world_now g.Q.Program.rules g.row.CAP c.args.all.now.items c.args.bank c.args.steps.now c.loop-bank.all.items c.loop-bank.bank c.loop-bank.steps v q.manner (progs_of c.args.all.now.items) q.rounds q.h q.plan q.on_bank;
          },
        ),
      ),
    )

pub returns-in_err-bank-clause-steps : goal.returns-in_err-bank-clause-steps
returns-in_err-bank-clause-steps g c = λ manner starts n h p w.
    let r = c.loop-bank.invariant.driving.reached manner starts n h p w in
    let on = some_goes c.loop-bank.all.items (ap (list_all (λ (n : RankState g.row.Q.Denot). n.over)) (sym c.deref.ensures.value) ∙ (sym c.all_over.ensures ∙ c.if-all_over.false)) in
    steps_lower g.Q.Program.rules g.met.Q.Program.laws c.closes_laws.ensures c.rest_law.ensures c.args.bank.dims g.row.CAP c.args.bank.slots starts n p manner c.args.steps.now c.loop-bank.steps c.sweep.new.steps c.loop-bank.all.items (sent_of c.loop-bank.bank) (got_of c.loop-bank.bank)
    on r (omega (arith, c.sweep.ensures.most_steps, c.requires.runs.order.size))

pub loop-bank-smaller : goal.loop-bank-smaller
loop-bank-smaller g c =
    let on = some_goes c.loop-bank.all.items (ap (list_all (λ (n : RankState g.row.Q.Denot). n.over)) (sym c.deref.ensures.value) ∙ (sym c.all_over.ensures ∙ c.if-all_over.false)) in
    let q = c.requires.runs in
    fewer_left g.Q.Program.rules g.row.CAP c.args.all.now.items c.args.bank c.args.steps.now c.loop-bank.all.items c.loop-bank.bank c.loop-bank.steps c.loop-bank.invariant.driving g.met.Q.Program.laws c.closes_laws.ensures c.rest_law.ensures c.args.order.now c.requires.runs.order on
    c.sweep.new.all.items c.in_ok-bank.bank c.sweep.new.steps c.in_ok-bank.ensures.turns.bank.lawful c.in_ok-bank.ensures.turns.bank.same_dims c.in_ok-bank.ensures.turns.bank.same_slots c.sweep.ensures.most_steps c.in_ok-bank.ensures.swept (c.in_ok-bank.ensures.some_step on.rank on.state on.at on.still) q.manner q.rounds q.h q.plan q.few q.on_bank

pub loop-bank-preserved : goal.loop-bank-preserved
loop-bank-preserved g c =
    let on = some_goes c.loop-bank.all.items (ap (list_all (λ (n : RankState g.row.Q.Denot). n.over)) (sym c.deref.ensures.value) ∙ (sym c.all_over.ensures ∙ c.if-all_over.false)) in
    let driving = driving_more g.Q.Program.rules g.row.CAP c.args.all.now.items c.args.bank c.args.steps.now c.loop-bank.all.items c.loop-bank.bank c.loop-bank.steps c.loop-bank.invariant.driving g.met.Q.Program.laws c.closes_laws.ensures c.rest_law.ensures c.args.order.now c.requires.runs.order on
    c.sweep.new.all.items c.in_ok-bank.bank c.sweep.new.steps c.in_ok-bank.ensures.turns.bank.lawful c.in_ok-bank.ensures.turns.bank.same_dims c.in_ok-bank.ensures.turns.bank.same_slots c.sweep.ensures.most_steps c.in_ok-bank.ensures.swept in
    let R = g.Q.Program.rules in
    let first : Scene g.row.Q.Denot = record { ranks = c.args.all.now.items; sent = sent_of c.args.bank; got = got_of c.args.bank; turns = c.args.steps.now } in
    let before : Scene g.row.Q.Denot = record { ranks = c.loop-bank.all.items; sent = sent_of c.loop-bank.bank; got = got_of c.loop-bank.bank; turns = c.loop-bank.steps } in
    let after : Scene g.row.Q.Denot = record { ranks = c.sweep.new.all.items; sent = sent_of c.in_ok-bank.bank; got = got_of c.in_ok-bank.bank; turns = c.sweep.new.steps } in
    let v = c.loop-bank.invariant.driving in
    let one = subst (λ d. TurnsOf R d g.row.CAP c.args.bank.slots c.args.order.now before after) v.same_dims
    (subst (λ k. TurnsOf R c.loop-bank.bank.dims g.row.CAP k c.args.order.now before after) v.same_slots c.in_ok-bank.ensures.order) in
    let so_far = c.loop-bank.invariant.swept in
    let more = subst (λ d. all_progress d c.sweep.new.all.items + c.loop-bank.steps ≤ all_progress d c.loop-bank.all.items + c.sweep.new.steps) v.same_dims c.in_ok-bank.ensures.turns.fewest in
    let done = c.loop-bank.invariant.completed in
    record {
      completed = omega (arith, more, done);
      posted = λ l below.
          let one = c.in_ok-bank.ensures.turns.posted l (subst (λ d. l < links d) (sym v.same_dims) below) in
          let so = c.loop-bank.invariant.posted l below in
          omega (arith, one, so);
      driving = driving;
      swept = (suc so_far.0, sweeps_more (IsTurnOf R c.args.bank.dims g.row.CAP c.args.bank.slots) c.args.order.now so_far.0 first before after so_far.1 one);
    }

pub returns-then-all_over-clause-turns : goal.returns-then-all_over-clause-turns
returns-then-all_over-clause-turns g c =
    let i = c.loop-bank.invariant in
    record { bank = record { lawful = i.driving.is_bank; same_dims = i.driving.same_dims; same_slots = i.driving.same_slots }; fewest = i.completed; posted = i.posted }
