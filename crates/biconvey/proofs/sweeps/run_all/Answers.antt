use Rattle.std.proofs.Common.{rules, ◌≡◌, ◌<◌, ℕ, suc, List, Bool, true, true≢false, length, refl, sym, ap, subst, ◌∙◌, arith, inl, inr}
use Rattle.std.specs.List.{list_all}
use Rattle.route_tensor.specs.Grid.{ranks}
use Rattle.route_tensor.specs.Link.{links}
use Rattle.rank_group.specs.Ranks.{IsOrder}
use Rattle.rank_group.specs.Turns.{InTurn}
use Rattle.rank_group.proofs.Ordered.{sweeps_more}
use Rattle.biconvey.specs.Turns.{AskingScene, IsAskingTurn}
use Rattle.biconvey.specs.RanksOverBanks.{is_over, BiRanksOnBanks, AfterSomeBiTurns, sides_of}
use Rattle.biconvey.proofs.Driven.{each_over, driving_none, steps_low, steps_lower, driving_more, fewer_left}
use Rattle.biconvey.proofs.Swept.{same_banks, same_on_bank}
use Rattle.biconvey.proofs.sweeps.run_all.Goals as goal

pub returns-then-all_over-clause-over : goal.returns-then-all_over-clause-over
returns-then-all_over-clause-over g c = each_over c.loop-banks.all.items (ap (list_all is_over) (sym c.deref.ensures.value) ∙ (sym c.all_over.ensures ∙ c.if-all_over.true))

pub returns-then-all_over-clause-on_bank : goal.returns-then-all_over-clause-on_bank
returns-then-all_over-clause-on_bank g c = λ steady starts w. (c.loop-banks.invariant.driving.reached steady starts w).on_bank

pub returns-then-all_over-clause-steps : goal.returns-then-all_over-clause-steps
returns-then-all_over-clause-steps g c = λ steady starts w.
    steps_low g.A.Asker.talk g.met.A.Asker.laws c.closes_law.ensures c.rest_law.ensures g.row.CAP c.args.banks.queries.dims c.args.banks.queries.slots c.args.all.now.items (sides_of c.args.banks.queries c.args.banks.replies) c.args.steps.now
    c.loop-banks.all.items c.loop-banks.banks.queries c.loop-banks.banks.replies c.loop-banks.steps c.loop-banks.invariant.driving steady starts w

pub sweep-requires : goal.sweep-requires
sweep-requires g c =
    let v = c.loop-banks.invariant.driving in
    let w = c.requires.sweeps in
    let d = c.args.banks.queries.dims in
    let k = c.args.banks.queries.slots in
    let b = c.loop-banks.banks in (
      search rules,
      (
        search rules,
        record {
          order = subst (λ ds. IsOrder (ranks ds) c.args.order.now) (sym v.banks.queries_dims) w.order;
          banks = same_banks g.row.CAP b.queries.dims d b.queries.slots k b.queries b.replies (sym v.banks.queries_dims) (sym v.banks.queries_slots) v.banks;
          steady = w.steady;
          starts = w.starts;
          on_bank = same_on_bank g.A.Asker.talk g.row.CAP b.queries.dims d b.queries.slots k w.steady w.starts c.loop-banks.all.items (sides_of b.queries b.replies) (sym v.banks.queries_dims) (sym v.banks.queries_slots) (v.reached w.steady w.starts w.on_bank).on_bank;
        },
      ),
    )

pub returns-in_err-banks-clause-steps : goal.returns-in_err-banks-clause-steps
returns-in_err-banks-clause-steps g c = λ steady starts w.
    let on = ap (list_all is_over) (sym c.deref.ensures.value) ∙ (sym c.all_over.ensures ∙ c.if-all_over.false) in
    steps_lower g.A.Asker.talk g.met.A.Asker.laws c.closes_law.ensures c.rest_law.ensures g.row.CAP c.args.banks.queries.dims c.args.banks.queries.slots c.args.all.now.items (sides_of c.args.banks.queries c.args.banks.replies) c.args.steps.now
    c.loop-banks.all.items c.loop-banks.banks.queries c.loop-banks.banks.replies c.loop-banks.steps c.loop-banks.invariant.driving c.args.order.now c.requires.sweeps.order on c.sweep.new.steps c.sweep.ensures.most_steps steady starts w

pub loop-banks-smaller : goal.loop-banks-smaller
loop-banks-smaller g c =
    let T = g.A.Asker.talk in
    let v = c.loop-banks.invariant.driving in
    let w = c.requires.sweeps in
    let d : List ℕ = c.args.banks.queries.dims in
    let k : ℕ = c.args.banks.queries.slots in
    let b = c.loop-banks.banks in
    let b' = c.in_ok-banks.banks in
    let on = ap (list_all is_over) (sym c.deref.ensures.value) ∙ (sym c.all_over.ensures ∙ c.if-all_over.false) in
    fewer_left T g.met.A.Asker.laws c.closes_law.ensures c.rest_law.ensures g.row.CAP d k c.args.all.now.items (sides_of c.args.banks.queries c.args.banks.replies) c.args.steps.now
    c.loop-banks.all.items b.queries b.replies c.loop-banks.steps v c.args.order.now c.requires.sweeps.order on c.sweep.new.steps c.sweep.ensures.most_steps c.sweep.new.all.items b'.queries b'.replies
    (same_banks g.row.CAP d b.queries.dims k b.queries.slots b'.queries b'.replies v.banks.queries_dims v.banks.queries_slots c.in_ok-banks.ensures.banks)
    (subst (λ ds. (steady : Bool) (starts : ℕ → g.row.A.Denot) → BiRanksOnBanks T ds g.row.CAP k steady starts c.loop-banks.all.items (sides_of b.queries b.replies)
    → AfterSomeBiTurns T ds g.row.CAP k steady starts c.args.order.now (length c.args.order.now) c.loop-banks.all.items (sides_of b.queries b.replies) c.sweep.new.all.items (sides_of b'.queries b'.replies)) v.banks.queries_dims
    (subst (λ ks. (steady : Bool) (starts : ℕ → g.row.A.Denot) → BiRanksOnBanks T b.queries.dims g.row.CAP ks steady starts c.loop-banks.all.items (sides_of b.queries b.replies)
    → AfterSomeBiTurns T b.queries.dims g.row.CAP ks steady starts c.args.order.now (length c.args.order.now) c.loop-banks.all.items (sides_of b.queries b.replies) c.sweep.new.all.items (sides_of b'.queries b'.replies)) v.banks.queries_slots
    c.in_ok-banks.ensures.swept)) w.steady w.starts w.on_bank

pub loop-banks-preserved : goal.loop-banks-preserved
loop-banks-preserved g c =
    let T = g.A.Asker.talk in
    let v = c.loop-banks.invariant.driving in
    let d : List ℕ = c.args.banks.queries.dims in
    let k : ℕ = c.args.banks.queries.slots in
    let b = c.loop-banks.banks in
    let b' = c.in_ok-banks.banks in
    let on = ap (list_all is_over) (sym c.deref.ensures.value) ∙ (sym c.all_over.ensures ∙ c.if-all_over.false) in
    let size : length c.args.order.now ≡ ranks d = c.requires.sweeps.order.size in
    let more = c.in_ok-banks.ensures.fewest_steps in
    let rose = c.loop-banks.invariant.rose in
    let first : AskingScene g.row.A.Denot = record { ranks = c.args.all.now.items; sides = sides_of c.args.banks.queries c.args.banks.replies; turns = c.args.steps.now } in
    let before : AskingScene g.row.A.Denot = record { ranks = c.loop-banks.all.items; sides = sides_of b.queries b.replies; turns = c.loop-banks.steps } in
    let after : AskingScene g.row.A.Denot = record { ranks = c.sweep.new.all.items; sides = sides_of b'.queries b'.replies; turns = c.sweep.new.steps } in
    let one = subst (λ ds. InTurn (IsAskingTurn T ds g.row.CAP k) c.args.order.now before after) v.banks.queries_dims
    (subst (λ ks. InTurn (IsAskingTurn T b.queries.dims g.row.CAP ks) c.args.order.now before after) v.banks.queries_slots c.in_ok-banks.ensures.order) in
    let so_far = c.loop-banks.invariant.swept in
    record {
      swept = (suc so_far.0, sweeps_more (IsAskingTurn T d g.row.CAP k) c.args.order.now so_far.0 first before after so_far.1 one);
      rose = omega (arith, more, rose);
      turned = inr (omega (arith, more, rose, size));
      posted = λ l below.
          let one = c.in_ok-banks.ensures.posted l (subst (λ ds. l < links ds) (sym v.banks.queries_dims) below) in
          let so = c.loop-banks.invariant.posted l below in
          (omega (arith, one.0, so.0), omega (arith, one.1, so.1));
      driving = driving_more T g.met.A.Asker.laws c.closes_law.ensures c.rest_law.ensures g.row.CAP d k c.args.all.now.items (sides_of c.args.banks.queries c.args.banks.replies) c.args.steps.now
          c.loop-banks.all.items b.queries b.replies c.loop-banks.steps v c.args.order.now c.requires.sweeps.order on c.sweep.new.steps c.sweep.ensures.most_steps c.sweep.new.all.items b'.queries b'.replies
          (same_banks g.row.CAP d b.queries.dims k b.queries.slots b'.queries b'.replies v.banks.queries_dims v.banks.queries_slots c.in_ok-banks.ensures.banks)
          (subst (λ ds. (steady : Bool) (starts : ℕ → g.row.A.Denot) → BiRanksOnBanks T ds g.row.CAP k steady starts c.loop-banks.all.items (sides_of b.queries b.replies)
          → AfterSomeBiTurns T ds g.row.CAP k steady starts c.args.order.now (length c.args.order.now) c.loop-banks.all.items (sides_of b.queries b.replies) c.sweep.new.all.items (sides_of b'.queries b'.replies)) v.banks.queries_dims
          (subst (λ ks. (steady : Bool) (starts : ℕ → g.row.A.Denot) → BiRanksOnBanks T b.queries.dims g.row.CAP ks steady starts c.loop-banks.all.items (sides_of b.queries b.replies)
          → AfterSomeBiTurns T b.queries.dims g.row.CAP ks steady starts c.args.order.now (length c.args.order.now) c.loop-banks.all.items (sides_of b.queries b.replies) c.sweep.new.all.items (sides_of b'.queries b'.replies)) v.banks.queries_slots
          c.in_ok-banks.ensures.swept));
    }

pub loop-banks-init : goal.loop-banks-init
loop-banks-init g c = record { rose = omega arith; swept = (0, refl); posted = λ l below. (omega arith, omega arith); turned = inl refl; driving = driving_none g.A.Asker.talk g.row.CAP c.args.banks.queries.dims c.args.banks.queries.slots c.args.all.now.items c.args.steps.now c.args.banks.queries c.args.banks.replies c.requires.sweeps.banks }

pub returns-then-all_over-clause-fewest : goal.returns-then-all_over-clause-fewest
returns-then-all_over-clause-fewest g c = λ on.
    let over : list_all is_over c.loop-banks.all.items ≡ true = ap (list_all is_over) (sym c.deref.ensures.value) ∙ (sym c.all_over.ensures ∙ c.if-all_over.true) in
    elim c.loop-banks.invariant.turned [
      | inl same ↦ absurd (true≢false (sym over ∙ (ap (list_all is_over) same ∙ on)))
      | inr rose ↦ rose
    ]
