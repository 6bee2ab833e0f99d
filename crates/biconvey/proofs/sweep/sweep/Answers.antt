use Rattle.std.proofs.Common.{rules, ◌≡◌, ◌<◌, length, get_or, slice_get, Some, take, arith, refl, subst, sym, ◌∙◌}
use Rattle.std.proofs.lemmas.List.{length-map, take_more}
use Rattle.std.proofs.Math.Seq.{take-length}
use Rattle.list_laws.proofs.Lists.{all_get}
use Rattle.route_tensor.specs.Grid.{ranks}
use Rattle.query_node.specs.States.{BiState}
use Rattle.rank_group.specs.Turns.{InTurn}
use Rattle.rank_group.proofs.Ordered.{turns_more}
use Rattle.biconvey.specs.Turns.{AskingScene, IsAskingTurn}
use Rattle.biconvey.specs.RanksOverBanks.{AfterBiRank, AfterSomeBiTurns, sides_of}
use Rattle.biconvey.proofs.Swept.{sweeping_more, swept_none, same_turn, same_banks, same_on_bank, order_at}
use Rattle.biconvey.proofs.sweep.sweep.Goals as goal

pub loop-i-init : goal.loop-i-init
loop-i-init g c =
    record {
      sweeping = record {
        banks = c.requires.sweeps.banks;
        most_steps = omega arith;
        fewest_steps = omega arith;
        posted = λ l below. (omega arith, omega arith);
        swept = λ steady starts w. swept_none g.A.Asker.talk c.args.banks.queries.dims g.row.CAP c.args.banks.queries.slots steady starts c.args.order.now c.args.all.now.items (sides_of c.args.banks.queries c.args.banks.replies) w;
      };
      turns = refl;
    }

pub turn_one-requires : goal.turn_one-requires
turn_one-requires g c =
    let v = c.loop-i.invariant.sweeping in
    let q = c.requires.sweeps in
    let d = c.args.banks.queries.dims in
    let k = c.args.banks.queries.slots in
    let low : c.loop-i.i < length c.args.order.now = c.loop-i-test.true in
    let number = all_get (λ r. r < ranks d) c.args.order.now c.loop-i.i (get_or c.args.order.now c.loop-i.i 0) c.requires.sweeps.order.below (order_at c.args.order.now c.loop-i.i low) in (
      search rules,
      (
        search rules,
        (
          subst (λ d. get_or c.args.order.now c.loop-i.i 0 < ranks d) (sym v.banks.queries_dims) number,
          (
            same_banks g.row.CAP c.loop-i.banks.queries.dims d c.loop-i.banks.queries.slots k c.loop-i.banks.queries c.loop-i.banks.replies (sym v.banks.queries_dims) (sym v.banks.queries_slots) v.banks,
            (
              q.steady,
              q.starts,
              same_on_bank g.A.Asker.talk g.row.CAP c.loop-i.banks.queries.dims d c.loop-i.banks.queries.slots k q.steady q.starts c.loop-i.all.items (sides_of c.loop-i.banks.queries c.loop-i.banks.replies) (sym v.banks.queries_dims) (sym v.banks.queries_slots) (v.swept q.steady q.starts q.on_bank).on_bank,
            ),
          ),
        ),
      ),
    )

pub loop-i-preserved : goal.loop-i-preserved
loop-i-preserved g c =
    let v = c.loop-i.invariant.sweeping in
    let T = g.A.Asker.talk in
    let d = c.args.banks.queries.dims in
    let k = c.args.banks.queries.slots in
    let low : c.loop-i.i < length c.args.order.now = c.loop-i-test.true in
    let here = order_at c.args.order.now c.loop-i.i low in
    let number = get_or c.args.order.now c.loop-i.i 0 in
    let below = all_get (λ r. r < ranks d) c.args.order.now c.loop-i.i number c.requires.sweeps.order.below here in
    let b = c.in_ok-banks.banks in
    let w = (v.swept c.requires.sweeps.steady c.requires.sweeps.starts c.requires.sweeps.on_bank).on_bank in
    let all = sym (length-map c.loop-i.all.items (λ (n : BiState g.row.A.Denot). n.queries)) ∙ w.queries.all in
    let same : (n n' : BiState g.row.A.Denot) → slice_get c.loop-i.all.items number ≡ Some n → slice_get c.turn_one.new.all.items number ≡ Some n'
    → AfterBiRank T d g.row.CAP k number n n' (sides_of c.loop-i.banks.queries c.loop-i.banks.replies) (sides_of b.queries b.replies) = λ n n' was now. same_turn T g.row.CAP d c.loop-i.banks.queries.dims k c.loop-i.banks.queries.slots number n n' (sides_of c.loop-i.banks.queries c.loop-i.banks.replies) (sides_of b.queries b.replies) v.banks.queries_dims v.banks.queries_slots (c.in_ok-banks.ensures.turned n n' was now) in
    let sweeping = sweeping_more T g.row.CAP d k c.args.order.now c.args.all.now.items (sides_of c.args.banks.queries c.args.banks.replies) c.args.steps.now c.loop-i.i number c.loop-i.all.items c.turn_one.new.all.items
    c.loop-i.banks.queries c.loop-i.banks.replies b.queries b.replies c.loop-i.steps c.turn_one.new.steps v all here below
    (same_banks g.row.CAP d c.loop-i.banks.queries.dims k c.loop-i.banks.queries.slots b.queries b.replies v.banks.queries_dims v.banks.queries_slots c.in_ok-banks.ensures.banks)
    c.turn_one.ensures.steps c.turn_one.ensures.only.all c.turn_one.ensures.only.others
    same in
    let first : AskingScene g.row.A.Denot = record { ranks = c.args.all.now.items; sides = sides_of c.args.banks.queries c.args.banks.replies; turns = c.args.steps.now } in
    let before : AskingScene g.row.A.Denot = record { ranks = c.loop-i.all.items; sides = sides_of c.loop-i.banks.queries c.loop-i.banks.replies; turns = c.loop-i.steps } in
    let after : AskingScene g.row.A.Denot = record { ranks = c.turn_one.new.all.items; sides = sides_of b.queries b.replies; turns = c.turn_one.new.steps } in
    let one : IsAskingTurn T d g.row.CAP k number before after = record { only = c.turn_one.ensures.only; turned = same; counted = c.turn_one.ensures.steps } in
    record {
      sweeping = sweeping;
      turns = subst (λ rs. InTurn (IsAskingTurn T d g.row.CAP k) rs first after) (sym (take_more c.args.order.now c.loop-i.i 0 low))
          (turns_more (IsAskingTurn T d g.row.CAP k) (take c.loop-i.i c.args.order.now) number first before after c.loop-i.invariant.turns one);
    }

pub returns-clause-order : goal.returns-clause-order
returns-clause-order g c =
    let end : c.loop-i.i ≡ length c.args.order.now = omega (arith, c.loop-i-test.false, c.loop-i.auto.i-end) in
    let step = IsAskingTurn g.A.Asker.talk c.args.banks.queries.dims g.row.CAP c.args.banks.queries.slots in
    let first : AskingScene g.row.A.Denot = record { ranks = c.args.all.now.items; sides = sides_of c.args.banks.queries c.args.banks.replies; turns = c.args.steps.now } in
    let last : AskingScene g.row.A.Denot = record { ranks = c.loop-i.all.items; sides = sides_of c.loop-i.banks.queries c.loop-i.banks.replies; turns = c.loop-i.steps } in
    subst (λ rs. InTurn step rs first last) (take-length c.args.order.now) (subst (λ i. InTurn step (take i c.args.order.now) first last) end c.loop-i.invariant.turns)

pub returns-clause-swept : goal.returns-clause-swept
returns-clause-swept g c = λ steady starts w.
    let end : c.loop-i.i ≡ length c.args.order.now = omega (arith, c.loop-i-test.false, c.loop-i.auto.i-end) in
    subst (λ i. AfterSomeBiTurns g.A.Asker.talk c.args.banks.queries.dims g.row.CAP c.args.banks.queries.slots steady starts c.args.order.now i c.args.all.now.items (sides_of c.args.banks.queries c.args.banks.replies) c.loop-i.all.items (sides_of c.loop-i.banks.queries c.loop-i.banks.replies)) end
    (c.loop-i.invariant.sweeping.swept steady starts w)
