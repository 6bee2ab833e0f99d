use Rattle.std.proofs.Common.{◌≡◌, ◌≢◌, ◌<◌, ◌+◌, ◌*◌, ◌++◌, append-nil, ℕ, List, [], ◌∷◌, length, get_or, true, rules, arith, ap, sym, subst, refl, ◌∙◌, inl, inr}
use Rattle.std.proofs.lemmas.Bool.{cases_eq}
use Rattle.list_laws.specs.Lists.{IsPrefix}
use Rattle.route_tensor.specs.Link.{links}
use Rattle.route_tensor.specs.Ends.{sender_at, reader_at}
use Rattle.port_bank.specs.Logs.{lasts}
use Rattle.port_bank.proofs.Frames.{port_at_first, port_then, outs_at_first, outs_then}
use Rattle.port_bank.proofs.Fronts.{begins_refl, begins_trans}
use Rattle.port_bank.specs.Calls.Call.{Collect}
use Rattle.port_bank.proofs.Sweeping.{swept_more}
use Rattle.exstack.specs.Links.{StackIn, no_stack_in}
use Rattle.exstack.specs.State.{number}
use Rattle.exstack.specs.Steps.{collects_from}
use Rattle.exstack.proofs.OneHop.{number_within, number_sender, number_reader}
use Rattle.exstack.proofs.Sweeps.{sweep_start, sweep_more, sweep_each, sweep_here}
use Rattle.exstack.proofs.Moves.{Sight, in_sight, in_seen, Collected, Asked, in_number, none_collected, in_apart, begins_between}
use Rattle.exstack.proofs.rounds.collect_all.Goals as goal

pub loop-a-init : goal.loop-a-init
loop-a-init g c = record {
  collected = sweep_start _ _ _ _ _;
  asked = sweep_start _ _ _ _ _;
  calls = sym (append-nil (g.P.Port.view c.args.port.now).calls);
  own = λ b. b;
  left = record { grows = λ m. begins_refl ((g.P.Port.view c.args.port.now).got m); crowded = λ m e. refl; same_outs = outs_at_first; same_port = port_at_first };
}

pub collect-requires : goal.collect-requires
collect-requires g c =
    let k = c.loop-a.invariant in
    let xs : List StackIn = c.args.ins.now.items in
    let n : ℕ = length xs in
    let r : ℕ = c.args.rank in
    let a : ℕ = c.loop-a.a in
    let len : c.len-ranks.result ≡ n = omega (arith, c.len-ranks.ensures, c.args.ins.now.ok) in
    let within : a < n = omega (arith, c.loop-a-test.true, c.len-a-end.ensures, c.args.ins.now.ok) in
    let l : ℕ = a * c.len-ranks.result + r in
    let here : number n a r ≡ l = ap (λ m. a * m + r) (sym len) in
    let dims : (g.P.Port.view c.loop-a.port).dims ≡ n ∷ [] = k.left.same_port.dims ∙ c.requires.port.dims in
    let now : c.index_mut.result.now ≡ get_or xs a no_stack_in = sweep_here _ _ _ _ _ _ _ _ _ within k.collected c.index_mut.ensures.value in
    let log : (g.P.Port.view c.loop-a.port).got (number n a r) ≡ (g.P.Port.view c.args.port.now).got (number n a r) = ap (λ (s : Sight). s.log) (k.collected.shown a (omega arith) within) in
    let due : c.index_mut.result.now.due ≡ true → lasts ((g.P.Port.view c.loop-a.port).got l) ≡ c.args.epoch = λ d.
    ap (λ m. lasts ((g.P.Port.view c.loop-a.port).got m)) (sym here) ∙ (ap lasts log ∙ c.requires.epoch a within (ap (λ (i : StackIn). i.due) (sym now) ∙ d)) in (
      search rules,
      (
        subst (λ ds. l < links ds) (sym dims) (subst (λ x. x < links (n ∷ [])) here (number_within n a r within c.requires.port.within c.requires.port.few)),
        (
          ap (λ ds. reader_at ds l) dims ∙ (ap (reader_at (n ∷ [])) (sym here) ∙ (number_reader n a r within c.requires.port.within c.requires.port.few ∙ (sym c.requires.port.rank ∙ sym k.left.same_port.rank))),
          due,
        ),
      ),
    )

pub loop-a-preserved : goal.loop-a-preserved
loop-a-preserved g c =
    let k = c.loop-a.invariant in
    let e = c.collect.ensures in
    let xs : List StackIn = c.args.ins.now.items in
    let n : ℕ = length xs in
    let r : ℕ = c.args.rank in
    let a : ℕ = c.loop-a.a in
    let len : c.len-ranks.result ≡ n = omega (arith, c.len-ranks.ensures, c.args.ins.now.ok) in
    let within : a < n = omega (arith, c.loop-a-test.true, c.len-a-end.ensures, c.args.ins.now.ok) in
    let l : ℕ = a * c.len-ranks.result + r in
    let here : number n a r ≡ l = ap (λ m. a * m + r) (sym len) in
    let dims : (g.P.Port.view c.loop-a.port).dims ≡ n ∷ [] = k.left.same_port.dims ∙ c.requires.port.dims in
    let before : ℕ → Sight = in_sight (g.P.Port.view c.args.port.now) in
    let mid : ℕ → Sight = in_sight (g.P.Port.view c.loop-a.port) in
    let after : ℕ → Sight = in_sight (g.P.Port.view c.collect.new.port) in
    let x : StackIn = c.index_mut.result.now in
    let y : StackIn = c.collect.new.self in
    let others : (m : ℕ) → m < n → m ≢ a → after (in_number n r m) ≡ mid (in_number n r m) = λ m w ne. in_seen l (g.P.Port.view c.loop-a.port) (g.P.Port.view c.collect.new.port) e.elsewhere (number n m r) (λ q. in_apart n r a m c.requires.port.within ne (q ∙ sym here)) in
    let moved : Collected c.args.exchange x y (mid (number n a r)) (after (number n a r)) = subst (λ m. Collected c.args.exchange x y (mid m) (after m)) (sym here) e.moved in
    let vain : Asked x y (mid (number n a r)) (after (number n a r)) = subst (λ m. Asked x y (mid m) (after m)) (sym here) e.still_stuck in
    let self : ℕ = number n r r in
    let starts : a ≡ r → sender_at (g.P.Port.view c.loop-a.port).dims l ≡ (g.P.Port.view c.loop-a.port).rank = λ same.
    ap (λ ds. sender_at ds l) dims ∙ (ap (sender_at (n ∷ [])) (sym here) ∙ (number_sender n a r within c.requires.port.within c.requires.port.few ∙ (same ∙ (sym c.requires.port.rank ∙ sym k.left.same_port.rank)))) in
    let link : a ≡ r → l ≡ self = λ same. sym here ∙ ap (λ m. number n m r) same in
    let own : IsPrefix ((g.P.Port.view c.loop-a.port).got self) ((g.P.Port.view c.loop-a.port).sent self) → IsPrefix ((g.P.Port.view c.collect.new.port).got self) ((g.P.Port.view c.collect.new.port).sent self) = λ b.
    elim (cases_eq a r) [
      | inl same ↦
          subst (λ m. IsPrefix ((g.P.Port.view c.collect.new.port).got m) ((g.P.Port.view c.collect.new.port).sent m)) (link same)
          (e.own (starts same) (subst (λ m. IsPrefix ((g.P.Port.view c.loop-a.port).got m) ((g.P.Port.view c.loop-a.port).sent m)) (sym (link same)) b))
      | inr ne ↦
          subst (λ log. IsPrefix log ((g.P.Port.view c.collect.new.port).sent self)) (sym (ap (λ (s : Sight). s.log) (others r c.requires.port.within (λ q. ne (sym q)))))
          (subst (λ logs. IsPrefix ((g.P.Port.view c.loop-a.port).got self) (logs self)) (sym e.left.same_outs.sent) b)
    ] in
    record {
      collected = sweep_more (Collected c.args.exchange) no_stack_in (in_number n r) a xs c.loop-a.ins.items before mid after x y within k.collected c.index_mut.ensures.value moved others;
      asked = sweep_more Asked no_stack_in (in_number n r) a xs c.loop-a.ins.items before mid after x y within k.asked c.index_mut.ensures.value vain others;
      calls =
          let now : x ≡ get_or xs a no_stack_in = sweep_here _ _ _ _ _ _ _ _ _ within k.collected c.index_mut.ensures.value in
          swept_more _ _ _ (λ m. (get_or xs m no_stack_in).due) (λ m. (get_or xs m no_stack_in).due) (λ m. Collect (number n m r)) a _ _ (λ m less. refl) k.calls e.calls (ap (λ (i : StackIn). i.due) now) (ap Collect (sym here));
      own = λ b. own (k.own b);
      left = record {
        grows = λ m. begins_trans _ _ _ (k.left.grows m) (e.left.grows m);
        crowded = λ m q.
            let stays : (g.P.Port.view c.loop-a.port).got m ≡ (g.P.Port.view c.args.port.now).got m = begins_between _ _ _ (k.left.grows m) (e.left.grows m) q in
            e.left.crowded m (q ∙ sym stays) ∙ k.left.crowded m stays;
        same_outs = outs_then k.left.same_outs e.left.same_outs;
        same_port = port_then k.left.same_port e.left.same_port;
      };
    }

pub returns-clause-moved : goal.returns-clause-moved
returns-clause-moved g c = sweep_each (Collected c.args.exchange) no_stack_in _ _ _ _ _ _ (none_collected c.args.exchange) c.loop-a.invariant.collected

pub returns-clause-still_stuck : goal.returns-clause-still_stuck
returns-clause-still_stuck g c = λ a w.
    c.loop-a.invariant.asked.done a (omega (arith, w, c.loop-a-test.false, c.len-a-end.ensures, c.args.ins.now.ok)) w

pub returns-clause-calls : goal.returns-clause-calls
returns-clause-calls g c =
    let all : c.loop-a.a ≡ length c.args.ins.now.items = omega (arith, c.loop-a-test.false, c.len-a-end.ensures, c.args.ins.now.ok) in
    c.loop-a.invariant.calls ∙ ap (λ m. (g.P.Port.view c.args.port.now).calls ++ collects_from (length c.args.ins.now.items) c.args.rank c.args.ins.now.items m) all
