use Rattle.std.proofs.Common.{◌≡◌, ◌≢◌, ◌<◌, ◌+◌, ◌*◌, ◌++◌, append-nil, ℕ, List, [], ◌∷◌, length, get_or, true, rules, arith, ap, sym, subst, refl, ◌∙◌}
use Rattle.route_tensor.specs.Grid.{IsGrid}
use Rattle.route_tensor.specs.Link.{links}
use Rattle.route_tensor.specs.Ends.{sender_at}
use Rattle.port_bank.specs.Logs.{lasts}
use Rattle.port_bank.proofs.Frames.{port_at_first, port_then, ins_at_first, ins_then}
use Rattle.port_bank.proofs.Fronts.{begins_refl, begins_trans}
use Rattle.port_bank.proofs.Kept.{law_same}
use Rattle.std.proofs.lemmas.List.{get_or-set_same}
use Rattle.port_bank.specs.Calls.Call.{Post}
use Rattle.port_bank.proofs.Sweeping.{swept_more}
use Rattle.exstack.specs.Links.{StackOut, no_stack_out}
use Rattle.exstack.specs.State.{number}
use Rattle.exstack.specs.Steps.{posts_to}
use Rattle.exstack.proofs.OneHop.{grid_one, number_within, number_sender}
use Rattle.exstack.proofs.Sweeps.{sweep_start, sweep_more, sweep_each, sweep_here}
use Rattle.exstack.proofs.Moves.{Sight, out_sight, out_seen, Posted, Served, none_posted, out_apart}
use Rattle.exstack.proofs.rounds.post_all.Goals as goal

pub loop-b-init : goal.loop-b-init
loop-b-init g c = record {
  posted = sweep_start _ _ _ _ _;
  served = sweep_start _ _ _ _ _;
  calls = sym (append-nil (g.P.Port.view c.args.port.now).calls);
  law = c.requires.law;
  left = record { grows = λ m. begins_refl ((g.P.Port.view c.args.port.now).sent m); same_ins = ins_at_first; same_port = port_at_first };
}

pub post-requires : goal.post-requires
post-requires g c =
    let k = c.loop-b.invariant in
    let xs : List StackOut = c.args.outs.now.items in
    let n : ℕ = length xs in
    let r : ℕ = c.args.rank in
    let b : ℕ = c.loop-b.b in
    let len : c.len-ranks.result ≡ n = omega (arith, c.len-ranks.ensures, c.args.outs.now.ok) in
    let within : b < n = omega (arith, c.loop-b-test.true, c.len-b-end.ensures, c.args.outs.now.ok) in
    let some : 0 < n = omega arith in
    let l : ℕ = r * c.len-ranks.result + b in
    let here : number n r b ≡ l = ap (λ m. r * m + b) (sym len) in
    let dims : (g.P.Port.view c.loop-b.port).dims ≡ n ∷ [] = k.left.same_port.dims ∙ c.requires.port.dims in
    let now : c.index_mut.result.now ≡ get_or xs b no_stack_out = sweep_here _ _ _ _ _ _ _ _ _ within k.posted c.index_mut.ensures.value in
    let log : (g.P.Port.view c.loop-b.port).sent (number n r b) ≡ (g.P.Port.view c.args.port.now).sent (number n r b) = ap (λ (s : Sight). s.log) (k.posted.shown b (omega arith) within) in
    let due : c.index_mut.result.now.due ≡ true → lasts ((g.P.Port.view c.loop-b.port).sent l) ≡ c.args.epoch = λ d.
    ap (λ m. lasts ((g.P.Port.view c.loop-b.port).sent m)) (sym here) ∙ (ap lasts log ∙ c.requires.epoch b within (ap (λ (o : StackOut). o.due) (sym now) ∙ d)) in (
      search rules,
      (
        subst IsGrid (sym dims) (grid_one n some c.requires.port.few),
        (
          ap length dims,
          (
            subst (λ ds. l < links ds) (sym dims) (subst (λ x. x < links (n ∷ [])) here (number_within n r b c.requires.port.within within c.requires.port.few)),
            (
              ap (λ ds. sender_at ds l) dims ∙ (ap (sender_at (n ∷ [])) (sym here) ∙ (number_sender n r b c.requires.port.within within c.requires.port.few ∙ (sym c.requires.port.rank ∙ sym k.left.same_port.rank))),
              (due, law_same _ _ _ _ _ _ _ _ k.left.same_port.dims k.left.same_port.rank refl k.left.same_ins.got k.law),
            ),
          ),
        ),
      ),
    )

pub loop-b-preserved : goal.loop-b-preserved
loop-b-preserved g c =
    let k = c.loop-b.invariant in
    let e = c.post.ensures in
    let xs : List StackOut = c.args.outs.now.items in
    let n : ℕ = length xs in
    let r : ℕ = c.args.rank in
    let b : ℕ = c.loop-b.b in
    let len : c.len-ranks.result ≡ n = omega (arith, c.len-ranks.ensures, c.args.outs.now.ok) in
    let within : b < n = omega (arith, c.loop-b-test.true, c.len-b-end.ensures, c.args.outs.now.ok) in
    let l : ℕ = r * c.len-ranks.result + b in
    let here : number n r b ≡ l = ap (λ m. r * m + b) (sym len) in
    let before : ℕ → Sight = out_sight (g.P.Port.view c.args.port.now) in
    let mid : ℕ → Sight = out_sight (g.P.Port.view c.loop-b.port) in
    let after : ℕ → Sight = out_sight (g.P.Port.view c.post.new.port) in
    let x : StackOut = c.index_mut.result.now in
    let y : StackOut = c.post.new.self in
    let others : (m : ℕ) → m < n → m ≢ b → after (number n r m) ≡ mid (number n r m) = λ m w ne. out_seen l (g.P.Port.view c.loop-b.port) (g.P.Port.view c.post.new.port) e.elsewhere (number n r m) (λ q. out_apart n r b m ne (q ∙ sym here)) in
    let moved : Posted c.args.last c.args.epoch x y (mid (number n r b)) (after (number n r b)) = subst (λ m. Posted c.args.last c.args.epoch x y (mid m) (after m)) (sym here) e.moved in
    let vain : Served x y (mid (number n r b)) (after (number n r b)) = subst (λ m. Served x y (mid m) (after m)) (sym here) (e.still_stuck (search rules)) in
    record {
      posted = sweep_more (Posted c.args.last c.args.epoch) no_stack_out (number n r) b xs c.loop-b.outs.items before mid after x y within k.posted c.index_mut.ensures.value moved others;
      served = sweep_more Served no_stack_out (number n r) b xs c.loop-b.outs.items before mid after x y within k.served c.index_mut.ensures.value vain others;
      calls =
          let now : x ≡ get_or xs b no_stack_out = sweep_here _ _ _ _ _ _ _ _ _ within k.posted c.index_mut.ensures.value in
          swept_more _ _ _ (λ m. (get_or xs m no_stack_out).due) (λ m. (get_or xs m no_stack_out).due) (λ m. Post (number n r m)) b _ _ (λ m less. refl) k.calls c.in_ok-post.ensures.calls (ap (λ (o : StackOut). o.due) now) (ap Post (sym here));
      law = law_same _ _ _ _ _ _ _ _ (sym k.left.same_port.dims) (sym k.left.same_port.rank) refl (sym k.left.same_ins.got) e.law;
      left = record {
        grows = λ m. begins_trans _ _ _ (k.left.grows m) (e.left.grows m);
        same_ins = ins_then k.left.same_ins e.left.same_ins;
        same_port = port_then k.left.same_port e.left.same_port;
      };
    }

pub returns-in_err-post-clause-moved : goal.returns-in_err-post-clause-moved
returns-in_err-post-clause-moved g c =
    let k = c.loop-b.invariant in
    let e = c.post.ensures in
    let xs : List StackOut = c.args.outs.now.items in
    let n : ℕ = length xs in
    let r : ℕ = c.args.rank in
    let b : ℕ = c.loop-b.b in
    let len : c.len-ranks.result ≡ n = omega (arith, c.len-ranks.ensures, c.args.outs.now.ok) in
    let within : b < n = omega (arith, c.loop-b-test.true, c.len-b-end.ensures, c.args.outs.now.ok) in
    let l : ℕ = r * c.len-ranks.result + b in
    let here : number n r b ≡ l = ap (λ m. r * m + b) (sym len) in
    let before : ℕ → Sight = out_sight (g.P.Port.view c.args.port.now) in
    let mid : ℕ → Sight = out_sight (g.P.Port.view c.loop-b.port) in
    let after : ℕ → Sight = out_sight (g.P.Port.view c.post.new.port) in
    let x : StackOut = c.index_mut.result.now in
    let y : StackOut = c.post.new.self in
    let others : (m : ℕ) → m < n → m ≢ b → after (number n r m) ≡ mid (number n r m) = λ m w ne. out_seen l (g.P.Port.view c.loop-b.port) (g.P.Port.view c.post.new.port) e.elsewhere (number n r m) (λ q. out_apart n r b m ne (q ∙ sym here)) in
    let moved : Posted c.args.last c.args.epoch x y (mid (number n r b)) (after (number n r b)) = subst (λ m. Posted c.args.last c.args.epoch x y (mid m) (after m)) (sym here) e.moved in
    sweep_each (Posted c.args.last c.args.epoch) no_stack_out (number n r) (b + 1) xs _ before after (none_posted c.args.last c.args.epoch)
    (sweep_more (Posted c.args.last c.args.epoch) no_stack_out (number n r) b xs c.loop-b.outs.items before mid after x y within k.posted c.index_mut.ensures.value moved others)

pub returns-clause-moved : goal.returns-clause-moved
returns-clause-moved g c = sweep_each (Posted c.args.last c.args.epoch) no_stack_out _ _ _ _ _ _ (none_posted c.args.last c.args.epoch) c.loop-b.invariant.posted

pub returns-clause-still_stuck : goal.returns-clause-still_stuck
returns-clause-still_stuck g c = λ ok b w.
    c.loop-b.invariant.served.done b (omega (arith, w, c.loop-b-test.false, c.len-b-end.ensures, c.args.outs.now.ok)) w

pub returns-clause-calls : goal.returns-clause-calls
returns-clause-calls g c =
    let all : c.loop-b.b ≡ length c.args.outs.now.items = omega (arith, c.loop-b-test.false, c.len-b-end.ensures, c.args.outs.now.ok) in
    c.loop-b.invariant.calls ∙ ap (λ m. (g.P.Port.view c.args.port.now).calls ++ posts_to (length c.args.outs.now.items) c.args.rank c.args.outs.now.items m) all

pub returns-in_err-post-clause-stops : goal.returns-in_err-post-clause-stops
returns-in_err-post-clause-stops g c =
    let k = c.loop-b.invariant in
    let xs : List StackOut = c.args.outs.now.items in
    let n : ℕ = length xs in
    let b : ℕ = c.loop-b.b in
    let within : b < n = omega (arith, c.loop-b-test.true, c.len-b-end.ensures, c.args.outs.now.ok) in
    let y : StackOut = c.post.new.self in
    λ err. record {
      to = b;
      below = within;
      due = ap (λ (o : StackOut). o.due) (get_or-set_same c.loop-b.outs.items b y no_stack_out (omega (arith, within, k.posted.count))) ∙ c.in_err-post.ensures.still_due (search rules);
      calls_are = c.in_err-post.ensures.no_post (search rules) ∙ k.calls;
    }
