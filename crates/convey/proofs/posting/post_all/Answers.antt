use Rattle.std.proofs.Common.{◌≡◌, ◌<◌, ◌++◌, sum, sym, ap, subst, ◌∙◌, arith, rules}
use Rattle.route_tensor.specs.Grid.{ranks, IsGrid}
use Rattle.route_tensor.specs.Link.{links}
use Rattle.route_tensor.specs.Ends.{sender_at}
use Rattle.route_tensor.specs.Neighbour.{link_to, out_index}
use Rattle.route_tensor.proofs.Neighbours.{out_index-link_to}
use Rattle.convey.proofs.Ways.{to_below, to_sender, below_sum, link_here, ready_at, link_at, end_at, waits_more, posted_more, serving_none, serving_more, serving_all, posts_first, posts_then}
use Rattle.std.proofs.lemmas.List.{append-nil}
use Rattle.convey.specs.Due.{was_served, posts_below}
use Rattle.port_bank.specs.Calls.{once_if}
use Rattle.port_bank.specs.Calls.Call.{Post}
use Rattle.convey.proofs.Asks.{served_before, posts_here}
use Rattle.port_bank.proofs.Sweeping.{swept_same, swept_more}
use Rattle.convey.proofs.Ascending.{all_posts, posts_before}
use Rattle.convey.proofs.posting.post_all.Goals as goal

pub post_one-requires : goal.post_one-requires
post_one-requires g c =
    let dims = (g.P.Port.view c.args.port.now).dims in
    let rank = (g.P.Port.view c.args.port.now).rank in
    let k = c.loop-i.invariant in
    let first = ap (λ t. t.dims) c.routes.ensures ∙ c.requires.ready.same_dims in
    let below = below_sum dims _ _ _ first c.neighbours-i-end.ensures.value c.loop-i-test.true in
    let grid : IsGrid dims = subst IsGrid first c.neighbours-i-end.ensures.grid in
    let own : rank < ranks dims = subst (λ r. r < ranks dims) (ap (λ t. t.rank) c.routes.ensures ∙ c.requires.ready.same_rank) (subst (λ ds. c.routes.result.now.rank < ranks ds) first c.neighbours-i-end.ensures.rank) in
    let link = c.neighbour-link.result.link_to in
    let here : link ≡ link_to dims rank c.loop-i.i = link_here link_to dims _ rank _ _ _ (ap (λ t. t.dims) c.routes-in-loop-i.ensures ∙ k.leaves.ready.same_dims) (ap (λ t. t.rank) c.routes-in-loop-i.ensures ∙ k.leaves.ready.same_rank) (ap (λ n. n.link_to) c.neighbour-link.ensures.value) in
    let at : c.loop-i.i ≡ out_index (g.P.Port.view c.loop-i.port).dims link = sym (ap (λ ds. out_index ds link) k.leaves.same_port.dims ∙ (ap (out_index dims) here ∙ out_index-link_to dims rank c.loop-i.i grid own below)) in (
      search rules,
      (
        search rules,
        (
          subst (λ ds. link < links ds) (sym k.leaves.same_port.dims) (subst (λ l. l < links dims) (sym here) (to_below dims rank _ grid own below)),
          (
            ap (λ ds. sender_at ds link) k.leaves.same_port.dims ∙ (ap (sender_at dims) here ∙ (to_sender dims rank _ grid own below ∙ sym k.leaves.same_port.rank)),
            (at, (k.empty, ready_at _ _ _ _ _ _ _ (sym k.leaves.same_port.dims) (sym k.leaves.same_port.rank) k.leaves.ready)),
          ),
        ),
      ),
    )

pub returns-in_err-post_one-clause-waits : goal.returns-in_err-post_one-clause-waits
returns-in_err-post_one-clause-waits g c =
    let dims = (g.P.Port.view c.args.port.now).dims in
    let rank = (g.P.Port.view c.args.port.now).rank in
    let k = c.loop-i.invariant in
    let first = ap (λ t. t.dims) c.routes.ensures ∙ c.requires.ready.same_dims in
    let below = below_sum dims _ _ _ first c.neighbours-i-end.ensures.value c.loop-i-test.true in
    let grid : IsGrid dims = subst IsGrid first c.neighbours-i-end.ensures.grid in
    let own : rank < ranks dims = subst (λ r. r < ranks dims) (ap (λ t. t.rank) c.routes.ensures ∙ c.requires.ready.same_rank) (subst (λ ds. c.routes.result.now.rank < ranks ds) first c.neighbours-i-end.ensures.rank) in
    let link = c.neighbour-link.result.link_to in
    let here : link ≡ link_to dims rank c.loop-i.i = link_here link_to dims _ rank _ _ _ (ap (λ t. t.dims) c.routes-in-loop-i.ensures ∙ k.leaves.ready.same_dims) (ap (λ t. t.rank) c.routes-in-loop-i.ensures ∙ k.leaves.ready.same_rank) (ap (λ n. n.link_to) c.neighbour-link.ensures.value) in
    let e = c.post_one.ensures in
    let new = ready_at dims _ rank _ _ _ _ k.leaves.same_port.dims k.leaves.same_port.rank e.leaves.ready in
    waits_more dims rank _ _ c.args.state.now c.loop-i.state c.post_one.new.state _ _ _ _ _ _ _ _ grid own below k.serving k.leaves.goes_on.sent_grows e.leaves.goes_on.sent_grows here (record {
      out = λ m h from ne. e.out m (link_at dims _ m k.leaves.same_port.dims h) (end_at sender_at dims _ rank _ m k.leaves.same_port.dims k.leaves.same_port.rank from) ne;
      waits = e.waits;
      posted = e.posted;
      sent_stays = e.elsewhere.sent;
      looks_stays = e.elsewhere.looks_out;
      crowded_stays = e.elsewhere.crowded;
      same_dims = new.same_dims ∙ sym k.leaves.ready.same_dims;
      ins = e.leaves.ins;
      done = e.leaves.goes_on.done;
      cap = e.leaves.goes_on.cap;
      steady = e.leaves.goes_on.steady;
    })

pub returns-in_err-post_one-clause-posted : goal.returns-in_err-post_one-clause-posted
returns-in_err-post_one-clause-posted g c =
    let dims = (g.P.Port.view c.args.port.now).dims in
    let rank = (g.P.Port.view c.args.port.now).rank in
    let k = c.loop-i.invariant in
    let first = ap (λ t. t.dims) c.routes.ensures ∙ c.requires.ready.same_dims in
    let below = below_sum dims _ _ _ first c.neighbours-i-end.ensures.value c.loop-i-test.true in
    let grid : IsGrid dims = subst IsGrid first c.neighbours-i-end.ensures.grid in
    let own : rank < ranks dims = subst (λ r. r < ranks dims) (ap (λ t. t.rank) c.routes.ensures ∙ c.requires.ready.same_rank) (subst (λ ds. c.routes.result.now.rank < ranks ds) first c.neighbours-i-end.ensures.rank) in
    let link = c.neighbour-link.result.link_to in
    let here : link ≡ link_to dims rank c.loop-i.i = link_here link_to dims _ rank _ _ _ (ap (λ t. t.dims) c.routes-in-loop-i.ensures ∙ k.leaves.ready.same_dims) (ap (λ t. t.rank) c.routes-in-loop-i.ensures ∙ k.leaves.ready.same_rank) (ap (λ n. n.link_to) c.neighbour-link.ensures.value) in
    let e = c.post_one.ensures in
    let new = ready_at dims _ rank _ _ _ _ k.leaves.same_port.dims k.leaves.same_port.rank e.leaves.ready in
    posted_more dims rank _ _ c.args.state.now c.loop-i.state c.post_one.new.state _ _ _ _ _ _ _ _ grid own below k.serving k.leaves.goes_on.sent_grows e.leaves.goes_on.sent_grows here (record {
      out = λ m h from ne. e.out m (link_at dims _ m k.leaves.same_port.dims h) (end_at sender_at dims _ rank _ m k.leaves.same_port.dims k.leaves.same_port.rank from) ne;
      waits = e.waits;
      posted = e.posted;
      sent_stays = e.elsewhere.sent;
      looks_stays = e.elsewhere.looks_out;
      crowded_stays = e.elsewhere.crowded;
      same_dims = new.same_dims ∙ sym k.leaves.ready.same_dims;
      ins = e.leaves.ins;
      done = e.leaves.goes_on.done;
      cap = e.leaves.goes_on.cap;
      steady = e.leaves.goes_on.steady;
    })

pub returns-in_err-post_one-clause-leaves : goal.returns-in_err-post_one-clause-leaves
returns-in_err-post_one-clause-leaves g c = posts_then _ _ _ _ _ _ c.loop-i.invariant.leaves c.post_one.ensures.leaves

pub loop-i-init : goal.loop-i-init
loop-i-init g c =
    let dims = (g.P.Port.view c.args.port.now).dims in
    let rank = (g.P.Port.view c.args.port.now).rank in
    record {
      empty = c.requires.empty;
      leaves = posts_first c.args.state.now (g.P.Port.view c.args.port.now) c.requires.ready;
      serving = serving_none dims rank c.args.state.now _ _ _;
      calls = sym (append-nil (g.P.Port.view c.args.port.now).calls);
    }

pub loop-i-preserved : goal.loop-i-preserved
loop-i-preserved g c =
    let dims = (g.P.Port.view c.args.port.now).dims in
    let rank = (g.P.Port.view c.args.port.now).rank in
    let k = c.loop-i.invariant in
    let first = ap (λ t. t.dims) c.routes.ensures ∙ c.requires.ready.same_dims in
    let below = below_sum dims _ _ _ first c.neighbours-i-end.ensures.value c.loop-i-test.true in
    let grid : IsGrid dims = subst IsGrid first c.neighbours-i-end.ensures.grid in
    let own : rank < ranks dims = subst (λ r. r < ranks dims) (ap (λ t. t.rank) c.routes.ensures ∙ c.requires.ready.same_rank) (subst (λ ds. c.routes.result.now.rank < ranks ds) first c.neighbours-i-end.ensures.rank) in
    let link = c.neighbour-link.result.link_to in
    let here : link ≡ link_to dims rank c.loop-i.i = link_here link_to dims _ rank _ _ _ (ap (λ t. t.dims) c.routes-in-loop-i.ensures ∙ k.leaves.ready.same_dims) (ap (λ t. t.rank) c.routes-in-loop-i.ensures ∙ k.leaves.ready.same_rank) (ap (λ n. n.link_to) c.neighbour-link.ensures.value) in
    let e = c.post_one.ensures in
    let new = ready_at dims _ rank _ _ _ _ k.leaves.same_port.dims k.leaves.same_port.rank e.leaves.ready in
    record {
      empty = e.empty;
      leaves = posts_then _ _ _ _ _ _ k.leaves e.leaves;
      serving = serving_more dims rank _ _ c.args.state.now c.loop-i.state c.post_one.new.state _ _ _ _ _ _ _ _ grid own below k.serving k.leaves.goes_on.sent_grows e.leaves.goes_on.sent_grows here (record {
        out = λ m h from ne. e.out m (link_at dims _ m k.leaves.same_port.dims h) (end_at sender_at dims _ rank _ m k.leaves.same_port.dims k.leaves.same_port.rank from) ne;
        waits = e.waits;
        posted = e.posted;
        sent_stays = e.elsewhere.sent;
        looks_stays = e.elsewhere.looks_out;
        crowded_stays = e.elsewhere.crowded;
        same_dims = new.same_dims ∙ sym k.leaves.ready.same_dims;
        ins = e.leaves.ins;
        done = e.leaves.goes_on.done;
        cap = e.leaves.goes_on.cap;
        steady = e.leaves.goes_on.steady;
      }) c.in_ok-post_one.ensures.served;
      calls =
          let sent = (g.P.Port.view c.args.port.now).sent in
          let sent'' = (g.P.Port.view c.post_one.new.port).sent in
          let log = k.serving.to_post link (subst (λ l. l < links dims) (sym here) (to_below dims rank _ grid own below)) (ap (sender_at dims) here ∙ to_sender dims rank _ grid own below)
          (omega (arith, ap (out_index dims) here, out_index-link_to dims rank c.loop-i.i grid own below)) in
          swept_more _ _ _ (λ j. was_served c.loop-i.state (link_to dims rank j) (sent (link_to dims rank j)) ((g.P.Port.view c.loop-i.port).sent (link_to dims rank j)))
          (λ j. was_served c.post_one.new.state (link_to dims rank j) (sent (link_to dims rank j)) (sent'' (link_to dims rank j))) (λ j. Post (link_to dims rank j)) c.loop-i.i _ _
          (served_before dims rank c.loop-i.i link c.loop-i.state c.post_one.new.state sent _ _ grid own below here (new.same_dims ∙ sym k.leaves.ready.same_dims) e.leaves.ins e.leaves.goes_on.done e.leaves.goes_on.cap e.leaves.goes_on.steady
          (λ m h from ne. e.out m (link_at dims _ m k.leaves.same_port.dims h) (end_at sender_at dims _ rank _ m k.leaves.same_port.dims k.leaves.same_port.rank from) ne) e.elsewhere.sent)
          k.calls
          (c.in_ok-post_one.ensures.calls ∙ ap (λ xs. (g.P.Port.view c.loop-i.port).calls ++ once_if (was_served c.post_one.new.state link xs (sent'' link)) (Post link)) log)
          (ap (λ l. was_served c.post_one.new.state l (sent l) (sent'' l)) here) (ap Post here);
    }

pub returns-clause-served : goal.returns-clause-served
returns-clause-served g c =
    let dims = (g.P.Port.view c.args.port.now).dims in
    let k = c.loop-i.invariant in
    let first : c.routes.result.now.dims ≡ dims = ap (λ t. t.dims) c.routes.ensures ∙ c.requires.ready.same_dims in
    let grid : IsGrid dims = subst IsGrid first c.neighbours-i-end.ensures.grid in
    let all : c.loop-i.i ≡ sum dims = omega (arith, ap sum first, c.neighbours-i-end.ensures.value) in
    serving_all _ _ _ _ _ _ _ _ _ _ grid all k.serving

pub returns-clause-calls : goal.returns-clause-calls
returns-clause-calls g c =
    let dims = (g.P.Port.view c.args.port.now).dims in
    let rank = (g.P.Port.view c.args.port.now).rank in
    let k = c.loop-i.invariant in
    let st = c.loop-i.state in
    let first : c.routes.result.now.dims ≡ dims = ap (λ t. t.dims) c.routes.ensures ∙ c.requires.ready.same_dims in
    let grid : IsGrid dims = subst IsGrid first c.neighbours-i-end.ensures.grid in
    let own : rank < ranks dims = subst (λ r. r < ranks dims) (ap (λ t. t.rank) c.routes.ensures ∙ c.requires.ready.same_rank) (subst (λ ds. c.routes.result.now.rank < ranks ds) first c.neighbours-i-end.ensures.rank) in
    let all : c.loop-i.i ≡ sum dims = omega (arith, ap sum first, c.neighbours-i-end.ensures.value) in
    let sent = (g.P.Port.view c.args.port.now).sent in
    let sent' = (g.P.Port.view c.loop-i.port).sent in
    let calls = (g.P.Port.view c.args.port.now).calls in
    k.calls ∙ ap (λ cs. calls ++ cs)
    (all_posts dims rank grid own (λ l. was_served st l (sent l) (sent' l)) c.loop-i.i all ∙ posts_here dims rank (links dims) st sent sent' k.leaves.ready.same_dims k.leaves.ready.same_rank)
    ∙ ap (λ ds. calls ++ posts_below st sent sent' (links ds)) (sym k.leaves.ready.same_dims)

pub returns-in_err-post_one-clause-stops : goal.returns-in_err-post_one-clause-stops
returns-in_err-post_one-clause-stops g c =
    let dims = (g.P.Port.view c.args.port.now).dims in
    let rank = (g.P.Port.view c.args.port.now).rank in
    let k = c.loop-i.invariant in
    let first = ap (λ t. t.dims) c.routes.ensures ∙ c.requires.ready.same_dims in
    let below = below_sum dims _ _ _ first c.neighbours-i-end.ensures.value c.loop-i-test.true in
    let grid : IsGrid dims = subst IsGrid first c.neighbours-i-end.ensures.grid in
    let own : rank < ranks dims = subst (λ r. r < ranks dims) (ap (λ t. t.rank) c.routes.ensures ∙ c.requires.ready.same_rank) (subst (λ ds. c.routes.result.now.rank < ranks ds) first c.neighbours-i-end.ensures.rank) in
    let link = c.neighbour-link.result.link_to in
    let here : link ≡ link_to dims rank c.loop-i.i = link_here link_to dims _ rank _ _ _ (ap (λ t. t.dims) c.routes-in-loop-i.ensures ∙ k.leaves.ready.same_dims) (ap (λ t. t.rank) c.routes-in-loop-i.ensures ∙ k.leaves.ready.same_rank) (ap (λ n. n.link_to) c.neighbour-link.ensures.value) in
    let e = c.post_one.ensures in
    let new = ready_at dims _ rank _ _ _ _ k.leaves.same_port.dims k.leaves.same_port.rank e.leaves.ready in
    let st = c.post_one.new.state in
    λ err. record {
      link = link;
      below = subst (λ ds. link < links ds) (sym new.same_dims) (subst (λ l. l < links dims) (sym here) (to_below dims rank _ grid own below));
      starts_here = ap (λ ds. sender_at ds link) new.same_dims ∙ (ap (sender_at dims) here ∙ (to_sender dims rank _ grid own below ∙ sym new.same_rank));
      due = c.in_err-post_one.ensures.still_due (search rules);
      calls_are =
          let sent = (g.P.Port.view c.args.port.now).sent in
          let sent' = (g.P.Port.view c.loop-i.port).sent in
          let sent'' = (g.P.Port.view c.post_one.new.port).sent in
          let calls = (g.P.Port.view c.args.port.now).calls in
          let before = swept_same (λ j. was_served c.loop-i.state (link_to dims rank j) (sent (link_to dims rank j)) (sent' (link_to dims rank j)))
          (λ j. was_served st (link_to dims rank j) (sent (link_to dims rank j)) (sent'' (link_to dims rank j))) (λ j. Post (link_to dims rank j)) c.loop-i.i
          (served_before dims rank c.loop-i.i link c.loop-i.state st sent sent' sent'' grid own below here (new.same_dims ∙ sym k.leaves.ready.same_dims) e.leaves.ins e.leaves.goes_on.done e.leaves.goes_on.cap e.leaves.goes_on.steady
          (λ m h from ne. e.out m (link_at dims _ m k.leaves.same_port.dims h) (end_at sender_at dims _ rank _ m k.leaves.same_port.dims k.leaves.same_port.rank from) ne) e.elsewhere.sent) in
          c.in_err-post_one.ensures.no_post (search rules) ∙ k.calls ∙ ap (λ cs. calls ++ cs)
          (sym before ∙ posts_before dims rank grid own (λ l. was_served st l (sent l) (sent'' l)) c.loop-i.i below ∙ posts_here dims rank (link_to dims rank c.loop-i.i) st sent sent'' new.same_dims new.same_rank)
          ∙ ap (λ l. calls ++ posts_below st sent sent'' l) (sym here);
    }
