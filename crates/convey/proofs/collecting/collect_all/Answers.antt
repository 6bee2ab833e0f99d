use Rattle.std.proofs.Common.{ℕ, ◌≡◌, ◌<◌, ◌++◌, sum, refl, sym, ap, subst, ◌∙◌, arith, rules}
use Rattle.route_tensor.specs.Grid.{ranks, IsGrid}
use Rattle.route_tensor.specs.Link.{links}
use Rattle.route_tensor.specs.Ends.{reader_at}
use Rattle.route_tensor.specs.Neighbour.{link_from, in_index}
use Rattle.route_tensor.proofs.Neighbours.{in_index-link_from}
use Rattle.convey.proofs.Ways.{from_below, from_reader, below_sum, link_here, ready_at, link_at, end_at, collecting_none, collecting_more, collecting_all, collects_first, collects_then}
use Rattle.hop_core.specs.Link.{is_wanted}
use Rattle.std.proofs.lemmas.List.{append-nil}
use Rattle.port_bank.specs.Calls.Call.{Collect}
use Rattle.convey.specs.Buffers.{in_of}
use Rattle.convey.proofs.Asks.{collects_here}
use Rattle.port_bank.proofs.Sweeping.{swept_more}
use Rattle.convey.proofs.Ascending.{all_collects}
use Rattle.convey.proofs.collecting.collect_all.Goals as goal

pub collect_one-requires : goal.collect_one-requires
collect_one-requires g c =
    let dims = (g.P.Port.view c.args.port.now).dims in
    let rank = (g.P.Port.view c.args.port.now).rank in
    let k = c.loop-i.invariant in
    let first = ap (λ t. t.dims) c.routes.ensures ∙ c.requires.ready.same_dims in
    let i : ℕ = c.loop-i.i in
    let below = below_sum dims _ _ _ first c.neighbours-count.ensures.value c.loop-i-test.true in
    let grid : IsGrid dims = subst IsGrid first c.neighbours-count.ensures.grid in
    let own : rank < ranks dims = subst (λ r. r < ranks dims) (ap (λ t. t.rank) c.routes.ensures ∙ c.requires.ready.same_rank) (subst (λ ds. c.routes.result.now.rank < ranks ds) first c.neighbours-count.ensures.rank) in
    let link = c.neighbour-link.result.link_from in
    let here : link ≡ link_from dims rank i = link_here link_from dims _ rank _ _ _ (ap (λ t. t.dims) c.routes-in-loop-i.ensures ∙ k.leaves.ready.same_dims) (ap (λ t. t.rank) c.routes-in-loop-i.ensures ∙ k.leaves.ready.same_rank) (ap (λ n. n.link_from) c.neighbour-link.ensures.value) in
    let at : i ≡ in_index (g.P.Port.view c.loop-i.port).dims link = sym (ap (λ ds. in_index ds link) k.leaves.same_port.dims ∙ (ap (in_index dims) here ∙ in_index-link_from dims rank i grid own below)) in (
      search rules,
      (
        search rules,
        (
          subst (λ ds. link < links ds) (sym k.leaves.same_port.dims) (subst (λ l. l < links dims) (sym here) (from_below dims rank _ grid own below)),
          (
            ap (λ ds. reader_at ds link) k.leaves.same_port.dims ∙ (ap (reader_at dims) here ∙ (from_reader dims rank _ grid own below ∙ sym k.leaves.same_port.rank)),
            (at, (k.empty, ready_at _ _ _ _ _ _ _ (sym k.leaves.same_port.dims) (sym k.leaves.same_port.rank) k.leaves.ready)),
          ),
        ),
      ),
    )

pub loop-i-init : goal.loop-i-init
loop-i-init g c =
    let dims = (g.P.Port.view c.args.port.now).dims in
    let rank = (g.P.Port.view c.args.port.now).rank in
    record {
      empty = c.requires.empty;
      leaves = collects_first c.args.state.now (g.P.Port.view c.args.port.now) c.requires.ready;
      collecting = collecting_none dims rank c.args.state.now _ _ _;
      calls = sym (append-nil (g.P.Port.view c.args.port.now).calls);
    }

pub loop-i-preserved : goal.loop-i-preserved
loop-i-preserved g c =
    let dims = (g.P.Port.view c.args.port.now).dims in
    let rank = (g.P.Port.view c.args.port.now).rank in
    let k = c.loop-i.invariant in
    let e = c.collect_one.ensures in
    let first = ap (λ t. t.dims) c.routes.ensures ∙ c.requires.ready.same_dims in
    let i : ℕ = c.loop-i.i in
    let below = below_sum dims _ _ _ first c.neighbours-count.ensures.value c.loop-i-test.true in
    let grid : IsGrid dims = subst IsGrid first c.neighbours-count.ensures.grid in
    let own : rank < ranks dims = subst (λ r. r < ranks dims) (ap (λ t. t.rank) c.routes.ensures ∙ c.requires.ready.same_rank) (subst (λ ds. c.routes.result.now.rank < ranks ds) first c.neighbours-count.ensures.rank) in
    let here = link_here link_from dims _ rank _ _ _ (ap (λ t. t.dims) c.routes-in-loop-i.ensures ∙ k.leaves.ready.same_dims) (ap (λ t. t.rank) c.routes-in-loop-i.ensures ∙ k.leaves.ready.same_rank) (ap (λ n. n.link_from) c.neighbour-link.ensures.value) in
    record {
      empty = e.empty;
      leaves = collects_then _ _ _ _ _ _ k.leaves e.leaves;
      collecting = collecting_more dims rank _ _ c.args.state.now c.loop-i.state c.collect_one.new.state _ _ _ _ _ _ _ _ grid own below k.collecting here e.asked (record {
        lies = e.lies;
        inbox = λ m h to ne. e.inbox m (link_at dims _ m k.leaves.same_port.dims h) (end_at reader_at dims _ rank _ m k.leaves.same_port.dims k.leaves.same_port.rank to) ne;
        got_stays = e.elsewhere.got;
        noted_stays = e.elsewhere.noted;
        idle_stays = e.elsewhere.idle;
      });
      calls =
          let link = c.neighbour-link.result.link_from in
          let inbox = (k.collecting.to_ask link (subst (λ l. l < links dims) (sym here) (from_below dims rank _ grid own below)) (ap (reader_at dims) here ∙ from_reader dims rank _ grid own below)
          (omega (arith, ap (in_index dims) here, in_index-link_from dims rank i grid own below))).inbox in
          swept_more _ _ _ (λ j. is_wanted (in_of c.args.state.now (link_from dims rank j))) (λ j. is_wanted (in_of c.args.state.now (link_from dims rank j))) (λ j. Collect (link_from dims rank j)) i _ _
          (λ j less. refl) k.calls e.calls (ap is_wanted inbox ∙ ap (λ l. is_wanted (in_of c.args.state.now l)) here) (ap Collect here);
    }

pub returns-clause-asked : goal.returns-clause-asked
returns-clause-asked g c =
    let dims = (g.P.Port.view c.args.port.now).dims in
    let first : c.routes.result.now.dims ≡ dims = ap (λ t. t.dims) c.routes.ensures ∙ c.requires.ready.same_dims in
    let grid : IsGrid dims = subst IsGrid first c.neighbours-count.ensures.grid in
    let all : c.loop-i.i ≡ sum dims = omega (arith, ap sum first, c.neighbours-count.ensures.value) in
    collecting_all _ _ _ _ _ _ _ _ _ _ grid all c.loop-i.invariant.collecting

pub returns-clause-calls : goal.returns-clause-calls
returns-clause-calls g c =
    let dims = (g.P.Port.view c.args.port.now).dims in
    let rank = (g.P.Port.view c.args.port.now).rank in
    let st = c.args.state.now in
    let first : c.routes.result.now.dims ≡ dims = ap (λ t. t.dims) c.routes.ensures ∙ c.requires.ready.same_dims in
    let grid : IsGrid dims = subst IsGrid first c.neighbours-count.ensures.grid in
    let own : rank < ranks dims = subst (λ r. r < ranks dims) (ap (λ t. t.rank) c.routes.ensures ∙ c.requires.ready.same_rank) (subst (λ ds. c.routes.result.now.rank < ranks ds) first c.neighbours-count.ensures.rank) in
    let all : c.loop-i.i ≡ sum dims = omega (arith, ap sum first, c.neighbours-count.ensures.value) in
    c.loop-i.invariant.calls ∙ ap (λ cs. (g.P.Port.view c.args.port.now).calls ++ cs)
    (all_collects dims rank grid own (λ l. is_wanted (in_of st l)) c.loop-i.i all ∙ collects_here dims rank st c.requires.ready.same_dims c.requires.ready.same_rank)
