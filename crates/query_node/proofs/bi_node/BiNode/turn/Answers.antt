use Rattle.std.proofs.Common.{rules, ◌≡◌, ◌==◌, ℕ, length, refl, sym, ap, subst, ◌∙◌}
use Rattle.std.specs.Prelude.{is_ok, IfSome}
use Rattle.list_laws.proofs.Results.{on_ok_from}
use Rattle.hop_core.specs.State.{State}
use Rattle.convey.specs.Buffers.{is_complete}
use Rattle.round_program.specs.Replies.{asks_of}
use Rattle.query_node.specs.Taking.{PushesQueries, AnswersQueries, RefusesAnswer}
use Rattle.rank_node.specs.Movers.{AllRead}
use Rattle.query_node.specs.States.{BiState, IsBiNode}
use Rattle.query_node.specs.Turns.{IsOverPorts, TurnsBoth, known_of_ports, IsStuckIfStill}
use Rattle.query_node.proofs.Turned.{advances_of, was_served, has_completed, same_asks, count_is, asked_count, receivers, low, all_pushed, begun1, agrees1, stays_done, dims2, open2, answers2, epoch2, pulled2, begun3, agrees3, over3, halfway, first4, heard4, turned}
use Rattle.rank_node.proofs.Halted.{Advanced}
use Rattle.query_node.proofs.Stopped.{complete_from, advances_once, read_or, stuck}
use Rattle.query_node.specs.Moments.{sides_of_ports}
use Rattle.query_node.proofs.Moments.{own_at}
use Rattle.query_node.proofs.bi_node.BiNode.turn.Goals as goal
use Rattle.port_bank.specs.Port.{is_crowded, is_idle}

pub push_queries-self-inside-requires : goal.push_queries-self-inside-requires
push_queries-self-inside-requires g c =
    let T = g.A.Asker.talk in
    let laws = g.met.A.Asker.laws in
    let inside : BiState g.row.A.Denot = record { asker = c.self.inside.asker.value; next = c.self.inside.next; lines = c.self.inside.lines.items; queries = c.self.inside.queries; replies = c.self.inside.replies } in
    let qs = (g.P.Port.view c.args.queries.now).sent in
    let qg = (g.P.Port.view c.args.queries.now).got in
    let rs = (g.R.Port.view c.args.replies.now).sent in
    let rg = (g.R.Port.view c.args.replies.now).got in
    let start = c.requires.turns.start in
    let is : IsBiNode T start inside qs qg rs rg = subst (λ (m : BiState g.row.A.Denot). IsBiNode T start m qs qg rs rg) (sym c.self.view_is) c.requires.turns.node in
    (search rules, (low T laws start inside qs qg rs rg is, (receivers T laws start inside qs qg rs rg is, (is.asks.working, all_pushed T laws start inside qs qg rs rg is))))

pub advance-asked-requires : goal.advance-asked-requires
advance-asked-requires g c =
    let T = g.A.Asker.talk in
    let laws = g.met.A.Asker.laws in
    let inside : BiState g.row.A.Denot = record { asker = c.self.inside.asker.value; next = c.self.inside.next; lines = c.self.inside.lines.items; queries = c.self.inside.queries; replies = c.self.inside.replies } in
    let qs = (g.P.Port.view c.args.queries.now).sent in
    let qg = (g.P.Port.view c.args.queries.now).got in
    let rs = (g.R.Port.view c.args.replies.now).sent in
    let rg = (g.R.Port.view c.args.replies.now).got in
    let start = c.requires.turns.start in
    let is : IsBiNode T start inside qs qg rs rg = subst (λ (m : BiState g.row.A.Denot). IsBiNode T start m qs qg rs rg) (sym c.self.view_is) c.requires.turns.node in
    let q1 = c.push_queries-self-inside.new.conveyor in
    let next = c.push_queries-self-inside.result in
    let count = c.count.result in
    let push : PushesQueries (asks_of T inside.asker) g.row.CAP inside.next next inside.queries q1 = c.push_queries-self-inside.ensures in
    let counted = c.count.ensures ∙ ap (λ s. length (T.queries s)) c.deref.ensures in
    let e = ap (λ (m : BiState g.row.A.Denot). m.queries) c.self.view_is in (
      search rules,
      record {
        begun = begun1 T laws start inside qs qg rs rg is g.row.CAP next count q1 push counted;
        at_port = record { same_dims = c.requires.turns.queries.same_dims ∙ (sym (ap (λ (t : State). t.dims) e) ∙ sym (ap (λ (t : State). t.dims) push.same)); same_rank = c.requires.turns.queries.same_rank ∙ (sym (ap (λ (t : State). t.rank) e) ∙ sym (ap (λ (t : State). t.rank) push.same)); agrees = agrees1 T laws start inside qs qg rs rg is g.row.CAP next count q1 push counted };
        done_stays = stays_done T laws start inside qs qg rs rg is g.row.CAP next count q1 push counted;
      },
    )

pub answer_open-refused-requires : goal.answer_open-refused-requires
answer_open-refused-requires g c =
    let T = g.A.Asker.talk in
    let laws = g.met.A.Asker.laws in
    let inside : BiState g.row.A.Denot = record { asker = c.self.inside.asker.value; next = c.self.inside.next; lines = c.self.inside.lines.items; queries = c.self.inside.queries; replies = c.self.inside.replies } in
    let qs = (g.P.Port.view c.args.queries.now).sent in
    let qg = (g.P.Port.view c.args.queries.now).got in
    let rs = (g.R.Port.view c.args.replies.now).sent in
    let rg = (g.R.Port.view c.args.replies.now).got in
    let start = c.requires.turns.start in
    let is : IsBiNode T start inside qs qg rs rg = subst (λ (m : BiState g.row.A.Denot). IsBiNode T start m qs qg rs rg) (sym c.self.view_is) c.requires.turns.node in
    let q1 = c.push_queries-self-inside.new.conveyor in
    let next = c.push_queries-self-inside.result in
    let count = c.count.result in
    let push : PushesQueries (asks_of T inside.asker) g.row.CAP inside.next next inside.queries q1 = c.push_queries-self-inside.ensures in
    let counted = c.count.ensures ∙ ap (λ s. length (T.queries s)) c.deref.ensures in
    let q2 = c.advance-asked.new.self in
    let qs' = (g.P.Port.view c.advance-asked.new.port).sent in
    let qg' = (g.P.Port.view c.advance-asked.new.port).got in
    let adv = advances_of g.row.CAP c.advance-asked.result q1 q2 (next == count) (g.P.Port.view c.args.queries.now) (g.P.Port.view c.advance-asked.new.port) c.advance-asked.ensures.advances c.advance-asked.ensures.settled c.advance-asked.ensures.stops in (
      search rules,
      λ going. record {
        begun = adv.begun;
        same_dims = dims2 T laws start inside qs qg rs rg is g.row.CAP next count q1 push counted q2 qs' qg' adv;
        working = answers2 T laws start inside qs qg rs rg is g.row.CAP next count q1 push counted q2 qs' qg' adv going;
        not_done = open2 T laws start inside qs qg rs rg is g.row.CAP next count q1 push counted q2 qs' qg' adv going;
      },
    )

pub advance-replied-requires : goal.advance-replied-requires
advance-replied-requires g c =
    let T = g.A.Asker.talk in
    let laws = g.met.A.Asker.laws in
    let inside : BiState g.row.A.Denot = record { asker = c.self.inside.asker.value; next = c.self.inside.next; lines = c.self.inside.lines.items; queries = c.self.inside.queries; replies = c.self.inside.replies } in
    let qs = (g.P.Port.view c.args.queries.now).sent in
    let qg = (g.P.Port.view c.args.queries.now).got in
    let rs = (g.R.Port.view c.args.replies.now).sent in
    let rg = (g.R.Port.view c.args.replies.now).got in
    let start = c.requires.turns.start in
    let is : IsBiNode T start inside qs qg rs rg = subst (λ (m : BiState g.row.A.Denot). IsBiNode T start m qs qg rs rg) (sym c.self.view_is) c.requires.turns.node in
    let q1 = c.push_queries-self-inside.new.conveyor in
    let next = c.push_queries-self-inside.result in
    let count = c.count.result in
    let push : PushesQueries (asks_of T inside.asker) g.row.CAP inside.next next inside.queries q1 = c.push_queries-self-inside.ensures in
    let counted = c.count.ensures ∙ ap (λ s. length (T.queries s)) c.deref.ensures in
    let q2 = c.advance-asked.new.self in
    let qs' = (g.P.Port.view c.advance-asked.new.port).sent in
    let qg' = (g.P.Port.view c.advance-asked.new.port).got in
    let adv = advances_of g.row.CAP c.advance-asked.result q1 q2 (next == count) (g.P.Port.view c.args.queries.now) (g.P.Port.view c.advance-asked.new.port) c.advance-asked.ensures.advances c.advance-asked.ensures.settled c.advance-asked.ensures.stops in
    let q3 = c.answer_open-refused.new.queries in
    let r1 = c.answer_open-refused.new.replies in
    let ans : AnswersQueries T inside.asker q2 q3 inside.replies r1 = c.answer_open-refused.ensures.answers in
    let over = c.is_over-over.result in
    let is_over : over ≡ is_complete q3.phase = c.is_over-over.ensures ∙ ap is_complete c.phase.ensures.value in
    let e = ap (λ (m : BiState g.row.A.Denot). m.replies) c.self.view_is in (
      search rules,
      record {
        begun = begun3 T laws start inside qs qg rs rg is g.row.CAP next count q1 push counted q2 qs' qg' adv q3 r1 ans;
        at_port = record { same_dims = c.requires.turns.replies.same_dims ∙ (sym (ap (λ (t : State). t.dims) e) ∙ sym (ap (λ (t : State). t.dims) ans.same_replies)); same_rank = c.requires.turns.replies.same_rank ∙ (sym (ap (λ (t : State). t.rank) e) ∙ sym (ap (λ (t : State). t.rank) ans.same_replies)); agrees = agrees3 T laws start inside qs qg rs rg is g.row.CAP next count q1 push counted q2 qs' qg' adv q3 r1 ans };
        done_stays = over3 T laws start inside qs qg rs rg is g.row.CAP next count q1 push counted q2 qs' qg' adv q3 r1 ans over is_over;
      },
    )

pub hear_all-requires : goal.hear_all-requires
hear_all-requires g c =
    let T = g.A.Asker.talk in
    let laws = g.met.A.Asker.laws in
    let inside : BiState g.row.A.Denot = record { asker = c.self.inside.asker.value; next = c.self.inside.next; lines = c.self.inside.lines.items; queries = c.self.inside.queries; replies = c.self.inside.replies } in
    let qs = (g.P.Port.view c.args.queries.now).sent in
    let qg = (g.P.Port.view c.args.queries.now).got in
    let rs = (g.R.Port.view c.args.replies.now).sent in
    let rg = (g.R.Port.view c.args.replies.now).got in
    let start = c.requires.turns.start in
    let is : IsBiNode T start inside qs qg rs rg = subst (λ (m : BiState g.row.A.Denot). IsBiNode T start m qs qg rs rg) (sym c.self.view_is) c.requires.turns.node in
    let q1 = c.push_queries-self-inside.new.conveyor in
    let next = c.push_queries-self-inside.result in
    let count = c.count.result in
    let push : PushesQueries (asks_of T inside.asker) g.row.CAP inside.next next inside.queries q1 = c.push_queries-self-inside.ensures in
    let counted = c.count.ensures ∙ ap (λ s. length (T.queries s)) c.deref.ensures in
    let q2 = c.advance-asked.new.self in
    let qs' = (g.P.Port.view c.advance-asked.new.port).sent in
    let qg' = (g.P.Port.view c.advance-asked.new.port).got in
    let adv = advances_of g.row.CAP c.advance-asked.result q1 q2 (next == count) (g.P.Port.view c.args.queries.now) (g.P.Port.view c.advance-asked.new.port) c.advance-asked.ensures.advances c.advance-asked.ensures.settled c.advance-asked.ensures.stops in
    let q3 = c.answer_open-refused.new.queries in
    let r1 = c.answer_open-refused.new.replies in
    let ans : AnswersQueries T inside.asker q2 q3 inside.replies r1 = c.answer_open-refused.ensures.answers in
    let over = c.is_over-over.result in
    let is_over : over ≡ is_complete q3.phase = c.is_over-over.ensures ∙ ap is_complete c.phase.ensures.value in
    let r2 = c.advance-replied.new.self in
    let rs' = (g.R.Port.view c.advance-replied.new.port).sent in
    let rg' = (g.R.Port.view c.advance-replied.new.port).got in
    let adv' = advances_of g.row.CAP c.advance-replied.result r1 r2 (over) (g.R.Port.view c.args.replies.now) (g.R.Port.view c.advance-replied.new.port) c.advance-replied.ensures.advances c.advance-replied.ensures.settled c.advance-replied.ensures.stops in
    (search rules, record { begun = adv'.begun; first = first4 T laws start inside qs qg rs rg is g.row.CAP next count q1 push counted q2 qs' qg' adv q3 r1 ans over is_over r2 rs' rg' adv'; heard = (start, rs', rg', adv'.agrees, heard4 T laws start inside qs qg rs rg is g.row.CAP next count q1 push counted q2 qs' qg' adv q3 r1 ans over is_over r2 rs' rg' adv') })

pub returns-clause-turns : goal.returns-clause-turns
returns-clause-turns g c =
    let T = g.A.Asker.talk in
    let laws = g.met.A.Asker.laws in
    let inside : BiState g.row.A.Denot = record { asker = c.self.inside.asker.value; next = c.self.inside.next; lines = c.self.inside.lines.items; queries = c.self.inside.queries; replies = c.self.inside.replies } in
    let q = g.P.Port.view c.args.queries.now in
    let r = g.R.Port.view c.args.replies.now in
    let q' = g.P.Port.view c.advance-asked.new.port in
    let r' = g.R.Port.view c.advance-replied.new.port in
    let q1 = c.push_queries-self-inside.new.conveyor in
    let next = c.push_queries-self-inside.result in
    let count = c.count.result in
    let push : PushesQueries (asks_of T inside.asker) g.row.CAP inside.next next inside.queries q1 = c.push_queries-self-inside.ensures in
    let counted = c.count.ensures ∙ ap (λ s. length (T.queries s)) c.deref.ensures in
    let q2 = c.advance-asked.new.self in
    let adv = advances_of g.row.CAP c.advance-asked.result q1 q2 (next == count) q q' c.advance-asked.ensures.advances c.advance-asked.ensures.settled c.advance-asked.ensures.stops in
    let q3 = c.answer_open-refused.new.queries in
    let r1 = c.answer_open-refused.new.replies in
    let ans : AnswersQueries T inside.asker q2 q3 inside.replies r1 = c.answer_open-refused.ensures.answers in
    let over = c.is_over-over.result in
    let is_over : over ≡ is_complete q3.phase = c.is_over-over.ensures ∙ ap is_complete c.phase.ensures.value in
    let r2 = c.advance-replied.new.self in
    let adv' = advances_of g.row.CAP c.advance-replied.result r1 r2 over r r' c.advance-replied.ensures.advances c.advance-replied.ensures.settled c.advance-replied.ensures.stops in
    let n' : BiState g.row.A.Denot = record { asker = c.hear_all.new.asker.value; next = next; lines = c.hear_all.new.lines.items; queries = q3; replies = c.hear_all.new.replies } in
    let start = c.requires.turns.start in
    let is : IsOverPorts T start inside q r = subst (λ (m : BiState g.row.A.Denot). IsOverPorts T start m q r) (sym c.self.view_is) c.requires.turns.node in
    let kept : (s : g.row.A.Denot) → IsOverPorts T s inside q r → IsOverPorts T s n' q' r' =
    λ s was. turned T laws s inside q.sent q.got r.sent r.got was g.row.CAP next count q1 push counted q2 q'.sent q'.got adv q3 r1 ans over is_over r2 r'.sent r'.got adv' c.hear_all.new.replies c.hear_all.new.asker.value c.hear_all.new.lines.items
    c.hear_all.ensures.hears c.hear_all.ensures.read c.phase.ensures.stands.sound c.known-2.ensures.sound in
    let dims = ap (λ (t : State). t.dims) ans.same ∙ (adv.dims ∙ ap (λ (t : State). t.dims) push.same) in
    let rank = ap (λ (t : State). t.rank) ans.same ∙ (adv.rank ∙ ap (λ (t : State). t.rank) push.same) in
    let asked = c.advance-asked.ensures.advances in
    let replied = c.advance-replied.ensures.advances in
    let hears = c.hear_all.ensures.hears in
    subst (λ (m : BiState g.row.A.Denot). TurnsBoth g.row.CAP T m n' q q' r r') c.self.view_is
    (record {
      kept = kept;
      between = (
        record { asker = inside.asker; next = next; lines = inside.lines; queries = q2; replies = inside.replies },
        λ s was. halfway T laws s inside q.sent q.got r.sent r.got was g.row.CAP next count q1 push counted q2 q'.sent q'.got adv c.known.ensures.sound,
      );
      moments = λ s now was m. own_at T s inside.queries.dims inside.queries.rank inside n' (sides_of_ports q r) (sides_of_ports q' r') now (record { same_dims = refl; same_rank = refl; node = was }) (record { same_dims = dims; same_rank = rank; node = kept s was }) m;
      unasked = record { at_push = q1; fits = asked.fits; pushes = push };
      unanswered = record {
        at_pull = q2;
        agrees = adv.agrees;
        epoch = epoch2 T laws start inside q.sent q.got r.sent r.got is g.row.CAP next count q1 push counted q2 q'.sent q'.got adv;
        pulled = pulled2 T laws start inside q.sent q.got r.sent r.got is g.row.CAP next count q1 push counted q2 q'.sent q'.got adv;
        at_push = r1;
        fits = replied.fits;
        answers = ans;
        all = read_or c.answer_open-refused.result (AllRead q3) ((to : ℕ) × RefusesAnswer g.row.CAP to q3 r1) c.answer_open-refused.ensures.read
            (λ to is. (to, subst (λ o. IfSome o (λ to. RefusesAnswer g.row.CAP to q3 r1)) is c.answer_open-refused.ensures.refused));
      };
      asked_all = ap (λ (t : State). t.done) ans.same ∙ (adv.done_is ∙ ap (λ k. next == k) (asked_count T count _ c.hear_all.new.asker.value counted hears.talk));
      replied_all = ap (λ (t : State). t.done) hears.same ∙ (adv'.done_is ∙ is_over);
      dims = dims;
      rank = rank;
      queries = advances_once g.row.CAP _ inside.queries q1 q2 q3 q q' push.same asked.stays asked.grows asked.asked ans.same ans.fewer;
      replies = advances_once g.row.CAP _ inside.replies r1 r2 c.hear_all.new.replies r r' ans.same_replies replied.stays replied.grows replied.asked hears.same hears.fewer;
    })

pub returns-clause-stuck : goal.returns-clause-stuck
returns-clause-stuck g c = on_ok_from c.turn_of.result (λ answer ok.
    let T = g.A.Asker.talk in
    let laws = g.met.A.Asker.laws in
    let inside : BiState g.row.A.Denot = record { asker = c.self.inside.asker.value; next = c.self.inside.next; lines = c.self.inside.lines.items; queries = c.self.inside.queries; replies = c.self.inside.replies } in
    let q = g.P.Port.view c.args.queries.now in
    let r = g.R.Port.view c.args.replies.now in
    let q' = g.P.Port.view c.advance-asked.new.port in
    let r' = g.R.Port.view c.advance-replied.new.port in
    let q1 = c.push_queries-self-inside.new.conveyor in
    let next = c.push_queries-self-inside.result in
    let count = c.count.result in
    let push : PushesQueries (asks_of T inside.asker) g.row.CAP inside.next next inside.queries q1 = c.push_queries-self-inside.ensures in
    let counted = c.count.ensures ∙ ap (λ s. length (T.queries s)) c.deref.ensures in
    let q2 = c.advance-asked.new.self in
    let adv = advances_of g.row.CAP c.advance-asked.result q1 q2 (next == count) q q' c.advance-asked.ensures.advances c.advance-asked.ensures.settled c.advance-asked.ensures.stops in
    let q3 = c.answer_open-refused.new.queries in
    let r1 = c.answer_open-refused.new.replies in
    let ans : AnswersQueries T inside.asker q2 q3 inside.replies r1 = c.answer_open-refused.ensures.answers in
    let over = c.is_over-over.result in
    let is_over : over ≡ is_complete q3.phase = c.is_over-over.ensures ∙ ap is_complete c.phase.ensures.value in
    let r2 = c.advance-replied.new.self in
    let adv' = advances_of g.row.CAP c.advance-replied.result r1 r2 over r r' c.advance-replied.ensures.advances c.advance-replied.ensures.settled c.advance-replied.ensures.stops in
    let n' : BiState g.row.A.Denot = record { asker = c.hear_all.new.asker.value; next = next; lines = c.hear_all.new.lines.items; queries = q3; replies = c.hear_all.new.replies } in
    let oks = c.turn_of.ensures.both (ap is_ok ok) in
    let asked = was_served c.advance-asked.result oks.0 c.advance-asked.ensures.in_full in
    let replied = was_served c.advance-replied.result oks.1 c.advance-replied.ensures.in_full in
    let served : Advanced q1 q2 g.row.CAP q.sent q'.sent q.got q'.got (is_crowded q') (is_idle q') = record {
      epoch = adv.epoch;
      full = asked.served.full;
      idles = c.advance-asked.ensures.advances.asked.idle;
      lies = c.advance-asked.ensures.advances.asked.lies;
      closing = asked.served.closing;
      stopped = asked.served.stopped;
      completes = λ o. complete_from q2.phase (has_completed c.advance-asked.result q2 _ oks.0 c.advance-asked.ensures.settled o);
    } in
    let served' : Advanced r1 r2 g.row.CAP r.sent r'.sent r.got r'.got (is_crowded r') (is_idle r') = record {
      epoch = adv'.epoch;
      full = replied.served.full;
      idles = c.advance-replied.ensures.advances.asked.idle;
      lies = c.advance-replied.ensures.advances.asked.lies;
      closing = replied.served.closing;
      stopped = replied.served.stopped;
      completes = λ o. complete_from r2.phase (has_completed c.advance-replied.result r2 _ oks.1 c.advance-replied.ensures.settled o);
    } in
    subst (λ (m : BiState g.row.A.Denot). IsStuckIfStill T m n' q q' r r') c.self.view_is
    (λ start is s1 g1 s2 g2.
    let done_is = ap (λ k. next == k) (count_is T laws start inside q.sent q.got r.sent r.got is count counted ∙ ap length (sym (same_asks T laws start inside q.sent q.got r.sent r.got is))) in
    stuck T inside (asks_of T inside.asker) g.row.CAP next (next == count) over c.hear_all.new.asker.value c.hear_all.new.lines.items q1 q2 q3 r1 r2 c.hear_all.new.replies c.answer_open-refused.result (sides_of_ports q r) (sides_of_ports q' r') (known_of_ports q' r')
    push done_is (agrees1 T laws start inside q.sent q.got r.sent r.got is g.row.CAP next count q1 push counted) adv served ans c.answer_open-refused.ensures.read c.answer_open-refused.ensures.refused
    (agrees3 T laws start inside q.sent q.got r.sent r.got is g.row.CAP next count q1 push counted q2 q'.sent q'.got adv q3 r1 ans) is_over adv' served'
    c.hear_all.ensures.hears c.phase.ensures.stands.grid c.phase.ensures.stands.rank c.known-2.ensures.grid c.known-2.ensures.rank s1 g1 s2 g2))
