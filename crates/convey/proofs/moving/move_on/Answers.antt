use Rattle.std.proofs.Common.{◌≡◌, ℕ, ◌<◌, ◌++◌, false, List, length, inl, refl, sym, ap, subst, ◌∙◌, rules}
use Rattle.std.proofs.lemmas.List.{append-nil}
use Rattle.std.proofs.lemmas.Result.{on_ok_weaker}
use Rattle.hop_core.specs.declared.phase.Phase.TheVariants.{Cleanup, Complete}
use Rattle.item_buffer.specs.Contents.{blank}
use Rattle.hop_core.specs.State.{State}
use Rattle.route_tensor.specs.Link.{links}
use Rattle.route_tensor.specs.Ends.{sender_at}
use Rattle.port_bank.specs.Port.{is_crowded}
use Rattle.port_bank.specs.Logs.{Logs}
use Rattle.hop_core.specs.Link.{is_wanted}
use Rattle.convey.specs.Buffers.{in_of, is_complete}
use Rattle.convey.specs.Due.{IsDue, WasServed, collects_of, posts_below}
use Rattle.port_bank.specs.Calls.{Call}
use Rattle.convey.proofs.Ways.{ready_at, link_at, end_at, goes_on_refl}
use Rattle.convey.proofs.Sent.{all_closed_by, sent_not_due, same_closed, cleanup_incomplete}
use Rattle.convey.proofs.Completes.{complete_phase, over_not_due, over_not_wanted}
use Rattle.convey.proofs.Asks.{served_not, none_served, none_wanted}
use Rattle.convey.proofs.Movements.{not_true, noted_ready, moves_on, held, has_served, over_moves, over_served, over_held}
use Rattle.convey.proofs.Advances.{not_over}
use Rattle.port_bank.proofs.Frames.{port_at_first, port_then}
use Rattle.std.proofs.lemmas.Bool.{false≢true}
use Rattle.std.specs.Prelude.{OnOk, Result, Ok, Err}
use Rattle.convey.proofs.moving.move_on.Goals as goal

-- what holds of an answer holds together
both : {T E P Q R : Type 0} (r : Result T E) → (P → Q → R) → OnOk r P → OnOk r Q → OnOk r R
both (Ok x) f p q = f p q
both (Err e) f p q = q

pub returns-then-is_over-clause-moves : goal.returns-then-is_over-clause-moves
returns-then-is_over-clause-moves g c =
    record {
      conveyor = c.requires.may.conveyor;
      ready = c.requires.may.ready;
      moves_on =
          let st : State = c.args.state.now in
          let over : st.phase ≡ Complete = complete_phase st.phase (ap is_complete (sym c.phase.ensures.value) ∙ (sym c.is_over.ensures ∙ c.if-is_over.true)) in
          over_moves st c.phase.ensures.standing (c.requires.may.conveyor.complete over) c.args.done _ _ _ _ c.requires.may.done_stays;
      held =
          let st : State = c.args.state.now in
          let over : st.phase ≡ Complete = complete_phase st.phase (ap is_complete (sym c.phase.ensures.value) ∙ (sym c.is_over.ensures ∙ c.if-is_over.true)) in
          λ l e below to less at. absurd (over_held st c.phase.ensures.standing (c.requires.may.conveyor.complete over) (g.P.Port.view c.args.port.now).sent l e below to at);
      complete = λ over. refl;
      cap_is = search rules;
      standing = search rules;
      same_port = port_at_first;
    }

pub returns-then-is_over-clause-in_full : goal.returns-then-is_over-clause-in_full
returns-then-is_over-clause-in_full g c =
    record {
      served =
          let st : State = c.args.state.now in
          let over : st.phase ≡ Complete = complete_phase st.phase (ap is_complete (sym c.phase.ensures.value) ∙ (sym c.is_over.ensures ∙ c.if-is_over.true)) in
          over_served st c.phase.ensures.standing (c.requires.may.conveyor.complete over) _ _ _;
      calls =
          let st : State = c.args.state.now in
          let over : st.phase ≡ Complete = complete_phase st.phase (ap is_complete (sym c.phase.ensures.value) ∙ (sym c.is_over.ensures ∙ c.if-is_over.true)) in
          let log : Logs = (g.P.Port.view c.args.port.now).sent in
          let before : List Call = (g.P.Port.view c.args.port.now).calls in
          let none = none_wanted st (λ l h to. not_true (is_wanted (in_of st l)) (over_not_wanted st c.phase.ensures.standing (c.requires.may.conveyor.complete over) l h to)) in
          let unserved = none_served st log log (λ l h from. served_not st l (log l) (log l) refl (over_not_due st c.phase.ensures.standing (c.requires.may.conveyor.complete over) l h)) in
          sym (append-nil before) ∙ ap (λ cs. before ++ cs) (sym none) ∙ sym (append-nil (before ++ collects_of st)) ∙ ap (λ cs. (before ++ collects_of st) ++ cs) (sym unserved);
    }

pub collect_all-requires : goal.collect_all-requires
collect_all-requires g c =
    let dims : List ℕ = (g.P.Port.view c.args.port.now).dims in
    let rank : ℕ = (g.P.Port.view c.args.port.now).rank in
    let r = c.requires.may.ready in
    (search rules, (search rules, (search rules, noted_ready dims rank c.args.state.now c.note_done.new.state c.args.done _ _ c.note_done.ensures.state c.note_done.ensures.pulled r)))

pub post_all-requires : goal.post_all-requires
post_all-requires g c =
    let k = c.collect_all.ensures in
    let passed = c.relay_all.ensures.passed _ _ _ _ k.leaves.ready in
    let empty : c.collect_all.new.spare ≡ blank c.relay_all.new.state.epoch = k.empty ∙ ap blank (sym passed.goes_on.epoch) in
    (search rules, (search rules, (empty, ready_at _ _ _ _ _ _ _ (sym k.leaves.same_port.dims) (sym k.leaves.same_port.rank) passed.ready)))

pub returns-clause-moves : goal.returns-clause-moves
returns-clause-moves g c =
    record {
      conveyor =
          let st : State = c.args.state.now in
          let last : State = c.post_all.new.state in
          let k = c.collect_all.ensures in
          let passed = c.relay_all.ensures.passed _ _ _ _ k.leaves.ready in
          let phase : last.phase ≡ st.phase = c.post_all.ensures.leaves.goes_on.phase ∙ (passed.goes_on.phase ∙ (k.leaves.goes_on.phase ∙ ap (λ s. s.phase) c.note_done.ensures.state)) in
          let open' : is_complete st.phase ≡ false = ap is_complete (sym c.phase.ensures.value) ∙ (sym c.is_over.ensures ∙ c.if-is_over.false) in
          let open_still : c.relay_all.new.state.phase ≡ Cleanup → ⊥ = search rules in
          record {
            sent = λ p. absurd (open_still (sym c.post_all.ensures.leaves.goes_on.phase ∙ p));
            hops_all = ap length (c.post_all.ensures.leaves.ready.same_dims ∙ (k.leaves.same_port.dims ∙ sym c.requires.may.ready.same_dims)) ∙ c.requires.may.conveyor.hops_all;
            complete = λ p. absurd (not_over st.phase last.phase open' phase p);
            none_back = λ p. absurd (not_over st.phase last.phase open' phase p);
          };
      ready = ready_at (g.P.Port.view c.args.port.now).dims _ (g.P.Port.view c.args.port.now).rank _ _ _ _ c.collect_all.ensures.leaves.same_port.dims c.collect_all.ensures.leaves.same_port.rank c.post_all.ensures.leaves.ready;
      moves_on =
          let dims : List ℕ = (g.P.Port.view c.args.port.now).dims in
          let rank : ℕ = (g.P.Port.view c.args.port.now).rank in
          let k = c.collect_all.ensures in
          let e = c.post_all.ensures in
          let passed = c.relay_all.ensures.passed dims rank _ _ k.leaves.ready in
          moves_on dims rank c.args.state.now c.note_done.new.state c.collect_all.new.state c.relay_all.new.state c.post_all.new.state c.args.done _ _ _ _ _ _
          c.phase.ensures.standing (sym c.requires.may.ready.same_dims) (sym c.requires.may.ready.same_rank) c.note_done.ensures.state k.leaves.goes_on k.leaves.outs k.leaves.ready passed
          e.leaves.goes_on e.leaves.ins (ready_at dims _ rank _ _ _ _ k.leaves.same_port.dims k.leaves.same_port.rank e.leaves.ready)
          (λ l h from. e.waits l (link_at dims _ l k.leaves.same_port.dims h) (end_at sender_at dims _ rank _ l k.leaves.same_port.dims k.leaves.same_port.rank from)) k.leaves.same_outs.sent
          (λ l h from. e.posted l (link_at dims _ l k.leaves.same_port.dims h) (end_at sender_at dims _ rank _ l k.leaves.same_port.dims k.leaves.same_port.rank from))
          _ _ _ _ _ k.asked k.lies e.leaves.same_ins.got e.leaves.same_ins.noted e.leaves.idle;
      held =
          let dims : List ℕ = (g.P.Port.view c.args.port.now).dims in
          let rank : ℕ = (g.P.Port.view c.args.port.now).rank in
          let k = c.collect_all.ensures in
          let e = c.post_all.ensures in
          let passed = c.relay_all.ensures.passed dims rank _ _ k.leaves.ready in
          held dims rank c.args.state.now c.note_done.new.state c.collect_all.new.state c.relay_all.new.state c.post_all.new.state c.args.done _ _ _ _ _ _
          c.phase.ensures.standing (sym c.requires.may.ready.same_dims) (sym c.requires.may.ready.same_rank) c.note_done.ensures.state k.leaves.goes_on k.leaves.outs k.leaves.ready passed
          e.leaves.goes_on e.leaves.ins (ready_at dims _ rank _ _ _ _ k.leaves.same_port.dims k.leaves.same_port.rank e.leaves.ready)
          (λ l h from. e.waits l (link_at dims _ l k.leaves.same_port.dims h) (end_at sender_at dims _ rank _ l k.leaves.same_port.dims k.leaves.same_port.rank from)) k.leaves.same_outs.sent
          (λ l h from. e.posted l (link_at dims _ l k.leaves.same_port.dims h) (end_at sender_at dims _ rank _ l k.leaves.same_port.dims k.leaves.same_port.rank from))
          c.relay_all.ensures.standing c.relay_all.ensures.stopped;
      complete = let open' : is_complete c.args.state.now.phase ≡ false = ap is_complete (sym c.phase.ensures.value) ∙ (sym c.is_over.ensures ∙ c.if-is_over.false) in λ over. absurd (false≢true (sym open' ∙ ap is_complete over));
      cap_is = search rules;
      standing = search rules;
      same_port = port_then c.collect_all.ensures.leaves.same_port c.post_all.ensures.leaves.same_port;
    }

pub returns-then-eq-clause-moves : goal.returns-then-eq-clause-moves
returns-then-eq-clause-moves g c =
    record {
      conveyor =
          let dims : List ℕ = (g.P.Port.view c.args.port.now).dims in
          let rank : ℕ = (g.P.Port.view c.args.port.now).rank in
          let st : State = c.args.state.now in
          let mid : State = c.relay_all.new.state in
          let k = c.collect_all.ensures in
          let passed = c.relay_all.ensures.passed dims rank _ _ k.leaves.ready in
          let cleanup : mid.phase ≡ Cleanup = search rules in
          let phase : mid.phase ≡ st.phase = passed.goes_on.phase ∙ (k.leaves.goes_on.phase ∙ ap (λ s. s.phase) c.note_done.ensures.state) in
          let all = c.requires.may.conveyor.sent (sym phase ∙ cleanup) in
          let same_dims : mid.dims ≡ st.dims = passed.ready.same_dims ∙ sym c.requires.may.ready.same_dims in
          let same = same_closed st c.note_done.new.state c.collect_all.new.state mid c.args.done c.note_done.ensures.state k.leaves.outs (k.leaves.ready.same_dims ∙ sym c.requires.may.ready.same_dims) passed.closes in
          record {
            hops_all = ap length same_dims ∙ c.requires.may.conveyor.hops_all;
            sent = λ p. all_closed_by st mid c.phase.ensures.standing c.relay_all.ensures.standing same_dims same all;
            complete = λ p. absurd (cleanup_incomplete mid.phase cleanup p);
            none_back = λ p. absurd (cleanup_incomplete mid.phase cleanup p);
          };
      ready = (c.relay_all.ensures.passed (g.P.Port.view c.args.port.now).dims (g.P.Port.view c.args.port.now).rank _ _ c.collect_all.ensures.leaves.ready).ready;
      moves_on =
          let dims : List ℕ = (g.P.Port.view c.args.port.now).dims in
          let rank : ℕ = (g.P.Port.view c.args.port.now).rank in
          let st : State = c.args.state.now in
          let mid : State = c.relay_all.new.state in
          let k = c.collect_all.ensures in
          let passed = c.relay_all.ensures.passed dims rank _ _ k.leaves.ready in
          let sent' : Logs = (g.P.Port.view c.collect_all.new.port).sent in
          let got' : Logs = (g.P.Port.view c.collect_all.new.port).got in
          moves_on dims rank st c.note_done.new.state c.collect_all.new.state mid mid c.args.done (g.P.Port.view c.args.port.now).sent sent' sent' (g.P.Port.view c.args.port.now).got got' got'
          c.phase.ensures.standing (sym c.requires.may.ready.same_dims) (sym c.requires.may.ready.same_rank) c.note_done.ensures.state k.leaves.goes_on k.leaves.outs k.leaves.ready passed
          (goes_on_refl mid sent' got') refl passed.ready (λ l h from e. refl) k.leaves.same_outs.sent (λ l h from. inl refl)
          _ _ _ _ _ k.asked k.lies refl refl (λ l e. refl);
      held =
          let dims : List ℕ = (g.P.Port.view c.args.port.now).dims in
          let rank : ℕ = (g.P.Port.view c.args.port.now).rank in
          let st : State = c.args.state.now in
          let mid : State = c.relay_all.new.state in
          let k = c.collect_all.ensures in
          let passed = c.relay_all.ensures.passed dims rank _ _ k.leaves.ready in
          let sent' : Logs = (g.P.Port.view c.collect_all.new.port).sent in
          let got' : Logs = (g.P.Port.view c.collect_all.new.port).got in
          held dims rank st c.note_done.new.state c.collect_all.new.state mid mid c.args.done (g.P.Port.view c.args.port.now).sent sent' sent' (g.P.Port.view c.args.port.now).got got' got'
          c.phase.ensures.standing (sym c.requires.may.ready.same_dims) (sym c.requires.may.ready.same_rank) c.note_done.ensures.state k.leaves.goes_on k.leaves.outs k.leaves.ready passed
          (goes_on_refl mid sent' got') refl passed.ready (λ l h from e. refl) k.leaves.same_outs.sent (λ l h from. inl refl)
          c.relay_all.ensures.standing c.relay_all.ensures.stopped;
      complete = let open' : is_complete c.args.state.now.phase ≡ false = ap is_complete (sym c.phase.ensures.value) ∙ (sym c.is_over.ensures ∙ c.if-is_over.false) in λ over. absurd (false≢true (sym open' ∙ ap is_complete over));
      cap_is = search rules;
      standing = search rules;
      same_port = c.collect_all.ensures.leaves.same_port;
    }

pub returns-then-eq-clause-in_full : goal.returns-then-eq-clause-in_full
returns-then-eq-clause-in_full g c =
    record {
      served =
          let dims : List ℕ = (g.P.Port.view c.args.port.now).dims in
          let rank : ℕ = (g.P.Port.view c.args.port.now).rank in
          let st : State = c.args.state.now in
          let mid : State = c.relay_all.new.state in
          let k = c.collect_all.ensures in
          let passed = c.relay_all.ensures.passed dims rank _ _ k.leaves.ready in
          let cleanup : mid.phase ≡ Cleanup = search rules in
          let phase : mid.phase ≡ st.phase = passed.goes_on.phase ∙ (k.leaves.goes_on.phase ∙ ap (λ s. s.phase) c.note_done.ensures.state) in
          let all = c.requires.may.conveyor.sent (sym phase ∙ cleanup) in
          let same_dims : mid.dims ≡ st.dims = passed.ready.same_dims ∙ sym c.requires.may.ready.same_dims in
          let same = same_closed st c.note_done.new.state c.collect_all.new.state mid c.args.done c.note_done.ensures.state k.leaves.outs (k.leaves.ready.same_dims ∙ sym c.requires.may.ready.same_dims) passed.closes in
          let sent' : Logs = (g.P.Port.view c.collect_all.new.port).sent in
          let got' : Logs = (g.P.Port.view c.collect_all.new.port).got in
          let not_due : (l : ℕ) → l < links dims → IsDue mid l → ⊥ = λ l h. sent_not_due st mid l c.phase.ensures.standing c.relay_all.ensures.standing same_dims same all (subst (λ ds. l < links ds) (sym passed.ready.same_dims) h) in
          has_served dims rank st c.note_done.new.state c.collect_all.new.state mid mid c.args.done (g.P.Port.view c.args.port.now).sent sent' sent' (g.P.Port.view c.args.port.now).got got' got'
          c.phase.ensures.standing (sym c.requires.may.ready.same_dims) (sym c.requires.may.ready.same_rank) c.note_done.ensures.state k.leaves.goes_on k.leaves.outs k.leaves.ready passed
          (goes_on_refl mid sent' got') refl passed.ready (λ l h from e. refl) k.leaves.same_outs.sent (λ l h from. inl refl)
          _ _ _ c.relay_all.ensures.standing c.relay_all.ensures.stopped
          (λ l h from. record { looked = λ d. absurd (not_due l h d); crowded = λ d. absurd (not_due l h d) });
      calls =
          let st : State = c.args.state.now in
          let mid : State = c.relay_all.new.state in
          let k = c.collect_all.ensures in
          let passed = c.relay_all.ensures.passed (g.P.Port.view c.args.port.now).dims (g.P.Port.view c.args.port.now).rank _ _ k.leaves.ready in
          let cleanup : mid.phase ≡ Cleanup = search rules in
          let phase : mid.phase ≡ st.phase = passed.goes_on.phase ∙ (k.leaves.goes_on.phase ∙ ap (λ s. s.phase) c.note_done.ensures.state) in
          let all = c.requires.may.conveyor.sent (sym phase ∙ cleanup) in
          let same_dims : mid.dims ≡ st.dims = passed.ready.same_dims ∙ sym c.requires.may.ready.same_dims in
          let same = same_closed st c.note_done.new.state c.collect_all.new.state mid c.args.done c.note_done.ensures.state k.leaves.outs (k.leaves.ready.same_dims ∙ sym c.requires.may.ready.same_dims) passed.closes in
          let sent : Logs = (g.P.Port.view c.args.port.now).sent in
          let sent' : Logs = (g.P.Port.view c.collect_all.new.port).sent in
          let before : List Call = (g.P.Port.view c.args.port.now).calls in
          let unserved = none_served mid sent sent' (λ l h from.
          served_not mid l (sent l) (sent' l) (ap (λ s. s l) k.leaves.same_outs.sent) (sent_not_due st mid l c.phase.ensures.standing c.relay_all.ensures.standing same_dims same all h)) in
          k.calls ∙ ap (λ s. before ++ collects_of s) c.note_done.ensures.state ∙ sym (append-nil (before ++ collects_of st)) ∙ ap (λ cs. (before ++ collects_of st) ++ cs) (sym unserved);
    }

pub returns-clause-in_full : goal.returns-clause-in_full
returns-clause-in_full g c =
    let served =
    let dims : List ℕ = (g.P.Port.view c.args.port.now).dims in
    let rank : ℕ = (g.P.Port.view c.args.port.now).rank in
    let k = c.collect_all.ensures in
    let e = c.post_all.ensures in
    let passed = c.relay_all.ensures.passed dims rank _ _ k.leaves.ready in
    on_ok_weaker c.post_all.result
    (λ served. has_served dims rank c.args.state.now c.note_done.new.state c.collect_all.new.state c.relay_all.new.state c.post_all.new.state c.args.done _ _ _ _ _ _
    c.phase.ensures.standing (sym c.requires.may.ready.same_dims) (sym c.requires.may.ready.same_rank) c.note_done.ensures.state k.leaves.goes_on k.leaves.outs k.leaves.ready passed
    e.leaves.goes_on e.leaves.ins (ready_at dims _ rank _ _ _ _ k.leaves.same_port.dims k.leaves.same_port.rank e.leaves.ready)
    (λ l h from. e.waits l (link_at dims _ l k.leaves.same_port.dims h) (end_at sender_at dims _ rank _ l k.leaves.same_port.dims k.leaves.same_port.rank from)) k.leaves.same_outs.sent
    (λ l h from. e.posted l (link_at dims _ l k.leaves.same_port.dims h) (end_at sender_at dims _ rank _ l k.leaves.same_port.dims k.leaves.same_port.rank from))
    _ _ _ c.relay_all.ensures.standing c.relay_all.ensures.stopped
    (λ l h from. subst (λ looks. WasServed c.post_all.new.state l (looks l) ((g.P.Port.view c.post_all.new.port).looks_out l) (is_crowded (g.P.Port.view c.post_all.new.port) l)) k.leaves.same_outs.looks_out
    (served l (link_at dims _ l k.leaves.same_port.dims h) (end_at sender_at dims _ rank _ l k.leaves.same_port.dims k.leaves.same_port.rank from)))) e.served in
    let calls =
    let k = c.collect_all.ensures in
    let new : State = c.post_all.new.state in
    let sent' : Logs = (g.P.Port.view c.post_all.new.port).sent in
    let before : List Call = (g.P.Port.view c.args.port.now).calls in
    on_ok_weaker c.post_all.result
    (λ is. is ∙ ap (λ sent. (g.P.Port.view c.collect_all.new.port).calls ++ posts_below new sent sent' (links new.dims)) k.leaves.same_outs.sent
    ∙ ap (λ cs. cs ++ posts_below new (g.P.Port.view c.args.port.now).sent sent' (links new.dims)) (k.calls ∙ ap (λ st. before ++ collects_of st) c.note_done.ensures.state)) c.post_all.ensures.calls in
    both c.post_all.result (λ s i. record { served = s; calls = i }) served calls

pub returns-clause-stops : goal.returns-clause-stops
returns-clause-stops g c =
    let k = c.collect_all.ensures in
    let new : State = c.post_all.new.state in
    let sent' : Logs = (g.P.Port.view c.post_all.new.port).sent in
    let before : List Call = (g.P.Port.view c.args.port.now).calls in
    let open' : is_complete c.args.state.now.phase ≡ false = ap is_complete (sym c.phase.ensures.value) ∙ (sym c.is_over.ensures ∙ c.if-is_over.false) in
    λ err.
    let s = c.post_all.ensures.stops err in
    record {
      incomplete = open';
      forgotten = c.post_all.ensures.forgotten err;
      at = record {
        link = s.link;
        below = s.below;
        starts_here = s.starts_here;
        due = s.due;
        calls_are = s.calls_are ∙ ap (λ sent. (g.P.Port.view c.collect_all.new.port).calls ++ posts_below new sent sent' s.link) k.leaves.same_outs.sent
            ∙ ap (λ cs. cs ++ posts_below new (g.P.Port.view c.args.port.now).sent sent' s.link) (k.calls ∙ ap (λ st. before ++ collects_of st) c.note_done.ensures.state);
      };
    }
