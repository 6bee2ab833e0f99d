use Rattle.std.proofs.Common.{Bool, ◌≡◌, ℕ, ◌<◌, ◌++◌, List, true, false, length, slice_get, Some, None, sym, ap, subst, ◌∙◌, rules}
use Rattle.std.proofs.lemmas.Bool.{false≢true}
use Rattle.route_tensor.specs.Link.{links}
use Rattle.route_tensor.specs.Ends.{hop_at, sender_at, reader_at}
use Rattle.hop_core.specs.declared.phase.Phase.TheVariants.{Complete}
use Rattle.port_bank.specs.Port.{is_crowded, is_idle}
use Rattle.port_bank.specs.Calls.{Call}
use Rattle.hop_core.specs.State.{State, all_closed, phase_of, at_end}
use Rattle.hop_core.specs.Standing.{IsState}
use Rattle.list_laws.specs.Lists.{IsPrefix}
use Rattle.convey.specs.Buffers.{out_of, in_of, is_complete, buffers_of}
use Rattle.convey.specs.Agreement.{Agrees}
use Rattle.convey.specs.Due.{IsDue, WasServed, StopsAt, NextIs, WasFull, IsHeldUpAt, collects_of, posts_below}
use Rattle.convey.specs.Progress.{progress_of}
use Rattle.convey.specs.AdvanceSteps.{MovesOn, HasServed}
use Rattle.convey.specs.Advance.{WereAsked}
use Rattle.convey.proofs.Blocks.{next_map}
use Rattle.convey.proofs.Posts.{due_ending}
use Rattle.convey.proofs.Completes.{complete_phase, is_over, over_complete, reaches_end, working, begun}
use Rattle.convey.proofs.Movements.{not_true}
use Rattle.convey.proofs.Advances.{lists_grow, were_asked, advance_is, settled_agrees, over_before, phase_of-settled, forgotten, complete_answer, same_held}
use Rattle.convey.proofs.States.{holds_at_most}
use Rattle.convey.proofs.Sent.{cleanup_sent}
use Rattle.convey.proofs.conveyor.Conveyor.advance.Goals as goal

-- a settled state's phase is that of its buffers
settled_phase : (mid new : State) → new ≡ record mid { phase = phase_of mid; pulled = None } → new.phase ≡ phase_of new
settled_phase mid new e = ap (λ s. s.phase) e ∙ sym (ap phase_of e ∙ phase_of-settled mid (phase_of mid) None)

pub returns-in_err-move_on-clause-advances : goal.returns-in_err-move_on-clause-advances
returns-in_err-move_on-clause-advances g c =
    record {
      stays =
          let now : State = c.args.self.now in
          let mid : State = c.move_on.new.state in
          let k = subst (λ (t : State). MovesOn t mid c.args.done (g.P.Port.view c.args.port.now).sent (g.P.Port.view c.move_on.new.port).sent (g.P.Port.view c.args.port.now).got (g.P.Port.view c.move_on.new.port).got
          (g.P.Port.view c.args.port.now).noted (g.P.Port.view c.move_on.new.port).noted (is_idle (g.P.Port.view c.move_on.new.port))) c.self.view_is c.move_on.ensures.moves.moves_on in
          let open' : is_complete now.phase ≡ false = subst (λ (t : State). is_complete t.phase ≡ false) c.self.view_is ((c.in_err-move_on.ensures.stops (search rules)).incomplete) in
          let at = c.move_on.ensures.moves.ready in
          record {
            agrees = at.agrees;
            dims = at.same_dims ∙ c.requires.may.at_port.same_dims;
            rank = at.same_rank ∙ c.requires.may.at_port.same_rank;
            steady = k.goes_on.steady;
            epoch = k.goes_on.epoch;
            done = k.goes_on.done;
            begun = λ dormant. c.requires.may.begun (sym k.goes_on.phase ∙ dormant);
            step = advance_is now mid mid c.args.done _ _ _ _ k.goes_on c.requires.may.done_stays (forgotten mid ((c.in_err-move_on.ensures.stops (search rules)).forgotten))
                (λ not_done says. ap is_complete k.goes_on.phase ∙ open') (λ over. absurd (false≢true (sym open' ∙ over)));
            same_port = c.move_on.ensures.moves.same_port;
          };
      fits =
          let now : State = c.args.self.now in
          let standing : IsState now = subst IsState c.self.view_is c.move_on.ensures.moves.standing in
          holds_at_most now g.row.CAP standing (subst (λ (t : State). t.cap ≡ g.row.CAP) c.self.view_is c.move_on.ensures.moves.cap_is);
      complete = λ over.
          let open' : is_complete c.args.self.now.phase ≡ false = subst (λ (t : State). is_complete t.phase ≡ false) c.self.view_is (c.in_err-move_on.ensures.stops (search rules)).incomplete in
          absurd (false≢true (sym open' ∙ ap is_complete over));
      grows =
          let now : State = c.args.self.now in
          let mid : State = c.move_on.new.state in
          let k = subst (λ (t : State). MovesOn t mid c.args.done (g.P.Port.view c.args.port.now).sent (g.P.Port.view c.move_on.new.port).sent (g.P.Port.view c.args.port.now).got (g.P.Port.view c.move_on.new.port).got
          (g.P.Port.view c.args.port.now).noted (g.P.Port.view c.move_on.new.port).noted (is_idle (g.P.Port.view c.move_on.new.port))) c.self.view_is c.move_on.ensures.moves.moves_on in
          lists_grow g.row.CAP now mid c.args.done (g.P.Port.view c.args.port.now) (g.P.Port.view c.move_on.new.port) k (subst (λ (t : State). t.cap ≡ g.row.CAP) c.self.view_is c.move_on.ensures.moves.cap_is);
      asked =
          let now : State = c.args.self.now in
          let mid : State = c.move_on.new.state in
          let k = subst (λ (t : State). MovesOn t mid c.args.done (g.P.Port.view c.args.port.now).sent (g.P.Port.view c.move_on.new.port).sent (g.P.Port.view c.args.port.now).got (g.P.Port.view c.move_on.new.port).got
          (g.P.Port.view c.args.port.now).noted (g.P.Port.view c.move_on.new.port).noted (is_idle (g.P.Port.view c.move_on.new.port))) c.self.view_is c.move_on.ensures.moves.moves_on in
          were_asked g.row.CAP now mid c.args.done (g.P.Port.view c.args.port.now) (g.P.Port.view c.move_on.new.port) k mid.phase mid.pulled;
      waits = let k = subst (λ (t : State). MovesOn t c.move_on.new.state c.args.done (g.P.Port.view c.args.port.now).sent (g.P.Port.view c.move_on.new.port).sent (g.P.Port.view c.args.port.now).got (g.P.Port.view c.move_on.new.port).got
          (g.P.Port.view c.args.port.now).noted (g.P.Port.view c.move_on.new.port).noted (is_idle (g.P.Port.view c.move_on.new.port))) c.self.view_is c.move_on.ensures.moves.moves_on in k.waits;
      held =
          let now : State = c.args.self.now in
          let mid : State = c.move_on.new.state in
          let sent = (g.P.Port.view c.args.port.now).sent in
          let sent' = (g.P.Port.view c.move_on.new.port).sent in
          let cap : now.cap ≡ g.row.CAP = subst (λ (t : State). t.cap ≡ g.row.CAP) c.self.view_is c.move_on.ensures.moves.cap_is in
          λ l x below to less.
          let k = subst (λ (t : State). l < links t.dims → reader_at t.dims l ≡ t.rank → hop_at t.dims l < length t.dims → slice_get (in_of mid l).parcel.untaken 0 ≡ Some x → NextIs t.dims t.rank l x.tag (WasFull t.cap mid sent sent')) c.self.view_is
          (c.move_on.ensures.moves.held l x) below to less in
          λ at. subst (λ n. NextIs now.dims now.rank l x.tag (WasFull n mid sent sent')) cap (k at);
    }

pub returns-clause-advances : goal.returns-clause-advances
returns-clause-advances g c =
    record {
      stays =
          let now : State = c.args.self.now in
          let mid : State = c.move_on.new.state in
          let new : State = c.settle.new.state in
          let e = c.settle.ensures.state in
          let t : IsState new = c.settle.ensures.standing in
          let k = subst (λ (t : State). MovesOn t mid c.args.done (g.P.Port.view c.args.port.now).sent (g.P.Port.view c.move_on.new.port).sent (g.P.Port.view c.args.port.now).got (g.P.Port.view c.move_on.new.port).got
          (g.P.Port.view c.args.port.now).noted (g.P.Port.view c.move_on.new.port).noted (is_idle (g.P.Port.view c.move_on.new.port))) c.self.view_is c.move_on.ensures.moves.moves_on in
          let phase : new.phase ≡ phase_of new = settled_phase mid new e in
          let form : new ≡ record mid { phase = new.phase; pulled = None } = e ∙ ap (λ p. record mid { phase = p; pulled = None }) (sym (ap (λ s. s.phase) e)) in
          let not_yet : now.done ≡ false → c.args.done ≡ true → is_complete new.phase ≡ false = λ not_done says.
          not_true (is_complete new.phase) (λ q. k.not_at_once not_done (over_before mid new e (is_over new t (sym phase ∙ complete_phase new.phase q)))) in
          let over : is_complete now.phase ≡ true → (now.done ≡ true) × (is_complete new.phase ≡ true) = λ q.
          let same : mid ≡ now = subst (λ (t : State). t.phase ≡ Complete → mid ≡ t) c.self.view_is c.move_on.ensures.moves.complete (complete_phase now.phase q) in
          let ends : phase_of now ≡ Complete = subst (λ (t : State). t.phase ≡ Complete → phase_of t ≡ Complete) c.self.view_is c.self.invariant.complete (complete_phase now.phase q) in
          let p : new.phase ≡ Complete = ap (λ s. s.phase) e ∙ (ap phase_of same ∙ ends) in
          (sym (ap (λ s. s.done) same) ∙ (sym (ap (λ s. s.done) e) ∙ (is_over new t (sym phase ∙ p)).done), ap is_complete p) in
          let at = c.move_on.ensures.moves.ready in
          record {
            agrees = subst (λ s. Agrees (buffers_of s) (g.P.Port.view c.move_on.new.port).sent (g.P.Port.view c.move_on.new.port).got) (sym c.settle.ensures.state) (settled_agrees mid (phase_of mid) _ _ c.move_on.ensures.moves.ready.agrees);
            dims = ap (λ s. s.dims) e ∙ (at.same_dims ∙ c.requires.may.at_port.same_dims);
            rank = ap (λ s. s.rank) e ∙ (at.same_rank ∙ c.requires.may.at_port.same_rank);
            steady = ap (λ s. s.steady) e ∙ k.goes_on.steady;
            epoch = ap (λ s. s.epoch) e ∙ k.goes_on.epoch;
            done = ap (λ s. s.done) e ∙ k.goes_on.done;
            begun = λ dormant. begun new (sym phase ∙ dormant);
            step = advance_is now mid new c.args.done _ _ _ _ k.goes_on c.requires.may.done_stays form not_yet over;
            same_port = c.move_on.ensures.moves.same_port;
          };
      fits =
          let now : State = c.args.self.now in
          let standing : IsState now = subst IsState c.self.view_is c.move_on.ensures.moves.standing in
          holds_at_most now g.row.CAP standing (subst (λ (t : State). t.cap ≡ g.row.CAP) c.self.view_is c.move_on.ensures.moves.cap_is);
      complete = λ over.
          let now : State = c.args.self.now in
          let same : c.move_on.new.state ≡ now = subst (λ (t : State). t.phase ≡ Complete → c.move_on.new.state ≡ t) c.self.view_is c.move_on.ensures.moves.complete over in
          let ends : phase_of now ≡ Complete = subst (λ (t : State). t.phase ≡ Complete → phase_of t ≡ Complete) c.self.view_is c.self.invariant.complete over in
          c.settle.ensures.state ∙ ap (λ (s : State). record s { phase = phase_of s; pulled = None }) same ∙ ap (λ p. record now { phase = p; pulled = None }) (ends ∙ sym over);
      grows =
          let now : State = c.args.self.now in
          let mid : State = c.move_on.new.state in
          let k = subst (λ (t : State). MovesOn t mid c.args.done (g.P.Port.view c.args.port.now).sent (g.P.Port.view c.move_on.new.port).sent (g.P.Port.view c.args.port.now).got (g.P.Port.view c.move_on.new.port).got
          (g.P.Port.view c.args.port.now).noted (g.P.Port.view c.move_on.new.port).noted (is_idle (g.P.Port.view c.move_on.new.port))) c.self.view_is c.move_on.ensures.moves.moves_on in
          lists_grow g.row.CAP now mid c.args.done (g.P.Port.view c.args.port.now) (g.P.Port.view c.move_on.new.port) k (subst (λ (t : State). t.cap ≡ g.row.CAP) c.self.view_is c.move_on.ensures.moves.cap_is);
      asked =
          let now : State = c.args.self.now in
          let mid : State = c.move_on.new.state in
          let k = subst (λ (t : State). MovesOn t mid c.args.done (g.P.Port.view c.args.port.now).sent (g.P.Port.view c.move_on.new.port).sent (g.P.Port.view c.args.port.now).got (g.P.Port.view c.move_on.new.port).got
          (g.P.Port.view c.args.port.now).noted (g.P.Port.view c.move_on.new.port).noted (is_idle (g.P.Port.view c.move_on.new.port))) c.self.view_is c.move_on.ensures.moves.moves_on in
          subst (λ s. WereAsked now s (g.P.Port.view c.args.port.now) (g.P.Port.view c.move_on.new.port)) (sym c.settle.ensures.state)
          (were_asked g.row.CAP now mid c.args.done (g.P.Port.view c.args.port.now) (g.P.Port.view c.move_on.new.port) k (phase_of mid) None);
      waits = let k = subst (λ (t : State). MovesOn t c.move_on.new.state c.args.done (g.P.Port.view c.args.port.now).sent (g.P.Port.view c.move_on.new.port).sent (g.P.Port.view c.args.port.now).got (g.P.Port.view c.move_on.new.port).got
          (g.P.Port.view c.args.port.now).noted (g.P.Port.view c.move_on.new.port).noted (is_idle (g.P.Port.view c.move_on.new.port))) c.self.view_is c.move_on.ensures.moves.moves_on in
          λ l below from same. subst (λ s. IsPrefix (out_of c.args.self.now l).parcel.untaken (out_of s l).parcel.untaken) (sym c.settle.ensures.state) (k.waits l below from same);
      held =
          let now : State = c.args.self.now in
          let mid : State = c.move_on.new.state in
          let sent = (g.P.Port.view c.args.port.now).sent in
          let sent' = (g.P.Port.view c.move_on.new.port).sent in
          let cap : now.cap ≡ g.row.CAP = subst (λ (t : State). t.cap ≡ g.row.CAP) c.self.view_is c.move_on.ensures.moves.cap_is in
          λ l x below to less.
          let k = subst (λ (t : State). l < links t.dims → reader_at t.dims l ≡ t.rank → hop_at t.dims l < length t.dims → slice_get (in_of mid l).parcel.untaken 0 ≡ Some x → NextIs t.dims t.rank l x.tag (WasFull t.cap mid sent sent')) c.self.view_is
          (c.move_on.ensures.moves.held l x) below to less in
          subst (λ s. slice_get (in_of s l).parcel.untaken 0 ≡ Some x → NextIs now.dims now.rank l x.tag (WasFull g.row.CAP s sent sent')) (sym c.settle.ensures.state)
          (λ at. subst (λ n. NextIs now.dims now.rank l x.tag (WasFull n (record mid { phase = phase_of mid; pulled = None }) sent sent')) cap (k at));
    }

pub returns-clause-settled : goal.returns-clause-settled
returns-clause-settled g c =
    let new : State = c.settle.new.state in
    let e = c.settle.ensures.state in
    let phase : new.phase ≡ phase_of new = settled_phase c.move_on.new.state new e in
    record {
      is = c.settle.ensures.value;
      phase = phase;
      working = λ not_done. phase ∙ working new (ap (λ s. s.done) e ∙ (c.move_on.ensures.moves.moves_on.goes_on.done ∙ not_done));
      over = λ r. is_over new c.settle.ensures.standing (sym phase ∙ complete_answer new.phase (sym c.settle.ensures.value ∙ r));
      completes = λ over. c.settle.ensures.value ∙ ap progress_of (phase ∙ over_complete new c.settle.ensures.standing over);
    }

pub returns-clause-in_full : goal.returns-clause-in_full
returns-clause-in_full g c =
    record {
      calls =
          let mid : State = c.move_on.new.state in
          let p = c.args.port.now in
          let q = c.move_on.new.port in
          let posts : State → List Call = λ s. posts_below s (g.P.Port.view p).sent (g.P.Port.view q).sent (links s.dims) in
          c.in_ok-move_on.ensures.in_full.calls ∙ ap (λ (t : State). ((g.P.Port.view p).calls ++ collects_of t) ++ posts mid) c.self.view_is
          ∙ ap (λ s. ((g.P.Port.view p).calls ++ collects_of c.args.self.now) ++ posts s) (sym c.settle.ensures.state);
      served =
          let now : State = c.args.self.now in
          let mid : State = c.move_on.new.state in
          let new : State = c.settle.new.state in
          let e = c.settle.ensures.state in
          let p = c.args.port.now in
          let q = c.move_on.new.port in
          let sent = (g.P.Port.view p).sent in
          let sent' = (g.P.Port.view q).sent in
          let crowded : ℕ → Bool = is_crowded (g.P.Port.view q) in
          let k = subst (λ (t : State). HasServed t mid sent sent' (g.P.Port.view p).looks_out (g.P.Port.view q).looks_out crowded) c.self.view_is c.in_ok-move_on.ensures.in_full.served in
          let cap : now.cap ≡ g.row.CAP = subst (λ (t : State). t.cap ≡ g.row.CAP) c.self.view_is c.move_on.ensures.moves.cap_is in
          let same : new.dims ≡ now.dims = ap (λ s. s.dims) e ∙ (c.move_on.ensures.moves.ready.same_dims ∙ c.requires.may.at_port.same_dims) in
          let ending : (l : ℕ) → l < links now.dims → sender_at now.dims l ≡ now.rank → at_end new.dims new.ins new.done (hop_at new.dims l) ≡ true → (out_of new l).closed ≡ false → crowded l ≡ true = λ l below from ends open'.
          (k.served l below from).crowded (subst (λ s. IsDue s l) e (due_ending new l ends open')) in
          record {
            each = λ l below from.
                let w = k.served l below from in
                subst (λ s. WasServed s l ((g.P.Port.view p).looks_out l) ((g.P.Port.view q).looks_out l) (crowded l)) (sym e) (record { looked = w.looked; crowded = w.crowded });
            full = λ l below from stays full. k.full l below from stays (full ∙ sym cap);
            ending = ending;
            closing = λ l below from says arrived open'.
                ending l below from (reaches_end new l c.settle.ensures.standing (subst (λ ds. l < links ds) (sym same) below) (λ one. says (sym (ap (λ ds. hop_at ds l) same) ∙ one)) arrived) open';
            stopped = λ l x below to less.
                subst (λ s. slice_get (in_of s l).parcel.untaken 0 ≡ Some x → NextIs now.dims now.rank l x.tag (IsHeldUpAt g.row.CAP s sent sent' crowded)) (sym e)
                (λ at. next_map now.dims now.rank l x.tag (IsHeldUpAt now.cap mid sent sent' crowded) (IsHeldUpAt g.row.CAP (record mid { phase = phase_of mid; pulled = None }) sent sent' crowded)
                (λ m b from hop held. same_held now.cap g.row.CAP mid (phase_of mid) sent sent' crowded m cap held) (k.stopped l x below to less at));
          };
    }

pub returns-in_err-move_on-clause-stops : goal.returns-in_err-move_on-clause-stops
returns-in_err-move_on-clause-stops g c =
    let k = subst (λ (t : State). MovesOn t c.move_on.new.state c.args.done (g.P.Port.view c.args.port.now).sent (g.P.Port.view c.move_on.new.port).sent (g.P.Port.view c.args.port.now).got (g.P.Port.view c.move_on.new.port).got
    (g.P.Port.view c.args.port.now).noted (g.P.Port.view c.move_on.new.port).noted (is_idle (g.P.Port.view c.move_on.new.port))) c.self.view_is c.move_on.ensures.moves.moves_on in
    let mid : State = c.move_on.new.state in
    let p = c.args.port.now in
    let q = c.move_on.new.port in
    λ err. record { phase = k.goes_on.phase; at = subst (λ (t : State). StopsAt mid (g.P.Port.view p).sent (g.P.Port.view q).sent ((g.P.Port.view p).calls ++ collects_of t) (g.P.Port.view q).calls) c.self.view_is (c.in_err-move_on.ensures.stops (search rules)).at }

pub invariant_of-self-2 : goal.invariant_of-self-2
invariant_of-self-2 g c =
    let mid : State = c.move_on.new.state in
    let e = c.settle.ensures.state in
    let k = c.move_on.ensures.moves.conveyor in
    record {
      hops_all = ap (λ s. length s.dims) e ∙ k.hops_all;
      sent = λ p. ap (λ s. all_closed s.outs) e ∙ cleanup_sent mid (sym (ap (λ s. s.phase) e) ∙ p);
      complete = λ p. sym (settled_phase mid c.settle.new.state e) ∙ p;
      none_back = λ p. ap (λ s. s.pulled) e;
    }
