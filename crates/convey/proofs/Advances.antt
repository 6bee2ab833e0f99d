-- An advance as a whole.
use Rattle.std.proofs.Common.{◌≡◌, ℕ, zero, suc, ◌+◌, Bool, true, false, List, [], ◌++◌, replicate, slice_index_or, Option, None, refl, sym, ap, subst, ◌∙◌}
use Rattle.std.specs.List.{All}
use Rattle.std.proofs.lemmas.Bool.{false≢true}
use Rattle.std.proofs.lemmas.List.Elements.{All-append}
use Rattle.item_buffer.specs.Contents.{Shipped}
use Rattle.route_tensor.specs.Ends.{hop_at}
use Rattle.route_tensor.specs.Tag.{IsFair}
use Rattle.route_tensor.specs.Neighbour.{out_index, in_index}
use Rattle.port_bank.specs.Port.{PortView, is_crowded, is_idle}
use Rattle.port_bank.specs.Logs.{Logs, lasts_in}
use Rattle.port_bank.specs.Shapes.{IsFilled, IsConveyorShape}
use Rattle.port_bank.specs.Flow.{hop_link}
use Rattle.route_tensor.specs.Pair.{belongs}
use Rattle.port_bank.proofs.Closing.{law_nothing}
use Rattle.port_bank.proofs.Fronts.{begins_nil}
use Rattle.hop_core.specs.declared.phase.Phase.{Phase}
use Rattle.hop_core.specs.Link.{no_out, no_in}
use Rattle.hop_core.specs.declared.phase.Phase.TheVariants.{Dormant, Working, Endgame, Cleanup}
use Rattle.hop_core.specs.declared.phase.Phase.TheVariants.{Complete as Over}
use Rattle.convey.specs.Advance.{ListsGrow, WereAsked}
use Rattle.convey.specs.declared.progress.Progress.TheVariants.{Complete as Whole}
use Rattle.hop_core.specs.State.{State, phase_of}
use Rattle.port_bank.specs.Machine.{Part, IsOwnStep}
use Rattle.convey.specs.Buffers.{out_of, in_of, is_complete, back_of, buffers_of}
use Rattle.convey.specs.Agreement.{items_among, with_latest, Agrees}
use Rattle.convey.specs.Due.{IsOver, IsHeldUpAt}
use Rattle.convey.specs.Parts.{part_of}
use Rattle.convey.specs.Progress.{advance_step, progress_of}
use Rattle.convey.specs.AdvanceSteps.{GoesOn, MovesOn}
use Rattle.convey.proofs.Moves.{forget_agrees, marks_agree, all_none}
use Rattle.convey.proofs.Movements.{not_true}

-- the step of the machine
step_by : (was now complete before : Bool) (p q : Part) → p.done ≡ was → q.done ≡ now → p.complete ≡ before → q.complete ≡ complete → q.epoch ≡ p.epoch → q.latest ≡ None → q.pushed ≡ p.pushed → q.pulled ≡ p.pulled
    → (was ≡ true → now ≡ true) → (was ≡ false → now ≡ true → complete ≡ false) → (before ≡ true → (was ≡ true) × (complete ≡ true)) → IsOwnStep (advance_step was now complete) p q
step_by false true complete before p q a b c e f l u v stays first over =
    let open' : before ≡ false = not_true before (λ t. false≢true (over t).0) in
    record { may = tt; is = λ i. record { epoch = f i; done = b i; complete = (e ∙ (first refl refl ∙ sym (c ∙ open'))) i; latest = l i; pushed = u i; pulled = v i } }
step_by false false true before p q a b c e f l u v stays first over = record { may = tt; is = λ i. record { epoch = f i; done = (b ∙ sym a) i; complete = e i; latest = l i; pushed = u i; pulled = v i } }
step_by false false false before p q a b c e f l u v stays first over =
    let open' : before ≡ false = not_true before (λ t. false≢true (over t).0) in
    record { may = tt; is = λ i. record { epoch = f i; done = (b ∙ sym a) i; complete = (e ∙ sym (c ∙ open')) i; latest = l i; pushed = u i; pulled = v i } }
step_by true true true before p q a b c e f l u v stays first over = record { may = tt; is = λ i. record { epoch = f i; done = (b ∙ sym a) i; complete = e i; latest = l i; pushed = u i; pulled = v i } }
step_by true true false before p q a b c e f l u v stays first over =
    let open' : before ≡ false = not_true before (λ t. false≢true (over t).1) in
    record { may = tt; is = λ i. record { epoch = f i; done = (b ∙ sym a) i; complete = (e ∙ sym (c ∙ open')) i; latest = l i; pushed = u i; pulled = v i } }
step_by true false complete before p q a b c e f l u v stays first over = absurd (false≢true (stays refl))

pub advance_is : (old mid new : State) (done : Bool) (sent sent' got got' : Logs) → GoesOn (record old { done = done; pulled = None }) mid sent sent' got got' → (old.done ≡ true → done ≡ true)
    → new ≡ record mid { phase = new.phase; pulled = None } → (old.done ≡ false → done ≡ true → is_complete new.phase ≡ false) → (is_complete old.phase ≡ true → (old.done ≡ true) × (is_complete new.phase ≡ true))
    → IsOwnStep (advance_step old.done done (is_complete new.phase)) (part_of (buffers_of old) sent got) (part_of (buffers_of new) sent' got')
advance_is old mid new done sent sent' got got' k stays e first over =
    let target : State = record mid { phase = new.phase; pulled = None } in
    subst (λ n. IsOwnStep (advance_step old.done done (is_complete new.phase)) (part_of (buffers_of old) sent got) (part_of (buffers_of n) sent' got')) (sym e)
    (step_by old.done done (is_complete new.phase) (is_complete old.phase) (part_of (buffers_of old) sent got) (part_of (buffers_of target) sent' got')
    refl k.done refl refl k.epoch refl (ap (λ p. p.pushed) k.part) (ap (λ p. p.pulled) k.part) stays first over)

-- settling
pub settled_agrees : (st : State) (phase : Phase) (sent got : Logs) → Agrees (buffers_of st) sent got → Agrees (buffers_of (record st { phase = phase; pulled = None })) sent got
settled_agrees st phase sent got a = forget_agrees (record (buffers_of st) { complete = is_complete phase }) sent got (marks_agree (buffers_of st) st.done (is_complete phase) sent got a)

pub over_before : (mid new : State) → new ≡ record mid { phase = phase_of mid; pulled = None } → IsOver new → IsOver mid
over_before mid new e v =
    let w : IsOver (record mid { phase = phase_of mid; pulled = None }) = subst IsOver e v in
    record { done = w.done; closed = w.closed; ended = w.ended; read = w.read }

pub phase_of-settled : (st : State) (phase : Phase) (pulled : Option ℕ) → phase_of (record st { phase = phase; pulled = pulled }) ≡ phase_of st
unfolding phase_of
phase_of-settled st phase pulled = refl

pub same_held : (was cap : ℕ) (st : State) (phase : Phase) (sent sent' : Logs) (is_crowded : ℕ → Bool) (m : ℕ) → was ≡ cap → IsHeldUpAt was st sent sent' is_crowded m
    → IsHeldUpAt cap (record st { phase = phase; pulled = None }) sent sent' is_crowded m
same_held was cap st phase sent sent' is_crowded m e held =
    let new : State = record st { phase = phase; pulled = None } in
    subst (λ n. IsHeldUpAt n new sent sent' is_crowded m) e (record { full = held.full; crowded = held.crowded })

pub forgotten : (st : State) → st.pulled ≡ None → st ≡ record st { phase = st.phase; pulled = None }
forgotten st e = λ i. record st { pulled = e i }

pub not_over : (p q : Phase) → is_complete p ≡ false → q ≡ p → q ≡ Over → ⊥
not_over p q open' e h = false≢true (sym open' ∙ ap is_complete (sym e ∙ h))

-- what the answer tells
pub complete_answer : (p : Phase) → progress_of p ≡ Whole → p ≡ Over
complete_answer Dormant h = cc
complete_answer Working h = cc
complete_answer Endgame h = cc
complete_answer Cleanup h = cc
complete_answer Over h = refl

-- a conveyor that is new
replicate_or : {X : Type 0} (n i : ℕ) (x : X) → slice_index_or (replicate n x) i x ≡ x
replicate_or zero i x = refl
replicate_or (suc n) zero x = refl
replicate_or (suc n) (suc i) x = replicate_or n i x

pub new_agrees : (st : State) (n m : ℕ) → st.outs ≡ replicate n no_out → st.ins ≡ replicate m no_in → st.epoch ≡ 0 → st.pulled ≡ None → Agrees (buffers_of st) (λ l. []) (λ l. [])
new_agrees st n m outs ins epoch pulled =
    let out : (l : ℕ) → out_of st l ≡ no_out = λ l. ap (λ os. slice_index_or os (out_index st.dims l) no_out) outs ∙ replicate_or n (out_index st.dims l) no_out in
    let in' : (l : ℕ) → in_of st l ≡ no_in = λ l. ap (λ is. slice_index_or is (in_index st.dims l) no_in) ins ∙ replicate_or m (in_index st.dims l) no_in in
    let waits : (l : ℕ) → (out_of st l).parcel.untaken ≡ [] = λ l. ap (λ o. o.parcel.untaken) (out l) in
    let lies : (l : ℕ) → with_latest (back_of st st.pulled) l (in_of st l).parcel.untaken ≡ [] = λ l. (λ i. with_latest (back_of st (pulled i)) l (in_of st l).parcel.untaken) ∙ ap (λ x. x.parcel.untaken) (in' l) in
    record {
      outs = λ l h from. record {
        lasts = sym (λ i. lasts_in (epoch i) (out l i).closed);
        by_last = λ c. absurd (false≢true (sym (ap (λ o. o.closed) (out l)) ∙ c));
        fair = subst (All (λ e. IsFair st.dims (hop_at st.dims l) e.tag)) (sym (waits l)) (all_none (λ e. IsFair st.dims (hop_at st.dims l) e.tag));
      };
      ins = λ l h to. record {
        lasts = sym (λ i. lasts_in (epoch i) (in' l i).ended);
        by_last = λ c. absurd (false≢true (sym (ap (λ x. x.ended) (in' l)) ∙ c));
        fair = subst (All (λ e. IsFair st.dims (hop_at st.dims l) e.tag)) (sym (lies l)) (all_none (λ e. IsFair st.dims (hop_at st.dims l) e.tag));
      };
      law = law_nothing st.dims st.rank (λ l. []);
      pairs = λ x y h pair. sym (λ i. items_among (belongs st.dims x y (h + 1)) (waits (hop_link st.dims x y (h + 1)) i) ++ items_among (belongs st.dims x y h) (ap (λ z. z.parcel.untaken) (in' (hop_link st.dims x y h)) i));
      arrived = λ l h to at. record { front = []; is = sym (lies l) };
      own = λ l h from to. begins_nil [];
    }

-- what moving on leaves, in the groups of an advance, where mid is the state before the phase
-- settles
module _ (cap : ℕ) (old mid : State) (told : Bool) (p q : PortView)
    (k : MovesOn old mid told p.sent q.sent p.got q.got p.noted q.noted (is_idle q)) where
  pub lists_grow : old.cap ≡ cap → ListsGrow cap old p q
  lists_grow e =
      let fills : (l : ℕ) (more : List Shipped) → q.sent l ≡ p.sent l ++ more → IsConveyorShape old.steady cap more = λ l more is.
      subst (λ n. IsConveyorShape old.steady n more) e (k.goes_on.fills l more is) in
      record {
        sent_grows = k.goes_on.sent_grows;
        got_grows = k.goes_on.got_grows;
        one_sent = k.one_sent;
        one_got = k.one_got;
        fills = fills;
        shape = λ l before.
            let b = k.goes_on.sent_grows l in
            subst (IsConveyorShape old.steady cap) (sym b.is) (All-append (λ (s : Shipped). s.last ≡ false → IsFilled old.steady cap s) (p.sent l) b.rest before (fills l b.rest b.is));
      }

  pub were_asked : (phase : Phase) (pulled : Option ℕ) → WereAsked old (record mid { phase = phase; pulled = pulled }) p q
  were_asked phase pulled = record { left = k.left; unasked = k.unasked; rose = k.asked; idle = k.idle; lies = k.lies }
