-- What a turn leaves of a node.
use Rattle.std.proofs.Common.{◌≡◌, ◌≢◌, ℕ, ◌*◌, ◌≤◌, ◌==◌, Bool, true, false, cond, List, length, None, refl, sym, ap, subst, ◌∙◌, arith, eqb-true, inl, inr}
use Rattle.std.proofs.lemmas.Bool.{cases_Bool, true≢false, eq-eqb}
use Rattle.route_tensor.specs.Grid.{ranks}
use Rattle.port_bank.specs.Logs.{Logs}
use Rattle.hop_core.specs.declared.phase.Phase.TheVariants.{Dormant, Working}
use Rattle.hop_core.specs.State.{State}
use Rattle.convey.specs.Buffers.{buffers_of}
use Rattle.convey.specs.Conveyors.{AgreesWith, KeepsAgreement}
use Rattle.convey.specs.Law.{IsSound}
use Rattle.port_bank.specs.Machine.{Part, IsOwnStep}
use Rattle.convey.specs.Parts.{part_of}
use Rattle.convey.specs.Progress.{advance_step}
use Rattle.round_program.specs.Rules.{Rules}
use Rattle.round_program.specs.Orders.{after_pulls}
use Rattle.round_program.specs.Epochs.{heard, after_work}
use Rattle.rank_node.specs.declared.sends.Sends.{Sends}
use Rattle.rank_node.specs.Sending.{to_send, is_voting, epoch_of, spoiled_vote}
use Rattle.rank_node.specs.Runs.{Running, part_lists, HasTaken}
use Rattle.rank_node.specs.Pulls.{PushedOn}
use Rattle.rank_node.specs.Movers.{AllRead}
use Rattle.rank_node.specs.Movers.MoverState.{Conveying}
use Rattle.rank_node.specs.Nodes.{IsNode}
use Rattle.rank_node.proofs.Kept.{passed_same}
use Rattle.rank_node.proofs.Took.{taken_same}

-- an epoch of votes comes after its round's work
past_work : (round : ℕ) (voting : Bool) → voting ≡ true → (e : ℕ) → e ≡ epoch_of round voting → 2 * round ≡ e → ⊥
past_work round true v e is same = absurd (omega (arith, is, same))
past_work round false v e is same = absurd (cc)

-- after the pushes
pub pushed_taken : {S : Type 0} (R : Rules S) (p rank : ℕ) (h : ℕ → S) (round : ℕ) (sends : Sends) (next next' : ℕ) (prog : S) (sum : ℕ) (spoiled : Bool) (part part' : Part)
    → PushedOn (to_send R prog sends) p next next' part part' → next ≤ next' → next' ≤ length (to_send R prog sends)
    → HasTaken R p rank h round sends next prog sum spoiled part → HasTaken R p rank h round sends next' prog sum spoiled part'
pushed_taken R p rank h round sends next next' prog sum spoiled part part' on forward low is =
    let work : after_work R p h (part_lists part) round ≡ after_work R p h (part_lists part') round = ap (λ f. after_pulls R (h round) (f (2 * round)) p) (sym on.pulled) in
    record {
      passed = passed_same R p rank h round (is_voting sends) part part' (record { epoch = on.epoch; pushed = on.elsewhere; pulled = λ e d a. ap (λ f. f e d) on.pulled }) is.passed;
      within = record {
        next_low = low;
        all_pushed = λ d. omega (arith, forward, low, is.within.all_pushed (sym on.done ∙ d));
        pushed = on.pushed is.within.pushed;
        emissions = is.within.emissions;
        nothing = is.within.nothing;
        works = λ clean. is.within.works clean ∙ work;
        vote = λ v q s. ((is.within.vote v q s).0, (is.within.vote v q s).1 ∙ ap (λ t. cond spoiled spoiled_vote (R.vote t)) work);
        emitted_all = λ b clean d low'. on.elsewhere (2 * round) d (λ q. past_work round (is_voting sends) b part.epoch is.passed.epoch q) ∙ is.within.emitted_all b clean d low';
        hears = λ b. is.within.hears b ∙ ap (λ f. heard p (record { pushed = part.pushed; pulled = f }) round) (sym on.pulled);
      };
    }

-- after the advance, which says that the rank is done where all is pushed
pub advanced_taken : {S : Type 0} (R : Rules S) (p rank : ℕ) (h : ℕ → S) (round : ℕ) (sends : Sends) (next : ℕ) (prog : S) (sum : ℕ) (spoiled : Bool) (part part' : Part) (was now complete : Bool)
    → (now ≡ true → next ≡ length (to_send R prog sends)) → IsOwnStep (advance_step was now complete) part part'
    → HasTaken R p rank h round sends next prog sum spoiled part → HasTaken R p rank h round sends next prog sum spoiled part'
advanced_taken R p rank h round sends next prog sum spoiled part part' false true complete all step is =
    subst (HasTaken R p rank h round sends next prog sum spoiled) (sym step.is)
    (record {
      passed = passed_same R p rank h round (is_voting sends) part (record part { latest = None; done = true }) (record { epoch = refl; pushed = λ e d a. refl; pulled = λ e d a. refl }) is.passed;
      within = record {
        next_low = is.within.next_low;
        all_pushed = λ d. all refl;
        pushed = is.within.pushed;
        emissions = is.within.emissions;
        nothing = is.within.nothing;
        works = is.within.works;
        vote = is.within.vote;
        emitted_all = is.within.emitted_all;
        hears = is.within.hears;
      };
    })
advanced_taken R p rank h round sends next prog sum spoiled part part' true true true all step is = taken_same R p rank h round sends next prog sum spoiled part part' step.is is
advanced_taken R p rank h round sends next prog sum spoiled part part' true true false all step is = taken_same R p rank h round sends next prog sum spoiled part part' step.is is
advanced_taken R p rank h round sends next prog sum spoiled part part' true false true all step is = taken_same R p rank h round sends next prog sum spoiled part part' step.is is
advanced_taken R p rank h round sends next prog sum spoiled part part' true false false all step is = taken_same R p rank h round sends next prog sum spoiled part part' step.is is
advanced_taken R p rank h round sends next prog sum spoiled part part' false false true all step is = taken_same R p rank h round sends next prog sum spoiled part part' step.is is
advanced_taken R p rank h round sends next prog sum spoiled part part' false false false all step is = taken_same R p rank h round sends next prog sum spoiled part part' step.is is

-- what pushing leaves of a node
pub record AfterPush {S : Type 0} (R : Rules S) (run : Running S) (c0 c : State) (next : ℕ) (sent got : Logs) : Type 0 where
  pub same : c ≡ record c0 { outs = c.outs; pulled = c.pulled }
  pub agrees : AgreesWith c sent got
  pub on : PushedOn (to_send R run.prog run.sends) (ranks c0.dims) run.next next (part_of (buffers_of c0) sent got) (part_of (buffers_of c) sent got)
  pub forward : run.next ≤ next
  pub low : next ≤ length (to_send R run.prog run.sends)

-- what the advance leaves
pub record AfterAdvance (c c' : State) (done complete : Bool) (sent got sent' got' : Logs) : Type 0 where
  pub agrees : AgreesWith c' sent' got'
  pub dims : c'.dims ≡ c.dims
  pub rank : c'.rank ≡ c.rank
  pub done_is : c'.done ≡ done
  pub begun : c'.phase ≢ Dormant
  pub working : done ≡ false → c'.phase ≡ Working
  pub step : IsOwnStep (advance_step c.done done complete) (part_of (buffers_of c) sent got) (part_of (buffers_of c') sent' got')

-- what taking in leaves
pub record AfterTakes {S : Type 0} (R : Rules S) (voting : Bool) (c c' : State) (prog prog' : S) (sum sum' : ℕ) (spoiled spoiled' : Bool) (sent got : Logs) : Type 0 where
  pub same : c' ≡ record c { ins = c'.ins; pulled = c'.pulled }
  pub kept : KeepsAgreement c c'
  pub read : AllRead c'
  pub sound : IsSound (buffers_of c')
  pub taken : (h : ℕ → S) (rank round next : ℕ) (sends : Sends) → is_voting sends ≡ voting → AgreesWith c sent got
      → HasTaken R (ranks c.dims) rank h round sends next prog sum spoiled (part_of (buffers_of c) sent got)
      → HasTaken R (ranks c.dims) rank h round sends next prog' sum' spoiled' (part_of (buffers_of c') sent got)

pub moved : {S : Type 0} (R : Rules S) (h : ℕ → S) (run : Running S) (c0 c1 c2 c3 : State) (next : ℕ) (prog : S) (sum : ℕ) (spoiled done complete voting : Bool) (sent got sent' got' : Logs)
    → AfterPush R run c0 c1 next sent got → done ≡ (next == length (to_send R run.prog run.sends)) → AfterAdvance c1 c2 done complete sent got sent' got' → is_voting run.sends ≡ voting
    → AfterTakes R voting c2 c3 run.prog prog run.sum sum run.spoiled spoiled sent' got' → IsNode R h (record { run = run; mover = Conveying c0 }) sent got
    → IsNode R h (record { run = record { prog = prog; round = run.round; sends = run.sends; next = next; sum = sum; spoiled = spoiled }; mover = Conveying c3 }) sent' got'
moved R h run c0 c1 c2 c3 next prog sum spoiled done complete voting sent got sent' got' push all adv is_v takes is =
    let p0 = ranks c0.dims in
    let r0 = c0.rank in
    let dims1 : c1.dims ≡ c0.dims = ap (λ (c : State). c.dims) push.same in
    let rank1 : c1.rank ≡ c0.rank = ap (λ (c : State). c.rank) push.same in
    let dims2 : c2.dims ≡ c0.dims = adv.dims ∙ dims1 in
    let dims3 : c3.dims ≡ c2.dims = ap (λ (c : State). c.dims) takes.same in
    let rank3 : c3.rank ≡ c0.rank = ap (λ (c : State). c.rank) takes.same ∙ (adv.rank ∙ rank1) in
    let phase3 : c3.phase ≡ c2.phase = ap (λ (c : State). c.phase) takes.same in
    let done3 : c3.done ≡ done = ap (λ (c : State). c.done) takes.same ∙ adv.done_is in
    let all_pushed : done ≡ true → next ≡ length (to_send R run.prog run.sends) = λ d. eqb-true next (length (to_send R run.prog run.sends)) (sym all ∙ d) in
    let h0 : HasTaken R p0 r0 h run.round run.sends run.next run.prog run.sum run.spoiled (part_of (buffers_of c0) sent got) = record { passed = is.passed; within = is.within } in
    let h1 : HasTaken R p0 r0 h run.round run.sends next run.prog run.sum run.spoiled (part_of (buffers_of c1) sent got) =
    pushed_taken R p0 r0 h run.round run.sends run.next next run.prog run.sum run.spoiled (part_of (buffers_of c0) sent got) (part_of (buffers_of c1) sent got) push.on push.forward push.low h0 in
    let h2 : HasTaken R p0 r0 h run.round run.sends next run.prog run.sum run.spoiled (part_of (buffers_of c2) sent' got') =
    advanced_taken R p0 r0 h run.round run.sends next run.prog run.sum run.spoiled (part_of (buffers_of c1) sent got) (part_of (buffers_of c2) sent' got') c1.done done complete all_pushed adv.step h1 in
    let h3 : HasTaken R (ranks c2.dims) r0 h run.round run.sends next prog sum spoiled (part_of (buffers_of c3) sent' got') =
    takes.taken h r0 run.round next run.sends is_v adv.agrees (subst (λ (d : List ℕ). HasTaken R (ranks d) r0 h run.round run.sends next run.prog run.sum run.spoiled (part_of (buffers_of c2) sent' got')) (sym dims2) h2) in
    let h4 : HasTaken R (ranks c3.dims) c3.rank h run.round run.sends next prog sum spoiled (part_of (buffers_of c3) sent' got') =
    subst (λ r. HasTaken R (ranks c3.dims) r h run.round run.sends next prog sum spoiled (part_of (buffers_of c3) sent' got')) (sym rank3)
    (subst (λ (d : List ℕ). HasTaken R (ranks d) r0 h run.round run.sends next prog sum spoiled (part_of (buffers_of c3) sent' got')) (sym dims3) h3) in
    record {
      paced = tt;
      moving = record {
        begun = λ e. adv.begun (sym phase3 ∙ e);
        working = λ d. phase3 ∙ adv.working (sym done3 ∙ d);
        sound = takes.sound;
        agrees = takes.kept sent' got' adv.agrees;
        read = takes.read;
      };
      passed = h4.passed;
      within = h4.within;
    }

-- a rank that isn't done after its pushes is still working
pub still_working : {S : Type 0} (R : Rules S) (h : ℕ → S) (run : Running S) (c0 c : State) (next : ℕ) (sent got : Logs)
    → AfterPush R run c0 c next sent got → IsNode R h (record { run = run; mover = Conveying c0 }) sent got → (next == length (to_send R run.prog run.sends)) ≡ false → c.phase ≡ Working
still_working R h run c0 c next sent got push is left =
    ap (λ (t : State). t.phase) push.same ∙ is.moving.working
    (elim (cases_Bool c0.done) [
      | inl d ↦ absurd (true≢false (sym (eq-eqb next (length (to_send R run.prog run.sends)) (omega (arith, push.forward, push.low, is.within.all_pushed d))) ∙ left))
      | inr d ↦ d
    ])

-- and one that is done has pushed all
pub done_stays : {S : Type 0} (R : Rules S) (h : ℕ → S) (run : Running S) (c0 c : State) (next : ℕ) (sent got : Logs)
    → AfterPush R run c0 c next sent got → IsNode R h (record { run = run; mover = Conveying c0 }) sent got → c.done ≡ true → (next == length (to_send R run.prog run.sends)) ≡ true
done_stays R h run c0 c next sent got push is d =
    let was : c0.done ≡ true = sym (ap (λ (t : State). t.done) push.same) ∙ d in
    eq-eqb next (length (to_send R run.prog run.sends)) (omega (arith, push.forward, push.low, is.within.all_pushed was))
