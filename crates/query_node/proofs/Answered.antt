-- One more query is pulled, and its answer pushed.
use Rattle.std.proofs.Common.{◌≡◌, ℕ, suc, ◌+◌, ◌<◌, ◌≤◌, [], ◌∷◌, ◌++◌, length, Some, None, refl, sym, ap, subst, ◌∙◌, inl, inr, arith, add-one}
use Rattle.std.proofs.lemmas.Bool.{cases_eq}
use Rattle.std.proofs.lemmas.List.{map-append}
use Rattle.bale_items.specs.declared.item.Item.{Item}
use Rattle.route_tensor.specs.Grid.{ranks}
use Rattle.port_bank.specs.Machine.{Part, IsOwnStep, with_item}
use Rattle.port_bank.specs.Machine.Step.{Push, Pull, Idle}
use Rattle.hop_core.specs.Relay.{waiting}
use Rattle.hop_core.specs.State.{State, lowest_unread, pull_from, pulls}
use Rattle.hop_core.specs.declared.phase.Pushed.{Pushed}
use Rattle.hop_core.specs.declared.phase.Pushed.TheVariants.{Accepted, Full}
use Rattle.convey.specs.Buffers.{buffers_of, in_of}
use Rattle.convey.specs.Conveyors.{KeepsAgreement, IsStepOf, GivesNext}
use Rattle.convey.specs.Parts.{part_of}
use Rattle.round_program.specs.Talks.{Talk}
use Rattle.round_program.specs.Replies.{carrying, answers}
use Rattle.query_node.specs.Taking.{MayAnswer, AnswersOn, AnswersQueries, PushesAnswer, RefusesAnswer}
use Rattle.query_node.proofs.Offering.{item_here, item_other}
use Rattle.query_node.proofs.Pulling.{pulled_same, fewer_pulled, fewer_next}

-- on the parts
on_none : {S : Type 0} (T : Talk S) (s : S) (p : ℕ) (a r : Part) → AnswersOn T s p a a r r
on_none T s p a r = record { asked_epoch = refl; asked_pushed = refl; replied_epoch = refl; replied_pulled = refl; answered = λ is. is }

on_both : {S : Type 0} (T : Talk S) (s : S) (p : ℕ) (a b c r t u : Part) → AnswersOn T s p a b r t → AnswersOn T s p b c t u → AnswersOn T s p a c r u
on_both T s p a b c r t u f g =
    record {
      asked_epoch = g.asked_epoch ∙ f.asked_epoch;
      asked_pushed = g.asked_pushed ∙ f.asked_pushed;
      replied_epoch = g.replied_epoch ∙ f.replied_epoch;
      replied_pulled = g.replied_pulled ∙ f.replied_pulled;
      answered = λ is. g.answered (f.answered is);
    }

on_one : {S : Type 0} (T : Talk S) (s : S) (p from : ℕ) (x : Item) (a a' r r' : Part) → IsOwnStep (Pull from x) a a' → IsOwnStep (Push from (carrying (T.answer s from x.a))) r r' → AnswersOn T s p a a' r r'
on_one T s p from x a a' r r' pull push =
    let y : Item = carrying (T.answer s from x.a) in
    subst (λ b. AnswersOn T s p a b r r') (sym pull.is)
    (subst (λ t. AnswersOn T s p a (record a { latest = Some from; pulled = with_item a.pulled a.epoch from x }) r t) (sym push.is)
    (record {
      asked_epoch = refl;
      asked_pushed = refl;
      replied_epoch = refl;
      replied_pulled = refl;
      answered = λ before f low. elim (cases_eq f from) [
        | inl here ↦
            subst (λ t. with_item r.pushed r.epoch from y r.epoch t ≡ r.pushed r.epoch t ++ y ∷ []) (sym here) (item_here r.pushed r.epoch from y)
            ∙ (ap (λ xs. xs ++ y ∷ []) (before f low)
            ∙ (ap (λ k. answers T s f (a.pulled a.epoch f) ++ carrying (T.answer s k x.a) ∷ []) (sym here)
            ∙ (sym (map-append (λ (z : Item). carrying (T.answer s f z.a)) (a.pulled a.epoch f) (x ∷ []))
            ∙ ap (answers T s f) (sym (subst (λ t. with_item a.pulled a.epoch from x a.epoch t ≡ a.pulled a.epoch t ++ x ∷ []) (sym here) (item_here a.pulled a.epoch from x))))))
        | inr apart ↦
            item_other r.pushed r.epoch from y f apart ∙ (before f low ∙ ap (answers T s f) (sym (item_other a.pulled a.epoch from x f apart)))
      ];
    }))

on_idle : {S : Type 0} (T : Talk S) (s : S) (p : ℕ) (a a' r r' : Part) → IsOwnStep Idle a a' → IsOwnStep Idle r r' → AnswersOn T s p a a' r r'
on_idle T s p a a' r r' left right =
    subst (λ b. AnswersOn T s p a b r r') (sym left.is)
    (subst (λ t. AnswersOn T s p a (record a { latest = None }) r t) (sym right.is) (record { asked_epoch = refl; asked_pushed = refl; replied_epoch = refl; replied_pulled = refl; answered = λ is. is }))

on_refused : {S : Type 0} (T : Talk S) (s : S) (p : ℕ) (a r r' : Part) → IsOwnStep Idle r r' → AnswersOn T s p a a r r'
on_refused T s p a r r' right =
    subst (λ t. AnswersOn T s p a a r t) (sym right.is) (record { asked_epoch = refl; asked_pushed = refl; replied_epoch = refl; replied_pulled = refl; answered = λ is. is })

on_unread : {S : Type 0} (T : Talk S) (s : S) (p : ℕ) (a a' r : Part) → IsOwnStep Idle a a' → AnswersOn T s p a a' r r
on_unread T s p a a' r left =
    subst (λ t. AnswersOn T s p a t r r) (sym left.is) (record { asked_epoch = refl; asked_pushed = refl; replied_epoch = refl; replied_pulled = refl; answered = λ is. is })

-- on the conveyors
pub answers_none : {S : Type 0} (T : Talk S) (s : S) (q r : State) → AnswersQueries T s q q r r
answers_none T s q r =
    record {
      same = refl;
      same_replies = refl;
      fewer = λ l. omega arith;
      kept = λ sent got a. a;
      kept_replies = λ sent got a. a;
      on = λ asking asked replying replied a b. on_none T s (ranks q.dims) (part_of (buffers_of q) asking asked) (part_of (buffers_of r) replying replied);
    }

pub answers_both : {S : Type 0} (T : Talk S) (s : S) (q q1 q2 r r1 r2 : State) → AnswersQueries T s q q1 r r1 → AnswersQueries T s q1 q2 r1 r2 → AnswersQueries T s q q2 r r2
answers_both T s q q1 q2 r r1 r2 f g =
    let dims : ranks q1.dims ≡ ranks q.dims = ap (λ (t : State). ranks t.dims) f.same in
    record {
      same = g.same ∙ ap (λ (t : State). record t { ins = q2.ins; pulled = q2.pulled }) f.same;
      same_replies = g.same_replies ∙ ap (λ (t : State). record t { outs = r2.outs; pulled = r2.pulled }) f.same_replies;
      fewer = λ l. omega (arith, f.fewer l, g.fewer l);
      kept = λ sent got a. g.kept sent got (f.kept sent got a);
      kept_replies = λ sent got a. g.kept_replies sent got (f.kept_replies sent got a);
      on = λ asking asked replying replied a b. on_both T s (ranks q.dims) (part_of (buffers_of q) asking asked) (part_of (buffers_of q1) asking asked) (part_of (buffers_of q2) asking asked)
          (part_of (buffers_of r) replying replied) (part_of (buffers_of r1) replying replied) (part_of (buffers_of r2) replying replied)
          (f.on asking asked replying replied a b)
          (subst (λ p. AnswersOn T s p (part_of (buffers_of q1) asking asked) (part_of (buffers_of q2) asking asked) (part_of (buffers_of r1) replying replied) (part_of (buffers_of r2) replying replied)) dims
          (g.on asking asked replying replied (f.kept asking asked a) (f.kept_replies replying replied b)));
    }

-- after so many pulls of one inbox as after n, and one more, with its answer
pub answers_next : {S : Type 0} (T : Talk S) (s : S) (cap n from from' : ℕ) (x : Item) (q r r1 r2 : State) (result : Pushed) → AnswersQueries T s q (pulls n q) r r1 → GivesNext (pulls n q) from x → from' ≡ from
    → PushesAnswer T s cap from' x result r1 r2 → result ≡ Accepted → AnswersQueries T s q (pulls (n + 1) q) r r2
answers_next T s cap n from from' x q r r1 r2 result f next same push accepted =
    let c : State = pulls n q in
    let c' : State = pulls (suc n) q in
    let one : AnswersQueries T s c c' r1 r2 = record {
      same = pulled_same c (lowest_unread c);
      same_replies = push.same;
      fewer = fewer_pulled c (lowest_unread c);
      kept = next.kept;
      kept_replies = push.kept;
      on = λ asking asked replying replied a b. on_one T s (ranks c.dims) from x (part_of (buffers_of c) asking asked) (part_of (buffers_of c') asking asked)
          (part_of (buffers_of r1) replying replied) (part_of (buffers_of r2) replying replied) (next.step asking asked a)
          (subst (λ k. IsOwnStep (Push k (carrying (T.answer s k x.a))) (part_of (buffers_of r1) replying replied) (part_of (buffers_of r2) replying replied)) same (push.accepted accepted replying replied b));
    } in
    subst (λ m. AnswersQueries T s q (pulls m q) r r2) (sym (add-one n)) (answers_both T s q c c' r r1 r2 f one)

-- an answer was refused
pub answers_refused : {S : Type 0} (T : Talk S) (s : S) (cap from : ℕ) (x : Item) (q c r r1 r2 : State) (result : Pushed) → AnswersQueries T s q c r r1 → PushesAnswer T s cap from x result r1 r2 → result ≡ Full → AnswersQueries T s q c r r2
answers_refused T s cap from x q c r r1 r2 result f push full =
    let one : AnswersQueries T s c c r1 r2 = record {
      same = refl;
      same_replies = push.same;
      fewer = λ l. omega arith;
      kept = λ sent got a. a;
      kept_replies = push.kept;
      on = λ asking asked replying replied a b. on_refused T s (ranks c.dims) (part_of (buffers_of c) asking asked) (part_of (buffers_of r1) replying replied) (part_of (buffers_of r2) replying replied)
          ((push.refused full).0 replying replied b);
    } in
    answers_both T s q c c r r1 r2 f one

-- it was looked for unread queries
pub answers_unread : {S : Type 0} (T : Talk S) (s : S) (q c c' r r1 : State) → AnswersQueries T s q c r r1 → c' ≡ record c { pulled = None } → KeepsAgreement c c' → IsStepOf Idle c c' → AnswersQueries T s q c' r r1
answers_unread T s q c c' r r1 f new kept step =
    let one : AnswersQueries T s c c' r1 r1 = record {
      same = subst (λ (t : State). t ≡ record c { ins = t.ins; pulled = t.pulled }) (sym new) refl;
      same_replies = refl;
      fewer = λ l. omega (arith, ap (λ (t : State). length (in_of t l).parcel.untaken) new);
      kept = kept;
      kept_replies = λ sent got a. a;
      on = λ asking asked replying replied a b. on_unread T s (ranks c.dims) (part_of (buffers_of c) asking asked) (part_of (buffers_of c') asking asked) (part_of (buffers_of r1) replying replied) (step asking asked a);
    } in
    answers_both T s q c c' r r1 r1 f one

-- and more may be answered
pub may_still : {S : Type 0} (T : Talk S) (s : S) (q q' r r' : State) → AnswersQueries T s q q' r r' → MayAnswer q r → MayAnswer q' r'
may_still T s q q' r r' f may = record {
  begun = λ e. may.begun (sym (ap (λ (t : State). t.phase) f.same) ∙ e);
  same_dims = ap (λ (t : State). t.dims) f.same_replies ∙ (may.same_dims ∙ sym (ap (λ (t : State). t.dims) f.same));
  working = ap (λ (t : State). t.phase) f.same_replies ∙ may.working;
  not_done = ap (λ (t : State). t.done) f.same_replies ∙ may.not_done;
}

-- pushes of answers to the first so many queries of an inbox
pub record Replying {S : Type 0} (T : Talk S) (s : S) (n count : ℕ) (q r r1 : State) : Type 0 where
  pub number : count ≡ n
  pub answers : AnswersQueries T s q (pulls n q) r r1
  pub fewer : n + waiting (pulls n q).ins ≤ waiting q.ins

pub replying_next : {S : Type 0} (T : Talk S) (s : S) (cap n count from from' : ℕ) (x : Item) (q r r1 r2 : State) (result : Pushed) → Replying T s n count q r r1 → GivesNext (pulls n q) from x → from' ≡ from
    → PushesAnswer T s cap from' x result r1 r2 → result ≡ Accepted → Replying T s (n + 1) (count + 1) q r r2
replying_next T s cap n count from from' x q r r1 r2 result is next same push accepted =
    record {
      number = ap (λ k. k + 1) is.number;
      answers = answers_next T s cap n from from' x q r r1 r2 result is.answers next same push accepted;
      fewer = fewer_next q n from x (waiting q.ins) is.fewer next;
    }

-- the asker is one of the ranks
pub reply_sender : {S : Type 0} (T : Talk S) (s : S) (n count from from' : ℕ) (q r r1 : State) → Replying T s n count q r r1 → r.dims ≡ q.dims → from < ranks (pulls n q).dims → from' ≡ from → from' < ranks r1.dims
reply_sender T s n count from from' q r r1 is dims low same =
    let d : ranks (pulls n q).dims ≡ ranks q.dims = ap (λ (t : State). ranks t.dims) is.answers.same in
    let e : ranks r1.dims ≡ ranks r.dims = ap (λ (t : State). ranks t.dims) is.answers.same_replies in
    let f : ranks r.dims ≡ ranks q.dims = ap ranks dims in
    omega (arith, low, same, d, e, f)

-- to whom the answer to the query after those pulled was refused
pub refused_to : {S : Type 0} (T : Talk S) (s : S) (cap n count from from' : ℕ) (x : Item) (q r r1 r2 : State) (result : Pushed) → Replying T s n count q r r1 → GivesNext (pulls n q) from x → from' ≡ from → from' < ranks r1.dims
    → PushesAnswer T s cap from' x result r1 r2 → result ≡ Full → RefusesAnswer cap from' (pulls count q) r2
refused_to T s cap n count from from' x q r r1 r2 result is next same low push full =
    let d : ranks r2.dims ≡ ranks r1.dims = ap (λ (t : State). ranks t.dims) push.same in
    record {
      query = x;
      next = ap (λ k. pull_from (pulls k q) (lowest_unread (pulls k q))) is.number ∙ (next.value ∙ ap (λ k. Some (k, x)) (sym same));
      low = omega (arith, low, d);
      full = (push.refused full).1;
    }
