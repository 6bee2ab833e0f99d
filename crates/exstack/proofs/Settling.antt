-- What holds of an exstack as a round is over.
use Rattle.std.proofs.Common.{◌≡◌, ℕ, ◌+◌, ◌*◌, ◌<◌, Bool, true, false, List, [], length, Option, Some, None, refl, sym, ap, subst, ◌∙◌}
use Rattle.std.specs.List.{position}
use Rattle.std.proofs.lemmas.Bool.{false≢true, true_from_ne_false}
use Rattle.std.proofs.lemmas.List.Folds.{list_all_at}
use Rattle.std.proofs.lemmas.List.{get_or_default}
use Rattle.port_bank.specs.Port.{PortView}
use Rattle.port_bank.specs.Logs.{Logs}
use Rattle.exstack.specs.declared.stage.Stage.{Stage}
use Rattle.exstack.specs.declared.stage.Stage.TheVariants.{Proceeding, Filling, Exchanging, Full, AllDone}
use Rattle.exstack.specs.declared.stage.Poll.{Poll}
use Rattle.exstack.specs.declared.stage.Poll.TheVariants as poll
use Rattle.exstack.specs.declared.stage.Proceed.{Proceed}
use Rattle.exstack.specs.declared.stage.Proceed.TheVariants as proceed
use Rattle.exstack.specs.Links.{StackOut, StackIn, no_stack_out, no_stack_in}
use Rattle.exstack.specs.State.{Stack, stack_out_at, stack_in_at, stack_link_to, stack_link_from, missing_link, missing_out, missing_in, all_ended, stage_of_proceed, stage_of_exchange}
use Rattle.exstack.specs.Standing.{IsStackOut, IsStackIn, IsStack, IsKeptStack}
use Rattle.exstack.specs.Agreement.{LinkAgrees, AgreesIn, rounds_in}
use Rattle.exstack.specs.Steps.{AsksOnce, MadeRound}
use Rattle.exstack.proofs.Calls.{not_both}
use Rattle.exstack.proofs.Places.{none_passes}

-- where the round waits for no link, no parcel is due
out_none : (ranks rank : ℕ) (o : Option ℕ) (ins : List StackIn) → missing_out ranks rank o ins ≡ None → o ≡ None
out_none ranks rank None ins h = refl
out_none ranks rank (Some b) ins h = let z : Some (rank * ranks + b) ≡ None = h in cc

in_none : (ranks rank : ℕ) (i : Option ℕ) → missing_in ranks rank i ≡ None → i ≡ None
in_none ranks rank None h = refl
in_none ranks rank (Some a) h = let z : Some (a * ranks + rank) ≡ None = h in cc

module _ (cap : ℕ) (st : Stack) (s : IsStack cap st) (none : missing_link st ≡ None) where
  no_out_due : position (λ (o : StackOut). o.due) st.outs ≡ None
  no_out_due = out_none st.ranks st.rank (position (λ (o : StackOut). o.due) st.outs) st.ins none

  no_in_due : position (λ (i : StackIn). i.due) st.ins ≡ None
  no_in_due = in_none st.ranks st.rank (position (λ (i : StackIn). i.due) st.ins) (ap (λ o. missing_out st.ranks st.rank o st.ins) (sym no_out_due) ∙ none)

  pub out_settled : (b : ℕ) → b < length st.outs → (stack_out_at st b).due ≡ false
  out_settled b w = none_passes (λ (o : StackOut). o.due) st.outs no_stack_out no_out_due b w

  pub in_settled : (a : ℕ) → a < length st.ins → (stack_in_at st a).due ≡ false
  in_settled a w = none_passes (λ (i : StackIn). i.due) st.ins no_stack_in no_in_due a w

-- links on which nothing is due, in another stage
module _ (cap : ℕ) (stage new : Stage) (done : Bool) where
  pub out_other : (o : StackOut) → o.due ≡ false → (may_be : (due : Bool) → due ≡ false → o.waiting ≡ []) → IsStackOut cap stage done o → IsStackOut cap new done o
  out_other o d empty s = record {
    fits = s.fits;
    closed_empty = s.closed_empty;
    closed_done = s.closed_done;
    done_closed = s.done_closed;
    due_open = s.due_open;
    due_round = λ h. absurd (not_both o.due h d);
    due_exchange = λ h. absurd (not_both o.due h d);
    sent_on = λ h. empty o.due d;
  }

  pub in_other : (i : StackIn) → i.due ≡ false → i.unread ≡ [] → i.ended ≡ true → IsStackIn new i
  in_other i d empty ended = record { due_open = λ h. absurd (not_both i.due h d); due_empty = λ h. empty; due_round = λ h. absurd (not_both i.due h d); read = λ h. empty; all_ended = λ h. ended }

module _ (cap : ℕ) (st : Stack) (from : ℕ) (new : Stage) (k : IsKeptStack cap st from) (forgotten : st.popped ≡ None)
    (each_out : (b : ℕ) → b < length st.outs → IsStackOut cap new st.done (stack_out_at st b)) (each_in : (a : ℕ) → a < length st.ins → IsStackIn new (stack_in_at st a)) where
  pub settled : IsKeptStack cap (record st { stage = new }) from
  settled = record {
    standing = record {
      is_cap = k.standing.is_cap;
      rank = k.standing.rank;
      few = k.standing.few;
      all_outs = k.standing.all_outs;
      all_ins = k.standing.all_ins;
      each_out = λ b d w. subst (IsStackOut cap new st.done) (get_or_default st.outs b no_stack_out d w) (each_out b w);
      each_in = λ a d w. subst (IsStackIn new) (get_or_default st.ins a no_stack_in d w) (each_in a w);
      can_unpop = λ a e. absurd (none_some a (sym forgotten ∙ e));
    };
    from_high = k.from_high;
    from_none = k.from_none;
  } where
    none_some : (a : ℕ) → None ≡ Some a → ⊥
    none_some a e = cc

-- after a proceed round
module _ (cap : ℕ) (st : Stack) (from : ℕ) (k : IsKeptStack cap st from) (forgotten : st.popped ≡ None) (none : missing_link st ≡ None) where
  was_out : (stage : Stage) → st.stage ≡ stage → (b : ℕ) → b < length st.outs → IsStackOut cap stage st.done (stack_out_at st b)
  was_out stage is b w = subst (λ g. IsStackOut cap g st.done (stack_out_at st b)) is (k.standing.each_out b no_stack_out w)

  was_in : (stage : Stage) → st.stage ≡ stage → (a : ℕ) → a < length st.ins → IsStackIn stage (stack_in_at st a)
  was_in stage is a w = subst (λ g. IsStackIn g (stack_in_at st a)) is (k.standing.each_in a no_stack_in w)

  pub filling_kept : st.stage ≡ Proceeding → IsKeptStack cap (record st { stage = Filling }) from
  filling_kept is = settled cap st from Filling k forgotten
      (λ b w. let d = out_settled cap st k.standing none b w in out_other cap Proceeding Filling st.done (stack_out_at st b) d (λ due h. (was_out Proceeding is b w).sent_on refl) (was_out Proceeding is b w))
      (λ a w.
      let i : StackIn = stack_in_at st a in
      let d = in_settled cap st k.standing none a w in
      let e = (was_in Proceeding is a w).read refl in
      record { due_open = λ h. absurd (not_both i.due h d); due_empty = λ h. e; due_round = λ h. absurd (not_both i.due h d); read = λ h. e; all_ended = λ h. absurd (false≢true h) })

  pub all_done_kept : st.stage ≡ Proceeding → all_ended st ≡ true → IsKeptStack cap (record st { stage = AllDone }) from
  all_done_kept is ended = settled cap st from AllDone k forgotten
      (λ b w. let d = out_settled cap st k.standing none b w in out_other cap Proceeding AllDone st.done (stack_out_at st b) d (λ due h. (was_out Proceeding is b w).sent_on refl) (was_out Proceeding is b w))
      (λ a w.
      let i : StackIn = stack_in_at st a in
      let d = in_settled cap st k.standing none a w in
      let e = (was_in Proceeding is a w).read refl in
      in_other cap Proceeding AllDone st.done i d e (true_from_ne_false i.ended (λ h. not_both (all_ended st) ended (list_all_at (λ (x : StackIn). x.ended) st.ins a no_stack_in w h))))

  -- and after an exchange round
  pub full_kept : st.stage ≡ Exchanging → IsKeptStack cap (record st { stage = Full }) from
  full_kept is = settled cap st from Full k forgotten
      (λ b w. let d = out_settled cap st k.standing none b w in out_other cap Exchanging Full st.done (stack_out_at st b) d (λ due h. (was_out Exchanging is b w).sent_on d) (was_out Exchanging is b w))
      (λ a w.
      let i : StackIn = stack_in_at st a in
      let d = in_settled cap st k.standing none a w in
      record { due_open = λ h. absurd (not_both i.due h d); due_empty = λ h. absurd (not_both i.due h d); due_round = λ h. absurd (not_both i.due h d); read = λ h. absurd (false≢true (sym h)); all_ended = λ h. absurd (false≢true h) })

-- a stage in which as many rounds have begun
pub agrees_staged : (n : ℕ) (st : Stack) (new : Stage) (sent got : Logs) → rounds_in n st.stage ≡ rounds_in n new → AgreesIn n st sent got → AgreesIn n (record st { stage = new }) sent got
agrees_staged n st new sent got same a = record {
  outs = λ b w. subst (λ r. LinkAgrees st.epoch r (stack_out_at st b).closed (stack_out_at st b).due (sent (stack_link_to st b))) same (a.outs b w);
  ins = λ b w. subst (λ r. LinkAgrees st.epoch r (stack_in_at st b).ended (stack_in_at st b).due (got (stack_link_from st b))) same (a.ins b w);
  shapes = a.shapes;
  law = a.law;
  came = a.came;
  in_cycle = a.in_cycle;
  own = a.own;
}

pub proceed_rounds : (n : ℕ) (p : Proceed) → rounds_in n Proceeding ≡ rounds_in n (stage_of_proceed p)
proceed_rounds n proceed.GoOn = refl
proceed_rounds n proceed.AllDone = refl
proceed_rounds n (proceed.NotYet link) = refl

pub exchange_rounds : (n : ℕ) (p : Poll) → rounds_in n Exchanging ≡ rounds_in n (stage_of_exchange p)
exchange_rounds n poll.Ready = refl
exchange_rounds n (poll.NotYet link) = refl

-- the stage says nothing of what was asked
pub asks_staged : (begun st : Stack) (stage : Stage) (port port' : PortView) → AsksOnce begun st port port' → AsksOnce begun (record st { stage = stage }) port port'
asks_staged begun st stage port port' a = record { looked = a.looked; crowded = a.crowded; asked = a.asked; calls = a.calls }

-- nor of what was posted and collected
pub round_staged : (last exchange : Bool) (begun st : Stack) (stage : Stage) (sent sent' got got' : Logs) → MadeRound last exchange begun st sent sent' got got'
    → MadeRound last exchange begun (record st { stage = stage }) sent sent' got got'
round_staged last exchange begun st stage sent sent' got got' r = record { posted = r.posted; collected = r.collected; sent_grows = r.sent_grows; got_grows = r.got_grows }
