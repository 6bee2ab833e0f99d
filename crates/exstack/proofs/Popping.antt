-- What a push, a pop and an unpop are.
use Rattle.std.proofs.Common.{◌≡◌, ℕ, ◌<◌, ◌≤◌, Bool, true, false, List, [], ◌∷◌, length, get_or, set, slice_get, Option, Some, None, IsSome, is_some, refl, sym, ap, subst, ◌∙◌, arith, inl, inr}
use Rattle.std.specs.List.{sum_by, All}
use Rattle.std.specs.Option.{option_map}
use Rattle.std.proofs.lemmas.Bool.{false≢true, cases_lt}
use Rattle.std.proofs.lemmas.List.Sums.{sum_by-le}
use Rattle.std.proofs.lemmas.List.Quantifiers.{position-Some}
use Rattle.std.proofs.lemmas.List.{get_or_default}
use Rattle.bale_items.specs.declared.item.Item.{Item}
use Rattle.bale_items.specs.declared.item.Entry.{Entry}
use Rattle.port_bank.specs.Logs.{Logs}
use Rattle.port_bank.specs.Machine.{IsOwnStep}
use Rattle.port_bank.specs.Machine.Step.{Push, Idle}
use Rattle.exstack.specs.Links.{StackOut, StackIn, no_stack_out, no_stack_in, has_unread, with_waiting_entry, with_first_read, with_put_back, plain_entry}
use Rattle.exstack.specs.State.{Stack, stack_out_at, stack_in_at, lowest_unread_sender, pushed_on, pop_from, popped_from, after_unpop}
use Rattle.exstack.specs.Agreement.{AgreesIn}
use Rattle.exstack.specs.Parts.{stack_part, IsStackStep, StackKeepsAgreement, IsPop, IsUnpop}
use Rattle.exstack.specs.Standing.{IsStack, IsKeptStack}
use Rattle.exstack.specs.Demands.{MayPushTo}
use Rattle.exstack.proofs.Calls.{none_unread, some_unread, is_x, at_x}
use Rattle.exstack.proofs.Places.{none_passes, set_back}
use Rattle.exstack.proofs.Beginning.{agrees_rest}
use Rattle.exstack.proofs.Stepping.{push_agrees, push_step, pop_agrees, pop_step, unpop_agrees, unpop_step, idle_step}

empty_sum : (ins : List StackIn) → ((a : ℕ) → a < length ins → has_unread (get_or ins a no_stack_in) ≡ false) → sum_by (λ (i : StackIn). length i.unread) ins ≡ 0
empty_sum ins none =
    let small : All (λ (i : StackIn). length i.unread ≤ 0) ins = λ k d w.
    let e : (get_or ins k d).unread ≡ [] = none_unread (get_or ins k d) (subst (λ (i : StackIn). has_unread i ≡ false) (get_or_default ins k no_stack_in d w) (none k w)) in
    omega (arith, ap length e) in
    omega (arith, sum_by-le (λ (i : StackIn). length i.unread) 0 ins small)

first_of : (es : List Entry) → (es ≡ [] → ⊥) → (x : Entry) × (slice_get es 0 ≡ Some x)
first_of [] h = absurd (h refl)
first_of (e ∷ es) h = (e, refl)

module _ (cap : ℕ) (st : Stack) (s : IsStack cap st) where
  pop_none : lowest_unread_sender st ≡ None → IsPop None st (record st { popped = None })
  pop_none none = record {
    sender = tt;
    none_unread = λ h. empty_sum st.ins (none_passes has_unread st.ins no_stack_in none);
    kept = λ n sent got a. agrees_rest n st sent got a;
    step_item = tt;
    step_none = λ h n sent got a. idle_step st n sent got;
  }

  pop_some : (a : ℕ) → lowest_unread_sender st ≡ Some a → IsPop (pop_from st (Some a)) st (popped_from st (Some a))
  pop_some a found =
      let p = position-Some has_unread st.ins a no_stack_in found in
      let below : a < st.ranks = omega (arith, p.0, s.all_ins) in
      let x : (x : Entry) × (slice_get (stack_in_at st a).unread 0 ≡ Some x) = first_of (stack_in_at st a).unread (some_unread (stack_in_at st a) p.1) in
      let value : pop_from st (Some a) ≡ Some (a, x.0.item) = ap (option_map (λ (e : Entry). (a, e.item))) x.1 in
      subst (λ r. IsPop r st (popped_from st (Some a))) (sym value) (record {
        sender = below;
        none_unread = λ h. absurd (some_none (a, x.0.item) h);
        kept = λ n sent got g. pop_agrees cap st a x.0 s below x.1 n sent got g;
        step_item = λ n sent got g. pop_step cap st a x.0 s below x.1 n sent got g;
        step_none = λ h. absurd (some_none (a, x.0.item) h);
      })
    where
      some_none : (v : ℕ × Item) → Some v ≡ None → ⊥
      some_none v e = cc

  by_place : (o : Option ℕ) → lowest_unread_sender st ≡ o → IsPop (pop_from st o) st (popped_from st o)
  by_place None h = pop_none h
  by_place (Some a) h = pop_some a h

pub pop_is : (cap : ℕ) (st : Stack) (r : Option (ℕ × Item)) (new : Stack) → IsStack cap st → r ≡ pop_from st (lowest_unread_sender st) → new ≡ popped_from st (lowest_unread_sender st) → IsPop r st new
pop_is cap st r new s value state =
    subst (λ v. IsPop v st new) (sym value) (subst (λ t. IsPop (pop_from st (lowest_unread_sender st)) st t) (sym state) (by_place cap st s (lowest_unread_sender st) refl))

-- an unpop
some_of : (o : Option Entry) → IsSome o → (x : Entry) × (o ≡ Some x)
some_of None h = absurd (false≢true h)
some_of (Some x) h = (x, refl)

unpop_by : (cap : ℕ) (st : Stack) (o : Option ℕ) → IsStack cap st → st.popped ≡ o → IsUnpop (is_some o) st (after_unpop st o)
unpop_by cap st None s h = record {
  kept = λ n sent got a. a;
  step_back = λ e. absurd (false≢true e);
  step_none = λ e n sent got a. record { may = tt; is = same n sent got };
} where
  same : (n : ℕ) (sent got : Logs) → stack_part st sent got ≡ record (stack_part st sent got) { latest = None }
  same n sent got = ap (λ p. record (stack_part st sent got) { latest = p }) h
unpop_by cap st (Some a) s h =
    let can = s.can_unpop a h in
    let x : (x : Entry) × ((stack_in_at st a).back ≡ Some x) = some_of (stack_in_at st a).back can.back in
    record {
      kept = λ n sent got g. unpop_agrees cap st a x.0 s h can.within x.1 n sent got g;
      step_back = λ e n sent got g. unpop_step cap st a x.0 s h can.within x.1 n sent got g;
      step_none = λ e. absurd (false≢true (sym e));
    }

pub unpop_is : (cap : ℕ) (st : Stack) (r : Bool) (new : Stack) → IsStack cap st → r ≡ is_some st.popped → new ≡ after_unpop st st.popped → IsUnpop r st new
unpop_is cap st r new s value state = subst (λ v. IsUnpop v st new) (sym value) (subst (λ t. IsUnpop (is_some st.popped) st t) (sym state) (unpop_by cap st st.popped s refl))

-- a push
pub record PushIs (to : ℕ) (item : Item) (room : ℕ) (old new : Stack) : Type 0 where
  pub kept : StackKeepsAgreement old new
  pub step_pushed : 0 < room → IsStackStep (Push to item) old new
  pub step_full : room ≡ 0 → IsStackStep Idle old new

pub push_is : (cap : ℕ) (st : Stack) (to : ℕ) (item : Item) (room : ℕ) (new : Stack) → IsStack cap st → MayPushTo st to
    → (0 < room → new ≡ pushed_on st item to) → (room ≡ 0 → new ≡ record st { popped = None }) → PushIs to item room st new
push_is cap st to item room new s may pushed full = record {
  kept = λ n sent got a. elim (cases_lt 0 room) [
    | inl h ↦ subst (λ (t : Stack). AgreesIn n t sent got) (sym (pushed h)) (push_agrees cap st to item s may.within n sent got a)
    | inr h ↦ subst (λ (t : Stack). AgreesIn n t sent got) (sym (full (omega arith))) (agrees_rest n st sent got a)
  ];
  step_pushed = λ h n sent got a. subst (λ (t : Stack). IsOwnStep (Push to item) (stack_part st sent got) (stack_part t sent got)) (sym (pushed h)) (push_step cap st to item s may.within may.not_done n sent got a);
  step_full = λ h n sent got a. subst (λ (t : Stack). IsOwnStep Idle (stack_part st sent got) (stack_part t sent got)) (sym (full h)) (idle_step st n sent got);
}

-- by the link out that took the item, or refused it
pub pushed_by : (cap : ℕ) (st now : Stack) (to : ℕ) (item : Item) (room : ℕ) (x y : StackOut) → st ≡ now → IsStack cap st → MayPushTo now to → x ≡ get_or st.outs to x
    → (0 < room → y ≡ with_waiting_entry x (plain_entry item)) → (room ≡ 0 → y ≡ x) → PushIs to item room now (record st { outs = set st.outs to y; popped = None })
pushed_by cap st now to item room x y view s now_may here put same =
    let may : MayPushTo st to = subst (λ (t : Stack). MayPushTo t to) (sym view) now_may in
    let low : to < length st.outs = omega (arith, may.within, s.all_outs) in
    let is_x : x ≡ stack_out_at st to = here ∙ get_or_default st.outs to x no_stack_out low in
    subst (λ (t : Stack). PushIs to item room t (record st { outs = set st.outs to y; popped = None })) view
    (push_is cap st to item room (record st { outs = set st.outs to y; popped = None }) s may
    (λ h. ap (λ (o : StackOut). record st { outs = set st.outs to o; popped = None }) (put h ∙ ap (λ (o : StackOut). with_waiting_entry o (plain_entry item)) is_x))
    (λ h. ap (λ (o : StackOut). record st { outs = set st.outs to o; popped = None }) (same h ∙ is_x) ∙ ap (λ outs. record st { outs = outs; popped = None }) (set_back st.outs to no_stack_out low)))

-- by the link in that gave the item, or took it back
module _ (cap : ℕ) (st now : Stack) (from a : ℕ) (x y : StackIn) (view : st ≡ now) (k : IsKeptStack cap st from) where
  pub popped_by : (e : Entry) → lowest_unread_sender st ≡ Some a → x ≡ get_or st.ins a x → y ≡ with_first_read x → slice_get x.unread 0 ≡ Some e
      → IsPop (Some (a, e.item)) now (record st { ins = set st.ins a y; popped = Some a })
  popped_by e found here read first =
      let i : x ≡ stack_in_at st a = is_x cap st from a x k found here in
      subst (λ (t : Stack). IsPop (Some (a, e.item)) t (record st { ins = set st.ins a y; popped = Some a })) view
      (pop_is cap st (Some (a, e.item)) (record st { ins = set st.ins a y; popped = Some a }) k.standing
      (sym (ap (pop_from st) found ∙ (ap (λ (z : StackIn). option_map (λ (e : Entry). (a, e.item)) (slice_get z.unread 0)) (sym i) ∙ ap (option_map (λ (e : Entry). (a, e.item))) first)))
      (ap (λ (z : StackIn). record st { ins = set st.ins a z; popped = Some a }) (read ∙ ap with_first_read i) ∙ sym (ap (popped_from st) found)))

  pub unpopped_by : st.popped ≡ Some a → x ≡ get_or st.ins a x → y ≡ with_put_back x.back x → IsUnpop true now (record st { ins = set st.ins a y; popped = None })
  unpopped_by popped here put =
      subst (λ (t : Stack). IsUnpop true t (record st { ins = set st.ins a y; popped = None })) view
      (unpop_is cap st true (record st { ins = set st.ins a y; popped = None }) k.standing (sym (ap is_some popped))
      (ap (λ (z : StackIn). record st { ins = set st.ins a z; popped = None }) (put ∙ ap (λ (z : StackIn). with_put_back z.back z) (at_x cap st from a k popped x here)) ∙ sym (ap (after_unpop st) popped)))
