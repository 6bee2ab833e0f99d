-- Pops one after the other, and all at once.
use Rattle.std.proofs.Common.{◌≡◌, ℕ, zero, suc, ◌-◌, ◌<◌, ◌≤◌, ◌==◌, true, false, not, cond, nat_lt, List, [], ◌∷◌, length, get_or, set, drop, slice_get, Some, None, refl, sym, ap, subst, ◌∙◌, arith, ne_eqb}
use Rattle.std.specs.List.{position, position_or_len}
use Rattle.std.specs.Option.{option_map}
use Rattle.std.proofs.lemmas.Bool.{true_from_ne_false, true≢false}
use Rattle.std.proofs.lemmas.List.{length-set, length-drop, get_or-set_same, get_or-set_other, get_or_default}
use Rattle.std.proofs.lemmas.Option.{slice_get_within}
use Rattle.std.proofs.lemmas.List.Folds.{position_or_len-set}
use Rattle.std.proofs.lemmas.List.Quantifiers.{position-Some}
use Rattle.bale_items.specs.declared.item.Entry.{Entry}
use Rattle.exstack.specs.Links.{StackIn, no_stack_in, has_unread, with_first_read, stack_read_on}
use Rattle.exstack.specs.State.{Stack, stack_in_at, lowest_unread_sender, pop_from, popped_from, pops}
use Rattle.exstack.specs.Parts.{PopGivesNext, IsPop, StackKeepsAgreement}
use Rattle.exstack.specs.Standing.{IsStack, IsKeptStack}
use Rattle.exstack.proofs.Calls.{pop_kept, stack_rest, some_unread, none_unread}
use Rattle.exstack.proofs.Places.{set_back}
use Rattle.exstack.proofs.Popping.{pop_is}

-- an inbox of which some entries were read
drop_one : (n : ℕ) (es : List Entry) → drop 1 (drop n es) ≡ drop (suc n) es
drop_one zero [] = refl
drop_one zero (e ∷ es) = refl
drop_one (suc n) [] = refl
drop_one (suc n) (e ∷ es) = drop_one n es

first_after : (n : ℕ) (es : List Entry) → slice_get (drop n es) 0 ≡ slice_get es n
first_after zero es = refl
first_after (suc n) [] = refl
first_after (suc n) (e ∷ es) = first_after n es

read_more : (n : ℕ) (i : StackIn) → with_first_read (stack_read_on n i) ≡ stack_read_on (suc n) i
read_more n i =
    let one : suc n - 1 ≡ n = omega arith in
    let later : (suc n == 0) ≡ false = ne_eqb (suc n) 0 (omega arith) in
    let back : slice_get (drop n i.unread) 0 ≡ cond (suc n == 0) i.back (slice_get i.unread (suc n - 1)) =
    first_after n i.unread ∙ (ap (slice_get i.unread) (sym one) ∙ ap (λ b. cond b i.back (slice_get i.unread (suc n - 1))) (sym later)) in
    λ k. record i { unread = drop_one n i.unread k; back = back k }

read_none : (i : StackIn) → stack_read_on 0 i ≡ i
read_none i = refl

still_unread : (n : ℕ) (i : StackIn) → n < length i.unread → has_unread (stack_read_on n i) ≡ true
still_unread n i h = true_from_ne_false (has_unread (stack_read_on n i)) (λ e. absurd (omega (arith, nothing (drop n i.unread) e, length-drop n i.unread)))
  where
    nothing : (es : List Entry) → not (length es == 0) ≡ false → length es ≡ 0
    nothing [] e = refl
    nothing (x ∷ es) e = let z : (length (x ∷ es) == 0) ≡ false = ne_eqb (length (x ∷ es)) 0 (omega arith) in absurd (true≢false (sym (ap not z) ∙ e))

set_twice : {X : Type 0} (xs : List X) (i : ℕ) (y z : X) → set (set xs i y) i z ≡ set xs i z
set_twice [] i y z = refl
set_twice (x ∷ xs) zero y z = refl
set_twice (x ∷ xs) (suc i) y z = ap (λ ys. x ∷ ys) (set_twice xs i y z)

-- the inboxes after n pops of one sender
abbrev pub read_ins : Stack → ℕ → ℕ → List StackIn
read_ins st a n = set st.ins a (stack_read_on n (stack_in_at st a))

module _ (st : Stack) (a : ℕ) (found : lowest_unread_sender st ≡ Some a) where
  at : (a < length st.ins) × (has_unread (get_or st.ins a no_stack_in) ≡ true) × ((j : ℕ) → j < a → has_unread (get_or st.ins j no_stack_in) ≡ false)
  at = position-Some has_unread st.ins a no_stack_in found

  -- while entries are left there, it is the lowest
  lowest_read : (n : ℕ) → n < length (stack_in_at st a).unread → position has_unread (read_ins st a n) ≡ Some a
  lowest_read n h =
      let p : position_or_len has_unread (read_ins st a n) ≡ position_or_len has_unread st.ins = position_or_len-set has_unread st.ins a (stack_read_on n (stack_in_at st a)) no_stack_in (still_unread n (stack_in_at st a) h ∙ sym at.1) in
      let l : length (read_ins st a n) ≡ length st.ins = length-set st.ins a (stack_read_on n (stack_in_at st a)) in
      ap (λ k. cond (nat_lt k (length (read_ins st a n))) (Some k) None) p ∙ (ap (λ k. cond (nat_lt (position_or_len has_unread st.ins) k) (Some (position_or_len has_unread st.ins)) None) l ∙ found)

  -- what pops of one sender leave
  pops_are : (n : ℕ) → n ≤ length (stack_in_at st a).unread → pops n st ≡ record st { ins = read_ins st a n; popped = cond (n == 0) st.popped (Some a) }
  pops_are zero h = λ k. record st { ins = sym (set_back st.ins a no_stack_in at.0) k; popped = st.popped }
  pops_are (suc n) h =
      let before : pops n st ≡ record st { ins = read_ins st a n; popped = cond (n == 0) st.popped (Some a) } = pops_are n (omega arith) in
      let low : lowest_unread_sender (pops n st) ≡ Some a = ap lowest_unread_sender before ∙ lowest_read n (omega arith) in
      let here : get_or (read_ins st a n) a no_stack_in ≡ stack_read_on n (stack_in_at st a) = get_or-set_same st.ins a (stack_read_on n (stack_in_at st a)) no_stack_in at.0 in
      let ins : set (read_ins st a n) a (with_first_read (get_or (read_ins st a n) a no_stack_in)) ≡ read_ins st a (suc n) =
      ap (λ (i : StackIn). set (read_ins st a n) a (with_first_read i)) here
      ∙ (ap (set (read_ins st a n) a) (read_more n (stack_in_at st a)) ∙ set_twice st.ins a (stack_read_on n (stack_in_at st a)) (stack_read_on (suc n) (stack_in_at st a))) in
      let later : (suc n == 0) ≡ false = ne_eqb (suc n) 0 (omega arith) in
      let one : Some a ≡ cond (suc n == 0) st.popped (Some a) = ap (λ b. cond b st.popped (Some a)) (sym later) in
      ap (popped_from (pops n st)) low ∙ (ap (λ (t : Stack). popped_from t (Some a)) before ∙ (λ k. record st { ins = ins k; popped = one k }))

  pub pops_same : (n : ℕ) → n ≤ length (stack_in_at st a).unread → (new : Stack) → new ≡ pops n st → new ≡ record st { ins = new.ins; popped = new.popped }
  pops_same n h new is =
      let e : new ≡ record st { ins = read_ins st a n; popped = cond (n == 0) st.popped (Some a) } = is ∙ pops_are n h in
      e ∙ (λ k. record st { ins = sym (ap (λ (t : Stack). t.ins) e) k; popped = sym (ap (λ (t : Stack). t.popped) e) k })

  pops_lowest : (n : ℕ) → n < length (stack_in_at st a).unread → lowest_unread_sender (pops n st) ≡ Some a
  pops_lowest n h = ap lowest_unread_sender (pops_are n (omega arith)) ∙ lowest_read n h

  pops_unread : (n : ℕ) → n ≤ length (stack_in_at st a).unread → (stack_in_at (pops n st) a).unread ≡ drop n (stack_in_at st a).unread
  pops_unread n h =
      ap (λ (t : Stack). (stack_in_at t a).unread) (pops_are n h) ∙ ap (λ (i : StackIn). i.unread) (get_or-set_same st.ins a (stack_read_on n (stack_in_at st a)) no_stack_in at.0)

  some_left : 0 < length (stack_in_at st a).unread
  some_left = not_none (stack_in_at st a).unread (some_unread (stack_in_at st a) at.1)
    where
      not_none : (es : List Entry) → (es ≡ [] → ⊥) → 0 < length es
      not_none [] h = absurd (h refl)
      not_none (e ∷ es) h = omega arith

  -- all of them at once
  pub all_popped : (y : StackIn) → y ≡ stack_read_on (length (stack_in_at st a).unread) (stack_in_at st a) → record st { ins = set st.ins a y; popped = Some a } ≡ pops (length (stack_in_at st a).unread) st
  all_popped y is =
      let n : ℕ = length (stack_in_at st a).unread in
      let some : (n == 0) ≡ false = ne_eqb n 0 (let h : 0 < n = some_left in λ e. let z : n ≡ 0 = e in omega arith) in
      ap (λ (i : StackIn). record st { ins = set st.ins a i; popped = Some a }) is
      ∙ (ap (λ b. record st { ins = read_ins st a n; popped = cond b st.popped (Some a) }) (sym some) ∙ sym (pops_are n (omega arith)))

  module _ (cap : ℕ) (s : IsStack cap st) where
    one_more : (n : ℕ) → n < length (stack_in_at st a).unread → IsStack cap (pops n st) → IsStack cap (pops (suc n) st)
    one_more n h t =
        let low = pops_lowest n h in
        let p = position-Some has_unread (pops n st).ins a no_stack_in low in
        let x : StackIn = stack_in_at (pops n st) a in
        let k : IsKeptStack cap (pops n st) 0 = record { standing = t; from_high = omega arith; from_none = λ j w. absurd (omega arith) } in
        let read : IsKeptStack cap (popped_from (pops n st) (Some a)) a = pop_kept cap (pops n st) 0 a x k low (get_or_default (pops n st).ins a no_stack_in x p.0) (with_first_read x) refl in
        subst (λ o. IsStack cap (popped_from (pops n st) o)) (sym low) read.standing

    pub pops_stack : (n : ℕ) → n ≤ length (stack_in_at st a).unread → IsStack cap (pops n st)
    pops_stack zero h = s
    pops_stack (suc n) h = one_more n (omega arith) (pops_stack n (omega arith))

    pop_of : (n : ℕ) (e : Entry) → slice_get (stack_in_at st a).unread n ≡ Some e → n < length (stack_in_at st a).unread → pop_from (pops n st) (lowest_unread_sender (pops n st)) ≡ Some (a, e.item)
    pop_of n e is h =
        ap (pop_from (pops n st)) (pops_lowest n h)
        ∙ (ap (λ (es : List Entry). option_map (λ (x : Entry). (a, x.item)) (slice_get es 0)) (pops_unread n (omega arith))
        ∙ ap (option_map (λ (x : Entry). (a, x.item))) (first_after n (stack_in_at st a).unread ∙ is))

    -- each entry is what the next pop gives
    pub gives_next : (n : ℕ) (e : Entry) → slice_get (stack_in_at st a).unread n ≡ Some e → PopGivesNext (pops n st) a e.item
    gives_next n e is =
        let h : n < length (stack_in_at st a).unread = slice_get_within (stack_in_at st a).unread n e is in
        let v = pop_of n e is h in
        let k : IsPop (Some (a, e.item)) (pops n st) (popped_from (pops n st) (lowest_unread_sender (pops n st))) = pop_is cap (pops n st) (Some (a, e.item)) (popped_from (pops n st) (lowest_unread_sender (pops n st))) (pops_stack n (omega arith)) (sym v) refl in
        record { value = v; step = k.step_item; kept = k.kept }

    -- and as many pops keep the agreement
    pub pops_keep : (n : ℕ) → n ≤ length (stack_in_at st a).unread → StackKeepsAgreement st (pops n st)
    pops_keep zero h = λ m sent got g. g
    pops_keep (suc n) h =
        let k = pop_is cap (pops n st) (pop_from (pops n st) (lowest_unread_sender (pops n st))) (popped_from (pops n st) (lowest_unread_sender (pops n st))) (pops_stack n (omega arith)) refl refl in
        λ m sent got g. k.kept m sent got (pops_keep n (omega arith) m sent got g)

-- what holds of an exstack after these calls
pub rest_from : (cap : ℕ) (st : Stack) (from : ℕ) → IsKeptStack cap st from → IsKeptStack cap (record st { popped = None }) from
rest_from cap st from k = record { standing = stack_rest cap st k.standing; from_high = k.from_high; from_none = k.from_none }

pub rest_at : (cap : ℕ) (st : Stack) (from a : ℕ) → IsKeptStack cap st from → lowest_unread_sender st ≡ Some a → IsKeptStack cap (record st { popped = None }) a
rest_at cap st from a k found =
    let p = position-Some has_unread st.ins a no_stack_in found in
    record {
      standing = stack_rest cap st k.standing;
      from_high = omega (arith, p.0, k.standing.all_ins);
      from_none = λ j w. none_unread (stack_in_at st j) (p.2 j w);
    }

pub all_kept : (cap : ℕ) (st : Stack) (from a : ℕ) (x y : StackIn) → IsKeptStack cap st from → lowest_unread_sender st ≡ Some a → x ≡ get_or st.ins a x → y ≡ stack_read_on (length x.unread) x
    → IsKeptStack cap (record st { ins = set st.ins a y; popped = Some a }) a × (record st { ins = set st.ins a y; popped = Some a } ≡ pops (length (stack_in_at st a).unread) st)
all_kept cap st from a x y k found here read =
    let p = position-Some has_unread st.ins a no_stack_in found in
    let is_x : x ≡ stack_in_at st a = here ∙ get_or_default st.ins a x no_stack_in p.0 in
    let all : y ≡ stack_read_on (length (stack_in_at st a).unread) (stack_in_at st a) = read ∙ ap (λ (i : StackIn). stack_read_on (length i.unread) i) is_x in
    let new : record st { ins = set st.ins a y; popped = Some a } ≡ pops (length (stack_in_at st a).unread) st = all_popped st a found y all in (
      record {
        standing = subst (IsStack cap) (sym new) (pops_stack st a found cap k.standing (length (stack_in_at st a).unread) (omega arith));
        from_high = omega (arith, p.0, k.standing.all_ins);
        from_none = λ j w. ap (λ (i : StackIn). i.unread) (get_or-set_other st.ins a j y no_stack_in (omega arith)) ∙ none_unread (stack_in_at st j) (p.2 j w);
      },
      new,
    )
