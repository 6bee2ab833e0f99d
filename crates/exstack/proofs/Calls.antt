-- What holds of an exstack still holds after the calls that need no port.
use Rattle.std.proofs.Common.{◌≡◌, ℕ, ◌<◌, ◌==◌, Bool, true, false, not, min, List, [], ◌∷◌, length, get_or, set, slice_get, Option, Some, None, IsSome, refl, sym, ap, subst, ◌∙◌, arith}
use Rattle.std.specs.List.{position}
use Rattle.std.proofs.lemmas.Bool.{false≢true, false_from_ne_true, true_from_ne_false, ne_eqb}
use Rattle.std.proofs.lemmas.List.{length-set, length-map, get_or-set_same, get_or-set_other, get_or_default, get_or-map}
use Rattle.std.proofs.Math.ListN.{get_or-map as map_read}
use Rattle.std.proofs.lemmas.List.Quantifiers.{position-Some}
use Rattle.list_laws.proofs.Lists.{each_set}
use Rattle.bale_items.specs.declared.item.Entry.{Entry}
use Rattle.exstack.specs.declared.stage.Stage.TheVariants.{Start, AllDone}
use Rattle.exstack.specs.Links.{StackOut, StackIn, no_stack_out, no_stack_in, has_unread, with_first_read, with_put_back, stack_out_in_new_epoch, stack_in_in_new_epoch}
use Rattle.exstack.specs.State.{Stack, stack_in_at, may_read, after_reset}
use Rattle.exstack.specs.Standing.{IsStackOut, IsStackIn, CanUnpop, IsStack, IsKeptStack}
use Rattle.exstack.proofs.Places.{none_passes}

pub not_both : (b : Bool) → b ≡ true → b ≡ false → ⊥
not_both b t f = false≢true (sym f ∙ t)

-- an inbox without an unread item is empty
pub none_unread : (i : StackIn) → has_unread i ≡ false → i.unread ≡ []
none_unread i h = empty i.unread h
  where
    empty : (es : List Entry) → not (length es == 0) ≡ false → es ≡ []
    empty [] h = refl
    empty (e ∷ es) h = let z : (length (e ∷ es) == 0) ≡ false = ne_eqb (length (e ∷ es)) 0 (omega arith) in absurd (false≢true (sym h ∙ ap not z))

pub some_unread : (i : StackIn) → has_unread i ≡ true → i.unread ≡ [] → ⊥
some_unread i h e = false≢true (ap (λ es. not (length es == 0)) (sym e) ∙ h)

first_some : (es : List Entry) → (es ≡ [] → ⊥) → IsSome (slice_get es 0)
first_some [] h = absurd (h refl)
first_some (e ∷ es) h = refl

-- the right to unpop is forgotten
pub stack_rest : (cap : ℕ) (st : Stack) → IsStack cap st → IsStack cap (record st { popped = None })
stack_rest cap st s = record {
  is_cap = s.is_cap;
  rank = s.rank;
  few = s.few;
  all_outs = s.all_outs;
  all_ins = s.all_ins;
  each_out = s.each_out;
  each_in = s.each_in;
  can_unpop = λ a e. absurd (none_some a e);
} where
  none_some : (a : ℕ) → None ≡ Some a → ⊥
  none_some a e = cc

-- a pop that finds nothing
pub none_kept : (cap : ℕ) (st : Stack) (from : ℕ) → IsKeptStack cap st from → position has_unread st.ins ≡ None → IsKeptStack cap (record st { popped = None }) st.ranks
none_kept cap st from k none = record {
  standing = stack_rest cap st k.standing;
  from_high = omega arith;
  from_none = λ a w. none_unread (stack_in_at st a) (none_passes has_unread st.ins no_stack_in none a (omega (arith, w, k.standing.all_ins)));
}

-- a pop that gives the first unread item of a
module _ (cap : ℕ) (st : Stack) (from a : ℕ) (x : StackIn) (k : IsKeptStack cap st from) (found : position has_unread st.ins ≡ Some a) (here : x ≡ get_or st.ins a x) where
  at : (a < length st.ins) × (has_unread (get_or st.ins a no_stack_in) ≡ true) × ((j : ℕ) → j < a → has_unread (get_or st.ins j no_stack_in) ≡ false)
  at = position-Some has_unread st.ins a no_stack_in found

  pub is_x : x ≡ stack_in_at st a
  is_x = here ∙ get_or_default st.ins a x no_stack_in at.0

  pub found_some : x.unread ≡ [] → ⊥
  found_some e = some_unread (stack_in_at st a) at.1 (ap (λ (i : StackIn). i.unread) (sym is_x) ∙ e)

  x_is : IsStackIn st.stage x
  x_is = subst (IsStackIn st.stage) (sym is_x) (k.standing.each_in a no_stack_in at.0)

  reading : may_read st.stage ≡ true
  reading = true_from_ne_false (may_read st.stage) (λ e. found_some (x_is.read e))

  x_came : x.due ≡ false
  x_came = false_from_ne_true x.due (λ e. found_some (x_is.due_empty e))

  module _ (y : StackIn) (read : y ≡ with_first_read x) where
    y_is : IsStackIn st.stage y
    y_is = record {
      due_open = λ d. absurd (not_both x.due (sym (ap (λ (i : StackIn). i.due) read) ∙ d) x_came);
      due_empty = λ d. absurd (not_both x.due (sym (ap (λ (i : StackIn). i.due) read) ∙ d) x_came);
      due_round = λ d. absurd (not_both x.due (sym (ap (λ (i : StackIn). i.due) read) ∙ d) x_came);
      read = λ r. absurd (not_both (may_read st.stage) reading r);
      all_ended = λ d. ap (λ (i : StackIn). i.ended) read ∙ x_is.all_ended d;
    }

    now : get_or (set st.ins a y) a no_stack_in ≡ y
    now = get_or-set_same st.ins a y no_stack_in at.0

    pub pop_kept : IsKeptStack cap (record st { ins = set st.ins a y; popped = Some a }) a
    pop_kept = record {
      standing = record {
        is_cap = k.standing.is_cap;
        rank = k.standing.rank;
        few = k.standing.few;
        all_outs = k.standing.all_outs;
        all_ins = length-set st.ins a y ∙ k.standing.all_ins;
        each_out = k.standing.each_out;
        each_in = each_set (λ j i. IsStackIn st.stage i) st.ins a y k.standing.each_in y_is;
        can_unpop = λ b e. subst (CanUnpop (record st { ins = set st.ins a y; popped = Some a })) (same a b e) (record {
          within = omega (arith, at.0, k.standing.all_ins);
          back = subst (λ (i : StackIn). IsSome i.back) (sym now) (subst IsSome (sym (ap (λ (i : StackIn). i.back) read)) (first_some x.unread found_some));
          came = ap (λ (i : StackIn). i.due) (now ∙ read) ∙ x_came;
          reading = reading;
        });
      };
      from_high = omega (arith, at.0, k.standing.all_ins);
      from_none = λ j w. ap (λ (i : StackIn). i.unread) (get_or-set_other st.ins a j y no_stack_in (omega arith)) ∙ none_unread (stack_in_at st j) (at.2 j w);
    } where
      same : (a b : ℕ) → Some a ≡ Some b → a ≡ b
      same a b e = cc

-- an unpop that puts the item of a back
put_back : (i : StackIn) → IsSome i.back → (with_put_back i.back i).due ≡ i.due
put_back i h = elim i.back as (λ b. (with_put_back b i).due ≡ i.due) [ None ↦ refl | Some e ↦ refl ]

put_back_ended : (i : StackIn) → (with_put_back i.back i).ended ≡ i.ended
put_back_ended i = elim i.back as (λ b. (with_put_back b i).ended ≡ i.ended) [ None ↦ refl | Some e ↦ refl ]

module _ (cap : ℕ) (st : Stack) (from a : ℕ) (k : IsKeptStack cap st from) (popped : st.popped ≡ Some a) where
  can : CanUnpop st a
  can = k.standing.can_unpop a popped

  pub unpop_within : a < length st.ins
  unpop_within = omega (arith, can.within, k.standing.all_ins)

  module _ (x : StackIn) (here : x ≡ get_or st.ins a x) where
    pub at_x : x ≡ stack_in_at st a
    at_x = here ∙ get_or_default st.ins a x no_stack_in unpop_within

    pub unpop_back : IsSome x.back
    unpop_back = subst (λ (i : StackIn). IsSome i.back) (sym at_x) can.back

    module _ (y : StackIn) (put : y ≡ with_put_back x.back x) (low : ℕ) (is_low : low ≡ min from a) where
      not_due : y.due ≡ false
      not_due = ap (λ (i : StackIn). i.due) put ∙ (put_back x unpop_back ∙ (ap (λ (i : StackIn). i.due) at_x ∙ can.came))

      pub unpop_kept : IsKeptStack cap (record st { ins = set st.ins a y; popped = None }) low
      unpop_kept = record {
        standing = record {
          is_cap = k.standing.is_cap;
          rank = k.standing.rank;
          few = k.standing.few;
          all_outs = k.standing.all_outs;
          all_ins = length-set st.ins a y ∙ k.standing.all_ins;
          each_out = k.standing.each_out;
          each_in = each_set (λ j i. IsStackIn st.stage i) st.ins a y k.standing.each_in (record {
            due_open = λ d. absurd (not_both y.due d not_due);
            due_empty = λ d. absurd (not_both y.due d not_due);
            due_round = λ d. absurd (not_both y.due d not_due);
            read = λ r. absurd (not_both (may_read st.stage) can.reading r);
            all_ended = λ d. ap (λ (i : StackIn). i.ended) put ∙ (put_back_ended x ∙ subst (λ (i : StackIn). i.ended ≡ true) (sym at_x) ((k.standing.each_in a no_stack_in unpop_within).all_ended d));
          });
          can_unpop = λ b e. absurd (none_some b e);
        };
        from_high = omega (arith, k.from_high, is_low);
        from_none = λ j w. ap (λ (i : StackIn). i.unread) (get_or-set_other st.ins a j y no_stack_in (omega arith)) ∙ k.from_none j (omega arith);
      } where
        none_some : (b : ℕ) → None ≡ Some b → ⊥
        none_some b e = cc

-- a reset
module _ (cap : ℕ) (st : Stack) (from : ℕ) (k : IsKeptStack cap st from) (all : st.stage ≡ AllDone) where
  pub out_done : (o : StackOut) → IsStackOut cap st.stage st.done o → (o.due ≡ false) × (o.waiting ≡ [])
  out_done o s =
      let t = subst (λ g. IsStackOut cap g st.done o) all s in
      let d : o.due ≡ false = false_from_ne_true o.due (λ e. false≢true (t.due_round e)) in
      (d, t.sent_on refl)

  pub in_done : (i : StackIn) → IsStackIn st.stage i → (i.due ≡ false) × (i.unread ≡ [])
  in_done i s =
      let t = subst (λ g. IsStackIn g i) all s in
      let d : i.due ≡ false = false_from_ne_true i.due (λ e. false≢true (t.due_round e)) in
      (d, t.read refl)

  reopened_is : (o : StackOut) → IsStackOut cap st.stage st.done o → IsStackOut cap Start false (stack_out_in_new_epoch o)
  reopened_is o s =
      let d = out_done o s in
      record {
        fits = s.fits;
        closed_empty = λ e. absurd (false≢true e);
        closed_done = λ e. e;
        done_closed = λ e f. e;
        due_open = λ e. refl;
        due_round = λ e. absurd (not_both o.due e d.0);
        due_exchange = λ e f. refl;
        sent_on = λ e. d.1;
      }

  resumed_is : (i : StackIn) → IsStackIn st.stage i → IsStackIn Start (stack_in_in_new_epoch i)
  resumed_is i s =
      let d = in_done i s in
      record {
        due_open = λ e. refl;
        due_empty = λ e. d.1;
        due_round = λ e. absurd (not_both i.due e d.0);
        read = λ e. d.1;
        all_ended = λ e. absurd (false≢true e);
      }

  pub reset_kept : IsKeptStack cap (after_reset st) from
  reset_kept = record {
    standing = record {
      is_cap = k.standing.is_cap;
      rank = k.standing.rank;
      few = k.standing.few;
      all_outs = length-map st.outs stack_out_in_new_epoch ∙ k.standing.all_outs;
      all_ins = length-map st.ins stack_in_in_new_epoch ∙ k.standing.all_ins;
      each_out = λ b o w. let v : b < length st.outs = omega (arith, w, length-map st.outs stack_out_in_new_epoch) in subst (IsStackOut cap Start false) (sym (get_or-map stack_out_in_new_epoch st.outs b no_stack_out o v)) (reopened_is (get_or st.outs b no_stack_out) (k.standing.each_out b no_stack_out v));
      each_in = λ a i w. let v : a < length st.ins = omega (arith, w, length-map st.ins stack_in_in_new_epoch) in subst (IsStackIn Start) (sym (get_or-map stack_in_in_new_epoch st.ins a no_stack_in i v)) (resumed_is (get_or st.ins a no_stack_in) (k.standing.each_in a no_stack_in v));
      can_unpop = λ b e. absurd (none_some b e);
    };
    from_high = k.from_high;
    from_none = λ a w. ap (λ (i : StackIn). i.unread) (map_read stack_in_in_new_epoch st.ins a no_stack_in) ∙ k.from_none a w;
  } where
    none_some : (b : ℕ) → None ≡ Some b → ⊥
    none_some b e = cc

-- what is taken of an inbox that has something unread
pub nothing_first : (i : StackIn) (o : Option Entry) → o ≡ slice_get i.unread 0 → o ≡ None → i.unread ≡ []
nothing_first i o is none = nothing i.unread (sym is ∙ none)
  where
    nothing : (es : List Entry) → slice_get es 0 ≡ None → es ≡ []
    nothing [] h = refl
    nothing (e ∷ es) h = let z : Some e ≡ None = h in cc
