-- Each call is a step of the rank's part of the exchange machine, and keeps the agreement.
use Rattle.std.proofs.Common.{◌≡◌, ◌≢◌, ℕ, ◌-◌, ◌<◌, ◌==◌, true, false, cond, List, [], ◌∷◌, ◌++◌, length, take, drop, get_or, set, slice_get, Some, None, is_some, refl, sym, ap, subst, ◌∙◌, arith, inl, inr, eq-eqb, ne_eqb}
use Rattle.std.proofs.lemmas.Bool.{cases_eq}
use Rattle.std.proofs.lemmas.List.{append_assoc, map-append, get_or-set_same, get_or-set_other}
use Rattle.bale_items.specs.declared.item.Item.{Item}
use Rattle.bale_items.specs.declared.item.Entry.{Entry}
use Rattle.port_bank.specs.Logs.{Logs}
use Rattle.port_bank.specs.Machine.{IsOwnStep, for_ranks, taken_back}
use Rattle.port_bank.specs.Machine.Step.{Push, Pull, Unpull, Idle}
use Rattle.port_bank.proofs.Listing.{lists_with, lists_without, same_part}
use Rattle.exstack.specs.Links.{StackOut, StackIn, no_stack_out, no_stack_in, plain_entry, with_waiting_entry, with_first_read, with_put_back}
use Rattle.exstack.specs.State.{Stack, stack_out_at, stack_in_at, stack_link_to, stack_link_from, pushed_on, popped_from, after_unpop}
use Rattle.exstack.specs.Cycles.{entries_sent, entries_exchanged, exchange_parcel, entries_if_any, items}
use Rattle.list_laws.specs.Lists.{Ends}
use Rattle.exstack.specs.Agreement.{LinkAgrees, AgreesIn, back_first, rounds_in}
use Rattle.exstack.specs.Parts.{stack_pushed_to, popped_of, stack_part}
use Rattle.exstack.specs.State.{is_all_done}
use Rattle.exstack.specs.Standing.{IsStack}
use Rattle.exstack.proofs.Beginning.{forget}
use Rattle.exstack.proofs.Pieces.{take_front, pulled_of_all, pulled_front, pulled_then}

-- a push
module _ (cap : ℕ) (st : Stack) (to : ℕ) (item : Item) (s : IsStack cap st) (below : to < st.ranks) where
  pushed_st : Stack
  pushed_st = pushed_on st item to

  here : get_or (set st.outs to (with_waiting_entry (stack_out_at st to) (plain_entry item))) to no_stack_out ≡ with_waiting_entry (stack_out_at st to) (plain_entry item)
  here = get_or-set_same st.outs to (with_waiting_entry (stack_out_at st to) (plain_entry item)) no_stack_out (omega (arith, below, s.all_outs))

  other : (b : ℕ) → b ≢ to → get_or (set st.outs to (with_waiting_entry (stack_out_at st to) (plain_entry item))) b no_stack_out ≡ stack_out_at st b
  other b ne = get_or-set_other st.outs to b (with_waiting_entry (stack_out_at st to) (plain_entry item)) no_stack_out ne

  marks : {X : Type 0} (f : StackOut → X) → (f (with_waiting_entry (stack_out_at st to) (plain_entry item)) ≡ f (stack_out_at st to)) → (b : ℕ) → f (get_or (set st.outs to (with_waiting_entry (stack_out_at st to) (plain_entry item))) b no_stack_out) ≡ f (stack_out_at st b)
  marks f same b = elim (cases_eq b to) [
    | inl e ↦ ap (λ k. f (get_or (set st.outs to (with_waiting_entry (stack_out_at st to) (plain_entry item))) k no_stack_out)) e ∙ (ap f here ∙ (same ∙ ap (λ k. f (stack_out_at st k)) (sym e)))
    | inr ne ↦ ap f (other b ne)
  ]

  pub push_agrees : (n : ℕ) (sent got : Logs) → AgreesIn n st sent got → AgreesIn n (pushed_on st item to) sent got
  push_agrees n sent got a = record {
    outs = λ b w. subst (λ c. LinkAgrees st.epoch (rounds_in n st.stage) c (stack_out_at (pushed_on st item to) b).due (sent (stack_link_to st b))) (sym (marks (λ (o : StackOut). o.closed) refl b))
        (subst (λ d. LinkAgrees st.epoch (rounds_in n st.stage) (stack_out_at st b).closed d (sent (stack_link_to st b))) (sym (marks (λ (o : StackOut). o.due) refl b)) (a.outs b w));
    ins = a.ins;
    shapes = a.shapes;
    law = a.law;
    came = λ b w. forget st.popped b (stack_in_at st b) (a.came b w);
    in_cycle = λ b w. forget st.popped b (stack_in_at st b) (a.in_cycle b w);
    own = a.own;
  }

  pub push_step : st.done ≡ false → (n : ℕ) (sent got : Logs) → AgreesIn n st sent got → IsOwnStep (Push to item) (stack_part st sent got) (stack_part (pushed_on st item to) sent got)
  push_step open' n sent got a = record {
    may = open';
    is = same_part st.epoch st.done (is_all_done st.stage) None _ _ _ _
        (lists_with st.ranks st.epoch to item (stack_pushed_to st sent) (stack_pushed_to (pushed_on st item to) sent) below grown (λ q w ne. stays st.epoch q ne) (λ d q w ne. then' d q ne)) refl;
  } where
    grown : stack_pushed_to (pushed_on st item to) sent st.epoch to ≡ stack_pushed_to st sent st.epoch to ++ item ∷ []
    grown =
        let front : List Item = items (entries_sent st.epoch (sent (stack_link_to st to))) in
        let b : (st.epoch == st.epoch) ≡ true = eq-eqb st.epoch st.epoch refl in
        ap (λ (o : StackOut). front ++ cond (st.epoch == st.epoch) (items o.waiting) []) here
        ∙ (ap (λ c. front ++ cond c (items ((stack_out_at st to).waiting ++ plain_entry item ∷ [])) []) b
        ∙ (ap (λ es. front ++ es) (map-append (λ (x : Entry). x.item) (stack_out_at st to).waiting (plain_entry item ∷ []))
        ∙ (sym (append_assoc front (items (stack_out_at st to).waiting) (item ∷ []))
        ∙ ap (λ c. (front ++ cond c (items (stack_out_at st to).waiting) []) ++ item ∷ []) (sym b))))

    stays : (d q : ℕ) → q ≢ to → stack_pushed_to (pushed_on st item to) sent d q ≡ stack_pushed_to st sent d q
    stays d q ne = ap (λ (o : StackOut). items (entries_sent d (sent (stack_link_to st q))) ++ cond (d == st.epoch) (items o.waiting) []) (other q ne)

    then' : (d q : ℕ) → d ≢ st.epoch → stack_pushed_to (pushed_on st item to) sent d q ≡ stack_pushed_to st sent d q
    then' d q ne =
        let b : (d == st.epoch) ≡ false = ne_eqb d st.epoch ne in
        ap (λ c. items (entries_sent d (sent (stack_link_to st q))) ++ cond c (items (stack_out_at (pushed_on st item to) q).waiting) []) b
        ∙ ap (λ c. items (entries_sent d (sent (stack_link_to st q))) ++ cond c (items (stack_out_at st q).waiting) []) (sym b)

-- a call that does nothing
pub idle_step : (st : Stack) (n : ℕ) (sent got : Logs) → IsOwnStep Idle (stack_part st sent got) (stack_part (record st { popped = None }) sent got)
idle_step st n sent got = record { may = tt; is = refl }

-- a pop that gives the first unread item of a
first_entry : (es : List Entry) (x : Entry) → slice_get es 0 ≡ Some x → es ≡ x ∷ drop 1 es
first_entry [] x h = let z : None ≡ Some x = h in cc
first_entry (e ∷ es) x h = let z : Some e ≡ Some x = h in let v : e ≡ x = cc in ap (λ y. y ∷ es) v

module _ (cap : ℕ) (st : Stack) (a : ℕ) (x : Entry) (s : IsStack cap st) (below : a < st.ranks) (first : slice_get (stack_in_at st a).unread 0 ≡ Some x) where
  read : List StackIn
  read = set st.ins a (with_first_read (stack_in_at st a))

  split : (stack_in_at st a).unread ≡ x ∷ drop 1 (stack_in_at st a).unread
  split = first_entry (stack_in_at st a).unread x first

  in_here : get_or (set st.ins a (with_first_read (stack_in_at st a))) a no_stack_in ≡ with_first_read (stack_in_at st a)
  in_here = get_or-set_same st.ins a (with_first_read (stack_in_at st a)) no_stack_in (omega (arith, below, s.all_ins))

  in_other : (b : ℕ) → b ≢ a → get_or (set st.ins a (with_first_read (stack_in_at st a))) b no_stack_in ≡ stack_in_at st b
  in_other b ne = get_or-set_other st.ins a b (with_first_read (stack_in_at st a)) no_stack_in ne

  in_marks : {X : Type 0} (f : StackIn → X) → (f (with_first_read (stack_in_at st a)) ≡ f (stack_in_at st a)) → (b : ℕ) → f (get_or (set st.ins a (with_first_read (stack_in_at st a))) b no_stack_in) ≡ f (stack_in_at st b)
  in_marks f same b = elim (cases_eq b a) [
    | inl e ↦ ap (λ k. f (get_or (set st.ins a (with_first_read (stack_in_at st a))) k no_stack_in)) e ∙ (ap f in_here ∙ (same ∙ ap (λ k. f (stack_in_at st k)) (sym e)))
    | inr ne ↦ ap f (in_other b ne)
  ]

  back_now : back_first (Some a) a (get_or (set st.ins a (with_first_read (stack_in_at st a))) a no_stack_in) ≡ (stack_in_at st a).unread
  back_now =
      ap (back_first (Some a) a) in_here
      ∙ (ap (λ b. cond b (with_put_back (slice_get (stack_in_at st a).unread 0) (with_first_read (stack_in_at st a))).unread (drop 1 (stack_in_at st a).unread)) (eq-eqb a a refl)
      ∙ (ap (λ o. (with_put_back o (with_first_read (stack_in_at st a))).unread) first ∙ sym split))

  back_else : (b : ℕ) → b ≢ a → back_first (Some a) b (get_or (set st.ins a (with_first_read (stack_in_at st a))) b no_stack_in) ≡ (stack_in_at st b).unread
  back_else b ne =
      ap (back_first (Some a) b) (in_other b ne) ∙ ap (λ t. cond t (with_put_back (stack_in_at st b).back (stack_in_at st b)).unread (stack_in_at st b).unread) (ne_eqb a b (λ h. ne (sym h)))

  back_is : (b : ℕ) → back_first (Some a) b (get_or (set st.ins a (with_first_read (stack_in_at st a))) b no_stack_in) ≡ (stack_in_at st b).unread
  back_is b = elim (cases_eq b a) [
    | inl e ↦ ap (λ k. back_first (Some a) k (get_or (set st.ins a (with_first_read (stack_in_at st a))) k no_stack_in)) e ∙ (back_now ∙ ap (λ k. (stack_in_at st k).unread) (sym e))
    | inr ne ↦ back_else b ne
  ]

  pub pop_agrees : (n : ℕ) (sent got : Logs) → AgreesIn n st sent got → AgreesIn n (popped_from st (Some a)) sent got
  pop_agrees n sent got g = record {
    outs = g.outs;
    ins = λ b w. subst (λ c. LinkAgrees st.epoch (rounds_in n st.stage) c (stack_in_at (popped_from st (Some a)) b).due (got (stack_link_from st b))) (sym (in_marks (λ (i : StackIn). i.ended) refl b))
        (subst (λ d. LinkAgrees st.epoch (rounds_in n st.stage) (stack_in_at st b).ended d (got (stack_link_from st b))) (sym (in_marks (λ (i : StackIn). i.due) refl b)) (g.ins b w));
    shapes = g.shapes;
    law = g.law;
    came = λ b w. subst (Ends (entries_exchanged st.epoch (got (stack_link_from st b)))) (sym (back_is b)) (forget st.popped b (stack_in_at st b) (g.came b w));
    in_cycle = λ b w. subst (Ends (entries_if_any (exchange_parcel st.epoch n (got (stack_link_from st b))))) (sym (back_is b)) (forget st.popped b (stack_in_at st b) (g.in_cycle b w));
    own = g.own;
  }

  pub pop_step : (n : ℕ) (sent got : Logs) → AgreesIn n st sent got → IsOwnStep (Pull a x.item) (stack_part st sent got) (stack_part (popped_from st (Some a)) sent got)
  pop_step n sent got g = record {
    may = tt;
    is = same_part st.epoch st.done (is_all_done st.stage) (Some a) _ _ _ _ refl
        (lists_with st.ranks st.epoch a x.item (popped_of st got) (popped_of (popped_from st (Some a)) got) below grown (λ q w ne. stays st.epoch q ne) (λ d q w ne. then' d q ne));
  } where
    all : List Entry
    all = entries_exchanged st.epoch (got (stack_link_from st a))

    ends : Ends all (stack_in_at st a).unread
    ends = forget st.popped a (stack_in_at st a) (g.came a below)

    rest : List Entry
    rest = drop 1 (stack_in_at st a).unread

    whole : all ≡ (ends.front ++ x ∷ []) ++ rest
    whole = ends.is ∙ (ap (λ es. ends.front ++ es) split ∙ sym (append_assoc ends.front (x ∷ []) rest))

    before : popped_of st got st.epoch a ≡ items ends.front
    before = ap (λ es. pulled_of_all st.epoch st.epoch es (stack_in_at st a).unread) ends.is ∙ pulled_front st.epoch ends.front (stack_in_at st a).unread

    grown : popped_of (popped_from st (Some a)) got st.epoch a ≡ popped_of st got st.epoch a ++ x.item ∷ []
    grown =
        ap (λ (i : StackIn). pulled_of_all st.epoch st.epoch all i.unread) in_here
        ∙ (ap (λ es. pulled_of_all st.epoch st.epoch es rest) whole
        ∙ (pulled_front st.epoch (ends.front ++ x ∷ []) rest
        ∙ (map-append (λ (y : Entry). y.item) ends.front (x ∷ []) ∙ ap (λ xs. xs ++ x.item ∷ []) (sym before))))

    stays : (d q : ℕ) → q ≢ a → popped_of (popped_from st (Some a)) got d q ≡ popped_of st got d q
    stays d q ne = ap (λ (i : StackIn). pulled_of_all d st.epoch (entries_exchanged d (got (stack_link_from st q))) i.unread) (in_other q ne)

    then' : (d q : ℕ) → d ≢ st.epoch → popped_of (popped_from st (Some a)) got d q ≡ popped_of st got d q
    then' d q ne = pulled_then d st.epoch (entries_exchanged d (got (stack_link_from st q))) (stack_in_at st q).unread (stack_in_at (popped_from st (Some a)) q).unread ne

-- an unpop that puts the entry x of a back
module _ (cap : ℕ) (st : Stack) (a : ℕ) (x : Entry) (s : IsStack cap st) (popped : st.popped ≡ Some a) (below : a < st.ranks) (back : (stack_in_at st a).back ≡ Some x) where
  put : StackIn
  put = with_put_back (stack_in_at st a).back (stack_in_at st a)

  put_is : with_put_back (stack_in_at st a).back (stack_in_at st a) ≡ record (stack_in_at st a) { unread = x ∷ (stack_in_at st a).unread; back = None }
  put_is = ap (λ o. with_put_back o (stack_in_at st a)) back

  put_here : get_or (set st.ins a (with_put_back (stack_in_at st a).back (stack_in_at st a))) a no_stack_in ≡ record (stack_in_at st a) { unread = x ∷ (stack_in_at st a).unread; back = None }
  put_here = get_or-set_same st.ins a (with_put_back (stack_in_at st a).back (stack_in_at st a)) no_stack_in (omega (arith, below, s.all_ins)) ∙ put_is

  put_other : (b : ℕ) → b ≢ a → get_or (set st.ins a (with_put_back (stack_in_at st a).back (stack_in_at st a))) b no_stack_in ≡ stack_in_at st b
  put_other b ne = get_or-set_other st.ins a b (with_put_back (stack_in_at st a).back (stack_in_at st a)) no_stack_in ne

  put_marks : {X : Type 0} (f : StackIn → X) → (f (record (stack_in_at st a) { unread = x ∷ (stack_in_at st a).unread; back = None }) ≡ f (stack_in_at st a)) → (b : ℕ)
      → f (get_or (set st.ins a (with_put_back (stack_in_at st a).back (stack_in_at st a))) b no_stack_in) ≡ f (stack_in_at st b)
  put_marks f same b = elim (cases_eq b a) [
    | inl e ↦ ap (λ k. f (get_or (set st.ins a (with_put_back (stack_in_at st a).back (stack_in_at st a))) k no_stack_in)) e ∙ (ap f put_here ∙ (same ∙ ap (λ k. f (stack_in_at st k)) (sym e)))
    | inr ne ↦ ap f (put_other b ne)
  ]

  -- what counted as to be put back is unread
  first_here : back_first st.popped a (stack_in_at st a) ≡ x ∷ (stack_in_at st a).unread
  first_here =
      ap (λ p. back_first p a (stack_in_at st a)) popped
      ∙ (ap (λ t. cond t (with_put_back (stack_in_at st a).back (stack_in_at st a)).unread (stack_in_at st a).unread) (eq-eqb a a refl) ∙ ap (λ (i : StackIn). i.unread) put_is)

  first_else : (b : ℕ) → b ≢ a → back_first st.popped b (stack_in_at st b) ≡ (stack_in_at st b).unread
  first_else b ne =
      ap (λ p. back_first p b (stack_in_at st b)) popped ∙ ap (λ t. cond t (with_put_back (stack_in_at st b).back (stack_in_at st b)).unread (stack_in_at st b).unread) (ne_eqb a b (λ h. ne (sym h)))

  first_is : (b : ℕ) → back_first st.popped b (stack_in_at st b) ≡ (get_or (set st.ins a (with_put_back (stack_in_at st a).back (stack_in_at st a))) b no_stack_in).unread
  first_is b = elim (cases_eq b a) [
    | inl e ↦
        ap (λ k. back_first st.popped k (stack_in_at st k)) e
        ∙ (first_here ∙ (ap (λ (i : StackIn). i.unread) (sym put_here) ∙ ap (λ k. (get_or (set st.ins a (with_put_back (stack_in_at st a).back (stack_in_at st a))) k no_stack_in).unread) (sym e)))
    | inr ne ↦ first_else b ne ∙ ap (λ (i : StackIn). i.unread) (sym (put_other b ne))
  ]

  pub unpop_agrees : (n : ℕ) (sent got : Logs) → AgreesIn n st sent got → AgreesIn n (after_unpop st (Some a)) sent got
  unpop_agrees n sent got g = record {
    outs = g.outs;
    ins = λ b w. subst (λ c. LinkAgrees st.epoch (rounds_in n st.stage) c (stack_in_at (after_unpop st (Some a)) b).due (got (stack_link_from st b))) (sym (put_marks (λ (i : StackIn). i.ended) refl b))
        (subst (λ d. LinkAgrees st.epoch (rounds_in n st.stage) (stack_in_at st b).ended d (got (stack_link_from st b))) (sym (put_marks (λ (i : StackIn). i.due) refl b)) (g.ins b w));
    shapes = g.shapes;
    law = g.law;
    came = λ b w. subst (Ends (entries_exchanged st.epoch (got (stack_link_from st b)))) (first_is b) (g.came b w);
    in_cycle = λ b w. subst (Ends (entries_if_any (exchange_parcel st.epoch n (got (stack_link_from st b))))) (first_is b) (g.in_cycle b w);
    own = g.own;
  }

  pub unpop_step : (n : ℕ) (sent got : Logs) → AgreesIn n st sent got → IsOwnStep Unpull (stack_part st sent got) (stack_part (after_unpop st (Some a)) sent got)
  unpop_step n sent got g = record {
    may = ap is_some popped;
    is = same_part st.epoch st.done (is_all_done st.stage) None _ _ _ _ refl
        (lists_without st.ranks st.epoch a x.item (popped_of st got) (popped_of (after_unpop st (Some a)) got) below shrunk cut (λ q w ne. stays st.epoch q ne) (λ d q w ne. then' d q ne)
        ∙ ap (λ p. taken_back (for_ranks st.ranks (popped_of st got)) st.epoch p) (sym popped));
  } where
    all : List Entry
    all = entries_exchanged st.epoch (got (stack_link_from st a))

    ends : Ends all (x ∷ (stack_in_at st a).unread)
    ends = subst (Ends all) first_here (g.came a below)

    whole : all ≡ (ends.front ++ x ∷ []) ++ (stack_in_at st a).unread
    whole = ends.is ∙ sym (append_assoc ends.front (x ∷ []) (stack_in_at st a).unread)

    before : popped_of st got st.epoch a ≡ items ends.front ++ x.item ∷ []
    before =
        ap (λ es. pulled_of_all st.epoch st.epoch es (stack_in_at st a).unread) whole
        ∙ (pulled_front st.epoch (ends.front ++ x ∷ []) (stack_in_at st a).unread ∙ map-append (λ (y : Entry). y.item) ends.front (x ∷ []))

    now : popped_of (after_unpop st (Some a)) got st.epoch a ≡ items ends.front
    now =
        ap (λ (i : StackIn). pulled_of_all st.epoch st.epoch all i.unread) put_here
        ∙ (ap (λ es. pulled_of_all st.epoch st.epoch es (x ∷ (stack_in_at st a).unread)) ends.is ∙ pulled_front st.epoch ends.front (x ∷ (stack_in_at st a).unread))

    shrunk : popped_of (after_unpop st (Some a)) got st.epoch a ++ x.item ∷ [] ≡ popped_of st got st.epoch a
    shrunk = ap (λ xs. xs ++ x.item ∷ []) now ∙ sym before

    cut : take (length (popped_of st got st.epoch a) - 1) (popped_of st got st.epoch a) ≡ popped_of (after_unpop st (Some a)) got st.epoch a
    cut = ap (λ xs. take (length xs - 1) xs) before ∙ (take_front (items ends.front) (x.item ∷ []) ∙ sym now)

    stays : (d q : ℕ) → q ≢ a → popped_of (after_unpop st (Some a)) got d q ≡ popped_of st got d q
    stays d q ne = ap (λ (i : StackIn). pulled_of_all d st.epoch (entries_exchanged d (got (stack_link_from st q))) i.unread) (put_other q ne)

    then' : (d q : ℕ) → d ≢ st.epoch → popped_of (after_unpop st (Some a)) got d q ≡ popped_of st got d q
    then' d q ne = pulled_then d st.epoch (entries_exchanged d (got (stack_link_from st q))) (stack_in_at st q).unread (stack_in_at (after_unpop st (Some a)) q).unread ne
