-- What a view lends is a prefix of what is unread, and so many pulls give it.
use Rattle.std.proofs.Common.{◌≡◌, ℕ, zero, suc, ◌+◌, ◌<◌, ◌≤◌, Bool, true, false, List, [], ◌∷◌, ◌++◌, length, take, drop, get_or, slice_get, Option, Some, None, arith, refl, sym, ap, ◌∙◌, subst, append-nil, eqb}
use Rattle.std.specs.Prelude.{if◌then◌else◌}
use Rattle.std.proofs.lemmas.Bool.{eq-eqb}
use Rattle.std.specs.Option.{option_map}
use Rattle.std.proofs.lemmas.Option.{slice_get-get_or, same_Some}
use Rattle.bale_items.specs.declared.item.Item.{Item}
use Rattle.bale_items.specs.declared.item.Entry.{Entry}
use Rattle.route_tensor.specs.Neighbour.{neighbour}
use Rattle.route_tensor.specs.Tag.{sender_of}
use Rattle.port_bank.specs.Machine.{Step}
use Rattle.port_bank.specs.Machine.Step.{Pull}
use Rattle.hop_core.specs.State.{State, in_at, lowest_unread, pull_from, pulls}
use Rattle.convey.specs.Conveyors.{GivesNext}
use Rattle.rank_handles.specs.RankAtBank.{RunOf}
use Rattle.rank_handles.specs.Views.{leading, lent_of, lent, lender, pull_steps}
use Rattle.rank_handles.proofs.Runs.{run_none, run_pull}
use Rattle.rank_handles.proofs.Senders.{near_sender}

abbrev pub no_entry : Entry
no_entry = record { tag = record { d1 = 0; d2 = 0; d3 = 0 }; item = record { a = 0; b = 0; c = 0 } }

snoc_append : {X : Type 0} (xs : List X) (x : X) (ys : List X) → xs ++ x ∷ ys ≡ (xs ++ x ∷ []) ++ ys
snoc_append [] x ys = refl
snoc_append (y ∷ xs) x ys = ap (λ l. y ∷ l) (snoc_append xs x ys)

take_more : (n : ℕ) (es : List Entry) (d : Entry) → n < length es → take (suc n) es ≡ take n es ++ get_or es n d ∷ []
take_more n [] d h = absurd (omega arith)
take_more zero (e ∷ es) d h = refl
take_more (suc n) (e ∷ es) d h = ap (λ l. e ∷ l) (take_more n es d (omega arith))

drop_none : (n : ℕ) (es : List Entry) → length es ≤ n → drop n es ≡ []
drop_none zero [] h = refl
drop_none (suc n) [] h = refl
drop_none zero (e ∷ es) h = absurd (omega arith)
drop_none (suc n) (e ∷ es) h = drop_none n es (omega arith)

module _ (dims : List ℕ) (near from : ℕ) where
  abbrev sender : Entry → ℕ
  sender e = sender_of dims e.tag (length dims) near

  -- on one hop all are of the rank at the other end
  pub leading_alone : (es : List Entry) → length dims ≡ 1 → from ≡ near → leading dims near from es ≡ es
  unfolding leading
  leading_alone [] one is = refl
  leading_alone (e ∷ es) one is =
      let same : eqb (sender e) from ≡ true = eq-eqb (sender e) from (near_sender dims e.tag (length dims) near one ∙ sym is) in
      ap (λ (b : Bool). if b then e ∷ leading dims near from es else []) same ∙ ap (λ l. e ∷ l) (leading_alone es one is)

  at_front : (n : ℕ) (es : List Entry) (d : Entry) (b : Bool) → n < length es → eqb (sender (get_or es n d)) from ≡ b
      → leading dims near from (drop n es) ≡ (if b then get_or es n d ∷ leading dims near from (drop (suc n) es) else [])
  unfolding leading
  at_front n [] d b h is = absurd (omega arith)
  at_front zero (e ∷ es) d b h is = ap (λ (c : Bool). if c then e ∷ leading dims near from es else []) is
  at_front (suc n) (e ∷ es) d b h is = at_front n es d b (omega arith) is

  abbrev pub Front : ℕ → List Entry → Type 0
  Front n es = leading dims near from es ≡ take n es ++ leading dims near from (drop n es)

  pub front_more : (n : ℕ) (es : List Entry) (d : Entry) → n < length es → sender (get_or es n d) ≡ from → Front n es → Front (n + 1) es
  front_more n es d h is front =
      let one : suc n ≡ n + 1 = omega arith in let rest = leading dims near from (drop (suc n) es) in
      subst (λ m. Front m es) one
      (front ∙ (ap (λ l. take n es ++ l) (at_front n es d true h (eq-eqb (sender (get_or es n d)) from is)) ∙ (snoc_append (take n es) (get_or es n d) rest ∙ ap (λ l. l ++ rest) (sym (take_more n es d h)))))

  pub front_ends : (n : ℕ) (es : List Entry) (d : Entry) → n < length es → eqb (sender (get_or es n d)) from ≡ false → Front n es → take n es ≡ leading dims near from es
  front_ends n es d h is front = sym (front ∙ (ap (λ l. take n es ++ l) (at_front n es d false h is) ∙ append-nil (take n es)))

  pub front_all : (n : ℕ) (es : List Entry) → length es ≤ n → Front n es → take n es ≡ leading dims near from es
  unfolding leading
  front_all n es h front = sym (front ∙ (ap (λ l. take n es ++ leading dims near from l) (drop_none n es h) ∙ append-nil (take n es)))

  -- what is lent is unread, and of this sender
  lent_here : (e : Entry) (es : List Entry) (b : Bool) (i : ℕ) (x : Entry) → eqb (sender e) from ≡ b → ((j : ℕ) → slice_get (leading dims near from es) j ≡ Some x → (slice_get es j ≡ Some x) × (eqb (sender x) from ≡ true))
      → slice_get (if b then e ∷ leading dims near from es else []) i ≡ Some x → (slice_get (e ∷ es) i ≡ Some x) × (eqb (sender x) from ≡ true)
  lent_here e es false i x is rest at = absurd cc
  lent_here e es true zero x is rest at = (at, subst (λ (z : Entry). eqb (sender z) from ≡ true) (same_Some e x at) is)
  lent_here e es true (suc i) x is rest at = rest i at

  pub lent_unread : (es : List Entry) (i : ℕ) (x : Entry) → slice_get (leading dims near from es) i ≡ Some x → (slice_get es i ≡ Some x) × (eqb (sender x) from ≡ true)
  unfolding leading
  lent_unread [] i x at = absurd cc
  lent_unread (e ∷ es) i x at = lent_here e es (eqb (sender e) from) i x refl (λ j. lent_unread es j x) at

-- who lends, and what, by the inbox and its first entry
pub lender_is : (st : State) (i : ℕ) (e : Entry) → lowest_unread st ≡ Some i → slice_get (in_at st i).parcel.untaken 0 ≡ Some e
    → lender st ≡ Some (sender_of st.dims e.tag (length st.dims) (neighbour st.dims st.rank i))
lender_is st i e low head = ap (λ (o : Option ℕ). option_map (λ (p : ℕ × Item). p.0) (pull_from st o)) low
    ∙ ap (λ (o : Option Entry). option_map (λ (p : ℕ × Item). p.0) (option_map (λ (x : Entry). (sender_of st.dims x.tag (length st.dims) (neighbour st.dims st.rank i), x.item)) o)) head

pub lent_is : (st : State) (i from : ℕ) → lowest_unread st ≡ Some i → lender st ≡ Some from → lent st ≡ leading st.dims (neighbour st.dims st.rank i) from (in_at st i).parcel.untaken
unfolding lent_of
lent_is st i from low is = ap (λ (o : Option ℕ). lent_of st o (lender st)) low ∙ ap (λ (o : Option ℕ). lent_of st (Some i) o) is

pub none_lent : (st : State) → lowest_unread st ≡ None → lent st ≡ []
unfolding lent_of
none_lent st low = ap (λ (o : Option ℕ). lent_of st o (lender st)) low

-- as many pulls
steps_snoc : (from n : ℕ) (es : List Entry) (d : Entry) → n < length es → pull_steps (Some from) (take (suc n) es) ≡ pull_steps (Some from) (take n es) ++ Pull from (get_or es n d).item ∷ []
unfolding pull_steps
steps_snoc from n [] d h = absurd (omega arith)
steps_snoc from zero (e ∷ es) d h = refl
steps_snoc from (suc n) (e ∷ es) d h = ap (λ (l : List Step). Pull from e.item ∷ l) (steps_snoc from n es d (omega arith))

pub lent_run : (st : State) (from : ℕ) (es : List Entry) (n : ℕ) → n ≤ length es → ((i : ℕ) (e : Entry) → slice_get es i ≡ Some e → GivesNext (pulls i st) from e.item)
    → RunOf (pull_steps (Some from) (take n es)) st (pulls n st)
unfolding pull_steps
lent_run st from es zero h gives = run_none st
lent_run st from es (suc n) h gives =
    let inside : n < length es = omega (arith, h) in let steps = pull_steps (Some from) (take n es) in let e : Entry = get_or es n no_entry in
    subst (λ (l : List Step). RunOf l st (pulls (suc n) st)) (sym (steps_snoc from n es no_entry inside))
    (run_pull steps 0 0 from e.item st (pulls n st) (subst (λ (l : List Step). RunOf l st (pulls n st)) (sym (append-nil steps)) (lent_run st from es n (omega (arith, h)) gives)) (gives n e (slice_get-get_or es n no_entry inside)))

pub none_run : (st : State) (n : ℕ) → n ≤ 0 → lowest_unread st ≡ None → RunOf (pull_steps (lender st) (take n (lent st))) st (pulls n st)
unfolding pull_steps
none_run st zero h low = subst (λ (o : Option ℕ). RunOf (pull_steps o []) st st) (sym (ap (λ (o : Option ℕ). option_map (λ (p : ℕ × Item). p.0) (pull_from st o)) low)) (run_none st)
none_run st (suc n) h low = absurd (omega (arith, h))

pub take_whole : (es : List Entry) → take (length es) es ≡ es
take_whole [] = refl
take_whole (e ∷ es) = ap (λ l. e ∷ l) (take_whole es)
