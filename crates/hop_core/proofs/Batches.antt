-- As many pulls as an inbox has unread items: they give these items, in order, and leave the inbox
-- empty.
use Rattle.std.proofs.Common.{ℕ, zero, suc, ◌≡◌, ◌+◌, ◌-◌, ◌<◌, ◌≤◌, Bool, false, List, [], ◌∷◌, length, drop, get_or, sum, slice_get, Option, Some, arith, refl, sym, ap, subst, inl, inr, ◌∙◌, eqb, eq-eqb, true, add-one}
use Rattle.std.specs.List.{All}
use Rattle.std.specs.Option.{IsSome, is_some, option_map}
use Rattle.std.proofs.lemmas.Bool.{ne_eqb, cond-false, cases_lt, false≢true}
use Rattle.std.proofs.lemmas.List.{length-set, length-drop, get_or-set_same, get_or-set_other, get_or_default, set-set}
use Rattle.std.proofs.lemmas.List.Elements.{All-drop}
use Rattle.std.proofs.lemmas.Option.{same_Some, slice_get_within, slice_get-get_or}
use Rattle.list_laws.proofs.Lists.{all_get}
use Rattle.bale_items.specs.declared.item.Entry.{Entry}
use Rattle.bale_items.specs.declared.item.Item.{Item}
use Rattle.route_tensor.specs.Neighbour.{hop_to, neighbour}
use Rattle.route_tensor.specs.Tag.{IsFair, sender_of}
use Rattle.hop_core.specs.Link.{In, no_in, is_empty, with_first_taken, read_on}
use Rattle.hop_core.specs.State.{State, in_at, lowest_unread, pull_from, pulled_from, pulls}
use Rattle.hop_core.specs.Standing.{IsState, IsIn, IsKept, CanUnpull}
use Rattle.hop_core.proofs.Going.{no_entry, read_more, read_none, read_head}
use Rattle.hop_core.proofs.Standing.{in_written, state_in, in_fact, in_here, hop_last}
use Rattle.hop_core.proofs.Steps.{taken_kept}
use Rattle.hop_core.proofs.Unread.{Unread, unread_at, unread_is}

pub some_left : (xs : List Entry) → eqb (length xs) 0 ≡ false → 0 < length xs
some_left [] h = absurd (false≢true (sym h))
some_left (x ∷ xs) h = omega arith

-- nothing is unread below the place from which the code looks
not_below : (st : State) (ends : List Bool) (from count coming i : ℕ) → IsKept st ends from count coming → Unread st i → from ≤ i
not_below st ends from count coming i k u = elim (cases_lt i from) [
  | inl below ↦ absurd (false≢true (sym u.some ∙ k.from_none i u.low below))
  | inr above ↦ above
]

-- an inbox of which fewer are read than it has is not empty
left_some : (n : ℕ) (xs : List Entry) → n < length xs → eqb (length (drop n xs)) 0 ≡ false
left_some n xs h = ne_eqb (length (drop n xs)) 0 (λ e. absurd (omega (arith, e, length-drop n xs, h)))

one_taken : In → In
one_taken y = record y { parcel = with_first_taken y.parcel }

module _ (st : State) (i : ℕ) (s : IsState st) (low : lowest_unread st ≡ Some i) where
  -- the state after n of its items were pulled, for n above 0
  abbrev pub after : ℕ → State
  after n = in_written st i (read_on n (in_at st i)) (Some i)

  within : i < length st.ins
  within = let u = unread_at st i s low in omega (arith, u.high, s.all_ins)

  pub still_lowest : (n : ℕ) → n < length (in_at st i).parcel.untaken → lowest_unread (after n) ≡ Some i
  still_lowest n h =
      let u = unread_at st i s low in
      unread_is (after n) i s.grid (length-set st.ins i (read_on n (in_at st i)) ∙ s.all_ins) u.low u.high
      (λ j a w. ap (λ y. is_empty y.parcel) (get_or-set_other st.ins i j (read_on n (in_at st i)) no_in (omega (arith, w))) ∙ u.none j a w)
      (ap (λ y. is_empty y.parcel) (get_or-set_same st.ins i (read_on n (in_at st i)) no_in within) ∙ left_some n (in_at st i).parcel.untaken h)

  one_more : (n : ℕ) → pulled_from (after n) (Some i) ≡ after (n + 1)
  one_more n =
      ap (λ y. in_written (after n) i (record y { parcel = with_first_taken y.parcel }) (Some i)) (get_or-set_same st.ins i (read_on n (in_at st i)) no_in within)
      ∙ (ap (λ y. in_written (after n) i y (Some i)) (sym (read_more n (in_at st i)))
      ∙ ap (λ (ins : List In). record st { ins = ins; pulled = Some i }) (set-set st.ins i (read_on n (in_at st i)) (read_on (n + 1) (in_at st i))))

  first_one : pulled_from st (Some i) ≡ after (0 + 1)
  unfolding one_taken
  first_one = ap (λ y. in_written st i y (Some i)) (ap one_taken (sym (read_none (in_at st i))) ∙ sym (read_more 0 (in_at st i)))

  -- so many pulls leave this
  pub pulls_are : (n : ℕ) → n < length (in_at st i).parcel.untaken → pulls (suc n) st ≡ after (suc n)
  pulls_are zero h = ap (pulled_from st) low ∙ first_one
  pulls_are (suc n) h =
      ap (λ (t : State). pulled_from t (lowest_unread t)) (pulls_are n (omega (arith, h)))
      ∙ (ap (pulled_from (after (suc n))) (still_lowest (suc n) h) ∙ (one_more (suc n) ∙ ap after (add-one (suc n))))

  -- and they give these items
  give : Option Entry → Option (ℕ × Item)
  give o = option_map (λ e. (sender_of st.dims e.tag (length st.dims) (neighbour st.dims st.rank i), e.item)) o

  pub pulls_lowest : (n : ℕ) → n < length (in_at st i).parcel.untaken → lowest_unread (pulls n st) ≡ Some i
  pulls_lowest zero h = low
  pulls_lowest (suc n) h = ap lowest_unread (pulls_are n (omega (arith, h))) ∙ still_lowest (suc n) h

  pub pulls_give : (n : ℕ) (e : Entry) → slice_get (in_at st i).parcel.untaken n ≡ Some e
      → pull_from (pulls n st) (lowest_unread (pulls n st)) ≡ Some (sender_of st.dims e.tag (length st.dims) (neighbour st.dims st.rank i), e.item)
  unfolding give
  pulls_give zero e h = ap (pull_from st) low ∙ ap give h
  pulls_give (suc n) e h =
      let more : suc n < length (in_at st i).parcel.untaken = slice_get_within (in_at st i).parcel.untaken (suc n) e h in
      ap (λ (t : State). pull_from t (lowest_unread t)) (pulls_are n (omega (arith, more)))
      ∙ (ap (pull_from (after (suc n))) (still_lowest (suc n) more)
      ∙ (ap (λ y. give (slice_get y.parcel.untaken 0)) (get_or-set_same st.ins i (read_on (suc n) (in_at st i)) no_in within)
      ∙ ap give (read_head (suc n) (in_at st i) e h)))

  -- each of them leaves a state
  read_fair : (n : ℕ) (e : Entry) → (read_on (suc n) (in_at st i)).parcel.back ≡ Some e → IsFair st.dims (hop_to st.dims i) e.tag
  read_fair n e b =
      let one : suc n - 1 ≡ n = omega arith in
      let at : slice_get (in_at st i).parcel.untaken n ≡ Some e = ap (slice_get (in_at st i).parcel.untaken) (sym one) ∙ (sym (cond-false _ _ _ (ne_eqb (suc n) 0 (λ z. absurd (omega (arith, z))))) ∙ b) in
      all_get (λ y. IsFair st.dims (hop_to st.dims i) y.tag) (in_at st i).parcel.untaken n e (in_fact st i s (unread_at st i s low).high).fair at

  read_in : (n : ℕ) → n < length (in_at st i).parcel.untaken → IsIn st.dims st.cap (hop_to st.dims i) (read_on (suc n) (in_at st i))
  read_in n h =
      let k = in_fact st i s (unread_at st i s low).high in
      record {
        fits = omega (arith, length-drop (suc n) (in_at st i).parcel.untaken, k.fits);
        fair = All-drop (λ y. IsFair st.dims (hop_to st.dims i) y.tag) (suc n) (in_at st i).parcel.untaken k.fair;
        back_fair = read_fair n;
      }

  read_back : (n : ℕ) → n < length (in_at st i).parcel.untaken → IsSome (read_on (suc n) (in_at st i)).parcel.back
  read_back n h =
      let one : suc n - 1 ≡ n = omega arith in
      ap is_some (cond-false _ _ _ (ne_eqb (suc n) 0 (λ y. absurd (omega (arith, y)))) ∙ ap (slice_get (in_at st i).parcel.untaken) one)
      ∙ ap is_some (slice_get-get_or (in_at st i).parcel.untaken n no_entry h)

  after_state : (n : ℕ) → n < length (in_at st i).parcel.untaken → IsState (after (suc n))
  after_state n h =
      let u = unread_at st i s low in
      let x = in_at st i in
      state_in st i (read_on (suc n) x) (Some i) s u.high (read_in n h)
      (inl (hop_last st i s u.low u.high))
      (λ j z. subst (CanUnpull (after (suc n))) (same_Some i j z) (record {
        within = u.high;
        last_hop = hop_last st i s u.low u.high;
        back = ap (λ y. is_some y.parcel.back) (get_or-set_same st.ins i (read_on (suc n) x) no_in within)
            ∙ read_back n h;
      }))

  pub pulls_state : (n : ℕ) → n ≤ length (in_at st i).parcel.untaken → IsState (pulls n st)
  pulls_state zero h = s
  pulls_state (suc n) h = subst IsState (sym (pulls_are n (omega (arith, h)))) (after_state n (omega (arith, h)))

-- an inbox by what the code reads
pub record Batch (s : State) (i : ℕ) (x : In) : Type 0 where
  pub value : (es : List Entry) → es ≡ x.parcel.untaken → es ≡ (in_at s i).parcel.untaken
  pub within : i < sum s.dims
  pub last : hop_to s.dims i ≡ length s.dims
  pub fair : (es : List Entry) → es ≡ x.parcel.untaken → All (λ e. IsFair s.dims (length s.dims) e.tag) es

pub batch_of : (v s : State) (i : ℕ) (x : In) → v ≡ s → IsState v → lowest_unread s ≡ Some i → x ≡ get_or v.ins i x → Batch s i x
batch_of v s i x view k low read =
    let k' : IsState s = subst IsState view k in
    let u = unread_at s i k' low in
    let here : x ≡ in_at s i = in_here s i x k' u.high (read ∙ ap (λ (t : State). get_or t.ins i x) view) in
    let f = in_fact s i k' u.high in
    let last : hop_to s.dims i ≡ length s.dims = hop_last s i k' u.low u.high in
    record {
      value = λ es e. e ∙ ap (λ y. y.parcel.untaken) here;
      within = u.high;
      last = last;
      fair = λ es e. subst (λ us. All (λ y. IsFair s.dims (length s.dims) y.tag) us) (sym (e ∙ ap (λ y. y.parcel.untaken) here)) (subst (λ h. All (λ y. IsFair s.dims h y.tag) (in_at s i).parcel.untaken) last f.fair);
    }

-- two reads of one place
pub same_read : (xs : List In) (i : ℕ) (x y : In) → i < length xs → x ≡ get_or xs i x → y ≡ get_or xs i y → x ≡ y
same_read xs i x y within p q = p ∙ (get_or_default xs i x y within ∙ sym q)

-- all that was read is skipped
pub skipped_all : (xs : List In) (i : ℕ) (x y y' : In) (es : List Entry) → i < length xs → x ≡ get_or xs i x → es ≡ x.parcel.untaken → y ≡ get_or xs i y → y' ≡ read_on (length es) y → y' ≡ read_on (length y.parcel.untaken) y
skipped_all xs i x y y' es within p e q wrote = wrote ∙ ap (λ n. read_on n y) (ap length e ∙ ap (λ z. length z.parcel.untaken) (same_read xs i x y within p q))

-- a number above 0
all_but : (n : ℕ) → 0 < n → (m : ℕ) × (n ≡ suc m)
all_but zero h = absurd (omega (arith, h))
all_but (suc m) h = (m, refl)

-- a link of which all is read lies below the place from which the code looks
past_read : (st : State) (ends : List Bool) (count coming i : ℕ) (x : In) (back : Option ℕ) → i < length st.ins → i < sum st.dims → is_empty x.parcel ≡ true
    → IsKept (in_written st i x back) ends i count coming → IsKept (in_written st i x back) ends (i + 1) count coming
past_read st ends count coming i x back n q empty k = record {
  standing = k.standing;
  ends_all = k.ends_all;
  ends_each = k.ends_each;
  from_low = omega (arith, k.from_low);
  from_high = omega (arith, q);
  open_is = k.open_is;
  coming_is = k.coming_is;
  from_none = λ j a w. elim (cases_lt j i) as (λ _. is_empty (in_at (in_written st i x back) j).parcel ≡ true) [
    | inl v ↦ k.from_none j a v
    | inr v ↦
        let same : i ≡ j = omega (arith, v, w) in
        subst (λ j. is_empty (in_at (in_written st i x back) j).parcel ≡ true) same (ap (λ y. is_empty y.parcel) (get_or-set_same st.ins i x no_in n) ∙ empty)
  ];
}

pub batch_kept : (v s : State) (ends : List Bool) (from count coming i : ℕ) (x x' : In) → v ≡ s → IsKept v ends from count coming → lowest_unread s ≡ Some i → x ≡ get_or v.ins i x
    → x' ≡ read_on (length x.parcel.untaken) x → IsKept (in_written v i x' (Some i)) ends (i + 1) count coming
batch_kept v s ends from count coming i x x' view k low read wrote =
    let s' = k.standing in
    let low' : lowest_unread v ≡ Some i = ap lowest_unread view ∙ low in
    let u = unread_at v i s' low' in
    let here : x ≡ in_at v i = in_here v i x s' u.high read in
    let some : 0 < length x.parcel.untaken = some_left x.parcel.untaken (ap (λ y. is_empty y.parcel) here ∙ u.some) in
    let m = all_but (length x.parcel.untaken) some in
    let is : x' ≡ read_on (suc m.0) (in_at v i) = wrote ∙ (ap (λ n. read_on n x) m.1 ∙ ap (read_on (suc m.0)) here) in
    let n : m.0 < length (in_at v i).parcel.untaken = omega (arith, m.1, ap (λ y. length y.parcel.untaken) here) in
    let a = after_state v i s' low' m.0 n in
    let z : i < length v.ins = omega (arith, u.high, s'.all_ins) in
    let count' : suc m.0 ≡ length (in_at v i).parcel.untaken = sym m.1 ∙ ap (λ y. length y.parcel.untaken) here in
    let gone : length (drop (suc m.0) (in_at v i).parcel.untaken) ≡ 0 = omega (arith, length-drop (suc m.0) (in_at v i).parcel.untaken, count') in
    let empty : is_empty x'.parcel ≡ true = ap (λ y. is_empty y.parcel) is ∙ eq-eqb (length (drop (suc m.0) (in_at v i).parcel.untaken)) 0 gone in
    past_read v ends count coming i x' (Some i) z u.high empty
    (subst (λ y. IsKept (in_written v i y (Some i)) ends i count coming) (sym is)
    (taken_kept v ends from count coming i (read_on (suc m.0) (in_at v i)) k (not_below v ends from count coming i k u) u.high (λ j p q. u.none j (omega (arith, p, k.from_low)) q)
    (read_in v i s' low' m.0 n) (read_back v i s' low' m.0 n) refl))

pub batch_state : (v s : State) (i : ℕ) (x x' : In) → v ≡ s → IsState v → lowest_unread s ≡ Some i → x ≡ get_or v.ins i x → x' ≡ read_on (length x.parcel.untaken) x
    → in_written v i x' (Some i) ≡ pulls (length (in_at s i).parcel.untaken) s
batch_state v s i x x' view k low read wrote =
    let low' : lowest_unread v ≡ Some i = ap lowest_unread view ∙ low in
    let u = unread_at v i k low' in
    let here : x ≡ in_at v i = in_here v i x k u.high read in
    let some : 0 < length x.parcel.untaken = some_left x.parcel.untaken (ap (λ y. is_empty y.parcel) here ∙ u.some) in
    let m = all_but (length x.parcel.untaken) some in
    let is : x' ≡ read_on (suc m.0) (in_at v i) = wrote ∙ (ap (λ n. read_on n x) m.1 ∙ ap (read_on (suc m.0)) here) in
    let n : m.0 < length (in_at v i).parcel.untaken = omega (arith, m.1, ap (λ y. length y.parcel.untaken) here) in
    let count : suc m.0 ≡ length (in_at v i).parcel.untaken = sym m.1 ∙ ap (λ y. length y.parcel.untaken) here in
    ap (λ y. in_written v i y (Some i)) is
    ∙ (sym (pulls_are v i k low' m.0 n) ∙ (ap (λ j. pulls j v) count ∙ ap (λ (t : State). pulls (length (in_at t i).parcel.untaken) t) view))
