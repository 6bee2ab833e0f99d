-- The lowest inbox that has an entry, which a search by numbers finds.
use Rattle.std.proofs.Common.{ℕ, zero, suc, ◌≡◌, ◌+◌, ◌-◌, ◌<◌, ◌≤◌, Bool, true, false, List, [], ◌∷◌, length, drop, get_or, sum, slice_get, Option, Some, None, arith, refl, sym, ap, subst, ◌∙◌, inl, inr, eqb}
use Rattle.std.specs.Option.{option_map}
use Rattle.std.proofs.lemmas.Bool.{cases_lt, cases_Bool, cond-true, cond-false, false≢true}
use Rattle.std.proofs.lemmas.List.{get_or-take, get_or-drop, length-take, length-drop, take_all}
use Rattle.std.proofs.lemmas.Option.{same_Some}
use Rattle.bale_items.specs.declared.item.Entry.{Entry}
use Rattle.bale_items.specs.declared.item.Item.{Item}
use Rattle.route_tensor.specs.Grid.{dim, IsGrid}
use Rattle.route_tensor.specs.Link.{links_before}
use Rattle.route_tensor.specs.Neighbour.{neighbour, hop_to}
use Rattle.route_tensor.specs.Tag.{sender_of, IsFair}
use Rattle.route_tensor.proofs.Links.{before_more}
use Rattle.hop_core.specs.Link.{FindsUnread, In, no_in, is_empty, with_first_taken}
use Rattle.hop_core.specs.State.{State, in_at, ins_of_hop, lowest, lowest_unread, pull_from, pulled_from}
use Rattle.hop_core.specs.Standing.{IsState, IsKept, IsIn}
use Rattle.hop_core.proofs.Going.{head_fair}
use Rattle.hop_core.proofs.Standing.{in_here, in_written}

lowest_some : (i : ℕ) (xs : List In) (j : ℕ) → j < length xs → ((m : ℕ) → m < j → is_empty (get_or xs m no_in).parcel ≡ true) → is_empty (get_or xs j no_in).parcel ≡ false → lowest i xs ≡ Some (i + j)
unfolding lowest
lowest_some i [] j l none some = absurd (omega (arith, l))
lowest_some i (x ∷ xs) zero l none some = let e : i ≡ i + 0 = omega arith in cond-false _ _ _ some ∙ ap Some e
lowest_some i (x ∷ xs) (suc j) l none some =
    let e : suc i + j ≡ i + suc j = omega arith in
    cond-true _ _ _ (none 0 (omega arith)) ∙ lowest_some (suc i) xs j (omega (arith, l)) (λ m q. none (suc m) (omega (arith, q))) some ∙ ap Some e

lowest_none : (i : ℕ) (xs : List In) → ((m : ℕ) → m < length xs → is_empty (get_or xs m no_in).parcel ≡ true) → lowest i xs ≡ None
unfolding lowest
lowest_none i [] none = refl
lowest_none i (x ∷ xs) none = cond-true _ _ _ (none 0 (omega arith)) ∙ lowest_none (suc i) xs (λ m q. none (suc m) (omega (arith, q)))

-- the links in of the last hop, by number
record LastHop (st : State) : Type 0 where
  count : length (ins_of_hop st.dims st.ins (length st.dims)) ≡ sum st.dims - links_before st.dims (length st.dims)
  low : links_before st.dims (length st.dims) ≤ sum st.dims
  at : (m : ℕ) → m < sum st.dims - links_before st.dims (length st.dims) → get_or (ins_of_hop st.dims st.ins (length st.dims)) m no_in ≡ in_at st (links_before st.dims (length st.dims) + m)

last_hop_of : (st : State) → IsGrid st.dims → length st.ins ≡ sum st.dims → LastHop st
last_hop_of st g all =
    let k = length st.dims in
    let b = links_before st.dims k in
    let d = dim st.dims k in
    let n : sum st.dims ≡ b + d = sym (ap sum (take_all k st.dims (omega arith))) ∙ before_more st.dims k g.some (omega arith) in
    record {
      count = omega (arith, length-take d (drop b st.ins), length-drop b st.ins, all, n);
      low = omega (arith, n);
      at = λ m q. get_or-take d (drop b st.ins) m no_in (omega (arith, q, n)) ∙ get_or-drop b st.ins m no_in;
    }

pub unread_is : (st : State) (r : ℕ) → IsGrid st.dims → length st.ins ≡ sum st.dims → links_before st.dims (length st.dims) ≤ r → r < sum st.dims → ((j : ℕ) → links_before st.dims (length st.dims) ≤ j → j < r → is_empty (in_at st j).parcel ≡ true) →
    is_empty (in_at st r).parcel ≡ false → lowest_unread st ≡ Some r
unread_is st r g all low high none some =
    let b = links_before st.dims (length st.dims) in
    let l = last_hop_of st g all in
    let e : b + (r - b) ≡ r = omega (arith, low) in
    lowest_some b (ins_of_hop st.dims st.ins (length st.dims)) (r - b) (omega (arith, l.count, low, high))
    (λ m q. ap (λ y. is_empty y.parcel) (l.at m (omega (arith, q, high, low))) ∙ none (b + m) (omega arith) (omega (arith, q, low)))
    (ap (λ y. is_empty y.parcel) (l.at (r - b) (omega (arith, high, low)) ∙ ap (in_at st) e) ∙ some)
    ∙ ap Some e

pub unread_some : (st : State) (r : ℕ) → IsState st → links_before st.dims (length st.dims) ≤ r → r < sum st.dims → ((j : ℕ) → links_before st.dims (length st.dims) ≤ j → j < r → is_empty (in_at st j).parcel ≡ true) →
    is_empty (in_at st r).parcel ≡ false → lowest_unread st ≡ Some r
unread_some st r s low high none some = unread_is st r s.grid s.all_ins low high none some

-- what a lowest one is
record Lowest (i : ℕ) (xs : List In) (r : ℕ) : Type 0 where
  low : i ≤ r
  high : r < i + length xs
  none : (m : ℕ) → i + m < r → is_empty (get_or xs m no_in).parcel ≡ true
  some : is_empty (get_or xs (r - i) no_in).parcel ≡ false

lowest_later : (i : ℕ) (x : In) (xs : List In) (r : ℕ) → is_empty x.parcel ≡ true → Lowest (suc i) xs r → Lowest i (x ∷ xs) r
lowest_later i x xs r empty l = record {
  low = omega (arith, l.low);
  high = omega (arith, l.high);
  none = later_none i x xs r empty l;
  some = let e : r - i ≡ suc (r - suc i) = omega (arith, l.low) in ap (λ m. is_empty (get_or (x ∷ xs) m no_in).parcel) e ∙ l.some;
}
  where
    later_none : (i : ℕ) (x : In) (xs : List In) (r : ℕ) → is_empty x.parcel ≡ true → Lowest (suc i) xs r → (m : ℕ) → i + m < r → is_empty (get_or (x ∷ xs) m no_in).parcel ≡ true
    later_none i x xs r empty l zero h = empty
    later_none i x xs r empty l (suc m) h = l.none m (omega (arith, h))

lowest_is : (i : ℕ) (xs : List In) (r : ℕ) → lowest i xs ≡ Some r → Lowest i xs r
unfolding lowest
lowest_is i [] r h = absurd (cc)
lowest_is i (x ∷ xs) r h = elim (cases_Bool (is_empty x.parcel)) [
  | inl e ↦ lowest_later i x xs r e (lowest_is (suc i) xs r (sym (cond-true _ _ _ e) ∙ h))
  | inr e ↦
      let same : i ≡ r = same_Some i r (sym (cond-false _ _ _ e) ∙ h) in
      subst (Lowest i (x ∷ xs)) same (record {
        low = omega arith;
        high = omega arith;
        none = λ m w. absurd (omega (arith, w));
        some = let z : i - i ≡ 0 = omega arith in ap (λ m. is_empty (get_or (x ∷ xs) m no_in).parcel) z ∙ e;
      })
]

-- the lowest link in of the last hop that has an unread item
pub record Unread (st : State) (r : ℕ) : Type 0 where
  pub low : links_before st.dims (length st.dims) ≤ r
  pub high : r < sum st.dims
  pub none : (j : ℕ) → links_before st.dims (length st.dims) ≤ j → j < r → is_empty (in_at st j).parcel ≡ true
  pub some : is_empty (in_at st r).parcel ≡ false

pub unread_at : (st : State) (r : ℕ) → IsState st → lowest_unread st ≡ Some r → Unread st r
unread_at st r s h =
    let b = links_before st.dims (length st.dims) in
    let l = last_hop_of st s.grid s.all_ins in
    let w = lowest_is b (ins_of_hop st.dims st.ins (length st.dims)) r h in
    let back : b + (r - b) ≡ r = omega (arith, w.low) in
    record {
      low = w.low;
      high = omega (arith, w.high, w.low, l.count, l.low);
      none = λ j a z.
          let e : b + (j - b) ≡ j = omega (arith, a) in
          ap (λ m. is_empty (in_at st m).parcel) (sym e) ∙ (sym (ap (λ y. is_empty y.parcel) (l.at (j - b) (omega (arith, a, z, w.high, l.count)))) ∙ w.none (j - b) (omega (arith, a, z)));
      some = ap (λ m. is_empty (in_at st m).parcel) (sym back) ∙ (sym (ap (λ y. is_empty y.parcel) (l.at (r - b) (omega (arith, w.low, w.high, l.count)))) ∙ w.some);
    }

pub unread_none : (st : State) → IsState st → ((j : ℕ) → links_before st.dims (length st.dims) ≤ j → j < sum st.dims → is_empty (in_at st j).parcel ≡ true) → lowest_unread st ≡ None
unread_none st s none =
    let b = links_before st.dims (length st.dims) in
    let l = last_hop_of st s.grid s.all_ins in
    lowest_none b (ins_of_hop st.dims st.ins (length st.dims))
    (λ m q. ap (λ y. is_empty y.parcel) (l.at m (omega (arith, q, l.count))) ∙ none (b + m) (omega arith) (omega (arith, q, l.count)))

give : State → ℕ → Option Entry → Option (ℕ × Item)
give v r o = option_map (λ e. (sender_of v.dims e.tag (length v.dims) (neighbour v.dims v.rank r), e.item)) o

taken_of : In → In
taken_of y = record y { parcel = with_first_taken y.parcel }

-- what a pull gives and leaves, by what the code reads and writes
pub pull_value : (v s : State) (r a : ℕ) (old : In) (e : Entry) → v ≡ s → IsState v → r < sum v.dims → lowest_unread v ≡ Some r → old ≡ get_or v.ins r old → slice_get old.parcel.untaken 0 ≡ Some e →
    a ≡ sender_of v.dims e.tag (length v.dims) (neighbour v.dims v.rank r) → pull_from s (lowest_unread s) ≡ Some (a, e.item)
unfolding give
pull_value v s r a old e w k q low read head snd =
    sym (ap (λ (z : State). pull_from z (lowest_unread z)) w)
    ∙ ap (pull_from v) low
    ∙ ap (give v r) (ap (λ y. slice_get y.parcel.untaken 0) (sym (in_here v r old k q read)) ∙ head)
    ∙ ap (λ z. Some (z, e.item)) (sym snd)

pub pull_state : (v s : State) (r : ℕ) (old x : In) → v ≡ s → IsState v → r < sum v.dims → lowest_unread v ≡ Some r → old ≡ get_or v.ins r old → x ≡ record old { parcel = with_first_taken old.parcel } →
    in_written v r x (Some r) ≡ pulled_from s (lowest_unread s)
unfolding taken_of
pull_state v s r old x w k q low read wrote =
    ap (λ y. in_written v r y (Some r)) (wrote ∙ ap taken_of (in_here v r old k q read))
    ∙ sym (ap (pulled_from v) low) ∙ ap (λ (z : State). pulled_from z (lowest_unread z)) w

pub none_value : (v s : State) → v ≡ s → lowest_unread v ≡ None → pull_from s (lowest_unread s) ≡ None
none_value v s w low = sym (ap (λ (z : State). pull_from z (lowest_unread z)) w) ∙ ap (pull_from v) low

pub none_state : (v s : State) → v ≡ s → lowest_unread v ≡ None → record v { pulled = None } ≡ pulled_from s (lowest_unread s)
none_state v s w low = sym (ap (pulled_from v) low) ∙ ap (λ (z : State). pulled_from z (lowest_unread z)) w

-- below r nothing is unread
pub none_below : (st : State) (ends : List Bool) (from count coming r : ℕ) → IsKept st ends from count coming → ((j : ℕ) → from ≤ j → j < r → is_empty (in_at st j).parcel ≡ true) →
    (j : ℕ) → links_before st.dims (length st.dims) ≤ j → j < r → is_empty (in_at st j).parcel ≡ true
none_below st ends from count coming r k none j a w = elim (cases_lt j from) as (λ _. is_empty (in_at st j).parcel ≡ true) [ inl v ↦ k.from_none j a v | inr v ↦ none j v w ]

-- where the scan of the code ends
pub record Scan (st : State) (from r : ℕ) : Type 0 where
  pub low : from ≤ r
  pub high : r ≤ sum st.dims
  pub none : (j : ℕ) → from ≤ j → j < r → is_empty (in_at st j).parcel ≡ true
  pub some : r < sum st.dims → is_empty (in_at st r).parcel ≡ false

pub scan_of : (st : State) (from r : ℕ) (xs : List In) → IsState st → xs ≡ st.ins → from ≤ r → r ≤ length xs → ((j : ℕ) → from ≤ j → j < r → is_empty (get_or xs j no_in).parcel ≡ true) →
    (r < length xs → is_empty (get_or xs r no_in).parcel ≡ false) → Scan st from r
scan_of st from r xs s e a b none some =
    let n : length xs ≡ sum st.dims = ap length e ∙ s.all_ins in
    record {
      low = a;
      high = omega (arith, n, b);
      none = λ j p q. ap (λ ys. is_empty (get_or ys j no_in).parcel) (sym e) ∙ none j p q;
      some = λ p. ap (λ ys. is_empty (get_or ys r no_in).parcel) (sym e) ∙ some (omega (arith, n, p));
    }

pub scan_some : (st : State) (ends : List Bool) (from count coming r : ℕ) → IsKept st ends from count coming → Scan st from r → r < sum st.dims → lowest_unread st ≡ Some r
scan_some st ends from count coming r k c q = unread_some st r k.standing (omega (arith, k.from_low, c.low)) q (none_below st ends from count coming r k c.none) (c.some q)

pub scan_none : (st : State) (ends : List Bool) (from count coming r : ℕ) → IsKept st ends from count coming → Scan st from r → r ≡ sum st.dims → lowest_unread st ≡ None
scan_none st ends from count coming r k c e = unread_none st k.standing (λ j a w. none_below st ends from count coming r k c.none j a (omega (arith, e, w)))

-- an entry of the last hop
pub last_fair : (st : State) (i : ℕ) (old : In) (e : Entry) → IsState st → i < sum st.dims → hop_to st.dims i ≡ length st.dims → old ≡ get_or st.ins i old → slice_get old.parcel.untaken 0 ≡ Some e → IsFair st.dims (length st.dims) e.tag
last_fair st i old e s q h read head =
    subst (λ j. IsFair st.dims j e.tag) h (head_fair st.dims st.cap (hop_to st.dims i) old e
    (subst (IsIn st.dims st.cap (hop_to st.dims i)) (sym (in_here st i old s q read)) (s.each_in i no_in (omega (arith, s.all_ins, q)))) head)

-- a link with an entry gives one
pub some_taken : (xs : List Entry) (o : Option Entry) → eqb (length xs) 0 ≡ false → o ≡ slice_get xs 0 → o ≡ None → ⊥
some_taken [] o e h n = absurd (false≢true (sym e))
some_taken (x ∷ xs) o e h n = cc

-- where the scan finds nothing
pub scan_all : (st : State) (ends : List Bool) (from count coming : ℕ) (xs : List In) → IsKept st ends from count coming → xs ≡ st.ins → ((j : ℕ) → from ≤ j → j < length xs → is_empty (get_or xs j no_in).parcel ≡ true) → Scan st from (sum st.dims)
scan_all st ends from count coming xs k e none = record {
  low = k.from_high;
  high = omega arith;
  none = λ j p q. ap (λ ys. is_empty (get_or ys j no_in).parcel) (sym e) ∙ none j p (omega (arith, ap length e, k.standing.all_ins, q));
  some = λ p. absurd (omega (arith, p));
}

-- what the scan finds is the lowest link
pub found_lowest : (st : State) (ends : List Bool) (from count coming : ℕ) (xs : List In) (r : Option ℕ) → IsKept st ends from count coming → xs ≡ st.ins → FindsUnread from xs r → r ≡ lowest_unread st
found_lowest st ends from count coming xs (Some r) k e f =
    let w = f.within r refl in let q : r < sum st.dims = omega (arith, w, ap length e, k.standing.all_ins) in
    sym (scan_some st ends from count coming r k (scan_of st from r xs k.standing e (f.from_here r refl) (omega (arith, w)) (f.below r refl) (λ _. f.some r refl)) q)
found_lowest st ends from count coming xs None k e f = sym (scan_none st ends from count coming (sum st.dims) k (scan_all st ends from count coming xs k e (f.none refl)) refl)
