-- Ranks come back, one after the other.
use Rattle.std.proofs.Common.{◌≡◌, ◌≢◌, ℕ, ◌+◌, ◌<◌, ◌≤◌, Bool, true, List, [], ◌∷◌, ◌++◌, length, length-append, map, reverse, slice_get, slice_set, Some, refl, sym, ap, subst, ◌∙◌, arith, inl, inr}
use Rattle.std.proofs.lemmas.Bool.{cases_eq, cases_lt}
use Rattle.std.proofs.lemmas.List.{length-map, length-reverse, map-append, reverse-append}
use Rattle.list_laws.proofs.Lists.{within, get_once, get_here, get_other, set_len, get_last, get_before, all_get, all_from_gets}
use Rattle.std.specs.List.{All}
use Rattle.rank_crews.specs.Runs.{AllRan}

-- the element at hand stands behind those before it
at_hand : {X : Type 0} (xs rest : List X) (x : X) → slice_get (xs ++ x ∷ rest) (length xs) ≡ Some x
at_hand [] rest x = refl
at_hand (y ∷ xs) rest x = at_hand xs rest x

pub next_is : {X : Type 0} (xs rest all now : List X) (x : X) → xs ++ now ≡ all → now ≡ x ∷ rest → slice_get all (length xs) ≡ Some x
next_is xs rest all now x left is = ap (λ ys. slice_get ys (length xs)) (sym left ∙ ap (λ ys. xs ++ ys) is) ∙ at_hand xs rest x

pub one_less : {X : Type 0} (xs rest all now : List X) (x : X) → xs ++ now ≡ all → now ≡ x ∷ rest → (xs ++ x ∷ []) ++ rest ≡ all
one_less {X} xs rest all now x left is = by xs ∙ (ap (λ ys. xs ++ ys) (sym is) ∙ left) where
  by : (ys : List X) → (ys ++ x ∷ []) ++ rest ≡ ys ++ x ∷ rest
  by [] = refl
  by (y ∷ ys) = ap (λ zs. y ∷ zs) (by ys)

pub ran_more : {S : Type 0} (ran : S → S → Type 0) (xs ys : List S) (x y : S) → AllRan ran xs ys → ran x y → AllRan ran (xs ++ x ∷ []) (ys ++ y ∷ [])
ran_more {S} ran xs ys x y all one = record { all = omega (arith, length-append xs (x ∷ []), length-append ys (y ∷ []), all.all); each = at } where
  at : (r : ℕ) (a b : S) → slice_get (xs ++ x ∷ []) r ≡ Some a → slice_get (ys ++ y ∷ []) r ≡ Some b → ran a b
  at r a b ha hb = elim (cases_lt r (length xs)) [
    | inl low ↦ all.each r a b (sym (get_before xs (x ∷ []) r low) ∙ ha) (sym (get_before ys (y ∷ []) r (omega (arith, low, all.all))) ∙ hb)
    | inr past ↦
        let e : r ≡ length xs = omega (arith, past, within (xs ++ x ∷ []) r a ha, length-append xs (x ∷ [])) in
        let f : r ≡ length ys = omega (arith, e, all.all) in
        let ea : x ≡ a = get_once (xs ++ x ∷ []) (length xs) x a (get_last xs x) (subst (λ k. slice_get (xs ++ x ∷ []) k ≡ Some a) e ha) in
        let eb : y ≡ b = get_once (ys ++ y ∷ []) (length ys) y b (get_last ys y) (subst (λ k. slice_get (ys ++ y ∷ []) k ≡ Some b) f hb) in
        subst (λ z. ran z b) ea (subst (λ z. ran x z) eb one)
  ]

-- what holds of the first elements, once the next was changed to one of which it holds
pub holds_further : {X : Type 0} (P : X → Type 0) (xs : List X) (i : ℕ) (y : X) → i < length xs → ((k : ℕ) (x : X) → k < i → slice_get xs k ≡ Some x → P x) → P y
    → (k : ℕ) (x : X) → k < i + 1 → slice_get (slice_set xs i y) k ≡ Some x → P x
holds_further P xs i y low so_far one k x below e = elim (cases_eq k i) [
  | inl here ↦ subst P (get_once (slice_set xs i y) i y x (get_here xs i y low) (subst (λ j. slice_get (slice_set xs i y) j ≡ Some x) here e)) one
  | inr other ↦ so_far k x (omega (arith, below, other)) (sym (get_other xs i k y other) ∙ e)
]

-- The ranks of some children have come back from the end on, and one child more is taken.
module _ {S C : Type 0} (ran : S → S → Type 0) (f : C → S) (back ys : List S) (all now rest : List C) (x : C) (left : back ++ reverse (map f now) ≡ reverse (map f all)) (is : now ≡ rest ++ x ∷ [])
    (so_far : AllRan ran back ys) where
  next : reverse (map f now) ≡ f x ∷ reverse (map f rest)
  next = ap (λ cs. reverse (map f cs)) is ∙ (ap reverse (map-append f rest (x ∷ [])) ∙ reverse-append (map f rest) (f x ∷ []))

  pub one_more : (back ++ f x ∷ []) ++ reverse (map f rest) ≡ reverse (map f all)
  one_more = one_less back (reverse (map f rest)) (reverse (map f all)) (reverse (map f now)) (f x) left next

  -- there is room for one more
  pub room_for_one : (room : ℕ) → length all ≤ room → length ys < room
  room_for_one room below = omega (
    arith,
    below,
    ap length left,
    ap length next,
    length-append back (reverse (map f now)),
    so_far.all,
    length-reverse (map f all),
    length-map all f,
  )

-- The first i elements of xs were changed by R, and the others not.
pub record ChangedBelow {X : Type 0} (R : X → X → Type 0) (i : ℕ) (xs ys : List X) : Type 0 where
  pub all : length ys ≡ length xs
  pub done : (r : ℕ) (x y : X) → r < i → slice_get xs r ≡ Some x → slice_get ys r ≡ Some y → R x y
  pub rest : (r : ℕ) → i ≤ r → slice_get ys r ≡ slice_get xs r

pub changed_none : {X : Type 0} (R : X → X → Type 0) (xs : List X) → ChangedBelow R 0 xs xs
changed_none R xs = record { all = refl; done = λ r x y low ex ey. absurd (omega (arith, low)); rest = λ r past. refl }

pub changed_more : {X : Type 0} (R : X → X → Type 0) (i : ℕ) (xs ys : List X) (y z : X) → ChangedBelow R i xs ys → slice_get ys i ≡ Some y → R y z → ChangedBelow R (i + 1) xs (slice_set ys i z)
changed_more {X} R i xs ys y z so_far at one = record { all = set_len ys i z ∙ so_far.all; done = done; rest = rest } where
  done : (r : ℕ) (a b : X) → r < i + 1 → slice_get xs r ≡ Some a → slice_get (slice_set ys i z) r ≡ Some b → R a b
  done r a b low ea eb = elim (cases_eq r i) [
    | inl here ↦
        let is : z ≡ b = get_once (slice_set ys i z) i z b (get_here ys i z (within ys i y at)) (subst (λ j. slice_get (slice_set ys i z) j ≡ Some b) here eb) in
        let same : i ≤ i = omega arith in
        let was : a ≡ y = get_once xs i a y (subst (λ j. slice_get xs j ≡ Some a) here ea) (sym (so_far.rest i same) ∙ at) in
        subst (λ w. R w b) (sym was) (subst (λ w. R y w) is one)
    | inr other ↦ so_far.done r a b (omega (arith, low, other)) ea (sym (get_other ys i r z other) ∙ eb)
  ]

  rest : (r : ℕ) → i + 1 ≤ r → slice_get (slice_set ys i z) r ≡ slice_get xs r
  rest r past =
      let other : r ≢ i = λ e. omega (arith, e, past) in
      let later : i ≤ r = omega (arith, past) in
      get_other ys i r z other ∙ so_far.rest r later

pub changed_all : {X : Type 0} (R : X → X → Type 0) (i : ℕ) (xs ys : List X) → length xs ≤ i → ChangedBelow R i xs ys → AllRan R xs ys
changed_all R i xs ys past so_far = record { all = so_far.all; each = λ r x y ex ey. so_far.done r x y (omega (arith, past, within xs r x ex)) ex ey }

-- one child more was placed, of the last of the workers that are left
pub placed_one : {S C : Type 0} (f : C → S) (cs : List C) (all now rest : List S) (c : C) (x : S) → map f cs ++ reverse now ≡ reverse all → now ≡ rest ++ x ∷ [] → f c ≡ x
    → (map f (cs ++ c ∷ []) ++ reverse rest ≡ reverse all) × (length all ≡ length cs + length rest + 1)
placed_one f cs all now rest c x same is one = (
  ap (λ ys. ys ++ reverse rest) (map-append f cs (c ∷ []) ∙ ap (λ y. map f cs ++ y ∷ []) one) ∙ one_less (map f cs) (reverse rest) (reverse all) (reverse now) x same (ap reverse is ∙ reverse-append rest (x ∷ [])),
  omega (arith, ap length same, length-append (map f cs) (reverse now), length-map cs f, length-reverse now, length-reverse all, ap length is, length-append rest (x ∷ [])),
)

-- no child but the first so many is on a thread
pub started_more : {C : Type 0} (there : C → Bool) (n limit : ℕ) (cs : List C) (c : C) → ((k : ℕ) (d : C) → slice_get cs k ≡ Some d → there d ≡ true → n ≤ limit + k) → (there c ≡ true → n ≤ limit + length cs)
    → (k : ℕ) (d : C) → slice_get (cs ++ c ∷ []) k ≡ Some d → there d ≡ true → n ≤ limit + k
started_more there n limit cs c before one k d at is = elim (cases_lt k (length cs)) [
  | inl low ↦ before k d (sym (get_before cs (c ∷ []) k low) ∙ at) is
  | inr past ↦
      let e : k ≡ length cs = omega (arith, past, within (cs ++ c ∷ []) k d at, length-append cs (c ∷ [])) in
      let same : c ≡ d = get_once (cs ++ c ∷ []) (length cs) c d (get_last cs c) (subst (λ j. slice_get (cs ++ c ∷ []) j ≡ Some d) e at) in
      let bound = one (subst (λ z. there z ≡ true) (sym same) is) in
      omega (arith, bound, e)
]

-- what holds of all holds of all but the last, and of the last
pub all_but_last : {X : Type 0} (P : X → Type 0) (now rest : List X) (x : X) → now ≡ rest ++ x ∷ [] → All P now → All P rest × P x
all_but_last P now rest x is all = (
  all_from_gets P rest (λ k y at. all_get P now k y all (ap (λ ys. slice_get ys k) is ∙ (get_before rest (x ∷ []) k (within rest k y at) ∙ at))),
  all_get P now (length rest) x all (ap (λ ys. slice_get ys (length rest)) is ∙ get_last rest x),
)
