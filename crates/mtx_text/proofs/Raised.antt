-- What a raise leaves: the value at each place, and cells in order.
use Rattle.std.proofs.Common.{ℕ, ◌≡◌, ℤ, Bool, true, false, cond, eqb, List, [], ◌∷◌, Option, Some, None, arith, rules, inl, inr, refl, sym, ap, ◌∙◌, subst}
use Rattle.std.specs.List.{All}
use Rattle.std.specs.Int.{int_max}
use Rattle.std.proofs.lemmas.Bool.{false≢true, eq-eqb, eqb-true, cases_Bool, and_from, and_parts, false_from_ne_true}
use Rattle.std.proofs.lemmas.List.Elements.{All-cons, All-head, All-tail}
use Rattle.std.proofs.lemmas.Option.{same_Some}
use Rattle.std.proofs.lemmas.Int.{ints, clamps}
use Rattle.bale_items.specs.declared.triple.Triple.{Triple}
use Rattle.mtx_text.specs.Maps.{is_at, value_at}
use Rattle.mtx_text.specs.Cells.{is_before, InOrder, with_value_raised}
use Rattle.mtx_text.proofs.PlaceOrder.{pairs_head, pairs_tail, pairs_cons, pairs_none, place_cases, not_same, not_after, not_before_itself, all_after}

abbrev Ahead : Triple → Triple → Type 0
Ahead s t = is_before s t ≡ true

-- ---- Values

-- the greater of a value that may be missing and one that is there
abbrev pub most : Option ℤ → ℤ → ℤ
most None v = v
most (Some w) v = int_max w v

-- a value was raised to v at row i and column j
abbrev pub lifted : ℕ → ℕ → Triple → Option ℤ → Option ℤ
lifted i j t o = cond (is_at i j t) (Some (most o t.v)) o

pub at_parts : (i j : ℕ) (t : Triple) → is_at i j t ≡ true → (t.i ≡ i) × (t.j ≡ j)
at_parts i j t h =
    let p : (eqb t.i i ≡ true) × (eqb t.j j ≡ true) = and_parts (eqb t.i i) (eqb t.j j) h in
    (eqb-true t.i i p.0, eqb-true t.j j p.1)

pub at_from : (i j : ℕ) (t : Triple) → t.i ≡ i → t.j ≡ j → is_at i j t ≡ true
at_from i j t e f = and_from _ _ (eq-eqb t.i i e) (eq-eqb t.j j f)

pub not_at : (i j : ℕ) (s t : Triple) → is_before s t ≡ true → is_at i j s ≡ true → is_at i j t ≡ false
not_at i j s t b h = false_from_ne_true (is_at i j t) (λ g.
    let p : (s.i ≡ i) × (s.j ≡ j) = at_parts i j s h in
    let q : (t.i ≡ i) × (t.j ≡ j) = at_parts i j t g in
    not_same s.i s.j t.i t.j b (p.0 ∙ sym q.0) (p.1 ∙ sym q.1))

pub not_at_first : (i j : ℕ) (s t : Triple) → is_before s t ≡ true → is_at i j t ≡ true → is_at i j s ≡ false
not_at_first i j s t b h = false_from_ne_true (is_at i j s) (λ g.
    let p : (t.i ≡ i) × (t.j ≡ j) = at_parts i j t h in
    let q : (s.i ≡ i) × (s.j ≡ j) = at_parts i j s g in
    not_same s.i s.j t.i t.j b (q.0 ∙ sym p.0) (q.1 ∙ sym p.1))

-- no value at a place that comes before all
pub none_ahead : (i j : ℕ) (t : Triple) (cells : List Triple) → All (Ahead t) cells → is_at i j t ≡ true → value_at cells i j ≡ None
none_ahead i j t [] h here = refl
none_ahead i j t (c ∷ cells) h here =
    ap (λ b. cond b (Some c.v) (value_at cells i j)) (not_at i j t c (All-head (Ahead t) c cells h) here)
    ∙ none_ahead i j t cells (All-tail (Ahead t) c cells h) here

pub value_first : (i j : ℕ) (c : Triple) (cells : List Triple) → is_at i j c ≡ true → value_at (c ∷ cells) i j ≡ Some c.v
value_first i j c cells h = ap (λ b. cond b (Some c.v) (value_at cells i j)) h

pub value_later : (i j : ℕ) (c : Triple) (cells : List Triple) → is_at i j c ≡ false → value_at (c ∷ cells) i j ≡ value_at cells i j
value_later i j c cells h = ap (λ b. cond b (Some c.v) (value_at cells i j)) h

-- ---- The three cases of a raise

abbrev pub greater : Triple → Triple → Triple
greater c t = record { i = c.i; j = c.j; v = int_max c.v t.v }

pub raised_later : (t c : Triple) (cells : List Triple) → is_before c t ≡ true → with_value_raised t (c ∷ cells) ≡ c ∷ with_value_raised t cells
raised_later t c cells h = ap (λ b. cond b (c ∷ with_value_raised t cells) (cond (is_before t c) (t ∷ c ∷ cells) (greater c t ∷ cells))) h

pub raised_first : (t c : Triple) (cells : List Triple) → is_before t c ≡ true → with_value_raised t (c ∷ cells) ≡ t ∷ c ∷ cells
raised_first t c cells h =
    ap (λ b. cond b (c ∷ with_value_raised t cells) (cond (is_before t c) (t ∷ c ∷ cells) (greater c t ∷ cells))) (not_after t.i t.j c.i c.j h)
    ∙ ap (λ b. cond b (t ∷ c ∷ cells) (greater c t ∷ cells)) h

pub raised_here : (t c : Triple) (cells : List Triple) → c.i ≡ t.i → c.j ≡ t.j → with_value_raised t (c ∷ cells) ≡ greater c t ∷ cells
raised_here t c cells e f =
    ap (λ b. cond b (c ∷ with_value_raised t cells) (cond (is_before t c) (t ∷ c ∷ cells) (greater c t ∷ cells))) (not_before_itself c.i c.j t.i t.j e f)
    ∙ ap (λ b. cond b (t ∷ c ∷ cells) (greater c t ∷ cells)) (not_before_itself t.i t.j c.i c.j (sym e) (sym f))

-- ---- Order is kept

all_raised : (s t : Triple) (cells : List Triple) → is_before s t ≡ true → All (Ahead s) cells → All (Ahead s) (with_value_raised t cells)
all_raised s t [] b h = All-cons (Ahead s) t [] b h
all_raised s t (c ∷ cells) b h =
    elim (place_cases c t) [
      | inl x ↦ subst (All (Ahead s)) (sym (raised_later t c cells x))
          (All-cons (Ahead s) c (with_value_raised t cells) (All-head (Ahead s) c cells h) (all_raised s t cells b (All-tail (Ahead s) c cells h)))
      | inr o ↦ elim o [
        | inl x ↦ subst (All (Ahead s)) (sym (raised_here t c cells x.0 x.1))
            (All-cons (Ahead s) (greater c t) cells (All-head (Ahead s) c cells h) (All-tail (Ahead s) c cells h))
        | inr x ↦ subst (All (Ahead s)) (sym (raised_first t c cells x)) (All-cons (Ahead s) t (c ∷ cells) b h)
      ]
    ]

pub raised_ordered : (t : Triple) (cells : List Triple) → InOrder cells → InOrder (with_value_raised t cells)
raised_ordered t [] h = pairs_cons Ahead t [] (λ k d l. absurd (omega arith)) (pairs_none Ahead)
raised_ordered t (c ∷ cells) h =
    elim (place_cases c t) [
      | inl x ↦ subst InOrder (sym (raised_later t c cells x))
          (pairs_cons Ahead c (with_value_raised t cells) (all_raised c t cells x (pairs_head Ahead c cells h)) (raised_ordered t cells (pairs_tail Ahead c cells h)))
      | inr o ↦ elim o [
        | inl x ↦ subst InOrder (sym (raised_here t c cells x.0 x.1))
            (pairs_cons Ahead (greater c t) cells (pairs_head Ahead c cells h) (pairs_tail Ahead c cells h))
        | inr x ↦ subst InOrder (sym (raised_first t c cells x))
            (pairs_cons Ahead t (c ∷ cells) (All-cons (Ahead t) c cells x (all_after t c cells x h)) h)
      ]
    ]

-- ---- The value at each place

pub value_raised : (i j : ℕ) (t : Triple) (cells : List Triple) → InOrder cells → value_at (with_value_raised t cells) i j ≡ lifted i j t (value_at cells i j)
value_raised i j t [] h = refl
value_raised i j t (c ∷ cells) h =
    elim (place_cases c t) [
      | inl x ↦ ap (λ xs. value_at xs i j) (raised_later t c cells x) ∙ elim (cases_Bool (is_at i j c)) [
        | inl y ↦
            value_first i j c (with_value_raised t cells) y
            ∙ ap (λ b. cond b (Some (most (Some c.v) t.v)) (Some c.v)) (sym (not_at i j c t x y))
            ∙ ap (lifted i j t) (sym (value_first i j c cells y))
        | inr n ↦
            value_later i j c (with_value_raised t cells) n
            ∙ value_raised i j t cells (pairs_tail Ahead c cells h)
            ∙ ap (lifted i j t) (sym (value_later i j c cells n))
      ]
      | inr o ↦ elim o [
        | inl x ↦ ap (λ xs. value_at xs i j) (raised_here t c cells x.0 x.1) ∙ elim (cases_Bool (is_at i j t)) [
          | inl y ↦
              let p : (t.i ≡ i) × (t.j ≡ j) = at_parts i j t y in
              let q : is_at i j c ≡ true = at_from i j c (x.0 ∙ p.0) (x.1 ∙ p.1) in
              value_first i j (greater c t) cells q
              ∙ ap (λ b. cond b (Some (most (Some c.v) t.v)) (Some c.v)) (sym y)
              ∙ ap (lifted i j t) (sym (value_first i j c cells q))
          | inr n ↦
              let q : is_at i j c ≡ false = false_from_ne_true (is_at i j c) (λ y.
              let p : (c.i ≡ i) × (c.j ≡ j) = at_parts i j c y in
              let z : is_at i j t ≡ true = at_from i j t (sym x.0 ∙ p.0) (sym x.1 ∙ p.1) in
              false≢true (sym n ∙ z)) in
              value_later i j (greater c t) cells q
              ∙ sym (value_later i j c cells q)
              ∙ ap (λ b. cond b (Some (most (value_at (c ∷ cells) i j) t.v)) (value_at (c ∷ cells) i j)) (sym n)
        ]
        | inr x ↦ ap (λ xs. value_at xs i j) (raised_first t c cells x) ∙ elim (cases_Bool (is_at i j t)) [
          | inl y ↦
              let none : value_at (c ∷ cells) i j ≡ None = none_ahead i j t (c ∷ cells) (All-cons (Ahead t) c cells x (all_after t c cells x h)) y in
              value_first i j t (c ∷ cells) y
              ∙ ap (λ o. Some (most o t.v)) (sym none)
              ∙ ap (λ b. cond b (Some (most (value_at (c ∷ cells) i j) t.v)) (value_at (c ∷ cells) i j)) (sym y)
          | inr n ↦
              value_later i j t (c ∷ cells) n
              ∙ ap (λ b. cond b (Some (most (value_at (c ∷ cells) i j) t.v)) (value_at (c ∷ cells) i j)) (sym n)
        ]
      ]
    ]

-- ---- Cells in order with the same values are the same

triple : ℕ → ℕ → ℤ → Triple
triple i j v = record { i = i; j = j; v = v }

pub same_triple : (s t : Triple) → s.i ≡ t.i → s.j ≡ t.j → s.v ≡ t.v → s ≡ t
same_triple s t e f g =
    ap (λ i. record { i = i; j = s.j; v = s.v }) e ∙ ap (λ j. record { i = t.i; j = j; v = s.v }) f ∙ ap (λ v. record { i = t.i; j = t.j; v = v }) g

none_some : (v : ℤ) → None ≡ Some v → ⊥
none_some v e = search (rules, e)

pub same_cells : (xs ys : List Triple) → InOrder xs → InOrder ys → ((i j : ℕ) → value_at xs i j ≡ value_at ys i j) → xs ≡ ys
same_cells [] [] a b h = refl
same_cells [] (y ∷ ys) a b h = absurd (none_some y.v (h y.i y.j ∙ value_first y.i y.j y ys (at_from y.i y.j y refl refl)))
same_cells (x ∷ xs) [] a b h = absurd (none_some x.v (sym (h x.i x.j) ∙ value_first x.i x.j x xs (at_from x.i x.j x refl refl)))
same_cells (x ∷ xs) (y ∷ ys) a b h =
    elim (place_cases x y) [
      | inl p ↦ absurd (none_some x.v (
          sym (none_ahead x.i x.j x (y ∷ ys) (All-cons (Ahead x) y ys p (all_after x y ys p b)) (at_from x.i x.j x refl refl))
          ∙ sym (h x.i x.j) ∙ value_first x.i x.j x xs (at_from x.i x.j x refl refl)))
      | inr o ↦ elim o [
        | inl p ↦
            let e : Some x.v ≡ Some y.v =
            sym (value_first x.i x.j x xs (at_from x.i x.j x refl refl)) ∙ h x.i x.j ∙ value_first x.i x.j y ys (at_from x.i x.j y (sym p.0) (sym p.1)) in
            let one : x ≡ y = same_triple x y p.0 p.1 (same_Some x.v y.v e) in
            let rest : (i j : ℕ) → value_at xs i j ≡ value_at ys i j = λ i j. elim (cases_Bool (is_at i j x)) [
              | inl here ↦
                  let q : (x.i ≡ i) × (x.j ≡ j) = at_parts i j x here in
                  none_ahead i j x xs (pairs_head Ahead x xs a) here
                  ∙ sym (none_ahead i j y ys (pairs_head Ahead y ys b) (at_from i j y (sym p.0 ∙ q.0) (sym p.1 ∙ q.1)))
              | inr away ↦
                  let q : is_at i j y ≡ false = ap (is_at i j) (sym one) ∙ away in
                  sym (value_later i j x xs away) ∙ h i j ∙ value_later i j y ys q
            ] in
            ap (λ z. z ∷ xs) one ∙ ap (λ zs. y ∷ zs) (same_cells xs ys (pairs_tail Ahead x xs a) (pairs_tail Ahead y ys b) rest)
        | inr p ↦ absurd (none_some y.v (
            sym (none_ahead y.i y.j y (x ∷ xs) (All-cons (Ahead y) x xs p (all_after y x xs p a)) (at_from y.i y.j y refl refl))
            ∙ h y.i y.j ∙ value_first y.i y.j y ys (at_from y.i y.j y refl refl)))
      ]
    ]

-- ---- Two raises in any order

pub max_comm : (x y : ℤ) → int_max x y ≡ int_max y x
max_comm x y = omega (arith, ints, clamps)

pub max_assoc : (x y z : ℤ) → int_max (int_max x y) z ≡ int_max x (int_max y z)
max_assoc x y z = omega (arith, ints, clamps)

pub lifted_comm : (i j : ℕ) (s t : Triple) (o : Option ℤ) → lifted i j s (lifted i j t o) ≡ lifted i j t (lifted i j s o)
lifted_comm i j s t o = go (is_at i j s) (is_at i j t) o
  where
    both : (o : Option ℤ) → Some (most (Some (most o t.v)) s.v) ≡ Some (most (Some (most o s.v)) t.v)
    both None = ap Some (max_comm t.v s.v)
    both (Some w) = ap Some (max_assoc w t.v s.v ∙ ap (int_max w) (max_comm t.v s.v) ∙ sym (max_assoc w s.v t.v))

    go : (a b : Bool) (o : Option ℤ) → cond a (Some (most (cond b (Some (most o t.v)) o) s.v)) (cond b (Some (most o t.v)) o)
        ≡ cond b (Some (most (cond a (Some (most o s.v)) o) t.v)) (cond a (Some (most o s.v)) o)
    go true true o = both o
    go true false o = refl
    go false true o = refl
    go false false o = refl

pub raised_comm : (s t : Triple) (cells : List Triple) → InOrder cells → with_value_raised s (with_value_raised t cells) ≡ with_value_raised t (with_value_raised s cells)
raised_comm s t cells h = same_cells _ _
    (raised_ordered s (with_value_raised t cells) (raised_ordered t cells h)) (raised_ordered t (with_value_raised s cells) (raised_ordered s cells h))
    (λ i j.
    value_raised i j s (with_value_raised t cells) (raised_ordered t cells h) ∙ ap (lifted i j s) (value_raised i j t cells h)
    ∙ lifted_comm i j s t (value_at cells i j)
    ∙ sym (value_raised i j t (with_value_raised s cells) (raised_ordered s cells h) ∙ ap (lifted i j t) (value_raised i j s cells h)))
