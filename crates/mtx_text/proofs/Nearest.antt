-- The first cell from a place on.
use Rattle.std.proofs.Common.{ℕ, zero, suc, ◌<◌, ◌≤◌, ◌≡◌, pos, Bool, true, false, ◌||◌, cond, List, [], ◌∷◌, Option, Some, None, length, get_or, slice_get, arith, inl, inr, refl, sym, ap, ◌∙◌, subst}
use Rattle.std.specs.List.{All}
use Rattle.std.proofs.lemmas.Bool.{false≢true, cases_Bool, cases_eq, false_from_ne_true}
use Rattle.std.proofs.lemmas.List.Elements.{All-cons, All-head, All-tail}
use Rattle.std.proofs.lemmas.List.{get_or_default}
use Rattle.bale_items.specs.declared.triple.Triple.{Triple}
use Rattle.mtx_text.specs.Grammar.{has_place}
use Rattle.mtx_text.specs.Maps.{is_at}
use Rattle.mtx_text.specs.Cells.{is_before, comes_before, InOrder, with_value_raised, first_from}
use Rattle.mtx_text.proofs.PlaceOrder.{pairs_tail, before_trans, place_cases, not_after, not_before_itself, all_after}
use Rattle.mtx_text.proofs.Raised.{greater, raised_later, raised_first, raised_here, not_at, at_from}

abbrev Ahead : Triple → Triple → Type 0
Ahead s t = is_before s t ≡ true

-- a place as a triple
abbrev place : ℕ → ℕ → Triple
place i j = record { i = i; j = j; v = pos 0 }

-- the first cell from a place on, where a triple comes that isn't before the place
abbrev pub near : Triple → Option Triple → Option Triple
near t None = Some t
near t (Some c) = Some (cond (is_before t c) t (cond (is_before c t) c (greater c t)))

abbrev pub with_one : ℕ → ℕ → Triple → Option Triple → Option Triple
with_one i j t best = cond (comes_before t.i t.j i j) best (near t best)

first_later : (i j : ℕ) (c : Triple) (cells : List Triple) → comes_before c.i c.j i j ≡ true → first_from i j (c ∷ cells) ≡ first_from i j cells
first_later i j c cells h = ap (λ b. cond b (first_from i j cells) (Some c)) h

first_here : (i j : ℕ) (c : Triple) (cells : List Triple) → comes_before c.i c.j i j ≡ false → first_from i j (c ∷ cells) ≡ Some c
first_here i j c cells h = ap (λ b. cond b (first_from i j cells) (Some c)) h

-- what isn't before a place has nothing behind it that is
still_not : (i j : ℕ) (s t : Triple) → is_before s t ≡ true → comes_before s.i s.j i j ≡ false → comes_before t.i t.j i j ≡ false
still_not i j s t b h = false_from_ne_true (comes_before t.i t.j i j) (λ g. false≢true (sym h ∙ before_trans s t (place i j) b g))

pub first_raised : (i j : ℕ) (t : Triple) (cells : List Triple) → InOrder cells → first_from i j (with_value_raised t cells) ≡ with_one i j t (first_from i j cells)
first_raised i j t [] h = refl
first_raised i j t (c ∷ cells) h =
    elim (place_cases c t) [
      | inl x ↦ ap (first_from i j) (raised_later t c cells x) ∙ elim (cases_Bool (comes_before c.i c.j i j)) [
        | inl b ↦
            first_later i j c (with_value_raised t cells) b
            ∙ first_raised i j t cells (pairs_tail Ahead c cells h)
            ∙ ap (with_one i j t) (sym (first_later i j c cells b))
        | inr n ↦
            first_here i j c (with_value_raised t cells) n
            ∙ ap (λ b. Some (cond b c (greater c t))) (sym x)
            ∙ ap (λ b. Some (cond b t (cond (is_before c t) c (greater c t)))) (sym (not_after c.i c.j t.i t.j x))
            ∙ ap (λ b. cond b (Some c) (near t (Some c))) (sym (still_not i j c t x n))
            ∙ ap (with_one i j t) (sym (first_here i j c cells n))
      ]
      | inr o ↦ elim o [
        | inl x ↦
            let same : comes_before t.i t.j i j ≡ comes_before c.i c.j i j = ap (λ k. comes_before k t.j i j) (sym x.0) ∙ ap (λ k. comes_before c.i k i j) (sym x.1) in
            ap (first_from i j) (raised_here t c cells x.0 x.1) ∙ elim (cases_Bool (comes_before c.i c.j i j)) [
              | inl b ↦
                  first_later i j (greater c t) cells b
                  ∙ sym (first_later i j c cells b)
                  ∙ ap (λ b. cond b (first_from i j (c ∷ cells)) (near t (first_from i j (c ∷ cells)))) (sym (same ∙ b))
              | inr n ↦
                  first_here i j (greater c t) cells n
                  ∙ ap (λ b. Some (cond b c (greater c t))) (sym (not_before_itself c.i c.j t.i t.j x.0 x.1))
                  ∙ ap (λ b. Some (cond b t (cond (is_before c t) c (greater c t)))) (sym (not_before_itself t.i t.j c.i c.j (sym x.0) (sym x.1)))
                  ∙ ap (λ b. cond b (Some c) (near t (Some c))) (sym (same ∙ n))
                  ∙ ap (with_one i j t) (sym (first_here i j c cells n))
            ]
        | inr x ↦ ap (first_from i j) (raised_first t c cells x) ∙ elim (cases_Bool (comes_before t.i t.j i j)) [
          | inl b ↦
              first_later i j t (c ∷ cells) b
              ∙ ap (λ b. cond b (first_from i j (c ∷ cells)) (near t (first_from i j (c ∷ cells)))) (sym b)
          | inr n ↦
              first_here i j t (c ∷ cells) n
              ∙ ap (λ b. Some (cond b t (cond (is_before c t) c (greater c t)))) (sym x)
              ∙ ap (near t) (sym (first_here i j c cells (still_not i j t c x n)))
              ∙ ap (λ b. cond b (first_from i j (c ∷ cells)) (near t (first_from i j (c ∷ cells)))) (sym n)
        ]
      ]
    ]

-- what is the first with one more triple
pub nearer_is : (i j : ℕ) (t : Triple) (best new : Option Triple) → new ≡ with_one i j t best
    → (cells : List Triple) → InOrder cells → best ≡ first_from i j cells → new ≡ first_from i j (with_value_raised t cells)
nearer_is i j t best new e cells h b = e ∙ ap (with_one i j t) b ∙ sym (first_raised i j t cells h)

-- the first from a place on, by what stands before it
pub first_is : (i j : ℕ) (cells : List Triple) (n : ℕ) → ((k : ℕ) (d : Triple) → k < n → k < length cells → comes_before (get_or cells k d).i (get_or cells k d).j i j ≡ true)
    → ((d : Triple) → n < length cells → comes_before (get_or cells n d).i (get_or cells n d).j i j ≡ false) → first_from i j cells ≡ slice_get cells n
first_is i j [] n before from = refl
first_is i j (c ∷ cells) zero before from = first_here i j c cells (from c (omega arith))
first_is i j (c ∷ cells) (suc n) before from =
    first_later i j c cells (before 0 c (omega arith) (omega arith))
    ∙ first_is i j cells n (λ k d l m. before (suc k) d (omega arith) (omega arith)) (λ d l. from d (omega arith))

-- what stands before one that is before a place is so too
pub all_before : (i j : ℕ) (cells : List Triple) (m k : ℕ) (c d : Triple) → InOrder cells → m < length cells → c ≡ get_or cells m c → comes_before c.i c.j i j ≡ true → k ≤ m
    → comes_before (get_or cells k d).i (get_or cells k d).j i j ≡ true
all_before i j cells m k c d h l e b low =
    let here : get_or cells m d ≡ c = get_or_default cells m d c l ∙ sym e in
    elim (cases_eq k m) [
      | inl same ↦ subst (λ u. comes_before u.i u.j i j ≡ true) (sym (ap (λ n. get_or cells n d) same ∙ here)) b
      | inr apart ↦ before_trans (get_or cells k d) c (place i j) (subst (Ahead (get_or cells k d)) here (h k m d (omega arith) l)) b
    ]

-- ---- Whether a place is there

abbrev pub found_at : ℕ → ℕ → Option Triple → Bool
found_at i j None = false
found_at i j (Some c) = is_at i j c

none_there : (i j : ℕ) (cells : List Triple) → All (Ahead (place i j)) cells → has_place i j cells ≡ false
none_there i j [] h = refl
none_there i j (c ∷ cells) h =
    ap (λ b. b || has_place i j cells) (not_at i j (place i j) c (All-head (Ahead (place i j)) c cells h) (at_from i j (place i j) refl refl))
    ∙ none_there i j cells (All-tail (Ahead (place i j)) c cells h)

pub has_is : (i j : ℕ) (cells : List Triple) → InOrder cells → has_place i j cells ≡ found_at i j (first_from i j cells)
has_is i j [] h = refl
has_is i j (c ∷ cells) h =
    elim (place_cases c (place i j)) [
      | inl b ↦
          let away : is_at i j c ≡ false = false_from_ne_true (is_at i j c) (λ g. false≢true (sym (not_at i j c (place i j) b g) ∙ at_from i j (place i j) refl refl)) in
          ap (λ b. b || has_place i j cells) away
          ∙ has_is i j cells (pairs_tail Ahead c cells h)
          ∙ ap (found_at i j) (sym (first_later i j c cells b))
      | inr o ↦ elim o [
        | inl x ↦
            let here : is_at i j c ≡ true = at_from i j c x.0 x.1 in
            ap (λ b. b || has_place i j cells) here
            ∙ sym here
            ∙ ap (found_at i j) (sym (first_here i j c cells (not_before_itself c.i c.j i j x.0 x.1)))
        | inr x ↦
            let away : is_at i j c ≡ false = not_at i j (place i j) c x (at_from i j (place i j) refl refl) in
            none_there i j (c ∷ cells) (All-cons (Ahead (place i j)) c cells x (all_after (place i j) c cells x h))
            ∙ sym away
            ∙ ap (found_at i j) (sym (first_here i j c cells (not_after i j c.i c.j x)))
      ]
    ]
