-- What stands in lists that are made of others.
use Rattle.std.proofs.Common.{ℕ, zero, suc, ◌<◌, ◌≡◌, Bool, true, cond, eqb, List, [], ◌∷◌, ◌++◌, map, get_or, arith, inl, inr, refl, sym, ap, ◌∙◌, subst, ◌⊎◌}
use Rattle.std.specs.Prelude.{Contains}
use Rattle.std.specs.List.{filter, flat_map}
use Rattle.std.proofs.lemmas.Bool.{cases_Bool, cases_eq, eq-eqb, eqb-true}
use Rattle.std.proofs.lemmas.List.Elements.{Contains-append_left, Contains-append_right, Contains-append_cases}
use Rattle.bale_items.specs.declared.Item.{Item}
use Rattle.round_program.specs.Canonical.{items_of}

module _ {X : Type 0} where
  pub has_head : (x : X) (xs : List X) → Contains (x ∷ xs) x
  has_head x xs = (0, omega arith, refl)

  pub has_tail : (x y : X) (xs : List X) → Contains xs y → Contains (x ∷ xs) y
  has_tail x y xs h = Contains-append_right (x ∷ []) xs y h

  pub has_cases : (x y : X) (xs : List X) → Contains (x ∷ xs) y → (x ≡ y) ⊎ Contains xs y
  has_cases x y xs h = elim (Contains-append_cases (x ∷ []) xs y h) [
    | inl one ↦ inl (only x y one)
    | inr rest ↦ inr rest
  ]
    where
      only : (x y : X) → Contains (x ∷ []) y → x ≡ y
      only x y h = first h.0 h.1 h.2
        where
          first : (k : ℕ) → k < 1 → get_or (x ∷ []) k y ≡ y → x ≡ y
          first zero l e = e
          first (suc k) l e = absurd (omega arith)

  pub none_in : (y : X) → Contains [] y → ⊥
  none_in y h = (let low : h.0 < 0 = h.1 in omega arith)

  pub has_filtered : (p : X → Bool) (xs : List X) (x : X) → Contains xs x → p x ≡ true → Contains (filter p xs) x
  has_filtered p [] x h t = absurd (none_in x h)
  has_filtered p (y ∷ ys) x h t =
      elim (has_cases y x ys h) [
        | inl same ↦ subst (λ b. Contains (cond b (y ∷ filter p ys) (filter p ys)) x) (sym (ap p same ∙ t)) (subst (λ z. Contains (z ∷ filter p ys) x) (sym same) (has_head x (filter p ys)))
        | inr later ↦
            let rest : Contains (filter p ys) x = has_filtered p ys x later t in
            elim (cases_Bool (p y)) [
              | inl in_it ↦ subst (λ b. Contains (cond b (y ∷ filter p ys) (filter p ys)) x) (sym in_it) (has_tail y x (filter p ys) rest)
              | inr out ↦ subst (λ b. Contains (cond b (y ∷ filter p ys) (filter p ys)) x) (sym out) rest
            ]
      ]

  pub was_filtered : (p : X → Bool) (xs : List X) (x : X) → Contains (filter p xs) x → Contains xs x × (p x ≡ true)
  was_filtered p [] x h = absurd (none_in x h)
  was_filtered p (y ∷ ys) x h =
      elim (cases_Bool (p y)) [
        | inl in_it ↦
            elim (has_cases y x (filter p ys) (subst (λ b. Contains (cond b (y ∷ filter p ys) (filter p ys)) x) in_it h)) [
              | inl same ↦ (subst (λ z. Contains (z ∷ ys) x) (sym same) (has_head x ys), ap p (sym same) ∙ in_it)
              | inr later ↦ let rest = was_filtered p ys x later in (has_tail y x ys rest.0, rest.1)
            ]
        | inr out ↦ let rest = was_filtered p ys x (subst (λ b. Contains (cond b (y ∷ filter p ys) (filter p ys)) x) out h) in (has_tail y x ys rest.0, rest.1)
      ]

module _ {X Y : Type 0} where
  pub has_mapped : (f : X → Y) (xs : List X) (x : X) → Contains xs x → Contains (map f xs) (f x)
  has_mapped f [] x h = absurd (none_in x h)
  has_mapped f (y ∷ ys) x h =
      elim (has_cases y x ys h) [
        | inl same ↦ subst (λ z. Contains (f z ∷ map f ys) (f x)) (sym same) (has_head (f x) (map f ys))
        | inr later ↦ has_tail (f y) (f x) (map f ys) (has_mapped f ys x later)
      ]

  pub was_mapped : (f : X → Y) (xs : List X) (y : Y) → Contains (map f xs) y → (x : X) × Contains xs x × (f x ≡ y)
  was_mapped f [] y h = absurd (none_in y h)
  was_mapped f (x ∷ xs) y h =
      elim (has_cases (f x) y (map f xs) h) [
        | inl same ↦ (x, has_head x xs, same)
        | inr later ↦ let rest = was_mapped f xs y later in (rest.0, has_tail x rest.0 xs rest.1, rest.2)
      ]

  pub has_joined : (f : X → List Y) (xs : List X) (x : X) (y : Y) → Contains xs x → Contains (f x) y → Contains (flat_map f xs) y
  has_joined f [] x y h t = absurd (none_in x h)
  has_joined f (z ∷ zs) x y h t =
      elim (has_cases z x zs h) [
        | inl same ↦ Contains-append_left (f z) (flat_map f zs) y (subst (λ w. Contains (f w) y) (sym same) t)
        | inr later ↦ Contains-append_right (f z) (flat_map f zs) y (has_joined f zs x y later t)
      ]

  pub was_joined : (f : X → List Y) (xs : List X) (y : Y) → Contains (flat_map f xs) y → (x : X) × Contains xs x × Contains (f x) y
  was_joined f [] y h = absurd (none_in y h)
  was_joined f (x ∷ xs) y h =
      elim (Contains-append_cases (f x) (flat_map f xs) y h) [
        | inl here ↦ (x, has_head x xs, here)
        | inr later ↦ let rest = was_joined f xs y later in (rest.0, has_tail x rest.0 xs rest.1, rest.2)
      ]

-- the items of a rank among pairs
pub has_item : (r : ℕ) (pairs : List (ℕ × Item)) (x : Item) → Contains pairs (r, x) → Contains (items_of r pairs) x
has_item r pairs x h = has_mapped (λ (e : ℕ × Item). e.1) _ (r, x) (has_filtered (λ (e : ℕ × Item). eqb e.0 r) pairs (r, x) h (eq-eqb r r refl))

pub was_item : (r : ℕ) (pairs : List (ℕ × Item)) (x : Item) → Contains (items_of r pairs) x → Contains pairs (r, x)
was_item r pairs x h =
    let e = was_mapped (λ (e : ℕ × Item). e.1) _ x h in
    let p = was_filtered (λ (e : ℕ × Item). eqb e.0 r) pairs e.0 e.1 in
    let to : e.0.0 ≡ r = eqb-true e.0.0 r p.1 in
    subst (λ k. Contains pairs (k, x)) to (subst (λ y. Contains pairs (e.0.0, y)) e.2 p.0)

-- the lists of the numbers below n, one after the other
abbrev pub upto : {X : Type 0} → (ℕ → List X) → ℕ → List X
upto lists zero = []
upto lists (suc n) = upto lists n ++ lists n

pub has_upto : {X : Type 0} (lists : ℕ → List X) (n f : ℕ) (x : X) → f < n → Contains (lists f) x → Contains (upto lists n) x
has_upto lists zero f x l h = absurd (omega arith)
has_upto lists (suc n) f x l h =
    elim (cases_eq f n) [
      | inl same ↦ Contains-append_right (upto lists n) (lists n) x (subst (λ k. Contains (lists k) x) same h)
      | inr other ↦ Contains-append_left (upto lists n) (lists n) x (has_upto lists n f x (omega (arith, other)) h)
    ]

pub was_upto : {X : Type 0} (lists : ℕ → List X) (n : ℕ) (x : X) → Contains (upto lists n) x → (f : ℕ) × (f < n) × Contains (lists f) x
was_upto lists zero x h = absurd (none_in x h)
was_upto lists (suc n) x h =
    elim (Contains-append_cases (upto lists n) (lists n) x h) [
      | inl before ↦ let rest = was_upto lists n x before in (rest.0, (let l : rest.0 < n = rest.1 in omega arith), rest.2)
      | inr here ↦ (n, omega arith, here)
    ]
