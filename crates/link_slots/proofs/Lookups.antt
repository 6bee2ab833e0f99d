-- Lists read by `get_elem?`.
use Rattle.std.proofs.Common.{◌≡◌, ◌≢◌, ℕ, zero, suc, ◌<◌, ◌⊎◌, List, [], ◌∷◌, ◌++◌, length, get_or, take, set, sym, refl, ap, subst, inl, inr, ⊎_elim, arith}
use mathlib.Core.Option.{some, some-injective, some-ne-none}
use mathlib.Core.Logic.{dite}
use native.Mathlib.Decide.{ℕ_discrete}
use lib.ListN.{get_elem?}
use Rattle.atomic_table.proofs.Lists.{set_here, set_else}

module _ {A : Type 0} where
  pub at_inside : (l : List A) (i : ℕ) (a : A) → get_elem? l i ≡ some a → i < length l
  at_inside [] i a e = absurd (some-ne-none a (sym e))
  at_inside (x ∷ xs) zero a e = omega arith
  at_inside (x ∷ xs) (suc i) a e = let h = at_inside xs i a e in omega arith

  pub at_there : (l : List A) (i : ℕ) → i < length l → (a : A) × (get_elem? l i ≡ some a)
  at_there [] i h = absurd (omega arith)
  at_there (x ∷ xs) zero h = (x, refl)
  at_there (x ∷ xs) (suc i) h = at_there xs i (omega arith)

  pub same_list : (l m : List A) → ((i : ℕ) → get_elem? l i ≡ get_elem? m i) → l ≡ m
  same_list [] [] h = refl
  same_list [] (y ∷ ys) h = absurd (some-ne-none y (sym (h 0)))
  same_list (x ∷ xs) [] h = absurd (some-ne-none x (h 0))
  same_list (x ∷ xs) (y ∷ ys) h = let t : xs ≡ ys = same_list xs ys (λ i. h (suc i)) in let e : x ≡ y = some-injective x y (h 0) in λ k. e k ∷ t k

  -- what get_or reads
  pub read : (l : List A) (i : ℕ) (a d : A) → get_elem? l i ≡ some a → get_or l i d ≡ a
  read [] i a d e = absurd (some-ne-none a (sym e))
  read (x ∷ xs) zero a d e = some-injective x a e
  read (x ∷ xs) (suc i) a d e = read xs i a d e

  pub at_take : (l : List A) (n i : ℕ) → i < n → get_elem? (take n l) i ≡ get_elem? l i
  at_take [] zero i h = absurd (omega arith)
  at_take [] (suc n) i h = refl
  at_take (x ∷ xs) zero i h = absurd (omega arith)
  at_take (x ∷ xs) (suc n) zero h = refl
  at_take (x ∷ xs) (suc n) (suc i) h = at_take xs n i (omega arith)

  -- one element more
  pub take_next : (l : List A) (n : ℕ) (a : A) → get_elem? l n ≡ some a → take (suc n) l ≡ take n l ++ a ∷ []
  take_next [] n a e = absurd (some-ne-none a (sym e))
  take_next (x ∷ xs) zero a e = ap (λ (y : A). y ∷ []) (some-injective x a e)
  take_next (x ∷ xs) (suc n) a e = ap (λ (t : List A). x ∷ t) (take_next xs n a e)

  -- the last element of a longer list, or one that was there
  pub snoc_case : (l : List A) (a b : A) (j : ℕ) → get_elem? (l ++ a ∷ []) j ≡ some b → (get_elem? l j ≡ some b) ⊎ ((j ≡ length l) × (a ≡ b))
  snoc_case [] a b zero e = inr (refl, some-injective a b e)
  snoc_case [] a b (suc j) e = absurd (some-ne-none b (sym e))
  snoc_case (x ∷ xs) a b zero e = inl e
  snoc_case (x ∷ xs) a b (suc j) e = ⊎_elim (λ t. inl t) (λ t. inr (ap suc t.0, t.1)) (snoc_case xs a b j e)

  -- what is read after a write
  pub at_written : (l : List A) (i j : ℕ) (a : A) → i < length l → ((j ≡ i) × (get_elem? (set l i a) j ≡ some a)) ⊎ ((j ≢ i) × (get_elem? (set l i a) j ≡ get_elem? l j))
  at_written l i j a h = dite (ℕ_discrete j i) (λ e. inl (e, subst (λ (z : ℕ). get_elem? (set l i a) z ≡ some a) (sym e) (set_here l i a h))) (λ n. inr (n, set_else l i j a n))
