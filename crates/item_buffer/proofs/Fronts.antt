-- A list that is read from its front, by how many of its elements are passed.
use Rattle.std.proofs.Common.{◌≡◌, ℕ, zero, suc, ◌+◌, ◌-◌, ◌<◌, ◌≤◌, List, [], ◌∷◌, take, drop, ap, Option, Some, None, refl, Bool, true, false, cond, arith, add-one, sym, ◌∙◌}
use Rattle.std.specs.Prelude.{slice_get}
use Rattle.std.proofs.lemmas.List.{drop-take}

pub empty_front : {A : Type 0} (xs : List A) → slice_get xs 0 ≡ None → xs ≡ []
empty_front [] h = refl
empty_front (x ∷ xs) h = cc

-- where x stands at n, what is left after n elements begins with it
pub front_at : {A : Type 0} (n : ℕ) (xs : List A) (x : A) → slice_get xs n ≡ Some x → drop n xs ≡ x ∷ drop (n + 1) xs
front_at n [] x h = cc
front_at zero (y ∷ xs) x h = cc
front_at (suc n) (y ∷ xs) x h = rw (add-one) (rw (add-one) at (front_at n xs x h))

-- the first of what is left after n elements stands at n
pub next_at : {A : Type 0} (n : ℕ) (xs : List A) → slice_get (drop n xs) 0 ≡ slice_get xs n
next_at zero [] = refl
next_at (suc n) [] = refl
next_at zero (y ∷ xs) = refl
next_at (suc n) (y ∷ xs) = next_at n xs

-- where x is the first of what is left after n elements, it is taken by passing one more
pub next_front : {A : Type 0} (n : ℕ) (xs : List A) (x : A) → slice_get (drop n xs) 0 ≡ Some x → drop n xs ≡ x ∷ drop (n + 1) xs
next_front n xs x h = front_at n xs x (sym (next_at n xs) ∙ h)

-- where x is the last of the first n elements, it comes back by passing one less
pub front_before : {A : Type 0} (n : ℕ) (xs : List A) (x : A) → 0 < n → slice_get xs (n - 1) ≡ Some x → drop (n - 1) xs ≡ x ∷ drop n xs
front_before n xs x some h = let e : n - 1 + 1 ≡ n = omega arith in rw e at (front_at (n - 1) xs x h)

-- the entry taken last stands before the ones that are left
pub back_at : {A : Type 0} (n : ℕ) (xs : List A) → slice_get xs (n + 1 - 1) ≡ slice_get (drop n xs) 0
back_at n xs = let e : n + 1 - 1 ≡ n = omega arith in rw e (sym (next_at n xs))

-- where an entry can come back, there is leave to put it back
pub had_back : {A : Type 0} (b : Bool) (o : Option A) (x : A) → cond b o None ≡ Some x → (b ≡ true) × (o ≡ Some x)
had_back true o x h = (refl, h)
had_back false o x h = cc

-- the elements from t up to n, in both orders of cutting
pub between : {A : Type 0} (t n : ℕ) (xs : List A) → t ≤ n → take (n - t) (drop t xs) ≡ drop t (take n xs)
between t n xs h = let e : t + (n - t) ≡ n = omega (arith, h) in sym (drop-take t (n - t) xs) ∙ ap (λ m. drop t (take m xs)) e
