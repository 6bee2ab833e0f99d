-- Sums over the first n numbers.
use Rattle.std.proofs.Common.{ℕ, zero, suc, ◌+◌, ◌*◌, ◌<◌, ◌≤◌, ◌≡◌, ◌≢◌, List, [], ◌∷◌, Some, sum_by, length, slice_get, arith, inl, inr, refl, sym, ap, ◌∙◌}
use Rattle.std.proofs.lemmas.Bool.{cases_eq}
use Rattle.std.proofs.lemmas.List.Sums.{sum_by-cons}
use Rattle.list_laws.specs.Sums.{total}

-- larger terms, larger sum
pub total_le : (n : ℕ) (f g : ℕ → ℕ) → ((k : ℕ) → k < n → f k ≤ g k) → total n f ≤ total n g
total_le zero f g h = omega arith
total_le (suc n) f g h = omega (arith, total_le n f g (λ k l. h k (omega arith)), h n (omega arith))

-- the same terms, the same sum
pub total_same : (n : ℕ) (f g : ℕ → ℕ) → ((k : ℕ) → k < n → f k ≡ g k) → total n f ≡ total n g
total_same zero f g h = refl
total_same (suc n) f g h = omega (arith, total_same n f g (λ k l. h k (omega arith)), h n (omega arith))

-- a sum of sums of two terms
pub total_add : (n : ℕ) (f g : ℕ → ℕ) → total n (λ k. f k + g k) ≡ total n f + total n g
total_add zero f g = refl
total_add (suc n) f g = omega (arith, total_add n f g)

-- one and the same term
pub total_const : (n c : ℕ) → total n (λ _. c) ≡ n * c
total_const zero c = omega arith
total_const (suc n) c = let e : suc n * c ≡ n * c + c = grind arith in omega (arith, total_const n c)

pub total_zero : (n : ℕ) (f : ℕ → ℕ) → ((k : ℕ) → k < n → f k ≡ 0) → total n f ≡ 0
total_zero zero f h = refl
total_zero (suc n) f h = omega (arith, total_zero n f (λ k l. h k (omega arith)), h n (omega arith))

-- a bound on each term
pub total_bound : (n c : ℕ) (f : ℕ → ℕ) → ((k : ℕ) → k < n → f k ≤ c) → total n f ≤ n * c
total_bound n c f h = omega (arith, total_le n f (λ _. c) h, total_const n c)

-- the sum of a table, by rows or by columns
pub total_swap : (m n : ℕ) (f : ℕ → ℕ → ℕ) → total m (λ a. total n (λ b. f a b)) ≡ total n (λ b. total m (λ a. f a b))
total_swap zero n f = sym (total_zero n (λ b. 0) (λ k l. refl))
total_swap (suc m) n f = ap (λ x. x + total n (λ b. f m b)) (total_swap m n f) ∙ sym (total_add n (λ b. total m (λ a. f a b)) (λ b. f m b))

-- a term is at most the sum
pub total_part : (n : ℕ) (f : ℕ → ℕ) (j : ℕ) → j < n → f j ≤ total n f
total_part zero f j l = omega arith
total_part (suc n) f j l =
    elim (cases_eq j n) [ inl e ↦ let s : f j ≡ f n = ap f e in omega arith | inr d ↦ omega (arith, total_part n f j (omega arith)) ]

-- one term changes
pub total_one : (n : ℕ) (f g : ℕ → ℕ) (j : ℕ) → j < n → ((k : ℕ) → k ≢ j → f k ≡ g k) → total n g + f j ≡ total n f + g j
total_one zero f g j l same = absurd (omega arith)
total_one (suc n) f g j l same =
    elim (cases_eq j n) [
      | inl e ↦
          let a : f j ≡ f n = ap f e in
          let b : g j ≡ g n = ap g e in
          let t : total n f ≡ total n g = total_same n f g (λ k h. same k (omega arith)) in
          omega arith
      | inr d ↦ omega (arith, total_one n f g j (omega arith) same, same n (omega arith))
    ]

-- one term grows and none falls
pub total_lt : (n : ℕ) (f g : ℕ → ℕ) (j : ℕ) → j < n → f j < g j → ((k : ℕ) → k < n → f k ≤ g k) → total n f < total n g
total_lt zero f g j l less h = omega arith
total_lt (suc n) f g j l less h =
    elim (cases_eq j n) [
      | inl e ↦
          let a : f j ≡ f n = ap f e in
          let b : g j ≡ g n = ap g e in
          omega (arith, total_le n f g (λ k i. h k (omega arith)))
      | inr d ↦ omega (arith, total_lt n f g j (omega arith) less (λ k i. h k (omega arith)), h n (omega arith))
    ]

-- the first term apart
pub total_first : (n : ℕ) (f : ℕ → ℕ) → total (suc n) f ≡ f 0 + total n (λ k. f (suc k))
total_first zero f = omega arith
total_first (suc n) f = omega (arith, total_first n f)

-- the sum of a list, whose terms are known by place
pub total_list : {X : Type 0} (f : X → ℕ) (g : ℕ → ℕ) (xs : List X) → ((k : ℕ) (x : X) → slice_get xs k ≡ Some x → f x ≡ g k) → sum_by f xs ≡ total (length xs) g
total_list f g [] h = refl
total_list f g (x ∷ xs) h =
    sum_by-cons f x xs ∙ (ap (λ a. a + sum_by f xs) (h 0 x refl) ∙ (ap (λ a. g 0 + a) (total_list f (λ k. g (suc k)) xs (λ k y e. h (suc k) y e)) ∙ sym (total_first (length xs) g)))
