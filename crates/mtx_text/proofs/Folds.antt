-- A fold by steps that may be made in any order.
use Rattle.std.proofs.Common.{ℕ, zero, suc, ◌<◌, ◌≡◌, List, [], ◌∷◌, length, get_or, set, IsPermutation, arith, refl, ap, ◌∙◌}
use Rattle.std.specs.List.{fold, swap}
use Rattle.std.proofs.lemmas.List.Sorted.{IsPermutation-keeps}

-- where two steps commute at each state of a kind P that steps keep, permuted lists fold alike
module _ {A B : Type 0} (f : B → A → B) (P : B → Type 0) (kept : (b : B) (x : A) → P b → P (f b x))
    (comm : (b : B) (x y : A) → P b → f (f b x) y ≡ f (f b y) x) where
  -- the first element and a later one in each other's place
  fold_head : (l : List A) (j : ℕ) (x d : A) (b : B) → j < length l → P b → fold f (f b (get_or l j d)) (set l j x) ≡ fold f (f b x) l
  fold_head [] j x d b h p = absurd (omega arith)
  fold_head (y ∷ l) zero x d b h p = ap (λ s. fold f s l) (comm b y x p)
  fold_head (y ∷ l) (suc j) x d b h p =
      ap (λ s. fold f s (set l j x)) (comm b (get_or l j d) y p)
      ∙ fold_head l j x d (f b y) (omega arith) (kept b y p)
      ∙ ap (λ s. fold f s l) (comm b y x p)

  fold_swap : (l : List A) (i j : ℕ) (d : A) (b : B) → i < length l → j < length l → P b → fold f b (set (set l i (get_or l j d)) j (get_or l i d)) ≡ fold f b l
  fold_swap [] i j d b h k p = absurd (omega arith)
  fold_swap (x ∷ l) zero zero d b h k p = refl
  fold_swap (x ∷ l) zero (suc j) d b h k p = fold_head l j x d b (omega arith) p
  fold_swap (x ∷ l) (suc i) zero d b h k p = fold_head l i x d b (omega arith) p
  fold_swap (x ∷ l) (suc i) (suc j) d b h k p = fold_swap l i j d (f b x) (omega arith) (omega arith) (kept b x p)

  pub fold_permutes : (xs ys : List A) → IsPermutation xs ys → (b : B) → P b → fold f b ys ≡ fold f b xs
  fold_permutes xs ys h b p =
      IsPermutation-keeps xs (λ l. fold f b l ≡ fold f b xs) refl (λ l i j s t e. swapped l i j s t e) ys h
    where
      swapped : (l : List A) (i j : ℕ) → i < length l → j < length l → fold f b l ≡ fold f b xs → fold f b (swap l i j) ≡ fold f b xs
      swapped [] i j s t e = absurd (omega arith)
      swapped (d ∷ l) i j s t e = fold_swap (d ∷ l) i j d b s t p ∙ e
