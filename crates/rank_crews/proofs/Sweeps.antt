-- A sweep makes one turn of each rank, from the last of the list to the first.
use Rattle.std.proofs.Common.{◌≡◌, ◌≢◌, ℕ, ◌+◌, ◌-◌, ◌<◌, ◌≤◌, Bool, List, length, slice_get, slice_set, Some, refl, sym, subst, ◌∙◌, arith, inl, inr}
use Rattle.std.proofs.lemmas.Bool.{cases_eq}
use Rattle.list_laws.proofs.Lists.{within, get_once, get_here, get_other, set_len}
use Rattle.rank_crews.specs.Runs.{AllRan, MakesOneTurn}

-- The last i ranks made their part of the sweep, and the others none yet.
pub record SweptSoFar {S : Type 0} (over : S → Bool) (turns : S → ℕ) (i : ℕ) (xs ys : List S) : Type 0 where
  pub all : length ys ≡ length xs
  pub done : (r : ℕ) (x y : S) → length xs ≤ r + i → slice_get xs r ≡ Some x → slice_get ys r ≡ Some y → MakesOneTurn over turns x y
  pub rest : (r : ℕ) → r + i < length xs → slice_get ys r ≡ slice_get xs r

pub swept_none : {S : Type 0} (over : S → Bool) (turns : S → ℕ) (xs : List S) → SweptSoFar over turns 0 xs xs
swept_none over turns xs = record {
  all = refl;
  done = λ r x y past ex ey. absurd (omega (arith, past, within xs r x ex));
  rest = λ r low. refl;
}

-- one rank more, the one at hand
pub swept_more : {S : Type 0} (over : S → Bool) (turns : S → ℕ) (i : ℕ) (xs ys : List S) (y z : S) → SweptSoFar over turns i xs ys → i < length xs
    → slice_get ys (length xs - 1 - i) ≡ Some y → MakesOneTurn over turns y z → SweptSoFar over turns (i + 1) xs (slice_set ys (length xs - 1 - i) z)
swept_more {S} over turns i xs ys y z so_far low at one = record { all = set_len ys k z ∙ so_far.all; done = done; rest = rest } where
  k : ℕ
  k = length xs - 1 - i

  done : (r : ℕ) (a b : S) → length xs ≤ r + (i + 1) → slice_get xs r ≡ Some a → slice_get (slice_set ys k z) r ≡ Some b → MakesOneTurn over turns a b
  done r a b past ea eb = elim (cases_eq r k) [
    | inl here ↦
        let is : z ≡ b = get_once (slice_set ys k z) k z b (get_here ys k z (within ys k y at)) (subst (λ j. slice_get (slice_set ys k z) j ≡ Some b) here eb) in
        let low_k : k + i < length xs = omega (arith, low) in
        let was : a ≡ y = get_once xs k a y (subst (λ j. slice_get xs j ≡ Some a) here ea) (sym (so_far.rest k low_k) ∙ at) in
        subst (λ w. MakesOneTurn over turns w b) (sym was) (subst (λ w. MakesOneTurn over turns y w) is one)
    | inr other ↦ so_far.done r a b (omega (arith, past, other, low)) ea (sym (get_other ys k r z other) ∙ eb)
  ]

  rest : (r : ℕ) → r + (i + 1) < length xs → slice_get (slice_set ys k z) r ≡ slice_get xs r
  rest r below =
      let other : r ≢ k = λ e. omega (arith, e, below, low) in
      let before : r + i < length xs = omega (arith, below) in
      get_other ys k r z other ∙ so_far.rest r before

pub swept_all : {S : Type 0} (over : S → Bool) (turns : S → ℕ) (i : ℕ) (xs ys : List S) → length xs ≤ i → SweptSoFar over turns i xs ys → AllRan (MakesOneTurn over turns) xs ys
swept_all over turns i xs ys past so_far = record { all = so_far.all; each = λ r x y ex ey. so_far.done r x y (omega (arith, past)) ex ey }
