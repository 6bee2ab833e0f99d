-- A text in parts, one after the other.
use Rattle.std.proofs.Common.{◌≡◌, ℕ, zero, suc, ◌<◌, ◌+◌, ◌-◌, ◌∙◌, ◌++◌, Bool, true, false, List, [], ◌∷◌, Option, Some, None, refl, sym, ap, subst, arith, inl, inr, length, take, drop, get_or, map}
use Rattle.std.specs.List.{list_any, slice_split, onto_first}
use Rattle.std.specs.Option.{option_map, option_and_then}
use Rattle.std.proofs.lemmas.Bool.{or_parts, cases_Bool}
use Rattle.std.proofs.lemmas.List.{append_assoc, take_all, length-drop}
use Rattle.route_tensor.specs.Grid.{ranks}
use Rattle.route_tensor.specs.Refusal.{refusal}
use Rattle.bale_words.specs.Numbers.{all_some, number_in}
use Rattle.bale_words.specs.Values.{generated_by, as_grid}

-- cut at the first separator
split_at : (p : ℕ → Bool) (xs : List ℕ) (i d : ℕ) → list_any p (take i xs) ≡ false → i < length xs → p (get_or xs i d) ≡ true → slice_split p xs ≡ take i xs ∷ slice_split p (drop (suc i) xs)
split_at p [] i d none l hit = absurd (omega arith)
split_at p (x ∷ xs) zero d none l hit = rw (hit) refl
split_at p (x ∷ xs) (suc i) d none l hit =
    let parts : (p x ≡ false) × (list_any p (take i xs) ≡ false) = or_parts (p x) (list_any p (take i xs)) none in
    rw (parts.0) (ap (onto_first x) (split_at p xs i d parts.1 (omega arith) hit))

pub split_first : (p : ℕ → Bool) (xs : List ℕ) (i d : ℕ) → list_any p (take i xs) ≡ false → i < length xs → p (get_or xs i d) ≡ true
    → slice_split p xs ≡ take i xs ∷ slice_split p (take (length xs - (i + 1)) (drop (i + 1) xs))
split_first p xs i d none l hit =
    let next : suc i ≡ i + 1 = omega arith in
    let whole : take (length xs - (i + 1)) (drop (i + 1) xs) ≡ drop (i + 1) xs = take_all (length xs - (i + 1)) (drop (i + 1) xs) (omega (arith, length-drop (i + 1) xs)) in
    split_at p xs i d none l hit ∙ ap (λ ys. take i xs ∷ slice_split p ys) (ap (λ k. drop k xs) next ∙ sym whole)

-- or not at all
pub split_whole : (p : ℕ → Bool) (xs : List ℕ) → list_any p xs ≡ false → slice_split p xs ≡ xs ∷ []
split_whole p [] none = refl
split_whole p (x ∷ xs) none =
    let parts : (p x ≡ false) × (list_any p xs ≡ false) = or_parts (p x) (list_any p xs) none in
    rw (parts.0) (ap (onto_first x) (split_whole p xs parts.1))

none_at : (p : ℕ → Bool) (xs : List ℕ) (i d : ℕ) → i < length xs → list_any p (take i xs) ≡ false → p (get_or xs i d) ≡ false → list_any p (take (suc i) xs) ≡ false
none_at p [] i d l none miss = absurd (omega arith)
none_at p (x ∷ xs) zero d l none miss = rw (miss) refl
none_at p (x ∷ xs) (suc i) d l none miss =
    let parts : (p x ≡ false) × (list_any p (take i xs) ≡ false) = or_parts (p x) (list_any p (take i xs)) none in
    rw (parts.0) (none_at p xs i d (omega arith) parts.1 miss)

pub none_more : (p : ℕ → Bool) (xs : List ℕ) (i d : ℕ) → i < length xs → list_any p (take i xs) ≡ false → p (get_or xs i d) ≡ false → list_any p (take (i + 1) xs) ≡ false
none_more p xs i d l none miss =
    let next : suc i ≡ i + 1 = omega arith in
    subst (λ k. list_any p (take k xs) ≡ false) next (none_at p xs i d l none miss)

-- one more number
pub number_more : (low high : ℕ) (done : List ℕ) (n : ℕ) (part : List ℕ) (rest : List (List ℕ)) → number_in low high part ≡ Some n
    → option_map (λ ns. done ++ ns) (all_some (map (number_in low high) (part ∷ rest))) ≡ option_map (λ ns. (done ++ n ∷ []) ++ ns) (all_some (map (number_in low high) rest))
number_more low high done n part rest e =
    ap (λ o. option_map (λ ns. done ++ ns) (option_and_then (λ k. option_map (λ ns. k ∷ ns) (all_some (map (number_in low high) rest))) o)) e
    ∙ go (all_some (map (number_in low high) rest))
  where
    go : (o : Option (List ℕ)) → option_map (λ ns. done ++ ns) (option_map (λ ns. n ∷ ns) o) ≡ option_map (λ ns. (done ++ n ∷ []) ++ ns) o
    go None = refl
    go (Some ns) = ap (λ xs. Some xs) (sym (append_assoc done (n ∷ []) ns))

-- or none
pub number_none : (low high : ℕ) (done part : List ℕ) (rest : List (List ℕ)) → number_in low high part ≡ None
    → option_map (λ ns. done ++ ns) (all_some (map (number_in low high) (part ∷ rest))) ≡ None
number_none low high done part rest e = ap (λ o. option_map (λ ns. done ++ ns) (option_and_then (λ k. option_map (λ ns. k ∷ ns) (all_some (map (number_in low high) rest))) o)) e

-- more than three parts are no generated matrix
pub four_parts : (a b c : List ℕ) (p : ℕ → Bool) (rest : List ℕ) → generated_by (a ∷ b ∷ c ∷ slice_split p rest) ≡ None
four_parts a b c p [] = refl
four_parts a b c p (x ∷ xs) = elim (cases_Bool (p x)) [ inl t ↦ rw (t) refl | inr f ↦ rw (f) (go (slice_split p xs)) ]
  where
    go : (l : List (List ℕ)) → generated_by (a ∷ b ∷ c ∷ onto_first x l) ≡ None
    go [] = refl
    go (y ∷ ys) = refl

-- the grid of one number, 4
pub default_grid : as_grid (4 ∷ []) ≡ Some (4 ∷ [])
unfolding refusal ranks
default_grid = refl
