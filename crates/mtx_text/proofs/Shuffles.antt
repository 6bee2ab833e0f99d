-- A shuffle, exchange by exchange.
use Rattle.std.proofs.Common.{ℕ, zero, suc, ◌+◌, ◌-◌, ◌%◌, ◌<◌, ◌≤◌, ◌≡◌, List, [], ◌∷◌, ◌++◌, length, arith, refl, sym, ap, ◌∙◌}
use Rattle.std.specs.List.{range_with_len, swap}
use Rattle.std.proofs.lemmas.List.{map-id}
use Rattle.std.proofs.lemmas.List.FromFn.{map-range_with_len_more, length-range_with_len}
use Rattle.std.proofs.lemmas.List.Sorted.{IsPermutation-trans, IsPermutation-swap, length_permutation}
use Rattle.mtx_text.specs.Permutations.{Permutes}
use Rattle.mtx_text.specs.Seeds.{step, word, shuffle_of}

pub range_more : (n : ℕ) → range_with_len 0 (n + 1) ≡ range_with_len 0 n ++ n ∷ []
range_more n = sym (map-id (range_with_len 0 (n + 1))) ∙ map-range_with_len_more (λ k. k) 0 n n (omega arith) ∙ ap (λ ks. ks ++ n ∷ []) (map-id (range_with_len 0 n))

-- the exchange at place i - 1, where i places are left
pub shuffled_step : (i : ℕ) (list : List ℕ) (state : ℕ) → 1 < i
    → shuffle_of (i - 1) list state ≡ shuffle_of (i - 1 - 1) (swap list (i - 1) (word state % (i - 1 + 1))) (step state)
shuffled_step zero list state h = absurd (omega arith)
shuffled_step (suc zero) list state h = absurd (omega arith)
shuffled_step (suc (suc i)) list state h =
    let a : suc (suc i) - 1 ≡ suc i = omega arith in
    let b : suc (suc i) - 1 - 1 ≡ i = omega arith in
    let d : i + 2 ≡ suc i + 1 = omega arith in
    ap (λ k. shuffle_of k list state) a
    ∙ ap (λ k. shuffle_of i (swap list (suc i) (word state % k)) (step state)) d
    ∙ ap (λ k. shuffle_of k (swap list (suc i) (word state % (suc i + 1))) (step state)) (sym b)
    ∙ ap (λ k. shuffle_of (suc (suc i) - 1 - 1) (swap list k (word state % (k + 1))) (step state)) (sym a)

pub permutes_swap : (n : ℕ) (list : List ℕ) (i j : ℕ) → i < n → j < n → Permutes n list → Permutes n (swap list i j)
permutes_swap n list i j a b h =
    let size : length list ≡ n = length_permutation (range_with_len 0 n) list h ∙ length-range_with_len 0 n in
    IsPermutation-trans _ _ _ h (IsPermutation-swap list (swap list i j) i j (omega arith) (omega arith) refl)

-- where at most one place is left
pub shuffled_end : (i : ℕ) (list : List ℕ) (state : ℕ) → i ≤ 1 → shuffle_of (i - 1) list state ≡ (list, state)
shuffled_end zero list state h = refl
shuffled_end (suc zero) list state h = refl
shuffled_end (suc (suc i)) list state h = absurd (omega arith)
