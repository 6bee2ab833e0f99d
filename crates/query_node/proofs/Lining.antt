-- The lines of the first so many queries.
use Rattle.std.proofs.Common.{◌≡◌, ◌≢◌, ℕ, zero, suc, ◌+◌, ◌<◌, ◌==◌, Bool, true, false, cond, List, [], ◌∷◌, ◌++◌, length, take, replicate, slice_get, Some, refl, sym, ap, subst, ◌∙◌, inl, inr, arith}
use Rattle.std.proofs.lemmas.Bool.{cases_eq, eq-eqb, ne_eqb}
use Rattle.std.proofs.lemmas.List.{append-nil, take_more, length-take}
use Rattle.std.proofs.lemmas.Option.{get_or_from_slice_get, slice_get_within}
use Rattle.round_program.specs.Replies.{places_to}
use Rattle.query_node.specs.Lines.{HasLines}

cond_append : (b : Bool) (i : ℕ) (xs ys : List ℕ) → cond b (i ∷ (xs ++ ys)) (xs ++ ys) ≡ cond b (i ∷ xs) xs ++ ys
cond_append true i xs ys = refl
cond_append false i xs ys = refl

places_append : (d i : ℕ) (xs ys : List (ℕ × ℕ)) → places_to d i (xs ++ ys) ≡ places_to d i xs ++ places_to d (i + length xs) ys
places_append d i [] ys = ap (λ k. places_to d k ys) (omega arith)
places_append d i (x ∷ xs) ys =
    let rest = places_append d (suc i) xs ys in
    let n : suc i + length xs ≡ i + length (x ∷ xs) = omega arith in
    ap (λ zs. cond (x.0 == d) (i ∷ zs) zs) rest
    ∙ (cond_append (x.0 == d) i (places_to d (suc i) xs) (places_to d (suc i + length xs) ys)
    ∙ ap (λ k. places_to d i (x ∷ xs) ++ places_to d k ys) n)

places_more : (d : ℕ) (qs : List (ℕ × ℕ)) (i : ℕ) (q : ℕ × ℕ) → slice_get qs i ≡ Some q → places_to d 0 (take (i + 1) qs) ≡ places_to d 0 (take i qs) ++ cond (q.0 == d) (i ∷ []) []
places_more d qs i q is =
    let below : i < length qs = slice_get_within qs i q is in
    let n : 0 + length (take i qs) ≡ i = omega (arith, below, length-take i qs) in
    ap (places_to d 0) (take_more qs i q below ∙ ap (λ x. take i qs ++ x ∷ []) (get_or_from_slice_get qs i q q is))
    ∙ (places_append d 0 (take i qs) (q ∷ []) ∙ ap (λ k. places_to d 0 (take i qs) ++ cond (q.0 == d) (k ∷ []) []) n)

pub more_lines : (p : ℕ) (qs : List (ℕ × ℕ)) (lines lines' : List (List ℕ)) (i : ℕ) (q : ℕ × ℕ) → HasLines p (take i qs) lines → slice_get qs i ≡ Some q → length lines' ≡ length lines
    → ((xs : List ℕ) → slice_get lines q.0 ≡ Some xs → slice_get lines' q.0 ≡ Some (xs ++ i ∷ [])) → ((d : ℕ) → d ≢ q.0 → slice_get lines' d ≡ slice_get lines d)
    → HasLines p (take (i + 1) qs) lines'
more_lines p qs lines lines' i q is at all here others = record {
  all = all ∙ is.all;
  each = λ d b. elim (cases_eq d q.0) [
    | inl same ↦
        let mine : slice_get lines' q.0 ≡ Some (places_to q.0 0 (take i qs) ++ i ∷ []) = here (places_to q.0 0 (take i qs)) (is.each q.0 (subst (λ k. k < p) same b)) in
        let more : places_to q.0 0 (take (i + 1) qs) ≡ places_to q.0 0 (take i qs) ++ i ∷ [] =
        places_more q.0 qs i q at ∙ ap (λ c. places_to q.0 0 (take i qs) ++ cond c (i ∷ []) []) (eq-eqb q.0 q.0 refl) in
        subst (λ k. slice_get lines' k ≡ Some (places_to k 0 (take (i + 1) qs))) (sym same) (mine ∙ ap Some (sym more))
    | inr apart ↦
        let more : places_to d 0 (take (i + 1) qs) ≡ places_to d 0 (take i qs) =
        places_more d qs i q at ∙ (ap (λ c. places_to d 0 (take i qs) ++ cond c (i ∷ []) []) (ne_eqb q.0 d (λ e. apart (sym e))) ∙ append-nil (places_to d 0 (take i qs))) in
        others d apart ∙ (is.each d b ∙ ap Some (sym more))
  ];
}

abbrev empties : ℕ → List (List ℕ)
empties n = replicate n []

get_empty : (n d : ℕ) → d < n → slice_get (empties n) d ≡ Some []
get_empty zero d b = absurd (omega (arith, b))
get_empty (suc n) zero b = refl
get_empty (suc n) (suc d) b = get_empty n d (omega (arith, b))

len_empty : (n : ℕ) → length (empties n) ≡ n
len_empty zero = refl
len_empty (suc n) = ap suc (len_empty n)

pub no_queries : (p : ℕ) (qs : List (ℕ × ℕ)) (lines : List (List ℕ)) → lines ≡ replicate p [] → HasLines p (take 0 qs) lines
no_queries p qs lines is = record {
  all = ap length is ∙ len_empty p;
  each = λ d b. ap (λ ls. slice_get ls d) is ∙ get_empty p d b;
}
