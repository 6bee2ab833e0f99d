-- The positions of a band, one after the other, and the entries that hide them.
use Rattle.std.proofs.Common.{ℕ, zero, suc, ◌+◌, ◌-◌, ◌*◌, ◌%◌, ◌<◌, ◌≤◌, ◌≡◌, pos, List, [], ◌∷◌, ◌++◌, map, length, get_or, take, drop, slice_index, arith, rules, inl, inr, refl, sym, ap, ap₂, ◌∙◌}
use Rattle.std.specs.List.{All, range_with_len, flat_map}
use Rattle.std.proofs.lemmas.List.{append_assoc, length-append, drop_more, drop_all}
use Rattle.std.proofs.lemmas.List.Elements.{All-get_or}
use Rattle.std.proofs.lemmas.List.FromFn.{length-map-range_with_len, get_or-map-range_with_len, length-range_with_len, get_or-range_with_len}
use Rattle.std.proofs.lemmas.List.Sorted.{All-permutation, length_permutation}
use Rattle.std.proofs.lemmas.Nat.{mod_below}
use Rattle.std.proofs.lemmas.Bool.{cases_lt}
use Rattle.bale_items.specs.declared.triple.Triple.{Triple}
use Rattle.mtx_text.specs.declared.kind.Kind.TheVariants.{Integer}
use Rattle.mtx_text.specs.Sparse.{IsEntry}
use Rattle.mtx_text.specs.Cells.{sparse}
use Rattle.mtx_text.specs.Permutations.{Permutes}
use Rattle.mtx_text.specs.Seeds.{step, word}
use Rattle.mtx_text.specs.Generated.{diagonal, hidden_triangle}

-- a permutation of n numbers has n elements, all below n
pub as_many : (n : ℕ) (p : List ℕ) → Permutes n p → length p ≡ n
as_many n p h = length_permutation (range_with_len 0 n) p h ∙ length-range_with_len 0 n

pub all_below : (n : ℕ) (p : List ℕ) → Permutes n p → All (λ x. x < n) p
all_below n p h = All-permutation (λ x. x < n) (range_with_len 0 n) p h (λ k d l.
    let k_below : k < n = omega (arith, length-range_with_len 0 n) in
    omega (arith, get_or-range_with_len 0 n k d k_below))

-- what is left from position number i of diagonal d on
abbrev pub rest_from : ℕ → ℕ → ℕ → List (ℕ × ℕ)
rest_from n d i = drop i (diagonal n d) ++ flat_map (diagonal n) (range_with_len (d + 1) (n - (d + 1)))

diagonal_length : (n d : ℕ) → length (diagonal n d) ≡ n - d
diagonal_length n d = length-map-range_with_len (λ i. (i, i + d)) 0 (n - d)

pub rest_start : (n : ℕ) → rest_from n 0 0 ≡ flat_map (diagonal n) (range_with_len 0 n)
rest_start zero = refl
rest_start (suc k) =
    let e : suc k - (0 + 1) ≡ k = omega arith in
    ap (λ m. diagonal (suc k) 0 ++ flat_map (diagonal (suc k)) (range_with_len (0 + 1) m)) e

pub rest_step : (n d i : ℕ) → i + d < n → rest_from n d i ≡ (i, i + d) ∷ rest_from n d (i + 1)
rest_step n d i h =
    let inside : i < n - d = omega arith in
    let here : get_or (diagonal n d) i (i, i + d) ≡ (i, i + d) = get_or-map-range_with_len (λ i. (i, i + d)) 0 (n - d) i i (i, i + d) inside (omega arith) in
    let cut : drop i (diagonal n d) ≡ (i, i + d) ∷ drop (i + 1) (diagonal n d) =
    drop_more (diagonal n d) i (i, i + d) (omega (arith, diagonal_length n d)) ∙ ap (λ x. x ∷ drop (i + 1) (diagonal n d)) here in
    ap (λ xs. xs ++ flat_map (diagonal n) (range_with_len (d + 1) (n - (d + 1)))) cut

later_rest : (n d k : ℕ) → n - (d + 1) ≡ k → flat_map (diagonal n) (range_with_len (d + 1) k) ≡ rest_from n (d + 1) 0
later_rest n d zero e =
    let none : n - (d + 1 + 1) ≡ 0 = omega arith in
    ap₂ (λ a b. map (λ i. (i, i + (d + 1))) (range_with_len 0 a) ++ flat_map (diagonal n) (range_with_len (d + 1 + 1) b)) (sym e) (sym none)
later_rest n d (suc k) e =
    let next : k ≡ n - (d + 1 + 1) = omega arith in
    ap (λ m. diagonal n (d + 1) ++ flat_map (diagonal n) (range_with_len (d + 1 + 1) m)) next

pub rest_turn : (n d i : ℕ) → i + d ≡ n → rest_from n d i ≡ rest_from n (d + 1) 0
rest_turn n d i e =
    ap (λ xs. xs ++ flat_map (diagonal n) (range_with_len (d + 1) (n - (d + 1)))) (drop_all i (diagonal n d) (omega (arith, diagonal_length n d)))
    ∙ later_rest n d (n - (d + 1)) refl

pub rest_none : (n d i : ℕ) → n ≤ d → length (rest_from n d i) ≡ 0
rest_none n d i h =
    let a : n - d ≡ 0 = omega arith in
    let b : n - (d + 1) ≡ 0 = omega arith in
    ap length (ap₂ (λ x y. drop i (map (λ i. (i, i + d)) (range_with_len 0 x)) ++ flat_map (diagonal n) (range_with_len (d + 1) y)) a b
    ∙ ap (λ xs. xs ++ []) (drop_all i [] (omega arith)))

band_length : (n d k : ℕ) → d + k ≡ n → 2 * length (flat_map (diagonal n) (range_with_len d k)) ≡ k * (k + 1)
band_length n d zero e = refl
band_length n d (suc k) e =
    let rest : 2 * length (flat_map (diagonal n) (range_with_len (d + 1) k)) ≡ k * (k + 1) = band_length n (d + 1) k (omega arith) in
    let both : length (diagonal n d ++ flat_map (diagonal n) (range_with_len (d + 1) k)) ≡ length (diagonal n d) + length (flat_map (diagonal n) (range_with_len (d + 1) k)) =
    length-append (diagonal n d) (flat_map (diagonal n) (range_with_len (d + 1) k)) in
    let first : length (diagonal n d) ≡ n - d = diagonal_length n d in
    let square : suc k * (suc k + 1) ≡ 2 * suc k + k * (k + 1) = grind arith in
    omega arith

pub room_start : (n m : ℕ) → 2 * m ≤ n * (n + 1) → m ≤ length (rest_from n 0 0)
room_start n m h =
    let e : length (rest_from n 0 0) ≡ length (flat_map (diagonal n) (range_with_len 0 n)) = ap length (rest_start n) in
    let all : 2 * length (flat_map (diagonal n) (range_with_len 0 n)) ≡ n * (n + 1) = band_length n 0 n (omega arith) in
    omega arith

-- one more entry
pub hidden_more : (p q : List ℕ) (state left i j : ℕ) (done : List Triple) (xs rest : List (ℕ × ℕ)) (whole : List Triple) → 0 < left → xs ≡ (i, j) ∷ rest
    → done ++ hidden_triangle p q state (take left xs) ≡ whole
    → done ++ record { i = slice_index p i; j = slice_index q j; v = pos (1 + word state % 1000) } ∷ [] ++ hidden_triangle p q (step state) (take (left - 1) rest) ≡ whole
hidden_more p q state zero i j done xs rest whole h e t = absurd (omega arith)
hidden_more p q state (suc left) i j done xs rest whole h e t =
    let one : suc left - 1 ≡ left = omega arith in
    let x : Triple = record { i = slice_index p i; j = slice_index q j; v = pos (1 + word state % 1000) } in
    ap (λ k. done ++ x ∷ [] ++ hidden_triangle p q (step state) (take k rest)) one
    ∙ append_assoc done (x ∷ []) (hidden_triangle p q (step state) (take left rest))
    ∙ sym (ap (λ ys. done ++ hidden_triangle p q state (take (suc left) ys)) e)
    ∙ t

pub entry_inside : (n : ℕ) (p q : List ℕ) (i j w : ℕ) → Permutes n p → Permutes n q → i < n → j < n
    → IsEntry (sparse n n Integer []) (record { i = slice_index p i; j = slice_index q j; v = pos (1 + w % 1000) })
entry_inside n p q i j w hp hq a b = record {
  row = All-get_or (λ x. x < n) p i 0 (omega (arith, as_many n p hp)) (all_below n p hp);
  col = All-get_or (λ x. x < n) q j 0 (omega (arith, as_many n q hq)) (all_below n q hq);
  limit = omega (arith, mod_below w 1000 (omega arith));
  one = λ e. absurd (search (rules, e));
}

-- where entries are left, a position of the band comes next
pub on_band : (n d i left : ℕ) → 0 < left → left ≤ length (rest_from n d i) → (d < n → i + d < n) → i + d < n
on_band n d i left some room place =
    elim (cases_lt d n) [
      | inl l ↦ place l
      | inr h ↦ (let none : length (rest_from n d i) ≡ 0 = rest_none n d i h in absurd (omega arith))
    ]
