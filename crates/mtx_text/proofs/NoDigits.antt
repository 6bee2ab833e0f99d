-- The bytes that are no digits, as a vector's comparison finds them, and the digits in front of the
-- first of them.
use Rattle.std.proofs.Common.{◌≡◌, ℕ, zero, suc, ◌+◌, ◌-◌, ◌*◌, ◌/◌, ◌%◌, ◌^◌, ◌<◌, ◌≤◌, Bool, true, false, not, ◌&&◌, cond, leb, T, List, [], ◌∷◌, ◌++◌, map, length, take, drop, replicate, refl, sym, ap, ap₂, ◌∙◌, subst, ◌⊎◌, inl, inr, arith, w8, Fits, not-suc-le-zero, one-add}
use Rattle.std.proofs.Math.Nat.{div-div-eq-div-mul, pow-succ', zero-div, eq-zero-or-pos}
use Rattle.std.proofs.lemmas.Bool.{cases_order}
use Rattle.std.proofs.lemmas.List.{length-append, length-drop, length-map, length-take, length-take-le, drop-append-le, drop-drop, drop-map, drop-take, map-id, take-take}
use Rattle.std.proofs.lemmas.Simd.{zip2_splat, map-map, mask_l-lt, mask_l-mod, trailing_mask_l}
use Rattle.std.specs.List.{list_all, prefix_len}
use Rattle.std.specs.Char.{is_ascii_digit}
use lib.Count.{count_trailing_zeros, trailing_of_zero}
use lib.Lanes.{zip2, mask_l, top, Each1}
use Rattle.mtx_text.specs.code.DigitLanes.{is_no_digit, above, bits_of}

-- ---- the comparison of sixteen lanes

-- a test that computes to true at each number below n holds at any of them
abbrev below_all : (ℕ → Bool) → ℕ → Bool
below_all p zero = true
below_all p (suc n) = p n && below_all p n

both : (a b : Bool) → T (a && b) → T a × T b
both true b h = (tt, h)
both false b h = absurd h

each_below : (p : ℕ → Bool) (n : ℕ) → T (below_all p n) → (i : ℕ) → i < n → T (p i)
each_below p zero h i lt = absurd (not-suc-le-zero lt)
each_below p (suc n) h i lt = go (each_below p n (both (p n) (below_all p n) h).1 i) (cases_order i n)
  where
    go : (i < n → T (p i)) → (i ≡ n) ⊎ ((i < n) ⊎ (n < i)) → T (p i)
    go below (inl e) = subst (λ x. T (p x)) (sym e) (both (p n) (below_all p n) h).0
    go below (inr (inl l)) = below l
    go below (inr (inr g)) = absurd (omega (arith, lt, g))

abbrev same : Bool → Bool → Bool
same true b = b
same false b = not b

same_is : (a b : Bool) → T (same a b) → a ≡ b
same_is true true h = refl
same_is false false h = refl
same_is true false h = absurd h
same_is false true h = absurd h

abbrev at_most : ℕ → ℕ → ℕ
at_most a b = cond (leb a b) 255 0

abbrev lane : ℕ → ℕ
lane x = at_most 10 ((x + 208) % 256)

splat_left : (h : ℕ → ℕ → ℕ) (y : ℕ) (xs : List ℕ) → zip2 h (replicate (length xs) y) xs ≡ map (h y) xs
splat_left h y [] = refl
splat_left h y (x ∷ xs) = ap (λ r. h y x ∷ r) (splat_left h y xs)

lanes_are : (v : List ℕ) → Each1 (Fits w8) v → map (top 7) (map lane v) ≡ map is_no_digit v
lanes_are [] fits = refl
lanes_are (x ∷ xs) fits =
    ap₂ (λ a b. a ∷ b) (same_is _ _ (each_below (λ y. same (top 7 (lane y)) (is_no_digit y)) 256 tt x fits.0.fits)) (lanes_are xs fits.1)

compared : (v less : List ℕ) → length v ≡ 16 → less ≡ map (λ x. (x + 208) % 256) v → zip2 at_most (replicate 16 10) less ≡ map lane v
compared v less long is =
    ap (zip2 at_most (replicate 16 10)) is
    ∙ ap (λ k. zip2 at_most (replicate k 10) (map (λ x. (x + 208) % 256) v)) (sym (length-map v (λ x. (x + 208) % 256) ∙ long))
    ∙ splat_left at_most 10 (map (λ x. (x + 208) % 256) v) ∙ map-map (at_most 10) (λ x. (x + 208) % 256) v

pub mask_is : (v : List ℕ) → length v ≡ 16 → Each1 (Fits w8) v
    → mask_l (map (top 7) (zip2 at_most (replicate 16 10) (zip2 (λ a b. (a + (256 - b)) % 256) v (replicate 16 48)))) % 2 ^ 64 ≡ mask_l (map is_no_digit v)
mask_is v long fits =
    let less = zip2_splat (λ a b. (a + (256 - b)) % 256) v 16 48 long in
    ap (λ l. mask_l (map (top 7) l) % 2 ^ 64) (compared v _ long less) ∙ ap (λ l. mask_l l % 2 ^ 64) (lanes_are v fits)
    ∙ mask_l-mod (map is_no_digit v) 64 (omega (arith, length-map v is_no_digit, long))

-- ---- the digits in front of the first byte that is none

abbrev run : List ℕ → ℕ
run xs = prefix_len not (map is_no_digit xs ++ above)

before_first : (xs : List ℕ) → run xs < 47 → (run xs ≤ length xs) × (list_all is_ascii_digit (take (run xs) xs) ≡ true)
before_first [] few =
    let all : run [] ≡ 47 = refl in
    absurd (omega (arith, few, all))
before_first (x ∷ xs) few = go (is_ascii_digit x) refl few (before_first xs)
  where
    go : (b : Bool) → is_ascii_digit x ≡ b → cond (not (not b)) (1 + run xs) 0 < 47
        → (run xs < 47 → (run xs ≤ length xs) × (list_all is_ascii_digit (take (run xs) xs) ≡ true))
        → (cond (not (not (is_ascii_digit x))) (1 + run xs) 0 ≤ suc (length xs))
        × (list_all is_ascii_digit (take (cond (not (not (is_ascii_digit x))) (1 + run xs) 0) (x ∷ xs)) ≡ true)
    go true e less rest =
        let r = rest (omega (arith, less)) in
        (rw e (omega (arith, r.0)), rw (e, one-add, e) r.1)
    go false e less rest = (rw e (omega arith), rw e refl)

-- where a word's lowest set bit has only few bits below it, they stand for digits
pub digits_before : (text : List ℕ) (k n mask : ℕ) → k ≤ 16 → k ≤ length text → mask ≡ mask_l (bits_of k text) → n ≡ count_trailing_zeros 64 mask → n ≤ 5
    → list_all is_ascii_digit (take n text) ≡ true
digits_before text k n mask short within is first few =
    elim (eq-zero-or-pos mask) [
      | inl none ↦ absurd (omega (arith, few, first, ap (count_trailing_zeros 64) none, trailing_of_zero 64))
      | inr some ↦
          let front = take k text in
          let bits = bits_of k text in
          let long : length front ≡ k = length-take-le k text within in
          let size : length bits ≡ length front + 48 = length-append (map is_no_digit front) above ∙ ap (λ i. i + 48) (length-map front is_no_digit) in
          let own : mask_l (map (λ b. b) bits) ≡ mask = ap mask_l (map-id bits) ∙ sym is in
          let found = trailing_mask_l (λ b. b) 64 bits (omega (arith, size, long, short)) (subst (λ x. 0 < x) (sym own) some) in
          let len : n ≡ run front = first ∙ ap (count_trailing_zeros 64) (sym own) ∙ found in
          let all = before_first front (omega (arith, len, few)) in
          rw (← take-take n k text (omega (arith, len, all.0, long))) (ap (λ i. list_all is_ascii_digit (take i front)) len ∙ all.1)
    ]

mask_join : (xs ys : List Bool) → mask_l (xs ++ ys) ≡ mask_l xs + 2 ^ length xs * mask_l ys
mask_join [] ys = omega arith
mask_join (b ∷ bits) ys =
    let rest = mask_join bits ys in
    rw (pow-succ' 2 (length bits), rest) (joined (cond b 1 0) (mask_l bits) (2 ^ length bits) (mask_l ys))
  where
    joined : (c m p y : ℕ) → c + 2 * (m + p * y) ≡ c + 2 * m + 2 * p * y
    joined c m p y = grind arith

-- the sixteen bytes' bits and the topmost one
pub with_top : (text : List ℕ) → 16 ≤ length text → mask_l (map is_no_digit (take 16 text)) + 9_223_372_036_854_775_808 ≡ mask_l (bits_of 16 text)
with_top text within =
    let long : length (map is_no_digit (take 16 text)) ≡ 16 = length-map (take 16 text) is_no_digit ∙ length-take-le 16 text within in
    sym (mask_join (map is_no_digit (take 16 text)) above ∙ ap (λ n. mask_l (map is_no_digit (take 16 text)) + 2 ^ n * mask_l above) long)

pub below_top : (text : List ℕ) → 16 ≤ length text → mask_l (map is_no_digit (take 16 text)) < 65_536
below_top text within =
    subst (λ n. mask_l (map is_no_digit (take 16 text)) < 2 ^ n) (length-map (take 16 text) is_no_digit ∙ length-take-le 16 text within) (mask_l-lt (map is_no_digit (take 16 text)))

without_first : (b : Bool) (n : ℕ) → (cond b 1 0 + 2 * n) / 2 ≡ n
without_first true n = omega arith
without_first false n = omega arith

mask_drop : (bits : List Bool) (k : ℕ) → mask_l bits / 2 ^ k ≡ mask_l (drop k bits)
mask_drop bits zero = omega arith
mask_drop [] (suc k) = zero-div (2 ^ suc k)
mask_drop (b ∷ bits) (suc k) =
    ap (λ p. (cond b 1 0 + 2 * mask_l bits) / p) (pow-succ' 2 k) ∙ sym (div-div-eq-div-mul (cond b 1 0 + 2 * mask_l bits) 2 (2 ^ k))
    ∙ ap (λ x. x / 2 ^ k) (without_first b (mask_l bits)) ∙ mask_drop bits k

-- the bits above those of the first `a` bytes are the bits of what stands behind these
pub mask_behind : (text : List ℕ) (a k mask : ℕ) → a ≤ length text → mask ≡ mask_l (bits_of (a + k) text) → mask / 2 ^ a ≡ mask_l (bits_of k (drop a text))
mask_behind text a k mask within is =
    let bits = map is_no_digit (take (a + k) text) in
    let room : a ≤ length bits = omega (arith, within, length-map (take (a + k) text) is_no_digit, length-take (a + k) text) in
    ap (λ x. x / 2 ^ a) is ∙ mask_drop (bits ++ above) a ∙ ap mask_l (drop-append-le a bits above room)
    ∙ ap (λ l. mask_l (l ++ above)) (drop-map is_no_digit a (take (a + k) text) ∙ ap (map is_no_digit) (drop-take a k text))

-- the first run of digits, and a second behind one byte more
pub first_run : (text : List ℕ) (mask : ℕ) → 16 ≤ length text → mask ≡ mask_l (bits_of 16 text) → count_trailing_zeros 64 mask ≤ 5
    → list_all is_ascii_digit (take (count_trailing_zeros 64 mask) text) ≡ true
first_run text mask within is few = digits_before text 16 (count_trailing_zeros 64 mask) mask (omega arith) within is refl few

pub second_run : (text : List ℕ) (mask a : ℕ) → 16 ≤ length text → a ≤ 5 → mask ≡ mask_l (bits_of 16 text) → count_trailing_zeros 64 (mask / 2 ^ (a + 1)) ≤ 5
    → list_all is_ascii_digit (take (count_trailing_zeros 64 (mask / 2 ^ (a + 1))) (drop (a + 1) text)) ≡ true
second_run text mask a within near is few =
    let whole : 16 ≡ a + 1 + (15 - a) = omega (arith, near) in
    let bits = mask_behind text (a + 1) (15 - a) mask (omega (arith, within, near)) (is ∙ ap (λ k. mask_l (bits_of k text)) whole) in
    digits_before (drop (a + 1) text) (15 - a) (count_trailing_zeros 64 (mask / 2 ^ (a + 1))) (mask / 2 ^ (a + 1)) (omega arith)
    (omega (arith, within, near, length-drop (a + 1) text)) bits refl few

-- and the bits behind both
pub third_bits : (text : List ℕ) (mask a b : ℕ) → 16 ≤ length text → a ≤ 5 → b ≤ 5 → mask ≡ mask_l (bits_of 16 text)
    → mask / 2 ^ (a + 1 + (b + 1)) ≡ mask_l (bits_of (14 - (a + b)) (drop (b + 1) (drop (a + 1) text)))
third_bits text mask a b within near short is =
    let whole : 16 ≡ a + 1 + (b + 1) + (14 - (a + b)) = omega (arith, near, short) in
    mask_behind text (a + 1 + (b + 1)) (14 - (a + b)) mask (omega (arith, within, near, short)) (is ∙ ap (λ k. mask_l (bits_of k text)) whole)
    ∙ ap (λ l. mask_l (bits_of (14 - (a + b)) l)) (sym (drop-drop (b + 1) (a + 1) text))
