-- The bytes that are no digits, found by one comparison of a vector, and the number of a word's
-- digits, by three multiplications.
use Rattle.std.proofs.Common.{◌≡◌, ℕ, zero, suc, ◌+◌, ◌-◌, ◌*◌, ◌/◌, ◌%◌, ◌^◌, ◌<◌, ◌≤◌, Bool, true, false, cond, leb, List, [], ◌∷◌, length, get_or, take, bit_and, refl, ap, ◌∙◌, arith}
use Rattle.std.proofs.lemmas.Bool.{and_parts, leb-true}
use Rattle.std.proofs.lemmas.Int.Digits.{digits_value_more}
use Rattle.std.specs.List.{list_all}
use Rattle.std.specs.Prelude.{nat_le}
use Rattle.std.specs.Char.{is_ascii_digit, digit_value}
use Rattle.std.specs.Str.Parse.{digits_value}
use lib.Bits.{and_block, and_mask}
use Rattle.mtx_text.specs.code.DigitLanes.{lane_word, word_from, number_from}
use Rattle.mtx_text.specs.code.PlainLines.{NumberTo}
use Rattle.mtx_text.proofs.Digits.{digit_is}

-- ---- the number of eight digits

-- every other byte of four, and of eight
half : (p q x y : ℕ) → p < 100 → q < 100 → x < 100 → bit_and ((y * 256 + q) * 65536 + (x * 256 + p)) 0x00ff_00ff ≡ q * 65536 + p
half p q x y P Q X =
    let low : x * 256 + p < 2 ^ 16 = omega arith in
    let a : (y * 256 + q) % 256 ≡ q = omega arith in
    let b : (x * 256 + p) % 256 ≡ p = omega arith in
    and_block 16 (y * 256 + q) 255 (x * 256 + p) 255 low (omega arith)
    ∙ rw (and_mask (y * 256 + q) 8, and_mask (x * 256 + p) 8, a, b) refl

pairs_are : (p q r s x y z pairs : ℕ) → p < 100 → q < 100 → r < 100 → s < 100 → x < 100 → y < 100 → z < 100
    → pairs ≡ p + 2 ^ 8 * x + 2 ^ 16 * q + 2 ^ 24 * y + 2 ^ 32 * r + 2 ^ 40 * z + 2 ^ 48 * s
    → bit_and pairs 0x00ff_00ff_00ff_00ff ≡ p + 2 ^ 16 * q + 2 ^ 32 * r + 2 ^ 48 * s
pairs_are p q r s x y z pairs P Q R S X Y Z e =
    let parts : pairs ≡ ((0 * 256 + s) * 65536 + (z * 256 + r)) * 2 ^ 32 + ((y * 256 + q) * 65536 + (x * 256 + p)) = omega arith in
    let low : (y * 256 + q) * 65536 + (x * 256 + p) < 2 ^ 32 = omega arith in
    ap (λ w. bit_and w 0x00ff_00ff_00ff_00ff) parts
    ∙ and_block 32 ((0 * 256 + s) * 65536 + (z * 256 + r)) 0x00ff_00ff ((y * 256 + q) * 65536 + (x * 256 + p)) 0x00ff_00ff low (omega arith)
    ∙ rw (half r s z 0 R S Z, half p q x y P Q X) (omega arith)

-- the first four digits are lowest, and the last four highest
fours_are : (f g m fours : ℕ) → f < 10000 → g < 10000 → m < 65536 → fours ≡ f + 2 ^ 16 * m + 2 ^ 32 * g
    → bit_and fours 65535 * 10000 + fours / 2 ^ 32 ≡ 10000 * f + g
fours_are f g m fours F G M e =
    let low : fours % 65536 ≡ f = omega (arith, e) in
    let high : fours / 2 ^ 32 ≡ g = omega (arith, e) in
    rw (and_mask fours 16, low, high) (omega arith)

abbrev worth : ℕ → ℕ
worth word =
    let pairs = bit_and (word * 2561 % 2 ^ 64 / 256) 0x00ff_00ff_00ff_00ff in
    let fours = pairs * 6553601 % 2 ^ 64 / 65536 in
    bit_and fours 65535 * 10000 + fours / 2 ^ 32

first : (a b c d e f g h : ℕ) → a ≤ 9 → b ≤ 9 → c ≤ 9 → d ≤ 9 → e ≤ 9 → f ≤ 9 → g ≤ 9 → h ≤ 9
    → (a + 256 * (b + 256 * (c + 256 * (d + 256 * (e + 256 * (f + 256 * (g + 256 * h))))))) * 2561 % 2 ^ 64 / 256
    ≡ 10 * a + b + 2 ^ 8 * (10 * b + c) + 2 ^ 16 * (10 * c + d) + 2 ^ 24 * (10 * d + e) + 2 ^ 32 * (10 * e + f) + 2 ^ 40 * (10 * f + g) + 2 ^ 48 * (10 * g + h)
first a b c d e f g h A B C D E F G H = omega arith

second : (p q r s : ℕ) → p < 100 → q < 100 → r < 100 → s < 100
    → (p + 2 ^ 16 * q + 2 ^ 32 * r + 2 ^ 48 * s) * 6553601 % 2 ^ 64 / 65536
    ≡ 100 * p + q + 2 ^ 16 * (100 * q + r) + 2 ^ 32 * (100 * r + s)
second p q r s P Q R S = omega arith

pub eight_are : (word : ℕ) (digit : ℕ → ℕ) → ((k : ℕ) → k < 8 → digit k ≤ 9) → word ≡ word_from digit → worth word ≡ number_from digit
eight_are word digit d is =
    let a = digit 0 in
    let b = digit 1 in
    let c = digit 2 in
    let e = digit 3 in
    let f = digit 4 in
    let g = digit 5 in
    let h = digit 6 in
    let i = digit 7 in
    let A = d 0 (omega arith) in
    let B = d 1 (omega arith) in
    let C = d 2 (omega arith) in
    let E = d 3 (omega arith) in
    let F = d 4 (omega arith) in
    let G = d 5 (omega arith) in
    let H = d 6 (omega arith) in
    let I = d 7 (omega arith) in
    let p = 10 * a + b in
    let q = 10 * c + e in
    let r = 10 * f + g in
    let s = 10 * h + i in
    let P : p < 100 = omega (arith, A, B) in
    let Q : q < 100 = omega (arith, C, E) in
    let R : r < 100 = omega (arith, F, G) in
    let S : s < 100 = omega (arith, H, I) in
    let pairs = pairs_are p q r s (10 * b + c) (10 * e + f) (10 * g + h) _ P Q R S (omega (arith, B, C)) (omega (arith, E, F)) (omega (arith, G, H)) refl in
    let fours = fours_are (100 * p + q) (100 * r + s) (100 * q + r) _ (omega (arith, P, Q)) (omega (arith, R, S)) (omega (arith, Q, R)) refl in
    rw (is, first a b c e f g h i A B C E F G H I, pairs, second p q r s P Q R S, fours) (omega arith)

-- ---- the digits at a text's front, shifted to the end of a word of eight

-- the digit of a byte
at : (text : List ℕ) (len i : ℕ) → i < len → len ≤ length text → list_all is_ascii_digit (take len text) ≡ true
    → (digit_value (get_or text i 0) + 48 ≡ get_or text i 0) × (digit_value (get_or text i 0) ≤ 9)
at [] len i few within all = absurd (omega arith)
at (b ∷ bs) zero i few within all = absurd (omega arith)
at (b ∷ bs) (suc len) zero few within all =
    let parts = and_parts (is_ascii_digit b) (list_all is_ascii_digit (take len bs)) all in
    let ends = and_parts (nat_le 48 b) (nat_le b 57) parts.0 in
    (digit_is b parts.0, omega (arith, digit_is b parts.0, leb-true b 57 ends.1))
at (b ∷ bs) (suc len) (suc i) few within all =
    let parts = and_parts (is_ascii_digit b) (list_all is_ascii_digit (take len bs)) all in
    at bs len i (omega arith) (omega arith) parts.1

-- the value of digit k of eight, where the text's first `len` digits are the last
abbrev pub padded : List ℕ → ℕ → ℕ → ℕ
padded text len k = cond (leb (8 - len) k) (digit_value (get_or text (k - (8 - len)) 0)) 0

abbrev pub shifted : ℕ → ℕ → ℕ
shifted word len = (word + 14974415777481871312) % 2 ^ 64 * 2 ^ (64 - 8 * len) % 2 ^ 64

shifted_1 : (word a r : ℕ) → a ≤ 9 → word ≡ a + 48 + 256 * r → shifted word 1 ≡ a * 256 ^ 7
shifted_1 word a r A is = omega (arith, is)

shifted_2 : (word a b r : ℕ) → a ≤ 9 → b ≤ 9 → word ≡ a + 48 + 256 * (b + 48 + 256 * r) → shifted word 2 ≡ (a + 256 * b) * 256 ^ 6
shifted_2 word a b r A B is = omega (arith, is)

shifted_3 : (word a b c r : ℕ) → a ≤ 9 → b ≤ 9 → c ≤ 9 → word ≡ a + 48 + 256 * (b + 48 + 256 * (c + 48 + 256 * r)) → shifted word 3 ≡ (a + 256 * (b + 256 * c)) * 256 ^ 5
shifted_3 word a b c r A B C is = omega (arith, is)

shifted_4 : (word a b c d r : ℕ) → a ≤ 9 → b ≤ 9 → c ≤ 9 → d ≤ 9 → word ≡ a + 48 + 256 * (b + 48 + 256 * (c + 48 + 256 * (d + 48 + 256 * r))) → shifted word 4 ≡ (a + 256 * (b + 256 * (c + 256 * d))) * 256 ^ 4
shifted_4 word a b c d r A B C D is = omega (arith, is)

shifted_5 : (word a b c d e r : ℕ) → a ≤ 9 → b ≤ 9 → c ≤ 9 → d ≤ 9 → e ≤ 9 → word ≡ a + 48 + 256 * (b + 48 + 256 * (c + 48 + 256 * (d + 48 + 256 * (e + 48 + 256 * r)))) → shifted word 5 ≡ (a + 256 * (b + 256 * (c + 256 * (d + 256 * e)))) * 256 ^ 3
shifted_5 word a b c d e r A B C D E is = omega (arith, is)

-- What is said of a text's first `len` bytes, all digits: they are small, the shifted word has them
-- at its end, and their number.
pub record Front (text : List ℕ) (len : ℕ) : Type 0 where
  pub small : (k : ℕ) → k < 8 → padded text len k ≤ 9
  pub word : shifted (lane_word text) len ≡ word_from (padded text len)
  pub number : NumberTo text len (number_from (padded text len))

padded_small : (text : List ℕ) (len k : ℕ) → k < 8 → len ≤ 8 → len ≤ length text → list_all is_ascii_digit (take len text) ≡ true
    → (b : Bool) → leb (8 - len) k ≡ b → cond b (digit_value (get_or text (k - (8 - len)) 0)) 0 ≤ 9
padded_small text len k few short within all true e = (at text len (k - (8 - len)) (omega (arith, leb-true (8 - len) k e)) within all).1
padded_small text len k few short within all false e = omega arith

of_1 : (text : List ℕ) → 8 ≤ length text → list_all is_ascii_digit (take 1 text) ≡ true → Front text 1
of_1 text room all =
    let d0 = at text 1 0 (omega arith) (omega arith) all in
    let v0 : digits_value 10 (take 1 text) ≡ digits_value 10 (take 0 text) * 10 + digit_value (get_or text 0 0) = digits_value_more 10 text 0 (omega arith) in
    record {
      small = λ i few. padded_small text 1 i few (omega arith) (omega arith) all (leb (8 - 1) i) refl;
      word = shifted_1 (lane_word text) (digit_value (get_or text 0 0)) (get_or text 1 0 + 256 * (get_or text 2 0 + 256 * (get_or text 3 0 + 256 * (get_or text 4 0 + 256 * (get_or text 5 0 + 256 * (get_or text 6 0 + 256 * get_or text 7 0)))))) d0.1 (omega (arith, d0.0)) ∙ omega arith;
      number = record { digits = all; value = λ _. omega (arith, d0.1, v0); below = λ _. omega (arith, d0.1) };
    }

of_2 : (text : List ℕ) → 8 ≤ length text → list_all is_ascii_digit (take 2 text) ≡ true → Front text 2
of_2 text room all =
    let d0 = at text 2 0 (omega arith) (omega arith) all in
    let d1 = at text 2 1 (omega arith) (omega arith) all in
    let v0 : digits_value 10 (take 1 text) ≡ digits_value 10 (take 0 text) * 10 + digit_value (get_or text 0 0) = digits_value_more 10 text 0 (omega arith) in
    let v1 : digits_value 10 (take 2 text) ≡ digits_value 10 (take 1 text) * 10 + digit_value (get_or text 1 0) = digits_value_more 10 text 1 (omega arith) in
    record {
      small = λ i few. padded_small text 2 i few (omega arith) (omega arith) all (leb (8 - 2) i) refl;
      word = shifted_2 (lane_word text) (digit_value (get_or text 0 0)) (digit_value (get_or text 1 0)) (get_or text 2 0 + 256 * (get_or text 3 0 + 256 * (get_or text 4 0 + 256 * (get_or text 5 0 + 256 * (get_or text 6 0 + 256 * get_or text 7 0))))) d0.1 d1.1 (omega (arith, d0.0, d1.0)) ∙ omega arith;
      number = record { digits = all; value = λ _. omega (arith, d0.1, d1.1, v0, v1); below = λ _. omega (arith, d0.1, d1.1) };
    }

of_3 : (text : List ℕ) → 8 ≤ length text → list_all is_ascii_digit (take 3 text) ≡ true → Front text 3
of_3 text room all =
    let d0 = at text 3 0 (omega arith) (omega arith) all in
    let d1 = at text 3 1 (omega arith) (omega arith) all in
    let d2 = at text 3 2 (omega arith) (omega arith) all in
    let v0 : digits_value 10 (take 1 text) ≡ digits_value 10 (take 0 text) * 10 + digit_value (get_or text 0 0) = digits_value_more 10 text 0 (omega arith) in
    let v1 : digits_value 10 (take 2 text) ≡ digits_value 10 (take 1 text) * 10 + digit_value (get_or text 1 0) = digits_value_more 10 text 1 (omega arith) in
    let v2 : digits_value 10 (take 3 text) ≡ digits_value 10 (take 2 text) * 10 + digit_value (get_or text 2 0) = digits_value_more 10 text 2 (omega arith) in
    record {
      small = λ i few. padded_small text 3 i few (omega arith) (omega arith) all (leb (8 - 3) i) refl;
      word = shifted_3 (lane_word text) (digit_value (get_or text 0 0)) (digit_value (get_or text 1 0)) (digit_value (get_or text 2 0)) (get_or text 3 0 + 256 * (get_or text 4 0 + 256 * (get_or text 5 0 + 256 * (get_or text 6 0 + 256 * get_or text 7 0)))) d0.1 d1.1 d2.1 (omega (arith, d0.0, d1.0, d2.0)) ∙ omega arith;
      number = record { digits = all; value = λ _. omega (arith, d0.1, d1.1, d2.1, v0, v1, v2); below = λ _. omega (arith, d0.1, d1.1, d2.1) };
    }

of_4 : (text : List ℕ) → 8 ≤ length text → list_all is_ascii_digit (take 4 text) ≡ true → Front text 4
of_4 text room all =
    let d0 = at text 4 0 (omega arith) (omega arith) all in
    let d1 = at text 4 1 (omega arith) (omega arith) all in
    let d2 = at text 4 2 (omega arith) (omega arith) all in
    let d3 = at text 4 3 (omega arith) (omega arith) all in
    let v0 : digits_value 10 (take 1 text) ≡ digits_value 10 (take 0 text) * 10 + digit_value (get_or text 0 0) = digits_value_more 10 text 0 (omega arith) in
    let v1 : digits_value 10 (take 2 text) ≡ digits_value 10 (take 1 text) * 10 + digit_value (get_or text 1 0) = digits_value_more 10 text 1 (omega arith) in
    let v2 : digits_value 10 (take 3 text) ≡ digits_value 10 (take 2 text) * 10 + digit_value (get_or text 2 0) = digits_value_more 10 text 2 (omega arith) in
    let v3 : digits_value 10 (take 4 text) ≡ digits_value 10 (take 3 text) * 10 + digit_value (get_or text 3 0) = digits_value_more 10 text 3 (omega arith) in
    record {
      small = λ i few. padded_small text 4 i few (omega arith) (omega arith) all (leb (8 - 4) i) refl;
      word = shifted_4 (lane_word text) (digit_value (get_or text 0 0)) (digit_value (get_or text 1 0)) (digit_value (get_or text 2 0)) (digit_value (get_or text 3 0)) (get_or text 4 0 + 256 * (get_or text 5 0 + 256 * (get_or text 6 0 + 256 * get_or text 7 0))) d0.1 d1.1 d2.1 d3.1 (omega (arith, d0.0, d1.0, d2.0, d3.0)) ∙ omega arith;
      number = record { digits = all; value = λ _. omega (arith, d0.1, d1.1, d2.1, d3.1, v0, v1, v2, v3); below = λ _. omega (arith, d0.1, d1.1, d2.1, d3.1) };
    }

of_5 : (text : List ℕ) → 8 ≤ length text → list_all is_ascii_digit (take 5 text) ≡ true → Front text 5
of_5 text room all =
    let d0 = at text 5 0 (omega arith) (omega arith) all in
    let d1 = at text 5 1 (omega arith) (omega arith) all in
    let d2 = at text 5 2 (omega arith) (omega arith) all in
    let d3 = at text 5 3 (omega arith) (omega arith) all in
    let d4 = at text 5 4 (omega arith) (omega arith) all in
    let v0 : digits_value 10 (take 1 text) ≡ digits_value 10 (take 0 text) * 10 + digit_value (get_or text 0 0) = digits_value_more 10 text 0 (omega arith) in
    let v1 : digits_value 10 (take 2 text) ≡ digits_value 10 (take 1 text) * 10 + digit_value (get_or text 1 0) = digits_value_more 10 text 1 (omega arith) in
    let v2 : digits_value 10 (take 3 text) ≡ digits_value 10 (take 2 text) * 10 + digit_value (get_or text 2 0) = digits_value_more 10 text 2 (omega arith) in
    let v3 : digits_value 10 (take 4 text) ≡ digits_value 10 (take 3 text) * 10 + digit_value (get_or text 3 0) = digits_value_more 10 text 3 (omega arith) in
    let v4 : digits_value 10 (take 5 text) ≡ digits_value 10 (take 4 text) * 10 + digit_value (get_or text 4 0) = digits_value_more 10 text 4 (omega arith) in
    record {
      small = λ i few. padded_small text 5 i few (omega arith) (omega arith) all (leb (8 - 5) i) refl;
      word = shifted_5 (lane_word text) (digit_value (get_or text 0 0)) (digit_value (get_or text 1 0)) (digit_value (get_or text 2 0)) (digit_value (get_or text 3 0)) (digit_value (get_or text 4 0)) (get_or text 5 0 + 256 * (get_or text 6 0 + 256 * get_or text 7 0)) d0.1 d1.1 d2.1 d3.1 d4.1 (omega (arith, d0.0, d1.0, d2.0, d3.0, d4.0)) ∙ omega arith;
      number = record { digits = all; value = λ _. omega (arith, d0.1, d1.1, d2.1, d3.1, d4.1, v0, v1, v2, v3, v4); below = λ _. omega (arith, d0.1, d1.1, d2.1, d3.1, d4.1) };
    }

pub front_is : (text : List ℕ) (len : ℕ) → 8 ≤ length text → 0 < len → len ≤ 5 → list_all is_ascii_digit (take len text) ≡ true → Front text len
front_is text zero room full few all = absurd (omega arith)
front_is text (suc zero) room full few all = of_1 text room all
front_is text (suc (suc zero)) room full few all = of_2 text room all
front_is text (suc (suc (suc zero))) room full few all = of_3 text room all
front_is text (suc (suc (suc (suc zero)))) room full few all = of_4 text room all
front_is text (suc (suc (suc (suc (suc zero))))) room full few all = of_5 text room all
front_is text (suc (suc (suc (suc (suc (suc len)))))) room full few all = absurd (omega arith)
