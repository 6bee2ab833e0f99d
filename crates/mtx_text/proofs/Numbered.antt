-- A run of digits that ends its word is that word, and an integer.
use Rattle.std.proofs.Common.{◌≡◌, ℕ, zero, suc, ◌≤◌, ◌<◌, ◌==◌, ◌||◌, true, false, List, [], ◌∷◌, length, get_or, take, drop, min, inl, inr, ne_eqb, eqb-true, length-take-le, arith}
use Rattle.std.proofs.lemmas.Bool.{and_parts, leb-true, or_cases}
use Rattle.std.specs.List.{list_all}
use Rattle.std.specs.Option.{option_map}
use Rattle.std.specs.Prelude.{Some, nat_le}
use Rattle.std.specs.Char.{is_ascii_digit}
use Rattle.std.specs.Str.Parse.{digits_value}
use Rattle.mtx_text.specs.Lines.{words_of, is_blank}
use Rattle.mtx_text.specs.Integers.{integer_of}
use Rattle.mtx_text.specs.code.Capped.{capped}
use Rattle.mtx_text.proofs.Cuts.{word_cut}

pub digit_low : (b : ℕ) → is_ascii_digit b ≡ true → 48 ≤ b
digit_low b h =
    let parts = and_parts (nat_le 48 b) (nat_le b 57) h in
    leb-true 48 b parts.0

pub digit_plain : (b : ℕ) → is_ascii_digit b ≡ true → is_blank b ≡ false
digit_plain b h =
    let low = digit_low b h in
    rw (ne_eqb b 32 (λ e. absurd (omega (arith, low, e))), ne_eqb b 9 (λ e. absurd (omega (arith, low, e))))

digits_plain : (line : List ℕ) (len : ℕ) → list_all is_ascii_digit (take len line) ≡ true → len ≤ length line
    → (j : ℕ) → j < len → is_blank (get_or line j 0) ≡ false
digits_plain [] len all within j h = absurd (omega arith)
digits_plain (b ∷ bs) zero all within j h = absurd (omega arith)
digits_plain (b ∷ bs) (suc len) all within zero h =
    let parts = and_parts (is_ascii_digit b) (list_all is_ascii_digit (take len bs)) all in
    digit_plain b parts.0
digits_plain (b ∷ bs) (suc len) all within (suc j) h =
    let parts = and_parts (is_ascii_digit b) (list_all is_ascii_digit (take len bs)) all in
    digits_plain bs len parts.1 (omega arith) j (omega arith)

pub number_at : (line : List ℕ) (len : ℕ) → 0 < len → len ≤ length line → list_all is_ascii_digit (take len line) ≡ true
    → (len == length line || is_blank (get_or line len 0)) ≡ true → words_of line ≡ take len line ∷ words_of (drop len line)
number_at line len full within all ends =
    word_cut line len full (record {
      within = within;
      before = digits_plain line len all within;
      found = λ h.
          elim (or_cases (len == length line) (is_blank (get_or line len 0)) ends) [
            | inl same ↦ absurd (omega (arith, eqb-true len (length line) same))
            | inr blank ↦ blank
          ];
    })

integer_is : (word : List ℕ) → 0 < length word → list_all is_ascii_digit word ≡ true
    → integer_of word ≡ Some (record { minus = false; size = digits_value 10 word })
integer_is [] full all = absurd (omega arith)
integer_is (b ∷ bs) full all =
    let parts = and_parts (is_ascii_digit b) (list_all is_ascii_digit bs) all in
    let low = digit_low b parts.0 in
    rw (ne_eqb b 43 (λ e. absurd (omega (arith, low, e))), ne_eqb b 45 (λ e. absurd (omega (arith, low, e))), all)

pub number_is : (line : List ℕ) (len size : ℕ) → 0 < len → len ≤ length line → list_all is_ascii_digit (take len line) ≡ true
    → size ≡ min (digits_value 10 (take len line)) 1_000_000_000_000_000_000
    → Some (record { minus = false; size = size }) ≡ option_map capped (integer_of (take len line))
number_is line len size full within all is =
    rw (integer_is (take len line) (omega (arith, length-take-le len line within)) all, is)
