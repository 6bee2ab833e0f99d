-- A plain line, word by word: digits and a space in front of a line's rest, and a last word with LF
-- behind it.
use Rattle.std.proofs.Common.{◌≡◌, ◌≢◌, ℕ, zero, suc, ◌+◌, ◌-◌, ◌*◌, ◌%◌, ◌^◌, ◌<◌, ◌≤◌, nat_lt, true, false, List, [], ◌∷◌, length, get_or, take, drop, map, refl, sym, ◌∙◌, ap, subst, add-one, ne_eqb, length-take-le, arith}
use native.Mathlib.Numerals.{unary_clauses}
use Rattle.std.proofs.Math.Nat.{pow-le-pow_right}
use Rattle.std.proofs.lemmas.List.{length-drop}
use Rattle.std.proofs.lemmas.Bool.{and_parts, leb-true, le-leb, lt-ltb}
use Rattle.std.specs.List.{list_all, slice_split, onto_first}
use Rattle.std.specs.Option.{option_map}
use Rattle.std.specs.Prelude.{Some, nat_le}
use Rattle.std.specs.Char.{is_ascii_digit}
use Rattle.std.specs.Str.Parse.{digits_value}
use Rattle.mtx_text.specs.declared.integer.Integer.{Integer}
use Rattle.mtx_text.specs.declared.kind.Kind.TheVariants as kind
use Rattle.mtx_text.specs.Lines.{pieces, without_cr, lines_of, lines_from, words_of, is_blank, is_skipped}
use Rattle.mtx_text.specs.Integers.{integer_of}
use Rattle.mtx_text.specs.Grammar.{fields_of}
use Rattle.mtx_text.specs.code.Capped.{capped, read_three}
use Rattle.mtx_text.specs.code.PlainLines.{LineAt, DigitsTo, DigitsEnd, LastAt, NumberTo}
use Rattle.mtx_text.proofs.Digits.{digits_step, all_step}
use Rattle.mtx_text.proofs.Numbered.{digit_low, digit_plain, number_is}

-- ---- lines

cr_onto : (b : ℕ) (piece : List ℕ) → b ≢ 13 → without_cr (b ∷ piece) ≡ b ∷ without_cr piece
cr_onto b [] own = rw (ne_eqb b 13 own) refl
cr_onto b (c ∷ cs) own = refl

onto : (b : ℕ) (ps : List (List ℕ)) (l : List ℕ) (ls : List (List ℕ)) → b ≢ 13 → map without_cr ps ≡ l ∷ ls
    → map without_cr (onto_first b ps) ≡ (b ∷ l) ∷ ls
onto b [] l ls own e =
    let none : 0 ≡ suc (length ls) = ap length e in
    absurd (omega (arith, none))
onto b (p ∷ ps) l ls own e = ap (λ x. x ∷ map without_cr ps) (cr_onto b p own) ∙ ap (onto_first b) e

-- one more byte in front of a line
line_onto : (b : ℕ) (bs : List ℕ) (len next : ℕ) → b ≢ 10 → b ≢ 13 → LineAt bs len next → LineAt (b ∷ bs) (suc len) (suc next)
line_onto b bs len next other own at =
    record {
      within = omega (arith, at.within);
      room = omega (arith, at.room);
      lines = rw (ne_eqb b 10 other) (onto b (pieces bs) (take len bs) (lines_of (drop next bs)) own at.lines);
    }

-- behind its bytes a line ends with LF, or with CR and LF
pub ends_in_lf : (text : List ℕ) (len : ℕ) → len < length text → get_or text len 0 ≡ 10 → LineAt (drop len text) 0 1
ends_in_lf [] len within lf = absurd (omega arith)
ends_in_lf (b ∷ bs) zero within lf =
    subst (λ (x : ℕ). LineAt (x ∷ bs) 0 1) (sym lf) (record { within = omega arith; room = omega arith; lines = refl })
ends_in_lf (b ∷ bs) (suc len) within lf = ends_in_lf bs len (omega arith) lf

cr_lf : (text : List ℕ) (len : ℕ) → suc len < length text → get_or text len 0 ≡ 13 → get_or text (suc len) 0 ≡ 10 → LineAt (drop len text) 0 2
cr_lf [] len within cr lf = absurd (omega arith)
cr_lf (b ∷ []) len within cr lf = absurd (omega arith)
cr_lf (b ∷ c ∷ bs) zero within cr lf =
    subst (λ (x : ℕ). LineAt (x ∷ c ∷ bs) 0 2) (sym cr)
    (subst (λ (x : ℕ). LineAt (13 ∷ x ∷ bs) 0 2) (sym lf) (record { within = omega arith; room = omega arith; lines = refl }))
cr_lf (b ∷ c ∷ bs) (suc len) within cr lf = cr_lf (c ∷ bs) len (omega arith) cr lf

pub ends_in_cr_lf : (text : List ℕ) (len : ℕ) → len + 1 < length text → get_or text len 0 ≡ 13 → get_or text (len + 1) 0 ≡ 10 → LineAt (drop len text) 0 2
ends_in_cr_lf text len within cr lf = cr_lf text len (omega arith) cr (ap (λ (k : ℕ). get_or text k 0) (sym (add-one len)) ∙ lf)

-- digits in front of a line's end
digits_onto : (text : List ℕ) (len end next : ℕ) → next ≡ len + end → len ≤ length text → list_all is_ascii_digit (take len text) ≡ true
    → LineAt (drop len text) 0 end → LineAt text len next
digits_onto [] zero end next sum within all at = subst (LineAt [] 0) (omega arith) at
digits_onto [] (suc len) end next sum within all at = absurd (omega arith)
digits_onto (b ∷ bs) zero end next sum within all at = subst (LineAt (b ∷ bs) 0) (omega arith) at
digits_onto (b ∷ bs) (suc len) end zero sum within all at = absurd (omega arith)
digits_onto (b ∷ bs) (suc len) end (suc next) sum within all at =
    let parts = and_parts (is_ascii_digit b) (list_all is_ascii_digit (take len bs)) all in
    let low = digit_low b parts.0 in
    line_onto b bs len next (λ e. absurd (omega (arith, low, e))) (λ e. absurd (omega (arith, low, e)))
    (digits_onto bs len end next (omega arith) (omega arith) parts.1 at)

pub digits_line : (text : List ℕ) (len end : ℕ) → len ≤ length text → list_all is_ascii_digit (take len text) ≡ true
    → LineAt (drop len text) 0 end → LineAt text len (len + end)
digits_line text len end within all at = digits_onto text len end (len + end) refl within all at

minus_line : (text : List ℕ) (len next : ℕ) → 0 < length text → get_or text 0 0 ≡ 45 → LineAt (drop 1 text) len next → LineAt text (suc len) (suc next)
minus_line [] len next full sign at = absurd (omega arith)
minus_line (b ∷ bs) len next full sign at = line_onto b bs len next (λ e. absurd (omega (arith, sign, e))) (λ e. absurd (omega (arith, sign, e))) at

onward : (text : List ℕ) (a n next m to : ℕ) → m ≡ a + 1 + n → to ≡ a + 1 + next → a < length text → list_all is_ascii_digit (take a text) ≡ true
    → get_or text a 0 ≡ 32 → LineAt (drop (suc a) text) n next → LineAt text m to
onward [] a n next m to sum sums within all ends at = absurd (omega arith)
onward (b ∷ bs) a n next zero to sum sums within all ends at = absurd (omega arith)
onward (b ∷ bs) a n next (suc m) zero sum sums within all ends at = absurd (omega arith)
onward (b ∷ bs) zero n next (suc m) (suc to) sum sums within all ends at =
    let same : m ≡ n = omega arith in
    let same_next : to ≡ next = omega arith in
    line_onto b bs m to (λ e. absurd (omega (arith, ends, e))) (λ e. absurd (omega (arith, ends, e)))
    (subst (LineAt bs m) (sym same_next) (subst (λ (k : ℕ). LineAt bs k next) (sym same) at))
onward (b ∷ bs) (suc a) n next (suc m) (suc to) sum sums within all ends at =
    let parts = and_parts (is_ascii_digit b) (list_all is_ascii_digit (take a bs)) all in
    let low = digit_low b parts.0 in
    line_onto b bs m to (λ e. absurd (omega (arith, low, e))) (λ e. absurd (omega (arith, low, e)))
    (onward bs a n next m to (omega arith) (omega arith) (omega arith) parts.1 ends at)

-- a line that digits and a space are put in front of
pub line_on : (text rest : List ℕ) (a n next size : ℕ) → LineAt rest n next → rest ≡ drop (a + 1) text → DigitsTo 32 text a size
    → LineAt text (a + 1 + n) (a + 1 + next)
line_on text rest a n next size at is d =
    let here : rest ≡ drop (suc a) text = is ∙ ap (λ (k : ℕ). drop k text) (add-one a) in
    onward text a n next (a + 1 + n) (a + 1 + next) refl refl d.within d.digits d.ends (subst (λ (l : List ℕ). LineAt l n next) here at)

-- ---- words

parts_on : (text : List ℕ) (a n m : ℕ) → m ≡ a + 1 + n → a < length text → list_all is_ascii_digit (take a text) ≡ true
    → get_or text a 0 ≡ 32
    → slice_split is_blank (take m text) ≡ take a text ∷ slice_split is_blank (take n (drop (suc a) text))
parts_on [] a n m sum within all ends = absurd (omega arith)
parts_on (b ∷ bs) a n zero sum within all ends = absurd (omega arith)
parts_on (b ∷ bs) zero n (suc m) sum within all ends =
    let same : m ≡ n = omega arith in
    let blank : is_blank b ≡ true = ap is_blank ends in
    rw (blank, same) refl
parts_on (b ∷ bs) (suc a) n (suc m) sum within all ends =
    let parts = and_parts (is_ascii_digit b) (list_all is_ascii_digit (take a bs)) all in
    rw (digit_plain b parts.0, parts_on bs a n m (omega arith) (omega arith) parts.1 ends) refl

words_on : (text rest : List ℕ) (a n size : ℕ) → rest ≡ drop (a + 1) text → DigitsTo 32 text a size
    → words_of (take (a + 1 + n) text) ≡ take a text ∷ words_of (take n rest)
words_on text rest a n size is d =
    let long : nat_lt 0 (length (take a text)) ≡ true = lt-ltb 0 (length (take a text)) (omega (arith, d.full, length-take-le a text (omega (arith, d.within)))) in
    let cut = parts_on text a n (a + 1 + n) refl d.within d.digits d.ends in
    let here : rest ≡ drop (suc a) text = is ∙ ap (λ (k : ℕ). drop k text) (add-one a) in
    rw (cut, here, long) refl

one_part : (word : List ℕ) → list_all is_ascii_digit word ≡ true → slice_split is_blank word ≡ word ∷ []
one_part [] all = refl
one_part (b ∷ bs) all =
    let parts = and_parts (is_ascii_digit b) (list_all is_ascii_digit bs) all in
    rw (digit_plain b parts.0, one_part bs parts.1) refl

one_word : (word : List ℕ) → 0 < length word → list_all is_ascii_digit word ≡ true → words_of word ≡ word ∷ []
one_word word full all = rw (one_part word all, lt-ltb 0 (length word) full) refl

minus_word : (word : List ℕ) → list_all is_ascii_digit word ≡ true → words_of (45 ∷ word) ≡ (45 ∷ word) ∷ []
minus_word word all = rw (one_part word all, lt-ltb 0 (suc (length word)) (omega arith)) refl

digits_count : (text : List ℕ) (a : ℕ) (words : List (List ℕ)) → 0 < a → a ≤ length text → list_all is_ascii_digit (take a text) ≡ true
    → is_skipped (take a text ∷ words) ≡ false
digits_count [] a words full within all = absurd (omega arith)
digits_count (b ∷ bs) zero words full within all = absurd (omega arith)
digits_count (b ∷ bs) (suc a) words full within all =
    let parts = and_parts (is_ascii_digit b) (list_all is_ascii_digit (take a bs)) all in
    let low = digit_low b parts.0 in
    ne_eqb b 37 (λ e. absurd (omega (arith, low, e)))

pub row_counts : (text rest : List ℕ) (a n size : ℕ) → rest ≡ drop (a + 1) text → DigitsTo 32 text a size
    → is_skipped (words_of (take (a + 1 + n) text)) ≡ false
row_counts text rest a n size is d =
    rw (words_on text rest a n size is d) (digits_count text a (words_of (take n rest)) d.full (omega (arith, d.within)) d.digits)

-- ---- a line that counts, at the front of a text

pub kept_at : (text rest line : List ℕ) (number len next : ℕ) → LineAt text len next → is_skipped (words_of (take len text)) ≡ false
    → line ≡ take len text → rest ≡ drop next text
    → lines_from number (lines_of text) ≡ record { number = number; words = words_of line } ∷ lines_from (number + 1) (lines_of rest)
kept_at text rest line number len next at counts own is = rw (at.lines, counts, own, is) refl

pub left_at : (text rest : List ℕ) (len next : ℕ) → LineAt text len next → rest ≡ drop next text → length (lines_of text) ≡ length (lines_of rest) + 1
left_at text rest len next at is = rw (at.lines, is, add-one) refl

-- ---- numbers

pub digit_small : (b : ℕ) → is_ascii_digit b ≡ true → b - 48 ≤ 9
digit_small b h =
    let parts = and_parts (nat_le 48 b) (nat_le b 57) h in
    let high = leb-true b 57 parts.1 in
    omega (arith, high)

minus_digits : (word : List ℕ) → 0 < length word → list_all is_ascii_digit word ≡ true
    → integer_of (45 ∷ word) ≡ Some (record { minus = true; size = digits_value 10 word })
minus_digits [] full all = absurd (omega arith)
minus_digits (b ∷ bs) full all = rw all refl

-- ---- the last word

pub digits_last : (text : List ℕ) (len next size : ℕ) → DigitsEnd text len next size → LastAt text len next (record { minus = false; size = size })
digits_last text len next size d =
    let within : len ≤ length text = omega (arith, d.within) in
    let full : 0 < length (take len text) = omega (arith, d.full, length-take-le len text within) in
    record {
      line = d.line;
      word = one_word (take len text) full d.digits;
      value = number_is text len size d.full within d.digits d.value;
    }

-- a second run of few digits, with a space behind it
pub column_to : (text rest : List ℕ) (a len size : ℕ) → 24 ≤ length text → a ≤ 5 → rest ≡ drop (a + 1) text → 0 < len → len ≤ 5
    → NumberTo (drop (a + 1) text) len size → get_or rest len 0 ≡ 32 → DigitsTo 32 rest len size
column_to text rest a len size long near is full few n ends =
    let own : NumberTo rest len size = subst (λ (l : List ℕ). NumberTo l len size) (sym is) n in
    record {
      full = full;
      within = omega (arith, long, near, few, ap (λ (l : List ℕ). length l) is, length-drop (a + 1) text);
      digits = own.digits;
      value = own.value (omega (arith, few));
      ends = ends;
    }

-- few digits, with the line's end behind them
pub read_last : (text : List ℕ) (len end size : ℕ) → 0 < len → len ≤ 5 → len < length text → NumberTo text len size → LineAt (drop len text) 0 end
    → LastAt text len (len + end) (record { minus = false; size = size })
read_last text len end size full few within n at =
    digits_last text len (len + end) size (record {
      full = full;
      within = within;
      digits = n.digits;
      value = n.value (omega (arith, few));
      line = digits_line text len end (omega (arith, within)) n.digits at;
    })

pub column_last : (text rest : List ℕ) (a len end size : ℕ) → 24 ≤ length text → a ≤ 5 → rest ≡ drop (a + 1) text → 0 < len → len ≤ 5
    → NumberTo (drop (a + 1) text) len size → LineAt (drop len rest) 0 end → LastAt rest len (len + end) (record { minus = false; size = size })
column_last text rest a len end size long near is full few n at =
    let within : len < length rest = omega (arith, long, near, few, ap (λ (l : List ℕ). length l) is, length-drop (a + 1) text) in
    read_last rest len end size full few within (subst (λ (l : List ℕ). NumberTo l len size) (sym is) n) at

minus_at : (text : List ℕ) (len next size : ℕ) → get_or text 0 0 ≡ 45 → DigitsEnd (drop 1 text) len next size
    → LastAt text (suc len) (suc next) (record { minus = true; size = size })
minus_at [] len next size sign d = absurd (omega (arith, d.within))
minus_at (b ∷ bs) len next size sign d =
    let within : len ≤ length bs = omega (arith, d.within) in
    let full : 0 < length (take len bs) = omega (arith, d.full, length-take-le len bs within) in
    record {
      line = minus_line (b ∷ bs) len next (omega arith) sign d.line;
      word = subst (λ (x : ℕ). words_of (x ∷ take len bs) ≡ (x ∷ take len bs) ∷ []) (sym sign) (minus_word (take len bs) d.digits);
      value = rw (sign, minus_digits (take len bs) full d.digits, d.value) refl;
    }

pub minus_last : (text rest : List ℕ) (len next size : ℕ) → DigitsEnd rest len next size → rest ≡ drop (0 + 1) text → get_or text 0 0 ≡ 45
    → LastAt text (len + 1) (next + 1) (record { minus = true; size = size })
minus_last text rest len next size d is sign =
    rw (add-one len, add-one next) (minus_at text len next size sign (subst (λ (l : List ℕ). DigitsEnd l len next size) is d))

-- ---- the fields

number_of : (end : ℕ) (text : List ℕ) (len size : ℕ) → DigitsTo end text len size
    → Some (record { minus = false; size = size }) ≡ option_map capped (integer_of (take len text))
number_of end text len size d = number_is text len size d.full (omega (arith, d.within)) d.digits d.value

pub two_fields : (text rest : List ℕ) (a n next size : ℕ) (v : Integer) → rest ≡ drop (a + 1) text → DigitsTo 32 text a size → LastAt rest n next v
    → Some (Some (record { minus = false; size = size }), Some v, Some (record { minus = false; size = 1 }))
    ≡ option_map read_three (fields_of kind.Pattern (words_of (take (a + 1 + n) text)))
two_fields text rest a n next size v is d last =
    rw (words_on text rest a n size is d, last.word, sym (number_of 32 text a size d), sym last.value) refl

pub three_fields : (text rest end : List ℕ) (a b n next row column : ℕ) (v : Integer) → rest ≡ drop (a + 1) text → end ≡ drop (b + 1) rest
    → DigitsTo 32 text a row → DigitsTo 32 rest b column → LastAt end n next v
    → Some (Some (record { minus = false; size = row }), Some (record { minus = false; size = column }), Some v)
    ≡ option_map read_three (fields_of kind.Integer (words_of (take (a + 1 + (b + 1 + n)) text)))
three_fields text rest end a b n next row column v is on d e last =
    rw (words_on text rest a (b + 1 + n) row is d, words_on rest end b n column on e, last.word, sym (number_of 32 text a row d), sym (number_of 32 rest b column e), sym last.value) refl

-- ---- the digits of a number

below_power : (i size : ℕ) → i < 18 → size < 10 ^ i → size < 100_000_000_000_000_000
below_power i size few below =
    let top : 10 ^ i ≤ 10 ^ 17 = pow-le-pow_right {n = 10} (omega arith) {i = i} {j = 17} (omega arith) in
    omega (arith, top, below)

next_power : (i size digit : ℕ) → size < 10 ^ i → digit ≤ 9 → size * 10 + digit < 10 ^ (i + 1)
next_power i size digit below small =
    let next : 10 ^ suc i ≡ 10 ^ i * 10 = simp unary_clauses refl in
    rw add-one (omega (arith, next, below))

pub unwrapped : (size digit : ℕ) → size < 100_000_000_000_000_000 → digit ≤ 9
    → ((size * 10) % 18_446_744_073_709_551_616 + digit) % 18_446_744_073_709_551_616 ≡ size * 10 + digit
unwrapped size digit below small = omega (arith, below, small)

pub digit_more : (text : List ℕ) (i size next : ℕ) → i < length text → is_ascii_digit (get_or text i 0) ≡ true
    → (size < 100_000_000_000_000_000 → next ≡ size * 10 + (get_or text i 0 - 48)) → NumberTo text i size → NumberTo text (i + 1) next
digit_more text i size next here digit sum n =
    let b = get_or text i 0 in
    let small = digit_small b digit in
    record {
      digits = all_step text i here digit n.digits;
      value = λ few.
          let low : i ≤ 18 = omega (arith, few) in
          let below = below_power i size (omega (arith, few)) (n.below low) in
          let is = sum below in
          digits_step text i 1_000_000_000_000_000_000 size next here digit (n.value low) (omega (arith, is, below, small));
      below = λ few.
          let low : i ≤ 18 = omega (arith, few) in
          let below = below_power i size (omega (arith, few)) (n.below low) in
          rw (sum below) (next_power i size (b - 48) (n.below low) small);
    }

pub none_yet : (text : List ℕ) → NumberTo text 0 0
none_yet text = record { digits = refl; value = λ few. refl; below = λ few. omega arith }

pub digit_from : (b d : ℕ) → b < 256 → d ≡ (b + 18_446_744_073_709_551_568) % 18_446_744_073_709_551_616 → d ≤ 9 → (is_ascii_digit b ≡ true) × (d ≡ b - 48)
digit_from b d byte is small =
    let low : 48 ≤ b = omega (arith, byte, is, small) in
    let high : b ≤ 57 = omega (arith, byte, is, small) in
    (rw (le-leb 48 b low, le-leb b 57 high) refl, omega (arith, low, high, is))
