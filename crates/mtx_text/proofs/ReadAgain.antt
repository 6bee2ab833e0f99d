-- What was written of a matrix is read as the same matrix.
use Rattle.std.proofs.Common.{ℕ, suc, ◌^◌, ◌<◌, ◌≤◌, ◌≡◌, ℤ, pos, negsuc, nat_abs, Bool, true, false, not, ◌&&◌, cond, eqb, List, [], ◌∷◌, ◌++◌, Some, None, map, length, decimal, nat_lt, nat_le, arith, refl, ap, ◌∙◌}
use Rattle.std.specs.Int.{IsInRange}
use Rattle.std.specs.Char.{is_ascii_digit, digit_value}
use Rattle.std.specs.Fmt.{signed_decimal}
use Rattle.std.specs.List.{filter, slice_split, onto_first, list_all}
use Rattle.std.specs.Str.Parse.{AllDigits, IsNumeral, digits_value}
use Rattle.std.proofs.lemmas.Bool.{leb-true, or_from, and_parts, and_from, ne_eqb, not-true, lt-ltb, le-leb}
use Rattle.std.proofs.lemmas.Fmt.{decimal_is_IsNumeral}
use Rattle.std.proofs.lemmas.List.{append_assoc}
use Rattle.std.proofs.lemmas.List.Folds.{list_all-append}
use Rattle.std.proofs.lemmas.Str.Parse.{digit_at}
use Rattle.mtx_text.specs.Lines.{pieces, without_cr, lines_of, is_blank, words_of}
use Rattle.mtx_text.specs.declared.integer.Integer.{Integer}
use Rattle.std.specs.Option.{option_map}
use Rattle.mtx_text.specs.Integers.{digits_of, integer_of, with_sign, value_of}

-- ---- Lines

abbrev pub is_inner : ℕ → Bool
is_inner b = not (eqb b 10) && not (eqb b 13)

pieces_here : (l rest : List ℕ) → list_all is_inner l ≡ true → pieces (l ++ (10 ∷ rest)) ≡ l ∷ pieces rest
pieces_here [] rest h = refl
pieces_here (b ∷ l) rest h =
    let p : (is_inner b ≡ true) × (list_all is_inner l ≡ true) = and_parts (is_inner b) (list_all is_inner l) h in
    let q : (not (eqb b 10) ≡ true) × (not (eqb b 13) ≡ true) = and_parts (not (eqb b 10)) (not (eqb b 13)) p.0 in
    ap (λ t. cond t ([] ∷ pieces (l ++ (10 ∷ rest))) (onto_first b (pieces (l ++ (10 ∷ rest))))) (not-true (eqb b 10) q.0)
    ∙ ap (onto_first b) (pieces_here l rest p.1)

no_cr : (l : List ℕ) → list_all is_inner l ≡ true → without_cr l ≡ l
no_cr [] h = refl
no_cr (b ∷ []) h =
    let p : (is_inner b ≡ true) × (list_all is_inner [] ≡ true) = and_parts (is_inner b) true h in
    let q : (not (eqb b 10) ≡ true) × (not (eqb b 13) ≡ true) = and_parts (not (eqb b 10)) (not (eqb b 13)) p.0 in
    ap (λ t. cond t [] (b ∷ [])) (not-true (eqb b 13) q.1)
no_cr (b ∷ c ∷ l) h = ap (λ l. b ∷ l) (no_cr (c ∷ l) ((and_parts (is_inner b) (list_all is_inner (c ∷ l)) h).1))

pub line_here : (l rest : List ℕ) → list_all is_inner l ≡ true → lines_of (l ++ (10 ∷ rest)) ≡ l ∷ lines_of rest
line_here l rest h = ap (map without_cr) (pieces_here l rest h) ∙ ap (λ x. x ∷ lines_of rest) (no_cr l h)

-- ---- Words

abbrev is_solid : ℕ → Bool
is_solid b = not (is_blank b)

split_word : (w rest : List ℕ) → list_all is_solid w ≡ true → slice_split is_blank (w ++ (32 ∷ rest)) ≡ w ∷ slice_split is_blank rest
split_word [] rest h = refl
split_word (b ∷ w) rest h =
    let p : (is_solid b ≡ true) × (list_all is_solid w ≡ true) = and_parts (is_solid b) (list_all is_solid w) h in
    ap (λ t. cond t ([] ∷ slice_split is_blank (w ++ (32 ∷ rest))) (onto_first b (slice_split is_blank (w ++ (32 ∷ rest))))) (not-true (is_blank b) p.0)
    ∙ ap (onto_first b) (split_word w rest p.1)

split_last : (w : List ℕ) → list_all is_solid w ≡ true → slice_split is_blank w ≡ w ∷ []
split_last [] h = refl
split_last (b ∷ w) h =
    let p : (is_solid b ≡ true) × (list_all is_solid w ≡ true) = and_parts (is_solid b) (list_all is_solid w) h in
    ap (λ t. cond t ([] ∷ slice_split is_blank w) (onto_first b (slice_split is_blank w))) (not-true (is_blank b) p.0)
    ∙ ap (onto_first b) (split_last w p.1)

kept_word : (w : List ℕ) (words : List (List ℕ)) → 0 < length w → filter (λ word. nat_lt 0 (length word)) (w ∷ words) ≡ w ∷ filter (λ word. nat_lt 0 (length word)) words
kept_word w words h = ap (λ t. cond t (w ∷ filter (λ word. nat_lt 0 (length word)) words) (filter (λ word. nat_lt 0 (length word)) words)) (lt-ltb 0 (length w) h)

pub word_first : (w rest : List ℕ) → list_all is_solid w ≡ true → 0 < length w → words_of (w ++ (32 ∷ rest)) ≡ w ∷ words_of rest
word_first w rest h some = ap (filter (λ word. nat_lt 0 (length word))) (split_word w rest h) ∙ kept_word w (slice_split is_blank rest) some

pub word_last : (w : List ℕ) → list_all is_solid w ≡ true → 0 < length w → words_of w ≡ w ∷ []
word_last w h some = ap (filter (λ word. nat_lt 0 (length word))) (split_last w h) ∙ kept_word w [] some

-- ---- Numbers

digit_is_digit : (b : ℕ) → digit_value b < 10 → is_ascii_digit b ≡ true
digit_is_digit b h =
    let r : IsInRange 48 57 b = digit_at (b ∷ []) 0 (h, tt) (omega arith) in
    and_from (nat_le 48 b) (nat_le b 57) (le-leb 48 b (omega (arith, r))) (le-leb b 57 (omega (arith, r)))

all_digits : (ds : List ℕ) → AllDigits 10 ds → list_all is_ascii_digit ds ≡ true
all_digits [] h = refl
all_digits (b ∷ ds) h = and_from (is_ascii_digit b) (list_all is_ascii_digit ds) (digit_is_digit b h.0) (all_digits ds h.1)

-- a word that can stand in a line
pub record IsWord (w : List ℕ) : Type 0 where
  pub solid : list_all is_solid w ≡ true
  pub inner : list_all is_inner w ≡ true
  pub some : 0 < length w

digit_solid : (b : ℕ) → is_ascii_digit b ≡ true → is_solid b ≡ true
digit_solid b h =
    let p : (nat_le 48 b ≡ true) × (nat_le b 57 ≡ true) = and_parts (nat_le 48 b) (nat_le b 57) h in
    let low : 48 ≤ b = leb-true 48 b p.0 in
    ap not (or_from (eqb b 32) (eqb b 9) (ne_eqb b 32 (λ e. omega arith)) (ne_eqb b 9 (λ e. omega arith)))

digit_inner : (b : ℕ) → is_ascii_digit b ≡ true → is_inner b ≡ true
digit_inner b h =
    let p : (nat_le 48 b ≡ true) × (nat_le b 57 ≡ true) = and_parts (nat_le 48 b) (nat_le b 57) h in
    let low : 48 ≤ b = leb-true 48 b p.0 in
    and_from (not (eqb b 10)) (not (eqb b 13)) (ap not (ne_eqb b 10 (λ e. omega arith))) (ap not (ne_eqb b 13 (λ e. omega arith)))

all_weaker : (p q : ℕ → Bool) → ((b : ℕ) → p b ≡ true → q b ≡ true) → (l : List ℕ) → list_all p l ≡ true → list_all q l ≡ true
all_weaker p q f [] h = refl
all_weaker p q f (b ∷ l) h =
    let s : (p b ≡ true) × (list_all p l ≡ true) = and_parts (p b) (list_all p l) h in
    and_from (q b) (list_all q l) (f b s.0) (all_weaker p q f l s.1)

numeral_word : (ds : List ℕ) → IsNumeral 10 ds → IsWord ds
numeral_word ds h =
    let d : list_all is_ascii_digit ds ≡ true = all_digits ds h.1 in
    record { solid = all_weaker is_ascii_digit is_solid digit_solid ds d; inner = all_weaker is_ascii_digit is_inner digit_inner ds d; some = h.0 }

pub decimal_word : (n : ℕ) → n < 2 ^ 64 → IsWord (decimal n)
decimal_word n h = numeral_word (decimal n) (decimal_is_IsNumeral n h).0

pub signed_word : (z : ℤ) → nat_abs z < 2 ^ 63 → IsWord (signed_decimal z)
signed_word (pos n) h = decimal_word n (omega arith)
signed_word (negsuc n) h =
    let w : IsWord (decimal (suc n)) = decimal_word (suc n) (omega arith) in
    record { solid = w.solid; inner = w.inner; some = omega arith }

digits_read : (ds : List ℕ) → IsNumeral 10 ds → digits_of ds ≡ Some (digits_value 10 ds)
digits_read [] h = absurd (let l : 0 < 0 = h.0 in omega arith)
digits_read (b ∷ ds) h = ap (λ t. cond t (Some (digits_value 10 (b ∷ ds))) None) (all_digits (b ∷ ds) h.1)

numeral_read : (ds : List ℕ) → IsNumeral 10 ds → integer_of ds ≡ Some (with_sign false (digits_value 10 ds))
numeral_read [] h = absurd (let l : 0 < 0 = h.0 in omega arith)
numeral_read (b ∷ ds) h =
    let r : IsInRange 48 57 b = digit_at (b ∷ ds) 0 h.1 (omega arith) in
    ap (λ t. cond t (option_map (with_sign false) (digits_of ds)) (cond (eqb b 45) (option_map (with_sign true) (digits_of ds)) (option_map (with_sign false) (digits_of (b ∷ ds))))) (ne_eqb b 43 (λ e. omega (arith, r)))
    ∙ ap (λ t. cond t (option_map (with_sign true) (digits_of ds)) (option_map (with_sign false) (digits_of (b ∷ ds)))) (ne_eqb b 45 (λ e. omega (arith, r)))
    ∙ ap (option_map (with_sign false)) (digits_read (b ∷ ds) h)

pub decimal_read : (n : ℕ) → n < 2 ^ 64 → integer_of (decimal n) ≡ Some (with_sign false n)
decimal_read n h = numeral_read (decimal n) (decimal_is_IsNumeral n h).0 ∙ ap (λ k. Some (with_sign false k)) (decimal_is_IsNumeral n h).1

-- the integer that a signed number is read as
abbrev pub read_as : ℤ → Integer
read_as (pos n) = with_sign false n
read_as (negsuc n) = with_sign true (suc n)

pub signed_read : (z : ℤ) → nat_abs z < 2 ^ 63 → integer_of (signed_decimal z) ≡ Some (read_as z)
signed_read (pos n) h = decimal_read n (omega arith)
signed_read (negsuc n) h =
    ap (option_map (with_sign true)) (digits_read (decimal (suc n)) (decimal_is_IsNumeral (suc n) (omega arith)).0 ∙ ap Some (decimal_is_IsNumeral (suc n) (omega arith)).1)

pub value_is : (z : ℤ) → value_of (read_as z) ≡ z
value_is (pos n) = refl
value_is (negsuc n) = refl

pub size_is : (z : ℤ) → (read_as z).size ≡ nat_abs z
size_is (pos n) = refl
size_is (negsuc n) = refl

-- ---- Lines of words

-- words with blanks between them, as a line
pub two_words : (v w : List ℕ) → IsWord v → IsWord w → words_of (v ++ 32 ∷ [] ++ w) ≡ v ∷ w ∷ []
two_words v w a b =
    ap words_of (append_assoc v (32 ∷ []) w) ∙ word_first v w a.solid a.some ∙ ap (λ ws. v ∷ ws) (word_last w b.solid b.some)

pub three_words : (u v w : List ℕ) → IsWord u → IsWord v → IsWord w → words_of (u ++ 32 ∷ [] ++ v ++ 32 ∷ [] ++ w) ≡ u ∷ v ∷ w ∷ []
three_words u v w a b c =
    ap words_of (ap (λ l. l ++ w) (ap (λ l. l ++ 32 ∷ []) (append_assoc u (32 ∷ []) v) ∙ append_assoc u (32 ∷ v) (32 ∷ [])) ∙ append_assoc u (32 ∷ v ++ 32 ∷ []) w)
    ∙ word_first u (v ++ 32 ∷ [] ++ w) a.solid a.some ∙ ap (λ ws. u ∷ ws) (two_words v w b c)

pub inner_two : (v w : List ℕ) → IsWord v → IsWord w → list_all is_inner (v ++ 32 ∷ [] ++ w) ≡ true
inner_two v w a b =
    list_all-append is_inner (v ++ 32 ∷ []) w
    ∙ and_from _ _ (list_all-append is_inner v (32 ∷ []) ∙ and_from _ _ a.inner refl) b.inner

pub inner_three : (u v w : List ℕ) → IsWord u → IsWord v → IsWord w → list_all is_inner (u ++ 32 ∷ [] ++ v ++ 32 ∷ [] ++ w) ≡ true
inner_three u v w a b c =
    list_all-append is_inner (u ++ 32 ∷ [] ++ v ++ 32 ∷ []) w
    ∙ and_from _ _ (list_all-append is_inner (u ++ 32 ∷ [] ++ v) (32 ∷ []) ∙ and_from _ _ (inner_two u v a b) refl) c.inner
