-- Reading letters item by item, as a mailer does, is cutting the whole list.
use Rattle.std.proofs.Common.{ℕ, zero, suc, ◌+◌, ◌-◌, ◌<◌, ◌≤◌, ◌≡◌, Bool, true, false, cond, nat_lt, List, [], ◌∷◌, ◌++◌, length, take, drop, All, arith, refl, sym, ap, ◌∙◌, inl, inr}
use Rattle.std.specs.List.{flat_map}
use Rattle.std.proofs.lemmas.Bool.{cases_lt, eq-eqb, ne_eqb}
use Rattle.std.proofs.lemmas.Bool.Decides.{nat_tests}
use Rattle.std.proofs.lemmas.List.{append_assoc, length-drop, length-append, take_at, drop_at}
use Rattle.bale_items.specs.declared.Item.{Item}
use Rattle.list_laws.proofs.Lists.{all_head, all_tail}
use Rattle.elastic.specs.Spelling.{IsLetter, further, letter_head, next_items, spelling, length_in, letter_from, letters_within, letters_of}
use Rattle.elastic.specs.Mails.{is_whole, letter_of}
use Rattle.elastic.specs.code.Begun.{begun_items}
use Rattle.elastic.specs.Theorem.{SpellingsAreRead, FrontsAreRead}
use Rattle.elastic.proofs.Pads.{letter_back}

-- the letters that items make whole, after those of a letter begun
abbrev pub read_on : List Item → List Item → List (List ℕ)
read_on begun [] = []
read_on begun (x ∷ xs) =
    cond (is_whole (begun ++ x ∷ [])) (letter_of (begun ++ x ∷ []) ∷ read_on (cond (is_whole (begun ++ x ∷ [])) [] (begun ++ x ∷ [])) xs)
    (read_on (cond (is_whole (begun ++ x ∷ [])) [] (begun ++ x ∷ [])) xs)

-- a step where the letter is whole, and where it isn't
step_whole : (begun : List Item) (x : Item) (xs : List Item) → is_whole (begun ++ x ∷ []) ≡ true → read_on begun (x ∷ xs) ≡ letter_of (begun ++ x ∷ []) ∷ read_on [] xs
step_whole begun x xs e =
    ap (λ b. cond b (letter_of (begun ++ x ∷ []) ∷ read_on (cond b [] (begun ++ x ∷ [])) xs) (read_on (cond b [] (begun ++ x ∷ [])) xs)) e

step_part : (begun : List Item) (x : Item) (xs : List Item) → is_whole (begun ++ x ∷ []) ≡ false → read_on begun (x ∷ xs) ≡ read_on (begun ++ x ∷ []) xs
step_part begun x xs e =
    ap (λ b. cond b (letter_of (begun ++ x ∷ []) ∷ read_on (cond b [] (begun ++ x ∷ [])) xs) (read_on (cond b [] (begun ++ x ∷ [])) xs)) e

len_more : (ys : List Item) (x : Item) → length (ys ++ x ∷ []) ≡ length ys + 1
len_more ys x = length-append ys (x ∷ [])

short_test : (m n : ℕ) → m < n → nat_lt m n ≡ true
short_test m n l = grind (arith, nat_tests)

long_test : (m n : ℕ) → n ≤ m → nat_lt m n ≡ false
long_test m n l = grind (arith, nat_tests)

zero_and : (k : ℕ) → k ≡ 0 + k
zero_and k = omega arith

same_test : (m n : ℕ) → nat_lt m n ≡ nat_lt (suc m) (suc n)
same_test m n =
    elim (cases_lt m n) [
      | inl l ↦ short_test m n l ∙ sym (short_test (suc m) (suc n) (omega arith))
      | inr l ↦ long_test m n l ∙ sym (long_test (suc m) (suc n) (omega arith))
    ]

-- what follows where an item y and ys were begun and k items are missing
read_begun : (y : Item) (ys xs : List Item) (k : ℕ) → further (length_in y) ≡ length ys + suc k
    → read_on (y ∷ ys) xs ≡ cond (nat_lt (length xs) (suc k)) [] (letter_from y (ys ++ take (suc k) xs) ∷ read_on [] (drop (suc k) xs))
read_begun y ys [] k e = ap (λ b. cond b [] (letter_from y (ys ++ take (suc k) []) ∷ read_on [] (drop (suc k) []))) (sym (short_test 0 (suc k) (omega arith)))
read_begun y ys (x ∷ xs) zero e =
    let whole : is_whole ((y ∷ ys) ++ x ∷ []) ≡ true = eq-eqb (length (ys ++ x ∷ [])) (further (length_in y)) (len_more ys x ∙ sym e) in
    step_whole (y ∷ ys) x xs whole
    ∙ ap (λ b. cond b [] (letter_from y (ys ++ x ∷ []) ∷ read_on [] xs)) (sym (long_test (length (x ∷ xs)) 1 (omega arith)))
read_begun y ys (x ∷ xs) (suc k) e =
    let more : length (ys ++ x ∷ []) ≡ length ys + 1 = len_more ys x in
    let part : is_whole ((y ∷ ys) ++ x ∷ []) ≡ false = ne_eqb (length (ys ++ x ∷ [])) (further (length_in y)) (λ q. absurd (omega arith)) in
    let rest : read_on (y ∷ (ys ++ x ∷ [])) xs ≡ cond (nat_lt (length xs) (suc k)) [] (letter_from y ((ys ++ x ∷ []) ++ take (suc k) xs) ∷ read_on [] (drop (suc k) xs)) =
    read_begun y (ys ++ x ∷ []) xs k (omega arith) in
    step_part (y ∷ ys) x xs part ∙ rest
    ∙ ap (λ l. cond (nat_lt (length xs) (suc k)) [] (letter_from y l ∷ read_on [] (drop (suc k) xs))) (append_assoc ys (x ∷ []) (take (suc k) xs))
    ∙ ap (λ b. cond b [] (letter_from y (ys ++ x ∷ take (suc k) xs) ∷ read_on [] (drop (suc k) xs))) (same_test (length xs) (suc k))

read_first : (n : ℕ) (x : Item) (xs : List Item) (k : ℕ) → further (length_in x) ≡ k → ((items : List Item) → length items ≤ n → read_on [] items ≡ letters_within n items) → length xs ≤ n
    → read_on [] (x ∷ xs) ≡ cond (nat_lt (length xs) (further (length_in x))) [] (letter_from x (take (further (length_in x)) xs) ∷ letters_within n (drop (further (length_in x)) xs))
read_first n x xs zero e ih l =
    step_whole [] x xs (eq-eqb 0 (further (length_in x)) (sym e)) ∙ ap (λ m. letter_from x [] ∷ m) (ih xs l)
    ∙ ap (λ b. cond b [] (letter_from x [] ∷ letters_within n xs)) (sym (long_test (length xs) 0 (omega arith)))
    ∙ ap (λ j. cond (nat_lt (length xs) j) [] (letter_from x (take j xs) ∷ letters_within n (drop j xs))) (sym e)
read_first n x xs (suc k) e ih l =
    let short : length (drop (suc k) xs) ≤ n = let d : length (drop (suc k) xs) ≡ length xs - suc k = length-drop (suc k) xs in omega arith in
    step_part [] x xs (ne_eqb 0 (further (length_in x)) (λ q. absurd (omega arith)))
    ∙ read_begun x [] xs k (e ∙ zero_and (suc k))
    ∙ ap (λ m. cond (nat_lt (length xs) (suc k)) [] (letter_from x (take (suc k) xs) ∷ m)) (ih (drop (suc k) xs) short)
    ∙ ap (λ j. cond (nat_lt (length xs) j) [] (letter_from x (take j xs) ∷ letters_within n (drop j xs))) (sym e)

-- item by item is by whole letters
read_within : (n : ℕ) (items : List Item) → length items ≤ n → read_on [] items ≡ letters_within n items
read_within zero [] l = refl
read_within zero (x ∷ xs) l = absurd (omega arith)
read_within (suc n) [] l = refl
read_within (suc n) (x ∷ xs) l = read_first n x xs (further (length_in x)) refl (λ items low. read_within n items low) (omega arith)

pub read_all : (items : List Item) → read_on [] items ≡ letters_of items
read_all items = read_within (length items) items (omega arith)

read_part : (b : Bool) (l : List ℕ) (all some rest : List (List ℕ)) → all ≡ some ++ rest → cond b (l ∷ all) all ≡ cond b (l ∷ some) some ++ rest
read_part true l all some rest e = ap (λ m. l ∷ m) e
read_part false l all some rest e = e

-- reading goes on where it stopped
pub read_parts : (begun xs zs : List Item) → read_on begun (xs ++ zs) ≡ read_on begun xs ++ read_on (begun_items begun xs) zs
read_parts begun [] zs = refl
read_parts begun (x ∷ xs) zs =
    read_part (is_whole (begun ++ x ∷ [])) (letter_of (begun ++ x ∷ [])) _ _ _ (read_parts (cond (is_whole (begun ++ x ∷ [])) [] (begun ++ x ∷ [])) xs zs)

-- one more item, and what is begun then
pub left_more : (begun xs : List Item) (x : Item)
    → begun_items begun (xs ++ x ∷ []) ≡ cond (is_whole (begun_items begun xs ++ x ∷ [])) [] (begun_items begun xs ++ x ∷ [])
left_more begun [] x = refl
left_more begun (y ∷ xs) x = left_more (cond (is_whole (begun ++ y ∷ [])) [] (begun ++ y ∷ [])) xs x

pub letters_more : (xs : List Item) (x : Item)
    → letters_of (xs ++ x ∷ []) ≡ letters_of xs ++ cond (is_whole (begun_items [] xs ++ x ∷ [])) (letter_of (begun_items [] xs ++ x ∷ []) ∷ []) []
letters_more xs x =
    sym (read_all (xs ++ x ∷ [])) ∙ read_parts [] xs (x ∷ [])
    ∙ ap (λ m. m ++ read_on (begun_items [] xs) (x ∷ [])) (read_all xs)

-- ---- A spelling is read as its letter

next_len : (k : ℕ) (bytes : List ℕ) → length (next_items k bytes) ≡ k
next_len zero bytes = refl
next_len (suc k) bytes = ap suc (next_len k (drop 24 bytes))

read_spelled : (l : List ℕ) (items : List Item) (k : ℕ) → further (length_in (letter_head l)) ≡ k → (rest : List Item) → length rest ≡ k → letter_from (letter_head l) rest ≡ l
    → read_on [] (letter_head l ∷ (rest ++ items)) ≡ l ∷ read_on [] items
read_spelled l items zero e [] len is = step_whole [] (letter_head l) items (eq-eqb 0 (further (length_in (letter_head l))) (sym e)) ∙ ap (λ m. m ∷ read_on [] items) is
read_spelled l items zero e (x ∷ rest) len is = absurd (omega arith)
read_spelled l items (suc k) e rest len is =
    let long : suc k ≤ length (rest ++ items) = let a : length (rest ++ items) ≡ length rest + length items = length-append rest items in omega arith in
    step_part [] (letter_head l) (rest ++ items) (ne_eqb 0 (further (length_in (letter_head l))) (λ q. absurd (omega arith)))
    ∙ read_begun (letter_head l) [] (rest ++ items) k (e ∙ zero_and (suc k))
    ∙ ap (λ b. cond b [] (letter_from (letter_head l) (take (suc k) (rest ++ items)) ∷ read_on [] (drop (suc k) (rest ++ items)))) (long_test (length (rest ++ items)) (suc k) long)
    ∙ ap (λ m. letter_from (letter_head l) m ∷ read_on [] (drop (suc k) (rest ++ items))) (take_at rest items (suc k) len)
    ∙ ap (λ m. letter_from (letter_head l) rest ∷ read_on [] m) (drop_at rest items (suc k) len)
    ∙ ap (λ m. m ∷ read_on [] items) is

read_spelling : (l : List ℕ) (items : List Item) → IsLetter l → read_on [] (spelling l ++ items) ≡ l ∷ read_on [] items
read_spelling l items is =
    let short : length l ≤ 65_535 = is.short in
    let rest : List Item = next_items (further (length l)) (drop 16 l) in
    let count : further (length_in (letter_head l)) ≡ further (length l) = ap further (let m : length_in (letter_head l) ≡ length l = omega arith in m) in
    read_spelled l items (further (length l)) count rest (next_len (further (length l)) (drop 16 l)) (letter_back l is)

pub read_spellings : (ls : List (List ℕ)) → All IsLetter ls → read_on [] (flat_map spelling ls) ≡ ls
read_spellings [] a = refl
read_spellings (l ∷ ls) a =
    read_spelling l (flat_map spelling ls) (all_head IsLetter l ls a) ∙ ap (λ m. l ∷ m) (read_spellings ls (all_tail IsLetter l ls a))

pub spellings_are_read : SpellingsAreRead
spellings_are_read ls a = sym (read_all (flat_map spelling ls)) ∙ read_spellings ls a

pub fronts_are_read : FrontsAreRead
fronts_are_read front whole b =
    record {
      rest = read_on (begun_items [] front) b.rest;
      is =
          sym (read_all whole) ∙ ap (read_on []) b.is ∙ read_parts [] front b.rest
          ∙ ap (λ m. m ++ read_on (begun_items [] front) b.rest) (read_all front);
    }
