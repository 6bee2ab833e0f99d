-- Bytes that were put into words come out again.
use Rattle.std.proofs.Common.{ℕ, zero, suc, ◌+◌, ◌*◌, ◌%◌, ◌<◌, ◌≤◌, ◌≡◌, List, [], ◌∷◌, ◌++◌, length, take, drop, All, arith, refl, sym, ap, ◌∙◌}
use Rattle.std.specs.Int.{w64, to_le_bytes}
use Rattle.std.specs.List.{flat_map}
use Rattle.std.proofs.lemmas.List.{drop-drop}
use Rattle.std.proofs.lemmas.List.Elements.{All-drop}
use Rattle.std.proofs.lemmas.Nat.{le_bytes_8}
use Rattle.elastic.specs.Spelling.{IsLetter, pad, packed_word, further, letter_head, next_item, next_items, bytes_in, letter_from}
use Rattle.elastic.specs.laws.MailLaws.{pad_len, padded_byte}

abbrev no_bytes : List ℕ
no_bytes = []

drop_none : (j : ℕ) → no_bytes ≡ drop j no_bytes
drop_none zero = refl
drop_none (suc j) = refl

drop_twice : (m n : ℕ) (bytes : List ℕ) → drop n (drop m bytes) ≡ drop (m + n) bytes
drop_twice m n bytes = drop-drop n m bytes

-- a padded list in two parts
pub pad_parts : (j m k : ℕ) (bytes : List ℕ) → k ≡ j + m → pad k bytes ≡ pad j bytes ++ pad m (drop j bytes)
pad_parts zero m k bytes e = ap (λ n. pad n bytes) (let f : k ≡ m = omega arith in f)
pad_parts (suc j) m zero bytes e = absurd (omega arith)
pad_parts (suc j) m (suc k) [] e = ap (λ l. 0 ∷ l) (pad_parts j m k [] (omega arith) ∙ ap (λ l. pad j [] ++ pad m l) (sym (drop_none j)))
pad_parts (suc j) m (suc k) (b ∷ bs) e = ap (λ l. b ∷ l) (pad_parts j m k bs (omega arith))

-- a list is a prefix of the padded one
pub take_pad : (bytes : List ℕ) (k : ℕ) → length bytes ≤ k → take (length bytes) (pad k bytes) ≡ bytes
take_pad [] k l = refl
take_pad (b ∷ bs) zero l = absurd (omega arith)
take_pad (b ∷ bs) (suc k) l = ap (λ m. b ∷ m) (take_pad bs k (omega arith))

-- the bytes of a word
pub word_back : (bytes : List ℕ) → All (λ b. b < 256) bytes → to_le_bytes w64 (packed_word bytes) ≡ pad 8 bytes
word_back bytes a = le_bytes_8 (pad 8 bytes) (packed_word bytes) (pad_len 8 bytes) (λ i. padded_byte 8 bytes i a) refl

-- the bytes of the items behind a first one
pub item_back : (bytes : List ℕ) → All (λ b. b < 256) bytes → bytes_in (next_item bytes) ≡ pad 24 bytes
item_back bytes a =
    ap (λ l. l ++ (to_le_bytes w64 (packed_word (drop 8 bytes)) ++ to_le_bytes w64 (packed_word (drop 16 bytes)))) (word_back bytes a)
    ∙ (ap (λ l. pad 8 bytes ++ (l ++ to_le_bytes w64 (packed_word (drop 16 bytes)))) (word_back (drop 8 bytes) (All-drop (λ b. b < 256) 8 bytes a))
    ∙ (ap (λ l. pad 8 bytes ++ (pad 8 (drop 8 bytes) ++ l)) (word_back (drop 16 bytes) (All-drop (λ b. b < 256) 16 bytes a))
    ∙ sym (pad_parts 8 16 24 bytes refl ∙ ap (λ l. pad 8 bytes ++ l) (pad_parts 8 8 16 (drop 8 bytes) refl ∙ ap (λ l. pad 8 (drop 8 bytes) ++ pad 8 l) (drop_twice 8 8 bytes)))))

pub items_back : (k : ℕ) (bytes : List ℕ) → All (λ b. b < 256) bytes → flat_map bytes_in (next_items k bytes) ≡ pad (24 * k) bytes
items_back zero bytes a = refl
items_back (suc k) bytes a =
    ap (λ l. l ++ flat_map bytes_in (next_items k (drop 24 bytes))) (item_back bytes a)
    ∙ (ap (λ l. pad 24 bytes ++ l) (items_back k (drop 24 bytes) (All-drop (λ b. b < 256) 24 bytes a))
    ∙ sym (pad_parts 24 (24 * k) (24 * suc k) bytes (omega arith)))

-- a letter is read as it was spelled
pub letter_back : (l : List ℕ) → IsLetter l → letter_from (letter_head l) (next_items (further (length l)) (drop 16 l)) ≡ l
letter_back l is =
    let short : length l ≤ 65_535 = is.short in
    let k : ℕ = further (length l) in
    let len : length l % 65_536 ≡ length l = omega arith in
    let room : length l ≤ 16 + 24 * k = omega arith in
    let bytes : to_le_bytes w64 (packed_word l) ++ (to_le_bytes w64 (packed_word (drop 8 l)) ++ flat_map bytes_in (next_items k (drop 16 l))) ≡ pad (16 + 24 * k) l =
    ap (λ w. w ++ (to_le_bytes w64 (packed_word (drop 8 l)) ++ flat_map bytes_in (next_items k (drop 16 l)))) (word_back l is.bytes)
    ∙ (ap (λ w. pad 8 l ++ (w ++ flat_map bytes_in (next_items k (drop 16 l)))) (word_back (drop 8 l) (All-drop (λ b. b < 256) 8 l is.bytes))
    ∙ (ap (λ w. pad 8 l ++ (pad 8 (drop 8 l) ++ w)) (items_back k (drop 16 l) (All-drop (λ b. b < 256) 16 l is.bytes))
    ∙ sym (pad_parts 8 (8 + 24 * k) (16 + 24 * k) l (omega arith) ∙ ap (λ w. pad 8 l ++ w) (pad_parts 8 (24 * k) (8 + 24 * k) (drop 8 l) refl ∙ ap (λ w. pad 8 (drop 8 l) ++ pad (24 * k) w) (drop_twice 8 8 l))))) in
    ap (λ n. take n (to_le_bytes w64 (packed_word l) ++ (to_le_bytes w64 (packed_word (drop 8 l)) ++ flat_map bytes_in (next_items k (drop 16 l))))) len
    ∙ (ap (take (length l)) bytes ∙ take_pad l (16 + 24 * k) room)
