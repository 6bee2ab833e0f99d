-- How a letter is spelled in items, and which letters a list of items spells.
use Rattle.std.specs.Prelude.{ℕ, zero, suc, ◌+◌, ◌-◌, ◌/◌, ◌%◌, ◌≤◌, ◌<◌, List, [], ◌∷◌, ◌++◌, length, take, drop}
use Rattle.std.specs.Prelude.{if◌then◌else◌}
use Rattle.std.specs.Prelude.{nat_lt}
use Rattle.std.specs.Int.{w64, to_le_bytes, from_le_bytes}
use Rattle.std.specs.List.{All, flat_map}
use Rattle.bale_items.specs.declared.Item.{Item}

-- A letter is a string of at most 65,535 bytes.
pub record IsLetter (l : List ℕ) : Type 0 where
  pub short : length l ≤ 65_535
  pub bytes : All (λ b. b < 256) l

-- The first k bytes of a list, and 0 if there is none.
-- pad 4 (7, 8) = 7, 8, 0, 0; pad 2 (7, 8, 9) = 7, 8
abbrev pub pad : ℕ → List ℕ → List ℕ
pad zero bytes = []
pad (suc k) [] = 0 ∷ pad k []
pad (suc k) (b ∷ bs) = b ∷ pad k bs

-- The word that holds the first eight bytes of a list, from the lowest eight bits up; what isn't
-- used is 0.
-- "q" is 113, "ba" is 0x6162
abbrev pub packed_word : List ℕ → ℕ
packed_word bytes = from_le_bytes w64 (pad 8 bytes)

-- How many items spell what a first item doesn't hold of n bytes: one for each further 24 bytes
-- begun.
-- further 16 = 0, further 17 = 1, further 65_535 = 2,730
abbrev pub further : ℕ → ℕ
further n = (n - 16 + 23) / 24

-- The item that begins a letter: its length and its first 16 bytes.
-- "abcdefghijklmnopq" begins with (17, 0x6867666564636261, 0x706f6e6d6c6b6a69)
abbrev pub letter_head : List ℕ → Item
letter_head l = record { a = length l; b = packed_word l; c = packed_word (drop 8 l) }

-- The items behind it: 24 bytes each.
-- of "abcdefghijklmnopq" it is "q" that is left: (113, 0, 0)
abbrev pub next_item : List ℕ → Item
next_item bytes = record { a = packed_word bytes; b = packed_word (drop 8 bytes); c = packed_word (drop 16 bytes) }

abbrev pub next_items : ℕ → List ℕ → List Item
next_items zero bytes = []
next_items (suc k) bytes = next_item bytes ∷ next_items k (drop 24 bytes)

-- The spelling of a letter.
abbrev pub spelling : List ℕ → List Item
spelling l = letter_head l ∷ next_items (further (length l)) (drop 16 l)

-- The length of the letter that an item begins.
abbrev pub length_in : Item → ℕ
length_in x = x.a % 65_536

-- The bytes of a further item.
abbrev pub bytes_in : Item → List ℕ
bytes_in x = to_le_bytes w64 x.a ++ (to_le_bytes w64 x.b ++ to_le_bytes w64 x.c)

-- The letter that an item begins and further items go on with.
abbrev pub letter_from : Item → List Item → List ℕ
letter_from x xs = take (length_in x) (to_le_bytes w64 x.b ++ (to_le_bytes w64 x.c ++ flat_map bytes_in xs))

-- The first letters of a list of items, at most so many: each takes as many items as its length
-- tells.
abbrev pub letters_within : ℕ → List Item → List (List ℕ)
letters_within zero items = []
letters_within (suc n) [] = []
letters_within (suc n) (x ∷ xs) =
    if nat_lt (length xs) (further (length_in x)) then []
    else letter_from x (take (further (length_in x)) xs) ∷ letters_within n (drop (further (length_in x)) xs)

-- The letters of a list of items: it is cut from the front, and a last letter that isn't whole is
-- none.
-- letters_of (spelling l ++ spelling m) = l, m
abbrev pub letters_of : List Item → List (List ℕ)
letters_of items = letters_within (length items) items
