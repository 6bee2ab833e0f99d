-- Who sends and who reads on each link of a bank of some ranks, through how many slots, and which
-- bit of which doorbell is rung for it.
use Rattle.std.specs.Prelude.{◌≡◌, ℕ, ◌+◌, ◌*◌, ◌%◌, ◌<◌, ◌≤◌}

pub record Wiring : Type 0 where
  pub slots : ℕ
  pub ranks : ℕ
  pub links : ℕ
  pub bells : ℕ
  pub from : ℕ → ℕ
  pub to : ℕ → ℕ
  pub bell : ℕ → ℕ
  pub bit : ℕ → ℕ
  pub width : ℕ → ℕ

-- The bank's words stand 16 apart in the table, word number n at 16 * n, so that no two of them
-- share a cache line, nor a pair of lines.
abbrev pub word_at : ℕ → ℕ
word_at n = 16 * n

-- The words that count the parcels posted on a link, and those released by its reader; both modulo
-- 2^64.
abbrev pub posted_word : ℕ → ℕ
posted_word l = word_at (2 * l)

abbrev pub released_word : ℕ → ℕ
released_word l = word_at (2 * l + 1)

module _ (w : Wiring) where
  -- The slot through which parcel number n of a link goes: K*l + n mod K.
  -- Example: with 2 slots, parcels 0, 2 and 4 of link 3 go through slot 6, parcels 1 and 3 through
  -- slot 7.
  abbrev pub slot_of : ℕ → ℕ → ℕ
  slot_of l n = w.slots * l + n % w.slots

  -- The doorbells stand behind the counting words.
  abbrev pub bell_word : ℕ → ℕ
  bell_word l = word_at (2 * w.links + w.bell l)

  -- Each link has one bit of one doorbell, all of a doorbell's links have one reader, and a link
  -- has at least one slot.
  pub record IsWired : Type 0 where
    pub some_slots : 0 < w.slots
    pub few_slots : w.slots ≤ 64
    pub rung : (l : ℕ) → l < w.links → w.bell l < w.bells
    pub bit_fits : (l : ℕ) → l < w.links → w.bit l < w.width (w.bell l)
    pub one_reader : (l m : ℕ) → l < w.links → m < w.links → w.bell l ≡ w.bell m → w.to l ≡ w.to m
    pub one_bit : (l m : ℕ) → l < w.links → m < w.links → w.bell l ≡ w.bell m → w.bit l ≡ w.bit m → l ≡ m
