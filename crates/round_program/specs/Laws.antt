-- The laws that each implementation of Program proves.
use Rattle.std.specs.Prelude.{ℕ, ◌+◌, ◌-◌, ◌^◌, ◌<◌, ◌≡◌, ◌≢◌, min, Bool, true, List, nat_lt, ◌&&◌}
use Rattle.std.specs.List.{All}
use Rattle.bale_items.specs.declared.Item.{Item}
use Rattle.round_program.specs.Rules.{Rules}

-- Whether a program may be sent an item by a rank: `may_be_sent` of its own shape, ranks, round and
-- rank.
-- fits R s f x, and Fits R s f x as a fact.
-- A histo rank 1 of 4 ranks and 8 columns fits (5,1,0), since column 5 is its own, and no (4,1,0).
abbrev pub fits : {S : Type 0} → Rules S → S → ℕ → Item → Bool
fits R s from item = R.may_be_sent (R.shape s) (R.ranks s) (R.round s) (R.rank s) from item

abbrev pub Fits : {S : Type 0} → Rules S → S → ℕ → Item → Type 0
Fits R s from item = fits R s from item ≡ true

-- An item as programs have it: each field is below 2^64.
abbrev pub IsItem : Item → Type 0
IsItem x = (x.a < 2 ^ 64) × (x.b < 2 ^ 64) × (x.c < 2 ^ 64)

-- The same as a test, for use in `may_be_sent`.
abbrev pub is_item : Item → Bool
is_item x = nat_lt x.a (2 ^ 64) && nat_lt x.b (2 ^ 64) && nat_lt x.c (2 ^ 64)

-- A state of the same rank in the same round of the same run, with the same emissions: what an
-- absorb leaves.
-- So `fits` of every item is the same too.
pub record SameRound {S : Type 0} (R : Rules S) (s t : S) : Type 0 where
  pub valid : R.valid t
  pub rank : R.rank t ≡ R.rank s
  pub ranks : R.ranks t ≡ R.ranks s
  pub round : R.round t ≡ R.round s
  pub shape : R.shape t ≡ R.shape s
  pub most : R.most t ≡ R.most s
  pub emissions : R.emissions t ≡ R.emissions s

-- A state of the same rank in the next round of the same run. The round's number saturates at
-- 2^64 - 1.
pub record NextRound {S : Type 0} (R : Rules S) (s t : S) : Type 0 where
  pub valid : R.valid t
  pub rank : R.rank t ≡ R.rank s
  pub ranks : R.ranks t ≡ R.ranks s
  pub round : R.round t ≡ min (R.round s + 1) (2 ^ 64 - 1)
  pub shape : R.shape t ≡ R.shape s
  pub most : R.most t ≡ R.most s

-- The laws. They speak of all valid states, also of those that no run reaches.
pub record Laws {S : Type 0} (R : Rules S) : Type 0 where
  -- 1. the rank that an emission goes to may be sent it
  pub emits : (s : S) → R.valid s
      → All (λ e. R.may_be_sent (R.shape s) (R.ranks s) (R.round s) e.0 (R.rank s) e.1 ≡ true) (R.emissions s)
  -- 2. absorbs of two senders commute
  pub commutes : (s : S) (f g : ℕ) (x y : Item) → R.valid s → f ≢ g → Fits R s f x → Fits R s g y
      → R.absorbed (R.absorbed s f x) g y ≡ R.absorbed (R.absorbed s g y) f x
  -- 3. an absorb leaves rank, ranks, round, shape, most and the emissions as they are
  pub keeps : (s : S) (f : ℕ) (x : Item) → R.valid s → Fits R s f x → SameRound R s (R.absorbed s f x)
  -- 4. votes are below 2^32
  pub vote_below : (s : S) → R.valid s → R.vote s < 2 ^ 32
  -- 5. the end of a round leaves rank, ranks, shape and most, and the round is one higher
  pub next : (s : S) (votes : ℕ) → R.valid s → votes < 2 ^ 64 → NextRound R s (R.ended s votes)
  -- what may be sent is an item from a rank to a rank
  pub within : (shape : List ℕ) (ranks round to from : ℕ) (x : Item) → R.may_be_sent shape ranks round to from x ≡ true
      → (to < ranks) × (from < ranks) × IsItem x
  -- the bound on the rounds is below 2^62
  pub most_below : (s : S) → R.valid s → R.most s < 2 ^ 62
