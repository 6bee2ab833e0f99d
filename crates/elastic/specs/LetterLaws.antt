-- The laws that each implementation of LetterProgram proves.
use Rattle.std.specs.Prelude.{ℕ, ◌+◌, ◌-◌, ◌^◌, ◌<◌, ◌≡◌, ◌≢◌, min, List}
use Rattle.std.specs.List.{All}
use Rattle.elastic.specs.Spelling.{IsLetter}
use Rattle.elastic.specs.LetterRules.{LetterRules}

-- A state of the same rank in the same round of the same run, with the same letters: what an absorb
-- leaves.
pub record SameLetters {S : Type 0} (R : LetterRules S) (s t : S) : Type 0 where
  pub valid : R.valid t
  pub rank : R.rank t ≡ R.rank s
  pub ranks : R.ranks t ≡ R.ranks s
  pub round : R.round t ≡ R.round s
  pub shape : R.shape t ≡ R.shape s
  pub most : R.most t ≡ R.most s
  pub letters : R.letters t ≡ R.letters s

-- What follows a call that found no memory: the rank, and what it sends.
pub record StillSends {S : Type 0} (R : LetterRules S) (s t : S) : Type 0 where
  pub rank : R.rank t ≡ R.rank s
  pub ranks : R.ranks t ≡ R.ranks s
  pub letters : R.letters t ≡ R.letters s

-- A state of the same rank in the next round of the same run. The round's number saturates at
-- 2^64 - 1.
pub record NextLetters {S : Type 0} (R : LetterRules S) (s t : S) : Type 0 where
  pub valid : R.valid t
  pub rank : R.rank t ≡ R.rank s
  pub ranks : R.ranks t ≡ R.ranks s
  pub round : R.round t ≡ min (R.round s + 1) (2 ^ 64 - 1)
  pub shape : R.shape t ≡ R.shape s
  pub most : R.most t ≡ R.most s

-- The laws. They speak of all valid states, also of those that no run reaches.
pub record LetterLaws {S : Type 0} (R : LetterRules S) : Type 0 where
  -- the rank is one of the ranks
  pub own : (s : S) → R.valid s → R.rank s < R.ranks s
  -- 1. letters go to ranks
  pub emits : (s : S) → R.valid s → All (λ e. (e.0 < R.ranks s) × IsLetter e.1) (R.letters s)
  -- 2. absorbs of two senders commute
  pub commutes : (s : S) (f g : ℕ) (l m : List ℕ) → R.valid s → f ≢ g → f < R.ranks s → g < R.ranks s → IsLetter l
      → IsLetter m
      → R.absorbed (R.absorbed s f l) g m ≡ R.absorbed (R.absorbed s g m) f l
  -- 3. an absorb leaves rank, ranks, round, shape, most and the letters as they are
  pub keeps : (s : S) (f : ℕ) (l : List ℕ) → R.valid s → f < R.ranks s → IsLetter l → SameLetters R s (R.absorbed s f l)
  -- 4. votes are below 2^32
  pub vote_below : (s : S) → R.valid s → R.vote s < 2 ^ 32
  -- 5. the end of a round leaves rank, ranks, shape and most, and the round is one higher
  pub next : (s : S) (votes : ℕ) → R.valid s → votes < 2 ^ 64 → NextLetters R s (R.ended s votes)
  -- the bound on the rounds is below 2^62
  pub most_below : (s : S) → R.valid s → R.most s < 2 ^ 62
