-- What a letter program does, as functions of its state.
use Rattle.std.specs.Prelude.{ℕ, Bool, List}

-- The meanings of a letter program whose state is S: those of a program, said of letters. A state
-- is plain data, and every letter of a rank may be sent to every rank.
pub record LetterRules (S : Type 0) : Type 1 where
  -- the states that the program can be in
  pub valid : S → Type 0
  pub rank : S → ℕ
  pub ranks : S → ℕ
  pub round : S → ℕ
  -- numbers that all ranks of a run share
  pub shape : S → List ℕ
  -- a bound on the rounds of a run
  pub most : S → ℕ
  -- what the program sends in its round, in order: the rank that each letter goes to, and the
  -- letter
  pub letters : S → List (ℕ × List ℕ)
  -- the state after a letter of a sender was absorbed
  pub absorbed : S → ℕ → List ℕ → S
  pub vote : S → ℕ
  -- whether another round follows, for a run of this shape, a round with this number and this sum
  -- of votes
  pub goes_on : List ℕ → ℕ → ℕ → Bool
  -- the state after the round ended with this sum of votes
  pub ended : S → ℕ → S
