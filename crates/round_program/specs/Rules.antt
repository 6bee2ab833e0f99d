-- What a program does, as functions of its state.
use Rattle.std.specs.Prelude.{ℕ, Bool, List}
use Rattle.bale_items.specs.declared.Item.{Item}

-- The meanings of a program whose state is S. A state is plain data.
pub record Rules (S : Type 0) : Type 1 where
  -- the states that the program can be in
  pub valid : S → Type 0
  pub rank : S → ℕ
  pub ranks : S → ℕ
  pub round : S → ℕ
  -- numbers that all ranks of a run share, such as the sizes of a matrix
  pub shape : S → List ℕ
  -- a bound on the rounds of a run
  pub most : S → ℕ
  -- what the program sends in its round, in order: the rank that each item goes to, and the item
  pub emissions : S → List (ℕ × Item)
  -- whether a rank may be sent an item: by shape, ranks, round, the receiving rank, the sender and
  -- the item
  pub may_be_sent : List ℕ → ℕ → ℕ → ℕ → ℕ → Item → Bool
  -- the state after an item of a sender was absorbed
  pub absorbed : S → ℕ → Item → S
  pub vote : S → ℕ
  -- whether another round follows, for a run of this shape, a round with this number and this sum
  -- of votes
  pub goes_on : List ℕ → ℕ → ℕ → Bool
  -- the state after the round ended with this sum of votes
  pub ended : S → ℕ → S
