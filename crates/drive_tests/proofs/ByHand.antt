-- The definitions on one exchange: rank 0 of two asks rank 1 the questions 5, 6 and 7, and each is
-- answered with the next number.
use Rattle.std.proofs.Common.{◌≡◌, ℕ, zero, suc, [], ◌∷◌, refl}
use Rattle.drive_tests.specs.Adders.{AdderState, adder_talk}
use Rattle.round_program.specs.Replies.{carrying, queries_to, replies_of, heard_by, after_answers}

abbrev asker : AdderState
asker = record { rank = 0; ranks = 2; queries = (1, 5) ∷ (1, 6) ∷ (1, 7) ∷ []; heard = 0 ∷ 0 ∷ 0 ∷ [] }

abbrev other : AdderState
other = record { rank = 1; ranks = 2; queries = []; heard = [] }

abbrev all : ℕ → AdderState
all zero = asker
all (suc n) = other

questions : queries_to adder_talk asker 1 ≡ carrying 5 ∷ carrying 6 ∷ carrying 7 ∷ []
questions = refl

replies : replies_of adder_talk all 1 0 ≡ carrying 6 ∷ carrying 7 ∷ carrying 8 ∷ []
replies = refl

-- after the first two replies, and at the end
two_heard : (heard_by adder_talk asker (λ d. carrying 6 ∷ carrying 7 ∷ [])).heard ≡ 6 ∷ 7 ∷ 0 ∷ []
two_heard = refl

all_heard : (after_answers adder_talk all 0).heard ≡ 6 ∷ 7 ∷ 8 ∷ []
all_heard = refl
