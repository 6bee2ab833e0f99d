-- Either of two programs as one program.
use Rattle.std.specs.Prelude.{ℕ, ◌==◌, false, List, [], ◌∷◌, if◌then◌else◌}
use Rattle.either.specs.declared.Either.{Either}
use Rattle.either.specs.Either.{either, map_either, MatchEither}
use Rattle.round_program.specs.Rules.{Rules}

-- What the case says that a shape names: 0 before the shape stands for the left program, any other
-- number for the right one.
-- by_case d f g (0 ∷ 3 ∷ []) = f (3 ∷ []), by_case d f g (1 ∷ 3 ∷ []) = g (3 ∷ []).
abbrev pub by_case : {T : Type 0} → T → (List ℕ → T) → (List ℕ → T) → List ℕ → T
by_case d f g [] = d
by_case d f g (side ∷ shape) = if side == 0 then f shape else g shape

-- The program that is there does all that is done. The shape names it, so that a left and a right
-- program are in no run together.
abbrev pub either_rules : {S T : Type 0} → Rules S → Rules T → Rules (Either S T)
either_rules A B =
    record {
      valid = λ s. MatchEither s A.valid B.valid;
      rank = either A.rank B.rank;
      ranks = either A.ranks B.ranks;
      round = either A.round B.round;
      shape = either (λ s. 0 ∷ A.shape s) (λ t. 1 ∷ B.shape t);
      most = either A.most B.most;
      emissions = either A.emissions B.emissions;
      may_be_sent =
          λ shape ranks round to from x.
          by_case false (λ l. A.may_be_sent l ranks round to from x) (λ l. B.may_be_sent l ranks round to from x) shape;
      absorbed = λ s from x. map_either (λ a. A.absorbed a from x) (λ b. B.absorbed b from x) s;
      vote = either A.vote B.vote;
      goes_on = λ shape round votes. by_case false (λ l. A.goes_on l round votes) (λ l. B.goes_on l round votes) shape;
      ended = λ s votes. map_either (λ a. A.ended a votes) (λ b. B.ended b votes) s;
    }
