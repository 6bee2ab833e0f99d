-- tally, as a letter program in one round: each line goes to the rank that its bytes tell.
use Rattle.std.specs.Prelude.{ℕ, ◌+◌, ◌-◌, ◌%◌, ◌^◌, ◌<◌, min, false, List, [], map}
use Rattle.std.specs.List.{All, sum}
use Rattle.elastic.specs.Spelling.{IsLetter}
use Rattle.elastic.specs.LetterRules.{LetterRules}
use Rattle.app_tally.specs.Counts.{Entry, with_line}

-- one rank's part
pub record TallyState : Type 0 where
  pub rank : ℕ
  pub ranks : ℕ
  pub round : ℕ
  -- the lines that the rank sends in this round
  pub own : List (List ℕ)
  -- the tally of the lines that came
  pub came : List Entry

-- The rank that counts a line: the sum of its bytes modulo the number of ranks.
-- On 2 ranks "a" (97) goes to rank 1, "b" (98) and "" go to rank 0.
abbrev pub counter_of : ℕ → List ℕ → ℕ
counter_of ranks l = sum l % ranks

-- the rank is one of the ranks, and its lines may be sent
pub record IsTallying (s : TallyState) : Type 0 where
  pub rank : s.rank < s.ranks
  pub lines : All IsLetter s.own

abbrev pub tally_rules : LetterRules TallyState
tally_rules =
    record {
      valid = IsTallying;
      rank = λ s. s.rank;
      ranks = λ s. s.ranks;
      round = λ s. s.round;
      shape = λ s. [];
      most = λ s. 1;
      letters = λ s. map (λ l. (counter_of s.ranks l, l)) s.own;
      absorbed = λ s from l. record s { came = with_line l s.came };
      vote = λ s. 0;
      goes_on = λ shape round votes. false;
      ended = λ s votes. record s { round = min (s.round + 1) (2 ^ 64 - 1); own = [] };
    }
