-- Counting, as a program in rounds.
use Rattle.std.specs.Prelude.{ℕ, ◌+◌, ◌-◌, ◌%◌, ◌^◌, ◌<◌, ◌==◌, ◌&&◌, nat_lt, min, Bool, false, List, [], ◌∷◌, map}
use Rattle.std.specs.Prelude.{if◌then◌else◌}
use Rattle.std.specs.Prelude.{length}
use Rattle.std.specs.List.{All}
use Rattle.bale_items.specs.declared.Item.{Item}
use Rattle.list_laws.specs.Lists.{changed_at}
use Rattle.round_program.specs.Rules.{Rules}
use Rattle.round_program.specs.Laws.{is_item}

-- one rank's part: the columns that it names, and a count for each column
pub record CountState : Type 0 where
  pub rank : ℕ
  pub ranks : ℕ
  pub round : ℕ
  pub names : List ℕ
  pub counts : List ℕ

-- each name is a column
pub record IsCount (s : CountState) : Type 0 where
  pub own : s.rank < s.ranks
  pub columns : length s.counts < 2 ^ 32
  pub named : All (λ j. j < length s.counts) s.names

-- a column that is named, in transit to its owner
abbrev pub named_item : ℕ → Item
named_item j = record { a = j; b = 1; c = 0 }

abbrev pub to_owner : ℕ → ℕ → ℕ × Item
to_owner ranks j = (j % ranks, named_item j)

-- the count of column a rises by b, modulo 2^64
abbrev pub count_raised : List ℕ → Item → List ℕ
count_raised counts x = changed_at counts x.a 0 (λ v. (v + x.b) % 2 ^ 64)

-- in round 0 an owner may be sent its columns
abbrev pub is_named : List ℕ → ℕ → ℕ → ℕ → ℕ → Item → Bool
is_named (columns ∷ []) ranks round to from x =
    round == 0 && nat_lt from ranks && nat_lt x.a columns && x.a % ranks == to && is_item x
is_named shape ranks round to from x = false

abbrev pub count_rules : Rules CountState
count_rules =
    record {
      valid = IsCount;
      rank = λ s. s.rank;
      ranks = λ s. s.ranks;
      round = λ s. s.round;
      shape = λ s. length s.counts ∷ [];
      most = λ s. 1;
      emissions = λ s. if s.round == 0 then map (to_owner s.ranks) s.names else [];
      may_be_sent = is_named;
      absorbed = λ s from x. record s { counts = count_raised s.counts x };
      vote = λ s. 0;
      goes_on = λ shape round votes. false;
      ended = λ s votes. record s { round = min (s.round + 1) (2 ^ 64 - 1) };
    }
