-- The sums of columns, as a program in one round: ig's first round alone.
use Rattle.std.specs.Prelude.{ℕ, ◌+◌, ◌-◌, ◌^◌, ◌<◌, ◌≡◌, ◌==◌, min, true, false, List, [], ◌∷◌, length, if◌then◌else◌}
use Rattle.std.specs.List.{All}
use Rattle.bale_items.specs.declared.Item.{Item}
use Rattle.round_program.specs.Rules.{Rules}
use Rattle.sparse_rows.specs.Owners.{places_for}
use Rattle.app_histo_ig.specs.Owners.{with_sum_risen}
use Rattle.app_histo_ig.specs.Histos.{may_count}

-- one rank's part: the values of its entries, and the sums of the columns that it owns
pub record SumsState : Type 0 where
  pub rank : ℕ
  pub ranks : ℕ
  pub round : ℕ
  -- the matrix's number of columns
  pub cols : ℕ
  -- the values of the rank's entries, in order, each with its column's owner
  pub values : List (ℕ × Item)
  -- the sums of own columns, as words; that of column j is at j div ranks
  pub sums : List ℕ

-- each value fits its column's owner, and there is a place for each own column
pub record IsSums (s : SumsState) : Type 0 where
  pub own : s.rank < s.ranks
  pub wide : s.cols < 2 ^ 32
  pub fit : All (λ e. may_count (s.cols ∷ []) s.ranks 0 e.0 s.rank e.1 ≡ true) s.values
  pub words : All (λ v. v < 2 ^ 64) s.sums
  pub places : length s.sums ≡ places_for s.ranks s.cols

abbrev pub sums_rules : Rules SumsState
sums_rules =
    record {
      valid = IsSums;
      rank = λ s. s.rank;
      ranks = λ s. s.ranks;
      round = λ s. s.round;
      shape = λ s. s.cols ∷ [];
      most = λ s. 1;
      emissions = λ s. if s.round == 0 then s.values else [];
      may_be_sent = may_count;
      absorbed = λ s from x. record s { sums = with_sum_risen s.ranks s.sums x };
      vote = λ s. 0;
      goes_on = λ shape round votes. false;
      ended = λ s votes. record s { round = min (s.round + 1) (2 ^ 64 - 1) };
    }
