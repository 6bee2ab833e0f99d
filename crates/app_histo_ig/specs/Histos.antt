-- histo, as a program in one round.
use Rattle.std.specs.Prelude.{ℕ, ◌+◌, ◌-◌, ◌%◌, ◌^◌, ◌<◌, ◌≡◌, ◌==◌, ◌&&◌, nat_lt, min, Bool, false, List, [], ◌∷◌, map}
use Rattle.std.specs.Prelude.{if◌then◌else◌}
use Rattle.std.specs.Prelude.{length}
use Rattle.std.specs.List.{All}
use Rattle.bale_items.specs.declared.Item.{Item}
use Rattle.round_program.specs.Rules.{Rules}
use Rattle.round_program.specs.Laws.{is_item}
use Rattle.sparse_rows.specs.Owners.{places_for}
use Rattle.app_histo_ig.specs.Owners.{with_sum_risen}

-- one rank's part: the columns of its entries, and the counts of the columns that it owns
pub record HistoState : Type 0 where
  pub rank : ℕ
  pub ranks : ℕ
  pub round : ℕ
  -- the matrix's number of columns
  pub cols : ℕ
  -- the columns of the rank's entries, in order
  pub columns : List ℕ
  -- the counts of own columns; that of column j is at j div ranks
  pub counts : List ℕ

-- each entry is in a column, and there is a place for each own column
pub record IsHisto (s : HistoState) : Type 0 where
  pub own : s.rank < s.ranks
  pub wide : s.cols < 2 ^ 32
  pub named : All (λ j. j < s.cols) s.columns
  pub places : length s.counts ≡ places_for s.ranks s.cols

-- an entry of column j, in transit to the column's owner
abbrev pub counted_item : ℕ → Item
counted_item j = record { a = j; b = 1; c = 0 }

abbrev pub to_own_column : ℕ → ℕ → ℕ × Item
to_own_column ranks j = (j % ranks, counted_item j)

-- in round 0 an owner may be sent its columns
abbrev pub may_count : List ℕ → ℕ → ℕ → ℕ → ℕ → Item → Bool
may_count (cols ∷ []) ranks round to from x =
    round == 0 && nat_lt from ranks && nat_lt x.a cols && x.a % ranks == to && is_item x
may_count shape ranks round to from x = false

abbrev pub histo_rules : Rules HistoState
histo_rules =
    record {
      valid = IsHisto;
      rank = λ s. s.rank;
      ranks = λ s. s.ranks;
      round = λ s. s.round;
      shape = λ s. s.cols ∷ [];
      most = λ s. 1;
      emissions = λ s. if s.round == 0 then map (to_own_column s.ranks) s.columns else [];
      may_be_sent = may_count;
      absorbed = λ s from x. record s { counts = with_sum_risen s.ranks s.counts x };
      vote = λ s. 0;
      goes_on = λ shape round votes. false;
      ended = λ s votes. record s { round = min (s.round + 1) (2 ^ 64 - 1) };
    }
