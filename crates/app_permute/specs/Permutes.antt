-- permute, as a program in three rounds: cells to the owners of their rows, who know the rows' new
-- numbers; to the owners
-- of their columns, who know the columns' new numbers; and to the owners of their new rows.
use Rattle.std.specs.Prelude.{ℕ, ◌+◌, ◌-◌, ◌%◌, ◌/◌, ◌^◌, ◌<◌, ◌≡◌, ◌==◌, ◌&&◌, nat_lt, min, Bool, true, false, List}
use Rattle.std.specs.Prelude.{if◌then◌else◌}
use Rattle.std.specs.Prelude.{[], ◌∷◌, map, length, slice_index_or}
use Rattle.std.specs.List.{All}
use Rattle.bale_items.specs.declared.Item.{Item}
use Rattle.bale_items.specs.declared.triple.Triple.{Triple}
use Rattle.bale_items.specs.Bits.{twos_complement, from_twos_complement}
use Rattle.mtx_text.specs.Cells.{InOrder, with_value_raised}
use Rattle.round_program.specs.Rules.{Rules}
use Rattle.round_program.specs.Laws.{is_item}
use Rattle.app_permute.specs.Carried.{item_cell}

-- one rank's part
pub record PermuteState : Type 0 where
  pub rank : ℕ
  pub ranks : ℕ
  pub round : ℕ
  -- the matrix's rows and columns
  pub rows : ℕ
  pub cols : ℕ
  -- the new numbers of own rows and of own columns; that of number x is at x div ranks
  pub new_rows : List ℕ
  pub new_cols : List ℕ
  -- what is sent in this round
  pub outgoing : List (ℕ × Item)
  -- the cells that came in this round: by row and column in round 0, by column and new row in round
  -- 1, by new row and new column in round 2
  pub cells : List Triple

-- the new number of an own row or column
abbrev pub new_number : ℕ → List ℕ → ℕ → ℕ
new_number ranks news x = slice_index_or news (x / ranks) 0

-- round 1: a cell (i,j) of own row i goes to the owner of its column, as (new number of i, j)
abbrev pub to_column : ℕ → List ℕ → Triple → ℕ × Item
to_column ranks news t = (t.j % ranks, record { a = new_number ranks news t.i; b = t.j; c = twos_complement t.v })

-- round 2: a cell of own column j and new row x, kept as (j,x), goes to the owner of x, as (x, new
-- number of j)
abbrev pub to_row : ℕ → List ℕ → Triple → ℕ × Item
to_row ranks news t = (t.j % ranks, record { a = t.j; b = new_number ranks news t.i; c = twos_complement t.v })

-- the cell of an item as it is kept in a round: by column first in round 1, and else by row
abbrev pub kept_as : ℕ → Item → Triple
kept_as round x = if round == 1 then record { i = x.b; j = x.a; v = from_twos_complement x.c } else item_cell x

-- the owner of a column may be sent cells of it in round 1, and the owner of a row in the other
-- rounds
abbrev pub may_permute : List ℕ → ℕ → ℕ → ℕ → ℕ → Item → Bool
may_permute (rows ∷ (cols ∷ [])) ranks round to from x =
    nat_lt from ranks && nat_lt x.a rows && nat_lt x.b cols && (if round == 1 then x.b else x.a) % ranks == to
    && is_item x
may_permute shape ranks round to from x = false

-- a cell that a rank keeps lies inside and is its own, and its value is one of 64 bits
pub record IsKeptCell (height width ranks rank : ℕ) (t : Triple) : Type 0 where
  pub row : t.i < height
  pub col : t.j < width
  pub own : t.i % ranks ≡ rank
  pub word : twos_complement t.v < 2 ^ 64

-- there is a new number below n for each own row or column
pub record HasNumbers (ranks rank n : ℕ) (news : List ℕ) : Type 0 where
  pub below : All (λ x. x < n) news
  pub placed : (x : ℕ) → x < n → x % ranks ≡ rank → x / ranks < length news

pub record IsPermuting (s : PermuteState) : Type 0 where
  pub own : s.rank < s.ranks
  pub tall : s.rows < 2 ^ 32
  pub wide : s.cols < 2 ^ 32
  pub row_numbers : HasNumbers s.ranks s.rank s.rows s.new_rows
  pub col_numbers : HasNumbers s.ranks s.rank s.cols s.new_cols
  pub kept : All
      (IsKeptCell (if s.round == 1 then s.cols else s.rows) (if s.round == 1 then s.rows else s.cols) s.ranks s.rank)
      s.cells
  pub ordered : InOrder s.cells
  pub fit : All (λ e. may_permute (s.rows ∷ s.cols ∷ []) s.ranks s.round e.0 s.rank e.1 ≡ true) s.outgoing

-- what is sent after this round: to columns after round 0, to new rows after round 1, and then
-- nothing
abbrev pub permute_next_outgoing : PermuteState → List (ℕ × Item)
permute_next_outgoing s =
    if s.round == 0 then map (to_column s.ranks s.new_rows) s.cells
    else if s.round == 1 then map (to_row s.ranks s.new_cols) s.cells else []

abbrev pub permute_rules : Rules PermuteState
permute_rules =
    record {
      valid = IsPermuting;
      rank = λ s. s.rank;
      ranks = λ s. s.ranks;
      round = λ s. s.round;
      shape = λ s. s.rows ∷ s.cols ∷ [];
      most = λ s. 3;
      emissions = λ s. s.outgoing;
      may_be_sent = may_permute;
      absorbed = λ s from x. record s { cells = with_value_raised (kept_as s.round x) s.cells };
      vote = λ s. 0;
      goes_on = λ shape round votes. nat_lt round 2;
      ended = λ s votes. record s {
        round = min (s.round + 1) (2 ^ 64 - 1);
        outgoing = permute_next_outgoing s;
        cells = (if nat_lt s.round 2 then [] else s.cells);
      };
    }
