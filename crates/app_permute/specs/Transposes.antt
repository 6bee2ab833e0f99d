-- transpose, as a program in one round: each entry goes to the owner of its new row.
use Rattle.std.specs.Prelude.{ℕ, ◌+◌, ◌-◌, ◌^◌, ◌<◌, ◌≡◌, ◌==◌, ◌&&◌, min, Bool, true, false, List, [], ◌∷◌}
use Rattle.std.specs.List.{All}
use Rattle.bale_items.specs.declared.Item.{Item}
use Rattle.bale_items.specs.declared.triple.Triple.{Triple}
use Rattle.mtx_text.specs.Cells.{InOrder, with_value_raised}
use Rattle.round_program.specs.Rules.{Rules}
use Rattle.app_permute.specs.Carried.{item_cell, may_cell}

-- one rank's part
pub record TransposeState : Type 0 where
  pub rank : ℕ
  pub ranks : ℕ
  pub round : ℕ
  -- the transposed matrix's rows and columns
  pub rows : ℕ
  pub cols : ℕ
  -- what is sent in this round
  pub outgoing : List (ℕ × Item)
  -- the cells of own rows, by row and then column
  pub cells : List Triple

-- in round 0 an owner may be sent cells of its rows
abbrev pub may_transpose : List ℕ → ℕ → ℕ → ℕ → ℕ → Item → Bool
may_transpose (rows ∷ (cols ∷ [])) ranks round to from x = round == 0 && may_cell rows cols ranks to from x
may_transpose shape ranks round to from x = false

-- the cells are in order, and what is sent fits
pub record IsTransposing (s : TransposeState) : Type 0 where
  pub own : s.rank < s.ranks
  pub tall : s.rows < 2 ^ 32
  pub wide : s.cols < 2 ^ 32
  pub ordered : InOrder s.cells
  pub fit : All (λ e. may_transpose (s.rows ∷ s.cols ∷ []) s.ranks s.round e.0 s.rank e.1 ≡ true) s.outgoing

abbrev pub transpose_rules : Rules TransposeState
transpose_rules =
    record {
      valid = IsTransposing;
      rank = λ s. s.rank;
      ranks = λ s. s.ranks;
      round = λ s. s.round;
      shape = λ s. s.rows ∷ s.cols ∷ [];
      most = λ s. 1;
      emissions = λ s. s.outgoing;
      may_be_sent = may_transpose;
      absorbed = λ s from x. record s { cells = with_value_raised (item_cell x) s.cells };
      vote = λ s. 0;
      goes_on = λ shape round votes. false;
      ended = λ s votes. record s { round = min (s.round + 1) (2 ^ 64 - 1); outgoing = [] };
    }
