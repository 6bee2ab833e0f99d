-- One rank's state, and what its calls do.
use Rattle.std.specs.Prelude.{ℕ, ◌+◌, ◌-◌, ◌%◌, ◌^◌, ◌<◌, ◌≤◌, ◌≡◌, ◌==◌, ◌&&◌, nat_lt, min, Bool, true, false, List}
use Rattle.std.specs.Prelude.{[], ◌∷◌, length}
use Rattle.std.specs.List.{All}
use Rattle.bale_items.specs.declared.Item.{Item}
use Rattle.reductions.specs.declared.reduced.Reduction.TheVariants.{Least}
use Rattle.reductions.specs.Reductions.{ReducedState, at_round_begin, after_item, vote_of}
use Rattle.round_program.specs.Rules.{Rules}
use Rattle.round_program.specs.Laws.{is_item}

pub record State : Type 0 where
  pub rank : ℕ
  pub ranks : ℕ
  pub round : ℕ
  -- what is sent in this round: to which rank, and the item
  pub sends : List (ℕ × Item)
  -- by column
  pub cells : ReducedState

-- What may be sent, by shape (the number of columns), ranks, round, receiver and sender: a column's
-- own rank is sent what is for it.
abbrev pub may_be_sent : List ℕ → ℕ → ℕ → ℕ → ℕ → Item → Bool
may_be_sent (n ∷ []) ranks round to from x =
    nat_lt from ranks && nat_lt to ranks && nat_lt x.a n && x.a % ranks == to && is_item x
may_be_sent shape ranks round to from x = false

-- the states that a rank can be in
pub record IsState (s : State) : Type 0 where
  pub own : s.rank < s.ranks
  pub few : s.ranks ≤ 64
  pub sent : All (λ e. may_be_sent (length s.cells.cells ∷ []) s.ranks s.round e.0 s.rank e.1 ≡ true) s.sends

abbrev pub rules : Rules State
rules =
    record {
      valid = IsState;
      rank = λ s. s.rank;
      ranks = λ s. s.ranks;
      round = λ s. s.round;
      shape = λ s. length s.cells.cells ∷ [];
      most = λ s. 1;
      emissions = λ s. s.sends;
      may_be_sent = may_be_sent;
      absorbed = λ s from x. record s { cells = after_item Least s.cells x.a x.b };
      vote = λ s. vote_of s.cells;
      goes_on = λ shape round votes. false;
      ended = λ s votes. record s { round = min (s.round + 1) (2 ^ 64 - 1); sends = []; cells = at_round_begin s.cells.cells };
    }
