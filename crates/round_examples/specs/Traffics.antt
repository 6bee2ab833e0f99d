-- Traffic, as a program in rounds: each rank sends items to cells of ranks in its first round.
use Rattle.std.specs.Prelude.{ℕ, ◌+◌, ◌-◌, ◌%◌, ◌^◌, ◌<◌, ◌==◌, ◌&&◌, nat_lt, min, Bool, false, List, [], ◌∷◌}
use Rattle.std.specs.Prelude.{if◌then◌else◌}
use Rattle.std.specs.Prelude.{length}
use Rattle.std.specs.List.{All}
use Rattle.bale_items.specs.declared.Item.{Item}
use Rattle.list_laws.specs.Lists.{changed_at}
use Rattle.round_program.specs.Rules.{Rules}
use Rattle.round_program.specs.Laws.{is_item}

-- one rank's part: the rank and the cell that each of its items goes to, what its own cells have
-- counted, and the sum of the numbers
-- of the items that came
pub record TrafficState : Type 0 where
  pub rank : ℕ
  pub ranks : ℕ
  pub round : ℕ
  pub rounds : ℕ
  pub targets : List (ℕ × ℕ)
  pub counts : List ℕ
  pub check : ℕ

-- each item goes to a rank, and there to one of 1,024 cells
pub record IsTraffic (s : TrafficState) : Type 0 where
  pub own : s.rank < s.ranks
  pub few : s.rounds < 2 ^ 32
  pub items : length s.targets < 2 ^ 32
  pub aims : All (λ t. (t.0 < s.ranks) × (t.1 < 1024)) s.targets

-- the items that go to some targets, of which the first has the number i
-- sent_from 0 of (3, 7), (1, 5) is (3, (7,1,0)), (1, (5,1,1)).
abbrev pub sent_from : ℕ → List (ℕ × ℕ) → List (ℕ × Item)
sent_from i [] = []
sent_from i (t ∷ ts) = (t.0, record { a = t.1; b = 1; c = i }) ∷ sent_from (i + 1) ts

-- the count of cell a rises by b, modulo 2^64
abbrev pub traffic_raised : List ℕ → Item → List ℕ
traffic_raised counts x = changed_at counts x.a 0 (λ v. (v + x.b) % 2 ^ 64)

abbrev pub is_sent : ℕ → ℕ → ℕ → ℕ → Item → Bool
is_sent ranks round to from x = round == 0 && nat_lt to ranks && nat_lt from ranks && nat_lt x.a 1024 && is_item x

-- a run has as many rounds as its shape says
abbrev pub goes_on : List ℕ → ℕ → Bool
goes_on [] round = false
goes_on (rounds ∷ rest) round = nat_lt (round + 1) rounds

abbrev pub traffic_rules : Rules TrafficState
traffic_rules =
    record {
      valid = IsTraffic;
      rank = λ s. s.rank;
      ranks = λ s. s.ranks;
      round = λ s. s.round;
      shape = λ s. s.rounds ∷ [];
      most = λ s. s.rounds;
      emissions = λ s. if s.round == 0 then sent_from 0 s.targets else [];
      may_be_sent = λ shape. is_sent;
      absorbed = λ s from x. record s { counts = traffic_raised s.counts x; check = (s.check + x.c) % 2 ^ 64 };
      vote = λ s. 0;
      goes_on = λ shape round votes. goes_on shape round;
      ended = λ s votes. record s { round = min (s.round + 1) (2 ^ 64 - 1) };
    }
