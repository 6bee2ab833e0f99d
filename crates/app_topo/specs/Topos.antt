-- topo, as a program in rounds: the entries to the owners of their rows and columns; then, level by
-- level, claims to columns and falls to rows.
use Rattle.std.specs.Prelude.{ℕ, ◌+◌, ◌-◌, ◌*◌, ◌/◌, ◌%◌, ◌^◌, ◌<◌, ◌≡◌, ◌==◌, ◌&&◌, ◌||◌, not, nat_lt, min, Bool, true}
use Rattle.std.specs.Prelude.{if◌then◌else◌}
use Rattle.std.specs.Prelude.{false, List, [], ◌∷◌, ◌++◌, map, length, slice_index_or, pos}
use Rattle.std.specs.List.{All, filter, flat_map, range_with_len}
use Rattle.bale_items.specs.declared.Item.{Item}
use Rattle.bale_items.specs.declared.triple.Triple.{Triple}
use Rattle.list_laws.specs.Lists.{changed_at}
use Rattle.app_topo.specs.declared.placed.Placed.{Placed}
use Rattle.mtx_text.specs.Cells.{InOrder, with_value_raised}
use Rattle.round_program.specs.Rules.{Rules}
use Rattle.round_program.specs.Laws.{is_item}
use Rattle.sparse_rows.specs.Owners.{places_for}

-- one rank's part; row or column number x is at x div ranks in a list of own rows or columns
pub record TopoState : Type 0 where
  pub rank : ℕ
  pub ranks : ℕ
  pub round : ℕ
  -- the matrix's number of rows, and of columns
  pub size : ℕ
  -- for each own row the number of its entries in columns that aren't taken, and the sum of these
  -- columns' numbers
  pub numbers : List ℕ
  pub sums : List ℕ
  -- the entries of own columns as (column, row), by column and then row
  pub columns : List Triple
  -- how many rows claimed each own column
  pub counts : List ℕ
  -- the own rows that have claimed, by level and then row
  pub claimed : List Placed
  -- how many own columns were claimed for the first time in this round
  pub fresh : ℕ
  -- what came in this round, in order: in round 0 the entries of own columns, in an odd round the
  -- own columns claimed, in a later even round the own rows whose number fell to 1
  pub came : List Triple
  -- what is sent in this round
  pub outgoing : List (ℕ × Item)

-- what came: at two numbers, or at one
abbrev pub spot : ℕ → ℕ → Triple
spot a b = record { i = a; j = b; v = pos 0 }

-- the number at x rises by b, modulo 2^64
abbrev pub with_rise : ℕ → List ℕ → ℕ → ℕ → List ℕ
with_rise ranks numbers x b = changed_at numbers (x / ranks) 0 (λ v. (v + b) % 2 ^ 64)

-- the number at x
abbrev pub number_at : ℕ → List ℕ → ℕ → ℕ
number_at ranks numbers x = slice_index_or numbers (x / ranks) 0

-- ---- What is sent

-- row i claims column j
abbrev pub to_claim : ℕ → ℕ → ℕ → ℕ × Item
to_claim ranks i j = (j % ranks, record { a = j; b = i; c = 2 })

-- row u.j has an entry less, that in column u.i
abbrev pub to_fall : ℕ → Triple → ℕ × Item
to_fall ranks u = (u.j % ranks, record { a = u.j; b = u.i; c = 3 })

-- the rows that a rank owns
abbrev pub own_rows : ℕ → ℕ → ℕ → List ℕ
own_rows ranks rank size = map (λ k. k * ranks + rank) (range_with_len 0 (places_for ranks size))

-- of some rows, those whose number is 1; a row whose sum is no column is left out
abbrev pub claims_now : ℕ → ℕ → List ℕ → List ℕ → ℕ → Bool
claims_now ranks size numbers sums i =
    number_at ranks numbers i == 1 && nat_lt (number_at ranks sums i) size && nat_lt i size

abbrev pub claims_of : ℕ → ℕ → List ℕ → List ℕ → List ℕ → List (ℕ × Item)
claims_of ranks size numbers sums rows =
    map (λ i. to_claim ranks i (number_at ranks sums i)) (filter (claims_now ranks size numbers sums) rows)

-- the falls of all rows of the columns that were claimed
abbrev pub falls_of : ℕ → List Triple → List Triple → List (ℕ × Item)
falls_of ranks columns came = flat_map (λ c. map (to_fall ranks) (filter (λ u. u.i == c.i) columns)) came

-- what is sent after a round: the first claims after round 0, falls after an odd round (none if
-- its number stands still), claims after a later even one
abbrev pub sent_after : ℕ → ℕ → ℕ → ℕ → List ℕ → List ℕ → List Triple → List Triple → List (ℕ × Item)
sent_after round rank ranks size numbers sums columns came =
    if round == 0 then claims_of ranks size numbers sums (own_rows ranks rank size)
    else if round % 2 == 1 then if nat_lt round (2 ^ 64 - 1) then falls_of ranks columns came else []
    else claims_of ranks size numbers sums (map (λ u. u.i) came)

abbrev pub topo_next_outgoing : TopoState → List (ℕ × Item)
topo_next_outgoing s = sent_after s.round s.rank s.ranks s.size s.numbers s.sums s.columns s.came

-- ---- What is absorbed

-- round 0: row a has an entry in column b, or column a has one in row b
abbrev pub after_entry : TopoState → Item → TopoState
after_entry s x =
    record s {
      numbers = if x.c == 0 then with_rise s.ranks s.numbers x.a 1 else s.numbers;
      sums = if x.c == 0 then with_rise s.ranks s.sums x.a x.b else s.sums;
      came = if x.c == 0 then s.came else with_value_raised (spot x.a x.b) s.came;
    }

-- odd rounds: a row claims column a
abbrev pub claimed_by : TopoState → Item → TopoState
claimed_by s x =
    record s {
      counts = with_rise s.ranks s.counts x.a 1;
      fresh = if number_at s.ranks s.counts x.a == 0 then min (s.fresh + 1) (2 ^ 32 - 1) else s.fresh;
      came = with_value_raised (spot x.a 0) s.came;
    }

-- later even rounds: row a has an entry less, that in column b
abbrev pub after_fall : TopoState → Item → TopoState
after_fall s x =
    record s {
      numbers = with_rise s.ranks s.numbers x.a (2 ^ 64 - 1);
      sums = with_rise s.ranks s.sums x.a (2 ^ 64 - x.b);
      came = if (number_at s.ranks s.numbers x.a + (2 ^ 64 - 1)) % 2 ^ 64 == 1 then with_value_raised (spot x.a 0) s.came
          else s.came;
    }

-- in round 0 an owner may be sent its rows and columns, then claims of its columns and falls of its
-- rows in turn
abbrev pub may_topo : List ℕ → ℕ → ℕ → ℕ → ℕ → Item → Bool
may_topo (size ∷ []) ranks round to from x =
    nat_lt from ranks && nat_lt x.a size && nat_lt x.b size && x.a % ranks == to && is_item x
    && (if round == 0 then nat_lt x.c 2 else x.c == 3 - round % 2)
may_topo shape ranks round to from x = false

-- ---- The rank

-- both numbers of what is kept lie inside
abbrev pub AreInside : ℕ → Triple → Type 0
AreInside size u = (u.i < size) × (u.j < size)

pub record IsTopo (s : TopoState) : Type 0 where
  pub own : s.rank < s.ranks
  pub wide : s.size < 2 ^ 32
  pub number_places : length s.numbers ≡ places_for s.ranks s.size
  pub sum_places : length s.sums ≡ places_for s.ranks s.size
  pub count_places : length s.counts ≡ places_for s.ranks s.size
  pub few : s.fresh < 2 ^ 32
  pub inside : All (AreInside s.size) s.columns
  pub sorted : InOrder s.columns
  pub came_inside : All (AreInside s.size) s.came
  pub ordered : InOrder s.came
  pub fit : All (λ e. may_topo (s.size ∷ []) s.ranks s.round e.0 s.rank e.1 ≡ true) s.outgoing

-- the rows that sent their claims in round 2t + 1 have level t
abbrev pub placed_in : ℕ → ℕ × Item → Placed
placed_in round e = record { level = (round - 1) / 2; row = e.1.b; column = e.1.a }

abbrev pub topo_rules : Rules TopoState
topo_rules =
    record {
      valid = IsTopo;
      rank = λ s. s.rank;
      ranks = λ s. s.ranks;
      round = λ s. s.round;
      shape = λ s. s.size ∷ [];
      most = λ s. 2 * s.size + 2;
      emissions = λ s. s.outgoing;
      may_be_sent = may_topo;
      absorbed = λ s from x. if s.round == 0 then after_entry s x else if s.round % 2 == 1 then claimed_by s x
          else after_fall s x;
      vote = λ s. s.fresh;
      goes_on = λ shape round votes. round % 2 == 0 || not (votes == 0);
      ended = λ s votes. record s {
        round = min (s.round + 1) (2 ^ 64 - 1);
        columns = if s.round == 0 then s.came else s.columns;
        claimed = if s.round % 2 == 1 then s.claimed ++ map (placed_in s.round) s.outgoing else s.claimed;
        fresh = 0;
        came = [];
        outgoing = topo_next_outgoing s;
      };
    }
