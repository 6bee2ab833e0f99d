-- Looking up columns of a table, as a program in two rounds.
use Rattle.std.specs.Prelude.{ℕ, suc, ◌+◌, ◌-◌, ◌%◌, ◌^◌, ◌<◌, ◌≡◌, ◌==◌, ◌&&◌, ◌||◌, not, nat_lt, min, max, Bool, true}
use Rattle.std.specs.Prelude.{if◌then◌else◌}
use Rattle.std.specs.Prelude.{false, List, [], ◌∷◌, ◌++◌, map, length, slice_index, replicate}
use Rattle.std.specs.List.{All}
use Rattle.bale_items.specs.declared.Item.{Item}
use Rattle.list_laws.specs.Lists.{changed_at}
use Rattle.round_program.specs.Rules.{Rules}
use Rattle.round_program.specs.Laws.{is_item}

-- one rank's part
pub record AskState : Type 0 where
  pub rank : ℕ
  pub ranks : ℕ
  pub round : ℕ
  -- the value of each column
  pub table : List ℕ
  -- the queries that came, by sender
  pub queries : List (List Item)
  -- what is sent in this round
  pub outgoing : List (ℕ × Item)
  -- the value of each column that the rank named, once it is known
  pub answers : List ℕ

-- the query of name number e, a column j
abbrev pub query : ℕ → ℕ → ℕ → ℕ × Item
query ranks e j = (j % ranks, record { a = j; b = e; c = 0 })

-- the queries for a list of columns, whose numbers begin at e
abbrev pub asks_from : ℕ → ℕ → List ℕ → List (ℕ × Item)
asks_from ranks e [] = []
asks_from ranks e (j ∷ js) = query ranks e j ∷ asks_from ranks (suc e) js

-- A rank before its first round.
abbrev pub asking : ℕ → ℕ → List ℕ → List ℕ → AskState
asking rank ranks table names =
    record {
      rank = rank;
      ranks = ranks;
      round = 0;
      table = table;
      queries = replicate ranks [];
      outgoing = asks_from ranks 0 names;
      answers = replicate (length names) 0;
    }

-- the reply to a query of rank f: the number of the query and the value of its column
abbrev pub ask_reply_to : List ℕ → ℕ → Item → ℕ × Item
ask_reply_to table f x = (f, record { a = x.b; b = slice_index table x.a; c = 0 })

-- the replies to lists of queries, whose senders begin at f
abbrev pub ask_replies_from : List ℕ → ℕ → List (List Item) → List (ℕ × Item)
ask_replies_from table f [] = []
ask_replies_from table f (q ∷ qs) = map (ask_reply_to table f) q ++ ask_replies_from table (suc f) qs

-- in round 0 a rank may be sent queries for its own columns, and later any reply
abbrev pub is_asked : List ℕ → ℕ → ℕ → ℕ → ℕ → Item → Bool
is_asked (columns ∷ []) ranks round to from x =
    nat_lt from ranks && (not (round == 0) || (nat_lt x.a columns && x.a % ranks == to)) && nat_lt to ranks && is_item x
is_asked shape ranks round to from x = false

-- the query is appended to its sender's list
abbrev pub noted_ask : List (List Item) → ℕ → Item → List (List Item)
noted_ask queries f x = changed_at queries f [] (λ q. q ++ x ∷ [])

-- the answer of number a is b, or stays where it is greater
abbrev pub answered_number : List ℕ → Item → List ℕ
answered_number answers x = changed_at answers x.a 0 (λ v. max v x.b)

-- A query that came: of an own column.
abbrev pub IsAskQuery : ℕ → Item → Type 0
IsAskQuery columns x = (x.a < columns) × (x.b < 2 ^ 64)

-- every column has a value, every sender a list of queries, and what is sent fits
pub record IsAsk (s : AskState) : Type 0 where
  pub own : s.rank < s.ranks
  pub values : All (λ v. v < 2 ^ 64) s.table
  pub columns : length s.table < 2 ^ 32
  pub senders : length s.queries ≡ s.ranks
  pub asked : All (All (IsAskQuery (length s.table))) s.queries
  pub fit : All (λ e. is_asked (length s.table ∷ []) s.ranks s.round e.0 s.rank e.1 ≡ true) s.outgoing

abbrev pub ask_rules : Rules AskState
ask_rules =
    record {
      valid = IsAsk;
      rank = λ s. s.rank;
      ranks = λ s. s.ranks;
      round = λ s. s.round;
      shape = λ s. length s.table ∷ [];
      most = λ s. 2;
      emissions = λ s. s.outgoing;
      may_be_sent = is_asked;
      absorbed = λ s from x. record s {
        queries = if s.round == 0 then noted_ask s.queries from x else s.queries;
        answers = (if s.round == 0 then s.answers else answered_number s.answers x);
      };
      vote = λ s. 0;
      goes_on = λ shape round votes. round == 0;
      ended = λ s votes. record s {
        round = min (s.round + 1) (2 ^ 64 - 1);
        outgoing = (if s.round == 0 then ask_replies_from s.table 0 s.queries else []);
      };
    }
