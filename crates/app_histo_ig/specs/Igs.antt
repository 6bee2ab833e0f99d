-- ig, as a program in three rounds: sums, queries and replies.
use Rattle.std.specs.Prelude.{ℕ, suc, ◌+◌, ◌-◌, ◌%◌, ◌/◌, ◌^◌, ◌<◌, ◌≡◌, ◌==◌, ◌&&◌, ◌||◌, nat_lt, min, max, Bool, true}
use Rattle.std.specs.Prelude.{if◌then◌else◌}
use Rattle.std.specs.Prelude.{false, List, [], ◌∷◌, ◌++◌, map, length, slice_index_or}
use Rattle.std.specs.List.{All}
use Rattle.bale_items.specs.declared.Item.{Item}
use Rattle.bale_items.specs.Bits.{twos_complement}
use Rattle.list_laws.specs.Lists.{changed_at}
use Rattle.round_program.specs.Rules.{Rules}
use Rattle.round_program.specs.Laws.{is_item}
use Rattle.sparse_rows.specs.Owners.{Numbered, places_for}
use Rattle.app_histo_ig.specs.Owners.{with_sum_risen}

-- one rank's part
pub record IgState : Type 0 where
  pub rank : ℕ
  pub ranks : ℕ
  pub round : ℕ
  -- the matrix's number of columns
  pub cols : ℕ
  -- the rank's entries, in order: the number of each in the matrix, and its column
  pub own : List (ℕ × ℕ)
  -- the sums of own columns, as words; that of column j is at j div ranks
  pub sums : List ℕ
  -- the queries that came, by sender
  pub queries : List (List Item)
  -- what is sent in this round
  pub outgoing : List (ℕ × Item)
  -- the sums of the own entries' columns, as words; that of entry number e is at e div ranks
  pub answers : List ℕ

-- round 0: the value of an entry, in transit to its column's owner
abbrev pub value_item : Numbered → Item
value_item e = record { a = e.1.j; b = twos_complement e.1.v; c = 0 }

-- round 1: the query of entry number e for the sum of column j
abbrev pub query_item : ℕ → ℕ → Item
query_item e j = record { a = j; b = e; c = 0 }

abbrev pub to_ask : ℕ → ℕ × ℕ → ℕ × Item
to_ask ranks e = (e.1 % ranks, query_item e.0 e.1)

-- round 2: the reply to a query of rank f: the number of its entry and the sum of its column
abbrev pub ig_reply_to : ℕ → List ℕ → ℕ → Item → ℕ × Item
ig_reply_to ranks sums f x = (f, record { a = x.b; b = slice_index_or sums (x.a / ranks) 0; c = 0 })

-- the replies to lists of queries, whose senders begin at f
abbrev pub ig_replies_from : ℕ → List ℕ → ℕ → List (List Item) → List (ℕ × Item)
ig_replies_from ranks sums f [] = []
ig_replies_from ranks sums f (q ∷ qs) = map (ig_reply_to ranks sums f) q ++ ig_replies_from ranks sums (suc f) qs

-- a query that came: of a column, for an entry whose number is a word
abbrev pub IsIgQuery : ℕ → Item → Type 0
IsIgQuery cols x = (x.a < cols) × (x.b < 2 ^ 64)

-- the query is appended to its sender's list
abbrev pub noted_query : List (List Item) → ℕ → Item → List (List Item)
noted_query queries f x = changed_at queries f [] (λ q. q ++ x ∷ [])

-- the answer of entry number a is b, or stays where it is greater
abbrev pub answered_entry : ℕ → List ℕ → Item → List ℕ
answered_entry ranks answers x = changed_at answers (x.a / ranks) 0 (λ v. max v x.b)

-- in rounds 0 and 1 an owner may be sent its columns, and later any rank any reply
abbrev pub may_ig : List ℕ → ℕ → ℕ → ℕ → ℕ → Item → Bool
may_ig (cols ∷ []) ranks round to from x =
    nat_lt from ranks && nat_lt to ranks && (nat_lt 1 round || (nat_lt x.a cols && x.a % ranks == to)) && is_item x
may_ig shape ranks round to from x = false

-- each own entry is in a column, there is a place for each own column, and what is sent fits
pub record IsIg (s : IgState) : Type 0 where
  pub own_rank : s.rank < s.ranks
  pub wide : s.cols < 2 ^ 32
  pub named : All (λ e. (e.0 < 2 ^ 64) × (e.1 < s.cols)) s.own
  pub words : All (λ v. v < 2 ^ 64) s.sums
  pub places : length s.sums ≡ places_for s.ranks s.cols
  pub senders : length s.queries ≡ s.ranks
  pub asked : All (All (IsIgQuery s.cols)) s.queries
  pub fit : All (λ e. may_ig (s.cols ∷ []) s.ranks s.round e.0 s.rank e.1 ≡ true) s.outgoing

-- what is sent after this round: queries after round 0, replies after round 1, and then nothing
abbrev pub ig_next_outgoing : IgState → List (ℕ × Item)
ig_next_outgoing s =
    if s.round == 0 then map (to_ask s.ranks) s.own else if s.round == 1 then ig_replies_from s.ranks s.sums 0 s.queries
    else []

abbrev pub ig_rules : Rules IgState
ig_rules =
    record {
      valid = IsIg;
      rank = λ s. s.rank;
      ranks = λ s. s.ranks;
      round = λ s. s.round;
      shape = λ s. s.cols ∷ [];
      most = λ s. 3;
      emissions = λ s. s.outgoing;
      may_be_sent = may_ig;
      absorbed = λ s from x. record s {
        sums = if s.round == 0 then with_sum_risen s.ranks s.sums x else s.sums;
        queries = if s.round == 1 then noted_query s.queries from x else s.queries;
        answers = if nat_lt 1 s.round then answered_entry s.ranks s.answers x else s.answers;
      };
      vote = λ s. 0;
      goes_on = λ shape round votes. nat_lt round 2;
      ended = λ s votes. record s { round = min (s.round + 1) (2 ^ 64 - 1); outgoing = ig_next_outgoing s };
    }
