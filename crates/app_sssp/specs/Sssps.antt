-- sssp, as a program in rounds of improvements.
use Rattle.std.specs.Prelude.{ℕ, ◌+◌, ◌-◌, ◌%◌, ◌/◌, ◌^◌, ◌<◌, ◌≤◌, ◌≡◌, ◌==◌, ◌&&◌, ◌||◌, not, nat_lt, min, Bool, true}
use Rattle.std.specs.Prelude.{if◌then◌else◌}
use Rattle.std.specs.Prelude.{false, List, [], ◌∷◌, map, length}
use Rattle.std.specs.List.{All}
use Rattle.bale_items.specs.declared.Item.{Item}
use Rattle.bale_items.specs.declared.triple.Triple.{Triple}
use Rattle.bale_items.specs.Bits.{from_twos_complement}
use Rattle.mtx_text.specs.Cells.{InOrder, with_value_raised}
use Rattle.round_program.specs.Rules.{Rules}
use Rattle.round_program.specs.Laws.{is_item}
use Rattle.sparse_rows.specs.Owners.{places_for}
use Rattle.least_walks.specs.declared.table.Edge.{Edge}
use Rattle.least_walks.specs.declared.vertices.Vertex.{Vertex}
use Rattle.least_walks.specs.Tables.{table_of, offers_by_place}
use Rattle.least_walks.specs.Vertices.{improved_at, marked_places, calm}

-- one rank's part
pub record SsspState : Type 0 where
  pub rank : ℕ
  pub ranks : ℕ
  pub round : ℕ
  -- the number of vertices
  pub rows : ℕ
  -- the edges of own vertices that came in round 0
  pub arriving : List Triple
  -- the edges of own vertices from then on, by place
  pub table : List (List Edge)
  -- own vertices by place; marked are those that were improved in this round
  pub vertices : List Vertex
  -- what is sent in this round
  pub outgoing : List (ℕ × Item)

-- in round 0 a rank may be sent edges of its vertices, and later weights of its vertices
abbrev pub may_sssp : List ℕ → ℕ → ℕ → ℕ → ℕ → Item → Bool
may_sssp (rows ∷ []) ranks round to from x =
    nat_lt from ranks && nat_lt to ranks && nat_lt x.a rows && x.a % ranks == to && (nat_lt 0 round || nat_lt x.b rows)
    && is_item x
may_sssp shape ranks round to from x = false

-- an entry in transit to the owner of its row
abbrev pub edge_came : Item → Triple
edge_came x = record { i = x.a; j = x.b; v = from_twos_complement x.c }

-- an edge knows its end's owner
pub record IsEdge (ranks rows : ℕ) (e : Edge) : Type 0 where
  pub inside : e.to < rows
  pub owned : e.owner ≡ e.to % ranks

-- an entry inside a square matrix
pub record IsInsideSquare (rows : ℕ) (t : Triple) : Type 0 where
  pub row : t.i < rows
  pub col : t.j < rows

-- edges lie inside, there is a place for each own vertex, and what is sent fits
pub record IsSssp (s : SsspState) : Type 0 where
  pub own : s.rank < s.ranks
  pub wide : s.rows ≤ 16384
  pub arrived : All (IsInsideSquare s.rows) s.arriving
  pub ordered : InOrder s.arriving
  pub edges : All (All (IsEdge s.ranks s.rows)) s.table
  pub rows_kept : 0 < s.round → length s.table ≡ length s.vertices
  pub places : length s.vertices ≡ places_for s.ranks s.rows
  pub fit : All (λ e. may_sssp (s.rows ∷ []) s.ranks s.round e.0 s.rank e.1 ≡ true) s.outgoing

-- the edges by place as the round ends: those that came, after round 0
abbrev pub table_after : SsspState → List (List Edge)
table_after s = if s.round == 0 then table_of s.ranks (length s.vertices) 0 (2 ^ 64 - 1) s.arriving else s.table

abbrev pub sssp_rules : Rules SsspState
sssp_rules =
    record {
      valid = IsSssp;
      rank = λ s. s.rank;
      ranks = λ s. s.ranks;
      round = λ s. s.round;
      shape = λ s. s.rows ∷ [];
      most = λ s. s.rows + 1;
      emissions = λ s. s.outgoing;
      may_be_sent = may_sssp;
      absorbed = λ s from x. record s {
        arriving = if s.round == 0 then with_value_raised (edge_came x) s.arriving else s.arriving;
        vertices = if s.round == 0 then s.vertices else improved_at (x.a / s.ranks) x.b s.vertices;
      };
      vote = λ s. if s.round == 0 then 0 else length (marked_places s.vertices);
      goes_on = λ shape round votes. round == 0 || not (votes == 0);
      ended = λ s votes. record s {
        round = min (s.round + 1) (2 ^ 64 - 1);
        arriving = if s.round == 0 then [] else s.arriving;
        table = table_after s;
        vertices = map calm s.vertices;
        outgoing = offers_by_place (table_after s) (map calm s.vertices) (marked_places s.vertices);
      };
    }
