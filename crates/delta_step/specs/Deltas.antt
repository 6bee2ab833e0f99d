-- sssp by buckets, as a program: delta-stepping after Meyer and Sanders.
use Rattle.std.specs.Prelude.{ℕ, ◌+◌, ◌-◌, ◌*◌, ◌%◌, ◌/◌, ◌^◌, ◌<◌, ◌≤◌, ◌≡◌, ◌≢◌, ◌==◌, ◌&&◌, ◌||◌, ◌++◌, not, nat_lt}
use Rattle.std.specs.Prelude.{if◌then◌else◌}
use Rattle.std.specs.Prelude.{min, Bool, true, false, List, [], ◌∷◌, Option, None, Some, map, length}
use Rattle.std.specs.List.{All, filter, list_any, range_with_len}
use Rattle.bale_items.specs.declared.Item.{Item}
use Rattle.bale_items.specs.declared.triple.Triple.{Triple}
use Rattle.mtx_text.specs.Cells.{InOrder, with_value_raised}
use Rattle.round_program.specs.Rules.{Rules}
use Rattle.round_program.specs.Laws.{is_item}
use Rattle.sparse_rows.specs.Owners.{places_for}
use Rattle.least_walks.specs.declared.table.Edge.{Edge}
use Rattle.least_walks.specs.declared.vertices.Vertex.{Vertex}
use Rattle.least_walks.specs.Tables.{table_of, offers_by_place}
use Rattle.least_walks.specs.Vertices.{improved_at, marked_places, in_bucket, places_where, calm_if, least_marked}
use Rattle.app_sssp.specs.Sssps.{edge_came, IsEdge, IsInsideSquare}
use Rattle.delta_step.specs.declared.phase.Phase.{Phase}
use Rattle.delta_step.specs.declared.phase.Phase.TheVariants.{First, Find, Light, Heavy}

-- one rank's part
pub record DeltaState : Type 0 where
  pub rank : ℕ
  pub ranks : ℕ
  pub round : ℕ
  -- the number of vertices
  pub rows : ℕ
  -- how many weights a bucket has: weight x is in bucket x div width; an edge is light if it
  -- weighs at most as much
  pub width : ℕ
  pub phase : Phase
  -- the edges of own vertices that came in the first round
  pub arriving : List Triple
  -- the light and the heavy edges of own vertices from then on, by place
  pub light : List (List Edge)
  pub heavy : List (List Edge)
  -- own vertices by place; marked are the pending ones
  pub vertices : List Vertex
  -- the bucket: the least that was absorbed in a find round
  pub bucket : ℕ
  -- the places of own vertices that were active in this bucket
  pub settled : List ℕ
  -- what is sent in this round
  pub outgoing : List (ℕ × Item)

-- in round 0 a rank may be sent edges of its vertices, and later every item
abbrev pub may_delta : List ℕ → ℕ → ℕ → ℕ → ℕ → Item → Bool
may_delta (rows ∷ []) ranks round to from x =
    nat_lt from ranks && nat_lt to ranks
    && (nat_lt 0 round || (nat_lt x.a rows && x.a % ranks == to && nat_lt x.b rows)) && is_item x
may_delta shape ranks round to from x = false

-- Stands for no bucket.
abbrev pub no_bucket : ℕ
no_bucket = 2 ^ 64 - 1

-- The bucket of a least weight, or `no_bucket` if nothing is pending.
abbrev pub bucket_of : ℕ → Option ℕ → ℕ
bucket_of width None = no_bucket
bucket_of width (Some w) = min (w / width) no_bucket

-- Every rank is told this rank's least bucket.
abbrev pub announced_items : ℕ → ℕ → List (ℕ × Item)
announced_items ranks bucket = map (λ d. (d, record { a = bucket; b = 0; c = 0 })) (range_with_len 0 ranks)

-- Some places below n, ascending, each once.
-- ascending 5 (3, 1, 3) = 1, 3
abbrev pub ascending : ℕ → List ℕ → List ℕ
ascending n places = filter (λ p. list_any (λ q. p == q) places) (range_with_len 0 n)

-- ---- Absorbs

abbrev pub offered_along : DeltaState → Item → List Vertex
offered_along s x =
    if nat_lt x.a s.rows && x.a % s.ranks == s.rank then improved_at (x.a / s.ranks) x.b s.vertices else s.vertices

abbrev pub absorbed_in : Phase → DeltaState → Item → DeltaState
absorbed_in First s x = record s { arriving = with_value_raised (edge_came x) s.arriving }
absorbed_in Find s x = record s { bucket = min s.bucket x.a }
absorbed_in Light s x = record s { vertices = offered_along s x }
absorbed_in Heavy s x = record s { vertices = offered_along s x }

-- ---- Votes

abbrev pub vote_in : Phase → DeltaState → ℕ
vote_in First s = 1
vote_in Find s = length (marked_places s.vertices)
vote_in Light s = 1 + length (places_where (in_bucket s.width s.bucket) s.vertices)
vote_in Heavy s = 1

-- ---- Ends of rounds

abbrev pub next_round : DeltaState → ℕ
next_round s = min (s.round + 1) (2 ^ 64 - 1)

-- A find round begins, in which no vertex is settled.
abbrev pub finding : DeltaState → DeltaState
finding s =
    record s {
      round = next_round s;
      phase = Find;
      bucket = no_bucket;
      settled = [];
      outgoing = announced_items s.ranks (bucket_of s.width (least_marked s.vertices));
    }

-- The edges that came are light or heavy.
abbrev pub sorted_out : DeltaState → DeltaState
sorted_out s =
    record s {
      arriving = [];
      light = table_of s.ranks (length s.vertices) 0 s.width s.arriving;
      heavy = table_of s.ranks (length s.vertices) (s.width + 1) (2 ^ 64 - 1) s.arriving;
    }

-- The pending vertices of the bucket become active and settled, and a light round begins.
abbrev pub after_activation : DeltaState → DeltaState
after_activation s =
    record s {
      round = next_round s;
      phase = Light;
      vertices = map (calm_if (in_bucket s.width s.bucket)) s.vertices;
      settled = s.settled ++ places_where (in_bucket s.width s.bucket) s.vertices;
      outgoing = offers_by_place s.light (map (calm_if (in_bucket s.width s.bucket)) s.vertices)
          (places_where (in_bucket s.width s.bucket) s.vertices);
    }

-- The bucket is done, and a heavy round begins.
abbrev pub after_last_round : DeltaState → DeltaState
after_last_round s =
    record s {
      round = next_round s;
      phase = Heavy;
      settled = ascending (length s.vertices) s.settled;
      outgoing = offers_by_place s.heavy s.vertices (ascending (length s.vertices) s.settled);
    }

abbrev pub ended_in : Phase → DeltaState → ℕ → DeltaState
ended_in First s votes = finding (sorted_out s)
ended_in Find s votes = after_activation s
ended_in Light s votes = if nat_lt s.ranks votes then after_activation s else after_last_round s
ended_in Heavy s votes = finding s

-- edges lie inside, there is a place for each own vertex, and what is sent fits
pub record IsDelta (s : DeltaState) : Type 0 where
  pub own : s.rank < s.ranks
  pub wide : s.rows ≤ 16384
  pub some : 0 < s.width
  pub narrow : s.width ≤ 1_000_000_000_000
  pub early : s.phase ≡ First → s.round ≡ 0
  pub arrived : All (IsInsideSquare s.rows) s.arriving
  pub ordered : InOrder s.arriving
  pub light_edges : All (All (IsEdge s.ranks s.rows)) s.light
  pub heavy_edges : All (All (IsEdge s.ranks s.rows)) s.heavy
  pub light_kept : s.phase ≢ First → length s.light ≡ length s.vertices
  pub heavy_kept : s.phase ≢ First → length s.heavy ≡ length s.vertices
  pub places : length s.vertices ≡ places_for s.ranks s.rows
  pub placed : All (λ p. p < length s.vertices) s.settled
  pub fit : All (λ e. may_delta (s.rows ∷ []) s.ranks s.round e.0 s.rank e.1 ≡ true) s.outgoing

abbrev pub delta_rules : Rules DeltaState
delta_rules =
    record {
      valid = IsDelta;
      rank = λ s. s.rank;
      ranks = λ s. s.ranks;
      round = λ s. s.round;
      shape = λ s. s.rows ∷ [];
      most = λ s. s.rows * (s.rows + 2) + 2;
      emissions = λ s. s.outgoing;
      may_be_sent = may_delta;
      absorbed = λ s from x. absorbed_in s.phase s x;
      vote = λ s. vote_in s.phase s;
      goes_on = λ shape round votes. not (votes == 0);
      ended = λ s votes. ended_in s.phase s votes;
    }

-- Buckets may be so wide.
pub record IsWidth (delta : ℕ) : Type 0 where
  pub positive : 1 ≤ delta
  pub narrow : delta ≤ 1_000_000_000_000
