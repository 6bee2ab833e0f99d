-- The rounds of sssp.
use Rattle.std.specs.Prelude.{◌≡◌, ◌≢◌, ◌≤◌, ◌<◌, ◌+◌, ◌%◌, ◌==◌, ℕ, zero, suc, nat_abs, Bool, false, List, [], Option}
use Rattle.std.specs.Prelude.{Some, None, map, length}
use Rattle.std.specs.List.{filter, flat_map, range_with_len}
use Rattle.bale_items.specs.declared.Item.{Item}
use Rattle.bale_items.specs.declared.triple.Triple.{Triple}
use Rattle.bale_items.specs.Bits.{twos_complement}
use Rattle.mtx_text.specs.Sparse.{Sparse}
use Rattle.mtx_text.specs.Cells.{gathered_cells}
use Rattle.round_program.specs.Canonical.{HasRounds}
use Rattle.sparse_rows.specs.Deals.{dealt}
use Rattle.sparse_rows.specs.Owners.{own_entries}
use Rattle.least_walks.specs.Vertices.{is_better}
use Rattle.least_walks.specs.Walks.{IsWalk, weight_of, AtMost}
use Rattle.app_sssp.specs.Sssps.{sssp_rules}
use Rattle.app_sssp.specs.SsspRuns.{IsGraph, sssp_starts}
use Rattle.sparse_rows.specs.Emits.{item, Emit}

-- Round 0: each own entry, to the owner of its row.
-- for each own entry (i,j,v) in order: to i mod ranks, (i, j, bits of v)
-- of (0,1,3), (1,2,2), (0,2,7) on 2 ranks: rank 0 emits (0,1,3) and then (0,2,7) to rank 0, rank 1
-- emits (1,2,2) to rank 1
abbrev pub to_rows : ℕ → Sparse → ℕ → List (ℕ × Item)
to_rows ranks m r = map (λ e. (e.1.i % ranks, item e.1.i e.1.j (twos_complement e.1.v))) (own_entries ranks r m.entries)

-- The least weight of a walk from s to t of at most k edges, or None if there is no such walk.
-- over the same from 0 to 2: of at most 0 edges None, of at most 1 edge 7, of at most 2 edges 5
pub record IsLeastWithin (entries : List Triple) (s k t : ℕ) (found : Option ℕ) : Type 0 where
  -- it is the weight of such a walk
  pub walked : (w : ℕ) → found ≡ Some w
      → (walk : List Triple) × IsWalk entries s t walk × (length walk ≤ k) × (weight_of walk ≡ w)
  -- and no such walk weighs less
  pub least : (walk : List Triple) → IsWalk entries s t walk → length walk ≤ k → AtMost found (weight_of walk)

-- There is a weight, and it is better than an old one.
abbrev pub falls : Option ℕ → Option ℕ → Bool
falls old None = false
falls old (Some w) = is_better w old

-- found k v is a weight of vertex v with at most k edges. It improves with k edges if it is
-- better than with fewer; with none it improves if it is there, which is at the source.
-- of the same from 0: vertex 2 improves with 1 edge, from None to 7, and with 2 edges, from 7 to 5
abbrev pub improves : (ℕ → ℕ → Option ℕ) → ℕ → ℕ → Bool
improves found zero v = falls None (found 0 v)
improves found (suc k) v = falls (found k v) (found (suc k) v)

-- The vertices that improve with k edges, ascending.
-- of the same from 0: 0 with none, 1, 2 with 1 edge, 2 with 2 edges, and no vertex with 3
abbrev pub improved_with : Sparse → (ℕ → ℕ → Option ℕ) → ℕ → List ℕ
improved_with m found k = filter (improves found k) (range_with_len 0 m.rows)

-- What a vertex of a weight offers along edges: to the owner of each edge's end, the end and the
-- sum of the weights.
-- offered 2 (Some 5) ((1,2,2)) = (2,7,0) to rank 0
abbrev pub vertex_offers : ℕ → Option ℕ → List Triple → List (ℕ × Item)
vertex_offers ranks None edges = []
vertex_offers ranks (Some w) edges = map (λ t. (t.j % ranks, item t.j (w + nat_abs t.v) 0)) edges

-- Round k + 1: what the own vertices that improve with k edges offer.
-- for each own vertex i that improves with k edges, ascending, of weight w, and each edge (i,j,v)
-- by j: to j mod ranks, (j, w + v, 0)
-- of the same from 0 on 2 ranks: in round 1 rank 0 emits (1,3,0) to rank 1 and then (2,7,0) to rank
-- 0, in round 2 rank 1 emits (2,5,0) to rank 0, and in round 3 no rank emits anything
abbrev pub offers : ℕ → Sparse → (ℕ → ℕ → Option ℕ) → ℕ → ℕ → List (ℕ × Item)
offers ranks m found k r =
    flat_map (λ i. vertex_offers ranks (found k i) (filter (λ t. t.i == i) (gathered_cells m.entries)))
    (dealt (λ i. i % ranks) r (improved_with m found k))

-- sssp tells the entries in round 0. Then it has a round for each number of edges with which some
-- vertex improves: in it these vertices offer their weights.
pub record HasSsspRounds (ranks : ℕ) (m : Sparse) (source : ℕ) : Type 0 where
  pub found : ℕ → ℕ → Option ℕ
  pub least : (k v : ℕ) → k ≤ m.rows → IsLeastWithin m.entries source k v (found k v)
  pub last : ℕ
  pub few : last ≤ m.rows
  pub some : (k : ℕ) → k < last → improved_with m found k ≢ []
  pub none : improved_with m found last ≡ []
  pub rounds : HasRounds sssp_rules (sssp_starts ranks m source) (last + 1)
  pub entries_sent : Emit sssp_rules (sssp_starts ranks m source) 0 ranks (to_rows ranks m)
  pub offers_sent : (k : ℕ) → k < last
      → Emit sssp_rules (sssp_starts ranks m source) (k + 1) ranks (offers ranks m found k)

abbrev pub SsspRounds : Type 0
SsspRounds = (ranks : ℕ) (m : Sparse) (source : ℕ) → 1 ≤ ranks → IsGraph m → source < m.rows
    → HasSsspRounds ranks m source
