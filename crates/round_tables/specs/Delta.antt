-- The rounds of sssp by buckets: each is a step of delta-stepping over the whole graph.
use Rattle.std.specs.Prelude.{◌≡◌, ◌⊎◌, ◌≤◌, ◌<◌, ◌+◌, ◌*◌, ◌%◌, ◌==◌, ◌&&◌, ◌||◌, not, ℕ, nat_abs, nat_le, Bool, true}
use Rattle.std.specs.Prelude.{if◌then◌else◌}
use Rattle.std.specs.Prelude.{false, List, [], Option, Some, None, Contains, map}
use Rattle.std.specs.List.{filter, flat_map, fold, list_any, range_with_len}
use Rattle.bale_items.specs.declared.Item.{Item}
use Rattle.bale_items.specs.declared.triple.Triple.{Triple}
use Rattle.mtx_text.specs.Sparse.{Sparse}
use Rattle.mtx_text.specs.Cells.{gathered_cells}
use Rattle.round_program.specs.Canonical.{HasRounds}
use Rattle.sparse_rows.specs.Deals.{dealt}
use Rattle.least_walks.specs.Vertices.{is_better, lesser, weight_in}
use Rattle.least_walks.specs.Walks.{AtMost, IsLeast}
use Rattle.app_sssp.specs.SsspRuns.{IsGraph}
use Rattle.delta_step.specs.declared.phase.Phase.{Phase}
use Rattle.delta_step.specs.declared.phase.Phase.TheVariants.{First, Find, Light, Heavy}
use Rattle.delta_step.specs.Deltas.{delta_rules, bucket_of}
use Rattle.delta_step.specs.DeltaRuns.{delta_starts}
use Rattle.sparse_rows.specs.Emits.{item, Emit}
use Rattle.round_tables.specs.Sssp.{to_rows, vertex_offers}

-- What all ranks together know as a round is over.
pub record Look : Type 0 where
  -- what the round was for
  pub phase : Phase
  -- the least weight found for each vertex
  pub found : ℕ → Option ℕ
  -- which vertices are still to offer their weight
  pub pending : ℕ → Bool
  -- which vertices were active in the bucket at work
  pub settled : ℕ → Bool
  -- the bucket at work: that of the weights x with x div width = bucket
  pub bucket : ℕ

-- An edge is light if it weighs at most the width of a bucket, and else heavy.
-- with width 4, of (0,1,3), (1,2,2), (0,2,7) the first two are light
abbrev pub is_light : ℕ → Triple → Bool
is_light width t = nat_le (nat_abs t.v) width

-- The active vertices: the pending ones with a weight of the bucket at work.
-- with width 4 and bucket 0, a pending vertex of weight 3 is active, one of weight 5 isn't
abbrev pub is_active : ℕ → Look → ℕ → Bool
is_active width x v = x.pending v && weight_in width x.bucket (x.found v)

abbrev pub some_active : Sparse → ℕ → Look → Bool
some_active m width x = list_any (is_active width x) (range_with_len 0 m.rows)

-- What the next round is for: the edges are told first; then for each bucket comes a find round,
-- light ones as long as some vertex is active, and a heavy one.
-- after a light round: light if a vertex is active, and else heavy
abbrev pub next_phase : Phase → Bool → Phase
next_phase First active = Find
next_phase Find active = Light
next_phase Light active = if active then Light else Heavy
next_phase Heavy active = Find

abbrev pub next_of : Sparse → ℕ → Look → Phase
next_of m width x = next_phase x.phase (some_active m width x)

-- ---- What changes in a round

-- A vertex took the weight that one of some edges offered, if it had none or a greater one.
pub record Took (entries : List Triple) (sent : Triple → Bool) (old new : ℕ → Option ℕ) (v : ℕ) : Type 0 where
  pub edge : Triple
  pub is : Contains entries edge
  pub was_sent : sent edge ≡ true
  pub to : edge.j ≡ v
  pub before : ℕ
  pub from : old edge.i ≡ Some before
  pub took : new v ≡ Some (before + nat_abs edge.v)
  pub better : is_better (before + nat_abs edge.v) (old v) ≡ true

-- Some edges offered: no vertex has more than it was offered, and each is as it was, or took an
-- offer and is pending.
pub record Improves (entries : List Triple) (sent : Triple → Bool) (old : ℕ → Option ℕ) (was : ℕ → Bool)
    (y : Look) : Type 0 where
  pub tried : (e : Triple) → Contains entries e → sent e ≡ true → (w : ℕ) → old e.i ≡ Some w
      → AtMost (y.found e.j) (w + nat_abs e.v)
  pub each : (v : ℕ)
      → ((y.found v ≡ old v) × (y.pending v ≡ was v)) ⊎ ((y.pending v ≡ true) × Took entries sent old y.found v)

-- In a find round all ranks hear of the least bucket with a pending vertex, and none is settled.
pub record Finds (m : Sparse) (width : ℕ) (x y : Look) : Type 0 where
  pub found : (v : ℕ) → y.found v ≡ x.found v
  pub pending : (v : ℕ) → y.pending v ≡ x.pending v
  pub settled : (v : ℕ) → y.settled v ≡ false
  pub least : (v w : ℕ) → y.pending v ≡ true → y.found v ≡ Some w → y.bucket * width ≤ w
  pub reached : (v : ℕ) → y.pending v ≡ true → some_active m width y ≡ true

-- In a light round the light edges of active vertices offer; these become settled, and are pending
-- only if they took an offer.
pub record Lights (m : Sparse) (width : ℕ) (x y : Look) : Type 0 where
  pub bucket : y.bucket ≡ x.bucket
  pub settled : (v : ℕ) → y.settled v ≡ (x.settled v || is_active width x v)
  pub improves : Improves m.entries (λ e. is_light width e && is_active width x e.i) x.found
      (λ v. x.pending v && not (weight_in width x.bucket (x.found v))) y

-- What a round of each kind changes. In a heavy round the heavy edges of settled vertices offer.
abbrev pub Changes : Phase → Sparse → ℕ → Look → Look → Type 0
Changes First m width x y = ⊥
Changes Find m width x y = Finds m width x y
Changes Light m width x y = Lights m width x y
Changes Heavy m width x y = Improves m.entries (λ e. not (is_light width e) && x.settled e.i) x.found x.pending y

-- ---- What is emitted in a round

-- The own vertices that pass a test, ascending.
-- of 5 vertices on 2 ranks, rank 1 has of those above 0 the vertices 1, 3
abbrev pub own_vertices : ℕ → Sparse → (ℕ → Bool) → ℕ → List ℕ
own_vertices ranks m test r = dealt (λ i. i % ranks) r (filter test (range_with_len 0 m.rows))

-- The least weight of an own pending vertex, or None if none is pending.
abbrev pub least_pending : ℕ → Sparse → Look → ℕ → Option ℕ
least_pending ranks m x r = fold (λ w v. lesser w (x.found v)) None (own_vertices ranks m x.pending r)

-- What own vertices that pass a test offer along the edges that are wanted.
-- for each such vertex i, ascending, of weight w, and each such edge (i,j,v) by j: to j mod ranks,
-- (j, w + v, 0)
abbrev pub offers : ℕ → Sparse → (ℕ → Option ℕ) → (ℕ → Bool) → (Triple → Bool) → ℕ → List (ℕ × Item)
offers ranks m found test wanted r =
    flat_map (λ i. vertex_offers ranks (found i) (filter (λ t. t.i == i && wanted t) (gathered_cells m.entries)))
    (own_vertices ranks m test r)

-- What a rank emits in a round of each kind.
-- find: to each rank the least own bucket, and 2^64 - 1 if nothing is pending; light: what
-- active vertices offer along light edges; heavy: what settled ones offer along heavy edges
-- of (0,1,3), (1,2,2), (0,2,7) from 0 with width 4 on 2 ranks: in round 1, find, rank 0 emits
-- (0,0,0) and rank 1 (2^64 - 1, 0, 0) to both; in round 2, light, rank 0 emits (1,3,0) to rank 1;
-- in round 3, light, rank 1 emits (2,5,0) to rank 0; in round 4, heavy, rank 0 emits (2,7,0) to
-- rank 0; and in round 5, find, rank 0 emits (1,0,0), since 5 div 4 = 1
abbrev pub line_in : Phase → ℕ → Sparse → ℕ → Look → ℕ → List (ℕ × Item)
line_in First ranks m width x r = []
line_in Find ranks m width x r =
    map (λ d. (d, item (bucket_of width (least_pending ranks m x r)) 0 0)) (range_with_len 0 ranks)
line_in Light ranks m width x r = offers ranks m x.found (is_active width x) (is_light width) r
line_in Heavy ranks m width x r = offers ranks m x.found x.settled (λ t. not (is_light width t)) r

-- Delta-stepping tells the entries in round 0, when the source alone is found and pending. From
-- then on each round is the next step, until nothing is pending in a find round; in every find
-- round before, a vertex became active. Then each weight is least.
pub record HasDeltaRounds (ranks : ℕ) (m : Sparse) (source width : ℕ) : Type 0 where
  pub look : ℕ → Look
  pub begins : (look 0).phase ≡ First
  pub source_found : (v : ℕ) → (look 0).found v ≡ (if v == source then Some 0 else None)
  pub source_pending : (v : ℕ) → (look 0).pending v ≡ (v == source)
  pub last : ℕ
  pub few : last ≤ m.rows * (m.rows + 2) + 1
  pub phases : (n : ℕ) → n < last → (look (n + 1)).phase ≡ next_of m width (look n)
  pub changes : (n : ℕ) → n < last → Changes (next_of m width (look n)) m width (look n) (look (n + 1))
  pub some : (n : ℕ) → n < last → (look n).phase ≡ Find → some_active m width (look n) ≡ true
  pub over : (look last).phase ≡ Find
  pub none : (v : ℕ) → (look last).pending v ≡ false
  pub least : (v : ℕ) → IsLeast m.entries source v ((look last).found v)
  pub rounds : HasRounds delta_rules (delta_starts ranks m source width) (last + 1)
  pub entries_sent : Emit delta_rules (delta_starts ranks m source width) 0 ranks (to_rows ranks m)
  pub sent : (n : ℕ) → n < last
      → Emit delta_rules (delta_starts ranks m source width) (n + 1) ranks
      (line_in (next_of m width (look n)) ranks m width (look n))

abbrev pub DeltaRounds : Type 0
DeltaRounds = (ranks : ℕ) (m : Sparse) (source width : ℕ) → 1 ≤ ranks → ranks ≤ 64 → 1 ≤ width
    → width ≤ 1_000_000_000_000 → IsGraph m → source < m.rows
    → HasDeltaRounds ranks m source width
