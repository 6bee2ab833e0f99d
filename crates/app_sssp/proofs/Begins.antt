-- What all ranks have after round 0: their own edges, and the source.
use Rattle.std.proofs.Common.{ℕ, ◌+◌, ◌-◌, ◌/◌, ◌%◌, ◌^◌, ◌<◌, ◌≤◌, ◌≡◌, ◌≢◌, ◌==◌, Bool, true, false, cond, eqb, List, [], ◌∷◌, Some, None, ℤ, pos, negsuc, length, map, replicate, get_or, slice_get, All, arith, inl, inr, refl, sym, ap, ◌∙◌, subst}
use Rattle.std.specs.Prelude.{Contains, nat_abs, nat_lt}
use Rattle.std.specs.List.{filter}
use Rattle.std.proofs.Math.Nat.{mod-lt}
use Rattle.std.proofs.lemmas.Bool.{cases_eq, cases_lt, eq-eqb, ne_eqb, lt-ltb, eqb-true, and_from, and_parts, false≢true}
use Rattle.std.proofs.lemmas.Bool.Decides.{nat_tests}
use Rattle.std.proofs.lemmas.List.{length-replicate, get_or-replicate, get_or_past, get_or-set_same, get_or-set_other}
use Rattle.std.proofs.lemmas.List.Elements.{All-nil, All-map, All-filter, All-contains}
use Rattle.std.proofs.lemmas.List.Sorted.{Contains-permutation, IsPermutation-sym}
use Rattle.std.proofs.lemmas.List.FromFn.{get_or-map-range_with_len}
use Rattle.bale_items.specs.declared.Item.{Item}
use Rattle.bale_items.specs.declared.triple.Triple.{Triple}
use Rattle.bale_items.specs.Bits.{twos_complement, from_twos_complement}
use Rattle.mtx_text.specs.Sparse.{Sparse, IsSparse}
use Rattle.mtx_text.specs.Cells.{with_value_raised, raised_all, gathered_cells}
use Rattle.round_program.specs.Canonical.{absorbed_round, InRound}
use Rattle.round_program.specs.Orders.{absorb_each}
use Rattle.sparse_rows.specs.Deals.{dealt}
use Rattle.sparse_rows.specs.Owners.{Numbered, with_numbers, entry_owner, row_owner, own_entries, places_for}
use Rattle.sparse_rows.proofs.EveryEntry.{came_to, every_owned}
use Rattle.sparse_rows.proofs.Gathering.{Differ, pairs_filter, row_of, landed, gathered_moves}
use Rattle.sparse_rows.proofs.Places.{place_below, place_own}
use Rattle.sparse_rows.proofs.Starts.{made_at, made_from, made_in_round, all_numbered, all_owned, numbered_map}
use Rattle.least_walks.specs.declared.vertices.Vertex.{Vertex}
use Rattle.least_walks.specs.Walks.{IsWalk, weight_of, AtMost}
use Rattle.least_walks.specs.Tables.{edge_of, in_range, is_kept, edges_at, table_of}
use Rattle.least_walks.specs.Vertices.{unreached_vertex, improve, improved_at}
use Rattle.least_walks.proofs.Rows.{table_len}
use Rattle.least_walks.proofs.Settled.{cost, all_plain}
use Rattle.std.proofs.lemmas.Option.{same_Some}
use Rattle.least_walks.proofs.Members.{none_in, has_filtered, was_filtered, has_mapped, was_mapped}
use Rattle.least_walks.proofs.Offered.{weighing}
use Rattle.app_sssp.specs.Sssps.{SsspState, IsSssp, IsInsideSquare, IsEdge, sssp_rules, may_sssp, edge_came}
use Rattle.app_sssp.specs.laws.SsspLaws.{sssp_laws, len_either}
use Rattle.app_sssp.specs.SsspRuns.{IsGraph, edge_item, vertices_begin, sssp_begins, sssp_starts}
use Rattle.app_sssp.proofs.Rounds.{Reached}
use Rattle.app_sssp.proofs.Stages.{AreEdges, Knows, vertex_at, stage_of, at_vertex, word_is}

-- the entries of a graph are edges
pub graph_edges : (m : Sparse) → IsGraph m → AreEdges m.rows m.entries
graph_edges m g =
    record {
      from = λ k d l. (g.matrix.inside k d l).row;
      to = λ k d l. subst (λ n. (get_or m.entries k d).j < n) g.square (g.matrix.inside k d l).col;
      plain = all_plain m.entries g.weights;
      light = λ k d l. (g.matrix.inside k d l).limit;
    }

-- ---- The vertices at the start

pub none_at : (n p : ℕ) → get_or (replicate n unreached_vertex) p unreached_vertex ≡ unreached_vertex
none_at n p = elim (cases_lt p n) [
  | inl low ↦ get_or-replicate n p unreached_vertex unreached_vertex low
  | inr past ↦ get_or_past (replicate n unreached_vertex) p unreached_vertex (let e : length (replicate n unreached_vertex) ≡ n = length-replicate n unreached_vertex in omega arith)
]

pub begin_source : (ranks rows source : ℕ) → 0 < ranks → source < rows → get_or (vertices_begin ranks rows source (source % ranks)) (source / ranks) unreached_vertex ≡ weighing 0
begin_source ranks rows source some low =
    let none : List Vertex = replicate (places_for ranks rows) unreached_vertex in
    let place : source / ranks < length none = subst (λ n. source / ranks < n) (sym (length-replicate (places_for ranks rows) unreached_vertex)) (place_below ranks rows source some low) in
    ap (λ b. get_or (cond b (improved_at (source / ranks) 0 none) none) (source / ranks) unreached_vertex) (eq-eqb (source % ranks) (source % ranks) refl)
    ∙ get_or-set_same none (source / ranks) (improve 0 (get_or none (source / ranks) unreached_vertex)) unreached_vertex place
    ∙ ap (improve 0) (none_at (places_for ranks rows) (source / ranks))

pub begin_other : (ranks rows source v : ℕ) → 0 < ranks → v ≢ source → get_or (vertices_begin ranks rows source (v % ranks)) (v / ranks) unreached_vertex ≡ unreached_vertex
begin_other ranks rows source v some apart =
    let none : List Vertex = replicate (places_for ranks rows) unreached_vertex in
    elim (cases_eq (source % ranks) (v % ranks)) [
      | inr away ↦
          ap (λ b. get_or (cond b (improved_at (source / ranks) 0 none) none) (v / ranks) unreached_vertex) (ne_eqb (source % ranks) (v % ranks) away)
          ∙ none_at (places_for ranks rows) (v / ranks)
      | inl same ↦
          ap (λ b. get_or (cond b (improved_at (source / ranks) 0 none) none) (v / ranks) unreached_vertex) (eq-eqb (source % ranks) (v % ranks) same)
          ∙ get_or-set_other none (source / ranks) (v / ranks) (improve 0 (get_or none (source / ranks) unreached_vertex)) unreached_vertex (λ e. apart (place_own ranks v source (sym same) e))
          ∙ none_at (places_for ranks rows) (v / ranks)
    ]

pub begin_len : (ranks rows source r : ℕ) → length (vertices_begin ranks rows source r) ≡ places_for ranks rows
begin_len ranks rows source r = either (source % ranks == r)
  where
    either : (b : Bool) → length (cond b (improved_at (source / ranks) 0 (replicate (places_for ranks rows) unreached_vertex)) (replicate (places_for ranks rows) unreached_vertex)) ≡ places_for ranks rows
    either true = len_either false (source / ranks) 0 (replicate (places_for ranks rows) unreached_vertex) ∙ length-replicate (places_for ranks rows) unreached_vertex
    either false = length-replicate (places_for ranks rows) unreached_vertex

-- ---- The start is that of a run

pub word_low : (v : ℤ) → nat_abs v ≤ 1_000_000_000_000 → twos_complement v < 2 ^ 64
word_low (pos n) h = omega arith
word_low (negsuc n) h = omega arith

pub begins_fit : (ranks : ℕ) (m : Sparse) (r : ℕ) → r < ranks → IsSparse m → m.cols ≡ m.rows → All {X = ℕ × Item} (λ e. may_sssp (m.rows ∷ []) ranks 0 e.0 r e.1 ≡ true) (map (λ (e : Numbered). (row_owner ranks e, edge_item e)) (own_entries ranks r m.entries))
begins_fit ranks m r low is square =
    All-map {X = ℕ × Item} (λ e. may_sssp (m.rows ∷ []) ranks 0 e.0 r e.1 ≡ true) (λ (e : Numbered). (row_owner ranks e, edge_item e)) (own_entries ranks r m.entries)
    (All-filter (λ (e : Numbered). e.0 % ranks == r) (λ (e : Numbered). may_sssp (m.rows ∷ []) ranks 0 (row_owner ranks e) r (edge_item e) ≡ true) (with_numbers m.entries)
    (all_numbered (λ (t : Triple). may_sssp (m.rows ∷ []) ranks 0 (t.i % ranks) r (record { a = t.i; b = t.j; c = twos_complement t.v }) ≡ true) 0 m.entries
    (λ k d l. fits_here m.rows ranks r (get_or m.entries k d) low is.tall (is.inside k d l).row (subst (λ n. (get_or m.entries k d).j < n) square (is.inside k d l).col) (word_low (get_or m.entries k d).v (is.inside k d l).limit))))
  where
    fits_here : (rows ranks r : ℕ) (t : Triple) → r < ranks → rows ≤ 16384 → t.i < rows → t.j < rows → twos_complement t.v < 2 ^ 64
        → may_sssp (rows ∷ []) ranks 0 (t.i % ranks) r (record { a = t.i; b = t.j; c = twos_complement t.v }) ≡ true
    fits_here rows ranks r t low tall row col word = grind (arith, nat_tests)

pub begins_valid : (ranks : ℕ) (m : Sparse) (source r : ℕ) → r < ranks → IsSparse m → m.cols ≡ m.rows → IsSssp (sssp_begins ranks m source r)
begins_valid ranks m source r low is square =
    record {
      own = low;
      wide = is.tall;
      arrived = All-nil (IsInsideSquare m.rows);
      ordered = λ i j d l m. absurd (omega arith);
      edges = All-nil (All (IsEdge ranks m.rows));
      rows_kept = λ l. absurd (omega arith);
      places = begin_len ranks m.rows source r;
      fit = begins_fit ranks m r low is square;
    }

pub starts_in_round : (ranks : ℕ) (m : Sparse) (source : ℕ) → IsSparse m → m.cols ≡ m.rows → InRound sssp_rules ranks 0 (m.rows ∷ []) (m.rows + 1) (sssp_starts ranks m source)
starts_in_round ranks m source is square =
    made_in_round sssp_rules (sssp_begins ranks m source) ranks 0 (m.rows ∷ []) (m.rows + 1)
    (λ r low. record { valid = begins_valid ranks m source r low is square; own_rank = refl; all_ranks = refl; same_round = refl; same_shape = refl; same_most = refl })

-- ---- Round 0

each_came : (s : SsspState) (es : List (ℕ × Item)) → absorb_each sssp_rules (record s { round = 0 }) es ≡ record s { round = 0; arriving = raised_all s.arriving (map (λ (e : ℕ × Item). edge_came e.1) es) }
each_came s [] = refl
each_came s (e ∷ es) = each_came (record s { arriving = with_value_raised (edge_came e.1) s.arriving }) es

word_back : (v : ℤ) → v ≡ pos (nat_abs v) → nat_abs v ≤ 1_000_000_000_000 → from_twos_complement (twos_complement v) ≡ v
word_back v h l =
    ap from_twos_complement (word_is v h) ∙ ap (λ b. cond b (pos (nat_abs v)) (negsuc (2 ^ 64 - 1 - nat_abs v))) (let b : nat_lt (nat_abs v) (2 ^ 63) ≡ true = lt-ltb (nat_abs v) (2 ^ 63) (omega arith) in b) ∙ sym h

item_back : (t : Triple) → t.v ≡ pos (nat_abs t.v) → nat_abs t.v ≤ 1_000_000_000_000 → edge_came (record { a = t.i; b = t.j; c = twos_complement t.v }) ≡ t
item_back t h l = ap (λ v. record { i = t.i; j = t.j; v = v }) (word_back t.v h l)

-- a rank's own entries
abbrev pub own_edges : ℕ → ℕ → List Triple → List Triple
own_edges ranks r es = dealt (row_of ranks) r es

pub came_own : (ranks : ℕ) (m : Sparse) (r : ℕ) → IsGraph m
    → map (λ (e : ℕ × Item). edge_came e.1) (came_to (entry_owner ranks) (row_owner ranks) edge_item r (with_numbers m.entries)) ≡ own_edges ranks r m.entries
came_own ranks m r g =
    landed (entry_owner ranks) edge_item (λ (e : Numbered). e.1) edge_came ranks r (with_numbers m.entries)
    (all_numbered (λ (t : Triple). edge_came (record { a = t.i; b = t.j; c = twos_complement t.v }) ≡ t) 0 m.entries (λ k d l. item_back (get_or m.entries k d) ((graph_edges m g).plain k d l) (g.matrix.inside k d l).limit))
    ∙ ap (own_edges ranks r) (numbered_map (λ (t : Triple). t) 0 m.entries ∙ map_itself m.entries)
  where
    map_itself : (ts : List Triple) → map (λ (t : Triple). t) ts ≡ ts
    map_itself [] = refl
    map_itself (t ∷ ts) = ap (λ us. t ∷ us) (map_itself ts)

-- a rank after round 0
abbrev pub first : ℕ → Sparse → ℕ → ℕ → SsspState
first ranks m source r = record (sssp_begins ranks m source r) { arriving = gathered_cells (own_edges ranks r m.entries) }

pub first_at : (ranks : ℕ) (m : Sparse) (source r : ℕ) → 0 < ranks → IsGraph m → r < ranks → slice_get (absorbed_round sssp_rules (sssp_starts ranks m source)) r ≡ Some (first ranks m source r)
first_at ranks m source r some g low =
    every_owned sssp_rules sssp_laws ranks 0 (m.rows ∷ []) (m.rows + 1) (sssp_starts ranks m source) (entry_owner ranks) (row_owner ranks) edge_item (with_numbers m.entries)
    (starts_in_round ranks m source g.matrix g.square) (all_owned ranks 0 m.entries some)
    (λ f s here. ap sssp_rules.emissions (sym (made_from (sssp_begins ranks m source) ranks f s here).1))
    r (sssp_begins ranks m source r) (made_at (sssp_begins ranks m source) ranks r low)
    ∙ ap Some (each_came (sssp_begins ranks m source r) (came_to (entry_owner ranks) (row_owner ranks) edge_item r (with_numbers m.entries))
    ∙ ap (λ ts. record (sssp_begins ranks m source r) { arriving = raised_all [] ts }) (came_own ranks m r g))

-- ---- Its edges

pub has_place : (ranks places : ℕ) (ts : List Triple) (p : ℕ) → p < places → get_or (table_of ranks places 0 (2 ^ 64 - 1) ts) p [] ≡ edges_at ranks 0 (2 ^ 64 - 1) ts p
has_place ranks places ts p low = get_or-map-range_with_len (edges_at ranks 0 (2 ^ 64 - 1) ts) 0 places p p [] low (omega arith)

pub kept_here : (ranks : ℕ) (t : Triple) → t.v ≡ pos (nat_abs t.v) → nat_abs t.v ≤ 1_000_000_000_000 → is_kept ranks 0 (2 ^ 64 - 1) (t.i / ranks) t ≡ true
kept_here ranks t h l =
    let word : twos_complement t.v ≡ nat_abs t.v = word_is t.v h in
    and_from (eqb (t.i / ranks) (t.i / ranks)) (in_range 0 (2 ^ 64 - 1) t) (eq-eqb (t.i / ranks) (t.i / ranks) refl) (grind (arith, nat_tests))

pub first_knows : (ranks : ℕ) (m : Sparse) (source r : ℕ) → 0 < ranks → IsGraph m → Knows m.entries ranks r (first ranks m source r)
first_knows ranks m source r some g =
    let own : List Triple = own_edges ranks r m.entries in
    let moves = gathered_moves own (pairs_filter Differ (λ (t : Triple). eqb (t.i % ranks) r) m.entries g.matrix.once) in
    let places : ℕ = length (vertices_begin ranks m.rows source r) in
    record {
      sound = λ p e h. elim (cases_lt p places) [
        | inr past ↦
            absurd (none_in e (subst (λ es. Contains es e) (get_or_past (table_of ranks places 0 (2 ^ 64 - 1) (gathered_cells own)) p [] (let n : length (table_of ranks places 0 (2 ^ 64 - 1) (gathered_cells own)) ≡ places = table_len ranks places 0 (2 ^ 64 - 1) (gathered_cells own) in omega arith)) h))
        | inl low ↦
            let x = was_mapped (edge_of ranks) (filter (is_kept ranks 0 (2 ^ 64 - 1) p) (gathered_cells own)) e (subst (λ es. Contains es e) (has_place ranks places (gathered_cells own) p low) h) in
            let y = was_filtered (is_kept ranks 0 (2 ^ 64 - 1) p) (gathered_cells own) x.0 x.1 in
            let z = was_filtered (λ (t : Triple). eqb (t.i % ranks) r) m.entries x.0 (Contains-permutation (gathered_cells own) own x.0 (IsPermutation-sym own (gathered_cells own) moves) y.0) in
            (x.0, z.0, eqb-true (x.0.i % ranks) r z.1, eqb-true (x.0.i / ranks) p (and_parts (eqb (x.0.i / ranks) p) (in_range 0 (2 ^ 64 - 1) x.0) y.1).0, x.2)
      ];
      complete = λ t h o.
          let low : t.i / ranks < places = subst (λ n. t.i / ranks < n) (sym (begin_len ranks m.rows source r)) (place_below ranks m.rows t.i some (All-contains (λ (t : Triple). t.i < m.rows) m.entries t (graph_edges m g).from h)) in
          let mine : Contains own t = has_filtered (λ (t : Triple). eqb (t.i % ranks) r) m.entries t h (eq-eqb (t.i % ranks) r o) in
          subst (λ es. Contains es (edge_of ranks t)) (sym (has_place ranks places (gathered_cells own) (t.i / ranks) low))
          (has_mapped (edge_of ranks) (filter (is_kept ranks 0 (2 ^ 64 - 1) (t.i / ranks)) (gathered_cells own)) t
          (has_filtered (is_kept ranks 0 (2 ^ 64 - 1) (t.i / ranks)) (gathered_cells own) t (Contains-permutation own (gathered_cells own) t moves mine)
          (kept_here ranks t (All-contains (λ (t : Triple). t.v ≡ pos (nat_abs t.v)) m.entries t (graph_edges m g).plain h) (All-contains (λ (t : Triple). cost t ≤ 1_000_000_000_000) m.entries t (graph_edges m g).light h))));
    }

-- ---- What is found

module _ (ranks : ℕ) (m : Sparse) (source : ℕ) (some : 0 < ranks) (g : IsGraph m) (low : source < m.rows) where
  abbrev pub begun : List SsspState
  begun = absorbed_round sssp_rules (sssp_starts ranks m source)

  vertex_first : (v : ℕ) → vertex_at ranks begun v ≡ get_or (vertices_begin ranks m.rows source (v % ranks)) (v / ranks) unreached_vertex
  vertex_first v = at_vertex ranks begun (v % ranks) (first ranks m source (v % ranks)) v (first_at ranks m source (v % ranks) some g (mod-lt v some)) refl

  at_source : vertex_at ranks begun source ≡ weighing 0
  at_source = vertex_first source ∙ begin_source ranks m.rows source some low

  at_other : (v : ℕ) → v ≢ source → vertex_at ranks begun v ≡ unreached_vertex
  at_other v d = vertex_first v ∙ begin_other ranks m.rows source v some d

  only_source : (v k : ℕ) → (vertex_at ranks begun v).weight ≡ Some k → (v ≡ source) × (k ≡ 0)
  only_source v k found =
      elim (cases_eq v source) [
        | inl same ↦ (same, same_Some k 0 (sym found ∙ ap (λ (w : Vertex). w.weight) (ap (vertex_at ranks begun) same ∙ at_source)))
        | inr other ↦ absurd (none_some k (sym (ap (λ (w : Vertex). w.weight) (at_other v other)) ∙ found))
      ]
    where
      none_some : (k : ℕ) → None ≡ Some k → ⊥
      none_some k e = cc

  pub first_reached : (limit : ℕ) → Reached m.entries source limit 0 (stage_of ranks begun)
  first_reached limit =
      record {
        walked = λ v k found. (let is = only_source v k found in ([], sym is.0, sym is.1));
        start = (0, ap (λ (w : Vertex). w.weight) at_source, (let z : 0 ≤ 0 = omega arith in z));
        settled = λ e has calm k found.
            let is = only_source e.i k found in
            absurd (false≢true (sym calm ∙ ap (λ (w : Vertex). w.improved) (ap (vertex_at ranks begun) is.0 ∙ at_source)));
        short = short;
        bounded = λ v k found. (let is = only_source v k found in let z : k ≡ 0 = is.1 in omega arith);
      }
    where
      short : (v : ℕ) (w : List Triple) → IsWalk m.entries source v w → length w ≤ 0 → AtMost (vertex_at ranks begun v).weight (weight_of w)
      short v [] walk l = (0, ap (λ (w : Vertex). w.weight) (ap (vertex_at ranks begun) (sym walk) ∙ at_source), (let z : weight_of [] ≡ 0 = refl in omega arith))
      short v (e ∷ w) walk l = absurd (omega arith)

-- a rank as sssp begins, from its fields
pub begins_is : (ranks : ℕ) (m : Sparse) (source r rows : ℕ) (vertices : List Vertex) (outgoing : List (ℕ × Item))
    → rows ≡ m.rows → vertices ≡ (sssp_begins ranks m source r).vertices → outgoing ≡ (sssp_begins ranks m source r).outgoing
    → record { rank = r; ranks = ranks; round = 0; rows = rows; arriving = []; table = []; vertices = vertices; outgoing = outgoing } ≡ sssp_begins ranks m source r
begins_is ranks m source r rows vertices outgoing a b c =
    let s : SsspState = sssp_begins ranks m source r in
    ap (λ w. record s { rows = w; vertices = vertices; outgoing = outgoing }) a
    ∙ ap (λ w. record s { vertices = w; outgoing = outgoing }) b
    ∙ ap (λ w. record s { outgoing = w }) c
