-- What all ranks have after the first round: their own edges, and the source.
use Rattle.std.proofs.Common.{ℕ, ◌+◌, ◌-◌, ◌*◌, ◌/◌, ◌%◌, ◌^◌, ◌<◌, ◌≤◌, ◌≡◌, ◌≢◌, ◌==◌, ◌&&◌, not, Bool, true, false, eqb, List, [], ◌∷◌, Some, None, pos, length, map, get_or, slice_get, All, arith, inl, inr, refl, sym, ap, ◌∙◌, subst}
use Rattle.std.specs.Prelude.{Contains, nat_abs, nat_le}
use Rattle.std.specs.List.{filter}
use Rattle.std.proofs.Math.Nat.{mod-lt}
use Rattle.std.proofs.lemmas.Bool.{cases_Bool, cases_eq, cases_lt, eq-eqb, eqb-true, and_from, and_parts, false≢true, le-leb, leb-true}
use Rattle.std.proofs.lemmas.Bool.Decides.{nat_tests}
use Rattle.std.proofs.lemmas.Option.{same_Some}
use Rattle.std.proofs.lemmas.List.{get_or_past}
use Rattle.std.proofs.lemmas.List.Elements.{All-nil, All-map, All-filter, All-contains}
use Rattle.std.proofs.lemmas.List.Sorted.{Contains-permutation, IsPermutation-sym}
use Rattle.std.proofs.lemmas.List.FromFn.{get_or-map-range_with_len}
use Rattle.bale_items.specs.declared.Item.{Item}
use Rattle.bale_items.specs.declared.triple.Triple.{Triple}
use Rattle.bale_items.specs.Bits.{twos_complement}
use Rattle.mtx_text.specs.Sparse.{Sparse, IsSparse}
use Rattle.mtx_text.specs.Cells.{with_value_raised, raised_all, gathered_cells}
use Rattle.round_program.specs.Canonical.{absorbed_round, InRound}
use Rattle.round_program.specs.Orders.{absorb_each}
use Rattle.sparse_rows.specs.Owners.{Numbered, with_numbers, entry_owner, row_owner, own_entries, places_for}
use Rattle.sparse_rows.proofs.EveryEntry.{came_to, every_owned}
use Rattle.sparse_rows.proofs.Gathering.{Differ, pairs_filter, gathered_moves}
use Rattle.sparse_rows.proofs.Places.{place_below}
use Rattle.sparse_rows.proofs.Starts.{made_at, made_from, made_in_round, all_numbered, all_owned}
use Rattle.least_walks.specs.declared.vertices.Vertex.{Vertex}
use Rattle.least_walks.specs.Tables.{edge_of, in_range, is_kept, edges_at, table_of}
use Rattle.least_walks.specs.Vertices.{unreached_vertex}
use Rattle.least_walks.proofs.Rows.{table_len}
use Rattle.least_walks.proofs.Settled.{cost}
use Rattle.least_walks.proofs.Members.{none_in, has_filtered, was_filtered, has_mapped, was_mapped}
use Rattle.least_walks.proofs.Offered.{weighing}
use Rattle.app_sssp.specs.Sssps.{IsInsideSquare, IsEdge, edge_came}
use Rattle.app_sssp.specs.SsspRuns.{IsGraph, edge_item, vertices_begin}
use Rattle.app_sssp.proofs.Stages.{word_is}
use Rattle.app_sssp.proofs.Begins.{graph_edges, begin_source, begin_other, begin_len, word_low, own_edges, came_own}
use Rattle.delta_step.specs.declared.phase.Phase.TheVariants.{First}
use Rattle.delta_step.specs.Deltas.{DeltaState, IsDelta, delta_rules, may_delta}
use Rattle.delta_step.specs.laws.DeltaLaws.{delta_laws}
use Rattle.delta_step.specs.DeltaRuns.{delta_begins, delta_starts}
use Rattle.delta_step.proofs.Buckets.{is_light, Owes, none_open}
use Rattle.delta_step.proofs.OfferRounds.{vertex_at, stage_of, at_vertex}
use Rattle.delta_step.proofs.Transits.{Keeps}

-- ---- The start is that of a run

begins_fit : (ranks : ℕ) (m : Sparse) (r : ℕ) → r < ranks → IsSparse m → m.cols ≡ m.rows → All {X = ℕ × Item} (λ e. may_delta (m.rows ∷ []) ranks 0 e.0 r e.1 ≡ true) (map (λ (e : Numbered). (row_owner ranks e, edge_item e)) (own_entries ranks r m.entries))
begins_fit ranks m r low is square =
    All-map {X = ℕ × Item} (λ e. may_delta (m.rows ∷ []) ranks 0 e.0 r e.1 ≡ true) (λ (e : Numbered). (row_owner ranks e, edge_item e)) (own_entries ranks r m.entries)
    (All-filter (λ (e : Numbered). e.0 % ranks == r) (λ (e : Numbered). may_delta (m.rows ∷ []) ranks 0 (row_owner ranks e) r (edge_item e) ≡ true) (with_numbers m.entries)
    (all_numbered (λ (t : Triple). may_delta (m.rows ∷ []) ranks 0 (t.i % ranks) r (record { a = t.i; b = t.j; c = twos_complement t.v }) ≡ true) 0 m.entries
    (λ k d l. fits_here m.rows ranks r (get_or m.entries k d) low is.tall (is.inside k d l).row (subst (λ n. (get_or m.entries k d).j < n) square (is.inside k d l).col) (word_low (get_or m.entries k d).v (is.inside k d l).limit))))
  where
    fits_here : (rows ranks r : ℕ) (t : Triple) → r < ranks → rows ≤ 16384 → t.i < rows → t.j < rows → twos_complement t.v < 2 ^ 64
        → may_delta (rows ∷ []) ranks 0 (t.i % ranks) r (record { a = t.i; b = t.j; c = twos_complement t.v }) ≡ true
    fits_here rows ranks r t low tall row col word = grind (arith, nat_tests)

pub begins_valid : (ranks : ℕ) (m : Sparse) (source width r : ℕ) → r < ranks → 0 < width → width ≤ 1_000_000_000_000 → IsSparse m → m.cols ≡ m.rows → IsDelta (delta_begins ranks m source width r)
begins_valid ranks m source width r low some narrow is square =
    record {
      own = low;
      wide = is.tall;
      some = some;
      narrow = narrow;
      early = λ _. refl;
      arrived = All-nil (IsInsideSquare m.rows);
      ordered = λ i j d l m. absurd (omega arith);
      light_edges = All-nil (All (IsEdge ranks m.rows));
      heavy_edges = All-nil (All (IsEdge ranks m.rows));
      light_kept = λ d. absurd (d refl);
      heavy_kept = λ d. absurd (d refl);
      places = begin_len ranks m.rows source r;
      placed = All-nil (λ p. p < length (vertices_begin ranks m.rows source r));
      fit = begins_fit ranks m r low is square;
    }

pub starts_in_round : (ranks : ℕ) (m : Sparse) (source width : ℕ) → 0 < width → width ≤ 1_000_000_000_000 → IsSparse m → m.cols ≡ m.rows
    → InRound delta_rules ranks 0 (m.rows ∷ []) (m.rows * (m.rows + 2) + 2) (delta_starts ranks m source width)
starts_in_round ranks m source width some narrow is square =
    made_in_round delta_rules (delta_begins ranks m source width) ranks 0 (m.rows ∷ []) (m.rows * (m.rows + 2) + 2)
    (λ r low. record { valid = begins_valid ranks m source width r low some narrow is square; own_rank = refl; all_ranks = refl; same_round = refl; same_shape = refl; same_most = refl })

-- a rank as delta-stepping begins, from its fields
pub begins_is : (ranks : ℕ) (m : Sparse) (source width r rows : ℕ) (vertices : List Vertex) (outgoing : List (ℕ × Item))
    → rows ≡ m.rows → vertices ≡ (delta_begins ranks m source width r).vertices → outgoing ≡ (delta_begins ranks m source width r).outgoing
    → record (delta_begins ranks m source width r) { rows = rows; vertices = vertices; outgoing = outgoing } ≡ delta_begins ranks m source width r
begins_is ranks m source width r rows vertices outgoing a b c =
    let s : DeltaState = delta_begins ranks m source width r in
    ap (λ w. record s { rows = w; vertices = vertices; outgoing = outgoing }) a
    ∙ ap (λ w. record s { vertices = w; outgoing = outgoing }) b
    ∙ ap (λ w. record s { outgoing = w }) c

-- ---- The first round

each_came : (s : DeltaState) (es : List (ℕ × Item)) → absorb_each delta_rules (record s { phase = First }) es ≡ record s { phase = First; arriving = raised_all s.arriving (map (λ (e : ℕ × Item). edge_came e.1) es) }
each_came s [] = refl
each_came s (e ∷ es) = each_came (record s { arriving = with_value_raised (edge_came e.1) s.arriving }) es

-- a rank after the first round
abbrev pub first : ℕ → Sparse → ℕ → ℕ → ℕ → DeltaState
first ranks m source width r = record (delta_begins ranks m source width r) { arriving = gathered_cells (own_edges ranks r m.entries) }

pub first_at : (ranks : ℕ) (m : Sparse) (source width r : ℕ) → 0 < ranks → 0 < width → width ≤ 1_000_000_000_000 → IsGraph m → r < ranks → slice_get (absorbed_round delta_rules (delta_starts ranks m source width)) r ≡ Some (first ranks m source width r)
first_at ranks m source width r some positive narrow g low =
    every_owned delta_rules delta_laws ranks 0 (m.rows ∷ []) (m.rows * (m.rows + 2) + 2) (delta_starts ranks m source width) (entry_owner ranks) (row_owner ranks) edge_item (with_numbers m.entries)
    (starts_in_round ranks m source width positive narrow g.matrix g.square) (all_owned ranks 0 m.entries some)
    (λ f s here. ap delta_rules.emissions (sym (made_from (delta_begins ranks m source width) ranks f s here).1))
    r (delta_begins ranks m source width r) (made_at (delta_begins ranks m source width) ranks r low)
    ∙ ap Some (each_came (delta_begins ranks m source width r) (came_to (entry_owner ranks) (row_owner ranks) edge_item r (with_numbers m.entries))
    ∙ ap (λ ts. record (delta_begins ranks m source width r) { arriving = raised_all [] ts }) (came_own ranks m r g))

-- ---- Its edges

table_keeps : (ranks : ℕ) (m : Sparse) (places r low high : ℕ) (test : Triple → Bool) → 0 < ranks → IsGraph m → places ≡ places_for ranks m.rows
    → ((t : Triple) → Contains m.entries t → in_range low high t ≡ test t) → Keeps m.entries ranks r test (table_of ranks places low high (gathered_cells (own_edges ranks r m.entries)))
table_keeps ranks m places r low high test some g count same =
    let own : List Triple = own_edges ranks r m.entries in
    let moves = gathered_moves own (pairs_filter Differ (λ (t : Triple). eqb (t.i % ranks) r) m.entries g.matrix.once) in
    record {
      sound = λ p e h. elim (cases_lt p places) [
        | inr past ↦
            absurd (none_in e (subst (λ es. Contains es e) (get_or_past (table_of ranks places low high (gathered_cells own)) p [] (let n : length (table_of ranks places low high (gathered_cells own)) ≡ places = table_len ranks places low high (gathered_cells own) in omega arith)) h))
        | inl inside ↦
            let x = was_mapped (edge_of ranks) (filter (is_kept ranks low high p) (gathered_cells own)) e (subst (λ es. Contains es e) (get_or-map-range_with_len (edges_at ranks low high (gathered_cells own)) 0 places p p [] inside (omega arith)) h) in
            let y = was_filtered (is_kept ranks low high p) (gathered_cells own) x.0 x.1 in
            let z = was_filtered (λ (t : Triple). eqb (t.i % ranks) r) m.entries x.0 (Contains-permutation (gathered_cells own) own x.0 (IsPermutation-sym own (gathered_cells own) moves) y.0) in
            let kept = and_parts (eqb (x.0.i / ranks) p) (in_range low high x.0) y.1 in
            (x.0, z.0, eqb-true (x.0.i % ranks) r z.1, eqb-true (x.0.i / ranks) p kept.0, x.2, sym (same x.0 z.0) ∙ kept.1)
      ];
      complete = λ t h passes o.
          let inside : t.i / ranks < places = subst (λ n. t.i / ranks < n) (sym count) (place_below ranks m.rows t.i some (All-contains (λ (t : Triple). t.i < m.rows) m.entries t (graph_edges m g).from h)) in
          let mine : Contains own t = has_filtered (λ (t : Triple). eqb (t.i % ranks) r) m.entries t h (eq-eqb (t.i % ranks) r o) in
          subst (λ es. Contains es (edge_of ranks t)) (sym (get_or-map-range_with_len (edges_at ranks low high (gathered_cells own)) 0 places (t.i / ranks) (t.i / ranks) [] inside (omega arith)))
          (has_mapped (edge_of ranks) (filter (is_kept ranks low high (t.i / ranks)) (gathered_cells own)) t
          (has_filtered (is_kept ranks low high (t.i / ranks)) (gathered_cells own) t (Contains-permutation own (gathered_cells own) t moves mine)
          (and_from (eqb (t.i / ranks) (t.i / ranks)) (in_range low high t) (eq-eqb (t.i / ranks) (t.i / ranks) refl) (same t h ∙ passes))));
    }

word_cost : (m : Sparse) → IsGraph m → (t : Triple) → Contains m.entries t → (twos_complement t.v ≡ cost t) × (cost t ≤ 1_000_000_000_000)
word_cost m g t h =
    (word_is t.v (All-contains (λ (t : Triple). t.v ≡ pos (nat_abs t.v)) m.entries t (graph_edges m g).plain h), All-contains (λ (t : Triple). cost t ≤ 1_000_000_000_000) m.entries t (graph_edges m g).light h)

light_range : (m : Sparse) → IsGraph m → (width : ℕ) (t : Triple) → Contains m.entries t → in_range 0 width t ≡ is_light width t
light_range m g width t h =
    let w = word_cost m g t h in
    ap (λ b. b && nat_le (twos_complement t.v) width) (le-leb 0 (twos_complement t.v) (omega arith)) ∙ ap (λ k. nat_le k width) w.0

heavy_range : (m : Sparse) → IsGraph m → (width : ℕ) (t : Triple) → Contains m.entries t → in_range (width + 1) (2 ^ 64 - 1) t ≡ not (is_light width t)
heavy_range m g width t h =
    let w = word_cost m g t h in
    let word : twos_complement t.v ≡ cost t = w.0 in
    let few : cost t ≤ 1_000_000_000_000 = w.1 in
    ap (λ b. nat_le (width + 1) (twos_complement t.v) && b) (le-leb (twos_complement t.v) (2 ^ 64 - 1) (omega arith))
    ∙ always (nat_le (width + 1) (twos_complement t.v))
    ∙ ap (nat_le (width + 1)) word
    ∙ other (cost t) width
  where
    always : (b : Bool) → (b && true) ≡ b
    always true = refl
    always false = refl

    other : (c width : ℕ) → nat_le (width + 1) c ≡ not (nat_le c width)
    other c width =
        elim (cases_lt width c) [
          | inl l ↦ le-leb (width + 1) c (omega arith) ∙ sym (ap not (not_le c width l))
          | inr m ↦ not_le (width + 1) c (omega arith) ∙ sym (ap not (le-leb c width m))
        ]
      where
        not_le : (a b : ℕ) → b < a → nat_le a b ≡ false
        not_le a b l = elim (cases_Bool (nat_le a b)) [ inl t ↦ (let k : a ≤ b = leb-true a b t in absurd (omega arith)) | inr f ↦ f ]

pub light_keeps : (ranks : ℕ) (m : Sparse) (source width r : ℕ) → 0 < ranks → IsGraph m
    → Keeps m.entries ranks r (is_light width) (table_of ranks (length (vertices_begin ranks m.rows source r)) 0 width (gathered_cells (own_edges ranks r m.entries)))
light_keeps ranks m source width r some g =
    table_keeps ranks m (length (vertices_begin ranks m.rows source r)) r 0 width (is_light width) some g (begin_len ranks m.rows source r) (light_range m g width)

pub heavy_keeps : (ranks : ℕ) (m : Sparse) (source width r : ℕ) → 0 < ranks → IsGraph m
    → Keeps m.entries ranks r (λ e. not (is_light width e)) (table_of ranks (length (vertices_begin ranks m.rows source r)) (width + 1) (2 ^ 64 - 1) (gathered_cells (own_edges ranks r m.entries)))
heavy_keeps ranks m source width r some g =
    table_keeps ranks m (length (vertices_begin ranks m.rows source r)) r (width + 1) (2 ^ 64 - 1) (λ e. not (is_light width e)) some g (begin_len ranks m.rows source r) (heavy_range m g width)

-- ---- What is found

module _ (ranks : ℕ) (m : Sparse) (source width : ℕ) (some : 0 < ranks) (positive : 0 < width) (narrow : width ≤ 1_000_000_000_000) (g : IsGraph m) (low : source < m.rows) where
  abbrev pub begun : List DeltaState
  begun = absorbed_round delta_rules (delta_starts ranks m source width)

  vertex_first : (v : ℕ) → vertex_at ranks begun v ≡ get_or (vertices_begin ranks m.rows source (v % ranks)) (v / ranks) unreached_vertex
  vertex_first v = at_vertex ranks begun (v % ranks) (first ranks m source width (v % ranks)) v (first_at ranks m source width (v % ranks) some positive narrow g (mod-lt v some)) refl

  at_source : vertex_at ranks begun source ≡ weighing 0
  at_source = vertex_first source ∙ begin_source ranks m.rows source some low

  at_other : (v : ℕ) → v ≢ source → vertex_at ranks begun v ≡ unreached_vertex
  at_other v d = vertex_first v ∙ begin_other ranks m.rows source v some d

  pub only_source : (v k : ℕ) → (vertex_at ranks begun v).weight ≡ Some k → (v ≡ source) × (k ≡ 0)
  only_source v k found =
      elim (cases_eq v source) [
        | inl same ↦ (same, same_Some k 0 (sym found ∙ ap (λ (w : Vertex). w.weight) (ap (vertex_at ranks begun) same ∙ at_source)))
        | inr other ↦ absurd (none_some k (sym (ap (λ (w : Vertex). w.weight) (at_other v other)) ∙ found))
      ]
    where
      none_some : (k : ℕ) → None ≡ Some k → ⊥
      none_some k e = cc

  pub pending_found : (v : ℕ) → (vertex_at ranks begun v).improved ≡ true → (k : ℕ) × ((vertex_at ranks begun v).weight ≡ Some k)
  pending_found v pending =
      elim (cases_eq v source) [
        | inl same ↦ (0, ap (λ (w : Vertex). w.weight) (ap (vertex_at ranks begun) same ∙ at_source))
        | inr other ↦ absurd (false≢true (sym (ap (λ (w : Vertex). w.improved) (at_other v other)) ∙ pending))
      ]

  pub first_owes : Owes m.entries source width none_open (stage_of ranks begun)
  first_owes =
      record {
        walked = λ v k found. (let is = only_source v k found in ([], sym is.0, sym is.1));
        start = (0, ap (λ (w : Vertex). w.weight) at_source, (let z : 0 ≤ 0 = omega arith in z));
        owed = λ e has k found. (let is = only_source e.i k found in inr (inl (ap (λ (w : Vertex). w.improved) (ap (vertex_at ranks begun) is.0 ∙ at_source))));
      }
