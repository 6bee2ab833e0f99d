-- What the ranks of sssp have found before each round: the least weights of walks of so many edges.
use Rattle.std.proofs.Common.{◌≡◌, ◌≢◌, ℕ, zero, suc, ◌+◌, ◌-◌, ◌*◌, ◌/◌, ◌%◌, ◌^◌, ◌<◌, ◌≤◌, ◌==◌, ◌++◌, min, true, false, cond, List, [], ◌∷◌, Option, Some, None, length, get_or, slice_get, arith, inl, inr, refl, sym, ap, ◌∙◌, subst, lit<}
use Rattle.std.proofs.Math.Nat.{mod-lt}
use Rattle.std.proofs.lemmas.Bool.{cases_eq, cases_lt, ne_eqb, lt-ltb, le-ltb}
use Rattle.std.proofs.lemmas.List.{length_push}
use Rattle.std.proofs.lemmas.List.Elements.{All-contains}
use Rattle.std.proofs.lemmas.Option.{same_Some}
use Rattle.bale_items.specs.declared.triple.Triple.{Triple}
use Rattle.list_laws.proofs.Lists.{find, within, get_once}
use Rattle.mtx_text.specs.Sparse.{Sparse}
use Rattle.mtx_text.specs.Cells.{gathered_cells}
use Rattle.round_program.specs.Canonical.{absorbed_round, states_at, vote_sum, InRound}
use Rattle.round_program.proofs.Members.{in_round, absorbed_in}
use Rattle.sparse_rows.specs.Owners.{places_for}
use Rattle.least_walks.specs.declared.table.Edge.{Edge}
use Rattle.least_walks.specs.declared.vertices.Vertex.{Vertex}
use Rattle.least_walks.specs.Walks.{IsWalk, weight_of, AtMost}
use Rattle.least_walks.specs.Tables.{table_of}
use Rattle.least_walks.specs.Vertices.{unreached_vertex}
use Rattle.least_walks.proofs.Offered.{weighing}
use Rattle.least_walks.proofs.Settled.{cost, walk_push, weight_push}
use Rattle.app_sssp.specs.Sssps.{SsspState, sssp_rules, table_after}
use Rattle.app_sssp.specs.laws.SsspLaws.{sssp_laws}
use Rattle.app_sssp.specs.SsspRuns.{IsGraph, vertices_begin, sssp_starts}
use Rattle.app_sssp.proofs.Rounds.{Stage, Improved, Round}
use Rattle.app_sssp.proofs.Stages.{vertex_at, stage_of, at_vertex, one_round, later_at}
use Rattle.app_sssp.proofs.Begins.{graph_edges, starts_in_round, own_edges, first, first_at, begin_source, begin_other, begin_len}
use Rattle.app_sssp.proofs.Ends.{LIMIT, Run, run_at}
use Rattle.round_tables.specs.Sssp.{IsLeastWithin, falls, improves}

-- a weight is not below itself
falls_same : (o : Option ℕ) → falls o o ≡ false
falls_same None = refl
falls_same (Some w) = le-ltb w w (omega arith)

falls_below : (o : Option ℕ) (w : ℕ) → ¬ AtMost o w → falls o (Some w) ≡ true
falls_below None w h = refl
falls_below (Some k) w h =
    elim (cases_lt w k) [
      | inl low ↦ lt-ltb w k low
      | inr high ↦ absurd (h (k, refl, high))
    ]

module _ (ranks : ℕ) (m : Sparse) (source : ℕ) (some : 0 < ranks) (g : IsGraph m) (source_in : source < m.rows) where
  abbrev pub starts : List SsspState
  starts = sssp_starts ranks m source

  -- all ranks as the absorbs of round k are over
  abbrev pub over : ℕ → List SsspState
  over k = absorbed_round sssp_rules (states_at sssp_rules starts k)

  abbrev pub at : ℕ → Stage
  at k = stage_of ranks (over k)

  abbrev pub found : ℕ → ℕ → Option ℕ
  found k v = (at k).found v

  pub over_in : (k : ℕ) → k < 2 ^ 64 → InRound sssp_rules ranks k (m.rows ∷ []) (m.rows + 1) (over k)
  over_in k l =
      absorbed_in sssp_rules sssp_laws ranks k (m.rows ∷ []) (m.rows + 1) (states_at sssp_rules starts k)
      (in_round sssp_rules sssp_laws ranks (m.rows ∷ []) (m.rows + 1) starts k (starts_in_round ranks m source g.matrix g.square) l)

  pub run : (k : ℕ) → k ≤ 16385 → Run ranks m source some g source_in k
  run k l = run_at ranks m source some g source_in k l

  pub small : (k : ℕ) → k ≤ 16384 → (v w : ℕ) → found k v ≡ Some w → w ≤ 2 ^ 60
  small k l v w is = (let b : w ≤ k * LIMIT = (run k (omega arith)).reached.bounded v w is in omega arith)

  round_at : (k : ℕ) → k ≤ 16384 → Round m.entries (at k) (at (suc k))
  round_at k l =
      one_round m.entries m.rows ranks k (over k) (m.rows ∷ []) (m.rows + 1) some (graph_edges m g) (over_in k (omega arith)) (run k (omega arith)).size (run k (omega arith)).knows (small k l)

  -- ---- The start

  vertex_first : (v : ℕ) → vertex_at ranks (over 0) v ≡ get_or (vertices_begin ranks m.rows source (v % ranks)) (v / ranks) unreached_vertex
  vertex_first v = at_vertex ranks (over 0) (v % ranks) (first ranks m source (v % ranks)) v (first_at ranks m source (v % ranks) some g (mod-lt v some)) refl

  at_source : vertex_at ranks (over 0) source ≡ weighing 0
  at_source = vertex_first source ∙ begin_source ranks m.rows source some source_in

  at_other : (v : ℕ) → v ≢ source → vertex_at ranks (over 0) v ≡ unreached_vertex
  at_other v d = vertex_first v ∙ begin_other ranks m.rows source v some d

  -- ---- The least weights

  walked : (k : ℕ) → k ≤ 16385 → (v w : ℕ) → found k v ≡ Some w → (walk : List Triple) × IsWalk m.entries source v walk × (length walk ≤ k) × (weight_of walk ≡ w)
  walked zero l v w is =
      elim (cases_eq v source) [
        | inl same ↦
            let none : w ≡ 0 = same_Some w 0 (sym is ∙ ap (λ (x : Vertex). x.weight) (ap (vertex_at ranks (over 0)) same ∙ at_source)) in
            ([], sym same, (let z : 0 ≤ 0 = omega arith in z), sym none)
        | inr other ↦ absurd (let e : None ≡ Some w = sym (ap (λ (x : Vertex). x.weight) (at_other v other)) ∙ is in cc)
      ]
  walked (suc k) l v w is =
      elim ((round_at k (omega arith)).each v) [
        | inl same ↦
            let old = walked k (omega arith) v w (sym same.0 ∙ is) in
            let short : length old.0 ≤ k = old.2 in
            (old.0, old.1, (let z : length old.0 ≤ suc k = omega arith in z), old.3)
        | inr new' ↦
            let i : Improved m.entries (at k) (at (suc k)) v = new'.1 in
            let old = walked k (omega arith) i.edge.i i.before i.from in
            let short : length old.0 ≤ k = old.2 in
            let one : length (old.0 ++ i.edge ∷ []) ≡ length old.0 + 1 = length_push old.0 i.edge in
            let sum : weight_of (old.0 ++ i.edge ∷ []) ≡ weight_of old.0 + cost i.edge = weight_push old.0 i.edge in
            let known : weight_of old.0 ≡ i.before = old.3 in
            let weighs : i.before + cost i.edge ≡ w = same_Some (i.before + cost i.edge) w (sym i.new ∙ is) in (
              old.0 ++ i.edge ∷ [],
              subst (λ t. IsWalk m.entries source t (old.0 ++ i.edge ∷ [])) i.to (walk_push m.entries source i.edge.i old.0 i.edge old.1 i.is refl),
              (let z : length (old.0 ++ i.edge ∷ []) ≤ suc k = omega arith in z),
              (let z : weight_of (old.0 ++ i.edge ∷ []) ≡ w = omega arith in z),
            )
      ]

  pub least_within : (k v : ℕ) → k ≤ 16385 → IsLeastWithin m.entries source k v (found k v)
  least_within k v l = record { walked = walked k l v; least = λ walk is short. (run k l).reached.short v walk is short }

  -- ---- Which vertices were improved

  pub fresh_is : (k : ℕ) → k ≤ 16385 → (v : ℕ) → (at k).fresh v ≡ improves found k v
  fresh_is zero l v =
      elim (cases_eq v source) [
        | inl same ↦
            let here : vertex_at ranks (over 0) v ≡ weighing 0 = ap (vertex_at ranks (over 0)) same ∙ at_source in
            ap (λ (x : Vertex). x.improved) here ∙ sym (ap (λ (x : Vertex). falls None x.weight) here)
        | inr other ↦
            let here : vertex_at ranks (over 0) v ≡ unreached_vertex = at_other v other in
            ap (λ (x : Vertex). x.improved) here ∙ sym (ap (λ (x : Vertex). falls None x.weight) here)
      ]
  fresh_is (suc k) l v =
      elim ((round_at k (omega arith)).each v) [
        | inl same ↦ same.1 ∙ sym (ap (falls (found k v)) same.0 ∙ falls_same (found k v))
        | inr new' ↦
            let i : Improved m.entries (at k) (at (suc k)) v = new'.1 in
            new'.0 ∙ sym (ap (falls (found k v)) i.new ∙ falls_below (found k v) (i.before + cost i.edge) i.less)
      ]

  pub fresh_in : (k : ℕ) → k ≤ 16385 → (v : ℕ) → (at k).fresh v ≡ true → v < m.rows
  fresh_in zero l v is =
      elim (cases_eq v source) [
        | inl same ↦ subst (λ x. x < m.rows) (sym same) source_in
        | inr other ↦ absurd (let e : false ≡ true = sym (ap (λ (x : Vertex). x.improved) (at_other v other)) ∙ is in cc)
      ]
  fresh_in (suc k) l v is =
      elim ((round_at k (omega arith)).each v) [
        | inl same ↦ absurd (let e : false ≡ true = sym same.1 ∙ is in cc)
        | inr new' ↦
            let i : Improved m.entries (at k) (at (suc k)) v = new'.1 in
            subst (λ x. x < m.rows) i.to (All-contains (λ (t : Triple). t.j < m.rows) m.entries i.edge (graph_edges m g).to i.is)
      ]

  pub source_fresh : (at 0).fresh source ≡ true
  source_fresh = ap (λ (x : Vertex). x.improved) at_source

  -- ---- The edges that a rank keeps

  abbrev pub edges_of : ℕ → List (List Edge)
  edges_of r = table_of ranks (places_for ranks m.rows) 0 (2 ^ 64 - 1) (gathered_cells (own_edges ranks r m.entries))

  first_table : (r : ℕ) → table_after (first ranks m source r) ≡ edges_of r
  first_table r = ap (λ n. table_of ranks n 0 (2 ^ 64 - 1) (gathered_cells (own_edges ranks r m.entries))) (begin_len ranks m.rows source r)

  table_stays : (s : SsspState) (votes : ℕ) (vs : List Vertex) → table_after (record (sssp_rules.ended s votes) { vertices = vs }) ≡ table_after s
  table_stays s votes vs =
      ap (λ b. cond b (table_of s.ranks (length vs) 0 (2 ^ 64 - 1) (cond (s.round == 0) [] s.arriving)) (table_after s)) (ne_eqb (min (s.round + 1) (2 ^ 64 - 1)) 0 (λ z. absurd (omega arith)))

  table_next : (s u : SsspState) (votes : ℕ) (vs : List Vertex) (edges : List (List Edge)) → s ≡ record (sssp_rules.ended u votes) { vertices = vs } → table_after u ≡ edges → table_after s ≡ edges
  table_next s u votes vs edges is old = ap table_after is ∙ table_stays u votes vs ∙ old

  was_ended : (k : ℕ) → k ≤ 16384 → (r : ℕ) (s u : SsspState) → slice_get (over (suc k)) r ≡ Some s → slice_get (over k) r ≡ Some u
      → (vs : List Vertex) × (s ≡ record (sssp_rules.ended u (vote_sum sssp_rules (over k))) { vertices = vs })
  was_ended k l r s u here before = (
    _,
    get_once (over (suc k)) r s _ here
        (later_at m.entries m.rows ranks k (over k) (m.rows ∷ []) (m.rows + 1) some (graph_edges m g) (over_in k (omega arith)) (run k (omega arith)).size (run k (omega arith)).knows (small k l) r u before),
  )

  pub table_is : (k : ℕ) → k ≤ 16385 → (r : ℕ) (s : SsspState) → slice_get (over k) r ≡ Some s → table_after s ≡ edges_of r
  table_is zero l r s here =
      let low : r < ranks = subst (λ n. r < n) (over_in 0 (lit< tt)).size (within (over 0) r s here) in
      ap table_after (get_once (over 0) r s (first ranks m source r) here (first_at ranks m source r some g low)) ∙ first_table r
  table_is (suc k) l r s here =
      let low : r < ranks = subst (λ n. r < n) (over_in (suc k) (omega arith)).size (within (over (suc k)) r s here) in
      let u = find (over k) r (subst (λ n. r < n) (sym (over_in k (omega arith)).size) low) in
      let was = was_ended k (omega arith) r s u.0 here u.1 in
      table_next s u.0 (vote_sum sssp_rules (over k)) was.0 (edges_of r) was.1 (table_is k (omega arith) r u.0 u.1)
