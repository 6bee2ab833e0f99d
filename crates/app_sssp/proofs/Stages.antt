-- One round of the canonical run of sssp, as a round of improvements over all vertices.
use Rattle.std.proofs.Common.{ℕ, zero, suc, ◌+◌, ◌-◌, ◌/◌, ◌%◌, ◌^◌, ◌<◌, ◌≤◌, ◌≡◌, ◌≢◌, ◌==◌, min, true, false, cond, List, [], ◌∷◌, Option, Some, None, ℤ, pos, length, map, get_or, slice_get, All, arith, inl, inr, refl, sym, ap, ◌∙◌, subst, ◌⊎◌}
use Rattle.std.specs.Prelude.{Contains, nat_abs}
use Rattle.std.proofs.Math.Nat.{mod-lt}
use Rattle.std.proofs.lemmas.Bool.{ne_eqb}
use Rattle.std.proofs.lemmas.List.{length-map}
use Rattle.std.proofs.lemmas.List.Elements.{All-contains}
use Rattle.std.proofs.lemmas.List.Sums.{fold-append}
use Rattle.bale_items.specs.declared.Item.{Item}
use Rattle.bale_items.specs.declared.triple.Triple.{Triple}
use Rattle.bale_items.specs.Bits.{twos_complement}
use Rattle.list_laws.proofs.Lists.{find, within, get_once, get_map}
use Rattle.mtx_text.specs.Cells.{with_value_raised}
use Rattle.round_program.specs.Canonical.{items_of, emitted_of, emitted_by, absorb_all, absorb_upto, absorbed_round, end_all, vote_sum, InRound}
use Rattle.sparse_rows.specs.Owners.{places_for}
use Rattle.sparse_rows.proofs.Places.{place_below, place_own}
use Rattle.least_walks.specs.declared.table.Edge.{Edge}
use Rattle.least_walks.specs.declared.vertices.Vertex.{Vertex}
use Rattle.least_walks.specs.Walks.{AtMost}
use Rattle.least_walks.specs.Tables.{edge_of, offer, table_of}
use Rattle.least_walks.specs.Vertices.{unreached_vertex, improved_at, marked_places, calm}
use Rattle.least_walks.proofs.Settled.{cost}
use Rattle.least_walks.proofs.Members.{has_item, was_item, upto, has_upto, was_upto}
use Rattle.least_walks.proofs.Offered.{taken, taken_done, Took, taken_cases, Offering, has_offer, was_offered, has_mark, calm_at}
use Rattle.app_sssp.specs.Sssps.{SsspState, sssp_rules, edge_came, table_after}
use Rattle.app_sssp.proofs.Rounds.{Stage, Improved, Round}

-- a vertex as its owner has it
abbrev pub vertex_of : Option SsspState → ℕ → Vertex
vertex_of None p = unreached_vertex
vertex_of (Some s) p = get_or s.vertices p unreached_vertex

abbrev pub vertex_at : ℕ → List SsspState → ℕ → Vertex
vertex_at ranks ss v = vertex_of (slice_get ss (v % ranks)) (v / ranks)

abbrev pub stage_of : ℕ → List SsspState → Stage
stage_of ranks ss = record { found = λ v. (vertex_at ranks ss v).weight; fresh = λ v. (vertex_at ranks ss v).improved }

pub at_vertex : (ranks : ℕ) (ss : List SsspState) (r : ℕ) (s : SsspState) (v : ℕ) → slice_get ss r ≡ Some s → v % ranks ≡ r → vertex_at ranks ss v ≡ get_or s.vertices (v / ranks) unreached_vertex
at_vertex ranks ss r s v at e = ap (λ o. vertex_of o (v / ranks)) (ap (slice_get ss) e ∙ at)

-- the edges that a rank has are those of its vertices
pub record Knows (es : List Triple) (ranks r : ℕ) (s : SsspState) : Type 0 where
  pub sound : (p : ℕ) (e : Edge) → Contains (get_or (table_after s) p []) e → (t : Triple) × Contains es t × (t.i % ranks ≡ r) × (t.i / ranks ≡ p) × (edge_of ranks t ≡ e)
  pub complete : (t : Triple) → Contains es t → t.i % ranks ≡ r → Contains (get_or (table_after s) (t.i / ranks) []) (edge_of ranks t)

-- ---- Absorbs after round 0

one_later : (s : SsspState) (f : ℕ) (x : Item) → s.round ≢ 0 → sssp_rules.absorbed s f x ≡ record s { vertices = improved_at (x.a / s.ranks) x.b s.vertices }
one_later s f x n =
    ap (λ b. record s { arriving = cond b (with_value_raised (edge_came x) s.arriving) s.arriving; vertices = cond b s.vertices (improved_at (x.a / s.ranks) x.b s.vertices) }) (ne_eqb s.round 0 n)

all_later : (s : SsspState) (f : ℕ) (xs : List Item) → s.round ≢ 0 → absorb_all sssp_rules s f xs ≡ record s { vertices = taken s.ranks s.vertices xs }
all_later s f [] n = refl
all_later s f (x ∷ xs) n =
    ap (λ t. absorb_all sssp_rules t f xs) (one_later s f x n) ∙ all_later (record s { vertices = improved_at (x.a / s.ranks) x.b s.vertices }) f xs n

upto_later : (s : SsspState) (lists : ℕ → List Item) (k : ℕ) → s.round ≢ 0 → absorb_upto sssp_rules s lists k ≡ record s { vertices = taken s.ranks s.vertices (upto lists k) }
upto_later s lists zero n = refl
upto_later s lists (suc k) n =
    ap (λ t. absorb_all sssp_rules t k (lists k)) (upto_later s lists k n)
    ∙ all_later (record s { vertices = taken s.ranks s.vertices (upto lists k) }) k (lists k) n
    ∙ ap (λ vs. record s { vertices = vs }) (sym (fold-append (λ ws (x : Item). improved_at (x.a / s.ranks) x.b ws) s.vertices (upto lists k) (lists k)))

-- ---- Weights of edges

pub word_is : (v : ℤ) → v ≡ pos (nat_abs v) → twos_complement v ≡ nat_abs v
word_is v h = ap twos_complement h

pub sum_is : (t : Triple) (k : ℕ) → t.v ≡ pos (nat_abs t.v) → cost t ≤ 1_000_000_000_000 → k ≤ 2 ^ 60 → (k + twos_complement t.v) % 2 ^ 64 ≡ k + cost t
sum_is t k h c l = (let e : twos_complement t.v ≡ cost t = word_is t.v h in omega arith)

-- the edges of a matrix: inside it, and of weights within the limits
pub record AreEdges (rows : ℕ) (es : List Triple) : Type 0 where
  pub from : All (λ (t : Triple). t.i < rows) es
  pub to : All (λ (t : Triple). t.j < rows) es
  pub plain : All (λ (t : Triple). t.v ≡ pos (nat_abs t.v)) es
  pub light : All (λ (t : Triple). cost t ≤ 1_000_000_000_000) es

-- ---- One round

module _ (es : List Triple) (rows ranks n : ℕ) (ss : List SsspState) (shape : List ℕ) (most : ℕ) (some : 0 < ranks) (edges : AreEdges rows es)
    (all : InRound sssp_rules ranks n shape most ss) (size : (r : ℕ) (s : SsspState) → slice_get ss r ≡ Some s → s.rows ≡ rows)
    (knows : (r : ℕ) (s : SsspState) → slice_get ss r ≡ Some s → Knows es ranks r s)
    (low : (v k : ℕ) → (stage_of ranks ss).found v ≡ Some k → k ≤ 2 ^ 60) where
  abbrev next : SsspState → SsspState
  next s = sssp_rules.ended s (vote_sum sssp_rules ss)

  abbrev begun : List SsspState
  begun = end_all sssp_rules ss

  abbrev pub later : List SsspState
  later = absorbed_round sssp_rules begun

  abbrev items : ℕ → List Item
  items r = upto (emitted_by sssp_rules begun r) ranks

  next_at : (r : ℕ) (s : SsspState) → slice_get ss r ≡ Some s → slice_get begun r ≡ Some (next s)
  next_at r s at = get_map next ss r s at

  pub later_at : (r : ℕ) (s : SsspState) → slice_get ss r ≡ Some s → slice_get later r ≡ Some (record (next s) { vertices = taken ranks (map calm s.vertices) (items r) })
  later_at r s at =
      let member = all.each r s at in
      let count : length begun ≡ ranks = length-map ss next ∙ all.size in
      get_map (λ t. absorb_upto sssp_rules t (emitted_by sssp_rules begun t.rank) (length begun)) begun r (next s) (next_at r s at)
      ∙ ap Some (upto_later (next s) (emitted_by sssp_rules begun s.rank) (length begun) (λ z. absurd (let y : min (s.round + 1) (2 ^ 64 - 1) ≡ 0 = z in omega arith))
      ∙ ap (λ k. record (next s) { vertices = taken k (map calm s.vertices) (upto (emitted_by sssp_rules begun s.rank) (length begun)) }) member.all_ranks
      ∙ ap (λ k. record (next s) { vertices = taken ranks (map calm s.vertices) (upto (emitted_by sssp_rules begun k) (length begun)) }) member.own_rank
      ∙ ap (λ k. record (next s) { vertices = taken ranks (map calm s.vertices) (upto (emitted_by sssp_rules begun r) k) }) count)

  rank_at : (r : ℕ) → r < ranks → (s : SsspState) × (slice_get ss r ≡ Some s)
  rank_at r l = find ss r (subst (λ k. r < k) (sym all.size) l)

  sent_is : (r f : ℕ) (s : SsspState) → slice_get ss f ≡ Some s → emitted_by sssp_rules begun r f ≡ items_of r (next s).outgoing
  sent_is r f s at = ap (λ o. emitted_of sssp_rules o r) (next_at f s at)

  came : (r f : ℕ) (s : SsspState) (x : Item) → f < ranks → slice_get ss f ≡ Some s → Contains (next s).outgoing (r, x) → Contains (items r) x
  came r f s x l at h =
      has_upto (emitted_by sssp_rules begun r) ranks f x l (subst (λ xs. Contains xs x) (sym (sent_is r f s at)) (has_item r (next s).outgoing x h))

  record Source (r : ℕ) (x : Item) : Type 0 where
    pub from : ℕ
    pub state : SsspState
    pub at : slice_get ss from ≡ Some state
    pub sent : Contains (next state).outgoing (r, x)

  came_from : (r : ℕ) (x : Item) → Contains (items r) x → Source r x
  came_from r x h =
      let f = was_upto (emitted_by sssp_rules begun r) ranks x h in
      let s = rank_at f.0 f.1 in
      record { from = f.0; state = s.0; at = s.1; sent = was_item r (next s.0).outgoing x (subst (λ xs. Contains xs x) (sent_is r f.0 s.0 s.1) f.2) }

  -- the vertices of a rank as the next round ends
  abbrev after : ℕ → SsspState → List Vertex
  after r s = taken ranks (map calm s.vertices) (items r)

  after_at : (r : ℕ) (s : SsspState) (v : ℕ) → slice_get ss r ≡ Some s → v % ranks ≡ r → vertex_at ranks later v ≡ get_or (after r s) (v / ranks) unreached_vertex
  after_at r s v at e = at_vertex ranks later r (record (next s) { vertices = after r s }) v (later_at r s at) e

  tried : (e : Triple) → Contains es e → (stage_of ranks ss).fresh e.i ≡ true → (k : ℕ) → (stage_of ranks ss).found e.i ≡ Some k → AtMost ((stage_of ranks later).found e.j) (k + cost e)
  tried e has fresh k found =
      let f : ℕ = e.i % ranks in
      let r : ℕ = e.j % ranks in
      let s = rank_at f (mod-lt e.i some) in
      let t = rank_at r (mod-lt e.j some) in
      let here : vertex_at ranks ss e.i ≡ get_or s.0.vertices (e.i / ranks) unreached_vertex = at_vertex ranks ss f s.0 e.i s.1 refl in
      let weight : (get_or (map calm s.0.vertices) (e.i / ranks) unreached_vertex).weight ≡ Some k = ap (λ (v : Vertex). v.weight) (calm_at s.0.vertices (e.i / ranks) ∙ ap calm (sym here)) ∙ found in
      let listed : Contains (marked_places s.0.vertices) (0 + e.i / ranks) = has_mark 0 s.0.vertices (e.i / ranks) (ap (λ (v : Vertex). v.improved) (sym here) ∙ fresh) in
      let offered : Contains (next s.0).outgoing (offer k (edge_of ranks e)) =
      has_offer (table_after s.0) (map calm s.0.vertices) (marked_places s.0.vertices) (offer k (edge_of ranks e))
      (record {
        place = e.i / ranks;
        listed = subst (Contains (marked_places s.0.vertices)) (let z : 0 + e.i / ranks ≡ e.i / ranks = omega arith in z) listed;
        edge = edge_of ranks e;
        kept = (knows f s.0 s.1).complete e has refl;
        weight = k;
        found = weight;
        is = refl;
      }) in
      let place : e.j / ranks < length (map calm t.0.vertices) =
      subst (λ l. e.j / ranks < l) (sym (length-map t.0.vertices calm ∙ (all.each r t.0 t.1).valid.places ∙ ap (λ p. places_for p t.0.rows) (all.each r t.0 t.1).all_ranks ∙ ap (places_for ranks) (size r t.0 t.1)))
      (place_below ranks rows e.j some (All-contains (λ (t : Triple). t.j < rows) es e edges.to has)) in
      let done : AtMost (get_or (after r t.0) (e.j / ranks) unreached_vertex).weight ((k + twos_complement e.v) % 2 ^ 64) =
      taken_done ranks (e.j / ranks) (map calm t.0.vertices) (items r) (offer k (edge_of ranks e)).1 place (came r f s.0 (offer k (edge_of ranks e)).1 (mod-lt e.i some) s.1 offered) refl in
      let sum : (k + twos_complement e.v) % 2 ^ 64 ≡ k + cost e =
      sum_is e k (All-contains (λ (t : Triple). t.v ≡ pos (nat_abs t.v)) es e edges.plain has) (All-contains (λ (t : Triple). cost t ≤ 1_000_000_000_000) es e edges.light has) (low e.i k found) in
      subst (AtMost ((stage_of ranks later).found e.j)) sum
      (subst (λ (v : Vertex). AtMost v.weight ((k + twos_complement e.v) % 2 ^ 64)) (sym (after_at r t.0 e.j t.1 refl)) done)

  improved : (v : ℕ) (s : SsspState) → slice_get ss (v % ranks) ≡ Some s
      → Took ranks (v / ranks) (get_or (map calm s.vertices) (v / ranks) unreached_vertex) (get_or (after (v % ranks) s) (v / ranks) unreached_vertex) (items (v % ranks))
      → Improved es (stage_of ranks ss) (stage_of ranks later) v
  improved v s at took =
      let r : ℕ = v % ranks in
      let x : Item = took.item in
      let source : Source r x = came_from r x took.is in
      let u : SsspState = source.state in
      let o : Offering (table_after u) (map calm u.vertices) (marked_places u.vertices) (r, x) = was_offered (table_after u) (map calm u.vertices) (marked_places u.vertices) (r, x) source.sent in
      let t = (knows source.from u source.at).sound o.place o.edge o.kept in
      let edge : Triple = t.0 in
      let owner : edge.j % ranks ≡ r = ap (λ (e : Edge). e.owner) t.4 ∙ ap (λ (w : ℕ × Item). w.0) o.is in
      let to : edge.j ≡ x.a = ap (λ (e : Edge). e.to) t.4 ∙ ap (λ (w : ℕ × Item). w.1.a) o.is in
      let word : twos_complement edge.v ≡ o.edge.weight = ap (λ (e : Edge). e.weight) t.4 in
      let same : edge.j ≡ v = place_own ranks edge.j v owner (ap (λ k. k / ranks) to ∙ took.place) in
      let found : (stage_of ranks ss).found edge.i ≡ Some o.weight =
      ap (λ (w : Vertex). w.weight) (at_vertex ranks ss source.from u edge.i source.at t.2 ∙ ap (λ p. get_or u.vertices p unreached_vertex) t.3)
      ∙ sym (ap (λ (w : Vertex). w.weight) (calm_at u.vertices o.place)) ∙ o.found in
      let sum : (o.weight + twos_complement edge.v) % 2 ^ 64 ≡ o.weight + cost edge =
      sum_is edge o.weight (All-contains (λ (t : Triple). t.v ≡ pos (nat_abs t.v)) es edge edges.plain t.1) (All-contains (λ (t : Triple). cost t ≤ 1_000_000_000_000) es edge edges.light t.1) (low edge.i o.weight found) in
      let b : x.b ≡ o.weight + cost edge = sym (ap (λ (w : ℕ × Item). w.1.b) o.is) ∙ ap (λ k. (o.weight + k) % 2 ^ 64) (sym word) ∙ sum in
      let before : (get_or (map calm s.vertices) (v / ranks) unreached_vertex).weight ≡ (stage_of ranks ss).found v =
      ap (λ (w : Vertex). w.weight) (calm_at s.vertices (v / ranks) ∙ ap calm (sym (at_vertex ranks ss r s v at refl))) in
      record {
        edge = edge;
        is = t.1;
        to = same;
        before = o.weight;
        from = found;
        new = ap (λ (w : Vertex). w.weight) (after_at r s v at refl ∙ took.new) ∙ ap Some b;
        less = λ h. took.less (subst (λ w. AtMost w x.b) (sym before) (subst (AtMost ((stage_of ranks ss).found v)) (sym b) h));
      }

  each : (v : ℕ) → (((stage_of ranks later).found v ≡ (stage_of ranks ss).found v) × ((stage_of ranks later).fresh v ≡ false))
      ⊎ (((stage_of ranks later).fresh v ≡ true) × Improved es (stage_of ranks ss) (stage_of ranks later) v)
  each v =
      let r : ℕ = v % ranks in
      let s = rank_at r (mod-lt v some) in
      let now : vertex_at ranks later v ≡ get_or (after r s.0) (v / ranks) unreached_vertex = after_at r s.0 v s.1 refl in
      elim (taken_cases ranks (v / ranks) (map calm s.0.vertices) (items r)) [
        | inl same ↦
            let is : vertex_at ranks later v ≡ calm (vertex_at ranks ss v) = now ∙ same ∙ calm_at s.0.vertices (v / ranks) ∙ ap calm (sym (at_vertex ranks ss r s.0 v s.1 refl)) in
            inl (ap (λ (w : Vertex). w.weight) is, ap (λ (w : Vertex). w.improved) is)
        | inr took ↦ inr (ap (λ (w : Vertex). w.improved) (now ∙ took.new), improved v s.0 s.1 took)
      ]

  pub one_round : Round es (stage_of ranks ss) (stage_of ranks later)
  one_round = record { tried = tried; each = each }

  -- edges stay
  table_stays : (s : SsspState) (vs : List Vertex) → table_after (record (next s) { vertices = vs }) ≡ table_after s
  table_stays s vs =
      ap (λ b. cond b (table_of s.ranks (length vs) 0 (2 ^ 64 - 1) (cond (s.round == 0) [] s.arriving)) (table_after s)) (ne_eqb (min (s.round + 1) (2 ^ 64 - 1)) 0 (λ z. absurd (omega arith)))

  was_at : (r : ℕ) (s : SsspState) → slice_get later r ≡ Some s → (u : SsspState) × (slice_get ss r ≡ Some u) × (s ≡ record (next u) { vertices = after r u })
  was_at r s at =
      let count : length later ≡ ranks = length-map begun _ ∙ length-map ss next ∙ all.size in
      let u = rank_at r (subst (λ k. r < k) count (within later r s at)) in
      (u.0, u.1, get_once later r s (record (next u.0) { vertices = after r u.0 }) at (later_at r u.0 u.1))

  pub still_knows : (r : ℕ) (s : SsspState) → slice_get later r ≡ Some s → Knows es ranks r s
  still_knows r s at =
      let u = was_at r s at in
      let old : Knows es ranks r u.0 = knows r u.0 u.1 in
      subst (Knows es ranks r) (sym u.2) (record {
        sound = λ p e h. old.sound p e (subst (λ t. Contains (get_or t p []) e) (table_stays u.0 (after r u.0)) h);
        complete = λ t h o. subst (λ es. Contains (get_or es (t.i / ranks) []) (edge_of ranks t)) (sym (table_stays u.0 (after r u.0))) (old.complete t h o);
      })

  pub still_size : (r : ℕ) (s : SsspState) → slice_get later r ≡ Some s → s.rows ≡ rows
  still_size r s at = let u = was_at r s at in ap (λ (t : SsspState). t.rows) u.2 ∙ size r u.0 u.1
