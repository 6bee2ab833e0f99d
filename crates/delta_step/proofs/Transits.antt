-- From one round of the canonical run to the next: light rounds, heavy rounds and find rounds.
use Rattle.std.proofs.Common.{ℕ, zero, suc, ◌+◌, ◌/◌, ◌%◌, ◌^◌, ◌<◌, ◌≤◌, ◌≡◌, ◌&&◌, ◌||◌, not, Bool, true, false, cond, eqb, List, [], ◌∷◌, Option, Some, None, length, map, get_or, slice_get, arith, inl, inr, refl, sym, ap, ◌∙◌, subst}
use Rattle.std.specs.Prelude.{Contains}
use Rattle.std.specs.List.{list_any}
use Rattle.std.proofs.Math.Nat.{mod-lt}
use Rattle.std.proofs.lemmas.Bool.{cases_Bool, and_from, and_parts, false≢true}
use Rattle.std.proofs.lemmas.List.{length-map}
use Rattle.std.proofs.lemmas.List.Folds.{list_any-append}
use Rattle.bale_items.specs.declared.triple.Triple.{Triple}
use Rattle.list_laws.proofs.Lists.{find, get_map, got_map}
use Rattle.round_program.specs.Canonical.{absorbed_round, end_all, vote_sum, InRound}
use Rattle.least_walks.specs.declared.table.Edge.{Edge}
use Rattle.least_walks.specs.declared.vertices.Vertex.{Vertex}
use Rattle.least_walks.specs.Walks.{AtMost}
use Rattle.least_walks.specs.Tables.{edge_of, offers_by_place}
use Rattle.least_walks.specs.Vertices.{unreached_vertex, marked_places, in_bucket, weight_in, places_where, calm, calm_if}
use Rattle.least_walks.proofs.Marks.{picks_all}
use Rattle.least_walks.proofs.Members.{has_filtered, was_filtered}
use Rattle.least_walks.proofs.Offered.{has_mark, was_marked}
use Rattle.least_walks.proofs.Settled.{cost}
use Rattle.app_sssp.proofs.Rounds.{Stage}
use Rattle.app_sssp.proofs.Stages.{AreEdges}
use Rattle.delta_step.specs.declared.phase.Phase.TheVariants.{Light}
use Rattle.delta_step.specs.Deltas.{DeltaState, delta_rules, after_activation}
use Rattle.delta_step.proofs.Ascending.{has_any, any_has}
use Rattle.delta_step.proofs.Buckets.{Offers, is_light, active, calmed_stage, light_sent, opened}
use Rattle.delta_step.proofs.OfferRounds.{vertex_at, stage_of, at_vertex, offer_round, was_at}

-- the edges that a rank has of those that pass a test
pub record Keeps (es : List Triple) (ranks r : ℕ) (test : Triple → Bool) (table : List (List Edge)) : Type 0 where
  pub sound : (p : ℕ) (e : Edge) → Contains (get_or table p []) e → (t : Triple) × Contains es t × (t.i % ranks ≡ r) × (t.i / ranks ≡ p) × (edge_of ranks t ≡ e) × (test t ≡ true)
  pub complete : (t : Triple) → Contains es t → test t ≡ true → t.i % ranks ≡ r → Contains (get_or table (t.i / ranks) []) (edge_of ranks t)

-- what no round after the first changes
pub record Static (es : List Triple) (rows width ranks : ℕ) (ss : List DeltaState) : Type 0 where
  pub size : (r : ℕ) (s : DeltaState) → slice_get ss r ≡ Some s → s.rows ≡ rows
  pub wide : (r : ℕ) (s : DeltaState) → slice_get ss r ≡ Some s → s.width ≡ width
  pub light : (r : ℕ) (s : DeltaState) → slice_get ss r ≡ Some s → Keeps es ranks r (is_light width) s.light
  pub heavy : (r : ℕ) (s : DeltaState) → slice_get ss r ≡ Some s → Keeps es ranks r (λ e. not (is_light width e)) s.heavy

-- the settled vertices
abbrev pub open_in : Option DeltaState → ℕ → Bool
open_in None p = false
open_in (Some s) p = list_any (eqb p) s.settled

abbrev pub open_of : ℕ → List DeltaState → ℕ → Bool
open_of ranks ss v = open_in (slice_get ss (v % ranks)) (v / ranks)

pub at_open : (ranks : ℕ) (ss : List DeltaState) (r : ℕ) (s : DeltaState) (v : ℕ) → slice_get ss r ≡ Some s → v % ranks ≡ r → open_of ranks ss v ≡ list_any (eqb (v / ranks)) s.settled
at_open ranks ss r s v at e = ap (λ o. open_in o (v / ranks)) (ap (slice_get ss) e ∙ at)

-- a round of offers from a stage that looks the same
pub offers_same : (es : List Triple) (sent : Triple → Bool) (x z y : Stage) → ((v : ℕ) → x.found v ≡ z.found v) → ((v : ℕ) → x.fresh v ≡ z.fresh v) → Offers es sent x y → Offers es sent z y
offers_same es sent x z y f g round =
    record {
      tried = λ e has s m found. round.tried e has s m (f e.i ∙ found);
      each = λ v. elim (round.each v) [
        | inl same ↦ inl (same.0 ∙ f v, same.1 ∙ g v)
        | inr new' ↦ (let t = new'.1 in inr (new'.0, record { edge = t.edge; is = t.is; was_sent = t.was_sent; to = t.to; before = t.before; from = sym (f t.edge.i) ∙ t.from; new = t.new; less = λ h. t.less (subst (λ o. AtMost o (t.before + cost t.edge)) (sym (f v)) h) }))
      ];
    }

-- ---- Picked places

pub has_pick : (test : Vertex → Bool) (vs : List Vertex) (p : ℕ) → ((get_or vs p unreached_vertex).improved && test (get_or vs p unreached_vertex)) ≡ true → Contains (places_where test vs) p
has_pick test vs p h =
    let parts = and_parts (get_or vs p unreached_vertex).improved (test (get_or vs p unreached_vertex)) h in
    subst (λ ps. Contains ps p) (picks_all test vs)
    (has_filtered (λ q. test (get_or vs q unreached_vertex)) (marked_places vs) p (subst (Contains (marked_places vs)) (let z : 0 + p ≡ p = omega arith in z) (has_mark 0 vs p parts.0)) parts.1)

pub was_pick : (test : Vertex → Bool) (vs : List Vertex) (p : ℕ) → Contains (places_where test vs) p → ((get_or vs p unreached_vertex).improved && test (get_or vs p unreached_vertex)) ≡ true
was_pick test vs p h =
    let f = was_filtered (λ q. test (get_or vs q unreached_vertex)) (marked_places vs) p (subst (λ ps. Contains ps p) (sym (picks_all test vs)) h) in
    let m = was_marked 0 vs p f.0 in
    let is : p ≡ m.0 = (let e : p ≡ 0 + m.0 = m.1 in omega arith) in
    and_from (get_or vs p unreached_vertex).improved (test (get_or vs p unreached_vertex)) (ap (λ q. (get_or vs q unreached_vertex).improved) is ∙ m.3) f.1

pub picked_any : (test : Vertex → Bool) (vs : List Vertex) (p : ℕ) → list_any (eqb p) (places_where test vs) ≡ ((get_or vs p unreached_vertex).improved && test (get_or vs p unreached_vertex))
picked_any test vs p =
    elim (cases_Bool ((get_or vs p unreached_vertex).improved && test (get_or vs p unreached_vertex))) [
      | inl t ↦ any_has p (places_where test vs) (has_pick test vs p t) ∙ sym t
      | inr f ↦ elim (cases_Bool (list_any (eqb p) (places_where test vs))) [
        | inl t ↦ absurd (false≢true (sym f ∙ was_pick test vs p (has_any p (places_where test vs) t)))
        | inr g ↦ g ∙ sym f
      ]
    ]

pub calm_at : (test : Vertex → Bool) (vs : List Vertex) (p : ℕ) → test unreached_vertex ≡ false → get_or (map (calm_if test) vs) p unreached_vertex ≡ calm_if test (get_or vs p unreached_vertex)
calm_at test [] p h = sym (ap (λ b. cond b (calm unreached_vertex) unreached_vertex) h)
calm_at test (v ∷ vs) zero h = refl
calm_at test (v ∷ vs) (suc p) h = calm_at test vs p h

pub calm_weight : (test : Vertex → Bool) (v : Vertex) → (calm_if test v).weight ≡ v.weight
calm_weight test v = elim (cases_Bool (test v)) [
  | inl t ↦ ap (λ b. (cond b (calm v) v).weight) t
  | inr f ↦ ap (λ b. (cond b (calm v) v).weight) f
]

calm_mark : (test : Vertex → Bool) (v : Vertex) → (calm_if test v).improved ≡ (v.improved && not (test v))
calm_mark test v = elim (cases_Bool (test v)) [
  | inl t ↦ ap (λ b. (cond b (calm v) v).improved) t ∙ sym (ap (λ b. v.improved && not b) t ∙ never v.improved)
  | inr f ↦ ap (λ b. (cond b (calm v) v).improved) f ∙ sym (ap (λ b. v.improved && not b) f ∙ always v.improved)
]
  where
    never : (b : Bool) → (b && false) ≡ false
    never true = refl
    never false = refl

    always : (b : Bool) → (b && true) ≡ b
    always true = refl
    always false = refl

-- ---- A light round

module _ (es : List Triple) (rows width ranks n k b : ℕ) (ss : List DeltaState) (shape : List ℕ) (most : ℕ) (some : 0 < ranks) (edges : AreEdges rows es)
    (all : InRound delta_rules ranks n shape most ss) (next_in : InRound delta_rules ranks k shape most (end_all delta_rules ss))
    (static : Static es rows width ranks ss) (bucket : (r : ℕ) (s : DeltaState) → slice_get ss r ≡ Some s → s.bucket ≡ b)
    (low : (v k : ℕ) → (stage_of ranks ss).found v ≡ Some k → k ≤ 2 ^ 60)
    (becomes : (r : ℕ) (s : DeltaState) → slice_get ss r ≡ Some s → delta_rules.ended s (vote_sum delta_rules ss) ≡ after_activation s) where
  abbrev begun : List DeltaState
  begun = end_all delta_rules ss

  begun_at : (r : ℕ) (s : DeltaState) → slice_get ss r ≡ Some s → slice_get begun r ≡ Some (after_activation s)
  begun_at r s at = get_map (λ t. delta_rules.ended t (vote_sum delta_rules ss)) ss r s at ∙ ap Some (becomes r s at)

  begun_from : (r : ℕ) (t : DeltaState) → slice_get begun r ≡ Some t → (s : DeltaState) × (slice_get ss r ≡ Some s) × (t ≡ after_activation s)
  begun_from r t at =
      let s = got_map (λ t. delta_rules.ended t (vote_sum delta_rules ss)) ss r t at in
      (s.0, s.1, sym s.2 ∙ becomes r s.0 s.1)

  rank_at : (r : ℕ) → r < ranks → (s : DeltaState) × (slice_get ss r ≡ Some s)
  rank_at r l = find ss r (subst (λ k. r < k) (sym all.size) l)

  test_is : (r : ℕ) (s : DeltaState) (v : Vertex) → slice_get ss r ≡ Some s → in_bucket s.width s.bucket v ≡ weight_in width b v.weight
  test_is r s v at = ap (λ w. weight_in w s.bucket v.weight) (static.wide r s at) ∙ ap (λ k. weight_in width k v.weight) (bucket r s at)

  abbrev table_in : Option DeltaState → List (List Edge)
  table_in None = []
  table_in (Some s) = s.light

  abbrev places_in : Option DeltaState → List ℕ
  places_in None = []
  places_in (Some s) = places_where (in_bucket s.width s.bucket) s.vertices

  active_is : (r : ℕ) (s : DeltaState) (v : ℕ) → slice_get ss r ≡ Some s → v % ranks ≡ r
      → active width b (stage_of ranks ss) v ≡ ((get_or s.vertices (v / ranks) unreached_vertex).improved && in_bucket s.width s.bucket (get_or s.vertices (v / ranks) unreached_vertex))
  active_is r s v at e =
      ap (λ (w : Vertex). w.improved && weight_in width b w.weight) (at_vertex ranks ss r s v at e)
      ∙ ap (λ t. (get_or s.vertices (v / ranks) unreached_vertex).improved && t) (sym (test_is r s (get_or s.vertices (v / ranks) unreached_vertex) at))

  begun_vertex : (v : ℕ) → (r : ℕ) (s : DeltaState) → slice_get ss r ≡ Some s → v % ranks ≡ r → vertex_at ranks begun v ≡ calm_if (in_bucket s.width s.bucket) (vertex_at ranks ss v)
  begun_vertex v r s at e =
      at_vertex ranks begun r (after_activation s) v (begun_at r s at) e
      ∙ calm_at (in_bucket s.width s.bucket) s.vertices (v / ranks) refl
      ∙ ap (calm_if (in_bucket s.width s.bucket)) (sym (at_vertex ranks ss r s v at e))

  same_found : (v : ℕ) → (stage_of ranks begun).found v ≡ (stage_of ranks ss).found v
  same_found v =
      let s = rank_at (v % ranks) (mod-lt v some) in
      ap (λ (w : Vertex). w.weight) (begun_vertex v (v % ranks) s.0 s.1 refl) ∙ calm_weight (in_bucket s.0.width s.0.bucket) (vertex_at ranks ss v)

  calm_fresh : (v : ℕ) → (stage_of ranks begun).fresh v ≡ (calmed_stage width b (stage_of ranks ss)).fresh v
  calm_fresh v =
      let s = rank_at (v % ranks) (mod-lt v some) in
      ap (λ (w : Vertex). w.improved) (begun_vertex v (v % ranks) s.0 s.1 refl)
      ∙ calm_mark (in_bucket s.0.width s.0.bucket) (vertex_at ranks ss v)
      ∙ ap (λ t. (vertex_at ranks ss v).improved && not t) (test_is (v % ranks) s.0 (vertex_at ranks ss v) s.1)

  abbrev sent : Triple → Bool
  sent = light_sent width b (stage_of ranks ss)

  abbrev pub light_later : List DeltaState
  light_later = absorbed_round delta_rules begun

  sound : (r : ℕ) (t : DeltaState) → slice_get begun r ≡ Some t → (p : ℕ) (e : Edge) → Contains (places_in (slice_get ss r)) p → Contains (get_or (table_in (slice_get ss r)) p []) e
      → (t : Triple) × Contains es t × (t.i % ranks ≡ r) × (t.i / ranks ≡ p) × (edge_of ranks t ≡ e) × (sent t ≡ true)
  sound r t at p e listed kept =
      let s = begun_from r t at in
      let there : Contains (places_where (in_bucket s.0.width s.0.bucket) s.0.vertices) p = subst (λ o. Contains (places_in o) p) s.1 listed in
      let edge = (static.light r s.0 s.1).sound p e (subst (λ o. Contains (get_or (table_in o) p []) e) s.1 kept) in
      let on : active width b (stage_of ranks ss) edge.0.i ≡ true =
      active_is r s.0 edge.0.i s.1 edge.2
      ∙ ap (λ q. (get_or s.0.vertices q unreached_vertex).improved && in_bucket s.0.width s.0.bucket (get_or s.0.vertices q unreached_vertex)) edge.3
      ∙ was_pick (in_bucket s.0.width s.0.bucket) s.0.vertices p there in
      (edge.0, edge.1, edge.2, edge.3, edge.4, and_from (is_light width edge.0) (active width b (stage_of ranks ss) edge.0.i) edge.5 on)

  complete : (r : ℕ) (t : DeltaState) → slice_get begun r ≡ Some t → (e : Triple) → Contains es e → sent e ≡ true → e.i % ranks ≡ r
      → Contains (places_in (slice_get ss r)) (e.i / ranks) × Contains (get_or (table_in (slice_get ss r)) (e.i / ranks) []) (edge_of ranks e)
  complete r t at e has is_sent own =
      let s = begun_from r t at in
      let parts = and_parts (is_light width e) (active width b (stage_of ranks ss) e.i) is_sent in (
        subst (λ o. Contains (places_in o) (e.i / ranks)) (sym s.1) (has_pick (in_bucket s.0.width s.0.bucket) s.0.vertices (e.i / ranks) (sym (active_is r s.0 e.i s.1 own) ∙ parts.1)),
        subst (λ o. Contains (get_or (table_in o) (e.i / ranks) []) (edge_of ranks e)) (sym s.1) ((static.light r s.0 s.1).complete e has parts.0 own),
      )

  sends : (r : ℕ) (t : DeltaState) → slice_get begun r ≡ Some t → t.outgoing ≡ offers_by_place (table_in (slice_get ss r)) t.vertices (places_in (slice_get ss r))
  sends r t at =
      let s = begun_from r t at in
      subst (λ o. t.outgoing ≡ offers_by_place (table_in o) t.vertices (places_in o)) (sym s.1)
      (subst (λ (u : DeltaState). u.outgoing ≡ offers_by_place s.0.light u.vertices (places_where (in_bucket s.0.width s.0.bucket) s.0.vertices)) (sym s.2) refl)

  pub light_round : Offers es sent (calmed_stage width b (stage_of ranks ss)) (stage_of ranks light_later)
  light_round =
      offers_same es sent (stage_of ranks begun) (calmed_stage width b (stage_of ranks ss)) (stage_of ranks light_later) same_found calm_fresh
      (offer_round es rows ranks k begun shape most some edges next_in
      (λ r t at. (let s = begun_from r t at in ap (λ (u : DeltaState). u.rows) s.2 ∙ static.size r s.0 s.1))
      (λ r t at. (let s = begun_from r t at in inl (ap (λ (u : DeltaState). u.phase) s.2)))
      sent (λ r. table_in (slice_get ss r)) (λ r. places_in (slice_get ss r)) sends sound complete
      (λ v k found. low v k (sym (same_found v) ∙ found)))

  -- a rank after the round, from what it was before
  pub light_was : (r : ℕ) (t : DeltaState) → slice_get light_later r ≡ Some t → (s : DeltaState) × (vs : List Vertex) × (slice_get ss r ≡ Some s) × (t ≡ record (after_activation s) { vertices = vs })
  light_was r t at =
      let u = was_at es rows ranks k begun shape most some edges next_in
      (λ r t at. (let s = begun_from r t at in ap (λ (u : DeltaState). u.rows) s.2 ∙ static.size r s.0 s.1))
      (λ r t at. (let s = begun_from r t at in inl (ap (λ (u : DeltaState). u.phase) s.2)))
      sent (λ r. table_in (slice_get ss r)) (λ r. places_in (slice_get ss r)) sends sound complete
      (λ v k found. low v k (sym (same_found v) ∙ found)) r t at in
      let s = begun_from r u.0 u.1 in
      (s.0, t.vertices, s.1, subst (λ (w : DeltaState). t ≡ record w { vertices = t.vertices }) s.2 (subst (λ (w : DeltaState). w ≡ record u.0 { vertices = w.vertices }) (sym u.2) refl))

  pub light_open : (v : ℕ) → opened (open_of ranks ss) width b (stage_of ranks ss) v ≡ open_of ranks light_later v
  light_open v =
      let r : ℕ = v % ranks in
      let count : length light_later ≡ ranks = length-map begun _ ∙ length-map ss _ ∙ all.size in
      let t = find light_later r (subst (λ k. r < k) (sym count) (mod-lt v some)) in
      let w = light_was r t.0 t.1 in
      let s : DeltaState = w.0 in
      ap (λ a. open_of ranks ss v || a) (active_is r s v w.2 refl ∙ sym (picked_any (in_bucket s.width s.bucket) s.vertices (v / ranks)))
      ∙ ap (λ a. a || list_any (eqb (v / ranks)) (places_where (in_bucket s.width s.bucket) s.vertices)) (at_open ranks ss r s v w.2 refl)
      ∙ sym (list_any-append (eqb (v / ranks)) s.settled (places_where (in_bucket s.width s.bucket) s.vertices))
      ∙ sym (at_open ranks light_later r t.0 v t.1 refl ∙ ap (λ (u : DeltaState). list_any (eqb (v / ranks)) u.settled) w.3)

  pub light_static : Static es rows width ranks light_later
  light_static =
      record {
        size = λ r t at. (let w = light_was r t at in ap (λ (u : DeltaState). u.rows) w.3 ∙ static.size r w.0 w.2);
        wide = λ r t at. (let w = light_was r t at in ap (λ (u : DeltaState). u.width) w.3 ∙ static.wide r w.0 w.2);
        light = λ r t at. (let w = light_was r t at in subst (λ (u : DeltaState). Keeps es ranks r (is_light width) u.light) (sym w.3) (static.light r w.0 w.2));
        heavy = λ r t at. (let w = light_was r t at in subst (λ (u : DeltaState). Keeps es ranks r (λ e. not (is_light width e)) u.heavy) (sym w.3) (static.heavy r w.0 w.2));
      }

  pub light_phase : (r : ℕ) (t : DeltaState) → slice_get light_later r ≡ Some t → t.phase ≡ Light
  light_phase r t at = (let w = light_was r t at in ap (λ (u : DeltaState). u.phase) w.3)

  pub light_bucket : (r : ℕ) (t : DeltaState) → slice_get light_later r ≡ Some t → t.bucket ≡ b
  light_bucket r t at = (let w = light_was r t at in ap (λ (u : DeltaState). u.bucket) w.3 ∙ bucket r w.0 w.2)
