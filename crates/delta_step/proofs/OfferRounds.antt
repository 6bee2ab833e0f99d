-- A light or heavy round of the canonical run, as a round of offers over all vertices.
use Rattle.std.proofs.Common.{ℕ, zero, suc, ◌+◌, ◌/◌, ◌%◌, ◌^◌, ◌<◌, ◌≤◌, ◌≡◌, ◌==◌, ◌&&◌, Bool, true, cond, List, [], ◌∷◌, Option, Some, None, pos, length, get_or, slice_get, inl, inr, refl, sym, ap, ◌∙◌, subst, ◌⊎◌}
use Rattle.std.specs.Prelude.{Contains, nat_abs, nat_lt}
use Rattle.std.specs.List.{filter, fold}
use Rattle.std.proofs.Math.Nat.{mod-lt}
use Rattle.std.proofs.lemmas.Bool.{cases_Bool, and_from, lt-ltb, eq-eqb}
use Rattle.std.proofs.lemmas.List.{length-map}
use Rattle.std.proofs.lemmas.List.Elements.{All-contains}
use Rattle.std.proofs.lemmas.List.Sums.{fold-append}
use Rattle.bale_items.specs.declared.Item.{Item}
use Rattle.bale_items.specs.declared.triple.Triple.{Triple}
use Rattle.bale_items.specs.Bits.{twos_complement}
use Rattle.list_laws.proofs.Lists.{find, within, get_once, get_map}
use Rattle.round_program.specs.Canonical.{items_of, emitted_of, emitted_by, absorb_all, absorb_upto, absorbed_round, InRound}
use Rattle.sparse_rows.specs.Owners.{places_for}
use Rattle.sparse_rows.proofs.Places.{place_below, place_own}
use Rattle.least_walks.specs.declared.table.Edge.{Edge}
use Rattle.least_walks.specs.declared.vertices.Vertex.{Vertex}
use Rattle.least_walks.specs.Walks.{AtMost}
use Rattle.least_walks.specs.Tables.{edge_of, offer, offers_by_place}
use Rattle.least_walks.specs.Vertices.{unreached_vertex, improved_at}
use Rattle.least_walks.proofs.Settled.{cost}
use Rattle.least_walks.proofs.Members.{has_item, was_item, upto, has_upto, was_upto, has_filtered, was_filtered}
use Rattle.least_walks.proofs.Offered.{taken, taken_done, Took, taken_cases, Offering, has_offer, was_offered}
use Rattle.app_sssp.proofs.Rounds.{Stage}
use Rattle.app_sssp.proofs.Stages.{AreEdges, sum_is}
use Rattle.delta_step.specs.declared.phase.Phase.TheVariants.{Light, Heavy}
use Rattle.delta_step.specs.Deltas.{DeltaState, delta_rules, absorbed_in}
use Rattle.delta_step.proofs.Buckets.{Offers}
use Rattle.delta_step.proofs.Buckets as buckets

-- a vertex as its owner has it
abbrev pub vertex_of : Option DeltaState → ℕ → Vertex
vertex_of None p = unreached_vertex
vertex_of (Some s) p = get_or s.vertices p unreached_vertex

abbrev pub vertex_at : ℕ → List DeltaState → ℕ → Vertex
vertex_at ranks ss v = vertex_of (slice_get ss (v % ranks)) (v / ranks)

abbrev pub stage_of : ℕ → List DeltaState → Stage
stage_of ranks ss = record { found = λ v. (vertex_at ranks ss v).weight; fresh = λ v. (vertex_at ranks ss v).improved }

pub at_vertex : (ranks : ℕ) (ss : List DeltaState) (r : ℕ) (s : DeltaState) (v : ℕ) → slice_get ss r ≡ Some s → v % ranks ≡ r → vertex_at ranks ss v ≡ get_or s.vertices (v / ranks) unreached_vertex
at_vertex ranks ss r s v at e = ap (λ o. vertex_of o (v / ranks)) (ap (slice_get ss) e ∙ at)

-- an item of an own vertex
abbrev pub is_mine : DeltaState → Item → Bool
is_mine s x = nat_lt x.a s.rows && x.a % s.ranks == s.rank

-- ---- Absorbs of offers

abbrev pub Takes : DeltaState → Type 0
Takes s = (s.phase ≡ Light) ⊎ (s.phase ≡ Heavy)

one_taken : (s : DeltaState) (f : ℕ) (x : Item) → Takes s → delta_rules.absorbed s f x ≡ record s { vertices = cond (is_mine s x) (improved_at (x.a / s.ranks) x.b s.vertices) s.vertices }
one_taken s f x h = elim h [ inl e ↦ ap (λ p. absorbed_in p s x) e | inr e ↦ ap (λ p. absorbed_in p s x) e ]

-- the own items among some
abbrev pub mine : DeltaState → List Item → List Item
mine s xs = filter (is_mine s) xs

-- the vertices after some items
abbrev pub took_all : DeltaState → List Item → List Vertex
took_all s xs = fold (λ ws x. cond (is_mine s x) (improved_at (x.a / s.ranks) x.b ws) ws) s.vertices xs

all_taken : (s : DeltaState) (f : ℕ) (xs : List Item) → Takes s → absorb_all delta_rules s f xs ≡ record s { vertices = took_all s xs }
all_taken s f [] h = refl
all_taken s f (x ∷ xs) h =
    ap (λ t. absorb_all delta_rules t f xs) (one_taken s f x h) ∙ all_taken (record s { vertices = cond (is_mine s x) (improved_at (x.a / s.ranks) x.b s.vertices) s.vertices }) f xs h

upto_taken : (s : DeltaState) (lists : ℕ → List Item) (k : ℕ) → Takes s → absorb_upto delta_rules s lists k ≡ record s { vertices = took_all s (upto lists k) }
upto_taken s lists zero h = refl
upto_taken s lists (suc k) h =
    ap (λ t. absorb_all delta_rules t k (lists k)) (upto_taken s lists k h)
    ∙ all_taken (record s { vertices = took_all s (upto lists k) }) k (lists k) h
    ∙ ap (λ vs. record s { vertices = vs }) (sym (fold-append (λ ws (x : Item). cond (is_mine s x) (improved_at (x.a / s.ranks) x.b ws) ws) s.vertices (upto lists k) (lists k)))

-- others change nothing
took_mine : (s : DeltaState) (vs : List Vertex) (xs : List Item) → took_all (record s { vertices = vs }) xs ≡ taken s.ranks vs (mine s xs)
took_mine s vs [] = refl
took_mine s vs (x ∷ xs) =
    elim (cases_Bool (is_mine s x)) [
      | inl t ↦
          ap (λ b. took_all (record s { vertices = cond b (improved_at (x.a / s.ranks) x.b vs) vs }) xs) t
          ∙ took_mine s (improved_at (x.a / s.ranks) x.b vs) xs
          ∙ ap (λ b. taken s.ranks vs (cond b (x ∷ mine s xs) (mine s xs))) (sym t)
      | inr f ↦
          ap (λ b. took_all (record s { vertices = cond b (improved_at (x.a / s.ranks) x.b vs) vs }) xs) f
          ∙ took_mine s vs xs
          ∙ ap (λ b. taken s.ranks vs (cond b (x ∷ mine s xs) (mine s xs))) (sym f)
    ]

-- ---- One round, from what each rank sends as it begins

module _ (es : List Triple) (rows ranks n : ℕ) (ss : List DeltaState) (shape : List ℕ) (most : ℕ) (some : 0 < ranks) (edges : AreEdges rows es)
    (all : InRound delta_rules ranks n shape most ss) (size : (r : ℕ) (s : DeltaState) → slice_get ss r ≡ Some s → s.rows ≡ rows)
    (takes : (r : ℕ) (s : DeltaState) → slice_get ss r ≡ Some s → Takes s)
    (sent : Triple → Bool) (table : ℕ → List (List Edge)) (places : ℕ → List ℕ)
    (sends : (r : ℕ) (s : DeltaState) → slice_get ss r ≡ Some s → s.outgoing ≡ offers_by_place (table r) s.vertices (places r))
    (sound : (r : ℕ) (s : DeltaState) → slice_get ss r ≡ Some s → (p : ℕ) (e : Edge) → Contains (places r) p → Contains (get_or (table r) p []) e
    → (t : Triple) × Contains es t × (t.i % ranks ≡ r) × (t.i / ranks ≡ p) × (edge_of ranks t ≡ e) × (sent t ≡ true))
    (complete : (r : ℕ) (s : DeltaState) → slice_get ss r ≡ Some s → (t : Triple) → Contains es t → sent t ≡ true → t.i % ranks ≡ r
    → Contains (places r) (t.i / ranks) × Contains (get_or (table r) (t.i / ranks) []) (edge_of ranks t))
    (low : (v k : ℕ) → (stage_of ranks ss).found v ≡ Some k → k ≤ 2 ^ 60) where
  abbrev pub later : List DeltaState
  later = absorbed_round delta_rules ss

  abbrev items : ℕ → List Item
  items r = upto (emitted_by delta_rules ss r) ranks

  -- the vertices of a rank after the round
  abbrev pub after : ℕ → DeltaState → List Vertex
  after r s = taken ranks s.vertices (mine s (items r))

  pub later_at : (r : ℕ) (s : DeltaState) → slice_get ss r ≡ Some s → slice_get later r ≡ Some (record s { vertices = after r s })
  later_at r s at =
      let member = all.each r s at in
      get_map (λ t. absorb_upto delta_rules t (emitted_by delta_rules ss t.rank) (length ss)) ss r s at
      ∙ ap Some (upto_taken s (emitted_by delta_rules ss s.rank) (length ss) (takes r s at)
      ∙ ap (λ vs. record s { vertices = vs }) (took_mine s s.vertices (upto (emitted_by delta_rules ss s.rank) (length ss))
      ∙ ap (λ k. taken k s.vertices (mine s (upto (emitted_by delta_rules ss s.rank) (length ss)))) member.all_ranks
      ∙ ap (λ k. taken ranks s.vertices (mine s (upto (emitted_by delta_rules ss k) (length ss)))) member.own_rank
      ∙ ap (λ k. taken ranks s.vertices (mine s (upto (emitted_by delta_rules ss r) k))) all.size))

  rank_at : (r : ℕ) → r < ranks → (s : DeltaState) × (slice_get ss r ≡ Some s)
  rank_at r l = find ss r (subst (λ k. r < k) (sym all.size) l)

  sent_is : (r f : ℕ) (s : DeltaState) → slice_get ss f ≡ Some s → emitted_by delta_rules ss r f ≡ items_of r s.outgoing
  sent_is r f s at = ap (λ o. emitted_of delta_rules o r) at

  -- an item of a vertex of rank r is its own
  mine_here : (r : ℕ) (s : DeltaState) (x : Item) → slice_get ss r ≡ Some s → x.a < rows → x.a % ranks ≡ r → is_mine s x ≡ true
  mine_here r s x at inside owner =
      let member = all.each r s at in
      and_from (nat_lt x.a s.rows) (x.a % s.ranks == s.rank) (lt-ltb x.a s.rows (subst (λ k. x.a < k) (sym (size r s at)) inside))
      (eq-eqb (x.a % s.ranks) s.rank (ap (λ k. x.a % k) member.all_ranks ∙ owner ∙ sym member.own_rank))

  came : (r f : ℕ) (s : DeltaState) (x : Item) → f < ranks → slice_get ss f ≡ Some s → Contains s.outgoing (r, x) → Contains (items r) x
  came r f s x l at h = has_upto (emitted_by delta_rules ss r) ranks f x l (subst (λ xs. Contains xs x) (sym (sent_is r f s at)) (has_item r s.outgoing x h))

  record Source (r : ℕ) (x : Item) : Type 0 where
    pub from : ℕ
    pub state : DeltaState
    pub at : slice_get ss from ≡ Some state
    pub posted : Contains state.outgoing (r, x)

  came_from : (r : ℕ) (x : Item) → Contains (items r) x → Source r x
  came_from r x h =
      let f = was_upto (emitted_by delta_rules ss r) ranks x h in
      let s = rank_at f.0 f.1 in
      record { from = f.0; state = s.0; at = s.1; posted = was_item r s.0.outgoing x (subst (λ xs. Contains xs x) (sent_is r f.0 s.0 s.1) f.2) }

  after_at : (r : ℕ) (s : DeltaState) (v : ℕ) → slice_get ss r ≡ Some s → v % ranks ≡ r → vertex_at ranks later v ≡ get_or (after r s) (v / ranks) unreached_vertex
  after_at r s v at e = at_vertex ranks later r (record s { vertices = after r s }) v (later_at r s at) e

  tried : (e : Triple) → Contains es e → sent e ≡ true → (k : ℕ) → (stage_of ranks ss).found e.i ≡ Some k → AtMost ((stage_of ranks later).found e.j) (k + cost e)
  tried e has is_sent k found =
      let f : ℕ = e.i % ranks in
      let r : ℕ = e.j % ranks in
      let s = rank_at f (mod-lt e.i some) in
      let t = rank_at r (mod-lt e.j some) in
      let x : Item = (offer k (edge_of ranks e)).1 in
      let weight : (get_or s.0.vertices (e.i / ranks) unreached_vertex).weight ≡ Some k = ap (λ (v : Vertex). v.weight) (sym (at_vertex ranks ss f s.0 e.i s.1 refl)) ∙ found in
      let parts = complete f s.0 s.1 e has is_sent refl in
      let offered' : Contains s.0.outgoing (offer k (edge_of ranks e)) =
      subst (λ os. Contains os (offer k (edge_of ranks e))) (sym (sends f s.0 s.1))
      (has_offer (table f) s.0.vertices (places f) (offer k (edge_of ranks e))
      (record { place = e.i / ranks; listed = parts.0; edge = edge_of ranks e; kept = parts.1; weight = k; found = weight; is = refl })) in
      let inside : e.j < rows = All-contains (λ (t : Triple). t.j < rows) es e edges.to has in
      let member = all.each r t.0 t.1 in
      let place : e.j / ranks < length t.0.vertices =
      subst (λ l. e.j / ranks < l) (sym (member.valid.places ∙ ap (λ p. places_for p t.0.rows) member.all_ranks ∙ ap (places_for ranks) (size r t.0 t.1))) (place_below ranks rows e.j some inside) in
      let here : Contains (mine t.0 (items r)) x = has_filtered (is_mine t.0) (items r) x (came r f s.0 x (mod-lt e.i some) s.1 offered') (mine_here r t.0 x t.1 inside refl) in
      let done : AtMost (get_or (after r t.0) (e.j / ranks) unreached_vertex).weight ((k + twos_complement e.v) % 2 ^ 64) =
      taken_done ranks (e.j / ranks) t.0.vertices (mine t.0 (items r)) x place here refl in
      let sum : (k + twos_complement e.v) % 2 ^ 64 ≡ k + cost e =
      sum_is e k (All-contains (λ (t : Triple). t.v ≡ pos (nat_abs t.v)) es e edges.plain has) (All-contains (λ (t : Triple). cost t ≤ 1_000_000_000_000) es e edges.light has) (low e.i k found) in
      subst (AtMost ((stage_of ranks later).found e.j)) sum
      (subst (λ (v : Vertex). AtMost v.weight ((k + twos_complement e.v) % 2 ^ 64)) (sym (after_at r t.0 e.j t.1 refl)) done)

  took : (v : ℕ) (s : DeltaState) → slice_get ss (v % ranks) ≡ Some s
      → Took ranks (v / ranks) (get_or s.vertices (v / ranks) unreached_vertex) (get_or (after (v % ranks) s) (v / ranks) unreached_vertex) (mine s (items (v % ranks)))
      → buckets.Took es sent (stage_of ranks ss) (stage_of ranks later) v
  took v s at h =
      let r : ℕ = v % ranks in
      let x : Item = h.item in
      let source : Source r x = came_from r x (was_filtered (is_mine s) (items r) x h.is).0 in
      let u : DeltaState = source.state in
      let o : Offering (table source.from) u.vertices (places source.from) (r, x) =
      was_offered (table source.from) u.vertices (places source.from) (r, x) (subst (λ os. Contains os (r, x)) (sends source.from u source.at) source.posted) in
      let t = sound source.from u source.at o.place o.edge o.listed o.kept in
      let edge : Triple = t.0 in
      let owner : edge.j % ranks ≡ r = ap (λ (e : Edge). e.owner) t.4 ∙ ap (λ (w : ℕ × Item). w.0) o.is in
      let to : edge.j ≡ x.a = ap (λ (e : Edge). e.to) t.4 ∙ ap (λ (w : ℕ × Item). w.1.a) o.is in
      let word : twos_complement edge.v ≡ o.edge.weight = ap (λ (e : Edge). e.weight) t.4 in
      let same : edge.j ≡ v = place_own ranks edge.j v owner (ap (λ k. k / ranks) to ∙ h.place) in
      let found : (stage_of ranks ss).found edge.i ≡ Some o.weight =
      ap (λ (w : Vertex). w.weight) (at_vertex ranks ss source.from u edge.i source.at t.2 ∙ ap (λ p. get_or u.vertices p unreached_vertex) t.3) ∙ o.found in
      let sum : (o.weight + twos_complement edge.v) % 2 ^ 64 ≡ o.weight + cost edge =
      sum_is edge o.weight (All-contains (λ (t : Triple). t.v ≡ pos (nat_abs t.v)) es edge edges.plain t.1) (All-contains (λ (t : Triple). cost t ≤ 1_000_000_000_000) es edge edges.light t.1) (low edge.i o.weight found) in
      let b : x.b ≡ o.weight + cost edge = sym (ap (λ (w : ℕ × Item). w.1.b) o.is) ∙ ap (λ k. (o.weight + k) % 2 ^ 64) (sym word) ∙ sum in
      let before : (get_or s.vertices (v / ranks) unreached_vertex).weight ≡ (stage_of ranks ss).found v = ap (λ (w : Vertex). w.weight) (sym (at_vertex ranks ss r s v at refl)) in
      record {
        edge = edge;
        is = t.1;
        was_sent = t.5;
        to = same;
        before = o.weight;
        from = found;
        new = ap (λ (w : Vertex). w.weight) (after_at r s v at refl ∙ h.new) ∙ ap Some b;
        less = λ z. h.less (subst (λ w. AtMost w x.b) (sym before) (subst (AtMost ((stage_of ranks ss).found v)) (sym b) z));
      }

  each : (v : ℕ) → (((stage_of ranks later).found v ≡ (stage_of ranks ss).found v) × ((stage_of ranks later).fresh v ≡ (stage_of ranks ss).fresh v))
      ⊎ (((stage_of ranks later).fresh v ≡ true) × buckets.Took es sent (stage_of ranks ss) (stage_of ranks later) v)
  each v =
      let r : ℕ = v % ranks in
      let s = rank_at r (mod-lt v some) in
      let now : vertex_at ranks later v ≡ get_or (after r s.0) (v / ranks) unreached_vertex = after_at r s.0 v s.1 refl in
      elim (taken_cases ranks (v / ranks) s.0.vertices (mine s.0 (items r))) [
        | inl same ↦
            let is : vertex_at ranks later v ≡ vertex_at ranks ss v = now ∙ same ∙ sym (at_vertex ranks ss r s.0 v s.1 refl) in
            inl (ap (λ (w : Vertex). w.weight) is, ap (λ (w : Vertex). w.improved) is)
        | inr h ↦ inr (ap (λ (w : Vertex). w.improved) (now ∙ h.new), took v s.0 s.1 h)
      ]

  pub offer_round : Offers es sent (stage_of ranks ss) (stage_of ranks later)
  offer_round = record { tried = tried; each = each }

  -- what a rank was as the round began
  pub was_at : (r : ℕ) (s : DeltaState) → slice_get later r ≡ Some s → (u : DeltaState) × (slice_get ss r ≡ Some u) × (s ≡ record u { vertices = after r u })
  was_at r s at =
      let count : length later ≡ ranks = length-map ss _ ∙ all.size in
      let u = rank_at r (subst (λ k. r < k) count (within later r s at)) in
      (u.0, u.1, get_once later r s (record u.0 { vertices = after r u.0 }) at (later_at r u.0 u.1))
