-- A heavy round of the canonical run, after the last light round of a bucket.
use Rattle.std.proofs.Common.{ℕ, ◌/◌, ◌%◌, ◌^◌, ◌<◌, ◌≤◌, ◌≡◌, not, Bool, true, eqb, List, [], Option, Some, None, length, get_or, slice_get, arith, inr, refl, sym, ap, ◌∙◌, subst}
use Rattle.std.specs.Prelude.{Contains}
use Rattle.std.specs.List.{list_any, range_with_len}
use Rattle.std.proofs.Math.Nat.{mod-lt}
use Rattle.std.proofs.lemmas.Bool.{and_from, and_parts}
use Rattle.std.proofs.lemmas.List.Elements.{All-contains}
use Rattle.bale_items.specs.declared.triple.Triple.{Triple}
use Rattle.list_laws.proofs.Lists.{find, get_map, got_map}
use Rattle.round_program.specs.Canonical.{absorbed_round, end_all, vote_sum, InRound}
use Rattle.sparse_rows.specs.Owners.{places_for}
use Rattle.sparse_rows.proofs.Places.{place_below}
use Rattle.least_walks.specs.declared.table.Edge.{Edge}
use Rattle.least_walks.specs.declared.vertices.Vertex.{Vertex}
use Rattle.least_walks.specs.Tables.{edge_of, offers_by_place}
use Rattle.least_walks.proofs.Members.{has_filtered, was_filtered}
use Rattle.app_sssp.proofs.Stages.{AreEdges}
use Rattle.delta_step.specs.declared.phase.Phase.TheVariants.{Heavy}
use Rattle.delta_step.specs.Deltas.{DeltaState, delta_rules, ascending, after_last_round}
use Rattle.delta_step.proofs.Ascending.{in_range_of}
use Rattle.delta_step.proofs.Buckets.{Offers, is_light, heavy_sent}
use Rattle.delta_step.proofs.OfferRounds.{vertex_at, stage_of, at_vertex, offer_round, was_at}
use Rattle.delta_step.proofs.Transits.{Keeps, Static, open_of, at_open, offers_same}

module _ (es : List Triple) (rows width ranks n k : ℕ) (ss : List DeltaState) (shape : List ℕ) (most : ℕ) (some : 0 < ranks) (edges : AreEdges rows es)
    (all : InRound delta_rules ranks n shape most ss) (next_in : InRound delta_rules ranks k shape most (end_all delta_rules ss))
    (static : Static es rows width ranks ss)
    (low : (v k : ℕ) → (stage_of ranks ss).found v ≡ Some k → k ≤ 2 ^ 60)
    (becomes : (r : ℕ) (s : DeltaState) → slice_get ss r ≡ Some s → delta_rules.ended s (vote_sum delta_rules ss) ≡ after_last_round s) where
  abbrev begun : List DeltaState
  begun = end_all delta_rules ss

  begun_at : (r : ℕ) (s : DeltaState) → slice_get ss r ≡ Some s → slice_get begun r ≡ Some (after_last_round s)
  begun_at r s at = get_map (λ t. delta_rules.ended t (vote_sum delta_rules ss)) ss r s at ∙ ap Some (becomes r s at)

  begun_from : (r : ℕ) (t : DeltaState) → slice_get begun r ≡ Some t → (s : DeltaState) × (slice_get ss r ≡ Some s) × (t ≡ after_last_round s)
  begun_from r t at =
      let s = got_map (λ t. delta_rules.ended t (vote_sum delta_rules ss)) ss r t at in
      (s.0, s.1, sym s.2 ∙ becomes r s.0 s.1)

  rank_at : (r : ℕ) → r < ranks → (s : DeltaState) × (slice_get ss r ≡ Some s)
  rank_at r l = find ss r (subst (λ k. r < k) (sym all.size) l)

  abbrev table_in : Option DeltaState → List (List Edge)
  table_in None = []
  table_in (Some s) = s.heavy

  abbrev places_in : Option DeltaState → List ℕ
  places_in None = []
  places_in (Some s) = ascending (length s.vertices) s.settled

  begun_vertex : (v : ℕ) → vertex_at ranks begun v ≡ vertex_at ranks ss v
  begun_vertex v =
      let s = rank_at (v % ranks) (mod-lt v some) in
      at_vertex ranks begun (v % ranks) (after_last_round s.0) v (begun_at (v % ranks) s.0 s.1) refl ∙ sym (at_vertex ranks ss (v % ranks) s.0 v s.1 refl)

  abbrev sent : Triple → Bool
  sent = heavy_sent width (open_of ranks ss)

  abbrev pub heavy_later : List DeltaState
  heavy_later = absorbed_round delta_rules begun

  sound : (r : ℕ) (t : DeltaState) → slice_get begun r ≡ Some t → (p : ℕ) (e : Edge) → Contains (places_in (slice_get ss r)) p → Contains (get_or (table_in (slice_get ss r)) p []) e
      → (t : Triple) × Contains es t × (t.i % ranks ≡ r) × (t.i / ranks ≡ p) × (edge_of ranks t ≡ e) × (sent t ≡ true)
  sound r t at p e listed kept =
      let s = begun_from r t at in
      let there : Contains (ascending (length s.0.vertices) s.0.settled) p = subst (λ o. Contains (places_in o) p) s.1 listed in
      let edge = (static.heavy r s.0 s.1).sound p e (subst (λ o. Contains (get_or (table_in o) p []) e) s.1 kept) in
      let on : open_of ranks ss edge.0.i ≡ true =
      at_open ranks ss r s.0 edge.0.i s.1 edge.2
      ∙ ap (λ q. list_any (eqb q) s.0.settled) edge.3
      ∙ (was_filtered (λ p. list_any (eqb p) s.0.settled) (range_with_len 0 (length s.0.vertices)) p there).1 in
      (edge.0, edge.1, edge.2, edge.3, edge.4, and_from (not (is_light width edge.0)) (open_of ranks ss edge.0.i) edge.5 on)

  complete : (r : ℕ) (t : DeltaState) → slice_get begun r ≡ Some t → (e : Triple) → Contains es e → sent e ≡ true → e.i % ranks ≡ r
      → Contains (places_in (slice_get ss r)) (e.i / ranks) × Contains (get_or (table_in (slice_get ss r)) (e.i / ranks) []) (edge_of ranks e)
  complete r t at e has is_sent own =
      let s = begun_from r t at in
      let parts = and_parts (not (is_light width e)) (open_of ranks ss e.i) is_sent in
      let member = all.each r s.0 s.1 in
      let place : e.i / ranks < length s.0.vertices =
      subst (λ l. e.i / ranks < l) (sym (member.valid.places ∙ ap (λ p. places_for p s.0.rows) member.all_ranks ∙ ap (places_for ranks) (static.size r s.0 s.1)))
      (place_below ranks rows e.i some (All-contains (λ (t : Triple). t.i < rows) es e edges.from has)) in (
        subst (λ o. Contains (places_in o) (e.i / ranks)) (sym s.1)
            (has_filtered (λ p. list_any (eqb p) s.0.settled) (range_with_len 0 (length s.0.vertices)) (e.i / ranks) (in_range_of (e.i / ranks) 0 (length s.0.vertices) (omega arith) (omega arith))
            (sym (at_open ranks ss r s.0 e.i s.1 own) ∙ parts.1)),
        subst (λ o. Contains (get_or (table_in o) (e.i / ranks) []) (edge_of ranks e)) (sym s.1) ((static.heavy r s.0 s.1).complete e has parts.0 own),
      )

  sends : (r : ℕ) (t : DeltaState) → slice_get begun r ≡ Some t → t.outgoing ≡ offers_by_place (table_in (slice_get ss r)) t.vertices (places_in (slice_get ss r))
  sends r t at =
      let s = begun_from r t at in
      subst (λ o. t.outgoing ≡ offers_by_place (table_in o) t.vertices (places_in o)) (sym s.1)
      (subst (λ (u : DeltaState). u.outgoing ≡ offers_by_place s.0.heavy u.vertices (ascending (length s.0.vertices) s.0.settled)) (sym s.2) refl)

  pub heavy_round : Offers es sent (stage_of ranks ss) (stage_of ranks heavy_later)
  heavy_round =
      offers_same es sent (stage_of ranks begun) (stage_of ranks ss) (stage_of ranks heavy_later) (λ v. ap (λ (w : Vertex). w.weight) (begun_vertex v)) (λ v. ap (λ (w : Vertex). w.improved) (begun_vertex v))
      (offer_round es rows ranks k begun shape most some edges next_in
      (λ r t at. (let s = begun_from r t at in ap (λ (u : DeltaState). u.rows) s.2 ∙ static.size r s.0 s.1))
      (λ r t at. (let s = begun_from r t at in inr (ap (λ (u : DeltaState). u.phase) s.2)))
      sent (λ r. table_in (slice_get ss r)) (λ r. places_in (slice_get ss r)) sends sound complete
      (λ v k found. low v k (sym (ap (λ (w : Vertex). w.weight) (begun_vertex v)) ∙ found)))

  pub heavy_was : (r : ℕ) (t : DeltaState) → slice_get heavy_later r ≡ Some t → (s : DeltaState) × (vs : List Vertex) × (slice_get ss r ≡ Some s) × (t ≡ record (after_last_round s) { vertices = vs })
  heavy_was r t at =
      let u = was_at es rows ranks k begun shape most some edges next_in
      (λ r t at. (let s = begun_from r t at in ap (λ (u : DeltaState). u.rows) s.2 ∙ static.size r s.0 s.1))
      (λ r t at. (let s = begun_from r t at in inr (ap (λ (u : DeltaState). u.phase) s.2)))
      sent (λ r. table_in (slice_get ss r)) (λ r. places_in (slice_get ss r)) sends sound complete
      (λ v k found. low v k (sym (ap (λ (w : Vertex). w.weight) (begun_vertex v)) ∙ found)) r t at in
      let s = begun_from r u.0 u.1 in
      (s.0, t.vertices, s.1, subst (λ (w : DeltaState). t ≡ record w { vertices = t.vertices }) s.2 (subst (λ (w : DeltaState). w ≡ record u.0 { vertices = w.vertices }) (sym u.2) refl))

  pub heavy_static : Static es rows width ranks heavy_later
  heavy_static =
      record {
        size = λ r t at. (let w = heavy_was r t at in ap (λ (u : DeltaState). u.rows) w.3 ∙ static.size r w.0 w.2);
        wide = λ r t at. (let w = heavy_was r t at in ap (λ (u : DeltaState). u.width) w.3 ∙ static.wide r w.0 w.2);
        light = λ r t at. (let w = heavy_was r t at in subst (λ (u : DeltaState). Keeps es ranks r (is_light width) u.light) (sym w.3) (static.light r w.0 w.2));
        heavy = λ r t at. (let w = heavy_was r t at in subst (λ (u : DeltaState). Keeps es ranks r (λ e. not (is_light width e)) u.heavy) (sym w.3) (static.heavy r w.0 w.2));
      }

  pub heavy_phase : (r : ℕ) (t : DeltaState) → slice_get heavy_later r ≡ Some t → t.phase ≡ Heavy
  heavy_phase r t at = (let w = heavy_was r t at in ap (λ (u : DeltaState). u.phase) w.3)
