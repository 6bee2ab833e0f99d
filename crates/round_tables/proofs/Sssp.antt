-- The rounds of sssp.
use Rattle.std.proofs.Common.{◌≡◌, ◌≢◌, ℕ, zero, suc, ◌+◌, ◌-◌, ◌*◌, ◌/◌, ◌%◌, ◌^◌, ◌<◌, ◌≤◌, ◌==◌, Bool, true, false, cond, List, [], ◌∷◌, Option, Some, length, map, get_or, slice_get, sum_by, All, arith, inl, inr, refl, sym, ap, ap₂, ◌∙◌, subst}
use Rattle.std.specs.Prelude.{◌||◌, not, Contains}
use Rattle.std.specs.List.{filter, flat_map, range_with_len}
use Rattle.std.proofs.Math.Nat.{mod-lt}
use Rattle.std.proofs.lemmas.Bool.{cases_Bool, cases_eq, eq-eqb, ne_eqb, false≢true}
use Rattle.std.proofs.lemmas.Nat.{div-mul-add, mod-mul-add}
use Rattle.std.proofs.lemmas.List.{length-map}
use Rattle.std.proofs.lemmas.List.FromFn.{length-map-range_with_len}
use Rattle.std.proofs.lemmas.List.Elements.{All-filter}
use Rattle.std.proofs.lemmas.List.Folds.{flat_map-map}
use Rattle.std.proofs.lemmas.List.Sorted.{All-permutation}
use Rattle.std.proofs.lemmas.List.Sums.{sum_by-le, get_or-le-sum_by}
use Rattle.std.proofs.lemmas.Option.{get_or_from_slice_get}
use Rattle.bale_items.specs.declared.Item.{Item}
use Rattle.list_laws.proofs.Lists.{find, within, got_map, all_from_gets}
use Rattle.mtx_text.specs.Sparse.{Sparse}
use Rattle.mtx_text.specs.Cells.{gathered_cells}
use Rattle.round_program.specs.Canonical.{states_at, votes_at, vote_sum, HasRounds, EndsWithin, InRound}
use Rattle.sparse_rows.specs.Deals.{dealt}
use Rattle.sparse_rows.specs.Owners.{places_for}
use Rattle.sparse_rows.proofs.Deals.{filter_none}
use Rattle.sparse_rows.proofs.Gathering.{gathered_dealt, gathered_moves}
use Rattle.least_walks.specs.declared.vertices.Vertex.{Vertex}
use Rattle.least_walks.specs.Tables.{edge_of, is_kept, offers_at, offers_from, offers_by_place}
use Rattle.least_walks.specs.Vertices.{unreached_vertex, marked_places, calm}
use Rattle.least_walks.proofs.Marks.{marked_below}
use Rattle.least_walks.proofs.Members.{none_in, has_filtered}
use Rattle.least_walks.proofs.Offered.{none_improved, none_counted, calm_at}
use Rattle.app_sssp.specs.Sssps.{SsspState, sssp_rules, table_after}
use Rattle.app_sssp.specs.SsspRuns.{IsGraph, sssp_begins, sssp_starts}
use Rattle.app_sssp.proofs.Stages.{vertex_at, at_vertex}
use Rattle.app_sssp.proofs.Begins.{graph_edges, own_edges, has_place}
use Rattle.app_sssp.proofs.Ends.{run_ends, when_over}
use Rattle.sparse_rows.specs.Emits.{Emit}
use Rattle.round_tables.specs.Sssp.{SsspRounds, HasSsspRounds, to_rows, improves, improved_with, vertex_offers, offers}
use Rattle.round_tables.specs.Tables.{IsSsspTable, sssp_line, sssp_vote}
use Rattle.round_tables.specs.Follows.{HasTable}
use Rattle.round_tables.proofs.Votes.{vote_each}
use Rattle.sparse_rows.proofs.Emitted.{emit_made, emit_each}
use Rattle.round_tables.proofs.SsspFound.{over, at, found, over_in, run, small, least_within, fresh_is, fresh_in, source_fresh, table_is}
use Rattle.round_tables.proofs.SsspLists.{flat_on, in_range_list, marks_are, vertex_in, own_vertices, IsLight, own_edges_are, offers_are}

module _ (ranks : ℕ) (m : Sparse) (source : ℕ) (some : 0 < ranks) (g : IsGraph m) (source_in : source < m.rows) where
  abbrev starts : List SsspState
  starts = sssp_starts ranks m source

  abbrev all : ℕ → List SsspState
  all k = over ranks m source some g source_in k

  abbrev weights : ℕ → ℕ → Option ℕ
  weights = found ranks m source some g source_in

  abbrev fresh : ℕ → ℕ → Bool
  fresh k v = (at ranks m source some g source_in k).fresh v

  in_all : (k : ℕ) → k < 2 ^ 64 → InRound sssp_rules ranks k (m.rows ∷ []) (m.rows + 1) (all k)
  in_all k l = over_in ranks m source some g source_in k l

  -- ---- What is offered

  light : All IsLight (gathered_cells m.entries)
  light =
      All-permutation IsLight m.entries (gathered_cells m.entries) (gathered_moves m.entries g.matrix.once)
      (λ k d l. record { plain = (graph_edges m g).plain k d l; light = (graph_edges m g).light k d l })

  -- what a vertex offers
  abbrev told : ℕ → ℕ → List (ℕ × Item)
  told k i = vertex_offers ranks (weights k i) (filter (λ t. t.i == i) (gathered_cells m.entries))

  vertex_is : (k : ℕ) → k ≤ 16384 → (r : ℕ) (u : SsspState) → slice_get (all k) r ≡ Some u → (p : ℕ) → get_or u.vertices p unreached_vertex ≡ vertex_at ranks (all k) (vertex_in ranks r p)
  vertex_is k l r u here p =
      let low : r < ranks = subst (λ n. r < n) (in_all k (omega arith)).size (within (all k) r u here) in
      ap (λ q. get_or u.vertices q unreached_vertex) (sym (div-mul-add p ranks r low)) ∙ sym (at_vertex ranks (all k) r u (vertex_in ranks r p) here (mod-mul-add p ranks r low))

  size_is : (k : ℕ) → k ≤ 16384 → (r : ℕ) (u : SsspState) → slice_get (all k) r ≡ Some u → length u.vertices ≡ places_for ranks m.rows
  size_is k l r u here =
      let member = (in_all k (omega arith)).each r u here in
      member.valid.places ∙ ap (λ p. places_for p u.rows) member.all_ranks ∙ ap (places_for ranks) ((run ranks m source some g source_in k (omega arith)).size r u here)

  one_place : (k : ℕ) → k ≤ 16384 → (r : ℕ) (u : SsspState) → slice_get (all k) r ≡ Some u → (p : ℕ) → p < length u.vertices
      → offers_at (table_after u) (map calm u.vertices) p ≡ told k (vertex_in ranks r p)
  one_place k l r u here p inside =
      let low : r < ranks = subst (λ n. r < n) (in_all k (omega arith)).size (within (all k) r u here) in
      let h : ℕ = vertex_in ranks r p in
      let room : p < places_for ranks m.rows = subst (λ n. p < n) (size_is k l r u here) inside in
      let weight : (get_or (map calm u.vertices) p unreached_vertex).weight ≡ weights k h = ap (λ (x : Vertex). x.weight) (calm_at u.vertices p) ∙ ap (λ (x : Vertex). x.weight) (vertex_is k l r u here p) in
      let edges : get_or (table_after u) p [] ≡ map (edge_of ranks) (filter (λ t. t.i == h) (gathered_cells m.entries)) =
      ap (λ ts. get_or ts p []) (table_is ranks m source some g source_in k (omega arith) r u here)
      ∙ has_place ranks (places_for ranks m.rows) (gathered_cells (own_edges ranks r m.entries)) p room
      ∙ ap (λ ts. map (edge_of ranks) (filter (is_kept ranks 0 (2 ^ 64 - 1) p) ts)) (gathered_dealt ranks r m.entries g.matrix.once)
      ∙ ap (map (edge_of ranks)) (own_edges_are ranks r p (gathered_cells m.entries) low light) in
      ap₂ (λ (o : Option ℕ) es. offers_from o es) weight edges
      ∙ offers_are ranks (weights k h) (filter (λ t. t.i == h) (gathered_cells m.entries)) (small ranks m source some g source_in k l h) (All-filter (λ t. t.i == h) IsLight (gathered_cells m.entries) light)

  -- own vertices that improve with k edges
  own_improved : (k : ℕ) → k ≤ 16384 → (r : ℕ) (u : SsspState) → slice_get (all k) r ≡ Some u → map (vertex_in ranks r) (marked_places u.vertices) ≡ dealt (λ i. i % ranks) r (improved_with m weights k)
  own_improved k l r u here =
      let low : r < ranks = subst (λ n. r < n) (in_all k (omega arith)).size (within (all k) r u here) in
      let marks : marked_places u.vertices ≡ filter (λ p. improves weights k (vertex_in ranks r p)) (range_with_len 0 (places_for ranks m.rows)) =
      marks_are (λ p. improves weights k (vertex_in ranks r p)) 0 u.vertices (λ i inside.
      ap (λ j. improves weights k (vertex_in ranks r j)) (let z : 0 + i ≡ i = omega arith in z)
      ∙ sym (fresh_is ranks m source some g source_in k (omega arith) (vertex_in ranks r i))
      ∙ sym (ap (λ (x : Vertex). x.improved) (vertex_is k l r u here i)))
      ∙ ap (λ n. filter (λ p. improves weights k (vertex_in ranks r p)) (range_with_len 0 n)) (size_is k l r u here) in
      ap (map (vertex_in ranks r)) marks
      ∙ own_vertices ranks r m.rows (improves weights k) low (λ v is. fresh_in ranks m source some g source_in k (omega arith) v (fresh_is ranks m source some g source_in k (omega arith) v ∙ is))

  sent : (k : ℕ) → k ≤ 16384 → (r : ℕ) (u : SsspState) → slice_get (all k) r ≡ Some u → offers_by_place (table_after u) (map calm u.vertices) (marked_places u.vertices) ≡ offers ranks m weights k r
  sent k l r u here =
      flat_on (offers_at (table_after u) (map calm u.vertices)) (λ p. told k (vertex_in ranks r p)) (marked_places u.vertices)
      (λ i d lo. one_place k l r u here (get_or (marked_places u.vertices) i d) (let below : get_or (marked_places u.vertices) i d < 0 + length u.vertices = marked_below 0 u.vertices i d lo in omega arith))
      ∙ sym (flat_map-map (told k) (vertex_in ranks r) (marked_places u.vertices))
      ∙ ap (flat_map (told k)) (own_improved k l r u here)

  offers_sent : (k : ℕ) → k ≤ 16384 → (r : ℕ) (s : SsspState) → slice_get (states_at sssp_rules starts (suc k)) r ≡ Some s → s.outgoing ≡ offers ranks m weights k r
  offers_sent k l r s there =
      let u = got_map (λ t. sssp_rules.ended t (vote_sum sssp_rules (all k))) (all k) r s there in
      ap (λ (t : SsspState). t.outgoing) (sym u.2) ∙ sent k l r u.0 u.1

  -- ---- Where votes are cast

  vote_later : (s : SsspState) → s.round ≢ 0 → sssp_rules.vote s ≡ length (marked_places s.vertices)
  vote_later s n = ap (λ b. cond b 0 (length (marked_places s.vertices))) (ne_eqb s.round 0 n)

  vote_is : (k : ℕ) → k ≤ 16384 → (r : ℕ) (u : SsspState) → slice_get (all k) r ≡ Some u → sssp_rules.vote u ≡ sssp_vote ranks m weights k r
  vote_is zero l r u here = ap (λ b. cond b 0 (length (marked_places u.vertices))) (eq-eqb u.round 0 ((in_all 0 (omega arith)).each r u here).same_round)
  vote_is (suc k) l r u here =
      let round : u.round ≡ suc k = ((in_all (suc k) (omega arith)).each r u here).same_round in
      vote_later u (λ z. absurd (omega arith)) ∙ sym (length-map (marked_places u.vertices) (vertex_in ranks r)) ∙ ap length (own_improved (suc k) l r u here)

  none_voted : (k : ℕ) → 1 ≤ k → k ≤ 16384 → votes_at sssp_rules starts k ≡ 0 → (v : ℕ) → fresh k v ≡ false
  none_voted k late l none v =
      let r : ℕ = v % ranks in
      let here : InRound sssp_rules ranks k (m.rows ∷ []) (m.rows + 1) (all k) = in_all k (omega arith) in
      let s = find (all k) r (subst (λ n. r < n) (sym here.size) (mod-lt v some)) in
      let total : sum_by sssp_rules.vote (all k) ≡ 0 = omega (arith, none) in
      let one : sssp_rules.vote (get_or (all k) r s.0) ≤ sum_by sssp_rules.vote (all k) = get_or-le-sum_by sssp_rules.vote (all k) r s.0 (within (all k) r s.0 s.1) in
      let is : get_or (all k) r s.0 ≡ s.0 = get_or_from_slice_get (all k) r s.0 s.0 s.1 in
      let mine : sssp_rules.vote s.0 ≤ sum_by sssp_rules.vote (all k) = subst (λ t. sssp_rules.vote t ≤ sum_by sssp_rules.vote (all k)) is one in
      let round : s.0.round ≡ k = (here.each r s.0 s.1).same_round in
      let marks : length (marked_places s.0.vertices) ≡ 0 = sym (vote_later s.0 (λ z. absurd (omega arith))) ∙ (let e : sssp_rules.vote s.0 ≡ 0 = omega (arith, mine, total) in e) in
      ap (λ (w : Vertex). w.improved) (at_vertex ranks (all k) r s.0 v s.1 refl) ∙ none_improved 0 s.0.vertices marks (v / ranks)

  none_left : (k : ℕ) → 1 ≤ k → k ≤ 16384 → ((v : ℕ) → fresh k v ≡ false) → votes_at sssp_rules starts k ≡ 0
  none_left k late l calm' =
      let here : InRound sssp_rules ranks k (m.rows ∷ []) (m.rows + 1) (all k) = in_all k (omega arith) in
      let each : All (λ s. sssp_rules.vote s ≤ 0) (all k) =
      all_from_gets (λ s. sssp_rules.vote s ≤ 0) (all k) (λ r s there.
      let round : s.round ≡ k = (here.each r s there).same_round in
      let marks : length (marked_places s.vertices) ≡ 0 = none_counted 0 s.vertices (λ p. ap (λ (w : Vertex). w.improved) (vertex_is k l r s there p) ∙ calm' (vertex_in ranks r p)) in
      let vote : sssp_rules.vote s ≡ 0 = vote_later s (λ z. absurd (omega arith)) ∙ marks in
      omega (arith, vote)) in
      let total : sum_by sssp_rules.vote (all k) ≤ length (all k) * 0 = sum_by-le sssp_rules.vote 0 (all k) each in
      omega (arith, total)

  none_fresh : (k : ℕ) → k ≤ 16384 → improved_with m weights k ≡ [] → (v : ℕ) → fresh k v ≡ false
  none_fresh k l none v =
      elim (cases_Bool (fresh k v)) [
        | inl is ↦
            let inside : v < m.rows = fresh_in ranks m source some g source_in k (omega arith) v is in
            let listed : Contains (improved_with m weights k) v =
            has_filtered (improves weights k) (range_with_len 0 m.rows) v (in_range_list m.rows v inside) (sym (fresh_is ranks m source some g source_in k (omega arith) v) ∙ is) in
            absurd (none_in v (subst (λ xs. Contains xs v) none listed))
        | inr calm' ↦ calm'
      ]

  none_listed : (k : ℕ) → k ≤ 16384 → ((v : ℕ) → fresh k v ≡ false) → improved_with m weights k ≡ []
  none_listed k l calm' = filter_none (improves weights k) (range_with_len 0 m.rows) (λ v. sym (fresh_is ranks m source some g source_in k (omega arith) v) ∙ calm' v)

  -- ---- The table

  pub table : HasSsspRounds ranks m source
  table =
      let e : EndsWithin sssp_rules starts (m.rows + 1) = run_ends ranks m source some g source_in in
      let end = when_over ranks m source some g source_in e.rounds e.has_rounds in
      let last : ℕ = end.last in
      let few : last ≤ m.rows = end.few in
      let tall : m.rows ≤ 16384 = g.matrix.tall in
      let rounds : HasRounds sssp_rules starts (last + 1) = subst (HasRounds sssp_rules starts) (end.is ∙ (let z : suc last ≡ last + 1 = omega arith in z)) e.has_rounds in
      record {
        found = weights;
        least = λ k v l. least_within ranks m source some g source_in k v (omega arith);
        last = last;
        few = end.few;
        some = λ k early none. goes_not k (omega arith) (rounds.goes k (omega arith)) none;
        none = none_listed last (omega arith) (stopped last (omega arith) (subst (λ j. (j == 0 || not (votes_at sssp_rules starts j == 0)) ≡ false) (let z : last + 1 - 1 ≡ last = omega arith in z) rounds.stops));
        rounds = rounds;
        entries_sent = emit_made sssp_rules starts 0 ranks (sssp_begins ranks m source) (to_rows ranks m) refl (λ r low. refl);
        offers_sent = λ k early.
            subst (λ n. Emit sssp_rules starts n ranks (offers ranks m weights k)) (let z : suc k ≡ k + 1 = omega arith in z)
            (emit_each sssp_rules starts (suc k) ranks (offers ranks m weights k) (length-map (all k) _ ∙ (in_all k (omega arith)).size) (offers_sent k (omega arith)));
      }
    where
      goes_not : (k : ℕ) → k ≤ 16384 → (k == 0 || not (votes_at sssp_rules starts k == 0)) ≡ true → improved_with m weights k ≡ [] → ⊥
      goes_not k l goes none =
          elim (cases_eq k 0) [
            | inl z ↦
                let there : fresh 0 source ≡ true = source_fresh ranks m source some g source_in in
                let not_there : fresh 0 source ≡ false = none_fresh 0 (omega arith) (subst (λ j. improved_with m weights j ≡ []) z none) source in
                false≢true (sym not_there ∙ there)
            | inr late ↦
                let votes : votes_at sssp_rules starts k ≡ 0 = none_left k (omega (arith, late)) l (none_fresh k l none) in
                false≢true (sym (ap (λ b. b || not (votes_at sssp_rules starts k == 0)) (ne_eqb k 0 late) ∙ ap not (eq-eqb (votes_at sssp_rules starts k) 0 votes)) ∙ goes)
          ]

      stopped : (k : ℕ) → k ≤ 16384 → (k == 0 || not (votes_at sssp_rules starts k == 0)) ≡ false → (v : ℕ) → fresh k v ≡ false
      stopped k l stops v =
          elim (cases_eq k 0) [
            | inl z ↦ absurd (false≢true (sym stops ∙ ap (λ b. b || not (votes_at sssp_rules starts k == 0)) (eq-eqb k 0 z)))
            | inr late ↦
                elim (cases_eq (votes_at sssp_rules starts k) 0) [
                  | inl none ↦ none_voted k (omega (arith, late)) l none v
                  | inr some' ↦ absurd (false≢true (sym stops ∙ ap (λ b. b || not (votes_at sssp_rules starts k == 0)) (ne_eqb k 0 late) ∙ ap not (ne_eqb (votes_at sssp_rules starts k) 0 some')))
                ]
          ]

  pub sssp_table : HasTable sssp_rules starts ranks (IsSsspTable ranks m source)
  unfolding table
  sssp_table =
      let tall : m.rows ≤ 16384 = g.matrix.tall in
      let few : table.last ≤ m.rows = table.few in
      record {
        table = record { rounds = table.last + 1; line = sssp_line ranks m weights; vote = sssp_vote ranks m weights };
        is = record { found = weights; least = table.least; last = table.last; few = table.few; some = table.some; none = table.none; is = refl };
        follows =
            record {
              has_rounds = table.rounds;
              sent = sends;
              voted = λ n low. vote_each sssp_rules starts n ranks (sssp_vote ranks m weights n) (length-map-range_with_len (sssp_begins ranks m source) 0 ranks) (λ r s inside at. vote_is n (omega arith) r s at);
            };
      }
    where
      sends : (n : ℕ) → n < table.last + 1 → Emit sssp_rules starts n ranks (sssp_line ranks m weights n)
      sends zero low = table.entries_sent
      sends (suc k) low = subst (λ n. Emit sssp_rules starts n ranks (offers ranks m weights k)) (let z : k + 1 ≡ suc k = omega arith in z) (table.offers_sent k (omega arith))

pub sssp : SsspRounds
sssp ranks m source some g source_in = table ranks m source some g source_in
