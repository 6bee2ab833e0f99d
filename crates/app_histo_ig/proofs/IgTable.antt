-- The rounds of ig.
use Rattle.std.proofs.Common.{◌≡◌, ℕ, zero, suc, ◌+◌, ◌/◌, ◌<◌, ◌^◌, ◌++◌, eqb, List, [], ◌∷◌, Some, map, get_or, slice_get, arith, refl, sym, ap, ◌∙◌, subst, lit<, add-one}
use Rattle.std.specs.List.{range_with_len, flat_map}
use Rattle.std.proofs.lemmas.Bool.{eqb-true}
use Rattle.std.proofs.lemmas.Bool.Decides.{nat_tests}
use Rattle.std.proofs.lemmas.List.Elements.{All-filter, filter_passes}
use Rattle.std.proofs.lemmas.Simd.{map-map}
use Rattle.bale_items.specs.declared.Item.{Item}
use Rattle.bale_items.specs.declared.triple.Triple.{Triple}
use Rattle.bale_items.specs.Bits.{twos_complement}
use Rattle.list_laws.proofs.Lists.{get_once}
use Rattle.mtx_text.specs.Sparse.{Sparse, IsSparse}
use Rattle.round_program.specs.Canonical.{items_of, absorbed_round, after_whole_round, states_at, InRound}
use Rattle.round_program.specs.Orders.{absorb_each}
use Rattle.round_program.proofs.Members.{in_round}
use Rattle.sparse_rows.specs.Deals.{dealt}
use Rattle.sparse_rows.specs.Owners.{Numbered, with_numbers, entry_owner, column_owner, own_entries}
use Rattle.sparse_rows.proofs.EveryEntry.{came_from, every_owned, same_map}
use Rattle.sparse_rows.proofs.Starts.{made_at, made_from, all_numbered, all_owned, round_made}
use Rattle.app_histo_ig.specs.IgLines.{column_sum}
use Rattle.app_histo_ig.specs.Igs.{IgState, ig_rules, value_item, to_ask, ig_reply_to, ig_replies_from}
use Rattle.app_histo_ig.specs.laws.IgLaws.{ig_laws}
use Rattle.app_histo_ig.specs.IgRuns.{ig_begins, ig_starts}
use Rattle.app_histo_ig.specs.Sums.{sums_rules}
use Rattle.app_histo_ig.specs.SumsRuns.{sums_begins, sums_starts}
use Rattle.app_histo_ig.proofs.ColumnWords.{column_word}
use Rattle.app_histo_ig.proofs.IgOwners.{owner_sum}
use Rattle.app_histo_ig.proofs.IgQueries.{noted_from_none}
use Rattle.app_histo_ig.proofs.IgRounds.{column_bits, ask_item, sums_of, by_sender, asking, replying, each_risen, each_noted, starts_in_round, three_rounds}
use Rattle.app_histo_ig.proofs.IgRounds.{values as values_come, queries as queries_come}
use Rattle.app_histo_ig.specs.IgTable.{IgRounds, IgSumsRounds, values, queries, replies}
use Rattle.sparse_rows.proofs.Emitted.{emit_made, same_flat}

-- ---- The states between the rounds

first_round : (ranks : ℕ) (m : Sparse) → 0 < ranks → IsSparse m → states_at ig_rules (ig_starts ranks m) 1 ≡ map (asking ranks m) (range_with_len 0 ranks)
first_round ranks m some is =
    round_made ig_rules ranks (ig_begins ranks m) (asking ranks m) (λ r votes low t at.
    let absorbed : slice_get (absorbed_round ig_rules (ig_starts ranks m)) r ≡ Some (absorb_each ig_rules (ig_begins ranks m r) (values_come ranks m r)) =
    every_owned ig_rules ig_laws ranks 0 (m.cols ∷ []) 3 (ig_starts ranks m) (entry_owner ranks) (column_owner ranks) value_item (with_numbers m.entries)
    (starts_in_round ranks m is) (all_owned ranks 0 m.entries some)
    (λ f s here. ap ig_rules.emissions (sym (made_from (ig_begins ranks m) ranks f s here).1))
    r (ig_begins ranks m r) (made_at (ig_begins ranks m) ranks r low) in
    let same : t ≡ record (ig_begins ranks m r) { sums = sums_of ranks m r } =
    get_once (absorbed_round ig_rules (ig_starts ranks m)) r t _ at absorbed ∙ each_risen (ig_begins ranks m r) (values_come ranks m r) in
    ap (λ s. ig_rules.ended s votes) same)

second_round : (ranks : ℕ) (m : Sparse) → 0 < ranks → IsSparse m → states_at ig_rules (ig_starts ranks m) 2 ≡ map (replying ranks m) (range_with_len 0 ranks)
second_round ranks m some is =
    let ss : List IgState = map (asking ranks m) (range_with_len 0 ranks) in
    let begun : InRound ig_rules ranks 1 (m.cols ∷ []) 3 ss =
    subst (InRound ig_rules ranks 1 (m.cols ∷ []) 3) (first_round ranks m some is) (in_round ig_rules ig_laws ranks (m.cols ∷ []) 3 (ig_starts ranks m) 1 (starts_in_round ranks m is) (lit< tt)) in
    ap (after_whole_round ig_rules) (first_round ranks m some is)
    ∙ round_made ig_rules ranks (asking ranks m) (replying ranks m) (λ r votes low t at.
    let absorbed : slice_get (absorbed_round ig_rules ss) r ≡ Some (absorb_each ig_rules (asking ranks m r) (queries_come ranks m r)) =
    every_owned ig_rules ig_laws ranks 1 (m.cols ∷ []) 3 ss (entry_owner ranks) (column_owner ranks) ask_item (with_numbers m.entries)
    begun (all_owned ranks 0 m.entries some)
    (λ f s here. ap ig_rules.emissions (sym (made_from (asking ranks m) ranks f s here).1) ∙ map-map (to_ask ranks) (λ (e : Numbered). (e.0, e.1.j)) (own_entries ranks f m.entries))
    r (asking ranks m r) (made_at (asking ranks m) ranks r low) in
    let same : t ≡ record (asking ranks m r) { queries = by_sender ranks (queries_come ranks m r) } =
    get_once (absorbed_round ig_rules ss) r t _ at absorbed ∙ each_noted (asking ranks m r) (queries_come ranks m r)
    ∙ ap (λ qs. record (asking ranks m r) { queries = qs }) (noted_from_none ranks (queries_come ranks m r)) in
    ap (λ s. ig_rules.ended s votes) same)

-- ---- The replies

-- those to each rank, one after the other
replies_flat : (ranks : ℕ) (sums : List ℕ) (q : ℕ → List Item) (k n : ℕ)
    → ig_replies_from ranks sums k (map q (range_with_len k n)) ≡ flat_map (λ f. map (ig_reply_to ranks sums f) (q f)) (range_with_len k n)
replies_flat ranks sums q k zero = refl
replies_flat ranks sums q k (suc n) =
    ap (λ ys. map (ig_reply_to ranks sums k) (q k) ++ ys)
    (ap (λ j. ig_replies_from ranks sums j (map q (range_with_len (k + 1) n))) (sym (add-one k)) ∙ replies_flat ranks sums q (k + 1) n)

-- what a rank replies to another
replied : (ranks : ℕ) (m : Sparse) (r f : ℕ) → 0 < ranks → IsSparse m
    → map (ig_reply_to ranks (sums_of ranks m r) f) (items_of f (queries_come ranks m r))
    ≡ map (λ (e : Numbered). (f, record { a = e.0; b = twos_complement (column_sum e.1.j m.entries); c = 0 })) (dealt (column_owner ranks) r (own_entries ranks f m.entries))
replied ranks m r f some is =
    let mine : List Numbered = dealt (column_owner ranks) r (own_entries ranks f m.entries) in
    let reply : Numbered → ℕ × Item = λ e. (f, record { a = e.0; b = twos_complement (column_sum e.1.j m.entries); c = 0 }) in
    ap (map (ig_reply_to ranks (sums_of ranks m r) f)) (came_from (entry_owner ranks) (column_owner ranks) ask_item r f (with_numbers m.entries))
    ∙ map-map (ig_reply_to ranks (sums_of ranks m r) f) ask_item mine
    ∙ same_map (λ e. ig_reply_to ranks (sums_of ranks m r) f (ask_item e)) reply mine (λ k d l.
    let e : Numbered = get_or mine k d in
    let own : column_owner ranks e ≡ r = eqb-true (column_owner ranks e) r (filter_passes (λ x. eqb (column_owner ranks x) r) (own_entries ranks f m.entries) k d l) in
    let inside : e.1.j < m.cols =
    All-filter (λ x. eqb (column_owner ranks x) r) (λ (x : Numbered). x.1.j < m.cols) (own_entries ranks f m.entries)
    (All-filter (λ x. eqb (entry_owner ranks x) f) (λ (x : Numbered). x.1.j < m.cols) (with_numbers m.entries) (all_numbered (λ (t : Triple). t.j < m.cols) 0 m.entries (λ i b h. (is.inside i b h).col))) k d l in
    ap (λ w. (f, record { a = e.0; b = w; c = 0 }))
    (ap (λ g. get_or (sums_of ranks m g) (e.1.j / ranks) 0) (sym own) ∙ owner_sum ranks m e.1.j some inside ∙ (column_word m e.1.j is).word))

pub ig : IgRounds
ig ranks m some is =
    record {
      rounds = three_rounds (ig_starts ranks m);
      values_sent = emit_made ig_rules (ig_starts ranks m) 0 ranks (ig_begins ranks m) (values ranks m) refl (λ r low. refl);
      queries_sent = emit_made ig_rules (ig_starts ranks m) 1 ranks (asking ranks m) (queries ranks m) (first_round ranks m some is)
          (λ r low. map-map (to_ask ranks) (λ (e : Numbered). (e.0, e.1.j)) (own_entries ranks r m.entries));
      replies_sent = emit_made ig_rules (ig_starts ranks m) 2 ranks (replying ranks m) (replies ranks m) (second_round ranks m some is) (λ r low.
          replies_flat ranks (sums_of ranks m r) (λ f. items_of f (queries_come ranks m r)) 0 ranks
          ∙ same_flat _ _ (range_with_len 0 ranks) (λ f. replied ranks m r f some is));
    }

pub ig_sums : IgSumsRounds
ig_sums ranks m =
    record {
      rounds = record { some = lit< tt; goes = λ n l. absurd (omega arith); stops = refl };
      values_sent = emit_made sums_rules (sums_starts ranks m) 0 ranks (sums_begins ranks m) (values ranks m) refl (λ r low. refl);
    }
