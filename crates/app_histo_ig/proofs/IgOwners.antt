-- What the ranks of ig have after three rounds.
use Rattle.std.proofs.Common.{◌≡◌, ℕ, ◌+◌, ◌/◌, ◌%◌, ◌<◌, ◌^◌, ◌==◌, cond, eqb, List, [], ◌∷◌, Some, None, map, length, get_or, slice_get, replicate, arith, sym, ap, ◌∙◌, subst, lit<}
use Rattle.std.specs.List.{range_with_len, sum_by}
use Rattle.std.proofs.Math.Nat.{mod-lt}
use Rattle.std.proofs.lemmas.Bool.{eqb-true}
use Rattle.std.proofs.lemmas.List.{get_or-replicate, length-replicate}
use Rattle.std.proofs.lemmas.List.Elements.{All-filter, filter_passes}
use Rattle.std.proofs.lemmas.List.FromFn.{length-map-range_with_len}
use Rattle.std.proofs.lemmas.Simd.{map-map}
use Rattle.bale_items.specs.declared.triple.Triple.{Triple}
use Rattle.bale_items.specs.Bits.{twos_complement}
use Rattle.list_laws.proofs.Lists.{get_once}
use Rattle.mtx_text.specs.Sparse.{Sparse, IsSparse}
use Rattle.round_program.specs.Canonical.{items_of, emissions_to, absorbed_round, after_whole_round, states_at, InRound}
use Rattle.round_program.specs.Orders.{absorb_each}
use Rattle.round_program.proofs.Members.{rounds_once, in_round}
use Rattle.sparse_rows.specs.Deals.{dealt}
use Rattle.sparse_rows.proofs.Deals.{filter_dealt}
use Rattle.sparse_rows.specs.Owners.{Numbered, with_numbers, entry_owner, column_owner, own_entries, places_for}
use Rattle.app_histo_ig.specs.Igs.{IgState, ig_rules, value_item, to_ask, ig_reply_to}
use Rattle.app_histo_ig.specs.laws.IgLaws.{ig_laws}
use Rattle.app_histo_ig.specs.IgRuns.{ig_begins, ig_starts, IgEnded}
use Rattle.sparse_rows.proofs.EveryEntry.{came_from, every_owned, every_entry, same_map}
use Rattle.app_histo_ig.proofs.ColumnSums.{for_column, risen_sum, came_own, came_sum, numbered_sum}
use Rattle.sparse_rows.proofs.Places.{place_below}
use Rattle.sparse_rows.proofs.Starts.{made_at, made_from, all_numbered, all_owned, round_made}
use Rattle.app_histo_ig.proofs.IgRounds.{column_bits, values, ask_item, queries, answer_item, replies, sums_of, by_sender, asking, replying, answers_of, over, each_risen, each_noted, each_answered, starts_in_round, three_rounds}
use Rattle.app_histo_ig.proofs.IgQueries.{noted_from_none, replies_to}

-- round 0
first_round : (ranks : ℕ) (m : Sparse) → 0 < ranks → IsSparse m → states_at ig_rules (ig_starts ranks m) 1 ≡ map (asking ranks m) (range_with_len 0 ranks)
first_round ranks m some is =
    round_made ig_rules ranks (ig_begins ranks m) (asking ranks m) (λ r votes low t at.
    let absorbed : slice_get (absorbed_round ig_rules (ig_starts ranks m)) r ≡ Some (absorb_each ig_rules (ig_begins ranks m r) (values ranks m r)) =
    every_owned ig_rules ig_laws ranks 0 (m.cols ∷ []) 3 (ig_starts ranks m) (entry_owner ranks) (column_owner ranks) value_item (with_numbers m.entries)
    (starts_in_round ranks m is) (all_owned ranks 0 m.entries some)
    (λ f s here. ap ig_rules.emissions (sym (made_from (ig_begins ranks m) ranks f s here).1))
    r (ig_begins ranks m r) (made_at (ig_begins ranks m) ranks r low) in
    let same : t ≡ record (ig_begins ranks m r) { sums = sums_of ranks m r } =
    get_once (absorbed_round ig_rules (ig_starts ranks m)) r t _ at absorbed ∙ each_risen (ig_begins ranks m r) (values ranks m r) in
    ap (λ s. ig_rules.ended s votes) same)

-- round 1
second_round : (ranks : ℕ) (m : Sparse) → 0 < ranks → IsSparse m → states_at ig_rules (ig_starts ranks m) 2 ≡ map (replying ranks m) (range_with_len 0 ranks)
second_round ranks m some is =
    let ss : List IgState = map (asking ranks m) (range_with_len 0 ranks) in
    let begun : InRound ig_rules ranks 1 (m.cols ∷ []) 3 ss =
    subst (InRound ig_rules ranks 1 (m.cols ∷ []) 3) (first_round ranks m some is) (in_round ig_rules ig_laws ranks (m.cols ∷ []) 3 (ig_starts ranks m) 1 (starts_in_round ranks m is) (lit< tt)) in
    ap (after_whole_round ig_rules) (first_round ranks m some is)
    ∙ round_made ig_rules ranks (asking ranks m) (replying ranks m) (λ r votes low t at.
    let absorbed : slice_get (absorbed_round ig_rules ss) r ≡ Some (absorb_each ig_rules (asking ranks m r) (queries ranks m r)) =
    every_owned ig_rules ig_laws ranks 1 (m.cols ∷ []) 3 ss (entry_owner ranks) (column_owner ranks) ask_item (with_numbers m.entries)
    begun (all_owned ranks 0 m.entries some)
    (λ f s here. ap ig_rules.emissions (sym (made_from (asking ranks m) ranks f s here).1) ∙ map-map (to_ask ranks) (λ (e : Numbered). (e.0, e.1.j)) (own_entries ranks f m.entries))
    r (asking ranks m r) (made_at (asking ranks m) ranks r low) in
    let same : t ≡ record (asking ranks m r) { queries = by_sender ranks (queries ranks m r) } =
    get_once (absorbed_round ig_rules ss) r t _ at absorbed ∙ each_noted (asking ranks m r) (queries ranks m r)
    ∙ ap (λ qs. record (asking ranks m r) { queries = qs }) (noted_from_none ranks (queries ranks m r)) in
    ap (λ s. ig_rules.ended s votes) same)

-- the sum that a column's owner has
pub owner_sum : (ranks : ℕ) (m : Sparse) (j : ℕ) → 0 < ranks → j < m.cols → get_or (sums_of ranks m (j % ranks)) (j / ranks) 0 ≡ column_bits m.entries j
owner_sum ranks m j some low =
    let zeros : List ℕ = replicate (places_for ranks m.cols) 0 in
    let place : j / ranks < places_for ranks m.cols = place_below ranks m.cols j some low in
    let none : get_or zeros (j / ranks) 0 ≡ 0 = get_or-replicate (places_for ranks m.cols) (j / ranks) 0 0 place in
    let sum : get_or (sums_of ranks m (j % ranks)) (j / ranks) 0 ≡ (get_or zeros (j / ranks) 0 + sum_by (for_column j) (values ranks m (j % ranks))) % 2 ^ 64 =
    risen_sum ranks j zeros (values ranks m (j % ranks)) (came_own ranks (j % ranks) (entry_owner ranks) (λ e. twos_complement e.1.v) (with_numbers m.entries))
    (subst (λ n. j / ranks < n) (sym (length-replicate (places_for ranks m.cols) 0)) place) (omega (arith, none)) in
    let all : sum_by (for_column j) (values ranks m (j % ranks)) ≡ sum_by (λ (t : Triple). cond (t.j == j) (twos_complement t.v) 0) m.entries =
    came_sum ranks j (entry_owner ranks) (λ e. twos_complement e.1.v) (with_numbers m.entries) ∙ numbered_sum (λ (t : Triple). cond (t.j == j) (twos_complement t.v) 0) 0 m.entries in
    let flat : get_or zeros (j / ranks) 0 + sum_by (for_column j) (values ranks m (j % ranks)) ≡ sum_by (λ (t : Triple). cond (t.j == j) (twos_complement t.v) 0) m.entries = omega (arith, none, all) in
    sum ∙ ap (λ n. n % 2 ^ 64) flat

-- what rank f replies to rank r: to each of r's entries in f's columns, the column's sum
replied : (ranks : ℕ) (m : Sparse) (f r : ℕ) → 0 < ranks → IsSparse m → r < ranks
    → emissions_to ig_rules (replying ranks m f) r ≡ map (answer_item m.entries) (dealt (entry_owner ranks) r (dealt (column_owner ranks) f (with_numbers m.entries)))
replied ranks m f r some is low =
    let sums : List ℕ = sums_of ranks m f in
    let cells : List Numbered = dealt (entry_owner ranks) r (dealt (column_owner ranks) f (with_numbers m.entries)) in
    let asked : items_of r (queries ranks m f) ≡ map ask_item cells =
    came_from (entry_owner ranks) (column_owner ranks) ask_item f r (with_numbers m.entries)
    ∙ ap (map ask_item) (filter_dealt (entry_owner ranks) r (λ x. eqb (column_owner ranks x) f) (with_numbers m.entries)) in
    replies_to ranks r sums (λ g. items_of g (queries ranks m f)) 0 ranks (omega arith) (omega arith)
    ∙ ap (map (λ x. (ig_reply_to ranks sums r x).1)) asked
    ∙ map-map (λ x. (ig_reply_to ranks sums r x).1) ask_item cells
    ∙ same_map (λ e. (ig_reply_to ranks sums r (ask_item e)).1) (answer_item m.entries) cells
    (All-filter (λ (e : Numbered). eqb (entry_owner ranks e) r) (λ e. (ig_reply_to ranks sums r (ask_item e)).1 ≡ answer_item m.entries e) (dealt (column_owner ranks) f (with_numbers m.entries))
    (λ k d l.
    let e : Numbered = get_or (dealt (column_owner ranks) f (with_numbers m.entries)) k d in
    let own : column_owner ranks e ≡ f = eqb-true (column_owner ranks e) f (filter_passes (λ x. eqb (column_owner ranks x) f) (with_numbers m.entries) k d l) in
    let inside : e.1.j < m.cols =
    All-filter (λ x. eqb (column_owner ranks x) f) (λ (x : Numbered). x.1.j < m.cols) (with_numbers m.entries) (all_numbered (λ (t : Triple). t.j < m.cols) 0 m.entries (λ i b h. (is.inside i b h).col)) k d l in
    ap (λ v. record { a = e.0; b = v; c = 0 }) (ap (λ g. get_or (sums_of ranks m g) (e.1.j / ranks) 0) (sym own) ∙ owner_sum ranks m e.1.j some inside)))

-- round 2
third_round : (ranks : ℕ) (m : Sparse) → 0 < ranks → IsSparse m → states_at ig_rules (ig_starts ranks m) 3 ≡ map (over ranks m) (range_with_len 0 ranks)
third_round ranks m some is =
    let ss : List IgState = map (replying ranks m) (range_with_len 0 ranks) in
    let begun : InRound ig_rules ranks 2 (m.cols ∷ []) 3 ss =
    subst (InRound ig_rules ranks 2 (m.cols ∷ []) 3) (second_round ranks m some is) (in_round ig_rules ig_laws ranks (m.cols ∷ []) 3 (ig_starts ranks m) 2 (starts_in_round ranks m is) (lit< tt)) in
    ap (after_whole_round ig_rules) (second_round ranks m some is)
    ∙ round_made ig_rules ranks (replying ranks m) (over ranks m) (λ r votes low t at.
    let absorbed : slice_get (absorbed_round ig_rules ss) r ≡ Some (absorb_each ig_rules (replying ranks m r) (replies ranks m r)) =
    every_entry ig_rules ig_laws ranks 2 (m.cols ∷ []) 3 ss (column_owner ranks) (entry_owner ranks) (answer_item m.entries) (with_numbers m.entries)
    begun (λ k d l. mod-lt _ some)
    (λ f to s below here. ap (λ s. emissions_to ig_rules s to) (sym (made_from (replying ranks m) ranks f s here).1) ∙ replied ranks m f to some is below)
    r (replying ranks m r) (made_at (replying ranks m) ranks r low) in
    let same : t ≡ record (replying ranks m r) { answers = answers_of ranks m r } =
    get_once (absorbed_round ig_rules ss) r t _ at absorbed ∙ each_answered (replying ranks m r) (replies ranks m r) in
    ap (λ s. ig_rules.ended s votes) same)

-- the programs after their run
pub ended_are : (m : Sparse) (ps : List IgState) (h : IgEnded m ps) → ps ≡ map (over h.ranks m) (range_with_len 0 h.ranks)
ended_are m ps h =
    let starts : List IgState = ig_starts h.ranks m in
    h.ended.states ∙ ap (states_at ig_rules starts) (rounds_once ig_rules starts h.ended.rounds 3 h.ended.has_rounds (three_rounds starts)) ∙ third_round h.ranks m h.some h.matrix

pub programs_len : (m : Sparse) (ps : List IgState) (h : IgEnded m ps) → length ps ≡ h.ranks
programs_len m ps h = ap length (ended_are m ps h) ∙ length-map-range_with_len (over h.ranks m) 0 h.ranks

pub ended_at : (m : Sparse) (ps : List IgState) (h : IgEnded m ps) (r : ℕ) → r < h.ranks → slice_get ps r ≡ Some (over h.ranks m r)
ended_at m ps h r low = ap (λ ss. slice_get ss r) (ended_are m ps h) ∙ made_at (over h.ranks m) h.ranks r low

pub rank_found : (m : Sparse) (ps : List IgState) (h : IgEnded m ps) (r : ℕ) → r < h.ranks → slice_get ps r ≡ None → ⊥
rank_found m ps h r low none = let there = ended_at m ps h r low in cc
