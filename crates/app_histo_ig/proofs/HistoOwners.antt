-- histo's programs begin as those of one run of one round, and the owner of a column ends with the
-- number of its entries.
use Rattle.std.proofs.Common.{◌≡◌, ℕ, ◌+◌, ◌/◌, ◌%◌, ◌<◌, ◌≤◌, ◌^◌, ◌==◌, List, [], ◌∷◌, Some, None, All, cond, map, length, get_or, slice_get, replicate, arith, refl, sym, ap, ◌∙◌, subst, lit<}
use Rattle.std.specs.List.{sum_by}
use Rattle.std.proofs.Math.Nat.{mod-lt}
use Rattle.std.proofs.lemmas.List.{get_or-replicate, length-replicate, length-map}
use Rattle.std.proofs.lemmas.Simd.{map-map}
use Rattle.std.proofs.lemmas.List.Elements.{All-map, All-filter}
use Rattle.std.proofs.lemmas.List.Sums.{count_by-le-length}
use Rattle.std.proofs.lemmas.List.FromFn.{length-map-range_with_len}
use Rattle.bale_items.specs.declared.Item.{Item}
use Rattle.bale_items.specs.declared.triple.Triple.{Triple}
use Rattle.list_laws.proofs.Lists.{get_map, get_once}
use Rattle.mtx_text.specs.Sparse.{Sparse, IsSparse}
use Rattle.round_program.specs.Canonical.{absorbed_round, states_at, votes_at, HasRounds, EndsWithin, InRound, Member}
use Rattle.round_program.specs.Orders.{absorb_each}
use Rattle.round_program.proofs.Members.{rounds_once}
use Rattle.sparse_rows.specs.Deals.{dealt}
use Rattle.sparse_rows.specs.Owners.{Numbered, with_numbers, entry_owner, column_owner, own_entries, places_for}
use Rattle.app_histo_ig.specs.Owners.{with_sum_risen}
use Rattle.app_histo_ig.specs.Histos.{HistoState, histo_rules, to_own_column}
use Rattle.app_histo_ig.specs.laws.HistoLaws.{histo_laws}
use Rattle.app_histo_ig.specs.HistoLines.{in_column}
use Rattle.app_histo_ig.specs.HistoRuns.{histo_begins, histo_starts, HistoEnded}
use Rattle.sparse_rows.proofs.EveryEntry.{came_to, every_owned}
use Rattle.app_histo_ig.proofs.ColumnSums.{risen_all, risen_all_len, risen_sum, column_item, came_own, came_sum, numbered_sum}
use Rattle.sparse_rows.proofs.Places.{place_below}
use Rattle.sparse_rows.proofs.Starts.{made_at, made_from, made_in_round, all_numbered, all_owned}

own_inside : (ranks rank cols : ℕ) (ts : List Triple) → All (λ (t : Triple). t.j < cols) ts → All (λ j. j < cols) (map (λ (e : Numbered). e.1.j) (own_entries ranks rank ts))
own_inside ranks rank cols ts inside =
    All-map (λ j. j < cols) (λ (e : Numbered). e.1.j) (own_entries ranks rank ts)
    (All-filter (λ (e : Numbered). e.0 % ranks == rank) (λ (e : Numbered). e.1.j < cols) (with_numbers ts) (all_numbered (λ (t : Triple). t.j < cols) 0 ts inside))

begins_in : (ranks : ℕ) (m : Sparse) (r : ℕ) → r < ranks → IsSparse m → Member histo_rules ranks 0 (m.cols ∷ []) 1 r (histo_begins ranks m r)
begins_in ranks m r low is =
    let wide : m.cols ≤ 16384 = is.wide in
    record {
      valid =
          record {
            own = low;
            wide = omega arith;
            named = own_inside ranks r m.cols m.entries (λ k d l. (is.inside k d l).col);
            places = length-replicate (places_for ranks m.cols) 0;
          };
      own_rank = refl;
      all_ranks = refl;
      same_round = refl;
      same_shape = refl;
      same_most = refl;
    }

pub starts_in_round : (ranks : ℕ) (m : Sparse) → IsSparse m → InRound histo_rules ranks 0 (m.cols ∷ []) 1 (histo_starts ranks m)
starts_in_round ranks m is = made_in_round histo_rules (histo_begins ranks m) ranks 0 (m.cols ∷ []) 1 (λ r low. begins_in ranks m r low is)

-- the run has one round
pub one_round : (starts : List HistoState) → HasRounds histo_rules starts 1
one_round starts = record { some = lit< tt; goes = λ m l. absurd (omega arith); stops = refl }

pub within_one : (starts : List HistoState) → EndsWithin histo_rules starts 1
within_one starts = record { rounds = 1; has_rounds = one_round starts; at_most = omega arith }

-- what comes to a rank: a one for each entry of its columns
abbrev came : ℕ → Sparse → ℕ → List (ℕ × Item)
came ranks m r = came_to (entry_owner ranks) (column_owner ranks) (column_item (λ e. 1)) r (with_numbers m.entries)

each_counts : (s : HistoState) (es : List (ℕ × Item)) → absorb_each histo_rules s es ≡ record s { counts = risen_all s.ranks s.counts es }
each_counts s [] = refl
each_counts s (e ∷ es) = each_counts (record s { counts = with_sum_risen s.ranks s.counts e.1 }) es

sent : (ranks : ℕ) (m : Sparse) (f : ℕ) (s : HistoState) → slice_get (histo_starts ranks m) f ≡ Some s
    → histo_rules.emissions s ≡ map (λ (e : Numbered). (column_owner ranks e, column_item (λ e. 1) e)) (dealt (entry_owner ranks) f (with_numbers m.entries))
sent ranks m f s at =
    ap histo_rules.emissions (sym (made_from (histo_begins ranks m) ranks f s at).1) ∙ map-map (to_own_column ranks) (λ (e : Numbered). e.1.j) (own_entries ranks f m.entries)

-- a rank after the run
abbrev counted : ℕ → Sparse → ℕ → List ℕ
counted ranks m r = risen_all ranks (replicate (places_for ranks m.cols) 0) (came ranks m r)

ended_at : (m : Sparse) (ps : List HistoState) (h : HistoEnded m ps) (r : ℕ) → r < h.ranks
    → slice_get ps r ≡ Some (histo_rules.ended (record (histo_begins h.ranks m r) { counts = counted h.ranks m r }) 0)
ended_at m ps h r low =
    let starts : List HistoState = histo_starts h.ranks m in
    let once : h.ended.rounds ≡ 1 = rounds_once histo_rules starts h.ended.rounds 1 h.ended.has_rounds (one_round starts) in
    let is : ps ≡ states_at histo_rules starts 1 = h.ended.states ∙ ap (states_at histo_rules starts) once in
    let absorbed : slice_get (absorbed_round histo_rules starts) r ≡ Some (absorb_each histo_rules (histo_begins h.ranks m r) (came h.ranks m r)) =
    every_owned histo_rules histo_laws h.ranks 0 (m.cols ∷ []) 1 starts (entry_owner h.ranks) (column_owner h.ranks) (column_item (λ e. 1)) (with_numbers m.entries)
    (starts_in_round h.ranks m h.matrix) (all_owned h.ranks 0 m.entries h.some) (sent h.ranks m) r (histo_begins h.ranks m r) (made_at (histo_begins h.ranks m) h.ranks r low) in
    ap (λ ss. slice_get ss r) is
    ∙ get_map (λ s. histo_rules.ended s (votes_at histo_rules starts 0)) (absorbed_round histo_rules starts) r _ absorbed
    ∙ ap (λ s. Some (histo_rules.ended s 0)) (each_counts (histo_begins h.ranks m r) (came h.ranks m r))

pub programs_len : (m : Sparse) (ps : List HistoState) (h : HistoEnded m ps) → length ps ≡ h.ranks
programs_len m ps h =
    let starts : List HistoState = histo_starts h.ranks m in
    let once : h.ended.rounds ≡ 1 = rounds_once histo_rules starts h.ended.rounds 1 h.ended.has_rounds (one_round starts) in
    ap length (h.ended.states ∙ ap (states_at histo_rules starts) once)
    ∙ length-map (absorbed_round histo_rules starts) (λ s. histo_rules.ended s (votes_at histo_rules starts 0))
    ∙ length-map starts _
    ∙ length-map-range_with_len (histo_begins h.ranks m) 0 h.ranks

-- each rank is there, and knows the number of columns
pub rank_found : (m : Sparse) (ps : List HistoState) (h : HistoEnded m ps) (r : ℕ) → r < h.ranks → slice_get ps r ≡ None → ⊥
rank_found m ps h r low none = let there = ended_at m ps h r low in cc

pub rank_cols : (m : Sparse) (ps : List HistoState) (h : HistoEnded m ps) (r : ℕ) (s : HistoState) → r < h.ranks → slice_get ps r ≡ Some s → s.cols ≡ m.cols
rank_cols m ps h r s low at = ap (λ (t : HistoState). t.cols) (get_once ps r s _ at (ended_at m ps h r low))

-- what the owner of a column has counted
pub record IsOwner (m : Sparse) (ranks j : ℕ) (s : HistoState) : Type 0 where
  pub size : length s.counts ≡ places_for ranks m.cols
  pub place : j / ranks < places_for ranks m.cols
  pub count : get_or s.counts (j / ranks) 0 ≡ in_column j m.entries

pub owner_counted : (m : Sparse) (ps : List HistoState) (h : HistoEnded m ps) (j : ℕ) (s : HistoState) → j < m.cols → slice_get ps (j % h.ranks) ≡ Some s → IsOwner m h.ranks j s
owner_counted m ps h j s low at =
    let ranks : ℕ = h.ranks in
    let r : ℕ = j % ranks in
    let zeros : List ℕ = replicate (places_for ranks m.cols) 0 in
    let size : length zeros ≡ places_for ranks m.cols = length-replicate (places_for ranks m.cols) 0 in
    let place : j / ranks < places_for ranks m.cols = place_below ranks m.cols j h.some low in
    let none : get_or zeros (j / ranks) 0 ≡ 0 = get_or-replicate (places_for ranks m.cols) (j / ranks) 0 0 place in
    let all : sum_by _ (came ranks m r) ≡ in_column j m.entries =
    came_sum ranks j (entry_owner ranks) (λ e. 1) (with_numbers m.entries) ∙ numbered_sum (λ (t : Triple). cond (t.j == j) 1 0) 0 m.entries in
    let few : in_column j m.entries ≤ 524288 = omega (arith, count_by-le-length (λ (t : Triple). t.j == j) m.entries, h.matrix.few) in
    let sum : get_or (counted ranks m r) (j / ranks) 0 ≡ (get_or zeros (j / ranks) 0 + sum_by _ (came ranks m r)) % 2 ^ 64 =
    risen_sum ranks j zeros (came ranks m r) (came_own ranks r (entry_owner ranks) (λ e. 1) (with_numbers m.entries)) (subst (λ n. j / ranks < n) (sym size) place) (omega (arith, none)) in
    let is : counted ranks m r ≡ s.counts = sym (ap (λ (t : HistoState). t.counts) (get_once ps r s _ at (ended_at m ps h r (mod-lt j h.some)))) in
    record {
      size = ap length (sym is) ∙ risen_all_len ranks zeros (came ranks m r) ∙ size;
      place = place;
      count = ap (λ ns. get_or ns (j / ranks) 0) (sym is) ∙ omega (arith, sum, none, all, few);
    }

-- a rank as histo begins, from its fields
pub begins_named : (ranks : ℕ) (m : Sparse) (r : ℕ) → IsSparse m → All (λ j. j < m.cols) (map (λ (e : Numbered). e.1.j) (own_entries ranks r m.entries))
begins_named ranks m r is = own_inside ranks r m.cols m.entries (λ k d l. (is.inside k d l).col)

pub begins_is : (ranks : ℕ) (m : Sparse) (r cols : ℕ) (columns counts : List ℕ) → cols ≡ m.cols → columns ≡ map (λ (e : Numbered). e.1.j) (own_entries ranks r m.entries) → counts ≡ replicate (places_for ranks m.cols) 0
    → record { rank = r; ranks = ranks; round = 0; cols = cols; columns = columns; counts = counts } ≡ histo_begins ranks m r
begins_is ranks m r cols columns counts a b c =
    ap (λ k. record { rank = r; ranks = ranks; round = 0; cols = k; columns = columns; counts = counts }) a
    ∙ ap (λ k. record { rank = r; ranks = ranks; round = 0; cols = m.cols; columns = k; counts = counts }) b
    ∙ ap (λ k. record { rank = r; ranks = ranks; round = 0; cols = m.cols; columns = map (λ (e : Numbered). e.1.j) (own_entries ranks r m.entries); counts = k }) c
