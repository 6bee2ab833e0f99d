-- The sums of columns begin as the programs of one run of one round, and end with the owners' sums.
use Rattle.std.proofs.Common.{◌≡◌, ℕ, ◌%◌, ◌<◌, ◌≤◌, ◌^◌, ◌==◌, true, List, [], ◌∷◌, All, map, get_or, slice_get, Some, arith, refl, sym, ap, ◌∙◌, lit<, ℤ, pos, negsuc}
use Rattle.std.specs.Prelude.{nat_abs}
use Rattle.std.specs.List.{range_with_len}
use Rattle.std.proofs.lemmas.Bool.Decides.{nat_tests}
use Rattle.std.proofs.lemmas.List.{length-replicate}
use Rattle.std.proofs.lemmas.List.Elements.{All-map, All-filter, All-replicate}
use Rattle.bale_items.specs.declared.Item.{Item}
use Rattle.bale_items.specs.declared.triple.Triple.{Triple}
use Rattle.bale_items.specs.Bits.{twos_complement}
use Rattle.list_laws.proofs.Lists.{get_once}
use Rattle.mtx_text.specs.Sparse.{Sparse, IsSparse}
use Rattle.round_program.specs.Canonical.{absorbed_round, states_at, HasRounds, EndsWithin, InRound}
use Rattle.round_program.specs.Orders.{absorb_each}
use Rattle.round_program.proofs.Members.{rounds_once}
use Rattle.sparse_rows.specs.Owners.{Numbered, with_numbers, entry_owner, column_owner, own_entries, places_for}
use Rattle.sparse_rows.proofs.EveryEntry.{every_owned}
use Rattle.sparse_rows.proofs.Starts.{made_at, made_from, made_in_round, all_numbered, all_owned, round_made}
use Rattle.app_histo_ig.specs.Owners.{with_sum_risen}
use Rattle.app_histo_ig.specs.Histos.{may_count}
use Rattle.app_histo_ig.specs.Igs.{value_item}
use Rattle.app_histo_ig.specs.Sums.{SumsState, IsSums, sums_rules}
use Rattle.app_histo_ig.specs.laws.SumsLaws.{sums_laws}
use Rattle.app_histo_ig.specs.SumsRuns.{sums_begins, sums_starts, SumsEnded}
use Rattle.app_histo_ig.proofs.ColumnSums.{risen_all}
use Rattle.app_histo_ig.proofs.IgRounds.{values, sums_of}

-- ---- The start

word_of : (v : ℤ) → nat_abs v ≤ 1_000_000_000_000 → twos_complement v < 2 ^ 64
word_of (pos n) h = omega arith
word_of (negsuc n) h = omega arith

begins_fit : (ranks : ℕ) (m : Sparse) (r : ℕ) → r < ranks → IsSparse m → All (λ e. may_count (m.cols ∷ []) ranks 0 e.0 r e.1 ≡ true) (sums_begins ranks m r).values
begins_fit ranks m r low is =
    All-map (λ e. may_count (m.cols ∷ []) ranks 0 e.0 r e.1 ≡ true) (λ (e : Numbered). (column_owner ranks e, value_item e)) (own_entries ranks r m.entries)
    (All-filter (λ (e : Numbered). e.0 % ranks == r) (λ (e : Numbered). may_count (m.cols ∷ []) ranks 0 (column_owner ranks e) r (value_item e) ≡ true) (with_numbers m.entries)
    (all_numbered (λ (t : Triple). may_count (m.cols ∷ []) ranks 0 (t.j % ranks) r (record { a = t.j; b = twos_complement t.v; c = 0 }) ≡ true) 0 m.entries
    (λ k d l. fits_here m.cols ranks r (get_or m.entries k d) low is.wide (is.inside k d l).col (word_of (get_or m.entries k d).v (is.inside k d l).limit))))
  where
    fits_here : (cols ranks r : ℕ) (t : Triple) → r < ranks → cols ≤ 16384 → t.j < cols → twos_complement t.v < 2 ^ 64
        → may_count (cols ∷ []) ranks 0 (t.j % ranks) r (record { a = t.j; b = twos_complement t.v; c = 0 }) ≡ true
    fits_here cols ranks r t low wide inside word = grind (arith, nat_tests)

pub begins_valid : (ranks : ℕ) (m : Sparse) (r : ℕ) → r < ranks → IsSparse m → IsSums (sums_begins ranks m r)
begins_valid ranks m r low is =
    let wide : m.cols ≤ 16384 = is.wide in
    record {
      own = low;
      wide = omega arith;
      fit = begins_fit ranks m r low is;
      words = All-replicate (λ v. v < 2 ^ 64) (places_for ranks m.cols) 0 (lit< tt);
      places = length-replicate (places_for ranks m.cols) 0;
    }

pub starts_in_round : (ranks : ℕ) (m : Sparse) → IsSparse m → InRound sums_rules ranks 0 (m.cols ∷ []) 1 (sums_starts ranks m)
starts_in_round ranks m is =
    made_in_round sums_rules (sums_begins ranks m) ranks 0 (m.cols ∷ []) 1
    (λ r low. record { valid = begins_valid ranks m r low is; own_rank = refl; all_ranks = refl; same_round = refl; same_shape = refl; same_most = refl })

-- a rank as it begins, from its fields
pub begins_is : (ranks : ℕ) (m : Sparse) (r cols : ℕ) (vs : List (ℕ × Item)) (sums : List ℕ) → cols ≡ m.cols → vs ≡ (sums_begins ranks m r).values → sums ≡ (sums_begins ranks m r).sums
    → record { rank = r; ranks = ranks; round = 0; cols = cols; values = vs; sums = sums } ≡ sums_begins ranks m r
begins_is ranks m r cols vs sums a b c =
    let s : SumsState = sums_begins ranks m r in
    ap (λ w. record s { cols = w; values = vs; sums = sums }) a ∙ ap (λ w. record s { values = w; sums = sums }) b ∙ ap (λ w. record s { sums = w }) c

pub one_round : (starts : List SumsState) → HasRounds sums_rules starts 1
one_round starts = record { some = lit< tt; goes = λ m l. absurd (omega arith); stops = refl }

pub within_one : (starts : List SumsState) → EndsWithin sums_rules starts 1
within_one starts = record { rounds = 1; has_rounds = one_round starts; at_most = omega arith }

-- ---- The end

-- a rank after the round
abbrev pub added : ℕ → Sparse → ℕ → SumsState
added ranks m r = record (sums_begins ranks m r) { round = 1; sums = sums_of ranks m r }

each_risen : (s : SumsState) (es : List (ℕ × Item)) → absorb_each sums_rules s es ≡ record s { sums = risen_all s.ranks s.sums es }
each_risen s [] = refl
each_risen s (e ∷ es) = each_risen (record s { sums = with_sum_risen s.ranks s.sums e.1 }) es

the_round : (ranks : ℕ) (m : Sparse) → 0 < ranks → IsSparse m → states_at sums_rules (sums_starts ranks m) 1 ≡ map (added ranks m) (range_with_len 0 ranks)
the_round ranks m some is =
    round_made sums_rules ranks (sums_begins ranks m) (added ranks m) (λ r votes low t at.
    let absorbed : slice_get (absorbed_round sums_rules (sums_starts ranks m)) r ≡ Some (absorb_each sums_rules (sums_begins ranks m r) (values ranks m r)) =
    every_owned sums_rules sums_laws ranks 0 (m.cols ∷ []) 1 (sums_starts ranks m) (entry_owner ranks) (column_owner ranks) value_item (with_numbers m.entries)
    (starts_in_round ranks m is) (all_owned ranks 0 m.entries some)
    (λ f s here. ap sums_rules.emissions (sym (made_from (sums_begins ranks m) ranks f s here).1))
    r (sums_begins ranks m r) (made_at (sums_begins ranks m) ranks r low) in
    let same : t ≡ record (sums_begins ranks m r) { sums = sums_of ranks m r } =
    get_once (absorbed_round sums_rules (sums_starts ranks m)) r t _ at absorbed ∙ each_risen (sums_begins ranks m r) (values ranks m r) in
    ap (λ s. sums_rules.ended s votes) same)

pub ended_are : (m : Sparse) (ps : List SumsState) (h : SumsEnded m ps) → ps ≡ map (added h.ranks m) (range_with_len 0 h.ranks)
ended_are m ps h =
    let starts : List SumsState = sums_starts h.ranks m in
    h.ended.states ∙ ap (states_at sums_rules starts) (rounds_once sums_rules starts h.ended.rounds 1 h.ended.has_rounds (one_round starts)) ∙ the_round h.ranks m h.some h.matrix
