-- The three rounds of ig, one after the other, and what each rank has after them.
use Rattle.std.proofs.Common.{◌≡◌, ℕ, ◌+◌, ◌%◌, ◌<◌, ◌≤◌, ◌^◌, ◌==◌, cond, true, List, [], ◌∷◌, All, map, length, get_or, replicate, arith, refl, ap, ◌∙◌, lit<, ℤ, pos, negsuc}
use Rattle.std.specs.List.{range_with_len, sum_by, enumerate_from, fold}
use Rattle.std.proofs.lemmas.Bool.Decides.{nat_tests}
use Rattle.std.proofs.lemmas.List.{length-replicate}
use Rattle.std.specs.Prelude.{nat_abs}
use Rattle.std.proofs.lemmas.List.Elements.{All-cons, All-map, All-filter, All-replicate, All-nil}
use Rattle.bale_items.specs.declared.Item.{Item}
use Rattle.bale_items.specs.declared.triple.Triple.{Triple}
use Rattle.bale_items.specs.Bits.{twos_complement}
use Rattle.list_laws.proofs.Lists.{all_head, all_tail}
use Rattle.mtx_text.specs.Sparse.{Sparse, IsSparse}
use Rattle.round_program.specs.Canonical.{items_of, HasRounds, EndsWithin, InRound}
use Rattle.round_program.specs.Orders.{absorb_each}
use Rattle.sparse_rows.specs.Owners.{Numbered, with_numbers, entry_owner, column_owner, own_entries, places_for}
use Rattle.app_histo_ig.specs.Owners.{with_sum_risen}
use Rattle.app_histo_ig.specs.Igs.{IgState, IsIg, IsIgQuery, ig_rules, may_ig, value_item, query_item, to_ask, ig_replies_from, noted_query, answered_entry}
use Rattle.app_histo_ig.specs.IgRuns.{ig_begins, ig_starts}
use Rattle.sparse_rows.proofs.EveryEntry.{came_to}
use Rattle.app_histo_ig.proofs.ColumnSums.{risen_all}
use Rattle.sparse_rows.proofs.Starts.{made_in_round, all_numbered}

-- the sum of a column as a word
abbrev pub column_bits : List Triple → ℕ → ℕ
column_bits ts j = sum_by (λ (t : Triple). cond (t.j == j) (twos_complement t.v) 0) ts % 2 ^ 64

-- ---- What comes in each round

abbrev pub values : ℕ → Sparse → ℕ → List (ℕ × Item)
values ranks m r = came_to (entry_owner ranks) (column_owner ranks) value_item r (with_numbers m.entries)

abbrev pub ask_item : Numbered → Item
ask_item e = query_item e.0 e.1.j

abbrev pub queries : ℕ → Sparse → ℕ → List (ℕ × Item)
queries ranks m r = came_to (entry_owner ranks) (column_owner ranks) ask_item r (with_numbers m.entries)

abbrev pub answer_item : List Triple → Numbered → Item
answer_item ts e = record { a = e.0; b = column_bits ts e.1.j; c = 0 }

abbrev pub replies : ℕ → Sparse → ℕ → List (ℕ × Item)
replies ranks m r = came_to (column_owner ranks) (entry_owner ranks) (answer_item m.entries) r (with_numbers m.entries)

-- ---- The states between the rounds

abbrev pub noted_all : List (List Item) → List (ℕ × Item) → List (List Item)
noted_all qs came = fold (λ q e. noted_query q e.0 e.1) qs came

abbrev pub answered_all : ℕ → List ℕ → List (ℕ × Item) → List ℕ
answered_all ranks ns came = fold (λ a e. answered_entry ranks a e.1) ns came

abbrev pub sums_of : ℕ → Sparse → ℕ → List ℕ
sums_of ranks m r = risen_all ranks (replicate (places_for ranks m.cols) 0) (values ranks m r)

-- lists by sender
abbrev pub by_sender : ℕ → List (ℕ × Item) → List (List Item)
by_sender n came = map (λ f. items_of f came) (range_with_len 0 n)

abbrev pub asking : ℕ → Sparse → ℕ → IgState
asking ranks m r = record (ig_begins ranks m r) { round = 1; sums = sums_of ranks m r; outgoing = map (to_ask ranks) (ig_begins ranks m r).own }

abbrev pub replying : ℕ → Sparse → ℕ → IgState
replying ranks m r =
    record (ig_begins ranks m r) {
      round = 2;
      sums = sums_of ranks m r;
      queries = by_sender ranks (queries ranks m r);
      outgoing = ig_replies_from ranks (sums_of ranks m r) 0 (by_sender ranks (queries ranks m r));
    }

abbrev pub answers_of : ℕ → Sparse → ℕ → List ℕ
answers_of ranks m r = answered_all ranks (ig_begins ranks m r).answers (replies ranks m r)

abbrev pub over : ℕ → Sparse → ℕ → IgState
over ranks m r =
    record (ig_begins ranks m r) {
      round = 3;
      sums = sums_of ranks m r;
      queries = by_sender ranks (queries ranks m r);
      outgoing = [];
      answers = answers_of ranks m r;
    }

-- ---- What a round's absorbs change

pub each_risen : (s : IgState) (es : List (ℕ × Item)) → absorb_each ig_rules (record s { round = 0 }) es ≡ record s { round = 0; sums = risen_all s.ranks s.sums es }
each_risen s [] = refl
each_risen s (e ∷ es) = each_risen (record s { sums = with_sum_risen s.ranks s.sums e.1 }) es

pub each_noted : (s : IgState) (es : List (ℕ × Item)) → absorb_each ig_rules (record s { round = 1 }) es ≡ record s { round = 1; queries = noted_all s.queries es }
each_noted s [] = refl
each_noted s (e ∷ es) = each_noted (record s { queries = noted_query s.queries e.0 e.1 }) es

pub each_answered : (s : IgState) (es : List (ℕ × Item)) → absorb_each ig_rules (record s { round = 2 }) es ≡ record s { round = 2; answers = answered_all s.ranks s.answers es }
each_answered s [] = refl
each_answered s (e ∷ es) = each_answered (record s { answers = answered_entry s.ranks s.answers e.1 }) es

-- ---- The start

begins_own : (ranks : ℕ) (m : Sparse) (r : ℕ) → IsSparse m → All (λ e. (e.0 < 2 ^ 64) × (e.1 < m.cols)) (ig_begins ranks m r).own
begins_own ranks m r is =
    All-map (λ e. (e.0 < 2 ^ 64) × (e.1 < m.cols)) (λ (e : Numbered). (e.0, e.1.j)) (own_entries ranks r m.entries)
    (All-filter (λ (e : Numbered). e.0 % ranks == r) (λ (e : Numbered). (e.0 < 2 ^ 64) × (e.1.j < m.cols)) (with_numbers m.entries)
    (numbered_inside m.cols 0 m.entries (let few : length m.entries ≤ 524288 = is.few in omega arith) (λ k d l. (is.inside k d l).col)))
  where
    numbered_inside : (cols n : ℕ) (ts : List Triple) → n + length ts < 2 ^ 64 → All (λ (t : Triple). t.j < cols) ts → All (λ (e : Numbered). (e.0 < 2 ^ 64) × (e.1.j < cols)) (enumerate_from n ts)
    numbered_inside cols n [] low h = All-nil (λ (e : Numbered). (e.0 < 2 ^ 64) × (e.1.j < cols))
    numbered_inside cols n (t ∷ ts) low h =
        All-cons (λ (e : Numbered). (e.0 < 2 ^ 64) × (e.1.j < cols)) (n, t) (enumerate_from (n + 1) ts)
        (omega arith, all_head (λ (x : Triple). x.j < cols) t ts h)
        (numbered_inside cols (n + 1) ts (omega arith) (all_tail (λ (x : Triple). x.j < cols) t ts h))

-- a value's word
word_of : (v : ℤ) → nat_abs v ≤ 1_000_000_000_000 → twos_complement v < 2 ^ 64
word_of (pos n) h = omega arith
word_of (negsuc n) h = omega arith

begins_fit : (ranks : ℕ) (m : Sparse) (r : ℕ) → r < ranks → IsSparse m → All (λ e. may_ig (m.cols ∷ []) ranks 0 e.0 r e.1 ≡ true) (ig_begins ranks m r).outgoing
begins_fit ranks m r low is =
    All-map (λ e. may_ig (m.cols ∷ []) ranks 0 e.0 r e.1 ≡ true) (λ (e : Numbered). (column_owner ranks e, value_item e)) (own_entries ranks r m.entries)
    (All-filter (λ (e : Numbered). e.0 % ranks == r) (λ (e : Numbered). may_ig (m.cols ∷ []) ranks 0 (column_owner ranks e) r (value_item e) ≡ true) (with_numbers m.entries)
    (all_numbered (λ (t : Triple). may_ig (m.cols ∷ []) ranks 0 (t.j % ranks) r (record { a = t.j; b = twos_complement t.v; c = 0 }) ≡ true) 0 m.entries
    (λ k d l. fits_here m.cols ranks r (get_or m.entries k d) low is.wide (is.inside k d l).col (word_of (get_or m.entries k d).v (is.inside k d l).limit))))
  where
    fits_here : (cols ranks r : ℕ) (t : Triple) → r < ranks → cols ≤ 16384 → t.j < cols → twos_complement t.v < 2 ^ 64
        → may_ig (cols ∷ []) ranks 0 (t.j % ranks) r (record { a = t.j; b = twos_complement t.v; c = 0 }) ≡ true
    fits_here cols ranks r t low wide inside word = grind (arith, nat_tests)

pub begins_valid : (ranks : ℕ) (m : Sparse) (r : ℕ) → r < ranks → IsSparse m → IsIg (ig_begins ranks m r)
begins_valid ranks m r low is =
    let wide : m.cols ≤ 16384 = is.wide in
    record {
      own_rank = low;
      wide = omega arith;
      named = begins_own ranks m r is;
      words = All-replicate (λ v. v < 2 ^ 64) (places_for ranks m.cols) 0 (lit< tt);
      places = length-replicate (places_for ranks m.cols) 0;
      senders = length-replicate ranks [];
      asked = All-replicate (All (IsIgQuery m.cols)) ranks [] (All-nil (IsIgQuery m.cols));
      fit = begins_fit ranks m r low is;
    }

pub starts_in_round : (ranks : ℕ) (m : Sparse) → IsSparse m → InRound ig_rules ranks 0 (m.cols ∷ []) 3 (ig_starts ranks m)
starts_in_round ranks m is =
    made_in_round ig_rules (ig_begins ranks m) ranks 0 (m.cols ∷ []) 3
    (λ r low. record { valid = begins_valid ranks m r low is; own_rank = refl; all_ranks = refl; same_round = refl; same_shape = refl; same_most = refl })

-- a rank as ig begins, from its fields
pub begins_is : (ranks : ℕ) (m : Sparse) (r cols : ℕ) (own : List (ℕ × ℕ)) (sums : List ℕ) (qs : List (List Item)) (outgoing : List (ℕ × Item)) (answers : List ℕ)
    → cols ≡ m.cols → own ≡ (ig_begins ranks m r).own → sums ≡ (ig_begins ranks m r).sums → qs ≡ (ig_begins ranks m r).queries → outgoing ≡ (ig_begins ranks m r).outgoing → answers ≡ (ig_begins ranks m r).answers
    → record { rank = r; ranks = ranks; round = 0; cols = cols; own = own; sums = sums; queries = qs; outgoing = outgoing; answers = answers } ≡ ig_begins ranks m r
begins_is ranks m r cols own sums qs outgoing answers a b c d e f =
    let s : IgState = ig_begins ranks m r in
    ap (λ w. record s { cols = w; own = own; sums = sums; queries = qs; outgoing = outgoing; answers = answers }) a
    ∙ ap (λ w. record s { own = w; sums = sums; queries = qs; outgoing = outgoing; answers = answers }) b
    ∙ ap (λ w. record s { sums = w; queries = qs; outgoing = outgoing; answers = answers }) c
    ∙ ap (λ w. record s { queries = w; outgoing = outgoing; answers = answers }) d
    ∙ ap (λ w. record s { outgoing = w; answers = answers }) e
    ∙ ap (λ w. record s { answers = w }) f

-- three rounds
pub three_rounds : (starts : List IgState) → HasRounds ig_rules starts 3
three_rounds starts = record { some = lit< tt; goes = λ m l. grind (arith, nat_tests); stops = refl }

pub within_three : (starts : List IgState) → EndsWithin ig_rules starts 3
within_three starts = record { rounds = 3; has_rounds = three_rounds starts; at_most = omega arith }
