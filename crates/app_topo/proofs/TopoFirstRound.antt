-- The first round of topo takes the ranks from the entries to the claims of level 0.
use Rattle.std.proofs.Common.{ℕ, suc, ◌+◌, ◌*◌, ◌/◌, ◌%◌, ◌<◌, ◌≤◌, ◌≡◌, ◌==◌, ◌&&◌, Bool, true, false, cond, eqb, List, [], ◌∷◌, Some, map, get_or, slice_get, replicate, sum_by, All, arith, inl, inr, refl, sym, ap, ◌∙◌, subst}
use Rattle.std.specs.List.{AllPairs, fold, flat_map, range_with_len, enumerate_from}
use Rattle.std.proofs.Math.Nat.{mod-lt}
use Rattle.std.proofs.lemmas.Bool.{cases_Bool, eq-eqb, eqb-true}
use Rattle.std.proofs.lemmas.Nat.{mod-mul-add, div-add-mod', mul-le}
use Rattle.std.proofs.lemmas.List.{get_or-replicate, length-replicate}
use Rattle.std.proofs.lemmas.List.Elements.{All-head, All-tail, All-nil, All-cons, All-map, All-filter, filter_passes}
use Rattle.std.proofs.lemmas.List.FromFn.{length-map-range_with_len, get_or-map-range_with_len, fill_by_all}
use Rattle.std.proofs.lemmas.List.Sums.{sum_by-cons}
use Rattle.bale_items.specs.declared.Item.{Item}
use Rattle.bale_items.specs.declared.triple.Triple.{Triple}
use Rattle.list_laws.proofs.Lists.{get_once}
use Rattle.mtx_text.specs.Sparse.{Sparse, IsSparse}
use Rattle.mtx_text.specs.Cells.{with_value_raised, raised_all}
use Rattle.round_program.specs.Canonical.{absorbed_round, after_whole_round}
use Rattle.round_program.specs.Orders.{absorb_each}
use Rattle.sparse_rows.specs.Deals.{dealt}
use Rattle.sparse_rows.specs.Owners.{Numbered, with_numbers, entry_owner, places_for}
use Rattle.sparse_rows.proofs.EveryEntry.{came_to, every_owned}
use Rattle.sparse_rows.proofs.Gathering.{row_of, pairs_map, gathered_dealt}
use Rattle.sparse_rows.proofs.Places.{place_below}
use Rattle.sparse_rows.proofs.Starts.{made_at, made_from, round_made}
use Rattle.app_topo.specs.Levels.{is_open}
use Rattle.app_topo.specs.Topos.{TopoState, topo_rules, spot, after_entry, claimed_by, after_fall, own_rows, topo_next_outgoing}
use Rattle.app_topo.specs.laws.TopoLaws.{topo_laws, in_first}
use Rattle.app_topo.specs.TopoRuns.{for_row, for_column, first_sent, topo_begins, topo_starts}
use Rattle.app_topo.proofs.Counting.{counted}
use Rattle.app_topo.proofs.TopoStart.{starts_in_round}
use Rattle.app_topo.proofs.TopoTables.{table, added_all, share, IsFor, added_total, came_share}
use Rattle.app_topo.proofs.TopoStates.{claims, by_column, open_number, open_sum, claiming}
use Rattle.app_topo.proofs.TopoClaims.{one_each, flat_mapped}
use Rattle.app_topo.proofs.TopoClaimRound.{all_claiming}
use Rattle.app_topo.proofs.TopoFalls.{open_small, number_small, flip_differ}
use Rattle.app_topo.proofs.TopoReady.{Less, comes, claims_next, range_up}

-- ---- What is sent, as one list

-- an entry for the owner of its row, or of its column
abbrev Sent : Type 0
Sent = Numbered × Bool

abbrev both_of : Numbered → List Sent
both_of e = (e, true) ∷ (e, false) ∷ []

abbrev sent_list : List Numbered → List Sent
sent_list es = flat_map both_of es

abbrev sent_from : ℕ → Sent → ℕ
sent_from ranks w = entry_owner ranks w.0

abbrev sent_item : Sent → Item
sent_item w = cond w.1 (for_row w.0) (for_column w.0)

dealt_both : (ranks f : ℕ) (es : List Numbered) → dealt (sent_from ranks) f (sent_list es) ≡ sent_list (dealt (entry_owner ranks) f es)
dealt_both ranks f [] = refl
dealt_both ranks f (e ∷ es) =
    let mine : List Sent = dealt (sent_from ranks) f (sent_list es) in
    let own : List Numbered = dealt (entry_owner ranks) f es in
    elim (cases_Bool (eqb (entry_owner ranks e) f)) [
      | inl t ↦
          ap (λ b. cond b ((e, true) ∷ cond b ((e, false) ∷ mine) mine) (cond b ((e, false) ∷ mine) mine)) t
          ∙ ap (λ ws. (e, true) ∷ (e, false) ∷ ws) (dealt_both ranks f es)
          ∙ ap (λ b. sent_list (cond b (e ∷ own) own)) (sym t)
      | inr u ↦
          ap (λ b. cond b ((e, true) ∷ cond b ((e, false) ∷ mine) mine) (cond b ((e, false) ∷ mine) mine)) u
          ∙ dealt_both ranks f es
          ∙ ap (λ b. sent_list (cond b (e ∷ own) own)) (sym u)
    ]

emitted_both : (ranks f : ℕ) (es : List Numbered) → flat_map (first_sent ranks) (dealt (entry_owner ranks) f es) ≡ map (λ w. ((sent_item w).a % ranks, sent_item w)) (dealt (sent_from ranks) f (sent_list es))
emitted_both ranks f es =
    flat_mapped (λ w. ((sent_item w).a % ranks, sent_item w)) both_of (dealt (entry_owner ranks) f es)
    ∙ ap (map (λ w. ((sent_item w).a % ranks, sent_item w))) (sym (dealt_both ranks f es))

-- ---- What the absorbs leave

abbrev entered_all : TopoState → List (ℕ × Item) → TopoState
entered_all s came = fold (λ u e. after_entry u e.1) s came

each_entered : (s : TopoState) (came : List (ℕ × Item)) → s.round ≡ 0 → absorb_each topo_rules s came ≡ entered_all s came
each_entered s [] z = refl
each_entered s (e ∷ es) z = ap (λ u. absorb_each topo_rules u es) (in_first s (after_entry s e.1) (claimed_by s e.1) (after_fall s e.1) z) ∙ each_entered (after_entry s e.1) es z

abbrev is_row : Item → Bool
is_row x = x.c == 0

abbrev its_column : Item → ℕ
its_column x = x.b

abbrev columns_all : List Triple → List (ℕ × Item) → List Triple
columns_all cells came = fold (λ cs e. cond (e.1.c == 0) cs (with_value_raised (spot e.1.a e.1.b) cs)) cells came

entered_parts : (s : TopoState) (came : List (ℕ × Item))
    → entered_all s came ≡ record s { numbers = added_all s.ranks is_row one_each s.numbers came; sums = added_all s.ranks is_row its_column s.sums came; came = columns_all s.came came }
entered_parts s [] = refl
entered_parts s (e ∷ es) = entered_parts (after_entry s e.1) es

abbrev come_first : ℕ → Sparse → ℕ → List (ℕ × Item)
come_first ranks m r = came_to (sent_from ranks) (λ w. (sent_item w).a % ranks) sent_item r (sent_list (with_numbers m.entries))

-- the columns' entries
columns_come : (ranks r n : ℕ) (es : List Triple) (cells : List Triple)
    → columns_all cells (came_to (sent_from ranks) (λ w. (sent_item w).a % ranks) sent_item r (sent_list (enumerate_from n es))) ≡ raised_all cells (dealt (row_of ranks) r (map (λ t. spot t.j t.i) es))
columns_come ranks r n [] cells = refl
columns_come ranks r n (t ∷ ts) cells =
    let came : List Sent → List (ℕ × Item) = λ ws. map (λ w. (sent_from ranks w, sent_item w)) ws in
    let e : Numbered = (n, t) in
    let mine : List Sent = dealt (λ w. (sent_item w).a % ranks) r (sent_list (enumerate_from (n + 1) ts)) in
    let own : List Triple = dealt (row_of ranks) r (map (λ t. spot t.j t.i) ts) in
    let skip : (b : Bool) (ws : List Sent) → columns_all cells (came (cond b ((e, true) ∷ ws) ws)) ≡ columns_all cells (came ws) = skipped cells e in
    skip (eqb (t.i % ranks) r) (cond (eqb (t.j % ranks) r) ((e, false) ∷ mine) mine)
    ∙ (elim (cases_Bool (eqb (t.j % ranks) r)) [
      | inl here ↦
          ap (λ b. columns_all cells (came (cond b ((e, false) ∷ mine) mine))) here
          ∙ columns_come ranks r (n + 1) ts (with_value_raised (spot t.j t.i) cells)
          ∙ ap (λ b. raised_all cells (cond b (spot t.j t.i ∷ own) own)) (sym here)
      | inr away ↦
          ap (λ b. columns_all cells (came (cond b ((e, false) ∷ mine) mine))) away
          ∙ columns_come ranks r (n + 1) ts cells
          ∙ ap (λ b. raised_all cells (cond b (spot t.j t.i ∷ own) own)) (sym away)
    ])
  where
    skipped : (cells : List Triple) (e : Numbered) (b : Bool) (ws : List Sent) → columns_all cells (map (λ w. (sent_from ranks w, sent_item w)) (cond b ((e, true) ∷ ws) ws)) ≡ columns_all cells (map (λ w. (sent_from ranks w, sent_item w)) ws)
    skipped cells e true ws = refl
    skipped cells e false ws = refl

-- what a row's items add up to
rows_come : (i n : ℕ) (amount : Item → ℕ) (ranks : ℕ) (es : List Triple)
    → sum_by (λ w. share is_row amount i (sent_from ranks w, sent_item w)) (sent_list (enumerate_from n es)) ≡ sum_by (λ (t : Triple). cond (is_open [] i t) (amount (record { a = t.i; b = t.j; c = 0 })) 0) es
rows_come i n amount ranks [] = refl
rows_come i n amount ranks (t ∷ ts) =
    let e : Numbered = (n, t) in
    let f : Sent → ℕ = λ w. share is_row amount i (sent_from ranks w, sent_item w) in
    let v : ℕ = amount (record { a = t.i; b = t.j; c = 0 }) in
    let rest : sum_by f (sent_list (enumerate_from (n + 1) ts)) ≡ sum_by (λ (t : Triple). cond (is_open [] i t) (amount (record { a = t.i; b = t.j; c = 0 })) 0) ts = rows_come i (n + 1) amount ranks ts in
    let one : sum_by f ((e, true) ∷ (e, false) ∷ sent_list (enumerate_from (n + 1) ts)) ≡ f (e, true) + sum_by f ((e, false) ∷ sent_list (enumerate_from (n + 1) ts)) = sum_by-cons f (e, true) ((e, false) ∷ sent_list (enumerate_from (n + 1) ts)) in
    let two : sum_by f ((e, false) ∷ sent_list (enumerate_from (n + 1) ts)) ≡ f (e, false) + sum_by f (sent_list (enumerate_from (n + 1) ts)) = sum_by-cons f (e, false) (sent_list (enumerate_from (n + 1) ts)) in
    let s : sum_by (λ (t : Triple). cond (is_open [] i t) (amount (record { a = t.i; b = t.j; c = 0 })) 0) (t ∷ ts) ≡ cond {A = ℕ} (is_open [] i t) v 0 + sum_by (λ (t : Triple). cond (is_open [] i t) (amount (record { a = t.i; b = t.j; c = 0 })) 0) ts =
    sum_by-cons (λ (t : Triple). cond (is_open [] i t) (amount (record { a = t.i; b = t.j; c = 0 })) 0) t ts in
    let row : f (e, true) ≡ cond {A = ℕ} (is_open [] i t) v 0 = and_true (eqb t.i i) v in
    let column : f (e, false) ≡ 0 = refl in
    omega (arith, one, two, s, row, column, rest)
  where
    and_true : (b : Bool) (v : ℕ) → cond {A = ℕ} b v 0 ≡ cond {A = ℕ} (b && 0 == 0) v 0
    and_true true v = refl
    and_true false v = refl

first_own : (ranks : ℕ) (m : Sparse) (r : ℕ) → m.rows ≡ m.cols → IsSparse m → All (IsFor ranks r m.rows) (come_first ranks m r)
first_own ranks m r square is =
    All-map (IsFor ranks r m.rows) (λ w. (sent_from ranks w, sent_item w)) (dealt (λ w. (sent_item w).a % ranks) r (sent_list (with_numbers m.entries))) (λ k d l. (
      eqb-true _ r (filter_passes (λ w. eqb ((sent_item w).a % ranks) r) (sent_list (with_numbers m.entries)) k d l),
      All-filter (λ w. eqb ((sent_item w).a % ranks) r) (λ w. (sent_item w).a < m.rows) (sent_list (with_numbers m.entries))
          (low m.rows 0 m.entries (λ k d l. ((is.inside k d l).row, subst (λ n. (get_or m.entries k d).j < n) (sym square) (is.inside k d l).col))) k d l,
    ))
  where
    low : (size n : ℕ) (es : List Triple) → All (λ (t : Triple). (t.i < size) × (t.j < size)) es → All (λ w. (sent_item w).a < size) (sent_list (enumerate_from n es))
    low size n [] h = All-nil (λ w. (sent_item w).a < size)
    low size n (t ∷ ts) h =
        let p = All-head (λ (t : Triple). (t.i < size) × (t.j < size)) t ts h in
        All-cons (λ w. (sent_item w).a < size) ((n, t), true) (((n, t), false) ∷ sent_list (enumerate_from (n + 1) ts)) p.0
        (All-cons (λ w. (sent_item w).a < size) ((n, t), false) (sent_list (enumerate_from (n + 1) ts)) p.1 (low size (n + 1) ts (All-tail (λ (t : Triple). (t.i < size) × (t.j < size)) t ts h)))

-- lists of 0 as tables
zeros_are : (ranks r n : ℕ) → replicate (places_for ranks n) 0 ≡ table ranks r n (λ i. 0)
zeros_are ranks r n = fill_by_all (λ k. 0) (replicate (places_for ranks n) 0) (places_for ranks n) 0 (length-replicate (places_for ranks n) 0) (λ k l. get_or-replicate (places_for ranks n) k 0 0 l)

first_numbers : (ranks : ℕ) (m : Sparse) (r : ℕ) → r < ranks → m.rows ≡ m.cols → IsSparse m
    → added_all ranks is_row one_each (replicate (places_for ranks m.rows) 0) (come_first ranks m r) ≡ table ranks r m.rows (open_number m (claims m 0))
first_numbers ranks m r low square is =
    ap (λ ns. added_all ranks is_row one_each ns (come_first ranks m r)) (zeros_are ranks r m.rows)
    ∙ added_total ranks r m.rows is_row one_each (λ i. 0) (open_number m (claims m 0)) (come_first ranks m r) low (first_own ranks m r square is) (λ i own. omega arith) (λ i own.
    let sum : sum_by (share is_row one_each i) (come_first ranks m r) ≡ open_number m [] i = came_share (sent_from ranks) sent_item is_row one_each ranks i r (sent_list (with_numbers m.entries)) own ∙ rows_come i 0 one_each ranks m.entries in
    omega (arith, sum, number_small m [] i is))

first_sums : (ranks : ℕ) (m : Sparse) (r : ℕ) → r < ranks → m.rows ≡ m.cols → IsSparse m
    → added_all ranks is_row its_column (replicate (places_for ranks m.rows) 0) (come_first ranks m r) ≡ table ranks r m.rows (open_sum m (claims m 0))
first_sums ranks m r low square is =
    ap (λ ns. added_all ranks is_row its_column ns (come_first ranks m r)) (zeros_are ranks r m.rows)
    ∙ added_total ranks r m.rows is_row its_column (λ i. 0) (open_sum m (claims m 0)) (come_first ranks m r) low (first_own ranks m r square is) (λ i own. omega arith) (λ i own.
    let sum : sum_by (share is_row its_column i) (come_first ranks m r) ≡ open_sum m [] i = came_share (sent_from ranks) sent_item is_row its_column ranks i r (sent_list (with_numbers m.entries)) own ∙ rows_come i 0 its_column ranks m.entries in
    omega (arith, sum, open_small m [] i is))

first_columns : (ranks : ℕ) (m : Sparse) (r : ℕ) → IsSparse m → columns_all [] (come_first ranks m r) ≡ dealt (row_of ranks) r (by_column m)
first_columns ranks m r is = columns_come ranks r 0 m.entries [] ∙ gathered_dealt ranks r (map (λ t. spot t.j t.i) m.entries) (flip_differ m is)

-- ---- The own rows

rows_up : (ranks r n : ℕ) → 0 < ranks → AllPairs Less (own_rows ranks r n)
rows_up ranks r n some =
    pairs_map (λ k. k ≡ k) Less Less (λ k. k * ranks + r) (range_with_len 0 (places_for ranks n)) (λ k l a b up.
    let step : suc k * ranks ≤ l * ranks = mul-le (suc k) ranks l ranks up (omega arith) in
    let more : suc k * ranks ≡ k * ranks + ranks = grind arith in
    omega arith) (λ k d l. refl) (range_up 0 (places_for ranks n))

rows_own : (ranks r n : ℕ) → r < ranks → All (λ i. i % ranks ≡ r) (own_rows ranks r n)
rows_own ranks r n low = All-map (λ i. i % ranks ≡ r) (λ k. k * ranks + r) (range_with_len 0 (places_for ranks n)) (λ k d l. mod-mul-add _ ranks r low)

rows_all : (ranks r n i : ℕ) → 0 < ranks → i % ranks ≡ r → i < n → 0 < comes i (own_rows ranks r n)
rows_all ranks r n i some own low =
    let place : i / ranks < places_for ranks n = place_below ranks n i some low in
    let at_it : get_or (own_rows ranks r n) (i / ranks) i ≡ i = get_or-map-range_with_len (λ k. k * ranks + r) 0 (places_for ranks n) (i / ranks) (i / ranks) i place (omega arith) ∙ ap (λ k. i / ranks * ranks + k) (sym own) ∙ div-add-mod' i ranks in
    counted (λ y. eqb y i) (own_rows ranks r n) i (i / ranks, subst (λ k. i / ranks < k) (sym (length-map-range_with_len (λ k. k * ranks + r) 0 (places_for ranks n))) place, at_it) (eq-eqb i i refl)

-- ---- The round

abbrev after_first : ℕ → Sparse → ℕ → TopoState
after_first ranks m r = record (topo_begins ranks m r) { numbers = table ranks r m.rows (open_number m (claims m 0)); sums = table ranks r m.rows (open_sum m (claims m 0)); came = dealt (row_of ranks) r (by_column m) }

first_are : (ranks : ℕ) (m : Sparse) (r : ℕ) → r < ranks → m.rows ≡ m.cols → IsSparse m → entered_all (topo_begins ranks m r) (come_first ranks m r) ≡ after_first ranks m r
first_are ranks m r low square is =
    let s : TopoState = topo_begins ranks m r in
    let came : List (ℕ × Item) = come_first ranks m r in
    entered_parts s came
    ∙ ap (λ w. record s { numbers = w; sums = added_all ranks is_row its_column s.sums came; came = columns_all [] came }) (first_numbers ranks m r low square is)
    ∙ ap (λ w. record s { numbers = table ranks r m.rows (open_number m (claims m 0)); sums = w; came = columns_all [] came }) (first_sums ranks m r low square is)
    ∙ ap (λ w. record s { numbers = table ranks r m.rows (open_number m (claims m 0)); sums = table ranks r m.rows (open_sum m (claims m 0)); came = w }) (first_columns ranks m r is)

ends_first : (ranks : ℕ) (m : Sparse) (r votes : ℕ) → 0 < ranks → r < ranks → m.rows ≡ m.cols → IsSparse m → topo_rules.ended (after_first ranks m r) votes ≡ claiming ranks m 0 r
ends_first ranks m r votes some low square is =
    let u : TopoState = after_first ranks m r in
    let outgoing : topo_next_outgoing u ≡ (claiming ranks m 0 r).outgoing =
    claims_next ranks m 0 r (own_rows ranks r m.rows) some square is (rows_up ranks r m.rows some) (rows_own ranks r m.rows low) (λ i own inside one. rows_all ranks r m.rows i some own inside) in
    ap (λ w. record (topo_rules.ended u votes) { outgoing = w }) outgoing
    ∙ ap (λ w. record (claiming ranks m 0 r) { counts = w }) (zeros_are ranks r m.rows)

pub first_round : (ranks : ℕ) (m : Sparse) → 0 < ranks → m.rows ≡ m.cols → IsSparse m → after_whole_round topo_rules (topo_starts ranks m) ≡ all_claiming ranks m 0
first_round ranks m some square is =
    round_made topo_rules ranks (topo_begins ranks m) (claiming ranks m 0) (λ r votes low u at.
    let absorbed : slice_get (absorbed_round topo_rules (topo_starts ranks m)) r ≡ Some (absorb_each topo_rules (topo_begins ranks m r) (come_first ranks m r)) =
    every_owned topo_rules topo_laws ranks 0 (m.rows ∷ []) (2 * m.rows + 2) (topo_starts ranks m) (sent_from ranks) (λ w. (sent_item w).a % ranks) sent_item (sent_list (with_numbers m.entries))
    (starts_in_round ranks m square is) (λ k d l. mod-lt _ some)
    (λ f v here. ap topo_rules.emissions (sym (made_from (topo_begins ranks m) ranks f v here).1) ∙ emitted_both ranks f (with_numbers m.entries))
    r (topo_begins ranks m r) (made_at (topo_begins ranks m) ranks r low) in
    ap (λ w. topo_rules.ended w votes)
    (get_once (absorbed_round topo_rules (topo_starts ranks m)) r u _ at absorbed ∙ each_entered (topo_begins ranks m r) (come_first ranks m r) refl ∙ first_are ranks m r low square is)
    ∙ ends_first ranks m r votes some low square is)
