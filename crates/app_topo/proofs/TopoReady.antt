-- The rows that claim next: those whose number fell to 1 are the ready ones.
use Rattle.std.proofs.Common.{ℕ, zero, suc, ◌+◌, ◌%◌, ◌<◌, ◌≤◌, ◌≡◌, ◌==◌, ◌&&◌, Bool, true, cond, eqb, List, [], ◌∷◌, map, length, get_or, take, count_by, All, arith, inl, inr, refl, sym, ap, ◌∙◌, subst}
use Rattle.std.specs.Prelude.{nat_lt}
use Rattle.std.specs.List.{AllPairs, filter, range_with_len}
use Rattle.std.proofs.lemmas.Bool.{cases_Bool, cases_eq, cases_lt, eq-eqb, ne_eqb, eqb-true, lt-ltb, ltb-true, and_from, and_parts}
use Rattle.std.proofs.lemmas.List.Elements.{All-head, All-tail, All-nil, All-cons, All-filter, All-contains, filter_passes}
use Rattle.std.proofs.lemmas.List.FromFn.{length-range_with_len, get_or-range_with_len}
use Rattle.std.proofs.lemmas.Simd.{map-map}
use Rattle.mtx_text.specs.Sparse.{Sparse, IsSparse}
use Rattle.mtx_text.proofs.PlaceOrder.{pairs_head, pairs_tail}
use Rattle.sparse_rows.specs.Deals.{dealt}
use Rattle.sparse_rows.proofs.Doubles.{one_if}
use Rattle.sparse_rows.proofs.EveryEntry.{same_map}
use Rattle.sparse_rows.proofs.Gathering.{pairs_filter, dealt_map}
use Rattle.app_topo.specs.Levels.{Claim, row_claims, col_claims, is_open, is_ready, claimed_column}
use Rattle.app_topo.specs.Topos.{number_at, claims_of, claims_now, to_claim}
use Rattle.app_topo.proofs.Counting.{count_cons, found_by, counted, a_place}
use Rattle.app_topo.proofs.LevelFacts.{IsReady, IsOpen, ready_parts, ready_from, open_parts, sum_claimed, in_turn}
use Rattle.app_topo.proofs.TopoTables.{table, table_at}
use Rattle.app_topo.proofs.TopoStates.{claims, next, open_number, open_sum, claim_row, claim_column, claim_item}
use Rattle.app_topo.proofs.TopoClaims.{next_inside}

-- ---- Rising lists with the same members are one

abbrev pub Less : ℕ → ℕ → Type 0
Less a b = a < b

abbrev pub comes : ℕ → List ℕ → ℕ
comes i xs = count_by (λ x. x == i) xs

head_comes : (x : ℕ) (xs : List ℕ) → 0 < comes x (x ∷ xs)
head_comes x xs = (let s : comes x (x ∷ xs) ≡ one_if (eqb x x) + comes x xs = count_cons (λ y. eqb y x) x xs in let one : one_if (eqb x x) ≡ 1 = ap one_if (eq-eqb x x refl) in omega arith)

below_all : (x i : ℕ) (xs : List ℕ) → All (λ y. x < y) xs → i ≤ x → comes i xs ≡ 0
below_all x i [] h l = refl
below_all x i (y ∷ ys) h l =
    let up : x < y = All-head (λ y. x < y) y ys h in
    let s : comes i (y ∷ ys) ≡ one_if (eqb y i) + comes i ys = count_cons (λ z. eqb z i) y ys in
    let z : one_if (eqb y i) ≡ 0 = ap one_if (ne_eqb y i (λ e. absurd (omega arith))) in
    omega (arith, s, z, below_all x i ys (All-tail (λ y. x < y) y ys h) l)

pub rising_same : (xs ys : List ℕ) → AllPairs Less xs → AllPairs Less ys → ((i : ℕ) → 0 < comes i xs → 0 < comes i ys) → ((i : ℕ) → 0 < comes i ys → 0 < comes i xs) → xs ≡ ys
rising_same [] [] a b f g = refl
rising_same [] (y ∷ ys) a b f g = absurd (omega (arith, g y (head_comes y ys)))
rising_same (x ∷ xs) [] a b f g = absurd (omega (arith, f x (head_comes x xs)))
rising_same (x ∷ xs) (y ∷ ys) a b f g =
    let xs_up : All (λ z. x < z) xs = pairs_head Less x xs a in
    let ys_up : All (λ z. y < z) ys = pairs_head Less y ys b in
    let in_xs : (i : ℕ) → comes i (x ∷ xs) ≡ one_if (eqb x i) + comes i xs = λ i. count_cons (λ z. eqb z i) x xs in
    let in_ys : (i : ℕ) → comes i (y ∷ ys) ≡ one_if (eqb y i) + comes i ys = λ i. count_cons (λ z. eqb z i) y ys in
    let same : x ≡ y =
    elim (cases_lt x y) [
      | inl less ↦
          let none : comes x ys ≡ 0 = below_all y x ys ys_up (omega arith) in
          let z : one_if (eqb y x) ≡ 0 = ap one_if (ne_eqb y x (λ e. absurd (omega arith))) in
          absurd (omega (arith, f x (head_comes x xs), in_ys x, none, z))
      | inr not_less ↦ elim (cases_lt y x) [
        | inl less ↦
            let none : comes y xs ≡ 0 = below_all x y xs xs_up (omega arith) in
            let z : one_if (eqb x y) ≡ 0 = ap one_if (ne_eqb x y (λ e. absurd (omega arith))) in
            absurd (omega (arith, g y (head_comes y ys), in_xs y, none, z))
        | inr also ↦ omega arith
      ]
    ] in
    let rest : xs ≡ ys =
    rising_same xs ys (pairs_tail Less x xs a) (pairs_tail Less y ys b)
    (λ i h. elim (cases_lt x i) [
      | inl up ↦
          let z : one_if (eqb y i) ≡ 0 = ap one_if (ne_eqb y i (λ e. absurd (omega arith))) in
          omega (arith, f i (omega (arith, in_xs i)), in_ys i, z)
      | inr low ↦ (let none : comes i xs ≡ 0 = below_all x i xs xs_up low in absurd (omega arith))
    ])
    (λ i h. elim (cases_lt y i) [
      | inl up ↦
          let z : one_if (eqb x i) ≡ 0 = ap one_if (ne_eqb x i (λ e. absurd (omega arith))) in
          omega (arith, g i (omega (arith, in_ys i)), in_xs i, z)
      | inr low ↦ (let none : comes i ys ≡ 0 = below_all y i ys ys_up low in absurd (omega arith))
    ]) in
    ap (λ z. z ∷ xs) same ∙ ap (λ zs. y ∷ zs) rest

-- ---- The own rows of a level

abbrev pub ready_rows : ℕ → Sparse → ℕ → ℕ → List ℕ
ready_rows ranks m t r = dealt (λ i. i % ranks) r (filter (is_ready m.entries (claims m t)) (range_with_len 0 m.rows))

own_next : (ranks : ℕ) (m : Sparse) (t r : ℕ) → dealt (claim_row ranks) r (next m t) ≡ map (λ i. (i, claimed_column m.entries (claims m t) i)) (ready_rows ranks m t r)
own_next ranks m t r = dealt_map (claim_row ranks) r (λ i. (i, claimed_column m.entries (claims m t) i)) (filter (is_ready m.entries (claims m t)) (range_with_len 0 m.rows))

pub range_up : (a n : ℕ) → AllPairs Less (range_with_len a n)
range_up a n i j d l low =
    let size : length (range_with_len a n) ≡ n = length-range_with_len a n in
    let x : get_or (range_with_len a n) i d ≡ a + i = get_or-range_with_len a n i d (omega arith) in
    let y : get_or (range_with_len a n) j d ≡ a + j = get_or-range_with_len a n j d (omega arith) in
    omega arith

ready_up : (ranks : ℕ) (m : Sparse) (t r : ℕ) → AllPairs Less (ready_rows ranks m t r)
ready_up ranks m t r =
    pairs_filter Less (λ i. eqb (i % ranks) r) (filter (is_ready m.entries (claims m t)) (range_with_len 0 m.rows)) (pairs_filter Less (is_ready m.entries (claims m t)) (range_with_len 0 m.rows) (range_up 0 m.rows))

-- a number that comes in a filter passes and comes in the list
in_filter : (p : ℕ → Bool) (i : ℕ) (xs : List ℕ) → 0 < comes i (filter p xs) → (p i ≡ true) × (0 < comes i xs)
in_filter p i xs h =
    let x = found_by (λ y. eqb y i) (filter p xs) h in
    let same : x.0 ≡ i = eqb-true x.0 i x.2 in
    let passes : p x.0 ≡ true = All-contains (λ y. p y ≡ true) (filter p xs) x.0 (filter_passes p xs) x.1 in
    (ap p (sym same) ∙ passes, filter_few p i xs h)
  where
    filter_few : (p : ℕ → Bool) (i : ℕ) (xs : List ℕ) → 0 < comes i (filter p xs) → 0 < comes i xs
    filter_few p i [] h = h
    filter_few p i (x ∷ xs) h =
        let s : comes i (x ∷ xs) ≡ one_if (eqb x i) + comes i xs = count_cons (λ y. eqb y i) x xs in
        elim (cases_Bool (p x)) [
          | inl t ↦
              let g : 0 < comes i (x ∷ filter p xs) = subst (λ b. 0 < comes i (cond b (x ∷ filter p xs) (filter p xs))) t h in
              let c : comes i (x ∷ filter p xs) ≡ one_if (eqb x i) + comes i (filter p xs) = count_cons (λ y. eqb y i) x (filter p xs) in
              elim (cases_lt 0 (comes i (filter p xs))) [
                | inl some ↦ omega (arith, filter_few p i xs some)
                | inr none ↦ omega arith
              ]
          | inr u ↦ (let g : 0 < comes i (filter p xs) = subst (λ b. 0 < comes i (cond b (x ∷ filter p xs) (filter p xs))) u h in omega (arith, filter_few p i xs g))
        ]

-- and one that passes and comes in the list comes in the filter
pub to_filter : (p : ℕ → Bool) (i : ℕ) (xs : List ℕ) → p i ≡ true → 0 < comes i xs → 0 < comes i (filter p xs)
to_filter p i [] t h = h
to_filter p i (x ∷ xs) t h =
    let s : comes i (x ∷ xs) ≡ one_if (eqb x i) + comes i xs = count_cons (λ y. eqb y i) x xs in
    elim (cases_eq x i) [
      | inl same ↦ subst (λ b. 0 < comes i (cond b (x ∷ filter p xs) (filter p xs))) (sym (ap p same ∙ t)) (subst (λ k. 0 < comes k (x ∷ filter p xs)) same (head_comes x (filter p xs)))
      | inr other ↦
          let z : one_if (eqb x i) ≡ 0 = ap one_if (ne_eqb x i other) in
          let rest : 0 < comes i (filter p xs) = to_filter p i xs t (omega arith) in
          elim (cases_Bool (p x)) [
            | inl u ↦
                let c : comes i (x ∷ filter p xs) ≡ one_if (eqb x i) + comes i (filter p xs) = count_cons (λ y. eqb y i) x (filter p xs) in
                subst (λ b. 0 < comes i (cond b (x ∷ filter p xs) (filter p xs))) (sym u) (omega arith)
            | inr u ↦ subst (λ b. 0 < comes i (cond b (x ∷ filter p xs) (filter p xs))) (sym u) rest
          ]
    ]

pub in_range : (n i : ℕ) → i < n → 0 < comes i (range_with_len 0 n)
in_range n i low = (let at_it : get_or (range_with_len 0 n) i i ≡ i = get_or-range_with_len 0 n i i low ∙ omega arith in
    counted (λ y. eqb y i) (range_with_len 0 n) i (i, omega (arith, length-range_with_len 0 n), at_it) (eq-eqb i i refl))

range_below : (n i : ℕ) → 0 < comes i (range_with_len 0 n) → i < n
range_below n i h =
    let k = a_place (λ y. eqb y i) (range_with_len 0 n) 0 h in
    let low : k.0 < n = subst (λ s. k.0 < s) (length-range_with_len 0 n) k.1 in
    let is : get_or (range_with_len 0 n) k.0 0 ≡ 0 + k.0 = get_or-range_with_len 0 n k.0 0 low in
    let same : get_or (range_with_len 0 n) k.0 0 ≡ i = eqb-true _ i k.2 in
    omega arith

-- ---- Which rows are ready

-- a row that has claimed has no entry left
pub claimed_closed : (m : Sparse) (t i : ℕ) → 0 < row_claims i (claims m t) → open_number m (claims m t) i ≡ 0
claimed_closed m t i some =
    elim (cases_eq (open_number m (claims m t) i) 0) [
      | inl none ↦ none
      | inr open_one ↦
          let z : Claim = (0, 0) in
          let e = found_by (is_open (claims m t) i) m.entries (omega arith) in
          let o : IsOpen (claims m t) i e.0 = open_parts (claims m t) i e.0 e.2 in
          let k = a_place (λ (c : Claim). eqb c.0 i) (claims m t) z some in
          let taken : 0 < col_claims e.0.j (take (k.0 + 1) (claims m t)) = in_turn m.rows m.entries t k.0 z e.0 k.1 e.1 (o.row ∙ sym (eqb-true _ i k.2)) in
          let c : col_claims e.0.j (claims m t) ≡ 0 = o.free in
          absurd (omega (arith, count_front (λ (c : Claim). eqb c.1 e.0.j) (k.0 + 1) (claims m t)))
    ]
  where
    count_front : {X : Type 0} (p : X → Bool) (n : ℕ) (xs : List X) → count_by p (take n xs) ≤ count_by p xs
    count_front p zero xs = omega arith
    count_front p (suc n) [] = omega arith
    count_front p (suc n) (x ∷ xs) =
        let a : count_by p (x ∷ take n xs) ≡ one_if (p x) + count_by p (take n xs) = count_cons p x (take n xs) in
        let b : count_by p (x ∷ xs) ≡ one_if (p x) + count_by p xs = count_cons p x xs in
        omega (arith, a, b, count_front p n xs)

-- a row is ready exactly where it has one entry left
pub ready_where : (m : Sparse) (t i : ℕ) → open_number m (claims m t) i ≡ 1 → IsReady m.entries (claims m t) i
ready_where m t i one =
    record {
      unclaimed = elim (cases_eq (row_claims i (claims m t)) 0) [ inl none ↦ none | inr some ↦ (let z : open_number m (claims m t) i ≡ 0 = claimed_closed m t i (omega arith) in absurd (omega arith)) ];
      one = one;
    }

-- its column is one
ready_column : (m : Sparse) (t i : ℕ) → m.rows ≡ m.cols → IsSparse m → i < m.rows → IsReady m.entries (claims m t) i → claimed_column m.entries (claims m t) i < m.rows
ready_column m t i square is low h =
    let ready : List ℕ = filter (is_ready m.entries (claims m t)) (range_with_len 0 m.rows) in
    let here : 0 < comes i ready = to_filter (is_ready m.entries (claims m t)) i (range_with_len 0 m.rows) (ready_from m.entries (claims m t) i h.unclaimed h.one) (in_range m.rows i low) in
    let x = found_by (λ y. eqb y i) ready here in
    let same : x.0 ≡ i = eqb-true x.0 i x.2 in
    subst (λ k. claimed_column m.entries (claims m t) k < m.rows) same
    (All-contains (λ i. claimed_column m.entries (claims m t) i < m.rows) ready x.0 (unmapped (λ i. (i, claimed_column m.entries (claims m t) i)) (λ (c : Claim). c.1 < m.rows) ready (next_inside m t square is)) x.1)
  where
    unmapped : {X Y : Type 0} (f : X → Y) (P : Y → Type 0) (xs : List X) → All P (map f xs) → All (λ x. P (f x)) xs
    unmapped f P [] h = All-nil (λ x. P (f x))
    unmapped f P (x ∷ xs) h = All-cons (λ x. P (f x)) x xs (All-head P (f x) (map f xs) h) (unmapped f P xs (All-tail P (f x) (map f xs) h))

-- ---- The claims that are sent

-- of rising own rows that have each ready row among them, those that claim are the level's own
pub claims_next : (ranks : ℕ) (m : Sparse) (t r : ℕ) (rows : List ℕ) → 0 < ranks → m.rows ≡ m.cols → IsSparse m → AllPairs Less rows → All (λ i. i % ranks ≡ r) rows
    → ((i : ℕ) → i % ranks ≡ r → i < m.rows → open_number m (claims m t) i ≡ 1 → 0 < comes i rows)
    → claims_of ranks m.rows (table ranks r m.rows (open_number m (claims m t))) (table ranks r m.rows (open_sum m (claims m t))) rows
    ≡ map (λ c. (claim_column ranks c, claim_item c)) (dealt (claim_row ranks) r (next m t))
claims_next ranks m t r rows some square is up own all =
    let numbers : List ℕ = table ranks r m.rows (open_number m (claims m t)) in
    let sums : List ℕ = table ranks r m.rows (open_sum m (claims m t)) in
    let test : ℕ → Bool = claims_now ranks m.rows numbers sums in
    let ready : List ℕ = ready_rows ranks m t r in
    let keeps_column : (i : ℕ) → i % ranks ≡ r → i < m.rows → IsReady m.entries (claims m t) i → number_at ranks sums i ≡ claimed_column m.entries (claims m t) i =
    λ i his low it. table_at ranks r m.rows i (open_sum m (claims m t)) some his low ∙ sum_claimed m.entries (claims m t) i it.one in
    let whole : List ℕ = filter (is_ready m.entries (claims m t)) (range_with_len 0 m.rows) in
    let mine : filter test rows ≡ ready =
    rising_same (filter test rows) ready (pairs_filter Less test rows up) (ready_up ranks m t r)
    (λ i h.
    let p = in_filter test i rows h in
    let q = and_parts (number_at ranks numbers i == 1 && nat_lt (number_at ranks sums i) m.rows) (nat_lt i m.rows) p.0 in
    let q2 = and_parts (number_at ranks numbers i == 1) (nat_lt (number_at ranks sums i) m.rows) q.0 in
    let low : i < m.rows = ltb-true i m.rows q.1 in
    let row = found_by (λ y. eqb y i) rows p.1 in
    let same : row.0 ≡ i = eqb-true row.0 i row.2 in
    let his : i % ranks ≡ r = ap (λ k. k % ranks) (sym same) ∙ All-contains (λ i. i % ranks ≡ r) rows row.0 own row.1 in
    let one : open_number m (claims m t) i ≡ 1 = sym (table_at ranks r m.rows i (open_number m (claims m t)) some his low) ∙ eqb-true (number_at ranks numbers i) 1 q2.0 in
    let is_it : IsReady m.entries (claims m t) i = ready_where m t i one in
    to_filter (λ k. eqb (k % ranks) r) i whole (eq-eqb (i % ranks) r his) (to_filter (is_ready m.entries (claims m t)) i (range_with_len 0 m.rows) (ready_from m.entries (claims m t) i is_it.unclaimed is_it.one) (in_range m.rows i low)))
    (λ i h.
    let a = in_filter (λ k. eqb (k % ranks) r) i whole h in
    let b = in_filter (is_ready m.entries (claims m t)) i (range_with_len 0 m.rows) a.1 in
    let his : i % ranks ≡ r = eqb-true (i % ranks) r a.0 in
    let low : i < m.rows = range_below m.rows i b.1 in
    let ready_it : IsReady m.entries (claims m t) i = ready_parts m.entries (claims m t) i b.0 in
    let column : claimed_column m.entries (claims m t) i < m.rows = ready_column m t i square is low ready_it in
    let number : number_at ranks numbers i ≡ 1 = table_at ranks r m.rows i (open_number m (claims m t)) some his low ∙ ready_it.one in
    let sum : number_at ranks sums i ≡ claimed_column m.entries (claims m t) i = keeps_column i his low ready_it in
    to_filter test i rows (and_from _ _ (and_from _ _ (eq-eqb (number_at ranks numbers i) 1 number) (lt-ltb (number_at ranks sums i) m.rows (subst (λ k. k < m.rows) (sym sum) column))) (lt-ltb i m.rows low)) (all i his low ready_it.one)) in
    ap (map (λ i. to_claim ranks i (number_at ranks sums i))) mine
    ∙ same_map (λ i. to_claim ranks i (number_at ranks sums i)) (λ i. to_claim ranks i (claimed_column m.entries (claims m t) i)) ready (λ k d l.
    let i : ℕ = get_or ready k d in
    let his : i % ranks ≡ r = eqb-true (i % ranks) r (filter_passes (λ k. eqb (k % ranks) r) whole k d l) in
    let low : i < m.rows = All-filter (λ k. eqb (k % ranks) r) (λ i. i < m.rows) whole (All-filter (is_ready m.entries (claims m t)) (λ i. i < m.rows) (range_with_len 0 m.rows) (range_low m.rows)) k d l in
    let test_holds : is_ready m.entries (claims m t) i ≡ true =
    All-filter (λ k. eqb (k % ranks) r) (λ i. is_ready m.entries (claims m t) i ≡ true) whole (filter_passes (is_ready m.entries (claims m t)) (range_with_len 0 m.rows)) k d l in
    ap (λ s. to_claim ranks i s) (keeps_column i his low (ready_parts m.entries (claims m t) i test_holds)))
    ∙ sym (ap (map (λ c. (claim_column ranks c, claim_item c))) (own_next ranks m t r) ∙ map-map (λ c. (claim_column ranks c, claim_item c)) (λ i. (i, claimed_column m.entries (claims m t) i)) ready)
  where
    range_low : (n : ℕ) → All (λ i. i < n) (range_with_len 0 n)
    range_low n k d l = (let s : length (range_with_len 0 n) ≡ n = length-range_with_len 0 n in let e : get_or (range_with_len 0 n) k d ≡ 0 + k = get_or-range_with_len 0 n k d (omega arith) in omega arith)
