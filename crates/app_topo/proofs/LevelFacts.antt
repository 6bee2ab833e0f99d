-- What holds of the claims of any matrix's levels: they are of rows of the matrix, no row claims
-- twice, each claim is at an entry, and a row claims only once all its other columns are taken.
use Rattle.std.proofs.Common.{ℕ, zero, suc, ◌+◌, ◌-◌, ◌<◌, ◌≤◌, ◌≡◌, Bool, true, false, cond, eqb, List, [], ◌∷◌, ◌++◌, map, length, get_or, take, sum_by, count_by, All, arith, inl, inr, refl, sym, ap, ◌∙◌, subst}
use Rattle.std.specs.List.{Contains, filter, range_with_len}
use Rattle.std.proofs.lemmas.Bool.{cases_Bool, cases_eq, cases_lt, eq-eqb, ne_eqb, eqb-true, and_from, and_parts}
use Rattle.std.proofs.lemmas.List.{get_or_append_left, get_or-append_right, take-append-le, length-append, length-map, take_more}
use Rattle.std.proofs.Math.Seq.{take-append-add}
use Rattle.std.proofs.lemmas.List.Elements.{All-nil, All-append, All-map, All-filter, All-contains, filter_passes, Contains-append_right}
use Rattle.std.proofs.lemmas.List.FromFn.{length-range_with_len, get_or-range_with_len}
use Rattle.std.proofs.lemmas.List.Sums.{count_by-le-length, length-filter}
use Rattle.bale_items.specs.declared.triple.Triple.{Triple}
use Rattle.sparse_rows.proofs.Doubles.{one_if}
use Rattle.app_topo.specs.Levels.{Claim, row_claims, col_claims, is_open, is_ready, open_columns, claimed_column, level, claims_after}
use Rattle.app_topo.proofs.Counting.{count_cons, count_append, found_by, counted, only_one, sum_passing, sum_of_one}

-- ---- The tests as facts

pub record IsOpen (claims : List Claim) (i : ℕ) (t : Triple) : Type 0 where
  pub row : t.i ≡ i
  pub free : col_claims t.j claims ≡ 0

pub open_parts : (claims : List Claim) (i : ℕ) (t : Triple) → is_open claims i t ≡ true → IsOpen claims i t
open_parts claims i t h =
    let p = and_parts (eqb t.i i) (eqb (col_claims t.j claims) 0) h in
    record { row = eqb-true t.i i p.0; free = eqb-true (col_claims t.j claims) 0 p.1 }

pub open_from : (claims : List Claim) (i : ℕ) (t : Triple) → t.i ≡ i → col_claims t.j claims ≡ 0 → is_open claims i t ≡ true
open_from claims i t r f = and_from _ _ (eq-eqb t.i i r) (eq-eqb (col_claims t.j claims) 0 f)

open_count : (es : List Triple) (claims : List Claim) (i : ℕ) → length (open_columns es claims i) ≡ count_by (is_open claims i) es
open_count es claims i = length-map (filter (is_open claims i) es) (λ (t : Triple). t.j) ∙ length-filter (is_open claims i) es

pub record IsReady (es : List Triple) (claims : List Claim) (i : ℕ) : Type 0 where
  pub unclaimed : row_claims i claims ≡ 0
  pub one : count_by (is_open claims i) es ≡ 1

pub ready_parts : (es : List Triple) (claims : List Claim) (i : ℕ) → is_ready es claims i ≡ true → IsReady es claims i
ready_parts es claims i h =
    let p = and_parts (eqb (row_claims i claims) 0) (eqb (length (open_columns es claims i)) 1) h in
    record { unclaimed = eqb-true (row_claims i claims) 0 p.0; one = sym (open_count es claims i) ∙ eqb-true (length (open_columns es claims i)) 1 p.1 }

pub ready_from : (es : List Triple) (claims : List Claim) (i : ℕ) → row_claims i claims ≡ 0 → count_by (is_open claims i) es ≡ 1 → is_ready es claims i ≡ true
ready_from es claims i u o = and_from _ _ (eq-eqb (row_claims i claims) 0 u) (eq-eqb (length (open_columns es claims i)) 1 (open_count es claims i ∙ o))

-- where a row has one open entry, the columns of its open entries are together the one that it
-- claims
pub sum_claimed : (es : List Triple) (claims : List Claim) (i : ℕ) → count_by (is_open claims i) es ≡ 1
    → sum_by (λ t. cond (is_open claims i t) t.j 0) es ≡ claimed_column es claims i
sum_claimed es claims i one =
    sum_passing (is_open claims i) (λ t. t.j) es ∙ sum_of_one (open_columns es claims i) (open_count es claims i ∙ one)

-- ---- One level

-- a claim of the level after some claims
pub record IsNext (n : ℕ) (es : List Triple) (claims : List Claim) (c : Claim) : Type 0 where
  pub below : c.0 < n
  pub ready : IsReady es claims c.0
  pub column : c.1 ≡ claimed_column es claims c.0

pub level_next : (n : ℕ) (es : List Triple) (claims : List Claim) → All (IsNext n es claims) (level n es claims)
level_next n es claims =
    All-map (IsNext n es claims) (λ i. (i, claimed_column es claims i)) (filter (is_ready es claims) (range_with_len 0 n)) (λ k d l. record {
      below = All-filter (is_ready es claims) (λ i. i < n) (range_with_len 0 n) (range_low n) k d l;
      ready = ready_parts es claims _ (filter_passes (is_ready es claims) (range_with_len 0 n) k d l);
      column = refl;
    })
  where
    range_low : (m : ℕ) → All (λ i. i < m) (range_with_len 0 m)
    range_low m k d l = (let s : length (range_with_len 0 m) ≡ m = length-range_with_len 0 m in let e : get_or (range_with_len 0 m) k d ≡ 0 + k = get_or-range_with_len 0 m k d (omega arith) in omega arith)

-- every open entry of a ready row is in the column that it claims
pub next_column : (n : ℕ) (es : List Triple) (claims : List Claim) (c : Claim) (t : Triple) → IsNext n es claims c → Contains es t → is_open claims c.0 t ≡ true → t.j ≡ c.1
next_column n es claims c t h there is =
    let one : count_by (is_open claims c.0) es ≡ 1 = h.ready.one in
    let sum : ℕ = sum_by (λ t. cond (is_open claims c.0 t) t.j 0) es in
    let its_own : t.j ≡ sum = All-contains (λ u. is_open claims c.0 u ≡ true → u.j ≡ sum) es t (only_one (is_open claims c.0) (λ u. u.j) es one) there is in
    its_own ∙ sum_claimed es claims c.0 one ∙ sym h.column

-- the entry of such a claim
pub record AtEntry (es : List Triple) (c : Claim) : Type 0 where
  pub entry : Triple
  pub there : Contains es entry
  pub row : entry.i ≡ c.0
  pub col : entry.j ≡ c.1

pub next_entry : (n : ℕ) (es : List Triple) (claims : List Claim) (c : Claim) → IsNext n es claims c → AtEntry es c
next_entry n es claims c h =
    let one : count_by (is_open claims c.0) es ≡ 1 = h.ready.one in
    let t = found_by (is_open claims c.0) es (omega arith) in
    record { entry = t.0; there = t.1; row = (open_parts claims c.0 t.0 t.2).row; col = next_column n es claims c t.0 h t.1 t.2 }

-- ---- Rows claim once

-- a row is once in a range
range_once : (i a m : ℕ) → count_by (λ k. eqb k i) (range_with_len a m) ≤ 1
range_once i a zero = omega arith
range_once i a (suc m) =
    let c : count_by (λ k. eqb k i) (range_with_len a (suc m)) ≡ one_if (eqb a i) + count_by (λ k. eqb k i) (range_with_len (a + 1) m) = count_cons (λ k. eqb k i) a (range_with_len (a + 1) m) in
    elim (cases_eq a i) [
      | inl e ↦
          let one : one_if (eqb a i) ≡ 1 = ap one_if (eq-eqb a i e) in
          let none : count_by (λ k. eqb k i) (range_with_len (a + 1) m) ≡ 0 = past i (a + 1) m (omega arith) in
          omega arith
      | inr d ↦
          let z : one_if (eqb a i) ≡ 0 = ap one_if (ne_eqb a i d) in
          let rest : count_by (λ k. eqb k i) (range_with_len (a + 1) m) ≤ 1 = range_once i (a + 1) m in
          omega arith
    ]
  where
    past : (i a m : ℕ) → i < a → count_by (λ k. eqb k i) (range_with_len a m) ≡ 0
    past i a zero l = refl
    past i a (suc m) l =
        let c : count_by (λ k. eqb k i) (range_with_len a (suc m)) ≡ one_if (eqb a i) + count_by (λ k. eqb k i) (range_with_len (a + 1) m) = count_cons (λ k. eqb k i) a (range_with_len (a + 1) m) in
        let z : one_if (eqb a i) ≡ 0 = ap one_if (ne_eqb a i (λ e. absurd (omega arith))) in
        let rest : count_by (λ k. eqb k i) (range_with_len (a + 1) m) ≡ 0 = past i (a + 1) m (omega arith) in
        omega arith

-- of a row's claims in a level, from the row's test
claims_of : (i : ℕ) (p : ℕ → Bool) (f : ℕ → ℕ) (is : List ℕ) → row_claims i (map (λ k. (k, f k)) (filter p is)) ≡ cond (p i) (count_by (λ k. eqb k i) is) 0
claims_of i p f [] = elim (cases_Bool (p i)) [ inl t ↦ ap (λ b. cond {A = ℕ} b 0 0) (sym t) | inr u ↦ ap (λ b. cond {A = ℕ} b 0 0) (sym u) ]
claims_of i p f (k ∷ ks) =
    let rest : row_claims i (map (λ k. (k, f k)) (filter p ks)) ≡ cond (p i) (count_by (λ k. eqb k i) ks) 0 = claims_of i p f ks in
    let here : count_by (λ k. eqb k i) (k ∷ ks) ≡ one_if (eqb k i) + count_by (λ k. eqb k i) ks = count_cons (λ k. eqb k i) k ks in
    let with_it : row_claims i ((k, f k) ∷ map (λ k. (k, f k)) (filter p ks)) ≡ one_if (eqb k i) + row_claims i (map (λ k. (k, f k)) (filter p ks)) = count_cons (λ (c : Claim). eqb c.0 i) (k, f k) (map (λ k. (k, f k)) (filter p ks)) in
    elim (cases_Bool (p k)) [
      | inl t ↦
          let first : row_claims i (map (λ k. (k, f k)) (filter p (k ∷ ks))) ≡ one_if (eqb k i) + cond (p i) (count_by (λ k. eqb k i) ks) 0 =
          ap (λ b. row_claims i (map (λ k. (k, f k)) (cond b (k ∷ filter p ks) (filter p ks)))) t ∙ with_it ∙ ap (λ m. one_if (eqb k i) + m) rest in
          elim (cases_Bool (p i)) [
            | inl u ↦ first ∙ ap (λ b. one_if (eqb k i) + cond b (count_by (λ k. eqb k i) ks) 0) u ∙ sym here ∙ ap (λ b. cond b (count_by (λ k. eqb k i) (k ∷ ks)) 0) (sym u)
            | inr u ↦
                let other : eqb k i ≡ false = ne_eqb k i (λ e. absurd (let q : p i ≡ true = ap p (sym e) ∙ t in cc)) in
                first ∙ ap (λ b. one_if (eqb k i) + cond b (count_by (λ k. eqb k i) ks) 0) u ∙ ap (λ b. one_if b + 0) other ∙ ap (λ b. cond b (count_by (λ k. eqb k i) (k ∷ ks)) 0) (sym u)
          ]
      | inr t ↦
          let first : row_claims i (map (λ k. (k, f k)) (filter p (k ∷ ks))) ≡ cond (p i) (count_by (λ k. eqb k i) ks) 0 =
          ap (λ b. row_claims i (map (λ k. (k, f k)) (cond b (k ∷ filter p ks) (filter p ks)))) t ∙ rest in
          elim (cases_Bool (p i)) [
            | inl u ↦
                let other : eqb k i ≡ false = ne_eqb k i (λ e. absurd (let q : p i ≡ false = ap p (sym e) ∙ t in cc)) in
                first ∙ ap (λ b. cond b (count_by (λ k. eqb k i) ks) 0) u
                ∙ sym (here ∙ ap (λ b. one_if b + count_by (λ k. eqb k i) ks) other ∙ zero_first (count_by (λ k. eqb k i) ks))
                ∙ ap (λ b. cond b (count_by (λ k. eqb k i) (k ∷ ks)) 0) (sym u)
            | inr u ↦ first ∙ ap (λ b. cond b (count_by (λ k. eqb k i) ks) 0) u ∙ ap (λ b. cond b (count_by (λ k. eqb k i) (k ∷ ks)) 0) (sym u)
          ]
    ]
  where
    zero_first : (k : ℕ) → 0 + k ≡ k
    zero_first k = omega arith

level_few : (n : ℕ) (es : List Triple) (claims : List Claim) (i : ℕ) → row_claims i (level n es claims) ≤ 1
level_few n es claims i =
    let is = claims_of i (is_ready es claims) (claimed_column es claims) (range_with_len 0 n) in
    elim (cases_Bool (is_ready es claims i)) [
      | inl t ↦ (let h : row_claims i (level n es claims) ≡ count_by (λ k. eqb k i) (range_with_len 0 n) = is ∙ ap (λ b. cond b (count_by (λ k. eqb k i) (range_with_len 0 n)) 0) t in omega (arith, range_once i 0 n))
      | inr f ↦ (let h : row_claims i (level n es claims) ≡ 0 = is ∙ ap (λ b. cond b (count_by (λ k. eqb k i) (range_with_len 0 n)) 0) f in omega arith)
    ]

level_none : (n : ℕ) (es : List Triple) (claims : List Claim) (i : ℕ) → is_ready es claims i ≡ false → row_claims i (level n es claims) ≡ 0
level_none n es claims i f = claims_of i (is_ready es claims) (claimed_column es claims) (range_with_len 0 n) ∙ ap (λ b. cond b (count_by (λ k. eqb k i) (range_with_len 0 n)) 0) f

-- a ready row claims in the level
pub level_holds : (n : ℕ) (es : List Triple) (claims : List Claim) (i : ℕ) → i < n → IsReady es claims i → 0 < length (level n es claims)
level_holds n es claims i low h =
    let is = claims_of i (is_ready es claims) (claimed_column es claims) (range_with_len 0 n) in
    let here : row_claims i (level n es claims) ≡ count_by (λ k. eqb k i) (range_with_len 0 n) = is ∙ ap (λ b. cond b (count_by (λ k. eqb k i) (range_with_len 0 n)) 0) (ready_from es claims i h.unclaimed h.one) in
    let at_it : get_or (range_with_len 0 n) i i ≡ i = get_or-range_with_len 0 n i i low ∙ omega arith in
    let some : 0 < count_by (λ k. eqb k i) (range_with_len 0 n) = counted (λ k. eqb k i) (range_with_len 0 n) i (i, omega (arith, length-range_with_len 0 n), at_it) (eq-eqb i i refl) in
    omega (arith, count_by-le-length (λ (c : Claim). eqb c.0 i) (level n es claims))

-- no row claims twice
pub rows_once : (n : ℕ) (es : List Triple) (t i : ℕ) → row_claims i (claims_after n es t) ≤ 1
rows_once n es zero i = omega arith
rows_once n es (suc t) i =
    let claims : List Claim = claims_after n es t in
    let both : row_claims i (claims_after n es (suc t)) ≡ row_claims i claims + row_claims i (level n es claims) = count_append (λ (c : Claim). eqb c.0 i) claims (level n es claims) in
    elim (cases_Bool (is_ready es claims i)) [
      | inl h ↦
          let none : row_claims i claims ≡ 0 = (ready_parts es claims i h).unclaimed in
          omega (arith, level_few n es claims i)
      | inr h ↦
          let none : row_claims i (level n es claims) ≡ 0 = level_none n es claims i h in
          omega (arith, rows_once n es t i)
    ]

-- ---- All claims

pub rows_below : (n : ℕ) (es : List Triple) (t : ℕ) → All (λ (c : Claim). c.0 < n) (claims_after n es t)
rows_below n es zero = All-nil (λ (c : Claim). c.0 < n)
rows_below n es (suc t) =
    let claims : List Claim = claims_after n es t in
    All-append (λ (c : Claim). c.0 < n) claims (level n es claims) (rows_below n es t) (λ k d l. (level_next n es claims k d l).below)

pub at_entries : (n : ℕ) (es : List Triple) (t : ℕ) → All (AtEntry es) (claims_after n es t)
at_entries n es zero = All-nil (AtEntry es)
at_entries n es (suc t) =
    let claims : List Claim = claims_after n es t in
    All-append (AtEntry es) claims (level n es claims) (at_entries n es t) (λ k d l. next_entry n es claims _ (level_next n es claims k d l))

pub cols_below : (n : ℕ) (es : List Triple) (t : ℕ) → All (λ (u : Triple). u.j < n) es → All (λ (c : Claim). c.1 < n) (claims_after n es t)
cols_below n es t inside = λ k d l. (let a = at_entries n es t k d l in subst (λ j. j < n) a.col (All-contains (λ (u : Triple). u.j < n) es a.entry inside a.there))

-- ---- The order of claims

-- every column of a row that claims is claimed by then
abbrev pub InTurn : List Triple → List Claim → Type 0
InTurn es claims = (k : ℕ) (d : Claim) (t : Triple) → k < length claims → Contains es t → t.i ≡ (get_or claims k d).0 → 0 < col_claims t.j (take (k + 1) claims)

pub in_turn : (n : ℕ) (es : List Triple) (t : ℕ) → InTurn es (claims_after n es t)
in_turn n es zero = λ k d u l c e. absurd (omega arith)
in_turn n es (suc t) = λ k d u l there row.
    let claims : List Claim = claims_after n es t in
    let next : List Claim = level n es claims in
    elim (cases_lt k (length claims)) [
      | inl low ↦
          let same : take (k + 1) (claims ++ next) ≡ take (k + 1) claims = take-append-le (k + 1) claims next (omega arith) in
          let mine : get_or (claims ++ next) k d ≡ get_or claims k d = get_or_append_left claims next d k low in
          subst (λ cs. 0 < col_claims u.j cs) (sym same) (in_turn n es t k d u low there (row ∙ ap (λ (c : Claim). c.0) mine))
      | inr high ↦
          let size : length (claims ++ next) ≡ length claims + length next = length-append claims next in
          let m : ℕ = k - length claims in
          let low : m < length next = omega arith in
          let mine : get_or (claims ++ next) k d ≡ get_or next m d = get_or-append_right claims next (length claims) k d refl high in
          let c : Claim = get_or next m d in
          let is : IsNext n es claims c = level_next n es claims m d low in
          let place : k + 1 ≡ length claims + (m + 1) = omega arith in
          let split : take (k + 1) (claims ++ next) ≡ claims ++ take (m + 1) next = ap (λ q. take q (claims ++ next)) place ∙ take-append-add claims next (m + 1) in
          let sum : col_claims u.j (claims ++ take (m + 1) next) ≡ col_claims u.j claims + col_claims u.j (take (m + 1) next) = count_append (λ (c : Claim). eqb c.1 u.j) claims (take (m + 1) next) in
          subst (λ cs. 0 < col_claims u.j cs) (sym split)
          (elim (cases_eq (col_claims u.j claims) 0) [
            | inl free ↦
                let col : u.j ≡ c.1 = next_column n es claims c u is there (open_from claims c.0 u (row ∙ ap (λ (w : Claim). w.0) mine) free) in
                let last : take (m + 1) next ≡ take m next ++ c ∷ [] = take_more next m d low in
                let here : 0 < col_claims u.j (take (m + 1) next) =
                counted (λ (w : Claim). eqb w.1 u.j) (take (m + 1) next) c
                (subst (λ cs. Contains cs c) (sym last) (Contains-append_right (take m next) (c ∷ []) c (0, omega arith, refl))) (eq-eqb c.1 u.j (sym col)) in
                omega arith
            | inr taken ↦ omega arith
          ])
    ]

-- a column that a level claims was free
pub next_free : (n : ℕ) (es : List Triple) (claims : List Claim) (c : Claim) → IsNext n es claims c → col_claims c.1 claims ≡ 0
next_free n es claims c h =
    let one : count_by (is_open claims c.0) es ≡ 1 = h.ready.one in
    let t = found_by (is_open claims c.0) es (omega arith) in
    ap (λ j. col_claims j claims) (sym (next_column n es claims c t.0 h t.1 t.2)) ∙ (open_parts claims c.0 t.0 t.2).free
