-- Where a valid pair exists, every level takes a row until all have claimed, and the claims are the
-- pair's diagonal: so the claims of n levels are complete.
use Rattle.std.proofs.Common.{ℕ, zero, suc, ◌+◌, ◌-◌, ◌<◌, ◌≤◌, ◌≡◌, ◌⊎◌, Bool, true, ◌&&◌, eqb, List, [], ◌∷◌, length, get_or, count_by, All, arith, inl, inr, refl, sym, ap, ◌∙◌, subst}
use Rattle.std.specs.List.{AllPairs, Contains, list_all, range_with_len}
use Rattle.std.proofs.lemmas.Bool.{cases_Bool, cases_eq, eq-eqb, eqb-true, and_from}
use Rattle.std.proofs.lemmas.List.{length-append}
use Rattle.std.proofs.lemmas.List.Elements.{All-head, All-tail, All-nil, All-append, All-contains}
use Rattle.std.proofs.lemmas.List.FromFn.{length-range_with_len, get_or-range_with_len}
use Rattle.bale_items.specs.declared.triple.Triple.{Triple}
use Rattle.list_laws.specs.Sums.{total}
use Rattle.list_laws.proofs.Sums.{total_same, total_const}
use Rattle.mtx_text.proofs.PlaceOrder.{pairs_head, pairs_tail}
use Rattle.sparse_rows.proofs.Doubles.{one_if}
use Rattle.sparse_rows.proofs.Gathering.{Differ}
use Rattle.app_topo.specs.Triangular.{IsValid}
use Rattle.app_topo.specs.Levels.{Claim, row_claims, col_claims, is_open, level, claims_after, levels_complete}
use Rattle.app_topo.proofs.Counting.{count_cons, count_append, found_by, counted, count_total, all_once, none_twice}
use Rattle.app_topo.proofs.LevelFacts.{IsOpen, open_parts, open_from, IsReady, IsNext, level_next, next_column, rows_once, rows_below, cols_below, level_holds}
use Rattle.app_topo.proofs.Printed.{Inside, Complete}

-- a claim is on the diagonal of a pair
abbrev IsDiagonal : (ℕ → ℕ) → (ℕ → ℕ) → Claim → Type 0
IsDiagonal p q c = p c.0 ≡ q c.1

-- the diagonal entry of a row
record OnDiagonal (es : List Triple) (p q : ℕ → ℕ) (i : ℕ) : Type 0 where
  entry : Triple
  there : Contains es entry
  row : entry.i ≡ i
  col : q entry.j ≡ p i

on_diagonal : (n : ℕ) (es : List Triple) (p q : ℕ → ℕ) (i : ℕ) → IsValid n es p q → Inside n es → i < n → OnDiagonal es p q i
on_diagonal n es p q i v inside low =
    let t = v.full (p i) (v.row_below i low) in
    let inside_it : t.0.i < n = All-contains (λ (u : Triple). u.i < n) es t.0 inside.row t.1 in
    record { entry = t.0; there = t.1; row = v.row_apart t.0.i i inside_it low t.2; col = t.3 }

-- the diagonal column of a row without a claim is free
diagonal_free : (n : ℕ) (es : List Triple) (p q : ℕ → ℕ) (claims : List Claim) (i : ℕ) (t : Triple) → IsValid n es p q → All (λ (c : Claim). c.0 < n) claims → All (IsDiagonal p q) claims
    → i < n → row_claims i claims ≡ 0 → q t.j ≡ p i → col_claims t.j claims ≡ 0
diagonal_free n es p q claims i t v low diagonal inside none col =
    elim (cases_eq (col_claims t.j claims) 0) [
      | inl free ↦ free
      | inr taken ↦
          let c = found_by (λ (c : Claim). eqb c.1 t.j) claims (omega arith) in
          let same_col : c.0.1 ≡ t.j = eqb-true c.0.1 t.j c.2 in
          let on_it : p c.0.0 ≡ q c.0.1 = All-contains (IsDiagonal p q) claims c.0 diagonal c.1 in
          let same_row : c.0.0 ≡ i = v.row_apart c.0.0 i (All-contains (λ (c : Claim). c.0 < n) claims c.0 low c.1) inside (on_it ∙ ap q same_col ∙ col) in
          let some : 0 < row_claims i claims = counted (λ (c : Claim). eqb c.0 i) claims c.0 c.1 (eq-eqb c.0.0 i same_row) in
          absurd (omega arith)
    ]

-- so claims are on the diagonal
pub diagonal : (n : ℕ) (es : List Triple) (p q : ℕ → ℕ) (t : ℕ) → IsValid n es p q → Inside n es → All (IsDiagonal p q) (claims_after n es t)
diagonal n es p q zero v inside = All-nil (IsDiagonal p q)
diagonal n es p q (suc t) v inside =
    let claims : List Claim = claims_after n es t in
    let before : All (IsDiagonal p q) claims = diagonal n es p q t v inside in
    All-append (IsDiagonal p q) claims (level n es claims) before (λ k d l.
    let c : Claim = get_or (level n es claims) k d in
    let is : IsNext n es claims c = level_next n es claims k d l in
    let e : OnDiagonal es p q c.0 = on_diagonal n es p q c.0 v inside is.below in
    let free : col_claims e.entry.j claims ≡ 0 = diagonal_free n es p q claims c.0 e.entry v (rows_below n es t) before is.below is.ready.unclaimed e.col in
    sym e.col ∙ ap q (next_column n es claims c e.entry is e.there (open_from claims c.0 e.entry e.row free)))

-- ---- The last row without a claim is ready

-- entries that all stand at one place, and at places of their own, are one at most
one_place : (f : Triple → Bool) (i j : ℕ) (es : List Triple) → AllPairs Differ es → All (λ t. f t ≡ true → (t.i ≡ i) × (t.j ≡ j)) es → count_by f es ≤ 1
one_place f i j [] apart at_it = omega arith
one_place f i j (t ∷ ts) apart at_it =
    let c : count_by f (t ∷ ts) ≡ one_if (f t) + count_by f ts = count_cons f t ts in
    let rest : count_by f ts ≤ 1 = one_place f i j ts (pairs_tail Differ t ts apart) (All-tail (λ t. f t ≡ true → (t.i ≡ i) × (t.j ≡ j)) t ts at_it) in
    elim (cases_Bool (f t)) [
      | inl y ↦
          let one : one_if (f t) ≡ 1 = ap one_if y in
          elim (cases_eq (count_by f ts) 0) [
            | inl none ↦ omega arith
            | inr some ↦
                let u = found_by f ts (omega arith) in
                let here = All-head (λ t. f t ≡ true → (t.i ≡ i) × (t.j ≡ j)) t ts at_it y in
                let there = All-contains (λ t. f t ≡ true → (t.i ≡ i) × (t.j ≡ j)) ts u.0 (All-tail (λ t. f t ≡ true → (t.i ≡ i) × (t.j ≡ j)) t ts at_it) u.1 u.2 in
                absurd (All-contains (Differ t) ts u.0 (pairs_head Differ t ts apart) u.1 (record { row = here.0 ∙ sym there.0; col = here.1 ∙ sym there.1 }))
          ]
      | inr other ↦ (let z : one_if (f t) ≡ 0 = ap one_if other in omega arith)
    ]

last_ready : (n : ℕ) (es : List Triple) (p q : ℕ → ℕ) (claims : List Claim) (i : ℕ) → IsValid n es p q → Inside n es → AllPairs Differ es
    → All (λ (c : Claim). c.0 < n) claims → All (λ (c : Claim). c.1 < n) claims → All (IsDiagonal p q) claims
    → i < n → row_claims i claims ≡ 0 → ((k : ℕ) → k < n → p i < p k → 0 < row_claims k claims) → IsReady es claims i
last_ready n es p q claims i v inside once low_rows low_cols diag low none above =
    let e : OnDiagonal es p q i = on_diagonal n es p q i v inside low in
    let free : col_claims e.entry.j claims ≡ 0 = diagonal_free n es p q claims i e.entry v low_rows diag low none e.col in
    let some : 0 < count_by (is_open claims i) es = counted (is_open claims i) es e.entry e.there (open_from claims i e.entry e.row free) in
    let e_low : e.entry.j < n = All-contains (λ (u : Triple). u.j < n) es e.entry inside.col e.there in
    let few : count_by (is_open claims i) es ≤ 1 =
    one_place (is_open claims i) i e.entry.j es once (λ k d l open_here.
    let t : Triple = get_or es k d in
    let o : IsOpen claims i t = open_parts claims i t open_here in
    let t_low : t.j < n = inside.col k d l in
    let up : p t.i ≤ q t.j = v.above k d l in
    let up_i : p i ≤ q t.j = subst (λ m. p m ≤ q t.j) o.row up in (
      o.row,
      elim (cases_eq (q t.j) (p i)) [
        | inl same ↦ v.col_apart t.j e.entry.j t_low e_low (same ∙ sym e.col)
        | inr other ↦
            let w = v.full (q t.j) (v.col_below t.j t_low) in
            let w_low : w.0.i < n = All-contains (λ (u : Triple). u.i < n) es w.0 inside.row w.1 in
            let claimed : 0 < row_claims w.0.i claims = above w.0.i w_low (subst (λ m. p i < m) (sym w.2) (omega arith)) in
            let c = found_by (λ (c : Claim). eqb c.0 w.0.i) claims claimed in
            let same_row : c.0.0 ≡ w.0.i = eqb-true c.0.0 w.0.i c.2 in
            let on_it : p c.0.0 ≡ q c.0.1 = All-contains (IsDiagonal p q) claims c.0 diag c.1 in
            let same_col : c.0.1 ≡ t.j = v.col_apart c.0.1 t.j (All-contains (λ (c : Claim). c.1 < n) claims c.0 low_cols c.1) t_low (sym on_it ∙ ap p same_row ∙ w.2) in
            let taken : 0 < col_claims t.j claims = counted (λ (c : Claim). eqb c.1 t.j) claims c.0 c.1 (eq-eqb c.0.1 t.j same_col) in
            let z : col_claims t.j claims ≡ 0 = o.free in
            absurd (omega arith)
      ],
    )) in
    record { unclaimed = none; one = omega arith }

-- ---- Every level takes a row

-- all rows from a position on have claims, or there is a last row without one
record IsLast (n : ℕ) (p : ℕ → ℕ) (claims : List Claim) : Type 0 where
  row : ℕ
  low : row < n
  none : row_claims row claims ≡ 0
  above : (k : ℕ) → k < n → p row < p k → 0 < row_claims k claims

greatest : (n m : ℕ) (es : List Triple) (p q : ℕ → ℕ) (claims : List Claim) → IsValid n es p q → Inside n es → m ≤ n
    → ((k : ℕ) → k < n → n - m ≤ p k → 0 < row_claims k claims) ⊎ IsLast n p claims
greatest n zero es p q claims v inside l = inl (λ k low up. absurd (omega (arith, v.row_below k low)))
greatest n (suc m) es p q claims v inside l =
    elim (greatest n m es p q claims v inside (omega arith)) [
      | inr last ↦ inr last
      | inl all ↦
          let x : ℕ = n - suc m in
          let t = v.full x (omega arith) in
          let low : t.0.i < n = All-contains (λ (u : Triple). u.i < n) es t.0 inside.row t.1 in
          elim (cases_eq (row_claims t.0.i claims) 0) [
            | inl none ↦ inr (record { row = t.0.i; low = low; none = none; above = λ k k_low up. all k k_low (omega (arith, t.2)) })
            | inr some ↦ inl (λ k k_low up. elim (cases_eq (p k) x) [
              | inl same ↦ subst (λ r. 0 < row_claims r claims) (v.row_apart t.0.i k low k_low (t.2 ∙ sym same)) (omega arith)
              | inr other ↦ all k k_low (omega arith)
            ])
          ]
    ]

abbrev AllClaimed : ℕ → List Claim → Type 0
AllClaimed n claims = (k : ℕ) → k < n → 0 < row_claims k claims

grows : (n : ℕ) (es : List Triple) (p q : ℕ → ℕ) (t : ℕ) → IsValid n es p q → Inside n es → AllPairs Differ es → AllClaimed n (claims_after n es t) ⊎ (t ≤ length (claims_after n es t))
grows n es p q zero v inside once = inr (omega arith)
grows n es p q (suc t) v inside once =
    let claims : List Claim = claims_after n es t in
    let size : length (claims_after n es (suc t)) ≡ length claims + length (level n es claims) = length-append claims (level n es claims) in
    let more : (k : ℕ) → row_claims k (claims_after n es (suc t)) ≡ row_claims k claims + row_claims k (level n es claims) = λ k. count_append (λ (c : Claim). eqb c.0 k) claims (level n es claims) in
    elim (grows n es p q t v inside once) [
      | inl all ↦ inl (λ k low. omega (arith, more k, all k low))
      | inr long ↦ elim (greatest n n es p q claims v inside (omega arith)) [
        | inl all ↦ inl (λ k low. omega (arith, more k, all k low (omega arith)))
        | inr last ↦
            let ready : IsReady es claims last.row = last_ready n es p q claims last.row v inside once (rows_below n es t) (cols_below n es t inside.col) (diagonal n es p q t v inside) last.low last.none last.above in
            let some : 0 < length (level n es claims) = level_holds n es claims last.row last.low ready in
            inr (omega arith)
      ]
    ]

-- so after n levels all rows have claimed, and every column exactly once
pub complete : (n : ℕ) (es : List Triple) (p q : ℕ → ℕ) → IsValid n es p q → Inside n es → AllPairs Differ es → Complete n (claims_after n es n)
complete n es p q v inside once =
    let claims : List Claim = claims_after n es n in
    let sum : total n (λ i. row_claims i claims) ≡ length claims = count_total n (λ (c : Claim). c.0) claims (rows_below n es n) in
    let rows : (i : ℕ) → i < n → row_claims i claims ≡ 1 =
    elim (grows n es p q n v inside once) [
      | inl all ↦ λ i low. (let few : row_claims i claims ≤ 1 = rows_once n es n i in omega (arith, all i low))
      | inr long ↦ all_once n (λ i. row_claims i claims) (λ i low. rows_once n es n i) (subst (λ k. n ≤ k) (sym sum) long)
    ] in
    let size : length claims ≡ n = sym sum ∙ row_total n claims rows in
    let by_col : total n (λ j. col_claims j claims) ≡ length claims = count_total n (λ (c : Claim). c.1) claims (cols_below n es n inside.col) in
    record {
      rows = rows;
      cols = none_twice n (λ j. col_claims j claims) (λ j low.
          let t = v.full (q j) (v.col_below j low) in
          let t_row : t.0.i < n = All-contains (λ (u : Triple). u.i < n) es t.0 inside.row t.1 in
          let one : row_claims t.0.i claims ≡ 1 = rows t.0.i t_row in
          let c = found_by (λ (c : Claim). eqb c.0 t.0.i) claims (omega arith) in
          let same_row : c.0.0 ≡ t.0.i = eqb-true c.0.0 t.0.i c.2 in
          let on_it : p c.0.0 ≡ q c.0.1 = All-contains (IsDiagonal p q) claims c.0 (diagonal n es p q n v inside) c.1 in
          let same_col : c.0.1 ≡ j = v.col_apart c.0.1 j (All-contains (λ (c : Claim). c.1 < n) claims c.0 (cols_below n es n inside.col) c.1) low (sym on_it ∙ ap p same_row ∙ t.2) in
          let some : 0 < col_claims j claims = counted (λ (c : Claim). eqb c.1 j) claims c.0 c.1 (eq-eqb c.0.1 j same_col) in
          omega arith)
          (omega (arith, by_col, size));
    }
  where
    row_total : (n : ℕ) (claims : List Claim) → ((i : ℕ) → i < n → row_claims i claims ≡ 1) → total n (λ i. row_claims i claims) ≡ n
    row_total n claims h = total_same n _ (λ _. 1) h ∙ total_const n 1 ∙ omega arith

pub complete_from : (n : ℕ) (claims : List Claim) → Complete n claims → levels_complete n claims ≡ true
complete_from n claims h =
    all_of (λ x. eqb (row_claims x claims) 1 && eqb (col_claims x claims) 1) (range_with_len 0 n) (λ k d l.
    let x : ℕ = get_or (range_with_len 0 n) k d in
    let size : length (range_with_len 0 n) ≡ n = length-range_with_len 0 n in
    let is : x ≡ 0 + k = get_or-range_with_len 0 n k d (omega arith) in
    let low : x < n = omega arith in
    and_from _ _ (eq-eqb (row_claims x claims) 1 (h.rows x low)) (eq-eqb (col_claims x claims) 1 (h.cols x low)))
  where
    all_of : (p : ℕ → Bool) (xs : List ℕ) → All (λ x. p x ≡ true) xs → list_all p xs ≡ true
    all_of p [] h = refl
    all_of p (x ∷ xs) h = and_from (p x) (list_all p xs) (All-head (λ x. p x ≡ true) x xs h) (all_of p xs (All-tail (λ x. p x ≡ true) x xs h))

pub order_exists : (n : ℕ) (es : List Triple) (p q : ℕ → ℕ) → IsValid n es p q → Inside n es → AllPairs Differ es → levels_complete n (claims_after n es n) ≡ true
order_exists n es p q v inside once = complete_from n (claims_after n es n) (complete n es p q v inside once)
