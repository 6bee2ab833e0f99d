-- A complete order is valid.
use Rattle.std.proofs.Common.{ℕ, zero, suc, ◌+◌, ◌-◌, ◌<◌, ◌≤◌, ◌≡◌, Bool, true, ◌&&◌, cond, eqb, List, [], ◌∷◌, length, get_or, take, reverse, All, arith, refl, sym, ap, ◌∙◌, subst}
use Rattle.std.specs.List.{Contains, list_all, range_with_len}
use Rattle.std.proofs.lemmas.Bool.{eq-eqb, eqb-true, and_parts}
use Rattle.std.proofs.lemmas.List.{length-reverse, get_or-reverse, get_or-take, length-take-le}
use Rattle.std.proofs.lemmas.List.FromFn.{length-range_with_len, get_or-range_with_len}
use Rattle.std.proofs.lemmas.List.Sorted.{IsPermutation-reverse, sum_by-IsPermutation}
use Rattle.bale_items.specs.declared.triple.Triple.{Triple}
use Rattle.list_laws.proofs.Sums.{total_same, total_const}
use Rattle.app_topo.specs.Triangular.{IsValid}
use Rattle.app_topo.specs.Levels.{Claim, row_claims, col_claims, claims_after, levels_complete, row_position, col_position}
use Rattle.app_topo.proofs.Counting.{a_place, only_place, count_total}
use Rattle.app_topo.proofs.LevelFacts.{AtEntry, rows_below, cols_below, at_entries, in_turn}

-- entries inside an n by n matrix
pub record Inside (n : ℕ) (es : List Triple) : Type 0 where
  pub row : All (λ (t : Triple). t.i < n) es
  pub col : All (λ (t : Triple). t.j < n) es

pub record Complete (n : ℕ) (claims : List Claim) : Type 0 where
  pub rows : (i : ℕ) → i < n → row_claims i claims ≡ 1
  pub cols : (j : ℕ) → j < n → col_claims j claims ≡ 1

-- an order of claims, the last first, as what a reader needs of it
record IsOrder (n : ℕ) (es : List Triple) (order : List Claim) : Type 0 where
  size : length order ≡ n
  rows : (i : ℕ) → i < n → row_claims i order ≡ 1
  cols : (j : ℕ) → j < n → col_claims j order ≡ 1
  row_low : All (λ (c : Claim). c.0 < n) order
  col_low : All (λ (c : Claim). c.1 < n) order
  entry : All (AtEntry es) order
  -- each entry of the row at position k is in the column of a later position
  above : (k : ℕ) (d : Claim) (t : Triple) → k < length order → Contains es t → t.i ≡ (get_or order k d).0 → (l : ℕ) × (k ≤ l) × (l < length order) × ((get_or order l d).1 ≡ t.j)

-- ---- Such an order is valid

row_is : (n : ℕ) (es : List Triple) (order : List Claim) (k i : ℕ) → IsOrder n es order → k < length order → i < n → (get_or order k (0, 0)).0 ≡ i → row_position order i ≡ k
row_is n es order k i h l low e = only_place (λ (c : Claim). eqb c.0 i) order k (0, 0) l (eq-eqb (get_or order k (0, 0)).0 i e) (h.rows i low)

col_is : (n : ℕ) (es : List Triple) (order : List Claim) (k j : ℕ) → IsOrder n es order → k < length order → j < n → (get_or order k (0, 0)).1 ≡ j → col_position order j ≡ k
col_is n es order k j h l low e = only_place (λ (c : Claim). eqb c.1 j) order k (0, 0) l (eq-eqb (get_or order k (0, 0)).1 j e) (h.cols j low)

-- each row has its position, and each column
row_at : (n : ℕ) (es : List Triple) (order : List Claim) (i : ℕ) → IsOrder n es order → i < n → (row_position order i < n) × ((get_or order (row_position order i) (0, 0)).0 ≡ i)
row_at n es order i h low =
    let one : row_claims i order ≡ 1 = h.rows i low in
    let k = a_place (λ (c : Claim). eqb c.0 i) order (0, 0) (omega arith) in
    let e : (get_or order k.0 (0, 0)).0 ≡ i = eqb-true (get_or order k.0 (0, 0)).0 i k.2 in
    let is : row_position order i ≡ k.0 = row_is n es order k.0 i h k.1 low e in
    (subst (λ m. m < n) (sym is) (subst (λ m. k.0 < m) h.size k.1), ap (λ m. (get_or order m (0, 0)).0) is ∙ e)

col_at : (n : ℕ) (es : List Triple) (order : List Claim) (j : ℕ) → IsOrder n es order → j < n → (col_position order j < n) × ((get_or order (col_position order j) (0, 0)).1 ≡ j)
col_at n es order j h low =
    let one : col_claims j order ≡ 1 = h.cols j low in
    let k = a_place (λ (c : Claim). eqb c.1 j) order (0, 0) (omega arith) in
    let e : (get_or order k.0 (0, 0)).1 ≡ j = eqb-true (get_or order k.0 (0, 0)).1 j k.2 in
    let is : col_position order j ≡ k.0 = col_is n es order k.0 j h k.1 low e in
    (subst (λ m. m < n) (sym is) (subst (λ m. k.0 < m) h.size k.1), ap (λ m. (get_or order m (0, 0)).1) is ∙ e)

valid_order : (n : ℕ) (es : List Triple) (order : List Claim) → Inside n es → IsOrder n es order → IsValid n es (row_position order) (col_position order)
valid_order n es order inside h =
    record {
      row_below = λ i low. (row_at n es order i h low).0;
      col_below = λ j low. (col_at n es order j h low).0;
      row_apart = λ i k a b e. sym (row_at n es order i h a).1 ∙ ap (λ m. (get_or order m (0, 0)).0) e ∙ (row_at n es order k h b).1;
      col_apart = λ i k a b e. sym (col_at n es order i h a).1 ∙ ap (λ m. (get_or order m (0, 0)).1) e ∙ (col_at n es order k h b).1;
      above = λ m d l.
          let t : Triple = get_or es m d in
          let low : t.i < n = inside.row m d l in
          let r = row_at n es order t.i h low in
          let x : ℕ = row_position order t.i in
          let later = h.above x (0, 0) t (subst (λ k. x < k) (sym h.size) r.0) (m, l, get_same es m d l) (sym r.1) in
          let y : col_position order t.j ≡ later.0 = col_is n es order later.0 t.j h later.2 (inside.col m d l) later.3 in
          subst (λ k. x ≤ k) (sym y) later.1;
      full = λ x low.
          let inside_it : x < length order = subst (λ k. x < k) (sym h.size) low in
          let c : Claim = get_or order x (0, 0) in
          let a : AtEntry es c = h.entry x (0, 0) inside_it in
          (a.entry, a.there, ap (row_position order) a.row ∙ row_is n es order x c.0 h inside_it (h.row_low x (0, 0) inside_it) refl, ap (col_position order) a.col ∙ col_is n es order x c.1 h inside_it (h.col_low x (0, 0) inside_it) refl);
    }
  where
    get_same : {X : Type 0} (xs : List X) (k : ℕ) (d : X) → k < length xs → get_or xs k (get_or xs k d) ≡ get_or xs k d
    get_same [] k d l = absurd (omega arith)
    get_same (x ∷ xs) zero d l = refl
    get_same (x ∷ xs) (suc k) d l = get_same xs k d (omega arith)

-- ---- The claims, the last first, are such an order

reversed_all : (P : Claim → Type 0) (xs : List Claim) → All P xs → All P (reverse xs)
reversed_all P xs h k d l =
    let size : length (reverse xs) ≡ length xs = length-reverse xs in
    subst P (sym (get_or-reverse xs k d (omega arith))) (h (length xs - 1 - k) d (omega arith))

pub complete_size : (n : ℕ) (claims : List Claim) → All (λ (c : Claim). c.0 < n) claims → Complete n claims → length claims ≡ n
complete_size n claims low h =
    sym (count_total n (λ (c : Claim). c.0) claims low) ∙ total_same n _ (λ _. 1) h.rows ∙ total_const n 1 ∙ omega arith

order_of : (n : ℕ) (es : List Triple) (t : ℕ) → Inside n es → Complete n (claims_after n es t) → IsOrder n es (reverse (claims_after n es t))
order_of n es t inside h =
    let claims : List Claim = claims_after n es t in
    let back : length (reverse claims) ≡ length claims = length-reverse claims in
    record {
      size = back ∙ complete_size n claims (rows_below n es t) h;
      rows = λ i low. sum_by-IsPermutation (λ (c : Claim). cond (eqb c.0 i) 1 0) claims (reverse claims) (IsPermutation-reverse claims) ∙ h.rows i low;
      cols = λ j low. sum_by-IsPermutation (λ (c : Claim). cond (eqb c.1 j) 1 0) claims (reverse claims) (IsPermutation-reverse claims) ∙ h.cols j low;
      row_low = reversed_all (λ (c : Claim). c.0 < n) claims (rows_below n es t);
      col_low = reversed_all (λ (c : Claim). c.1 < n) claims (cols_below n es t inside.col);
      entry = reversed_all (AtEntry es) claims (at_entries n es t);
      above = λ k d u l there row.
          let m : ℕ = length claims - 1 - k in
          let low : k < length claims = omega arith in
          let mine : get_or (reverse claims) k d ≡ get_or claims m d = get_or-reverse claims k d low in
          let turn : 0 < col_claims u.j (take (m + 1) claims) = in_turn n es t m d u (omega arith) there (row ∙ ap (λ (c : Claim). c.0) mine) in
          let at_it = a_place (λ (c : Claim). eqb c.1 u.j) (take (m + 1) claims) d turn in
          let cut : length (take (m + 1) claims) ≡ m + 1 = length-take-le (m + 1) claims (omega arith) in
          let j : ℕ = at_it.0 in
          let before : j < m + 1 = omega (arith, at_it.1) in
          let same : get_or (take (m + 1) claims) j d ≡ get_or claims j d = get_or-take (m + 1) claims j d before in
          let far : ℕ = length claims - 1 - j in
          let other : get_or (reverse claims) far d ≡ get_or claims j d = get_or-reverse claims far d (omega arith) ∙ ap (λ q. get_or claims q d) (omega arith) in
          (far, omega arith, omega arith, ap (λ (c : Claim). c.1) (other ∙ sym same) ∙ eqb-true _ u.j at_it.2);
    }

pub complete_parts : (n : ℕ) (claims : List Claim) → levels_complete n claims ≡ true → Complete n claims
complete_parts n claims h =
    record {
      rows = λ i low. (each i low).0;
      cols = λ j low. (each j low).1;
    }
  where
    all_true : (p : ℕ → Bool) (xs : List ℕ) → list_all p xs ≡ true → All (λ x. p x ≡ true) xs
    all_true p [] h k d l = absurd (omega arith)
    all_true p (x ∷ xs) h zero d l = (and_parts (p x) (list_all p xs) h).0
    all_true p (x ∷ xs) h (suc k) d l = all_true p xs (and_parts (p x) (list_all p xs) h).1 k d (omega arith)

    each : (x : ℕ) → x < n → (row_claims x claims ≡ 1) × (col_claims x claims ≡ 1)
    each x low =
        let test : ℕ → Bool = λ y. eqb (row_claims y claims) 1 && eqb (col_claims y claims) 1 in
        let here : test (get_or (range_with_len 0 n) x 0) ≡ true = all_true test (range_with_len 0 n) h x 0 (subst (λ k. x < k) (sym (length-range_with_len 0 n)) low) in
        let is : get_or (range_with_len 0 n) x 0 ≡ x = get_or-range_with_len 0 n x 0 low ∙ omega arith in
        let p = and_parts (eqb (row_claims x claims) 1) (eqb (col_claims x claims) 1) (subst (λ y. test y ≡ true) is here) in
        (eqb-true _ 1 p.0, eqb-true _ 1 p.1)

-- so the printed pair is valid
pub printed : (n : ℕ) (es : List Triple) → Inside n es → levels_complete n (claims_after n es n) ≡ true
    → IsValid n es (row_position (reverse (claims_after n es n))) (col_position (reverse (claims_after n es n)))
printed n es inside h = valid_order n es (reverse (claims_after n es n)) inside (order_of n es n inside (complete_parts n (claims_after n es n) h))
