-- The lists that a rank of topo sends, one row or column further.
use Rattle.std.proofs.Common.{ℕ, zero, suc, ◌+◌, ◌-◌, ◌*◌, drop, pos, ◌/◌, ◌<◌, ◌≤◌, ◌≡◌, ◌==◌, cond, eqb, List, [], ◌∷◌, ◌++◌, map, length, get_or, take, arith, inl, inr, refl, sym, ap, ◌∙◌, subst}
use Rattle.std.specs.List.{filter, range_with_len, slice_range}
use Rattle.std.proofs.lemmas.Bool.{cases_lt, eq-eqb, ne_eqb}
use Rattle.std.proofs.lemmas.Nat.{div-mul-add}
use Rattle.std.proofs.Math.Seq.{take-add}
use Rattle.std.proofs.lemmas.List.{map-append, get_or-take, get_or-drop, length-take}
use Rattle.std.proofs.lemmas.List.Elements.{filter-append}
use Rattle.std.proofs.lemmas.List.FromFn.{map-range_with_len_more}
use Rattle.bale_items.specs.declared.Item.{Item}
use Rattle.bale_items.specs.declared.triple.Triple.{Triple}
use Rattle.mtx_text.specs.Cells.{InOrder}
use Rattle.mtx_text.proofs.PlaceOrder.{before_parts}
use Rattle.app_topo.specs.Topos.{claims_of, claims_now, to_claim, number_at}

pub claims_more : (ranks size : ℕ) (numbers sums rows : List ℕ) (i : ℕ) → claims_of ranks size numbers sums (rows ++ i ∷ []) ≡ claims_of ranks size numbers sums rows ++ claims_of ranks size numbers sums (i ∷ [])
claims_more ranks size numbers sums rows i =
    ap (map (λ i. to_claim ranks i (number_at ranks sums i))) (filter-append (claims_now ranks size numbers sums) rows (i ∷ []))
    ∙ map-append (λ i. to_claim ranks i (number_at ranks sums i)) (filter (claims_now ranks size numbers sums) rows) (filter (claims_now ranks size numbers sums) (i ∷ []))

-- one own row more
pub rows_more : (ranks rank size k : ℕ) (numbers sums : List ℕ) (old new : List (ℕ × Item))
    → old ≡ claims_of ranks size numbers sums (map (λ k. k * ranks + rank) (range_with_len 0 k))
    → new ≡ old ++ claims_of ranks size numbers sums ((k * ranks + rank) ∷ [])
    → new ≡ claims_of ranks size numbers sums (map (λ k. k * ranks + rank) (range_with_len 0 (k + 1)))
rows_more ranks rank size k numbers sums old new so_far one =
    one ∙ ap (λ w. w ++ claims_of ranks size numbers sums ((k * ranks + rank) ∷ [])) so_far
    ∙ sym (claims_more ranks size numbers sums (map (λ k. k * ranks + rank) (range_with_len 0 k)) (k * ranks + rank))
    ∙ ap (claims_of ranks size numbers sums) (sym (map-range_with_len_more (λ k. k * ranks + rank) 0 k k (omega arith)))

-- an own row stands at its place
pub row_place : (ranks rank k n : ℕ) → rank < ranks → k < n → (k * ranks + rank) / ranks < n
row_place ranks rank k n own low = subst (λ m. m < n) (sym (div-mul-add k ranks rank own)) low

-- ---- Ordered columns

pub rows_rise : (columns : List Triple) (k l : ℕ) (d : Triple) → InOrder columns → k ≤ l → l < length columns → (get_or columns k d).i ≤ (get_or columns l d).i
rows_rise columns k l d h up low =
    elim (cases_lt k l) [
      | inl before ↦ elim (before_parts (get_or columns k d).i (get_or columns k d).j (get_or columns l d).i (get_or columns l d).j (h k l d before low)) [
        | inl less ↦ omega arith
        | inr same ↦ (let e : (get_or columns k d).i ≡ (get_or columns l d).i = same.0 in omega arith)
      ]
      | inr not_before ↦ (let same : k ≡ l = omega arith in subst (λ m. (get_or columns k d).i ≤ (get_or columns m d).i) same (omega arith))
    ]

abbrev pub in_column : ℕ → List Triple → List Triple
in_column c columns = filter (λ u. u.i == c) columns

pub none_in_front : (columns : List Triple) (c n : ℕ) → n ≤ length columns → ((k : ℕ) (d : Triple) → k < n → (get_or columns k d).i < c) → in_column c (take n columns) ≡ []
none_in_front [] c n size h = refl_for n
  where
    refl_for : (n : ℕ) → in_column c (take n []) ≡ []
    refl_for zero = refl
    refl_for (suc n) = refl
none_in_front (u ∷ us) c zero size h = refl
none_in_front (u ∷ us) c (suc n) size h =
    let here : u.i < c = h 0 u (omega arith) in
    ap (λ b. cond b (u ∷ in_column c (take n us)) (in_column c (take n us))) (ne_eqb u.i c (λ e. absurd (omega arith)))
    ∙ none_in_front us c n (omega arith) (λ k d l. h (suc k) d (omega arith))

pub none_behind : (columns : List Triple) (c n : ℕ) → n ≤ length columns → ((k : ℕ) (d : Triple) → n ≤ k → k < length columns → c + 1 ≤ (get_or columns k d).i) → in_column c (take n columns) ≡ in_column c columns
none_behind [] c n size h = nil_for n
  where
    nil_for : (n : ℕ) → in_column c (take n []) ≡ []
    nil_for zero = refl
    nil_for (suc n) = refl
none_behind (u ∷ us) c zero size h =
    let here : c + 1 ≤ u.i = h 0 u (omega arith) (omega arith) in
    sym (ap (λ b. cond b (u ∷ in_column c us) (in_column c us)) (ne_eqb u.i c (λ e. absurd (omega arith)))
    ∙ sym (none_behind us c zero (omega arith) (λ k d m l. h (suc k) d (omega arith) (omega arith))) ∙ refl)
none_behind (u ∷ us) c (suc n) size h =
    ap (λ ys. cond (eqb u.i c) (u ∷ ys) ys) (none_behind us c n (omega arith) (λ k d m l. h (suc k) d (omega arith) (omega arith)))

-- a read inside a list has no use for what stands for its end
pub row_same : (columns : List Triple) (k : ℕ) (d e : Triple) → k < length columns → (get_or columns k d).i ≡ (get_or columns k e).i
row_same [] k d e l = absurd (omega arith)
row_same (u ∷ us) zero d e l = refl
row_same (u ∷ us) (suc k) d e l = row_same us k d e (omega arith)

-- what stands before a place, and what stands from it on
pub below_last : (columns : List Triple) (k at : ℕ) (d e : Triple) → InOrder columns → k < at → at ≤ length columns → (get_or columns k d).i < (get_or columns (at - 1) e).i + 1
below_last columns k at d e ordered before within =
    let inside : at - 1 < length columns = omega (arith, before, within) in
    let rise : (get_or columns k d).i ≤ (get_or columns (at - 1) d).i = rows_rise columns k (at - 1) d ordered (omega (arith, before)) inside in
    let same : (get_or columns (at - 1) d).i ≡ (get_or columns (at - 1) e).i = row_same columns (at - 1) d e inside in
    omega arith

pub above_first : (columns : List Triple) (at k : ℕ) (d e : Triple) → InOrder columns → at ≤ k → k < length columns → (get_or columns at e).i ≤ (get_or columns k d).i
above_first columns at k d e ordered up low =
    let rise : (get_or columns at d).i ≤ (get_or columns k d).i = rows_rise columns at k d ordered up low in
    let same : (get_or columns at d).i ≡ (get_or columns at e).i = row_same columns at d e (omega (arith, up, low)) in
    omega arith

-- entries of one column alone
all_own : (c : ℕ) (us : List Triple) → ((k : ℕ) (d : Triple) → k < length us → (get_or us k d).i ≡ c) → in_column c us ≡ us
all_own c [] h = refl
all_own c (u ∷ us) h =
    ap (λ b. cond b (u ∷ in_column c us) (in_column c us)) (eq-eqb u.i c (h 0 u (omega arith)))
    ∙ ap (λ w. u ∷ w) (all_own c us (λ k d l. h (suc k) d (omega arith)))

-- the first entry of a column stands no later than the first one of later columns
pub in_turn : (columns : List Triple) (c from to : ℕ) → from ≤ length columns → ((k : ℕ) (d : Triple) → k < from → (get_or columns k d).i < c)
    → ((k : ℕ) (d : Triple) → to ≤ k → k < length columns → c + 1 ≤ (get_or columns k d).i) → from ≤ to
in_turn columns c from to size before behind =
    elim (cases_lt to from) [
      | inl less ↦ (let d : Triple = record { i = 0; j = 0; v = pos 0 } in
          let low : (get_or columns to d).i < c = before to d less in
          let high : c + 1 ≤ (get_or columns to d).i = behind to d (omega arith) (omega (arith, size)) in absurd (omega arith))
      | inr up ↦ omega arith
    ]

-- the entries of a column stand from its first one to the first one of later columns
pub column_is : (columns : List Triple) (c from to : ℕ) → from ≤ length columns → to ≤ length columns
    → ((k : ℕ) (d : Triple) → k < from → (get_or columns k d).i < c) → ((k : ℕ) (d : Triple) → from ≤ k → k < length columns → c ≤ (get_or columns k d).i)
    → ((k : ℕ) (d : Triple) → k < to → (get_or columns k d).i < c + 1) → ((k : ℕ) (d : Triple) → to ≤ k → k < length columns → c + 1 ≤ (get_or columns k d).i)
    → slice_range columns from to ≡ in_column c columns
column_is columns c from to size end before since until behind =
    let up : from ≤ to = in_turn columns c from to size before behind in
    let mid : List Triple = take (to - from) (drop from columns) in
    let all : from + (to - from) ≡ to = omega (arith, up) in
    let parts : take to columns ≡ take from columns ++ mid = sym (ap (λ n. take n columns) all) ∙ take-add from (to - from) columns in
    let own : in_column c mid ≡ mid = all_own c mid (λ k d l.
    let short : k < to - from = omega (arith, l, length-take (to - from) (drop from columns)) in
    let same : (get_or mid k d).i ≡ (get_or columns (from + k) d).i = ap (λ (u : Triple). u.i) (get_or-take (to - from) (drop from columns) k d short ∙ get_or-drop from columns k d) in
    let low : c ≤ (get_or columns (from + k) d).i = since (from + k) d (omega arith) (omega (arith, end)) in
    let high : (get_or columns (from + k) d).i < c + 1 = until (from + k) d (omega arith) in
    omega arith) in
    sym own ∙ ap (λ w. w ++ in_column c mid) (sym (none_in_front columns c from size before))
    ∙ sym (filter-append (λ u. eqb u.i c) (take from columns) mid) ∙ ap (in_column c) (sym parts) ∙ none_behind columns c to end behind
