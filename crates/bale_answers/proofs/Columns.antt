-- The lines of histo and ig, by the matrix as a finite map.
use Rattle.std.proofs.Common.{◌≡◌, ◌≢◌, ℕ, zero, suc, ◌+◌, ◌<◌, ◌==◌, ℤ, pos, ◌+ℤ◌, false, cond, eqb, List, [], ◌∷◌, ◌++◌, map, get_or, Option, None, arith, inl, inr, refl, sym, ap, ap₂, ◌∙◌, subst, append-nil}
use Rattle.std.specs.Prelude.{is_some, if◌then◌else◌}
use Rattle.std.specs.List.{All, AllPairs, filter, flat_map, fold, range_with_len}
use Rattle.std.proofs.lemmas.Bool.{cases_Bool, cases_eq, eq-eqb, ne_eqb}
use Rattle.std.proofs.lemmas.List.Concat.{flat_map-append}
use Rattle.std.proofs.lemmas.List.Elements.{All-head, All-tail}
use Rattle.std.proofs.Math.IntN.{+ℤ_assoc, +ℤ_comm, +ℤ_idl, +ℤ_idr}
use Rattle.bale_items.specs.declared.triple.Triple.{Triple}
use Rattle.list_laws.specs.Sums.{total}
use Rattle.list_laws.proofs.Sums.{total_same, total_zero, total_one}
use Rattle.mtx_text.specs.Sparse.{Sparse, IsSparse, SamePlace}
use Rattle.mtx_text.specs.Maps.{is_at, value_at}
use Rattle.mtx_text.proofs.PlaceOrder.{pairs_head, pairs_tail}
use Rattle.mtx_text.proofs.Raised.{value_first, value_later, at_from, at_parts}
use Rattle.mtx_text.proofs.Shuffles.{range_more}
use Rattle.sparse_rows.proofs.Doubles.{one_if}
use Rattle.app_topo.proofs.Counting.{count_cons}
use Rattle.app_histo_ig.specs.HistoLines.{in_column, histo_line, histo_lines}
use Rattle.app_histo_ig.specs.IgLines.{column_sum, ig_line, ig_lines}
use Rattle.app_histo_ig.specs.Meanings.{entries_in_column, or_zero, sum_upto, sum_in, HistoMeans, IgMeans}

abbrev Apart : Triple → Triple → Type 0
Apart s t = ¬ SamePlace s t

-- ---- One entry more

-- of entries at places of their own, at the place of the first no other stands
nothing_else : (t : Triple) (ts : List Triple) → All (Apart t) ts → value_at ts t.i t.j ≡ None
nothing_else t [] apart = refl
nothing_else t (u ∷ ts) apart =
    elim (cases_Bool (is_at t.i t.j u)) [
      | inl here ↦ (let p = at_parts t.i t.j u here in absurd (All-head (Apart t) u ts apart (record { row = sym p.0; col = sym p.1 })))
      | inr away ↦ value_later t.i t.j u ts away ∙ nothing_else t ts (All-tail (Apart t) u ts apart)
    ]

-- in another column, or another row, the map is as it was
not_here : (i j : ℕ) (t : Triple) → ((t.i ≡ i) × (t.j ≡ j) → ⊥) → is_at i j t ≡ false
not_here i j t other =
    elim (cases_Bool (is_at i j t)) [ inl here ↦ absurd (other (at_parts i j t here)) | inr away ↦ away ]

other_column : (j i : ℕ) (t : Triple) (ts : List Triple) → t.j ≢ j → value_at (t ∷ ts) i j ≡ value_at ts i j
other_column j i t ts other = value_later i j t ts (not_here i j t (λ p. other p.1))

other_row : (j i : ℕ) (t : Triple) (ts : List Triple) → i ≢ t.i → value_at (t ∷ ts) i j ≡ value_at ts i j
other_row j i t ts other = value_later i j t ts (not_here i j t (λ p. other (sym p.0)))

-- ---- How many entries a column has

abbrev one_at : List Triple → ℕ → ℕ → ℕ
one_at ts j i = if is_some (value_at ts i j) then 1 else 0

no_rows : (n j : ℕ) → total n (one_at [] j) ≡ 0
no_rows n j = total_zero n (one_at [] j) (λ i l. refl)

counted_rows : (n j : ℕ) (ts : List Triple) → All (λ t. t.i < n) ts → AllPairs Apart ts → in_column j ts ≡ total n (one_at ts j)
counted_rows n j [] low once = sym (no_rows n j)
counted_rows n j (t ∷ ts) low once =
    let rest : in_column j ts ≡ total n (one_at ts j) = counted_rows n j ts (All-tail (λ t. t.i < n) t ts low) (pairs_tail Apart t ts once) in
    let more : in_column j (t ∷ ts) ≡ one_if (eqb t.j j) + in_column j ts = count_cons (λ (e : Triple). eqb e.j j) t ts in
    elim (cases_eq t.j j) [
      | inl here ↦
          let low_row : t.i < n = All-head (λ t. t.i < n) t ts low in
          let one : one_if (eqb t.j j) ≡ 1 = ap one_if (eq-eqb t.j j here) in
          let now : one_at (t ∷ ts) j t.i ≡ 1 = ap (λ (o : Option ℤ). if is_some o then 1 else 0) (value_first t.i j t ts (at_from t.i j t refl here)) in
          let was : one_at ts j t.i ≡ 0 =
          ap (λ k. one_at ts k t.i) (sym here) ∙ ap (λ (o : Option ℤ). if is_some o then 1 else 0) (nothing_else t ts (pairs_head Apart t ts once)) in
          let raised : total n (one_at (t ∷ ts) j) + one_at ts j t.i ≡ total n (one_at ts j) + one_at (t ∷ ts) j t.i =
          total_one n (one_at ts j) (one_at (t ∷ ts) j) t.i low_row (λ k other. ap (λ (o : Option ℤ). if is_some o then 1 else 0) (sym (other_row j k t ts other))) in
          omega arith
      | inr other ↦
          let none : one_if (eqb t.j j) ≡ 0 = ap one_if (ne_eqb t.j j other) in
          let same : total n (one_at (t ∷ ts) j) ≡ total n (one_at ts j) =
          total_same n (one_at (t ∷ ts) j) (one_at ts j) (λ k l. ap (λ (o : Option ℤ). if is_some o then 1 else 0) (other_column j k t ts other)) in
          omega arith
    ]

-- ---- The sum of a column

sum_same : (n : ℕ) (f g : ℕ → ℤ) → ((i : ℕ) → i < n → f i ≡ g i) → sum_upto n f ≡ sum_upto n g
sum_same zero f g h = refl
sum_same (suc n) f g h = ap₂ (λ a b. a +ℤ b) (sum_same n f g (λ i l. h i (omega arith))) (h n (omega arith))

sum_none : (n j : ℕ) → sum_upto n (λ i. or_zero (value_at [] i j)) ≡ pos 0
sum_none zero j = refl
sum_none (suc n) j = ap (λ a. a +ℤ pos 0) (sum_none n j)

-- one value more, in one row
sum_one : (n : ℕ) (f g : ℕ → ℤ) (i : ℕ) (v : ℤ) → i < n → ((k : ℕ) → k ≢ i → g k ≡ f k) → g i ≡ f i +ℤ v → sum_upto n g ≡ sum_upto n f +ℤ v
sum_one zero f g i v low same more = absurd (omega arith)
sum_one (suc n) f g i v low same more =
    elim (cases_eq n i) [
      | inl here ↦
          let rest : sum_upto n g ≡ sum_upto n f = sum_same n g f (λ k l. same k (λ e. absurd (omega arith))) in
          let last : g n ≡ f n +ℤ v = subst (λ k. g k ≡ f k +ℤ v) (sym here) more in
          ap₂ (λ a b. a +ℤ b) rest last ∙ sym (+ℤ_assoc (sum_upto n f) (f n) v)
      | inr other ↦
          let rest : sum_upto n g ≡ sum_upto n f +ℤ v = sum_one n f g i v (omega arith) same more in
          let last : g n ≡ f n = same n other in
          ap₂ (λ a b. a +ℤ b) rest last ∙ +ℤ_assoc (sum_upto n f) v (f n)
          ∙ ap (λ w. sum_upto n f +ℤ w) (+ℤ_comm v (f n)) ∙ sym (+ℤ_assoc (sum_upto n f) (f n) v)
    ]

-- values are added from the left, beginning with any number
from_any : (z : ℤ) (vs : List ℤ) → fold ◌+ℤ◌ z vs ≡ z +ℤ fold ◌+ℤ◌ (pos 0) vs
from_any z [] = sym (+ℤ_idr z)
from_any z (v ∷ vs) =
    from_any (z +ℤ v) vs ∙ +ℤ_assoc z v (fold ◌+ℤ◌ (pos 0) vs)
    ∙ ap (λ w. z +ℤ w) (sym (from_any (pos 0 +ℤ v) vs ∙ ap (λ w. w +ℤ fold ◌+ℤ◌ (pos 0) vs) (+ℤ_idl v)))

abbrev column_of : ℕ → List Triple → List ℤ
column_of j ts = map (λ t. t.v) (filter (λ t. t.j == j) ts)

summed_rows : (n j : ℕ) (ts : List Triple) → All (λ t. t.i < n) ts → AllPairs Apart ts → column_sum j ts ≡ sum_upto n (λ i. or_zero (value_at ts i j))
summed_rows n j [] low once = sym (sum_none n j)
summed_rows n j (t ∷ ts) low once =
    let sums : List Triple → ℤ = λ us. sum_upto n (λ i. or_zero (value_at us i j)) in
    let rest : column_sum j ts ≡ sums ts = summed_rows n j ts (All-tail (λ t. t.i < n) t ts low) (pairs_tail Apart t ts once) in
    elim (cases_eq t.j j) [
      | inl here ↦
          let now : or_zero (value_at (t ∷ ts) t.i j) ≡ t.v = ap or_zero (value_first t.i j t ts (at_from t.i j t refl here)) in
          let was : or_zero (value_at ts t.i j) ≡ pos 0 =
          ap (λ k. or_zero (value_at ts t.i k)) (sym here) ∙ ap or_zero (nothing_else t ts (pairs_head Apart t ts once)) in
          let raised : sums (t ∷ ts) ≡ sums ts +ℤ t.v =
          sum_one n (λ i. or_zero (value_at ts i j)) (λ i. or_zero (value_at (t ∷ ts) i j)) t.i t.v (All-head (λ t. t.i < n) t ts low)
          (λ k other. ap or_zero (other_row j k t ts other)) (now ∙ sym (ap (λ w. w +ℤ t.v) was ∙ +ℤ_idl t.v)) in
          let first : column_sum j (t ∷ ts) ≡ t.v +ℤ column_sum j ts =
          ap (λ b. fold ◌+ℤ◌ (pos 0) (map (λ (u : Triple). u.v) (cond b (t ∷ filter (λ u. u.j == j) ts) (filter (λ u. u.j == j) ts)))) (eq-eqb t.j j here)
          ∙ from_any (pos 0 +ℤ t.v) (column_of j ts) ∙ ap (λ w. w +ℤ column_sum j ts) (+ℤ_idl t.v) in
          first ∙ +ℤ_comm t.v (column_sum j ts) ∙ ap (λ w. w +ℤ t.v) rest ∙ sym raised
      | inr other ↦
          let same : sums (t ∷ ts) ≡ sums ts = sum_same n _ _ (λ k l. ap or_zero (other_column j k t ts other)) in
          ap (λ b. fold ◌+ℤ◌ (pos 0) (map (λ (u : Triple). u.v) (cond b (t ∷ filter (λ u. u.j == j) ts) (filter (λ u. u.j == j) ts)))) (ne_eqb t.j j other)
          ∙ rest ∙ sym same
    ]

-- ---- The lines

rows_low : (m : Sparse) → IsSparse m → All (λ t. t.i < m.rows) m.entries
rows_low m is k d l = (is.inside k d l).row

lines_upto : (m : Sparse) (n : ℕ) → IsSparse m → histo_lines m.entries n ≡ flat_map (λ j. histo_line j (entries_in_column m j)) (range_with_len 0 n)
lines_upto m zero is = refl
lines_upto m (suc n) is =
    let line : ℕ → List ℕ = λ j. histo_line j (entries_in_column m j) in
    let last : in_column n m.entries ≡ entries_in_column m n = counted_rows m.rows n m.entries (rows_low m is) is.once in
    let next : suc n ≡ n + 1 = omega arith in
    ap₂ (λ a b. a ++ histo_line n b) (lines_upto m n is) last
    ∙ ap (λ w. flat_map line (range_with_len 0 n) ++ w) (sym (append-nil (line n)))
    ∙ sym (ap (λ k. flat_map line (range_with_len 0 k)) next ∙ ap (flat_map line) (range_more n) ∙ flat_map-append line (range_with_len 0 n) (n ∷ []))

pub histo_means : (m : Sparse) → IsSparse m → HistoMeans m (histo_lines m.entries m.cols)
histo_means m is = lines_upto m m.cols is

same_lines : (f g : Triple → List ℕ) (ts : List Triple) → All (λ t. f t ≡ g t) ts → flat_map f ts ≡ flat_map g ts
same_lines f g [] h = refl
same_lines f g (t ∷ ts) h = ap₂ (λ a b. a ++ b) (All-head (λ t. f t ≡ g t) t ts h) (same_lines f g ts (All-tail (λ t. f t ≡ g t) t ts h))

pub ig_means : (m : Sparse) → IsSparse m → IgMeans m (ig_lines m.entries)
ig_means m is =
    same_lines (λ t. ig_line t.i t.j (column_sum t.j m.entries)) (λ t. ig_line t.i t.j (sum_in m t.j)) m.entries (λ k d l.
    let t : Triple = get_or m.entries k d in
    ap (ig_line t.i t.j) (summed_rows m.rows t.j m.entries (rows_low m is) is.once))
