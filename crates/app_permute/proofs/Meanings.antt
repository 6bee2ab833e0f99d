-- The matrices of permute and transpose, as finite maps.
use Rattle.std.proofs.Common.{◌≡◌, ℕ, zero, suc, ◌<◌, ℤ, true, List, [], ◌∷◌, Some, Contains, length, get_or, arith, refl, sym, ap₂, ◌∙◌}
use Rattle.std.specs.List.{AllPairs, range_with_len}
use Rattle.std.proofs.lemmas.List.Elements.{All-contains}
use Rattle.std.proofs.lemmas.List.FromFn.{get_or-range_with_len, length-range_with_len}
use Rattle.std.proofs.lemmas.List.Sorted.{Contains-permutation}
use Rattle.bale_items.specs.declared.triple.Triple.{Triple}
use Rattle.mtx_text.specs.Sparse.{Sparse, IsSparse, SamePlace}
use Rattle.mtx_text.specs.Cells.{InOrder, is_before}
use Rattle.mtx_text.specs.Maps.{at, Agree}
use Rattle.mtx_text.specs.Permutations.{Permutes}
use Rattle.mtx_text.specs.Written.{text_of}
use Rattle.mtx_text.proofs.Bands.{as_many}
use Rattle.mtx_text.proofs.FiniteMaps.{listed, mapped}
use Rattle.mtx_text.proofs.PlaceOrder.{not_same}
use Rattle.app_permute.specs.Reorderings.{number_among, reordering_of, transpose_of, IsPermuted, IsTransposed}
use Rattle.app_permute.proofs.Answers.{permuted_is, transposed_is}
use Rattle.app_permute.specs.Meanings.{PermuteMeans, TransposeMeans}

-- entries in order stand at places of their own, so they are a finite map
in_order : (m : Sparse) → InOrder m.entries → Agree m
in_order m order =
    let once : AllPairs (λ s t. ¬ SamePlace s t) m.entries = λ i j d l k same. apart (get_or m.entries i d) (get_or m.entries j d) (order i j d l k) same in
    record { listed = λ e t h. listed m.entries e t once h; mapped = λ i j v h. mapped m.entries i j v h }
  where
    apart : (s t : Triple) → is_before s t ≡ true → SamePlace s t → ⊥
    apart s t b same = not_same s.i s.j t.i t.j b same.row same.col

-- a permutation reaches each number
onto : (n : ℕ) (p : List ℕ) (k : ℕ) → Permutes n p → k < n → (i : ℕ) × (i < n) × (number_among p i ≡ k)
onto n p k h low =
    let there : get_or (range_with_len 0 n) k k ≡ k = get_or-range_with_len 0 n k k low ∙ omega arith in
    let c : Contains p k = Contains-permutation (range_with_len 0 n) p k h (k, omega (arith, length-range_with_len 0 n), there) in
    (c.0, omega (arith, c.1, as_many n p h), get_or_other p c.0 0 k c.1 ∙ c.2)
  where
    get_or_other : (xs : List ℕ) (i d e : ℕ) → i < length xs → get_or xs i d ≡ get_or xs i e
    get_or_other [] i d e l = absurd (omega arith)
    get_or_other (x ∷ xs) zero d e l = refl
    get_or_other (x ∷ xs) (suc i) d e l = get_or_other xs i d e (omega arith)

-- The place at row k and column l is the new one of a place at which the matrix has this value.
-- k = p(i), l = q(j) and A(i,j) = v for some i and j
-- of (0,1,9), p = 1, 2, 0 and q = 2, 0, 1: row 1, column 0 and the value 9
pub record ComesFrom (p q : List ℕ) (m : Sparse) (k l : ℕ) (v : ℤ) : Type 0 where
  pub i : ℕ
  pub j : ℕ
  pub row : number_among p i ≡ k
  pub col : number_among q j ≡ l
  pub value : at m i j ≡ Some v

comes_from : (m b : Sparse) (p q : List ℕ) → Permutes m.rows p → Permutes m.cols q → IsPermuted p q m b → (k l : ℕ) (v : ℤ) → at b k l ≡ Some v → ComesFrom p q m k l v
comes_from m b p q rows cols values k l v h =
    let t : Triple = record { i = k; j = l; v = v } in
    let inside : (k < m.rows) × (l < m.cols) = All-contains (λ (u : Triple). (u.i < m.rows) × (u.j < m.cols)) b.entries t values.inside (mapped b.entries k l v h) in
    let i = onto m.rows p k rows inside.0 in
    let j = onto m.cols q l cols inside.1 in
    record {
      i = i.0;
      j = j.0;
      row = i.2;
      col = j.2;
      value = sym (values.values i.0 j.0 i.1 j.1) ∙ ap₂ (λ a c. at b a c) i.2 j.2 ∙ h;
    }

pub permute_means : (m : Sparse) (p q : List ℕ) → IsSparse m → Permutes m.rows p → Permutes m.cols q → PermuteMeans p q m (text_of (reordering_of p q m))
permute_means m p q is rows cols =
    let values : IsPermuted p q m (reordering_of p q m) = permuted_is m p q rows cols is in
    record {
      matrix = reordering_of p q m;
      text = refl;
      rows = rows;
      cols = cols;
      values = values;
    }

pub transpose_means : (m : Sparse) → IsSparse m → TransposeMeans m (text_of (transpose_of m))
transpose_means m is =
    let values : IsTransposed m (transpose_of m) = transposed_is m is in
    record { matrix = transpose_of m; text = refl; values = values }

-- the matrix that permute's answer means has nothing but the values of A, each at its new place
pub nothing_else : (p q : List ℕ) (m : Sparse) (bytes : List ℕ) (means : PermuteMeans p q m bytes) → (k l : ℕ) (v : ℤ) → at means.matrix k l ≡ Some v → ComesFrom p q m k l v
nothing_else p q m bytes means = comes_from m means.matrix p q means.rows means.cols means.values

-- its entries are a finite map, and so are those of the matrix that transpose's answer means
pub permute_agrees : (p q : List ℕ) (m : Sparse) (bytes : List ℕ) (means : PermuteMeans p q m bytes) → Agree means.matrix
permute_agrees p q m bytes means = in_order means.matrix means.values.ordered

pub transpose_agrees : (m : Sparse) (bytes : List ℕ) (means : TransposeMeans m bytes) → Agree means.matrix
transpose_agrees m bytes means = in_order means.matrix means.values.ordered
