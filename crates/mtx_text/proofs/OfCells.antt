-- Cells in order are the entries of a matrix.
use Rattle.std.proofs.Common.{ℕ, ◌≤◌, ◌≡◌, true, List, [], length, get_or, inl, inr, sym, subst}
use Rattle.std.specs.List.{All, AllPairs}
use Rattle.bale_items.specs.declared.triple.Triple.{Triple}
use Rattle.mtx_text.specs.declared.kind.Kind.{Kind}
use Rattle.mtx_text.specs.Sparse.{Sparse, IsSparse, IsEntry, SamePlace}
use Rattle.mtx_text.specs.Cells.{InOrder, is_before, with_value_raised, sparse}
use Rattle.mtx_text.proofs.PlaceOrder.{not_same}
use Rattle.mtx_text.proofs.Raised.{greater}
use Rattle.mtx_text.proofs.Gathered.{raised_keeps}
use Rattle.std.proofs.lemmas.Bool.{cases_Bool, cond-true, cond-false}
use Rattle.std.specs.Prelude.{int_lt}

pub lawful_apart : (rows cols : ℕ) (kind : Kind) (cells : List Triple) → rows ≤ 16_384 → cols ≤ 16_384 → length cells ≤ 524_288
    → All (λ t. IsEntry (sparse rows cols kind []) t) cells → AllPairs (λ s t. ¬ SamePlace s t) cells → IsSparse (sparse rows cols kind cells)
lawful_apart rows cols kind cells tall wide few inside once = record {
  tall = tall;
  wide = wide;
  few = few;
  inside = λ k d l. (let h : IsEntry (sparse rows cols kind []) (get_or cells k d) = inside k d l in record { row = h.row; col = h.col; limit = h.limit; one = h.one });
  once = once;
}

pub lawful : (rows cols : ℕ) (kind : Kind) (cells : List Triple) → rows ≤ 16_384 → cols ≤ 16_384 → length cells ≤ 524_288
    → All (λ t. IsEntry (sparse rows cols kind []) t) cells → InOrder cells → IsSparse (sparse rows cols kind cells)
lawful rows cols kind cells tall wide few inside order = record {
  tall = tall;
  wide = wide;
  few = few;
  inside = λ k d l. (let h : IsEntry (sparse rows cols kind []) (get_or cells k d) = inside k d l in record { row = h.row; col = h.col; limit = h.limit; one = h.one });
  once = λ i j d l m same. apart (get_or cells i d) (get_or cells j d) (order i j d l m) same;
}
  where
    apart : (s t : Triple) → is_before s t ≡ true → SamePlace s t → ⊥
    apart s t b same = not_same s.i s.j t.i t.j b same.row same.col

-- of two entries at one place, that with the greater value is one too
pub greater_entry : (m : Sparse) (s t : Triple) → s.i ≡ t.i → s.j ≡ t.j → IsEntry m s → IsEntry m t → IsEntry m (greater s t)
greater_entry m s t e f a b =
    elim (cases_Bool (int_lt t.v s.v)) [
      | inl h ↦ subst (λ v. IsEntry m (record { i = s.i; j = s.j; v = v })) (sym (cond-true (int_lt t.v s.v) s.v t.v h)) a
      | inr h ↦ subst (λ v. IsEntry m (record { i = s.i; j = s.j; v = v })) (sym (cond-false (int_lt t.v s.v) s.v t.v h))
          (subst (λ i. IsEntry m (record { i = i; j = s.j; v = t.v })) (sym e) (subst (λ j. IsEntry m (record { i = t.i; j = j; v = t.v })) (sym f) b))
    ]

-- a value raised inside the matrix leaves the cells inside it
pub raised_inside : (rows cols : ℕ) (kind : Kind) (t : Triple) (cells : List Triple) → IsEntry (sparse rows cols kind []) t
    → All (λ u. IsEntry (sparse rows cols kind []) u) cells → All (λ u. IsEntry (sparse rows cols kind []) u) (with_value_raised t cells)
raised_inside rows cols kind t cells e all =
    raised_keeps (λ u. IsEntry (sparse rows cols kind []) u) (greater_entry (sparse rows cols kind [])) t cells e all
