-- Entries stay good where what a line stands for is put behind them.
use Rattle.std.proofs.Common.{◌≡◌, ℕ, zero, suc, ◌+◌, ◌≤◌, ◌<◌, ◌==◌, ◌&&◌, ◌||◌, Bool, true, false, List, [], ◌∷◌, ◌++◌, length, get_or, refl, sym, ◌∙◌, subst, inl, inr, length-append, append_assoc, arith}
use Rattle.std.proofs.Math.ListN.{get_or-append}
use Rattle.std.proofs.Math.Seq.{get_or-append_seam}
use Rattle.std.proofs.Math.Bool.{and_comm}
use Rattle.std.proofs.lemmas.Bool.{cases_Bool, both_ways, and_from, or_parts, cases_lt, eq-eqb, ne_eqb, cases_eq}
use Rattle.std.proofs.lemmas.List.Elements.{All-append}
use Rattle.std.proofs.lemmas.List.Folds.{list_any-append}
use Rattle.std.specs.List.{All, AllPairs}
use Rattle.std.specs.Prelude.{ℤ, pos, negsuc, neg_ℤ, nat_abs}
use Rattle.bale_items.specs.declared.triple.Triple.{Triple}
use Rattle.mtx_text.specs.declared.banner.Form.{Form}
use Rattle.mtx_text.specs.declared.banner.Symmetry.{Symmetry}
use Rattle.mtx_text.specs.declared.banner.Symmetry.TheVariants.{General, Symmetric, SkewSymmetric}
use Rattle.mtx_text.specs.declared.kind.Kind.TheVariants as kind
use Rattle.mtx_text.specs.declared.sizes.Sizes.{Sizes}
use Rattle.mtx_text.specs.Sparse.{SamePlace}
use Rattle.mtx_text.specs.Grammar.{is_general, has_place, stands_for}
use Rattle.mtx_text.proofs.HeadLines.{IsFrame}
use Rattle.mtx_text.proofs.EntryLines.{IsCell}

-- ---- entries

-- what the entries read so far keep
pub record IsGood (form : Form) (sizes : Sizes) (done : List Triple) : Type 0 where
  pub inside : All (λ t. IsCell form sizes t) done
  pub once : AllPairs (λ s t. ¬ SamePlace s t) done
  pub even : is_general form.symmetry ≡ false → (i j : ℕ) → has_place i j done ≡ has_place j i done

-- an entry that stands at no place of the others is at another place than each of them
apart : (done : List Triple) (t : Triple) → has_place t.i t.j done ≡ false → (k : ℕ) (d : Triple) → k < length done → SamePlace (get_or done k d) t → ⊥
apart [] t free k d h same = absurd (omega arith)
apart (x ∷ xs) t free zero d h same =
    let parts = or_parts (x.i == t.i && x.j == t.j) (has_place t.i t.j xs) free in
    both_ways _ parts.0 (and_from _ _ (eq-eqb x.i t.i same.row) (eq-eqb x.j t.j same.col))
apart (x ∷ xs) t free (suc k) d h same =
    let parts = or_parts (x.i == t.i && x.j == t.j) (has_place t.i t.j xs) free in
    apart xs t parts.1 k d (omega arith) same

once_more : (done : List Triple) (t : Triple) → AllPairs (λ s u. ¬ SamePlace s u) done → has_place t.i t.j done ≡ false
    → AllPairs (λ s u. ¬ SamePlace s u) (done ++ t ∷ [])
once_more done t once free i j d less within =
    let len : length (done ++ t ∷ []) ≡ length done + 1 = simp length-append in
    elim (cases_lt j (length done)) [
      | inl inner ↦
          let low : i < length done = omega arith in
          rw (get_or-append done (t ∷ []) d i low, get_or-append done (t ∷ []) d j inner) (once i j d less inner)
      | inr last ↦
          let at : j ≡ length done = omega arith in
          let low : i < length done = omega arith in
          rw (get_or-append done (t ∷ []) d i low, at, get_or-append_seam done t [] d) (apart done t free i d low)
    ]

-- ---- what a line stands for

size_of_minus : (v : ℤ) → nat_abs (neg_ℤ v) ≡ nat_abs v
size_of_minus (pos zero) = refl
size_of_minus (pos (suc n)) = refl
size_of_minus (negsuc n) = refl

abbrev flipped : Triple → ℤ → Triple
flipped t v = record { i = t.j; j = t.i; v = v }

first_only : (form : Form) (sizes : Sizes) (t : Triple) → IsCell form sizes t → (k : ℕ) (d : Triple) → k < 1 → IsCell form sizes (get_or (t ∷ []) k d)
first_only form sizes t cell zero d h = cell
first_only form sizes t cell (suc k) d h = absurd (omega arith)

crossed : (a b c : Bool) → (a || (b || (c || false))) ≡ (a || (c || (b || false)))
crossed true b c = refl
crossed false true true = refl
crossed false true false = refl
crossed false false true = refl
crossed false false false = refl

all_one : (form : Form) (sizes : Sizes) (done : List Triple) (t : Triple) → All (λ u. IsCell form sizes u) done → IsCell form sizes t
    → All (λ u. IsCell form sizes u) (done ++ t ∷ [])
all_one form sizes done t all cell =
    All-append (λ u. IsCell form sizes u) done (t ∷ []) all (λ k d h. first_only form sizes t cell k d h)

-- the place of an entry's mirror is free, once the entry itself stands
mirror_free : (done : List Triple) (t : Triple) → has_place t.i t.j done ≡ false → has_place t.j t.i done ≡ has_place t.i t.j done
    → (t.i ≡ t.j → ⊥) → has_place t.j t.i (done ++ t ∷ []) ≡ false
mirror_free done t free same off =
    rw (list_any-append (λ u. u.i == t.j && u.j == t.i) done (t ∷ []), same, free, ne_eqb t.i t.j off)

even_one : (done : List Triple) (t : Triple) → t.i ≡ t.j → ((i j : ℕ) → has_place i j done ≡ has_place j i done)
    → (i j : ℕ) → has_place i j (done ++ t ∷ []) ≡ has_place j i (done ++ t ∷ [])
even_one done t diagonal even i j =
    rw (list_any-append (λ u. u.i == i && u.j == j) done (t ∷ []), list_any-append (λ u. u.i == j && u.j == i) done (t ∷ []), even i j, diagonal, and_comm (t.j == i) (t.j == j))

even_two : (done : List Triple) (t : Triple) (v : ℤ) → ((i j : ℕ) → has_place i j done ≡ has_place j i done)
    → (i j : ℕ) → has_place i j (done ++ t ∷ flipped t v ∷ []) ≡ has_place j i (done ++ t ∷ flipped t v ∷ [])
even_two done t v even i j =
    rw (
      list_any-append (λ u. u.i == i && u.j == j) done (t ∷ flipped t v ∷ []),
      list_any-append (λ u. u.i == j && u.j == i) done (t ∷ flipped t v ∷ []),
      even i j,
      and_comm (t.i == i) (t.j == j),
      and_comm (t.j == i) (t.i == j),
    )
    (crossed (has_place j i done) (t.j == j && t.i == i) (t.i == j && t.j == i))

general-true : (s : Symmetry) → s ≡ General → is_general s ≡ true
general-true s e = rw e

good_one : (form : Form) (sizes : Sizes) (done : List Triple) (t : Triple) → IsGood form sizes done → IsCell form sizes t → has_place t.i t.j done ≡ false
    → (is_general form.symmetry ≡ false → t.i ≡ t.j) → IsGood form sizes (done ++ t ∷ [])
good_one form sizes done t good cell free diagonal = record {
  inside = all_one form sizes done t good.inside cell;
  once = once_more done t good.once free;
  even = λ h. even_one done t (diagonal h) (good.even h);
}

good_two : (form : Form) (sizes : Sizes) (done : List Triple) (t : Triple) (v : ℤ) → IsGood form sizes done → IsCell form sizes t → has_place t.i t.j done ≡ false
    → is_general form.symmetry ≡ false → (t.i ≡ t.j → ⊥) → IsCell form sizes (flipped t v) → IsGood form sizes (done ++ t ∷ flipped t v ∷ [])
good_two form sizes done t v good cell free mirrored off other =
    let whole : (done ++ t ∷ []) ++ flipped t v ∷ [] ≡ done ++ t ∷ flipped t v ∷ [] = append_assoc done (t ∷ []) (flipped t v ∷ []) in
    let second : has_place t.j t.i (done ++ t ∷ []) ≡ false = mirror_free done t free (good.even mirrored t.j t.i) off in
    let once = once_more (done ++ t ∷ []) (flipped t v) (once_more done t good.once free) second in
    let inside = all_one form sizes (done ++ t ∷ []) (flipped t v) (all_one form sizes done t good.inside cell) other in
    record {
      inside = subst (λ (w : List Triple). All (λ u. IsCell form sizes u) w) whole inside;
      once = subst (λ (w : List Triple). AllPairs (λ s u. ¬ SamePlace s u) w) whole once;
      even = λ h. even_two done t v (good.even h);
    }

flipped_cell : (form : Form) (sizes : Sizes) (t : Triple) (v : ℤ) → IsCell form sizes t → sizes.rows ≡ sizes.cols → nat_abs v ≡ nat_abs t.v
    → (form.kind ≡ kind.Pattern → v ≡ t.v) → IsCell form sizes (flipped t v)
flipped_cell form sizes t v cell square size same = record {
  row = rw square cell.col;
  col = rw (← square) cell.row;
  limit = rw size cell.limit;
  one = λ e. same e ∙ cell.one e;
  off = λ skew e. cell.off skew (sym e);
}

pub good_more : (form : Form) (sizes : Sizes) (done : List Triple) (t : Triple) (s : Symmetry) → form.symmetry ≡ s → IsFrame form sizes → IsGood form sizes done
    → IsCell form sizes t → has_place t.i t.j done ≡ false → IsGood form sizes (done ++ stands_for s t)
good_more form sizes done t General e frame good cell free =
    good_one form sizes done t good cell free (λ h. absurd (both_ways _ h (general-true form.symmetry e)))
good_more form sizes done t Symmetric e frame good cell free =
    let mirrored : is_general form.symmetry ≡ false = rw e in
    elim (cases_eq t.i t.j) [
      | inl diagonal ↦ rw (eq-eqb t.i t.j diagonal) (good_one form sizes done t good cell free (λ h. diagonal))
      | inr off ↦
          rw (ne_eqb t.i t.j off)
          (good_two form sizes done t t.v good cell free mirrored off (flipped_cell form sizes t t.v cell (frame.square mirrored) refl (λ k. refl)))
    ]
good_more form sizes done t SkewSymmetric e frame good cell free =
    let mirrored : is_general form.symmetry ≡ false = rw e in
    good_two form sizes done t (neg_ℤ t.v) good cell free mirrored (cell.off e)
    (flipped_cell form sizes t (neg_ℤ t.v) cell (frame.square mirrored) (size_of_minus t.v) (λ k. absurd (frame.plain k e)))

pub at_most_two : (s : Symmetry) (t : Triple) → length (stands_for s t) ≤ 2
at_most_two General t = omega arith
at_most_two Symmetric t = elim (cases_Bool (t.i == t.j)) [ inl h ↦ rw h (omega arith) | inr h ↦ rw h (omega arith) ]
at_most_two SkewSymmetric t = omega arith
