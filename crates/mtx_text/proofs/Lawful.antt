-- The matrix of a text keeps what every matrix keeps.
use Rattle.std.proofs.Common.{◌≡◌, ℕ, ◌+◌, ◌*◌, List, [], ◌∷◌, length, drop, subst, inl, inr, nat_lt, arith}
use Rattle.std.proofs.lemmas.Bool.{cases_Bool}
use Rattle.std.specs.Prelude.{Ok}
use Rattle.bale_items.specs.declared.triple.Triple.{Triple}
use Rattle.mtx_text.specs.declared.banner.Form.{Form}
use Rattle.mtx_text.specs.declared.banner.Symmetry.TheVariants.{SkewSymmetric}
use Rattle.mtx_text.specs.declared.kind.Kind.TheVariants as kind
use Rattle.mtx_text.specs.declared.sizes.Sizes.{Sizes}
use Rattle.mtx_text.specs.Lines.{Line, lines_of, lines_from}
use Rattle.mtx_text.specs.Integers.{integer_of}
use Rattle.mtx_text.specs.Sparse.{Sparse, IsSparse}
use Rattle.mtx_text.specs.Grammar.{◌>>=◌, in_line, sizes_by, entries_of, form_of, first_words, body_of, lines_read, matrix_of}
use Rattle.mtx_text.proofs.Given.{ran, in_line-ok}
use Rattle.mtx_text.proofs.HeadLines.{IsFrame, form_in, sizes_in}
use Rattle.mtx_text.proofs.ReadLines.{IsRead, entries_good}

-- a list of good entries with its sizes is a matrix
sparse_of : (form : Form) (sizes : Sizes) (entries : List Triple) → IsFrame form sizes → IsRead form sizes (2 * sizes.entries) entries
    → IsSparse (record { rows = sizes.rows; cols = sizes.cols; kind = form.kind; entries = entries })
sparse_of form sizes entries frame read = record {
  tall = frame.tall;
  wide = frame.wide;
  few = omega (arith, read.few, frame.short);
  inside = λ k d h.
      let cell = read.good.inside k d h in
      record { row = cell.row; col = cell.col; limit = cell.limit; one = cell.one };
  once = read.good.once;
}

sized_body : (form : Form) (sizes : Sizes) (end : ℕ) (rest : List Line) (m : Sparse) → IsFrame form sizes
    → (entries_of form sizes end sizes.entries [] rest >>= λ entries. Ok (record { rows = sizes.rows; cols = sizes.cols; kind = form.kind; entries = entries })) ≡ Ok m
    → IsSparse m
sized_body form sizes end rest m frame h =
    let made : List Triple → Sparse = λ entries. record { rows = sizes.rows; cols = sizes.cols; kind = form.kind; entries = entries } in
    let r = ran (entries_of form sizes end sizes.entries [] rest) (λ entries. Ok (made entries)) m h in
    let same : made r.x ≡ m = let e = r.then_ in cc in
    subst (λ (w : Sparse). IsSparse w) same (sparse_of form sizes r.x frame (entries_good form sizes end sizes.entries rest r.x frame r.first))

body_in : (form : Form) (end : ℕ) (lines : List Line) (m : Sparse) → (form.kind ≡ kind.Pattern → form.symmetry ≡ SkewSymmetric → ⊥)
    → body_of form end lines ≡ Ok m → IsSparse m
unfolding body_of
body_in form end [] m plain h = cc
body_in form end (line ∷ rest) m plain h =
    let r = ran (in_line line.number (sizes_by integer_of form line.words))
    (λ sizes. entries_of form sizes end sizes.entries [] rest >>= λ entries. Ok (record { rows = sizes.rows; cols = sizes.cols; kind = form.kind; entries = entries })) m h in
    let frame = sizes_in form line.words r.x plain (in_line-ok line.number (sizes_by integer_of form line.words) r.x r.first) in
    sized_body form r.x end rest m frame r.then_

read_in : (lines : List (List ℕ)) (m : Sparse) → lines_read lines ≡ Ok m → IsSparse m
unfolding lines_read
read_in lines m h =
    let r = ran (in_line 1 (form_of (first_words lines))) (λ form. body_of form (length lines + 1) (lines_from 2 (drop 1 lines))) m h in
    body_in r.x (length lines + 1) (lines_from 2 (drop 1 lines)) m
    (form_in (first_words lines) r.x (in_line-ok 1 (form_of (first_words lines)) r.x r.first)) r.then_

pub lawful : (text : List ℕ) (m : Sparse) → matrix_of text ≡ Ok m → IsSparse m
unfolding matrix_of
lawful text m h =
    elim (cases_Bool (nat_lt 16_777_216 (length text))) [
      | inl long ↦
          let bad = rw long at h in
          cc
      | inr within ↦ read_in (lines_of text) m (rw within at h)
    ]
