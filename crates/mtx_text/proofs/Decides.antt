-- Where no place comes twice in a draft, the draft decides.
use Rattle.std.proofs.Common.{◌≡◌, ℕ, zero, suc, ◌+◌, ◌==◌, ◌&&◌, false, List, [], ◌∷◌, ◌++◌, length, get_or, refl, ap, sym, subst, ◌∙◌, inl, inr, append_assoc, length-append, sub-one, arith}
use Rattle.std.proofs.Math.Seq.{get_or-append_seam}
use Rattle.std.proofs.lemmas.List.{append-nil}
use Rattle.std.proofs.lemmas.Bool.{cases_Bool, cases_eq, and_left, and_right, ne_eqb}
use Rattle.std.specs.List.{AllPairs}
use Rattle.std.specs.Prelude.{Result, Ok, Err, Option, neg_ℤ}
use Rattle.bale_items.specs.declared.triple.Triple.{Triple}
use Rattle.mtx_text.specs.declared.banner.Form.{Form}
use Rattle.mtx_text.specs.declared.banner.Symmetry.{Symmetry}
use Rattle.mtx_text.specs.declared.banner.Symmetry.TheVariants.{General, Symmetric, SkewSymmetric}
use Rattle.mtx_text.specs.declared.refusal.Reason.{Reason}
use Rattle.mtx_text.specs.declared.refusal.BadLine.{BadLine}
use Rattle.mtx_text.specs.declared.sizes.Sizes.{Sizes}
use Rattle.mtx_text.specs.Lines.{Line}
use Rattle.mtx_text.specs.Integers.{integer_of}
use Rattle.mtx_text.specs.Sparse.{SamePlace}
use Rattle.mtx_text.specs.Grammar.{cell_by, has_place, entry_of, stands_for, entries_of}
use Rattle.mtx_text.specs.code.Drafts.{Drafted, draft_of, verdict_at, verdict}
use Rattle.mtx_text.proofs.Steps.{draft_ok, draft_bad, draft_over, draft_few, draft_enough}
use Rattle.mtx_text.proofs.Walk.{step_ok, step_bad, over, few, enough}

abbrev pub Apart : List Triple → Type 0
Apart entries = AllPairs (λ s t. ¬ SamePlace s t) entries

tail_apart : (x : Triple) (xs : List Triple) → Apart (x ∷ xs) → Apart xs
tail_apart x xs apart i j d less high = apart (suc i) (suc j) d (omega arith) (omega arith)

other_place : (x t : Triple) → (SamePlace x t → ⊥) → (x.i == t.i && x.j == t.j) ≡ false
other_place x t apart =
    elim (cases_eq x.i t.i) [
      | inl row ↦
          elim (cases_eq x.j t.j) [
            | inl col ↦ absurd (apart (record { row = row; col = col }))
            | inr col ↦ and_right (x.i == t.i) (x.j == t.j) (ne_eqb x.j t.j col)
          ]
      | inr row ↦ and_left (x.i == t.i) (x.j == t.j) (ne_eqb x.i t.i row)
    ]

-- an entry that stands apart from those before it finds its place free
free_before : (done more : List Triple) (t : Triple) → Apart (done ++ t ∷ more) → has_place t.i t.j done ≡ false
free_before [] more t apart = refl
free_before (x ∷ xs) more t apart =
    let long : length (xs ++ t ∷ more) ≡ length xs + suc (length more) = length-append xs (t ∷ more) in
    let last : get_or (x ∷ (xs ++ t ∷ more)) (suc (length xs)) t ≡ t = get_or-append_seam xs t more t in
    let pair = apart 0 (suc (length xs)) t (omega arith) (omega arith) in
    let here : SamePlace x t → ⊥ = λ same. pair (subst (λ (w : Triple). SamePlace x w) (sym last) same) in
    rw (other_place x t here, free_before xs more t (tail_apart x (xs ++ t ∷ more) apart))

record Grown (done whole : List Triple) : Type 0 where
  more : List Triple
  is : whole ≡ done ++ more

grown_twice : (done next whole : List Triple) → Grown done next → Grown next whole → Grown done whole
grown_twice done next whole a b = record {
  more = a.more ++ b.more;
  is = b.is ∙ ap (λ l. l ++ b.more) a.is ∙ append_assoc done a.more b.more;
}

grown_same : (done : List Triple) → Grown done done
grown_same done = record { more = []; is = sym (append-nil done) }

grows_cell : (form : Form) (sizes : Sizes) (end : ℕ) (line : Line) (rest : List Line) (n : ℕ) (done : List Triple) (r : Result Triple Reason)
    → cell_by integer_of form sizes line.words ≡ r
    → ((t : Triple) → Grown (done ++ stands_for form.symmetry t) (draft_of form sizes end n (done ++ stands_for form.symmetry t) rest).entries)
    → Grown done (draft_of form sizes end (suc n) done (line ∷ rest)).entries
grows_cell form sizes end line rest n done (Ok t) is later =
    rw (draft_ok form sizes end (suc n) done (line ∷ rest) line rest t refl (omega arith) is, sub-one)
    (grown_twice done (done ++ stands_for form.symmetry t) _ (record { more = stands_for form.symmetry t; is = refl }) (later t))
grows_cell form sizes end line rest n done (Err why) is later =
    rw (draft_bad form sizes end (suc n) done (line ∷ rest) line rest why refl (omega arith) is) (grown_same done)

grows : (form : Form) (sizes : Sizes) (end : ℕ) (lines : List Line) (left : ℕ) (done : List Triple) → Grown done (draft_of form sizes end left done lines).entries
grows form sizes end [] zero done = rw (draft_enough form sizes end zero done [] refl refl) (grown_same done)
grows form sizes end [] (suc n) done = rw (draft_few form sizes end (suc n) done [] refl (omega arith)) (grown_same done)
grows form sizes end (line ∷ rest) zero done = rw (draft_over form sizes end zero done (line ∷ rest) line rest refl refl) (grown_same done)
grows form sizes end (line ∷ rest) (suc n) done = grows_cell form sizes end line rest n done (cell_by integer_of form sizes line.words) refl
    (λ t. grows form sizes end rest n (done ++ stands_for form.symmetry t))

-- what an entry line stands for begins with the entry
record Begins (t : Triple) (entries : List Triple) : Type 0 where
  more : List Triple
  is : entries ≡ t ∷ more

begins : (s : Symmetry) (t : Triple) → Begins t (stands_for s t)
begins General t = record { more = []; is = refl }
begins Symmetric t =
    elim (cases_Bool (t.i == t.j)) [
      | inl h ↦ record { more = []; is = rw h }
      | inr h ↦ record { more = record { i = t.j; j = t.i; v = t.v } ∷ []; is = rw h }
    ]
begins SkewSymmetric t = record { more = record { i = t.j; j = t.i; v = neg_ℤ t.v } ∷ []; is = refl }

place_free : (symmetry : Symmetry) (done whole : List Triple) (t : Triple) → Grown (done ++ stands_for symmetry t) whole → Apart whole → has_place t.i t.j done ≡ false
place_free symmetry done whole t grown apart =
    let first = begins symmetry t in
    let is : whole ≡ done ++ t ∷ (first.more ++ grown.more) =
    grown.is ∙ ap (λ l. (done ++ l) ++ grown.more) first.is ∙ append_assoc done (t ∷ first.more) grown.more in
    free_before done (first.more ++ grown.more) t (subst (λ (w : List Triple). Apart w) is apart)

entry_ok : (form : Form) (sizes : Sizes) (done : List Triple) (words : List (List ℕ)) (t : Triple) → cell_by integer_of form sizes words ≡ Ok t
    → has_place t.i t.j done ≡ false → entry_of form sizes done words ≡ Ok t
unfolding entry_of
entry_ok form sizes done words t is free = rw (is, free)

entry_bad : (form : Form) (sizes : Sizes) (done : List Triple) (words : List (List ℕ)) (why : Reason) → cell_by integer_of form sizes words ≡ Err why
    → entry_of form sizes done words ≡ Err why
unfolding entry_of
entry_bad form sizes done words why is = rw is

decides_cell : (form : Form) (sizes : Sizes) (end : ℕ) (line : Line) (rest : List Line) (n : ℕ) (done : List Triple) (r : Result Triple Reason)
    → cell_by integer_of form sizes line.words ≡ r
    → ((t : Triple) → Apart (draft_of form sizes end n (done ++ stands_for form.symmetry t) rest).entries
    → entries_of form sizes end n (done ++ stands_for form.symmetry t) rest ≡ verdict (draft_of form sizes end n (done ++ stands_for form.symmetry t) rest))
    → Apart (draft_of form sizes end (suc n) done (line ∷ rest)).entries
    → entries_of form sizes end (suc n) done (line ∷ rest) ≡ verdict (draft_of form sizes end (suc n) done (line ∷ rest))
decides_cell form sizes end line rest n done (Ok t) is later apart =
    let next = done ++ stands_for form.symmetry t in
    let same : draft_of form sizes end (suc n) done (line ∷ rest) ≡ draft_of form sizes end n next rest =
    draft_ok form sizes end (suc n) done (line ∷ rest) line rest t refl (omega arith) is ∙ ap (λ m. draft_of form sizes end m next rest) (sub-one (suc n)) in
    let apart_next : Apart (draft_of form sizes end n next rest).entries = subst (λ (w : Drafted). Apart w.entries) same apart in
    let free = place_free form.symmetry done (draft_of form sizes end n next rest).entries t (grows form sizes end rest n next) apart_next in
    let step = step_ok form sizes end (suc n) done (line ∷ rest) line rest t refl (omega arith) (entry_ok form sizes done line.words t is free) in
    step ∙ ap (λ m. entries_of form sizes end m next rest) (sub-one (suc n)) ∙ later t apart_next ∙ ap verdict (sym same)
decides_cell form sizes end line rest n done (Err why) is later apart =
    let same = draft_bad form sizes end (suc n) done (line ∷ rest) line rest why refl (omega arith) is in
    step_bad form sizes end (suc n) done (line ∷ rest) line rest why refl (omega arith) (entry_bad form sizes done line.words why is) ∙ ap verdict (sym same)

pub decides : (form : Form) (sizes : Sizes) (end : ℕ) (lines : List Line) (left : ℕ) (done : List Triple) → Apart (draft_of form sizes end left done lines).entries
    → entries_of form sizes end left done lines ≡ verdict (draft_of form sizes end left done lines)
decides form sizes end [] zero done apart =
    enough form sizes end zero done [] refl refl ∙ ap verdict (sym (draft_enough form sizes end zero done [] refl refl))
decides form sizes end [] (suc n) done apart =
    few form sizes end (suc n) done [] refl (omega arith) ∙ ap verdict (sym (draft_few form sizes end (suc n) done [] refl (omega arith)))
decides form sizes end (line ∷ rest) zero done apart =
    over form sizes end zero done (line ∷ rest) line rest refl refl ∙ ap verdict (sym (draft_over form sizes end zero done (line ∷ rest) line rest refl refl))
decides form sizes end (line ∷ rest) (suc n) done apart =
    decides_cell form sizes end line rest n done (cell_by integer_of form sizes line.words) refl
    (λ t. decides form sizes end rest n (done ++ stands_for form.symmetry t)) apart

-- the answer of a draft whose entries, read through a slice, stand apart
pub decided : (form : Form) (sizes : Sizes) (end : ℕ) (lines : List Line) (left : ℕ) (entries slice : List Triple) (stop : Option BadLine)
    → slice ≡ entries → Apart slice → record { entries = entries; stop = stop } ≡ draft_of form sizes end left [] lines
    → entries_of form sizes end left [] lines ≡ verdict_at entries stop
decided form sizes end lines left entries slice stop same apart is =
    let here : Apart entries = subst (λ (w : List Triple). Apart w) same apart in
    decides form sizes end lines left [] (subst (λ (w : Drafted). Apart w.entries) is here) ∙ ap verdict (sym is)
