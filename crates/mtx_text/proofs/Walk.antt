-- The entries of entry lines, one line at a time.
use Rattle.std.proofs.Common.{◌≡◌, ℕ, zero, suc, ◌-◌, ◌<◌, List, [], ◌∷◌, ◌++◌, length, take, refl, sym, ◌∙◌, nat_lt, sub-one, inl, inr, arith}
use Rattle.std.proofs.lemmas.Bool.{cases_lt, lt-ltb, le-ltb}
use Rattle.std.specs.Prelude.{Result, Ok, Err}
use Rattle.bale_items.specs.declared.triple.Triple.{Triple}
use Rattle.mtx_text.specs.declared.banner.Form.{Form}
use Rattle.mtx_text.specs.declared.refusal.Reason.{Reason}
use Rattle.mtx_text.specs.declared.refusal.Reason.TheVariants as reason
use Rattle.mtx_text.specs.declared.refusal.BadLine.{BadLine}
use Rattle.mtx_text.specs.declared.sizes.Sizes.{Sizes}
use Rattle.mtx_text.specs.Lines.{Line}
use Rattle.mtx_text.specs.Grammar.{◌>>=◌, bad, entry_of, stands_for, entries_in, as_many, entries_of}

one_less : (a b : ℕ) → nat_lt (suc a) (suc b) ≡ nat_lt a b
one_less a b = elim (cases_lt a b) [
  | inl h ↦ lt-ltb (suc a) (suc b) (omega arith) ∙ sym (lt-ltb a b h)
  | inr h ↦ le-ltb (suc a) (suc b) (omega arith) ∙ sym (le-ltb a b h)
]

one_more : (end n : ℕ) (line : Line) (rest : List Line) (r : Result (List Triple) BadLine)
    → (r >>= as_many end (suc n) (line ∷ rest)) ≡ (r >>= as_many end n rest)
one_more end n line rest (Ok entries) = rw (one_less (length rest) n)
one_more end n line rest (Err b) = refl

stepped : (form : Form) (sizes : Sizes) (end n : ℕ) (done : List Triple) (line : Line) (rest : List Line) (t : Triple)
    → entry_of form sizes done line.words ≡ Ok t
    → entries_of form sizes end (suc n) done (line ∷ rest) ≡ entries_of form sizes end n (done ++ stands_for form.symmetry t) rest
unfolding entries_of
stepped form sizes end n done line rest t ok =
    rw ok (one_more end n line rest (entries_in form sizes (done ++ stands_for form.symmetry t) (take n rest)))

pub step_ok : (form : Form) (sizes : Sizes) (end left : ℕ) (done : List Triple) (lines : List Line) (line : Line) (rest : List Line) (t : Triple)
    → lines ≡ line ∷ rest → 0 < left → entry_of form sizes done line.words ≡ Ok t
    → entries_of form sizes end left done lines ≡ entries_of form sizes end (left - 1) (done ++ stands_for form.symmetry t) rest
step_ok form sizes end zero done lines line rest t at some ok = absurd (omega arith)
step_ok form sizes end (suc n) done lines line rest t at some ok = rw (at, sub-one) (stepped form sizes end n done line rest t ok)

refused : (form : Form) (sizes : Sizes) (end n : ℕ) (done : List Triple) (line : Line) (rest : List Line) (why : Reason)
    → entry_of form sizes done line.words ≡ Err why
    → entries_of form sizes end (suc n) done (line ∷ rest) ≡ Err (bad line.number why)
unfolding entries_of
refused form sizes end n done line rest why err = rw err

pub step_bad : (form : Form) (sizes : Sizes) (end left : ℕ) (done : List Triple) (lines : List Line) (line : Line) (rest : List Line) (why : Reason)
    → lines ≡ line ∷ rest → 0 < left → entry_of form sizes done line.words ≡ Err why
    → entries_of form sizes end left done lines ≡ Err (bad line.number why)
step_bad form sizes end zero done lines line rest why at some err = absurd (omega arith)
step_bad form sizes end (suc n) done lines line rest why at some err = rw at (refused form sizes end n done line rest why err)

over_here : (form : Form) (sizes : Sizes) (end : ℕ) (done : List Triple) (line : Line) (rest : List Line)
    → entries_of form sizes end 0 done (line ∷ rest) ≡ Err (bad line.number reason.TooMany)
unfolding entries_of
over_here form sizes end done line rest = rw (le-ltb (suc (length rest)) 0 (omega arith))

pub over : (form : Form) (sizes : Sizes) (end left : ℕ) (done : List Triple) (lines : List Line) (line : Line) (rest : List Line)
    → lines ≡ line ∷ rest → left ≡ 0 → entries_of form sizes end left done lines ≡ Err (bad line.number reason.TooMany)
over form sizes end left done lines line rest at none = rw (at, none) (over_here form sizes end done line rest)

few_here : (form : Form) (sizes : Sizes) (end n : ℕ) (done : List Triple) → entries_of form sizes end (suc n) done [] ≡ Err (bad end reason.TooFew)
unfolding entries_of
few_here form sizes end n done = rw (lt-ltb 0 (suc n) (omega arith))

pub few : (form : Form) (sizes : Sizes) (end left : ℕ) (done : List Triple) (lines : List Line)
    → lines ≡ [] → 0 < left → entries_of form sizes end left done lines ≡ Err (bad end reason.TooFew)
few form sizes end zero done lines at some = absurd (omega arith)
few form sizes end (suc n) done lines at some = rw at (few_here form sizes end n done)

enough_here : (form : Form) (sizes : Sizes) (end : ℕ) (done : List Triple) → entries_of form sizes end 0 done [] ≡ Ok done
unfolding entries_of
enough_here form sizes end done = refl

pub enough : (form : Form) (sizes : Sizes) (end left : ℕ) (done : List Triple) (lines : List Line)
    → lines ≡ [] → left ≡ 0 → entries_of form sizes end left done lines ≡ Ok done
enough form sizes end left done lines at none = rw (at, none) (enough_here form sizes end done)
