-- The draft of entry lines, one line at a time.
use Rattle.std.proofs.Common.{◌≡◌, ℕ, ◌-◌, ◌<◌, List, [], ◌∷◌, ◌++◌, eq-eqb, ne_eqb, arith}
use Rattle.std.proofs.lemmas.Bool.{lt-ltb, le-ltb}
use Rattle.std.specs.Prelude.{Some, None, Ok, Err}
use Rattle.bale_items.specs.declared.triple.Triple.{Triple}
use Rattle.mtx_text.specs.declared.banner.Form.{Form}
use Rattle.mtx_text.specs.declared.refusal.Reason.{Reason}
use Rattle.mtx_text.specs.declared.refusal.Reason.TheVariants as reason
use Rattle.mtx_text.specs.declared.sizes.Sizes.{Sizes}
use Rattle.mtx_text.specs.Lines.{Line}
use Rattle.mtx_text.specs.Integers.{integer_of}
use Rattle.mtx_text.specs.Grammar.{bad, cell_by, stands_for}
use Rattle.mtx_text.specs.code.Drafts.{draft_of}

pub draft_ok : (form : Form) (sizes : Sizes) (end left : ℕ) (done : List Triple) (lines : List Line) (line : Line) (rest : List Line) (t : Triple)
    → lines ≡ line ∷ rest → 0 < left → cell_by integer_of form sizes line.words ≡ Ok t
    → draft_of form sizes end left done lines ≡ draft_of form sizes end (left - 1) (done ++ stands_for form.symmetry t) rest
unfolding draft_of
draft_ok form sizes end left done lines line rest t at some ok = rw (at, ne_eqb left 0 (omega arith), ok)

pub draft_bad : (form : Form) (sizes : Sizes) (end left : ℕ) (done : List Triple) (lines : List Line) (line : Line) (rest : List Line) (why : Reason)
    → lines ≡ line ∷ rest → 0 < left → cell_by integer_of form sizes line.words ≡ Err why
    → draft_of form sizes end left done lines ≡ record { entries = done; stop = Some (bad line.number why) }
unfolding draft_of
draft_bad form sizes end left done lines line rest why at some err = rw (at, ne_eqb left 0 (omega arith), err)

pub draft_over : (form : Form) (sizes : Sizes) (end left : ℕ) (done : List Triple) (lines : List Line) (line : Line) (rest : List Line)
    → lines ≡ line ∷ rest → left ≡ 0 → draft_of form sizes end left done lines ≡ record { entries = done; stop = Some (bad line.number reason.TooMany) }
unfolding draft_of
draft_over form sizes end left done lines line rest at none = rw (at, eq-eqb left 0 none)

pub draft_few : (form : Form) (sizes : Sizes) (end left : ℕ) (done : List Triple) (lines : List Line)
    → lines ≡ [] → 0 < left → draft_of form sizes end left done lines ≡ record { entries = done; stop = Some (bad end reason.TooFew) }
unfolding draft_of
draft_few form sizes end left done lines at some = rw (at, lt-ltb 0 left some)

pub draft_enough : (form : Form) (sizes : Sizes) (end left : ℕ) (done : List Triple) (lines : List Line)
    → lines ≡ [] → left ≡ 0 → draft_of form sizes end left done lines ≡ record { entries = done; stop = None }
unfolding draft_of
draft_enough form sizes end left done lines at none = rw (at, le-ltb 0 left (omega arith))
