-- Lines read into a list that has a place for each: none, one more, and two pieces.
use Rattle.std.proofs.Common.{◌≡◌, ℕ, zero, suc, ◌+◌, ◌-◌, ◌≤◌, ◌<◌, List, [], ◌∷◌, ◌++◌, length, get_or, take, drop, max, refl, sym, subst, ◌∙◌, ap, ap₂, append_assoc, length-append, length-take-le, arith}
use Rattle.std.proofs.lemmas.List.{append-nil, drop-drop, length-drop, length-set, take_all, take_more_set}
use Rattle.std.proofs.lemmas.List.Elements.{All-append, All-nil}
use Rattle.std.proofs.Math.Seq.{take-append-add}
use Rattle.std.proofs.lemmas.List.{take-append-le}
use Rattle.std.specs.List.{All}
use Rattle.std.specs.Prelude.{Ok, set}
use Rattle.bale_items.specs.declared.triple.Triple.{Triple}
use Rattle.mtx_text.specs.declared.banner.Form.{Form}
use Rattle.mtx_text.specs.declared.banner.Symmetry.{Symmetry}
use Rattle.mtx_text.specs.declared.banner.Symmetry.TheVariants.{General}
use Rattle.mtx_text.specs.declared.cell.PlainCell.{PlainCell}
use Rattle.mtx_text.specs.declared.draft.Run.{Run}
use Rattle.mtx_text.specs.declared.kind.Kind.{Kind}
use Rattle.mtx_text.specs.declared.piece.Piece.{Piece}
use Rattle.mtx_text.specs.declared.sizes.Sizes.{Sizes}
use Rattle.mtx_text.specs.Sparse.{IsInside}
use Rattle.mtx_text.specs.Lines.{Line, lines_of, lines_from, words_of}
use Rattle.mtx_text.specs.code.Chains.{IsBelowSide}
use Rattle.mtx_text.specs.code.Drafts.{Drafted, draft_of, IsCellAt, ReadsOn}
use Rattle.mtx_text.specs.code.Pieces.{general, ReadsPiece}
use Rattle.mtx_text.proofs.EntryLines.{cell_inside}
use Rattle.mtx_text.proofs.Steps.{draft_ok}

abbrev pub piece : ℕ → ℕ → Piece
piece lines bytes = record { lines = lines; bytes = bytes }

-- the draft of a text's lines after entries
abbrev drafts : Kind → Sizes → ℕ → ℕ → List Triple → ℕ → List ℕ → Drafted
drafts kind sizes end left done number text = draft_of (general kind) sizes end left done (lines_from number (lines_of text))

same_draft : (kind : Kind) (sizes : Sizes) (end left left' : ℕ) (done done' : List Triple) (number number' : ℕ) (text text' : List ℕ)
    → left ≡ left' → done ≡ done' → number ≡ number' → text ≡ text'
    → drafts kind sizes end left done number text ≡ drafts kind sizes end left' done' number' text'
same_draft kind sizes end left left' done done' number number' text text' a b c d =
    ap (λ n. drafts kind sizes end n done number text) a ∙ (ap (λ l. drafts kind sizes end left' l number text) b
    ∙ (ap (λ n. drafts kind sizes end left' done' n text) c ∙ ap (λ t. drafts kind sizes end left' done' number' t) d))

pub reads_none : (kind : Kind) (sizes : Sizes) (text : List ℕ) (out : List Triple) → ReadsPiece kind sizes text out out (piece 0 0)
reads_none kind sizes text out = record {
  draft = λ end left number done less. same_draft kind sizes end left (left - 0) done (done ++ []) number (number + 0) text text (omega arith) (sym (append-nil done)) (omega arith) refl;
  lines = omega arith;
  fits = omega arith;
  short = omega arith;
  within = omega arith;
  inside = All-nil (λ t. IsBelowSide (max sizes.rows sizes.cols) t);
  same = refl;
}

-- the first line of a text, where it is plain
one_draft : (kind : Kind) (sizes : Sizes) (text : List ℕ) (p : PlainCell) (t : Triple) → IsCellAt (general kind) sizes text p → p.cell ≡ Ok t
    → (end left number : ℕ) (done : List Triple) → 1 ≤ left
    → draft_of (general kind) sizes end left done (lines_from number (lines_of text))
    ≡ draft_of (general kind) sizes end (left - 1) (done ++ t ∷ []) (lines_from (number + 1) (lines_of (drop p.next text)))
one_draft kind sizes text p t at ok end left number done some =
    let line : Line = record { number = number; words = words_of (take p.len text) } in
    let rest = lines_from (number + 1) (lines_of (drop p.next text)) in
    let is : lines_from number (lines_of text) ≡ line ∷ rest = rw (at.at.line.lines, at.at.counts) refl in
    draft_ok (general kind) sizes end left done (lines_from number (lines_of text)) line rest t is (omega arith) (sym at.value ∙ ok)

within_one : (sizes : Sizes) (t : Triple) → IsInside sizes.rows sizes.cols t → (k : ℕ) (d : Triple) → k < 1
    → IsBelowSide (max sizes.rows sizes.cols) (get_or (t ∷ []) k d)
within_one sizes t is zero d h = record { row = omega (arith, is.row); col = omega (arith, is.col) }
within_one sizes t is (suc k) d h = absurd (omega arith)

pub reads_one_line : (kind : Kind) (sizes : Sizes) (text : List ℕ) (p : PlainCell) (t : Triple) → IsCellAt (general kind) sizes text p → p.cell ≡ Ok t
    → ReadsPiece kind sizes text (t ∷ []) (t ∷ []) (piece 1 p.next)
reads_one_line kind sizes text p t at ok =
    let is = cell_inside (general kind) sizes (words_of (take p.len text)) t p.cell at.value ok in
    record {
      draft = one_draft kind sizes text p t at ok;
      lines = rw at.at.line.lines (omega arith);
      fits = omega arith;
      short = omega (arith, at.at.line.within);
      within = at.at.line.room;
      inside = λ k d h. within_one sizes t is k d h;
      same = refl;
    }

-- what is read of the rest of a text, after what was read of it
drafts_chained : (kind : Kind) (sizes : Sizes) (text : List ℕ) (old new old' new' whole : List Triple) (a b : Piece)
    → ReadsPiece kind sizes text old new a → ReadsPiece kind sizes (drop a.bytes text) old' new' b
    → take (a.lines + b.lines) whole ≡ take a.lines new ++ take b.lines new'
    → (end left number : ℕ) (done : List Triple) → a.lines + b.lines ≤ left
    → draft_of (general kind) sizes end left done (lines_from number (lines_of text))
    ≡ draft_of (general kind) sizes end (left - (a.lines + b.lines)) (done ++ take (a.lines + b.lines) whole)
    (lines_from (number + (a.lines + b.lines)) (lines_of (drop (a.bytes + b.bytes) text)))
drafts_chained kind sizes text old new old' new' whole a b one two is end left number done less =
    let first = one.draft end left number done (omega (arith, less)) in
    let second = two.draft end (left - a.lines) (number + a.lines) (done ++ take a.lines new) (omega (arith, less)) in
    let left_is : left - a.lines - b.lines ≡ left - (a.lines + b.lines) = omega arith in
    let number_is : number + a.lines + b.lines ≡ number + (a.lines + b.lines) = omega arith in
    let done_is : (done ++ take a.lines new) ++ take b.lines new' ≡ done ++ take (a.lines + b.lines) whole =
    append_assoc done (take a.lines new) (take b.lines new') ∙ ap (λ l. done ++ l) (sym is) in
    let rest_is : drop b.bytes (drop a.bytes text) ≡ drop (a.bytes + b.bytes) text = drop-drop b.bytes a.bytes text in
    first ∙ (second ∙ same_draft kind sizes end (left - a.lines - b.lines) (left - (a.lines + b.lines)) ((done ++ take a.lines new) ++ take b.lines new')
    (done ++ take (a.lines + b.lines) whole) (number + a.lines + b.lines) (number + (a.lines + b.lines)) (drop b.bytes (drop a.bytes text))
    (drop (a.bytes + b.bytes) text) left_is done_is number_is rest_is)

reads_after : (kind : Kind) (sizes : Sizes) (text : List ℕ) (old new old' new' before whole : List Triple) (a b : Piece)
    → ReadsPiece kind sizes text old new a → ReadsPiece kind sizes (drop a.bytes text) old' new' b
    → take (a.lines + b.lines) whole ≡ take a.lines new ++ take b.lines new' → a.lines + b.lines ≤ length whole → length whole ≡ length before
    → ReadsPiece kind sizes text before whole (piece (a.lines + b.lines) (a.bytes + b.bytes))
reads_after kind sizes text old new old' new' before whole a b one two is fits same = record {
  draft = drafts_chained kind sizes text old new old' new' whole a b one two is;
  lines = one.lines ∙ (ap (λ n. a.lines + n) (two.lines ∙ ap (λ t. b.lines + length (lines_of t)) (drop-drop b.bytes a.bytes text)) ∙ omega arith);
  fits = fits;
  short = omega (arith, one.short, two.short);
  within = omega (arith, one.within, two.within, length-drop a.bytes text);
  inside = rw is (All-append (λ t. IsBelowSide (max sizes.rows sizes.cols) t) (take a.lines new) (take b.lines new') one.inside two.inside);
  same = same;
}

-- one line more
pub reads_line_more : (kind : Kind) (sizes : Sizes) (text : List ℕ) (old new : List Triple) (lines bytes : ℕ) (rest : List ℕ) (p : PlainCell) (t : Triple)
    → ReadsPiece kind sizes text old new (piece lines bytes) → lines < length new → rest ≡ drop bytes text → IsCellAt (general kind) sizes rest p → p.cell ≡ Ok t
    → ReadsPiece kind sizes text old (set new lines t) (piece (lines + 1) (bytes + p.next))
reads_line_more kind sizes text old new lines bytes rest p t read room is at ok =
    reads_after kind sizes text old new (t ∷ []) (t ∷ []) old (set new lines t) (piece lines bytes) (piece 1 p.next) read
    (reads_one_line kind sizes (drop bytes text) p t (subst (λ (l : List ℕ). IsCellAt (general kind) sizes l p) is at) ok) (take_more_set new lines t room)
    (omega (arith, room, length-set new lines t)) (length-set new lines t ∙ read.same)

-- the first part alone, whatever the second has
pub reads_front : (kind : Kind) (sizes : Sizes) (text : List ℕ) (old new back back' : List Triple) (a : Piece)
    → ReadsPiece kind sizes text old new a → length back' ≡ length back → ReadsPiece kind sizes text (old ++ back) (new ++ back') a
reads_front kind sizes text old new back back' a read same =
    let is : take a.lines (new ++ back') ≡ take a.lines new = take-append-le a.lines new back' read.fits in
    record {
      draft = λ end left number done less. rw is (read.draft end left number done less);
      lines = read.lines;
      fits = omega (arith, read.fits, length-append new back');
      short = read.short;
      within = read.within;
      inside = rw is read.inside;
      same = length-append new back' ∙ (ap₂ ◌+◌ read.same same ∙ sym (length-append old back));
    }

-- both parts, where the first is full and the second begins where it ends
pub reads_both : (kind : Kind) (sizes : Sizes) (text rest : List ℕ) (old new back back' : List Triple) (lines cut : ℕ) (a b : Piece)
    → ReadsPiece kind sizes text old new a → ReadsPiece kind sizes rest back back' b → rest ≡ drop cut text → a.bytes ≡ cut
    → length old ≡ lines → lines ≤ a.lines → ReadsPiece kind sizes text (old ++ back) (new ++ back') (piece (lines + b.lines) (cut + b.bytes))
reads_both kind sizes text rest old new back back' lines cut a b one two is at size full =
    let here : lines ≡ a.lines = omega (arith, full, one.fits, one.same, size) in
    let whole : length new ≡ a.lines = omega (arith, full, one.fits, one.same, size) in
    let taken : take (a.lines + b.lines) (new ++ back') ≡ take a.lines new ++ take b.lines back' =
    rw (← whole) (take-append-add new back' b.lines ∙ ap (λ l. l ++ take b.lines back') (sym (take_all (length new) new (omega arith)))) in
    subst (λ (n : ℕ). ReadsPiece kind sizes text (old ++ back) (new ++ back') (piece (n + b.lines) (cut + b.bytes))) (sym here)
    (subst (λ (n : ℕ). ReadsPiece kind sizes text (old ++ back) (new ++ back') (piece (a.lines + b.lines) (n + b.bytes))) at
    (reads_after kind sizes text old new back back' (old ++ back) (new ++ back') a b one
    (subst (λ (l : List ℕ). ReadsPiece kind sizes l back back' b) (is ∙ ap (λ n. drop n text) (sym at)) two) taken
    (omega (arith, whole, two.fits, length-append new back'))
    (length-append new back' ∙ (ap₂ ◌+◌ one.same two.same ∙ sym (length-append old back)))))

-- ---- the beginning of a draft

-- what was read into places is read on, where as many lines were still to come
pub piece_reads_on : (kind : Kind) (sizes : Sizes) (old new entries : List Triple) (p : Piece) (from to : Run) → ReadsPiece kind sizes from.rest.now old new p
    → entries ≡ take p.lines new → to.rest.now ≡ drop p.bytes from.rest.now → to.number ≡ from.number + p.lines → to.left ≡ from.left - p.lines
    → p.lines ≤ from.left → ReadsOn (general kind) sizes [] entries from to
piece_reads_on kind sizes old new entries p from to read is rest number left few =
    let behind : length (lines_of to.rest.now) ≡ length (lines_of (drop p.bytes from.rest.now)) = ap (λ t. length (lines_of t)) rest in
    let bytes : length to.rest.now ≡ length from.rest.now - p.bytes = ap (λ (t : List ℕ). length t) rest ∙ length-drop p.bytes from.rest.now in
    let size : length entries ≡ p.lines = ap (λ (l : List Triple). length l) is ∙ length-take-le p.lines new read.fits in
    record {
      draft = λ end.
          sym (read.draft end from.left from.number [] few
          ∙ same_draft kind sizes end (from.left - p.lines) to.left (take p.lines new) entries (from.number + p.lines) to.number
          (drop p.bytes from.rest.now) to.rest.now (sym left) (sym is) (sym number) (sym rest));
      lines = omega (arith, behind, read.lines, number);
      room = omega (arith, bytes, number, read.short, read.within);
      on = omega (arith, bytes);
      within = λ none. subst (λ (l : List Triple). All (λ t. IsBelowSide (max sizes.rows sizes.cols) t) l) (sym is) read.inside;
      few = omega (arith, size, left, few);
    }

pub empty_reads_on : (form : Form) (sizes : Sizes) (entries : List Triple) (from to : Run) → entries ≡ [] → to ≡ from → ReadsOn form sizes [] entries from to
empty_reads_on form sizes entries from to is same =
    subst (λ (r : Run). ReadsOn form sizes [] entries from r) (sym same) (subst (λ (l : List Triple). ReadsOn form sizes [] l from from) (sym is)
    (record { draft = λ end. refl; lines = refl; room = omega arith; on = omega arith; within = λ all. all; few = omega arith }))

pub general_reads_on : (form : Form) (sizes : Sizes) (entries : List Triple) (from to : Run) → form.symmetry ≡ General
    → ReadsOn (general form.kind) sizes [] entries from to → ReadsOn form sizes [] entries from to
general_reads_on form sizes entries from to is read =
    let same : general form.kind ≡ form = ap (λ (s : Symmetry). record { kind = form.kind; symmetry = s }) (sym is) in
    subst (λ (f : Form). ReadsOn f sizes [] entries from to) same read
