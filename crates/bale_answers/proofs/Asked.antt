-- A matrix that was asked of keeps what every matrix keeps, and a command that fits it has what it
-- needs.
use Rattle.std.proofs.Common.{◌≡◌, ℕ, zero, suc, ◌+◌, ◌*◌, ◌/◌, ◌<◌, ◌≤◌, ◌-◌, Bool, true, false, not, eqb, ltb, ◌||◌, List, [], ◌∷◌, length, get_or, min, Option, Some, None, arith, inl, inr, refl, sym, ap, ◌∙◌, subst}
use Rattle.std.specs.Prelude.{Result, Ok, Err, if◌then◌else◌}
use Rattle.std.specs.List.{All, range_with_len, flat_map}
use Rattle.std.proofs.lemmas.Bool.{cases_Bool, cases_eq, cases_lt, eq-eqb, eqb-true, lt-ltb, or_parts, false≢true}
use Rattle.std.proofs.lemmas.Option.{none-some}
use Rattle.std.proofs.lemmas.List.{length-take}
use Rattle.std.proofs.lemmas.List.Elements.{All-nil, All-cons, All-head, All-tail, All-append, All-map, All-take}
use Rattle.std.proofs.lemmas.List.FromFn.{get_or-range_with_len, length-range_with_len}
use Rattle.mtx_text.specs.declared.kind.Kind.TheVariants.{Integer}
use Rattle.mtx_text.specs.declared.refusal.BadLine.{BadLine}
use Rattle.mtx_text.specs.Sparse.{Sparse, IsSparse, IsEntry}
use Rattle.mtx_text.specs.Cells.{sparse}
use Rattle.mtx_text.specs.Permutations.{Permutes}
use Rattle.mtx_text.specs.Seeds.{word, step, seeded, permutation_of}
use Rattle.mtx_text.specs.Generated.{diagonal, positions, hidden_triangle, generated_matrix}
use Rattle.mtx_text.proofs.Bands.{entry_inside}
use Rattle.mtx_text.proofs.BandPlaces.{places_apart}
use Rattle.mtx_text.proofs.Lawful.{lawful}
use Rattle.mtx_text.proofs.OfCells.{lawful_apart}
use Rattle.least_walks.specs.Walks.{no_negative}
use Rattle.bale_words.specs.declared.command.Command.{Command}
use Rattle.bale_words.specs.declared.command.Generated.{Generated}
use Rattle.bale_words.specs.declared.task.Task.{Task}
use Rattle.bale_words.specs.declared.task.Task.TheVariants as task
use Rattle.bale_words.specs.Ranges.{CanGenerate, MayGenerate}
use Rattle.bale_subjects.specs.declared.subject.Subject.TheVariants as subject
use Rattle.bale_subjects.specs.Fitness.{task_unfitness, unfitness}
use Rattle.bale_subjects.specs.Subjects.{is_tally, matrix_asked, of_lines, of_matrix, subject_asked}
use Rattle.bale_subjects.proofs.Read.{a_tally}
use Rattle.bale_subjects.proofs.Renumbering.{drawn_permutes}
use Rattle.app_tally.specs.declared.lines.LinesFault.{LinesFault}
use Rattle.app_tally.specs.Texts.{lines_of_text}

-- ---- Generated matrices

abbrev IsPlace : ℕ → ℕ × ℕ → Type 0
IsPlace n x = (x.0 < n) × (x.1 < n)

band_below : (n d k : ℕ) → All (IsPlace n) (flat_map (diagonal n) (range_with_len d k))
band_below n d zero = All-nil (IsPlace n)
band_below n d (suc k) =
    All-append (IsPlace n) (diagonal n d) (flat_map (diagonal n) (range_with_len (d + 1) k))
    (All-map (IsPlace n) (λ i. (i, i + d)) (range_with_len 0 (n - d)) (λ i e l.
    let len : length (range_with_len 0 (n - d)) ≡ n - d = length-range_with_len 0 (n - d) in
    let is : get_or (range_with_len 0 (n - d)) i e ≡ 0 + i = get_or-range_with_len 0 (n - d) i e (omega arith) in
    (omega arith, omega arith)))
    (band_below n (d + 1) k)

hidden_inside : (n : ℕ) (p q : List ℕ) (state : ℕ) (xs : List (ℕ × ℕ)) → Permutes n p → Permutes n q → All (IsPlace n) xs → All (IsEntry (sparse n n Integer [])) (hidden_triangle p q state xs)
hidden_inside n p q state [] hp hq h = All-nil (IsEntry (sparse n n Integer []))
hidden_inside n p q state (x ∷ xs) hp hq h =
    let here : IsPlace n x = All-head (IsPlace n) x xs h in
    All-cons (IsEntry (sparse n n Integer [])) _ (hidden_triangle p q (step state) xs) (entry_inside n p q x.0 x.1 (word state) hp hq here.0 here.1)
    (hidden_inside n p q (step state) xs hp hq (All-tail (IsPlace n) x xs h))

hidden_len : (p q : List ℕ) (state : ℕ) (xs : List (ℕ × ℕ)) → length (hidden_triangle p q state xs) ≡ length xs
hidden_len p q state [] = refl
hidden_len p q state (x ∷ xs) = ap suc (hidden_len p q (step state) xs)

pub generated_is : (g : Generated) → CanGenerate g → IsSparse (generated_matrix g.rows g.entries g.seed)
generated_is g can =
    let n : ℕ = g.rows in
    let p : List ℕ × ℕ = permutation_of n (seeded g.seed) in
    let q : List ℕ × ℕ = permutation_of n p.1 in
    let hp : Permutes n p.0 = drawn_permutes n (seeded g.seed) in
    let hq : Permutes n q.0 = drawn_permutes n p.1 in
    let places : List (ℕ × ℕ) = positions n g.entries in
    let count : length (hidden_triangle p.0 q.0 q.1 places) ≡ length places = hidden_len p.0 q.0 q.1 places in
    let taken : length places ≡ min g.entries (length (flat_map (diagonal n) (range_with_len 0 n))) = length-take g.entries (flat_map (diagonal n) (range_with_len 0 n)) in
    let few : g.entries ≤ min 262144 (n * (n + 1) / 2) = can.few in
    let tall : n ≤ 16384 = can.tall in
    lawful_apart n n Integer (hidden_triangle p.0 q.0 q.1 places) tall tall (omega arith)
    (hidden_inside n p.0 q.0 q.1 places hp hq (All-take (IsPlace n) g.entries (flat_map (diagonal n) (range_with_len 0 n)) (band_below n 0 n)))
    (places_apart n g.entries p.0 q.0 q.1 hp hq)

-- ---- Matrices that were asked of

asked_of : (gen : Option Generated) (text : List ℕ) (m : Sparse) → MayGenerate gen → matrix_asked gen text ≡ Ok m → IsSparse m
asked_of None text m may h = lawful text m h
asked_of (Some g) text m may h =
    let same : generated_matrix g.rows g.entries g.seed ≡ m = cc in
    subst IsSparse same (generated_is g may)

no_matrix : (r : Result (List (List ℕ)) LinesFault) (m : Sparse) → of_lines r ≡ Ok (subject.Matrix m) → ⊥
no_matrix (Ok lines) m h = cc
no_matrix (Err f) m h = cc

is_matrix : (r : Result Sparse BadLine) (m : Sparse) → of_matrix r ≡ Ok (subject.Matrix m) → r ≡ Ok m
is_matrix (Ok k) m h = (let same : k ≡ m = cc in ap (λ w. Ok w) same)
is_matrix (Err b) m h = absurd (cc)

pub matrix_is : (text : List ℕ) (c : Command) (m : Sparse) → MayGenerate c.travel.generated → subject_asked c text ≡ Ok (subject.Matrix m) → IsSparse m
matrix_is text c m may read =
    elim (cases_Bool (is_tally c.task)) [
      | inl t ↦ absurd (no_matrix (lines_of_text text) m (sym (ap (λ b. if b then of_lines (lines_of_text text) else of_matrix (matrix_asked c.travel.generated text)) t) ∙ read))
      | inr f ↦
          asked_of c.travel.generated text m may
          (is_matrix (matrix_asked c.travel.generated text) m (sym (ap (λ b. if b then of_lines (lines_of_text text) else of_matrix (matrix_asked c.travel.generated text)) f) ∙ read))
    ]

no_lines : (r : Result Sparse BadLine) (lines : List (List ℕ)) → of_matrix r ≡ Ok (subject.Lines lines) → ⊥
no_lines (Ok m) lines h = cc
no_lines (Err b) lines h = cc

-- tally alone is asked of lines
pub tally_is : (c : Command) (text : List ℕ) (lines : List (List ℕ)) → subject_asked c text ≡ Ok (subject.Lines lines) → c.task ≡ task.Tally
tally_is c text lines read =
    elim (cases_Bool (is_tally c.task)) [
      | inl t ↦ a_tally c.task t
      | inr f ↦ absurd (no_lines (matrix_asked c.travel.generated text) lines (sym (ap (λ b. if b then of_lines (lines_of_text text) else of_matrix (matrix_asked c.travel.generated text)) f) ∙ read))
    ]

-- ---- What fits

passes : {X : Type 0} (b : Bool) (x : X) (rest : Option X) → (if b then Some x else rest) ≡ None → (b ≡ false) × (rest ≡ None)
passes true x rest h = absurd (none-some x (sym h))
passes false x rest h = (refl, h)

pub task_fits : (c : Command) (m : Sparse) (serial : Bool) → unfitness c (subject.Matrix m) serial ≡ None → task_unfitness c.task m serial ≡ None
task_fits c m serial fits = (passes _ _ _ fits).1

not_not : (b : Bool) → not b ≡ false → b ≡ true
not_not true h = refl
not_not false h = absurd (false≢true (sym h))

pub square : (t : Task) (m : Sparse) (serial : Bool) → t ≡ task.Topo → task_unfitness t m serial ≡ None → m.rows ≡ m.cols
square t m serial is fits =
    let test = passes (not (eqb m.cols m.rows)) _ _ (subst (λ (u : Task). task_unfitness u m serial ≡ None) is fits) in
    sym (eqb-true m.cols m.rows (not_not (eqb m.cols m.rows) test.0))

-- what sssp needs
pub record IsWalked (m : Sparse) (source : ℕ) : Type 0 where
  pub square : m.cols ≡ m.rows
  pub weights : no_negative m.entries ≡ true
  pub some : 1 ≤ source
  pub vertex : source ≤ m.rows

pub walked : (source : ℕ) (width : Option ℕ) (m : Sparse) (serial : Bool) → task_unfitness (task.Sssp source width) m serial ≡ None → IsWalked m source
walked source width m serial fits =
    let a = passes (not (eqb m.cols m.rows)) _ _ fits in
    let b = passes (not (no_negative m.entries)) _ _ a.1 in
    let c = passes (eqb source 0 || ltb m.rows source) _ _ b.1 in
    let range = or_parts (eqb source 0) (ltb m.rows source) c.0 in
    let some : 1 ≤ source = elim (cases_eq source 0) [ inl e ↦ absurd (false≢true (sym range.0 ∙ eq-eqb source 0 e)) | inr n ↦ omega arith ] in
    let vertex : source ≤ m.rows = elim (cases_lt m.rows source) [ inl l ↦ absurd (false≢true (sym range.1 ∙ lt-ltb m.rows source l)) | inr n ↦ omega arith ] in
    record { square = eqb-true m.cols m.rows (not_not (eqb m.cols m.rows) a.0); weights = not_not (no_negative m.entries) b.0; some = some; vertex = vertex }
