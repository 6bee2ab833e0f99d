-- No answer has 2^56 bytes or more, so the counters of its summary are exact.
use Rattle.std.proofs.Common.{◌≡◌, ℕ, zero, suc, ◌+◌, ◌*◌, ◌/◌, ◌%◌, ◌^◌, ◌<◌, ◌≤◌, ◌==◌, Bool, true, false, cond, ℤ, pos, negsuc, List, [], ◌∷◌, ◌++◌, length, get_or, decimal, fold, All, sum_by, Option, Some, None, arith, inl, inr, refl, sym, ap, subst, length-append}
use Rattle.std.specs.Fmt.{digits, digits_onto, digit_glyph, signed_decimal}
use Rattle.std.specs.List.{flat_map, enumerate_from}
use Rattle.std.proofs.lemmas.List.Concat.{length-flat_map}
use Rattle.std.proofs.lemmas.List.Elements.{All-head, All-tail}
use Rattle.std.proofs.lemmas.List.FromFn.{length-enumerate_from}
use Rattle.std.proofs.lemmas.List.Sums.{sum_by-le, sum_by_push, count_by-le-length}
use Rattle.bale_items.specs.declared.triple.Triple.{Triple}
use Rattle.list_laws.specs.Counts.{saturated_count}
use Rattle.mtx_text.specs.declared.kind.Kind.{Kind}
use Rattle.mtx_text.specs.declared.kind.Kind.TheVariants as kind
use Rattle.mtx_text.specs.Sparse.{Sparse, IsSparse}
use Rattle.mtx_text.specs.Written.{banner_text, size_text, entry_text, text_of}
use Rattle.app_histo_ig.specs.HistoLines.{in_column, histo_line, histo_lines}
use Rattle.app_histo_ig.specs.IgLines.{column_sum, ig_line, ig_lines}
use Rattle.app_tally.specs.Counts.{by_bytes, Entry, with_line, tally_of, count_text, tally_text}
use Rattle.app_tally.specs.Lines.{IsLines}
use Rattle.app_tally.specs.laws.CountOrder.{which, at_less, at_equal, at_greater}
use Rattle.app_topo.specs.Levels.{Claim, topo_order}
use Rattle.app_topo.specs.TopoLines.{topo_line, topo_lines}
use Rattle.app_topo.proofs.Meanings.{found}
use Rattle.least_walks.specs.Lines.{weight_text, vertex_line, sssp_lines}
use Rattle.bale_answers.specs.Orders.{order_text}
use Rattle.bale_answers.specs.Summary.{ends_line}

-- ---- What a counter shows of fewer than 2^56 bytes

-- a number to which each byte adds at most 255
pub exact : (n bytes : ℕ) → n ≤ 255 * bytes → bytes < 2 ^ 56 → saturated_count n ≡ n
exact n bytes low few = omega arith

-- LF bytes are some of the bytes
pub lines_few : (bytes : List ℕ) → sum_by ends_line bytes ≤ length bytes
lines_few bytes = count_by-le-length (λ b. b == 10) bytes

-- one byte more
pub low_more : (bytes : List ℕ) (b : ℕ) → b < 256 → sum_by (λ b. b) bytes ≤ 255 * length bytes → sum_by (λ b. b) (bytes ++ b ∷ []) ≤ 255 * length (bytes ++ b ∷ [])
low_more bytes b small low =
    let sum : sum_by (λ b. b) (bytes ++ b ∷ []) ≡ sum_by (λ b. b) bytes + b = sum_by_push (λ b. b) bytes b in
    let len : length (bytes ++ b ∷ []) ≡ length bytes + 1 = length-append bytes (b ∷ []) in
    omega arith

-- ---- Numbers

either_short : (b : Bool) (most : ℕ) (xs ys : List ℕ) → length xs ≤ most → length ys ≤ most → length (cond b xs ys) ≤ most
either_short true most xs ys p q = p
either_short false most xs ys p q = q

onto_short : (k n : ℕ) (acc : List ℕ) → length (digits_onto k 10 false n acc) ≤ length acc + k
onto_short zero n acc = omega arith
onto_short (suc k) n acc =
    let rest : length (digits_onto k 10 false (n / 10) (digit_glyph false (n % 10) ∷ acc)) ≤ length (digit_glyph false (n % 10) ∷ acc) + k = onto_short k (n / 10) (digit_glyph false (n % 10) ∷ acc) in
    either_short (n / 10 == 0) (length acc + suc k) (digit_glyph false (n % 10) ∷ acc) (digits_onto k 10 false (n / 10) (digit_glyph false (n % 10) ∷ acc)) (omega arith) (omega arith)

-- std's decimal has at most 64 digits whatever the number is, so no bound of the number is needed
decimal_short : (n : ℕ) → length (decimal n) ≤ 64
unfolding digits
decimal_short n = onto_short 64 n []

signed_short : (z : ℤ) → length (signed_decimal z) ≤ 65
signed_short (pos n) = let d : length (decimal n) ≤ 64 = decimal_short n in omega arith
signed_short (negsuc n) = let d : length (decimal (suc n)) ≤ 64 = decimal_short (suc n) in omega arith

-- ---- Lines

appended : (m n : ℕ) (xs ys : List ℕ) → length xs ≤ m → length ys ≤ n → length (xs ++ ys) ≤ m + n
appended m n xs ys p q = (let both : length (xs ++ ys) ≡ length xs + length ys = length-append xs ys in omega arith)

spaced : (m n : ℕ) (xs ys : List ℕ) → length xs ≤ m → length ys ≤ n → length (xs ++ 32 ∷ [] ++ ys) ≤ m + n + 1
spaced m n xs ys p q =
    let first : length (xs ++ 32 ∷ []) ≤ m + 1 = appended m 1 xs (32 ∷ []) p (omega arith) in
    let both : length (xs ++ 32 ∷ [] ++ ys) ≤ m + 1 + n = appended (m + 1) n (xs ++ 32 ∷ []) ys first q in
    omega arith

ended : (m : ℕ) (xs : List ℕ) → length xs ≤ m → length (xs ++ 10 ∷ []) ≤ m + 1
ended m xs p = appended m 1 xs (10 ∷ []) p (omega arith)

two_spaced : (a b : ℕ) → length (decimal a ++ 32 ∷ [] ++ decimal b) ≤ 129
two_spaced a b = spaced 64 64 (decimal a) (decimal b) (decimal_short a) (decimal_short b)

two_numbers : (a b : ℕ) → length (decimal a ++ 32 ∷ [] ++ decimal b ++ 10 ∷ []) ≤ 130
two_numbers a b = ended 129 (decimal a ++ 32 ∷ [] ++ decimal b) (two_spaced a b)

three_numbers : (a b c : ℕ) → length (decimal a ++ 32 ∷ [] ++ decimal b ++ 32 ∷ [] ++ decimal c ++ 10 ∷ []) ≤ 195
three_numbers a b c =
    ended 194 (decimal a ++ 32 ∷ [] ++ decimal b ++ 32 ∷ [] ++ decimal c)
    (spaced 129 64 (decimal a ++ 32 ∷ [] ++ decimal b) (decimal c) (two_spaced a b) (decimal_short c))

ig_line_short : (i j : ℕ) (z : ℤ) → length (ig_line i j z) ≤ 196
ig_line_short i j z =
    ended 195 (decimal (i + 1) ++ 32 ∷ [] ++ decimal (j + 1) ++ 32 ∷ [] ++ signed_decimal z)
    (spaced 129 65 (decimal (i + 1) ++ 32 ∷ [] ++ decimal (j + 1)) (signed_decimal z) (two_spaced (i + 1) (j + 1)) (signed_short z))

weight_short : (weight : Option ℕ) → length (weight_text weight) ≤ 64
weight_short None = omega arith
weight_short (Some n) = decimal_short n

vertex_line_short : (v : ℕ) (weight : Option ℕ) → length (vertex_line v weight) ≤ 130
vertex_line_short v weight =
    ended 129 (decimal (v + 1) ++ 32 ∷ [] ++ weight_text weight)
    (spaced 64 64 (decimal (v + 1)) (weight_text weight) (decimal_short (v + 1)) (weight_short weight))

-- ---- Texts

all_short : {X : Type 0} (f : X → List ℕ) (most : ℕ) (xs : List X) → ((x : X) → length (f x) ≤ most) → length (flat_map f xs) ≤ length xs * most
all_short f most xs h = subst (λ n. n ≤ length xs * most) (sym (length-flat_map f xs)) (sum_by-le (λ x. length (f x)) most xs (λ k d l. h (get_or xs k d)))

columns_short : (entries : List Triple) (n : ℕ) → length (histo_lines entries n) ≤ n * 130
columns_short entries zero = omega arith
columns_short entries (suc j) =
    let line : List ℕ = histo_line j (in_column j entries) in
    let both : length (histo_lines entries j ++ line) ≡ length (histo_lines entries j) + length line = length-append (histo_lines entries j) line in
    let here : length line ≤ 130 = two_numbers (j + 1) (in_column j entries) in
    let before : length (histo_lines entries j) ≤ j * 130 = columns_short entries j in
    omega arith

vertices_short : (weights : ℕ → Option ℕ) (n : ℕ) → length (sssp_lines weights n) ≤ n * 130
vertices_short weights zero = omega arith
vertices_short weights (suc v) =
    let line : List ℕ = vertex_line v (weights v) in
    let both : length (sssp_lines weights v ++ line) ≡ length (sssp_lines weights v) + length line = length-append (sssp_lines weights v) line in
    let here : length line ≤ 130 = vertex_line_short v (weights v) in
    let before : length (sssp_lines weights v) ≤ v * 130 = vertices_short weights v in
    omega arith

banner_short : (k : Kind) → length (banner_text k) ≤ 60
banner_short kind.Integer = omega arith
banner_short kind.Pattern = omega arith

entry_short : (k : Kind) (t : Triple) → length (entry_text k t) ≤ 196
entry_short kind.Integer t = ig_line_short t.i t.j t.v
entry_short kind.Pattern t = (let two : length (entry_text kind.Pattern t) ≤ 130 = two_numbers (t.i + 1) (t.j + 1) in omega arith)

written_short : (m : Sparse) → length (text_of m) ≤ 60 + (195 + length m.entries * 196)
written_short m =
    let entries : List ℕ = flat_map (entry_text m.kind) m.entries in
    let all : length (banner_text m.kind ++ (size_text m ++ entries)) ≡ length (banner_text m.kind) + length (size_text m ++ entries) = length-append (banner_text m.kind) (size_text m ++ entries) in
    let rest : length (size_text m ++ entries) ≡ length (size_text m) + length entries = length-append (size_text m) entries in
    let banner : length (banner_text m.kind) ≤ 60 = banner_short m.kind in
    let sizes : length (size_text m) ≤ 195 = three_numbers m.rows m.cols (length m.entries) in
    let few : length entries ≤ length m.entries * 196 = all_short (entry_text m.kind) 196 m.entries (entry_short m.kind) in
    omega arith

-- ---- Tallies

-- bytes enough for the lines of these entries
abbrev room : List Entry → ℕ
room [] = 0
room (e ∷ es) = 66 + length e.0 + room es

room_more : (l : List ℕ) (es : List Entry) → room (with_line l es) ≤ 66 + length l + room es
room_more l [] = omega arith
room_more l (e ∷ es) =
    let later : room (with_line l es) ≤ 66 + length l + room es = room_more l es in
    elim (which (by_bytes l e.0)) [
      | inl a ↦ (let same : room (with_line l (e ∷ es)) ≡ room ((l, 1) ∷ e ∷ es) = ap room (at_less l e es a) in omega arith)
      | inr (inl a) ↦ (let same : room (with_line l (e ∷ es)) ≡ room ((e.0, e.1 + 1) ∷ es) = ap room (at_equal l e es a) in omega arith)
      | inr (inr a) ↦ (let same : room (with_line l (e ∷ es)) ≡ room (e ∷ with_line l es) = ap room (at_greater l e es a) in omega arith)
    ]

room_on : (es : List Entry) (ls : List (List ℕ)) → All (λ l. length l ≤ 65_535) ls → room (fold (λ es l. with_line l es) es ls) ≤ room es + length ls * 65_601
room_on es [] h = omega arith
room_on es (l ∷ ls) h =
    let here : length l ≤ 65_535 = All-head (λ (k : List ℕ). length k ≤ 65_535) l ls h in
    let one : room (with_line l es) ≤ 66 + length l + room es = room_more l es in
    let rest : room (fold (λ es l. with_line l es) (with_line l es) ls) ≤ room (with_line l es) + length ls * 65_601 = room_on (with_line l es) ls (All-tail (λ (k : List ℕ). length k ≤ 65_535) l ls h) in
    omega arith

count_short : (e : Entry) → length (count_text e) ≤ 66 + length e.0
count_short e =
    let both : length (count_text e) ≡ length (decimal e.1 ++ 32 ∷ []) + length (e.0 ++ 10 ∷ []) = length-append (decimal e.1 ++ 32 ∷ []) (e.0 ++ 10 ∷ []) in
    let number : length (decimal e.1 ++ 32 ∷ []) ≤ 65 = appended 64 1 (decimal e.1) (32 ∷ []) (decimal_short e.1) (omega arith) in
    let line : length (e.0 ++ 10 ∷ []) ≡ length e.0 + 1 = length-append e.0 (10 ∷ []) in
    omega arith

counts_short : (es : List Entry) → length (tally_text es) ≤ room es
counts_short [] = omega arith
counts_short (e ∷ es) =
    let both : length (tally_text (e ∷ es)) ≡ length (count_text e) + length (tally_text es) = length-append (count_text e) (tally_text es) in
    let here : length (count_text e) ≤ 66 + length e.0 = count_short e in
    let rest : length (tally_text es) ≤ room es = counts_short es in
    omega arith

-- ---- Each answer has fewer than 2^56 bytes

pub histo_short : (m : Sparse) → IsSparse m → length (histo_lines m.entries m.cols) < 2 ^ 56
histo_short m is =
    let few : length (histo_lines m.entries m.cols) ≤ m.cols * 130 = columns_short m.entries m.cols in
    let wide : m.cols ≤ 16_384 = is.wide in
    omega arith

pub ig_short : (m : Sparse) → IsSparse m → length (ig_lines m.entries) < 2 ^ 56
ig_short m is =
    let few : length (ig_lines m.entries) ≤ length m.entries * 196 = all_short (λ (t : Triple). ig_line t.i t.j (column_sum t.j m.entries)) 196 m.entries (λ t. ig_line_short t.i t.j (column_sum t.j m.entries)) in
    let entries : length m.entries ≤ 524_288 = is.few in
    omega arith

-- permute and transpose: the text of the matrix that they answer
pub text_short : (m : Sparse) → IsSparse m → length (text_of m) < 2 ^ 56
text_short m is =
    let few : length (text_of m) ≤ 60 + (195 + length m.entries * 196) = written_short m in
    let entries : length m.entries ≤ 524_288 = is.few in
    omega arith

order_short : (m : Sparse) (o : Option (List Claim)) → IsSparse m → m.rows ≡ m.cols → topo_order m.rows m.entries ≡ o → length (order_text o) < 2 ^ 56
order_short m None is sq h = omega arith
order_short m (Some order) is sq h =
    let few : length (topo_lines order) ≤ length (enumerate_from 0 order) * 195 = all_short (λ (e : ℕ × Claim). topo_line e.0 e.1) 195 (enumerate_from 0 order) (λ e. three_numbers (e.0 + 1) (e.1.0 + 1) (e.1.1 + 1)) in
    let len : length (enumerate_from 0 order) ≡ length order = length-enumerate_from 0 order in
    let size : length order ≡ m.rows = (found m order is sq h).size in
    let tall : m.rows ≤ 16_384 = is.tall in
    omega arith

pub topo_short : (m : Sparse) → IsSparse m → m.rows ≡ m.cols → length (order_text (topo_order m.rows m.entries)) < 2 ^ 56
topo_short m is sq = order_short m (topo_order m.rows m.entries) is sq refl

pub sssp_short : (m : Sparse) (weights : ℕ → Option ℕ) → IsSparse m → length (sssp_lines weights m.rows) < 2 ^ 56
sssp_short m weights is =
    let few : length (sssp_lines weights m.rows) ≤ m.rows * 130 = vertices_short weights m.rows in
    let tall : m.rows ≤ 16_384 = is.tall in
    omega arith

pub tally_short : (lines : List (List ℕ)) → IsLines lines → length (tally_text (tally_of lines)) < 2 ^ 56
tally_short lines is =
    let letters : All (λ (l : List ℕ). length l ≤ 65_535) lines = (λ k d l. (is.letters k d l).short) in
    let few : length (tally_text (tally_of lines)) ≤ room (tally_of lines) = counts_short (tally_of lines) in
    let all : room (tally_of lines) ≤ room [] + length lines * 65_601 = room_on [] lines letters in
    let count : length lines ≤ 16_777_216 = is.few in
    omega arith
