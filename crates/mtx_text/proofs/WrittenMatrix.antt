-- The lines that were written of a matrix, read one after the other.
use Rattle.std.proofs.Common.{ℕ, suc, ◌+◌, ◌-◌, ◌*◌, ◌<◌, ◌≤◌, ◌≡◌, ℤ, pos, negsuc, nat_abs, true, false, ◌&&◌, ◌||◌, cond, eqb, ltb, List, [], ◌∷◌, ◌++◌, Some, Ok, map, length, take, drop, get_or, codes, decimal, sum_by, arith, refl, sym, ap, ap₂, ◌∙◌, subst}
use Rattle.std.specs.Fmt.{signed_decimal}
use Rattle.std.specs.List.{All, AllPairs, flat_map, list_all}
use Rattle.std.specs.Str.Parse.{IsNumeral}
use Rattle.std.proofs.lemmas.Bool.{le-ltb, le-leb, eqb-true, ne_eqb, and_from, or_from, and_parts, false_from_ne_true}
use Rattle.std.proofs.lemmas.Fmt.{decimal_is_IsNumeral, length-decimal-le, length_signed_le}
use Rattle.std.proofs.lemmas.List.{append_assoc, append-nil, length-append, get_or_at, take_all, drop_all}
use Rattle.std.proofs.lemmas.List.Concat.{length-flat_map}
use Rattle.std.proofs.lemmas.List.Elements.{All-head, All-tail}
use Rattle.std.proofs.lemmas.List.Sums.{sum_by-le}
use Rattle.std.proofs.lemmas.Str.Parse.{digit_at}
use Rattle.std.specs.Int.{IsInRange}
use lib.Signed.{mag}
use Rattle.bale_items.specs.declared.triple.Triple.{Triple}
use Rattle.mtx_text.specs.declared.kind.Kind.{Kind}
use Rattle.mtx_text.specs.declared.kind.Kind.TheVariants as kind
use Rattle.mtx_text.specs.declared.banner.Form.{Form}
use Rattle.mtx_text.specs.declared.banner.Symmetry.TheVariants.{General}
use Rattle.mtx_text.specs.declared.sizes.Sizes.{Sizes}
use Rattle.mtx_text.specs.Lines.{lines_of, words_of, is_skipped, Line, lines_from}
use Rattle.mtx_text.specs.Integers.{integer_of, with_sign}
use Rattle.mtx_text.specs.Sparse.{Sparse, IsSparse, IsEntry, SamePlace}
use Rattle.mtx_text.specs.Grammar.{matrix_of, lines_read, body_of, sizes_by, cell_by, entry_of, entries_in, entries_of, has_place, form_of, place_of, value_within, is_index}
use Rattle.mtx_text.specs.Written.{banner_text, size_text, entry_text, text_of}
use Rattle.mtx_text.proofs.PlaceOrder.{pairs_head, pairs_tail}
use Rattle.mtx_text.proofs.ReadAgain.{IsWord, decimal_word, signed_word, decimal_read, signed_read, read_as, value_is, size_is, two_words, three_words, inner_two, inner_three, line_here, is_inner}

abbrev general : Kind → Form
general k = record { kind = k; symmetry = General }

-- ---- The size line

sizes_read : (k : Kind) (rows cols n : ℕ) → rows ≤ 16_384 → cols ≤ 16_384 → n ≤ 262_144
    → sizes_by integer_of (general k) (decimal rows ∷ decimal cols ∷ decimal n ∷ []) ≡ Ok (record { rows = rows; cols = cols; entries = n })
unfolding sizes_by
sizes_read k rows cols n a b c =
    let tests : (ltb 16_384 rows || ltb 16_384 cols || ltb 262_144 n) ≡ false =
    or_from _ _ (or_from _ _ (le-ltb 16_384 rows a) (le-ltb 16_384 cols b)) (le-ltb 262_144 n c) in
    rw (decimal_read rows (omega arith), decimal_read cols (omega arith), decimal_read n (omega arith), tests) refl

-- ---- An entry line

abbrev words_for : Kind → Triple → List (List ℕ)
words_for kind.Integer t = decimal (t.i + 1) ∷ decimal (t.j + 1) ∷ signed_decimal t.v ∷ []
words_for kind.Pattern t = decimal (t.i + 1) ∷ decimal (t.j + 1) ∷ []

abbrev line_for : Kind → Triple → List ℕ
line_for kind.Integer t = decimal (t.i + 1) ++ 32 ∷ [] ++ decimal (t.j + 1) ++ 32 ∷ [] ++ signed_decimal t.v
line_for kind.Pattern t = decimal (t.i + 1) ++ 32 ∷ [] ++ decimal (t.j + 1)

entry_is_line : (k : Kind) (t : Triple) → entry_text k t ≡ line_for k t ++ 10 ∷ []
entry_is_line kind.Integer t = refl
entry_is_line kind.Pattern t = refl

record IsSmall (rows cols : ℕ) (k : Kind) (t : Triple) : Type 0 where
  row : t.i < rows
  col : t.j < cols
  limit : nat_abs t.v ≤ 1_000_000_000_000
  one : k ≡ kind.Pattern → t.v ≡ pos 1

words_are : (rows cols : ℕ) (k : Kind) (t : Triple) → rows ≤ 16_384 → cols ≤ 16_384 → IsSmall rows cols k t → words_of (line_for k t) ≡ words_for k t
words_are rows cols kind.Integer t a b h =
    three_words (decimal (t.i + 1)) (decimal (t.j + 1)) (signed_decimal t.v)
    (decimal_word (t.i + 1) (omega (arith, h.row))) (decimal_word (t.j + 1) (omega (arith, h.col))) (signed_word t.v (omega (arith, h.limit)))
words_are rows cols kind.Pattern t a b h =
    two_words (decimal (t.i + 1)) (decimal (t.j + 1)) (decimal_word (t.i + 1) (omega (arith, h.row))) (decimal_word (t.j + 1) (omega (arith, h.col)))

inner_line : (rows cols : ℕ) (k : Kind) (t : Triple) → rows ≤ 16_384 → cols ≤ 16_384 → IsSmall rows cols k t → list_all is_inner (line_for k t) ≡ true
inner_line rows cols kind.Integer t a b h =
    inner_three (decimal (t.i + 1)) (decimal (t.j + 1)) (signed_decimal t.v)
    (decimal_word (t.i + 1) (omega (arith, h.row))) (decimal_word (t.j + 1) (omega (arith, h.col))) (signed_word t.v (omega (arith, h.limit)))
inner_line rows cols kind.Pattern t a b h =
    inner_two (decimal (t.i + 1)) (decimal (t.j + 1)) (decimal_word (t.i + 1) (omega (arith, h.row))) (decimal_word (t.j + 1) (omega (arith, h.col)))

-- a line that begins with a number is not skipped
numeral_kept : (ds : List ℕ) (words : List (List ℕ)) → IsNumeral 10 ds → is_skipped (ds ∷ words) ≡ false
numeral_kept [] words h = refl
numeral_kept (b ∷ ds) words h =
    let r : IsInRange 48 57 b = digit_at (b ∷ ds) 0 h.1 (omega arith) in
    ne_eqb b 37 (λ e. omega (arith, r))

line_kept : (rows cols : ℕ) (k : Kind) (t : Triple) → rows ≤ 16_384 → IsSmall rows cols k t → is_skipped (words_for k t) ≡ false
line_kept rows cols kind.Integer t a h = numeral_kept (decimal (t.i + 1)) _ (decimal_is_IsNumeral (t.i + 1) (omega (arith, h.row))).0
line_kept rows cols kind.Pattern t a h = numeral_kept (decimal (t.i + 1)) _ (decimal_is_IsNumeral (t.i + 1) (omega (arith, h.row))).0

index_is : (size i : ℕ) → i < size → is_index size (with_sign false (i + 1)) ≡ true
index_is size i h = and_from _ _ (le-leb 1 (i + 1) (omega arith)) (le-leb (i + 1) size (omega arith))

place_is : (k : Kind) (sizes : Sizes) (i j : ℕ) → i < sizes.rows → j < sizes.cols → place_of (general k) sizes (with_sign false (i + 1)) (with_sign false (j + 1)) ≡ Ok (i, j)
place_is k sizes i j a b =
    let x : i + 1 - 1 ≡ i = omega arith in
    let y : j + 1 - 1 ≡ j = omega arith in
    rw (index_is sizes.rows i a, index_is sizes.cols j b) (ap₂ (λ m n. Ok (m, n)) x y)

value_read : (z : ℤ) → nat_abs z ≤ 1_000_000_000_000 → value_within (Some (read_as z)) ≡ Ok z
value_read z h =
    let test : ltb 1_000_000_000_000 (read_as z).size ≡ false = le-ltb 1_000_000_000_000 (read_as z).size (let e : (read_as z).size ≡ nat_abs z = size_is z in omega arith) in
    rw test (ap Ok (value_is z))

cell_read : (sizes : Sizes) (k : Kind) (t : Triple) → sizes.rows ≤ 16_384 → sizes.cols ≤ 16_384 → IsSmall sizes.rows sizes.cols k t
    → cell_by integer_of (general k) sizes (words_for k t) ≡ Ok t
unfolding cell_by
cell_read sizes kind.Integer t a b h =
    rw (
      decimal_read (t.i + 1) (omega (arith, h.row)),
      decimal_read (t.j + 1) (omega (arith, h.col)),
      place_is kind.Integer sizes t.i t.j h.row h.col,
      signed_read t.v (omega (arith, h.limit)),
      value_read t.v h.limit,
    ) refl
cell_read sizes kind.Pattern t a b h =
    rw (decimal_read (t.i + 1) (omega (arith, h.row)), decimal_read (t.j + 1) (omega (arith, h.col)), place_is kind.Pattern sizes t.i t.j h.row h.col)
    (ap (λ v. Ok (record { i = t.i; j = t.j; v = v })) (sym (h.one refl)))

-- ---- All entry lines

abbrev numbered : Kind → ℕ → List Triple → List Line
numbered k n [] = []
numbered k n (t ∷ ts) = record { number = n; words = words_for k t } ∷ numbered k (n + 1) ts

length-numbered : (k : Kind) (n : ℕ) (ts : List Triple) → length (numbered k n ts) ≡ length ts
length-numbered k n [] = refl
length-numbered k n (t ∷ ts) = ap suc (length-numbered k (n + 1) ts)

lines_flat : (rows cols : ℕ) (k : Kind) (ts : List Triple) → rows ≤ 16_384 → cols ≤ 16_384 → All (IsSmall rows cols k) ts
    → lines_of (flat_map (entry_text k) ts) ≡ map (line_for k) ts
lines_flat rows cols k [] a b h = refl
lines_flat rows cols k (t ∷ ts) a b h =
    ap lines_of (ap (λ l. l ++ flat_map (entry_text k) ts) (entry_is_line k t) ∙ append_assoc (line_for k t) (10 ∷ []) (flat_map (entry_text k) ts))
    ∙ line_here (line_for k t) (flat_map (entry_text k) ts) (inner_line rows cols k t a b (All-head (IsSmall rows cols k) t ts h))
    ∙ ap (λ ls. line_for k t ∷ ls) (lines_flat rows cols k ts a b (All-tail (IsSmall rows cols k) t ts h))

kept_line : (n : ℕ) (l : List ℕ) (rest : List (List ℕ)) (words : List (List ℕ)) → words_of l ≡ words → is_skipped words ≡ false
    → lines_from n (l ∷ rest) ≡ record { number = n; words = words } ∷ lines_from (n + 1) rest
kept_line n l rest words e h =
    ap (λ t. cond t (lines_from (n + 1) rest) (record { number = n; words = words_of l } ∷ lines_from (n + 1) rest)) (ap is_skipped e ∙ h)
    ∙ ap (λ (w : List (List ℕ)). record { number = n; words = w } ∷ lines_from (n + 1) rest) e

lines_numbered : (rows cols : ℕ) (k : Kind) (n : ℕ) (ts : List Triple) → rows ≤ 16_384 → cols ≤ 16_384 → All (IsSmall rows cols k) ts
    → lines_from n (map (line_for k) ts) ≡ numbered k n ts
lines_numbered rows cols k n [] a b h = refl
lines_numbered rows cols k n (t ∷ ts) a b h =
    let s : IsSmall rows cols k t = All-head (IsSmall rows cols k) t ts h in
    kept_line n (line_for k t) (map (line_for k) ts) (words_for k t) (words_are rows cols k t a b s) (line_kept rows cols k t a s)
    ∙ ap (λ ls. record { number = n; words = words_for k t } ∷ ls) (lines_numbered rows cols k (n + 1) ts a b (All-tail (IsSmall rows cols k) t ts h))

abbrev Apart : Triple → Triple → Type 0
Apart s t = ¬ SamePlace s t

free_place : (done : List Triple) (t : Triple) (ts : List Triple) → AllPairs Apart (done ++ (t ∷ ts)) → has_place t.i t.j done ≡ false
free_place [] t ts h = refl
free_place (d ∷ done) t ts h =
    let here : get_or (done ++ (t ∷ ts)) (length done) t ≡ t = get_or_at done t ts t (length done) refl in
    let inside : length done < length (done ++ (t ∷ ts)) = (let e : length (done ++ (t ∷ ts)) ≡ length done + length (t ∷ ts) = length-append done (t ∷ ts) in omega arith) in
    let apart : Apart d t = subst (Apart d) here (pairs_head Apart d (done ++ (t ∷ ts)) h (length done) t inside) in
    or_from (eqb d.i t.i && eqb d.j t.j) (has_place t.i t.j done)
    (false_from_ne_true (eqb d.i t.i && eqb d.j t.j) (λ g.
    let p : (eqb d.i t.i ≡ true) × (eqb d.j t.j ≡ true) = and_parts (eqb d.i t.i) (eqb d.j t.j) g in
    apart (record { row = eqb-true d.i t.i p.0; col = eqb-true d.j t.j p.1 })))
    (free_place done t ts (pairs_tail Apart d (done ++ (t ∷ ts)) h))

entry_read : (sizes : Sizes) (k : Kind) (done : List Triple) (t : Triple) → sizes.rows ≤ 16_384 → sizes.cols ≤ 16_384 → IsSmall sizes.rows sizes.cols k t
    → has_place t.i t.j done ≡ false → entry_of (general k) sizes done (words_for k t) ≡ Ok t
unfolding entry_of
entry_read sizes k done t a b h free = rw (cell_read sizes k t a b h, free) refl

entries_read : (sizes : Sizes) (k : Kind) (n : ℕ) (done ts : List Triple) → sizes.rows ≤ 16_384 → sizes.cols ≤ 16_384 → All (IsSmall sizes.rows sizes.cols k) ts
    → AllPairs Apart (done ++ ts) → entries_in (general k) sizes done (numbered k n ts) ≡ Ok (done ++ ts)
entries_read sizes k n done [] a b h once = ap Ok (sym (append-nil done))
entries_read sizes k n done (t ∷ ts) a b h once =
    let s : IsSmall sizes.rows sizes.cols k t = All-head (IsSmall sizes.rows sizes.cols k) t ts h in
    let all : done ++ t ∷ [] ++ ts ≡ done ++ (t ∷ ts) = append_assoc done (t ∷ []) ts in
    let rest : entries_in (general k) sizes (done ++ t ∷ []) (numbered k (n + 1) ts) ≡ Ok (done ++ t ∷ [] ++ ts) =
    entries_read sizes k (n + 1) (done ++ t ∷ []) ts a b (All-tail (IsSmall sizes.rows sizes.cols k) t ts h) (subst (AllPairs Apart) (sym all) once) in
    rw (entry_read sizes k done t a b s (free_place done t ts once)) (rest ∙ ap Ok all)

entries_whole : (sizes : Sizes) (k : Kind) (end n : ℕ) (ts : List Triple) → sizes.rows ≤ 16_384 → sizes.cols ≤ 16_384 → All (IsSmall sizes.rows sizes.cols k) ts
    → AllPairs Apart ts → entries_of (general k) sizes end (length ts) [] (numbered k n ts) ≡ Ok ts
unfolding entries_of
entries_whole sizes k end n ts a b h once =
    let size : length (numbered k n ts) ≡ length ts = length-numbered k n ts in
    let all : take (length ts) (numbered k n ts) ≡ numbered k n ts = take_all (length ts) (numbered k n ts) (omega arith) in
    let none : drop (length ts) (numbered k n ts) ≡ [] = drop_all (length ts) (numbered k n ts) (omega arith) in
    let enough : ltb (length (numbered k n ts)) (length ts) ≡ false = le-ltb (length (numbered k n ts)) (length ts) (omega arith) in
    rw (all, entries_read sizes k n [] ts a b h once, enough, none) refl

-- ---- The whole text

banner_read : (k : Kind) (rest : List ℕ) → (l : List ℕ) × (lines_of (banner_text k ++ rest) ≡ l ∷ lines_of rest) × (form_of (words_of l) ≡ Ok (general k))
banner_read kind.Integer rest =
    (codes "%%MatrixMarket matrix coordinate integer general", line_here (codes "%%MatrixMarket matrix coordinate integer general") rest refl, refl)
banner_read kind.Pattern rest =
    (codes "%%MatrixMarket matrix coordinate pattern general", line_here (codes "%%MatrixMarket matrix coordinate pattern general") rest refl, refl)

abbrev size_line : Sparse → List ℕ
size_line m = decimal m.rows ++ 32 ∷ [] ++ decimal m.cols ++ 32 ∷ [] ++ decimal (length m.entries)

body_read : (m : Sparse) (end : ℕ) → m.rows ≤ 16_384 → m.cols ≤ 16_384 → length m.entries ≤ 262_144 → All (IsSmall m.rows m.cols m.kind) m.entries → AllPairs Apart m.entries
    → body_of (general m.kind) end (record { number = 2; words = decimal m.rows ∷ decimal m.cols ∷ decimal (length m.entries) ∷ [] } ∷ numbered m.kind 3 m.entries) ≡ Ok m
unfolding body_of
body_read m end a b c h once =
    rw (
      sizes_read m.kind m.rows m.cols (length m.entries) a b c,
      entries_whole (record { rows = m.rows; cols = m.cols; entries = length m.entries }) m.kind end 3 m.entries a b h once,
    ) refl

under : (z : ℤ) → mag z ≤ nat_abs z
under (pos n) = omega arith
under (negsuc n) = omega arith

short_line : (rows cols : ℕ) (k : Kind) (t : Triple) → rows ≤ 16_384 → cols ≤ 16_384 → IsSmall rows cols k t → length (entry_text k t) ≤ 40
short_line rows cols kind.Integer t a b h =
    let i : List ℕ = decimal (t.i + 1) in
    let j : List ℕ = decimal (t.j + 1) in
    let v : List ℕ = signed_decimal t.v in
    let il : length i ≤ 5 = length-decimal-le 5 (t.i + 1) (omega arith) (omega (arith, h.row)) (omega (arith, h.row)) in
    let jl : length j ≤ 5 = length-decimal-le 5 (t.j + 1) (omega arith) (omega (arith, h.col)) (omega (arith, h.col)) in
    let vl : length v ≤ 14 = length_signed_le 13 t.v (omega (arith, h.limit, under t.v)) (omega (arith, h.limit, under t.v)) in
    let e1 : length (i ++ 32 ∷ []) ≡ length i + 1 = length-append i (32 ∷ []) in
    let e2 : length (i ++ 32 ∷ [] ++ j) ≡ length (i ++ 32 ∷ []) + length j = length-append (i ++ 32 ∷ []) j in
    let e3 : length (i ++ 32 ∷ [] ++ j ++ 32 ∷ []) ≡ length (i ++ 32 ∷ [] ++ j) + 1 = length-append (i ++ 32 ∷ [] ++ j) (32 ∷ []) in
    let e4 : length (i ++ 32 ∷ [] ++ j ++ 32 ∷ [] ++ v) ≡ length (i ++ 32 ∷ [] ++ j ++ 32 ∷ []) + length v = length-append (i ++ 32 ∷ [] ++ j ++ 32 ∷ []) v in
    let e5 : length (i ++ 32 ∷ [] ++ j ++ 32 ∷ [] ++ v ++ 10 ∷ []) ≡ length (i ++ 32 ∷ [] ++ j ++ 32 ∷ [] ++ v) + 1 = length-append (i ++ 32 ∷ [] ++ j ++ 32 ∷ [] ++ v) (10 ∷ []) in
    omega arith
short_line rows cols kind.Pattern t a b h =
    let i : List ℕ = decimal (t.i + 1) in
    let j : List ℕ = decimal (t.j + 1) in
    let il : length i ≤ 5 = length-decimal-le 5 (t.i + 1) (omega arith) (omega (arith, h.row)) (omega (arith, h.row)) in
    let jl : length j ≤ 5 = length-decimal-le 5 (t.j + 1) (omega arith) (omega (arith, h.col)) (omega (arith, h.col)) in
    let e1 : length (i ++ 32 ∷ []) ≡ length i + 1 = length-append i (32 ∷ []) in
    let e2 : length (i ++ 32 ∷ [] ++ j) ≡ length (i ++ 32 ∷ []) + length j = length-append (i ++ 32 ∷ []) j in
    let e3 : length (i ++ 32 ∷ [] ++ j ++ 10 ∷ []) ≡ length (i ++ 32 ∷ [] ++ j) + 1 = length-append (i ++ 32 ∷ [] ++ j) (10 ∷ []) in
    omega arith

short_size : (m : Sparse) → m.rows ≤ 16_384 → m.cols ≤ 16_384 → length m.entries ≤ 262_144 → length (size_text m) ≤ 40
short_size m a b c =
    let i : List ℕ = decimal m.rows in
    let j : List ℕ = decimal m.cols in
    let v : List ℕ = decimal (length m.entries) in
    let il : length i ≤ 5 = length-decimal-le 5 m.rows (omega arith) (omega arith) (omega arith) in
    let jl : length j ≤ 5 = length-decimal-le 5 m.cols (omega arith) (omega arith) (omega arith) in
    let vl : length v ≤ 6 = length-decimal-le 6 (length m.entries) (omega arith) (omega arith) (omega arith) in
    let e1 : length (i ++ 32 ∷ []) ≡ length i + 1 = length-append i (32 ∷ []) in
    let e2 : length (i ++ 32 ∷ [] ++ j) ≡ length (i ++ 32 ∷ []) + length j = length-append (i ++ 32 ∷ []) j in
    let e3 : length (i ++ 32 ∷ [] ++ j ++ 32 ∷ []) ≡ length (i ++ 32 ∷ [] ++ j) + 1 = length-append (i ++ 32 ∷ [] ++ j) (32 ∷ []) in
    let e4 : length (i ++ 32 ∷ [] ++ j ++ 32 ∷ [] ++ v) ≡ length (i ++ 32 ∷ [] ++ j ++ 32 ∷ []) + length v = length-append (i ++ 32 ∷ [] ++ j ++ 32 ∷ []) v in
    let e5 : length (i ++ 32 ∷ [] ++ j ++ 32 ∷ [] ++ v ++ 10 ∷ []) ≡ length (i ++ 32 ∷ [] ++ j ++ 32 ∷ [] ++ v) + 1 = length-append (i ++ 32 ∷ [] ++ j ++ 32 ∷ [] ++ v) (10 ∷ []) in
    omega arith

banner_length : (k : Kind) → length (banner_text k) ≡ 49
banner_length kind.Integer = refl
banner_length kind.Pattern = refl

short_text : (m : Sparse) → m.rows ≤ 16_384 → m.cols ≤ 16_384 → length m.entries ≤ 262_144 → All (IsSmall m.rows m.cols m.kind) m.entries → length (text_of m) ≤ 16_777_216
short_text m a b c h =
    let lines : List ℕ = flat_map (entry_text m.kind) m.entries in
    let size : length lines ≡ sum_by (λ t. length (entry_text m.kind t)) m.entries = length-flat_map (entry_text m.kind) m.entries in
    let few : sum_by (λ t. length (entry_text m.kind t)) m.entries ≤ length m.entries * 40 =
    sum_by-le (λ t. length (entry_text m.kind t)) 40 m.entries (λ k d l. short_line m.rows m.cols m.kind (get_or m.entries k d) a b (h k d l)) in
    let two : length (size_text m ++ lines) ≡ length (size_text m) + length lines = length-append (size_text m) lines in
    let all : length (banner_text m.kind ++ (size_text m ++ lines)) ≡ length (banner_text m.kind) + length (size_text m ++ lines) = length-append (banner_text m.kind) (size_text m ++ lines) in
    let s : length (size_text m) ≤ 40 = short_size m a b c in
    let n : length (banner_text m.kind) ≡ 49 = banner_length m.kind in
    omega arith

whole_read : (m : Sparse) (l : List ℕ) (more : List (List ℕ)) → m.rows ≤ 16_384 → m.cols ≤ 16_384 → length m.entries ≤ 262_144 → All (IsSmall m.rows m.cols m.kind) m.entries → AllPairs Apart m.entries
    → form_of (words_of l) ≡ Ok (general m.kind) → lines_from 2 more ≡ record { number = 2; words = decimal m.rows ∷ decimal m.cols ∷ decimal (length m.entries) ∷ [] } ∷ numbered m.kind 3 m.entries
    → lines_read (l ∷ more) ≡ Ok m
unfolding lines_read
whole_read m l more a b c h once f e = rw (f, e, body_read m (length (l ∷ more) + 1) a b c h once) refl

text_read : (m : Sparse) → m.rows ≤ 16_384 → m.cols ≤ 16_384 → length m.entries ≤ 262_144 → All (IsSmall m.rows m.cols m.kind) m.entries → AllPairs Apart m.entries → lines_read (lines_of (text_of m)) ≡ Ok m
text_read m a b c h once =
    let lines : List ℕ = flat_map (entry_text m.kind) m.entries in
    let top : (l : List ℕ) × (lines_of (banner_text m.kind ++ (size_text m ++ lines)) ≡ l ∷ lines_of (size_text m ++ lines)) × (form_of (words_of l) ≡ Ok (general m.kind)) = banner_read m.kind (size_text m ++ lines) in
    let r : IsWord (decimal m.rows) = decimal_word m.rows (omega arith) in
    let c' : IsWord (decimal m.cols) = decimal_word m.cols (omega arith) in
    let n : IsWord (decimal (length m.entries)) = decimal_word (length m.entries) (omega arith) in
    let second : lines_of (size_text m ++ lines) ≡ size_line m ∷ map (line_for m.kind) m.entries =
    ap lines_of (append_assoc (size_line m) (10 ∷ []) lines)
    ∙ line_here (size_line m) lines (inner_three (decimal m.rows) (decimal m.cols) (decimal (length m.entries)) r c' n)
    ∙ ap (λ ls. size_line m ∷ ls) (lines_flat m.rows m.cols m.kind m.entries a b h) in
    let kept : lines_from 2 (size_line m ∷ map (line_for m.kind) m.entries) ≡ record { number = 2; words = decimal m.rows ∷ decimal m.cols ∷ decimal (length m.entries) ∷ [] } ∷ numbered m.kind 3 m.entries =
    kept_line 2 (size_line m) (map (line_for m.kind) m.entries) (decimal m.rows ∷ decimal m.cols ∷ decimal (length m.entries) ∷ [])
    (three_words (decimal m.rows) (decimal m.cols) (decimal (length m.entries)) r c' n) (numeral_kept (decimal m.rows) _ (decimal_is_IsNumeral m.rows (omega arith)).0)
    ∙ ap (λ ls. record { number = 2; words = decimal m.rows ∷ decimal m.cols ∷ decimal (length m.entries) ∷ [] } ∷ ls) (lines_numbered m.rows m.cols m.kind 3 m.entries a b h) in
    ap lines_read (top.1 ∙ ap (λ ls. top.0 ∷ ls) second)
    ∙ whole_read m top.0 (size_line m ∷ map (line_for m.kind) m.entries) a b c h once top.2 kept

decided : (text : List ℕ) (m : Sparse) → length text ≤ 16_777_216 → lines_read (lines_of text) ≡ Ok m → matrix_of text ≡ Ok m
unfolding matrix_of
decided text m h e = rw (le-ltb 16_777_216 (length text) h) e

-- the round trip
pub read_again : (m : Sparse) → IsSparse m → length m.entries ≤ 262_144 → matrix_of (text_of m) ≡ Ok m
read_again m lawful few =
    let small : All (IsSmall m.rows m.cols m.kind) m.entries = λ k d l.
    (let h : IsEntry m (get_or m.entries k d) = lawful.inside k d l in record { row = h.row; col = h.col; limit = h.limit; one = h.one }) in
    decided (text_of m) m (short_text m lawful.tall lawful.wide few small) (text_read m lawful.tall lawful.wide few small lawful.once)
