-- Counting lines that are in order, one after the other.
use Rattle.std.proofs.Common.{ℕ, zero, suc, ◌+◌, ◌-◌, ◌<◌, ◌≤◌, ◌≡◌, ◌≢◌, false, List, [], ◌∷◌, ◌++◌, Some, map, length, get_or, set, take, slice_get, replicate, fold, All, arith, inl, inr, refl, sym, ap, ◌∙◌, subst}
use Rattle.std.proofs.Common.{Less, Greater, is_gt, is_lt}
use Rattle.std.specs.List.Sorted.{IsSortedBy}
use Rattle.std.proofs.lemmas.List.{get_or-take, length-set, length-take-le, length_push, take_more}
use Rattle.std.proofs.lemmas.List.Elements.{All-append, All-nil, All-cons, All-replicate}
use Rattle.std.proofs.lemmas.List.Sorted.{ranks_by, sorted_far}
use Rattle.std.proofs.lemmas.Option.{get_or_from_slice_get, same_Some}
use Rattle.list_laws.proofs.Lists.{find, within, get_map, all_head, all_tail}
use Rattle.app_tally.specs.Counts.{by_bytes, Entry, with_line, tally_of, Before, Rises}
use Rattle.app_tally.specs.laws.CountOrder.{order, one_line, itself, order_turned, which, no_tie, at_less, at_equal, at_greater}
use Rattle.app_tally.specs.code.CountView.{numbered_lines, counted_lines, counted_times, IsCounts}
use Rattle.app_tally.proofs.Multisets.{entries_len, many_equal, many_greater, many_none, counted_push}
use Rattle.app_tally.proofs.Tallied.{rises_on}

-- ---- Entries by their parts

pub entries_count : (ls : List (List ℕ)) (ns : List ℕ) → IsCounts ls ns → length (numbered_lines ls ns) ≡ length ns
entries_count ls ns c = entries_len ls ns c.same

lines_back : (ls : List (List ℕ)) (ns : List ℕ) → length ns ≡ length ls → map (λ e. e.0) (numbered_lines ls ns) ≡ ls
lines_back [] ns e = refl
lines_back (l ∷ ls) [] e = absurd (omega arith)
lines_back (l ∷ ls) (n ∷ ns) e = ap (λ w. l ∷ w) (lines_back ls ns (omega arith))

times_back : (ls : List (List ℕ)) (ns : List ℕ) → length ns ≡ length ls → map (λ e. e.1) (numbered_lines ls ns) ≡ ns
times_back [] [] e = refl
times_back [] (n ∷ ns) e = absurd (omega arith)
times_back (l ∷ ls) [] e = refl
times_back (l ∷ ls) (n ∷ ns) e = ap (λ w. n ∷ w) (times_back ls ns (omega arith))

pub line_of : (ls : List (List ℕ)) (ns : List ℕ) (i : ℕ) (l : List ℕ) → IsCounts ls ns → slice_get ls i ≡ Some l → slice_get (map (λ e. e.0) (numbered_lines ls ns)) i ≡ Some l
line_of ls ns i l c at = ap (λ w. slice_get w i) (lines_back ls ns c.same) ∙ at

pub times_of : (ls : List (List ℕ)) (ns : List ℕ) (i n : ℕ) → IsCounts ls ns → slice_get ns i ≡ Some n → slice_get (map (λ e. e.1) (numbered_lines ls ns)) i ≡ Some n
times_of ls ns i n c at = ap (λ w. slice_get w i) (times_back ls ns c.same) ∙ at

-- ---- The last line once more

before_line : (q : List ℕ) (ls : List (List ℕ)) (ns : List ℕ) (i : ℕ) (l : List ℕ) → length ns ≡ length ls → Before q (numbered_lines ls ns) → slice_get ls i ≡ Some l → by_bytes q l ≡ Less
before_line q [] ns i l e b at = absurd (cc)
before_line q (m ∷ ls) [] i l e b at = absurd (omega arith)
before_line q (m ∷ ls) (n ∷ ns) zero l e b at = ap (by_bytes q) (sym (same_Some m l at)) ∙ b.0
before_line q (m ∷ ls) (n ∷ ns) (suc i) l e b at = before_line q ls ns i l (omega arith) b.1 at

once_more : (ls : List (List ℕ)) (ns : List ℕ) (k : ℕ) (line : List ℕ) (more : ℕ) → length ns ≡ length ls → Rises (numbered_lines ls ns) → k + 1 ≡ length ls → slice_get ls k ≡ Some line
    → numbered_lines ls (set ns k (get_or ns k 0 + more)) ≡ counted_times more line (numbered_lines ls ns)
once_more [] ns k line more e r last at = absurd (omega arith)
once_more (l ∷ ls) [] k line more e r last at = absurd (omega arith)
once_more (l ∷ []) (n ∷ []) zero line more e r last at =
    sym (many_equal more line (l, n) [] (ap (by_bytes line) (same_Some l line at) ∙ itself line))
once_more (l ∷ (m ∷ ls)) (n ∷ ns) zero line more e r last at = absurd (omega arith)
once_more (l ∷ []) (n ∷ (o ∷ ns)) zero line more e r last at = absurd (omega arith)
once_more (l ∷ ls) (n ∷ ns) (suc k) line more e r last at =
    let less : by_bytes l line ≡ Less = before_line l ls ns k line (omega arith) r.0 at in
    ap (λ w. (l, n) ∷ w) (once_more ls ns k line more (omega arith) r.1 (omega arith) at)
    ∙ sym (many_greater more line (l, n) (numbered_lines ls ns) (order_turned l line Less less))

pub raised_more : (ls : List (List ℕ)) (ns ns' : List ℕ) (line : List ℕ) (more : ℕ) → IsCounts ls ns → slice_get ls (length ls - 1) ≡ Some line → ns' ≡ set ns (length ns - 1) (get_or ns (length ns - 1) 0 + more)
    → numbered_lines ls ns' ≡ counted_times more line (numbered_lines ls ns)
raised_more ls ns ns' line more c at e =
    let low : length ls - 1 < length ls = within ls (length ls - 1) line at in
    let last : length ns - 1 ≡ length ls - 1 = ap (λ n. n - 1) c.same in
    ap (numbered_lines ls) (e ∙ ap (λ k. set ns k (get_or ns k 0 + more)) last) ∙ once_more ls ns (length ls - 1) line more c.same c.rises (omega arith) at

pub raised_counts : (ls : List (List ℕ)) (ns ns' : List ℕ) (line : List ℕ) (more : ℕ) → IsCounts ls ns → slice_get ls (length ls - 1) ≡ Some line → ns' ≡ set ns (length ns - 1) (get_or ns (length ns - 1) 0 + more)
    → IsCounts ls ns'
raised_counts ls ns ns' line more c at e =
    record {
      same = ap length e ∙ length-set ns (length ns - 1) (get_or ns (length ns - 1) 0 + more) ∙ c.same;
      rises = subst Rises (sym (raised_more ls ns ns' line more c at e)) (rises_on (numbered_lines ls ns) (replicate more line) c.rises);
    }

-- ---- Another line

-- of lines that rise, none but the last ties with one that none exceeds
tied_last : (l : List ℕ) (ls : List (List ℕ)) (ns : List ℕ) (line : List ℕ) → length ns ≡ length ls → Before l (numbered_lines ls ns) → l ≡ line → All (λ e. is_gt (by_bytes e.0 line) ≡ false) (numbered_lines ls ns)
    → slice_get (l ∷ ls) (length ls) ≢ Some line → ⊥
tied_last l [] ns line e b same low other = other (ap Some same)
tied_last l (m ∷ ls) [] line e b same low other = absurd (omega arith)
tied_last l (m ∷ ls) (n ∷ ns) line e b same low other =
    let greater : by_bytes m line ≡ Greater = ap (by_bytes m) (sym same) ∙ order_turned l m Less b.0 in
    no_tie (is_gt (by_bytes m line)) (all_head (λ (e : Entry). is_gt (by_bytes e.0 line) ≡ false) (m, n) (numbered_lines ls ns) low) (ap is_gt greater)

-- a line that is no greater and isn't the last one comes before
next_greater : (l : List ℕ) (n : ℕ) (ls : List (List ℕ)) (ns : List ℕ) (line : List ℕ) → length ns ≡ length ls → Before l (numbered_lines ls ns) → All (λ e. is_gt (by_bytes e.0 line) ≡ false) ((l, n) ∷ numbered_lines ls ns)
    → slice_get (l ∷ ls) (length ls) ≢ Some line → by_bytes l line ≡ Less
next_greater l n ls ns line e b low other =
    elim (which (by_bytes l line)) [
      | inl o ↦ o
      | inr (inl o) ↦ absurd (tied_last l ls ns line e b (one_line l line o) (all_tail (λ (e : Entry). is_gt (by_bytes e.0 line) ≡ false) (l, n) (numbered_lines ls ns) low) other)
      | inr (inr o) ↦ absurd (no_tie (is_gt (by_bytes l line)) (all_head (λ (e : Entry). is_gt (by_bytes e.0 line) ≡ false) (l, n) (numbered_lines ls ns) low) (ap is_gt o))
    ]

one_before : (n : ℕ) → suc n - 1 ≡ n
one_before n = omega arith

put_last : (ls : List (List ℕ)) (ns : List ℕ) (line : List ℕ) (more : ℕ) → length ns ≡ length ls → Rises (numbered_lines ls ns) → All (λ e. is_gt (by_bytes e.0 line) ≡ false) (numbered_lines ls ns) → slice_get ls (length ls - 1) ≢ Some line → 0 < more
    → numbered_lines (ls ++ line ∷ []) (ns ++ more ∷ []) ≡ counted_times more line (numbered_lines ls ns)
put_last [] [] line more e r low other some = sym (many_none more line some)
put_last [] (n ∷ ns) line more e r low other some = absurd (omega arith)
put_last (l ∷ ls) [] line more e r low other some = absurd (omega arith)
put_last (l ∷ []) (n ∷ []) line more e r low other some =
    let less : by_bytes l line ≡ Less = next_greater l n [] [] line refl r.0 low other in
    sym (many_greater more line (l, n) [] (order_turned l line Less less) ∙ ap (λ w. (l, n) ∷ w) (many_none more line some))
put_last (l ∷ []) (n ∷ (o ∷ ns)) line more e r low other some = absurd (omega arith)
put_last (l ∷ (m ∷ ls)) (n ∷ ns) line more e r low other some =
    let less : by_bytes l line ≡ Less = next_greater l n (m ∷ ls) ns line (omega arith) r.0 low (subst (λ k. slice_get (l ∷ (m ∷ ls)) k ≢ Some line) (one_before (length (m ∷ ls))) other) in
    ap (λ w. (l, n) ∷ w) (put_last (m ∷ ls) ns line more (omega arith) r.1 (all_tail (λ (e : Entry). is_gt (by_bytes e.0 line) ≡ false) (l, n) (numbered_lines (m ∷ ls) ns) low)
    (subst (λ k. slice_get (m ∷ ls) k ≢ Some line) (sym (one_before (length ls))) (subst (λ k. slice_get (l ∷ (m ∷ ls)) k ≢ Some line) (one_before (length (m ∷ ls))) other)) some)
    ∙ sym (many_greater more line (l, n) (numbered_lines (m ∷ ls) ns) (order_turned l line Less less))

pub pushed_more : (ls ls' : List (List ℕ)) (ns ns' : List ℕ) (line : List ℕ) (more : ℕ) → IsCounts ls ns → All (λ e. is_gt (by_bytes e.0 line) ≡ false) (numbered_lines ls ns) → slice_get ls (length ls - 1) ≢ Some line → 0 < more → ls' ≡ ls ++ line ∷ [] → ns' ≡ ns ++ more ∷ []
    → numbered_lines ls' ns' ≡ counted_times more line (numbered_lines ls ns)
pushed_more ls ls' ns ns' line more c low other some e f =
    ap (λ w. numbered_lines w ns') e ∙ ap (numbered_lines (ls ++ line ∷ [])) f ∙ put_last ls ns line more c.same c.rises low other some

pub pushed_counts : (ls ls' : List (List ℕ)) (ns ns' : List ℕ) (line : List ℕ) (more : ℕ) → IsCounts ls ns → All (λ e. is_gt (by_bytes e.0 line) ≡ false) (numbered_lines ls ns) → slice_get ls (length ls - 1) ≢ Some line → 0 < more → ls' ≡ ls ++ line ∷ [] → ns' ≡ ns ++ more ∷ []
    → IsCounts ls' ns'
pushed_counts ls ls' ns ns' line more c low other some e f =
    let same : length ns ≡ length ls = c.same in
    record {
      same = ap length f ∙ length_push ns more ∙ ap (λ n. n + 1) same ∙ sym (ap length e ∙ length_push ls line);
      rises = subst Rises (sym (pushed_more ls ls' ns ns' line more c low other some e f)) (rises_on (numbered_lines ls ns) (replicate more line) c.rises);
    }

-- ---- A walk over lines in order

-- what holds of a line and of those of entries holds of them all
keys_counted : (P : List ℕ → Type 0) (l : List ℕ) (es : List Entry) → P l → All (λ e. P e.0) es → All (λ e. P e.0) (with_line l es)
keys_counted P l [] h a = All-cons (λ (e : Entry). P e.0) (l, 1) [] h (All-nil (λ (e : Entry). P e.0))
keys_counted P l (e ∷ es) h a =
    let here : P e.0 = all_head (λ (e : Entry). P e.0) e es a in
    let rest : All (λ (e : Entry). P e.0) es = all_tail (λ (e : Entry). P e.0) e es a in
    elim (which (by_bytes l e.0)) [
      | inl b ↦ subst (All (λ (e : Entry). P e.0)) (sym (at_less l e es b)) (All-cons (λ (e : Entry). P e.0) (l, 1) (e ∷ es) h a)
      | inr (inl b) ↦ subst (All (λ (e : Entry). P e.0)) (sym (at_equal l e es b)) (All-cons (λ (e : Entry). P e.0) (e.0, e.1 + 1) es here rest)
      | inr (inr b) ↦ subst (All (λ (e : Entry). P e.0)) (sym (at_greater l e es b)) (All-cons (λ (e : Entry). P e.0) e (with_line l es) here (keys_counted P l es h rest))
    ]

keys_on : (P : List ℕ → Type 0) (es : List Entry) (ls : List (List ℕ)) → All (λ e. P e.0) es → All P ls → All (λ e. P e.0) (fold (λ es l. with_line l es) es ls)
keys_on P es [] a b = a
keys_on P es (l ∷ ls) a b = keys_on P (with_line l es) ls (keys_counted P l es (all_head P l ls b) a) (all_tail P l ls b)

all_counted : (P : List ℕ → Type 0) (es : List Entry) → All (λ e. P e.0) es → All P (counted_lines es)
all_counted P [] a = All-nil P
all_counted P (e ∷ es) a =
    All-append P (replicate e.1 e.0) (counted_lines es) (All-replicate P e.1 e.0 (all_head (λ (w : Entry). P w.0) e es a)) (all_counted P es (all_tail (λ (w : Entry). P w.0) e es a))

-- what holds of the lines of the first i entries holds of those of their tally
keys_taken : (P : List ℕ → Type 0) (es : List Entry) (i : ℕ) → i ≤ length es → ((j : ℕ) (d : Entry) → j < i → P (get_or es j d).0) → All (λ e. P e.0) (tally_of (counted_lines (take i es)))
keys_taken P es i low h =
    let len : length (take i es) ≡ i = length-take-le i es low in
    keys_on P [] (counted_lines (take i es)) (All-nil (λ (e : Entry). P e.0))
    (all_counted P (take i es) (λ k d l. let here : k < i = omega arith in subst (λ (e : Entry). P e.0) (sym (get_or-take i es k d here)) (h k d here)))

not_greater : (l m : List ℕ) → is_lt (by_bytes m l) ≡ false → is_gt (by_bytes l m) ≡ false
not_greater l m h =
    elim (which (by_bytes l m)) [
      | inl o ↦ ap is_gt o
      | inr (inl o) ↦ ap is_gt o
      | inr (inr o) ↦ absurd (no_tie (is_lt (by_bytes m l)) h (ap is_lt (order_turned l m Greater o)))
    ]

-- of entries in order, each has a line no less than those before it
pub none_greater : (es : List Entry) (i : ℕ) (line : List ℕ) (n : ℕ) → IsSortedBy (λ (e : Entry) (f : Entry). is_lt (by_bytes e.0 f.0)) es → i < length es → slice_get es i ≡ Some (line, n)
    → All (λ e. is_gt (by_bytes e.0 line) ≡ false) (tally_of (counted_lines (take i es)))
none_greater es i line n sorted low at =
    keys_taken (λ l. is_gt (by_bytes l line) ≡ false) es i (omega arith)
    (λ j d l.
    let far : is_lt (by_bytes (get_or es i d).0 (get_or es j d).0) ≡ false = sorted_far (λ (e : Entry) (f : Entry). is_lt (by_bytes e.0 f.0)) (ranks_by order (λ (e : Entry). e.0)) es sorted j i d (omega arith) low in
    not_greater (get_or es j d).0 line (ap (λ (w : Entry). is_lt (by_bytes w.0 (get_or es j d).0)) (sym (get_or_from_slice_get es i (line, n) d at)) ∙ far))

pub counted_take : (es : List Entry) (i : ℕ) (line : List ℕ) (n : ℕ) (old new : List Entry) → i < length es → slice_get es i ≡ Some (line, n) → old ≡ tally_of (counted_lines (take i es)) → new ≡ counted_times n line old
    → new ≡ tally_of (counted_lines (take (i + 1) es))
counted_take es i line n old new low at so_far e =
    e ∙ ap (counted_times n line) so_far ∙ sym (counted_push (take i es) (line, n))
    ∙ ap (λ w. tally_of (counted_lines (take i es ++ w ∷ []))) (sym (get_or_from_slice_get es i (line, n) (line, n) at))
    ∙ ap (λ w. tally_of (counted_lines w)) (sym (take_more es i (line, n) low))

-- an element of a list that is seen through a map
pub map_at : {X : Type 0} (f : X → Entry) (xs : List X) (i : ℕ) (d : X) → i < length xs → slice_get (map f xs) i ≡ Some (f (get_or xs i d))
map_at f xs i d low =
    let x : (x : _) × (slice_get xs i ≡ Some x) = find xs i low in
    get_map f xs i x.0 x.1 ∙ ap (λ w. Some (f w)) (sym (get_or_from_slice_get xs i x.0 d x.1))
