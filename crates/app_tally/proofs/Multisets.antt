-- Lines with numbers: how many times they count each line, and the tally of them.
use Rattle.std.proofs.Common.{ℕ, zero, suc, ◌+◌, ◌<◌, ◌≡◌, cond, Result, Ok, Err, OnOk, OnErr, List, [], ◌∷◌, ◌++◌, Some, map, length, get_or, set, slice_get, replicate, fold, All, arith, refl, sym, ap, ◌∙◌, subst}
use Rattle.std.proofs.Common.{Equal, Greater, is_eq}
use Rattle.std.specs.List.Sorted.{IsPermutation}
use Rattle.std.proofs.lemmas.Grind.{flat_map-append}
use Rattle.std.proofs.lemmas.List.{flat_map_more, length-set, length_push}
use Rattle.std.proofs.lemmas.List.Elements.{All-nil, All-cons, All-set, All-push}
use Rattle.std.proofs.lemmas.List.Sorted.{IsPermutation-map, sum_by-IsPermutation, All-permutation}
use Rattle.std.proofs.lemmas.List.Sums.{fold-append, sum_by-append, sum_by-cons, sum_by_push}
use Rattle.std.proofs.lemmas.Option.{same_Some}
use Rattle.list_laws.proofs.Lists.{all_head, all_tail}
use Rattle.elastic.specs.Spelling.{IsLetter}
use Rattle.app_tally.specs.Counts.{by_bytes, Entry, times, with_line, tally_of}
use Rattle.app_tally.specs.laws.CountOrder.{itself, at_equal, at_greater}
use Rattle.app_tally.specs.code.CountView.{numbered_lines, counted_lines, counted_times, IsMultiset, IsLineEntry}
use Rattle.app_tally.proofs.Tallied.{one_if, times_cons, same_tally, tally_push}

-- ---- Answers

-- what follows from either answer
pub either_way : {T E : Type 0} {P Q R : Type 0} (r : Result T E) → OnOk r P → OnErr r Q → (P → R) → (Q → R) → R
either_way (Ok x) p q f g = f p
either_way (Err e) p q f g = g q

pub either_both : {T E : Type 0} {P Q R S U : Type 0} (r : Result T E) → OnOk r P → OnOk r Q → OnErr r R → OnErr r S → (P → Q → U) → (R → S → U) → U
either_both (Ok x) p q u v f g = f p q
either_both (Err e) p q u v f g = g u v

-- ---- How many times a line is counted

pub times_append : (q : List ℕ) (xs ys : List (List ℕ)) → times q (xs ++ ys) ≡ times q xs + times q ys
times_append q xs ys = sum_by-append (λ m. cond (is_eq (by_bytes q m)) 1 0) xs ys

pub counted_cons : (q : List ℕ) (e : Entry) (es : List Entry) → times q (counted_lines (e ∷ es)) ≡ times q (replicate e.1 e.0) + times q (counted_lines es)
counted_cons q e es = times_append q (replicate e.1 e.0) (counted_lines es)

pub counted_append : (q : List ℕ) (es fs : List Entry) → times q (counted_lines (es ++ fs)) ≡ times q (counted_lines es) + times q (counted_lines fs)
counted_append q es fs = ap (times q) (flat_map-append (λ (e : Entry). replicate e.1 e.0) es fs) ∙ times_append q (counted_lines es) (counted_lines fs)

one_after : (n : ℕ) → n + 1 ≡ suc n
one_after n = omega arith

times_again : (q : List ℕ) (n : ℕ) (l : List ℕ) → times q (replicate (n + 1) l) ≡ one_if (is_eq (by_bytes q l)) + times q (replicate n l)
times_again q n l = ap (λ k. times q (replicate k l)) (one_after n) ∙ times_cons q l (replicate n l)

-- a number that is raised counts its line once more
pub raised_at : (q : List ℕ) (ls : List (List ℕ)) (ns : List ℕ) (i : ℕ) (line : List ℕ) → length ns ≡ length ls → slice_get ls i ≡ Some line
    → times q (counted_lines (numbered_lines ls (set ns i (get_or ns i 0 + 1)))) ≡ times q (counted_lines (numbered_lines ls ns)) + one_if (is_eq (by_bytes q line))
raised_at q [] ns i line e at = absurd (cc)
raised_at q (l ∷ ls) [] i line e at = absurd (omega arith)
raised_at q (l ∷ ls) (n ∷ ns) zero line e at =
    let old : times q (counted_lines ((l, n) ∷ numbered_lines ls ns)) ≡ times q (replicate n l) + times q (counted_lines (numbered_lines ls ns)) = counted_cons q (l, n) (numbered_lines ls ns) in
    let new : times q (counted_lines ((l, n + 1) ∷ numbered_lines ls ns)) ≡ times q (replicate (n + 1) l) + times q (counted_lines (numbered_lines ls ns)) = counted_cons q (l, n + 1) (numbered_lines ls ns) in
    let one : times q (replicate (n + 1) l) ≡ one_if (is_eq (by_bytes q l)) + times q (replicate n l) = times_again q n l in
    let same : one_if (is_eq (by_bytes q l)) ≡ one_if (is_eq (by_bytes q line)) = ap (λ w. one_if (is_eq (by_bytes q w))) (same_Some l line at) in
    omega arith
raised_at q (l ∷ ls) (n ∷ ns) (suc i) line e at =
    let old : times q (counted_lines ((l, n) ∷ numbered_lines ls ns)) ≡ times q (replicate n l) + times q (counted_lines (numbered_lines ls ns)) = counted_cons q (l, n) (numbered_lines ls ns) in
    let new : times q (counted_lines ((l, n) ∷ numbered_lines ls (set ns i (get_or ns i 0 + 1)))) ≡ times q (replicate n l) + times q (counted_lines (numbered_lines ls (set ns i (get_or ns i 0 + 1)))) = counted_cons q (l, n) (numbered_lines ls (set ns i (get_or ns i 0 + 1))) in
    let rest : times q (counted_lines (numbered_lines ls (set ns i (get_or ns i 0 + 1)))) ≡ times q (counted_lines (numbered_lines ls ns)) + one_if (is_eq (by_bytes q line)) = raised_at q ls ns i line (omega arith) at in
    omega arith

pub pushed_entry : (ls : List (List ℕ)) (ns : List ℕ) (line : List ℕ) (m : ℕ) → length ns ≡ length ls → numbered_lines (ls ++ line ∷ []) (ns ++ m ∷ []) ≡ numbered_lines ls ns ++ (line, m) ∷ []
pushed_entry [] [] line m e = refl
pushed_entry [] (n ∷ ns) line m e = absurd (omega arith)
pushed_entry (l ∷ ls) [] line m e = absurd (omega arith)
pushed_entry (l ∷ ls) (n ∷ ns) line m e = ap (λ w. (l, n) ∷ w) (pushed_entry ls ns line m (omega arith))

-- and so does a line that is appended
pushed_at : (q : List ℕ) (ls : List (List ℕ)) (ns : List ℕ) (line : List ℕ) → length ns ≡ length ls
    → times q (counted_lines (numbered_lines (ls ++ line ∷ []) (ns ++ 1 ∷ []))) ≡ times q (counted_lines (numbered_lines ls ns)) + one_if (is_eq (by_bytes q line))
pushed_at q ls ns line e =
    let both : times q (counted_lines (numbered_lines ls ns ++ (line, 1) ∷ [])) ≡ times q (counted_lines (numbered_lines ls ns)) + times q (counted_lines ((line, 1) ∷ [])) = counted_append q (numbered_lines ls ns) ((line, 1) ∷ []) in
    let one : times q (line ∷ []) ≡ one_if (is_eq (by_bytes q line)) + times q [] = times_cons q line [] in
    ap (λ es. times q (counted_lines es)) (pushed_entry ls ns line 1 e) ∙ both ∙ ap (λ n. times q (counted_lines (numbered_lines ls ns)) + n) (let s : times q (line ∷ []) ≡ one_if (is_eq (by_bytes q line)) = omega arith in s)

-- so the tally has the line once more
pub counted_more : (es fs : List Entry) (line : List ℕ) → ((q : List ℕ) → times q (counted_lines fs) ≡ times q (counted_lines es) + one_if (is_eq (by_bytes q line)))
    → tally_of (counted_lines fs) ≡ with_line line (tally_of (counted_lines es))
counted_more es fs line h =
    same_tally (counted_lines fs) (counted_lines es ++ line ∷ []) (λ q. h q ∙ sym (sum_by_push (λ m. cond (is_eq (by_bytes q m)) 1 0) (counted_lines es) line))
    ∙ tally_push (counted_lines es) line

pub raised_tally : (ls : List (List ℕ)) (ns ns' : List ℕ) (i : ℕ) (line : List ℕ) → IsMultiset ls ns → slice_get ls i ≡ Some line → ns' ≡ set ns i (get_or ns i 0 + 1)
    → tally_of (counted_lines (numbered_lines ls ns')) ≡ with_line line (tally_of (counted_lines (numbered_lines ls ns)))
raised_tally ls ns ns' i line is at e =
    ap (λ w. tally_of (counted_lines (numbered_lines ls w))) e
    ∙ counted_more (numbered_lines ls ns) (numbered_lines ls (set ns i (get_or ns i 0 + 1))) line (λ q. raised_at q ls ns i line is.same at)

pub raised_multiset : (ls : List (List ℕ)) (ns ns' : List ℕ) (i : ℕ) → IsMultiset ls ns → ns' ≡ set ns i (get_or ns i 0 + 1) → IsMultiset ls ns'
raised_multiset ls ns ns' i is e =
    record {
      same = ap length e ∙ length-set ns i (get_or ns i 0 + 1) ∙ is.same;
      some = subst (All (λ n. 0 < n)) (sym e) (All-set (λ n. 0 < n) ns i (get_or ns i 0 + 1) (omega arith) is.some);
    }

pub pushed_tally : (ls ls' : List (List ℕ)) (ns ns' : List ℕ) (line : List ℕ) → IsMultiset ls ns → ls' ≡ ls ++ line ∷ [] → ns' ≡ ns ++ 1 ∷ []
    → tally_of (counted_lines (numbered_lines ls' ns')) ≡ with_line line (tally_of (counted_lines (numbered_lines ls ns)))
pushed_tally ls ls' ns ns' line is e f =
    ap (λ w. tally_of (counted_lines (numbered_lines w ns'))) e ∙ ap (λ w. tally_of (counted_lines (numbered_lines (ls ++ line ∷ []) w))) f
    ∙ counted_more (numbered_lines ls ns) (numbered_lines (ls ++ line ∷ []) (ns ++ 1 ∷ [])) line (λ q. pushed_at q ls ns line is.same)

pub pushed_multiset : (ls ls' : List (List ℕ)) (ns ns' : List ℕ) (line : List ℕ) → IsMultiset ls ns → ls' ≡ ls ++ line ∷ [] → ns' ≡ ns ++ 1 ∷ [] → IsMultiset ls' ns'
pushed_multiset ls ls' ns ns' line is e f =
    let same : length ns ≡ length ls = is.same in
    record {
      same = ap length f ∙ length_push ns 1 ∙ ap (λ n. n + 1) same ∙ sym (ap length e ∙ length_push ls line);
      some = subst (All (λ n. 0 < n)) (sym f) (All-push (λ n. 0 < n) ns 1 is.some (omega arith));
    }

pub kept_multiset : (ls ls' : List (List ℕ)) (ns ns' : List ℕ) → IsMultiset ls ns → ls' ≡ ls → ns' ≡ ns → IsMultiset ls' ns'
kept_multiset ls ls' ns ns' is e f = subst (λ w. IsMultiset w ns') (sym e) (subst (IsMultiset ls) (sym f) is)

-- ---- Entries of a multiset

pub entries_len : (ls : List (List ℕ)) (ns : List ℕ) → length ns ≡ length ls → length (numbered_lines ls ns) ≡ length ns
entries_len [] [] e = refl
entries_len [] (n ∷ ns) e = absurd (omega arith)
entries_len (l ∷ ls) [] e = refl
entries_len (l ∷ ls) (n ∷ ns) e = ap suc (entries_len ls ns (omega arith))

pub entry_at : (ls : List (List ℕ)) (ns : List ℕ) (i : ℕ) (l : List ℕ) (n : ℕ) → slice_get ls i ≡ Some l → slice_get ns i ≡ Some n → slice_get (numbered_lines ls ns) i ≡ Some (l, n)
entry_at [] ns i l n a b = absurd (cc)
entry_at (m ∷ ls) [] i l n a b = absurd (cc)
entry_at (m ∷ ls) (o ∷ ns) zero l n a b = ap (λ w. Some (w, o)) (same_Some m l a) ∙ ap (λ w. Some (l, w)) (same_Some o n b)
entry_at (m ∷ ls) (o ∷ ns) (suc i) l n a b = entry_at ls ns i l n a b

pub entries_counted : (ls : List (List ℕ)) (ns : List ℕ) → All IsLetter ls → All (λ n. 0 < n) ns → All IsLineEntry (numbered_lines ls ns)
entries_counted [] ns a b = All-nil IsLineEntry
entries_counted (l ∷ ls) [] a b = All-nil IsLineEntry
entries_counted (l ∷ ls) (n ∷ ns) a b =
    All-cons IsLineEntry (l, n) (numbered_lines ls ns) (all_head IsLetter l ls a, all_head (λ n. 0 < n) n ns b)
    (entries_counted ls ns (all_tail IsLetter l ls a) (all_tail (λ n. 0 < n) n ns b))

-- ---- Entries in another order

pub counted_sorted : {X : Type 0} (f : X → Entry) (xs ys : List X) → IsPermutation xs ys → All IsLineEntry (map f xs) → All IsLineEntry (map f ys)
counted_sorted f xs ys p a = All-permutation IsLineEntry (map f xs) (map f ys) (IsPermutation-map f xs ys p) a

counted_sum : (q : List ℕ) (es : List Entry) → times q (counted_lines es) ≡ fold (λ a (e : Entry). a + times q (replicate e.1 e.0)) 0 es
counted_sum q [] = refl
counted_sum q (e ∷ es) =
    counted_cons q e es ∙ ap (λ n. times q (replicate e.1 e.0) + n) (counted_sum q es) ∙ sym (sum_by-cons (λ (w : Entry). times q (replicate w.1 w.0)) e es)

-- sorted entries count the same
pub times_sorted : {X : Type 0} (f : X → Entry) (xs ys : List X) (q : List ℕ) → IsPermutation xs ys → times q (counted_lines (map f ys)) ≡ times q (counted_lines (map f xs))
times_sorted f xs ys q p =
    counted_sum q (map f ys) ∙ sum_by-IsPermutation (λ (e : Entry). times q (replicate e.1 e.0)) (map f xs) (map f ys) (IsPermutation-map f xs ys p)
    ∙ sym (counted_sum q (map f xs))

-- ---- A line several times more

pub many_equal : (n : ℕ) (l : List ℕ) (e : Entry) (es : List Entry) → by_bytes l e.0 ≡ Equal → counted_times n l (e ∷ es) ≡ (e.0, e.1 + n) ∷ es
many_equal zero l e es h = let s : e.1 ≡ e.1 + 0 = omega arith in ap (λ k. (e.0, k) ∷ es) s
many_equal (suc n) l e es h =
    let s : e.1 + 1 + n ≡ e.1 + suc n = omega arith in
    ap (counted_times n l) (at_equal l e es h) ∙ many_equal n l (e.0, e.1 + 1) es h ∙ ap (λ k. (e.0, k) ∷ es) s

pub many_greater : (n : ℕ) (l : List ℕ) (e : Entry) (es : List Entry) → by_bytes l e.0 ≡ Greater → counted_times n l (e ∷ es) ≡ e ∷ counted_times n l es
many_greater zero l e es h = refl
many_greater (suc n) l e es h = ap (counted_times n l) (at_greater l e es h) ∙ many_greater n l e (with_line l es) h

pub many_none : (n : ℕ) (l : List ℕ) → 0 < n → counted_times n l [] ≡ (l, n) ∷ []
many_none zero l some = absurd (omega arith)
many_none (suc n) l some =
    let s : 1 + n ≡ suc n = omega arith in
    many_equal n l (l, 1) [] (itself l) ∙ ap (λ k. (l, k) ∷ []) s

-- the tally of entries and one more
pub counted_push : (es : List Entry) (e : Entry) → tally_of (counted_lines (es ++ e ∷ [])) ≡ counted_times e.1 e.0 (tally_of (counted_lines es))
counted_push es e =
    ap tally_of (sym (flat_map_more (λ (w : Entry). replicate w.1 w.0) [] es e))
    ∙ fold-append (λ es l. with_line l es) [] (counted_lines es) (replicate e.1 e.0)
