-- Edges in spans: which stay and which come where edges are appended.
use Rattle.std.proofs.Common.{ℕ, zero, suc, ◌+◌, ◌-◌, ◌<◌, ◌≤◌, ◌≡◌, List, [], ◌∷◌, ◌++◌, Some, length, take, drop, get_or, slice_get, slice_set, replicate, All, arith, refl, sym, ap, ◌∙◌}
use Rattle.std.specs.List.{slice_range}
use Rattle.std.proofs.lemmas.List.{length-drop, length-append, take_all, take_more, take-append-le, drop-append-le, get_or-drop, get_or_append_left, append_assoc}
use Rattle.list_laws.specs.Lists.{changed_at, IsPrefix}
use Rattle.list_laws.proofs.Lists.{map_changed, all_head, all_tail, all_get}
use Rattle.least_walks.specs.declared.table.Edge.{Edge}
use Rattle.least_walks.specs.declared.table.Span.{Span}
use Rattle.least_walks.specs.code.Spans.{in_span, lists_of, IsSpanWithin}

-- edges in a span stay where others come behind them
pub stays : (xs ys : List Edge) (s : Span) → IsSpanWithin xs s → in_span (xs ++ ys) s ≡ in_span xs s
stays xs ys s w =
    let up : s.from ≤ s.to = w.0 in
    let end : s.to ≤ length xs = w.1 in
    ap (take (s.to - s.from)) (drop-append-le s.from xs ys (omega (arith, up, end)))
    ∙ take-append-le (s.to - s.from) (drop s.from xs) ys (omega (arith, up, end, length-drop s.from xs))

-- a span that ends with the edges has one more where one is appended
pub one_more : (xs : List Edge) (e : Edge) (from to : ℕ) → from ≤ to → to ≡ length xs → slice_range (xs ++ e ∷ []) from (to + 1) ≡ slice_range xs from to ++ e ∷ []
one_more xs e from to up end =
    take_all (to + 1 - from) (drop from (xs ++ e ∷ [])) (omega (arith, end, length-drop from (xs ++ e ∷ []), length-append xs (e ∷ [])))
    ∙ drop-append-le from xs (e ∷ []) (omega (arith, up, end))
    ∙ ap (λ zs. zs ++ e ∷ []) (sym (take_all (to - from) (drop from xs) (omega (arith, end, length-drop from xs))))

-- one edge more of a span
pub next_of : (xs : List Edge) (from k : ℕ) (d : Edge) → from ≤ k → k < length xs → slice_range xs from (k + 1) ≡ slice_range xs from k ++ get_or xs k d ∷ []
next_of xs from k d up low =
    let size : k + 1 - from ≡ (k - from) + 1 = omega (arith, up) in
    let at : from + (k - from) ≡ k = omega (arith, up) in
    ap (λ n. take n (drop from xs)) size
    ∙ take_more (drop from xs) (k - from) d (omega (arith, up, low, length-drop from xs))
    ∙ ap (λ x. slice_range xs from k ++ x ∷ []) (get_or-drop from xs (k - from) d ∙ ap (λ n. get_or xs n d) at)

-- one edge of a span copied behind the others
pub copied : (old now new : List Edge) (from k : ℕ) (e d : Edge) → from ≤ k → k < length old → now ≡ old ++ slice_range old from k → e ≡ get_or now k d → new ≡ now ++ e ∷ []
    → new ≡ old ++ slice_range old from (k + 1)
copied old now new from k e d up low so_far is one =
    let here : e ≡ get_or old k d = is ∙ ap (λ xs. get_or xs k d) so_far ∙ get_or_append_left old (slice_range old from k) d k low in
    one ∙ ap (λ xs. xs ++ e ∷ []) so_far ∙ append_assoc old (slice_range old from k) (e ∷ [])
    ∙ ap (λ x. old ++ (slice_range old from k ++ x ∷ [])) here ∙ ap (λ xs. old ++ xs) (sym (next_of old from k d up low))

all_stay : (old new : List Edge) (spans : List Span) → ((u : Span) → IsSpanWithin old u → in_span new u ≡ in_span old u) → All (IsSpanWithin old) spans → lists_of new spans ≡ lists_of old spans
all_stay old new [] same within = refl
all_stay old new (s ∷ ss) same within =
    ap (λ es. es ∷ lists_of new ss) (same s (all_head (IsSpanWithin old) s ss within))
    ∙ ap (λ ls. in_span old s ∷ ls) (all_stay old new ss same (all_tail (IsSpanWithin old) s ss within))

-- the lists of a table where the edges of one place became the last ones and got one more
pub pushed_edge : (old last new : List Edge) (spans : List Span) (p : ℕ) (s u : Span) (e : Edge) → IsPrefix old last → All (IsSpanWithin old) spans → slice_get spans p ≡ Some s
    → in_span last u ≡ in_span old s → u.from ≤ u.to → u.to ≡ length last → new ≡ last ++ e ∷ []
    → lists_of new (slice_set spans p (record { from = u.from; to = u.to + 1 })) ≡ changed_at (lists_of old spans) p [] (λ es. es ++ e ∷ [])
pushed_edge old last new spans p s u e added within at same up end one =
    let t : Span = record { from = u.from; to = u.to + 1 } in
    let whole : new ≡ old ++ (added.rest ++ e ∷ []) = one ∙ ap (λ xs. xs ++ e ∷ []) added.is ∙ append_assoc old added.rest (e ∷ []) in
    let still : (v : Span) → IsSpanWithin old v → in_span new v ≡ in_span old v = λ v w. ap (λ xs. in_span xs v) whole ∙ stays old (added.rest ++ e ∷ []) v w in
    let here : in_span new t ≡ in_span new s ++ e ∷ [] =
    ap (λ xs. in_span xs t) one ∙ one_more last e u.from u.to up end ∙ ap (λ es. es ++ e ∷ []) (same ∙ sym (still s (all_get (IsSpanWithin old) spans p s within at))) in
    map_changed (in_span new) spans p s t [] (λ es. es ++ e ∷ []) at here
    ∙ ap (λ ls. changed_at ls p [] (λ es. es ++ e ∷ [])) (all_stay old new spans still within)

-- no edges in spans that hold none
pub none_of : (n : ℕ) → lists_of [] (replicate n (record { from = 0; to = 0 })) ≡ replicate n []
none_of zero = refl
none_of (suc n) = ap (λ ls. [] ∷ ls) (none_of n)
