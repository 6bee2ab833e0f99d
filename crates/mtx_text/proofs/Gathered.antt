-- Ordered maps of triples in any order.
use Rattle.std.proofs.Common.{ℕ, ◌+◌, ◌-◌, ◌<◌, ◌≤◌, ◌≡◌, ℤ, Bool, true, false, cond, eqb, List, [], ◌∷◌, ◌++◌, Option, Some, None, length, get_or, take, drop, IsPermutation, arith, rules, inl, inr, refl, sym, ap, ◌∙◌, subst}
use Rattle.std.specs.List.{All, fold, flat_map}
use Rattle.std.proofs.lemmas.Bool.{cases_Bool, cases_lt, ne_eqb}
use Rattle.std.proofs.lemmas.List.{append-nil, length_push, get_or_push, get_or_default, take-append-le, take_all, take_more, take-append-drop}
use Rattle.std.proofs.lemmas.List.Concat.{flat_map-append}
use Rattle.std.proofs.lemmas.List.Quantifiers.{all_pairs_push}
use Rattle.std.proofs.lemmas.List.Elements.{All-cons, All-head, All-tail, All-nil}
use Rattle.std.proofs.lemmas.List.Sums.{fold-append, fold_push}
use Rattle.bale_items.specs.declared.triple.Triple.{Triple}
use Rattle.mtx_text.specs.Maps.{is_at, value_at}
use Rattle.mtx_text.specs.Cells.{is_before, InOrder, with_value_raised, raised_all, gathered_cells, together}
use Rattle.mtx_text.proofs.Folds.{fold_permutes}
use Rattle.mtx_text.proofs.PlaceOrder.{pairs_head, pairs_tail, pairs_cons, pairs_none, before_trans, place_cases}
use Rattle.mtx_text.proofs.Raised.{most, lifted, greater, raised_ordered, value_raised, same_cells, none_ahead, raised_comm, max_assoc, raised_later, raised_first, raised_here}

abbrev Ahead : Triple → Triple → Type 0
Ahead s t = is_before s t ≡ true

pub raised_all_ordered : (cells ts : List Triple) → InOrder cells → InOrder (raised_all cells ts)
raised_all_ordered cells [] h = h
raised_all_ordered cells (t ∷ ts) h = raised_all_ordered (with_value_raised t cells) ts (raised_ordered t cells h)

pub gathered_ordered : (ts : List Triple) → InOrder (gathered_cells ts)
gathered_ordered ts = raised_all_ordered [] ts (pairs_none Ahead)

pub gathered_push : (ts : List Triple) (t : Triple) → gathered_cells (ts ++ t ∷ []) ≡ with_value_raised t (gathered_cells ts)
gathered_push ts t = fold_push (λ cells t. with_value_raised t cells) [] ts t

-- any order of the triples gives the same
pub gathered_permutes : (xs ys : List Triple) → IsPermutation xs ys → gathered_cells ys ≡ gathered_cells xs
gathered_permutes xs ys h =
    fold_permutes (λ cells t. with_value_raised t cells) InOrder (λ cells t p. raised_ordered t cells p) (λ cells s t p. raised_comm t s cells p) xs ys h [] (pairs_none Ahead)

-- ---- The value at a place

abbrev lifted_all : ℕ → ℕ → Option ℤ → List Triple → Option ℤ
lifted_all i j o ts = fold (λ o t. lifted i j t o) o ts

value_all : (i j : ℕ) (cells ts : List Triple) → InOrder cells → value_at (raised_all cells ts) i j ≡ lifted_all i j (value_at cells i j) ts
value_all i j cells [] h = refl
value_all i j cells (t ∷ ts) h =
    value_all i j (with_value_raised t cells) ts (raised_ordered t cells h) ∙ ap (λ o. lifted_all i j o ts) (value_raised i j t cells h)

-- the greater of two values that may be missing
abbrev pub most_of : Option ℤ → Option ℤ → Option ℤ
most_of o None = o
most_of o (Some v) = Some (most o v)

-- a value that is missing is the least
pub most_nothing : (o : Option ℤ) → most_of None o ≡ o
most_nothing None = refl
most_nothing (Some v) = refl

most_assoc : (o p : Option ℤ) (v : ℤ) → Some (most (most_of o p) v) ≡ most_of o (Some (most p v))
most_assoc o None v = refl
most_assoc None (Some w) v = refl
most_assoc (Some u) (Some w) v = ap Some (max_assoc u w v)

lifted_apart : (i j : ℕ) (o p : Option ℤ) (t : Triple) → lifted i j t (most_of o p) ≡ most_of o (lifted i j t p)
lifted_apart i j o p t = go (is_at i j t)
  where
    go : (b : Bool) → cond b (Some (most (most_of o p) t.v)) (most_of o p) ≡ most_of o (cond b (Some (most p t.v)) p)
    go true = most_assoc o p t.v
    go false = refl

lifted_from : (i j : ℕ) (o p : Option ℤ) (ts : List Triple) → lifted_all i j (most_of o p) ts ≡ most_of o (lifted_all i j p ts)
lifted_from i j o p [] = refl
lifted_from i j o p (t ∷ ts) = ap (λ q. lifted_all i j q ts) (lifted_apart i j o p t) ∙ lifted_from i j o (lifted i j t p) ts

lifted_is : (i j : ℕ) (o : Option ℤ) (ts : List Triple) → lifted_all i j o ts ≡ most_of o (value_at (gathered_cells ts) i j)
lifted_is i j o ts = lifted_from i j o None ts ∙ ap (most_of o) (sym (value_all i j [] ts (pairs_none Ahead)))

-- two maps made into one have at each place the greater of their values
pub value_both : (i j : ℕ) (cells ts : List Triple) → InOrder cells → value_at (raised_all cells ts) i j ≡ most_of (value_at cells i j) (value_at (gathered_cells ts) i j)
value_both i j cells ts h = value_all i j cells ts h ∙ lifted_is i j (value_at cells i j) ts

-- ---- Triples already gathered

some_none : (v : ℤ) → Some v ≡ None → ⊥
some_none v e = search (rules, e)

split_away : (i j : ℕ) (t c : Triple) (cells : List Triple) (b : Bool) → is_at i j c ≡ b → value_at (c ∷ cells) i j ≡ None
    → (value_at cells i j ≡ None → lifted_all i j (Some t.v) cells ≡ Some t.v) → lifted_all i j (Some t.v) (c ∷ cells) ≡ Some t.v
split_away i j t c cells true e n h = absurd (some_none c.v (sym (ap (λ b. cond b (Some c.v) (value_at cells i j)) e) ∙ n))
split_away i j t c cells false e n h =
    ap (λ b. lifted_all i j (cond b (Some (most (Some t.v) c.v)) (Some t.v)) cells) e
    ∙ h (sym (ap (λ b. cond b (Some c.v) (value_at cells i j)) e) ∙ n)

-- nothing changes at a place that the cells don't have
lifted_away : (i j : ℕ) (t : Triple) (cells : List Triple) → value_at cells i j ≡ None → lifted_all i j (Some t.v) cells ≡ Some t.v
lifted_away i j t [] none = refl
lifted_away i j t (c ∷ cells) none = split_away i j t c cells (is_at i j c) refl none (lifted_away i j t cells)

lifted_ordered : (i j : ℕ) (cells : List Triple) → InOrder cells → lifted_all i j None cells ≡ value_at cells i j
lifted_ordered i j [] h = refl
lifted_ordered i j (c ∷ cells) h =
    elim (cases_Bool (is_at i j c)) [
      | inl t ↦
          ap (λ b. lifted_all i j (cond b (Some c.v) None) cells) t
          ∙ lifted_away i j c cells (none_ahead i j c cells (pairs_head Ahead c cells h) t)
          ∙ sym (ap (λ b. cond b (Some c.v) (value_at cells i j)) t)
      | inr f ↦
          ap (λ b. lifted_all i j (cond b (Some c.v) None) cells) f
          ∙ lifted_ordered i j cells (pairs_tail Ahead c cells h)
          ∙ sym (ap (λ b. cond b (Some c.v) (value_at cells i j)) f)
    ]

-- cells in order are what they gather to
pub gathered_itself : (cells : List Triple) → InOrder cells → gathered_cells cells ≡ cells
gathered_itself cells h =
    same_cells (gathered_cells cells) cells (gathered_ordered cells) h (λ i j. value_all i j [] cells (pairs_none Ahead) ∙ lifted_ordered i j cells h)

pub raised_gathered : (cells ts : List Triple) → InOrder cells → raised_all cells (gathered_cells ts) ≡ raised_all cells ts
raised_gathered cells ts h = same_cells _ _ (raised_all_ordered cells (gathered_cells ts) h) (raised_all_ordered cells ts h) (λ i j.
    value_both i j cells (gathered_cells ts) h
    ∙ ap (λ xs. most_of (value_at cells i j) (value_at xs i j)) (gathered_itself (gathered_cells ts) (gathered_ordered ts))
    ∙ sym (value_both i j cells ts h))

pub gathered_append : (xs ts : List Triple) → gathered_cells (xs ++ gathered_cells ts) ≡ gathered_cells (xs ++ ts)
gathered_append xs ts =
    fold-append (λ cells t. with_value_raised t cells) [] xs (gathered_cells ts)
    ∙ raised_gathered (gathered_cells xs) ts (gathered_ordered xs)
    ∙ sym (fold-append (λ cells t. with_value_raised t cells) [] xs ts)

-- what holds of the cells and of a triple holds once they were raised to it, where two at one place
-- keep it
pub raised_keeps : (P : Triple → Type 0) → ((s t : Triple) → s.i ≡ t.i → s.j ≡ t.j → P s → P t → P (greater s t)) → (t : Triple) (cells : List Triple) → P t → All P cells → All P (with_value_raised t cells)
raised_keeps P both t [] p h = All-cons P t [] p h
raised_keeps P both t (c ∷ cells) p h =
    elim (place_cases c t) [
      | inl x ↦ subst (All P) (sym (raised_later t c cells x)) (All-cons P c (with_value_raised t cells) (All-head P c cells h) (raised_keeps P both t cells p (All-tail P c cells h)))
      | inr o ↦ elim o [
        | inl x ↦ subst (All P) (sym (raised_here t c cells x.0 x.1)) (All-cons P (greater c t) cells (both c t x.0 x.1 (All-head P c cells h) p) (All-tail P c cells h))
        | inr x ↦ subst (All P) (sym (raised_first t c cells x)) (All-cons P t (c ∷ cells) p h)
      ]
    ]

-- what holds of the triples holds of the cells, where two at one place keep it
pub gathered_all : (P : Triple → Type 0) → ((s t : Triple) → s.i ≡ t.i → s.j ≡ t.j → P s → P t → P (greater s t)) → (ts : List Triple) → All P ts → All P (gathered_cells ts)
gathered_all P both ts h = from [] ts (All-nil P) h
  where
    from : (cells ts : List Triple) → All P cells → All P ts → All P (raised_all cells ts)
    from cells [] a h = a
    from cells (t ∷ ts) a h = from (with_value_raised t cells) ts (raised_keeps P both t cells (All-head P t ts h) a) (All-tail P t ts h)

-- ---- The last of cells in order

-- a triple behind all cells goes to their end
pub raised_end : (t : Triple) (cells : List Triple) → All (λ c. is_before c t ≡ true) cells → with_value_raised t cells ≡ cells ++ t ∷ []
raised_end t [] h = refl
raised_end t (c ∷ cells) h =
    raised_later t c cells (All-head (λ c. is_before c t ≡ true) c cells h)
    ∙ ap (λ xs. c ∷ xs) (raised_end t cells (All-tail (λ c. is_before c t ≡ true) c cells h))

-- and one at the last cell's place meets that cell
pub raised_last : (t c : Triple) (cells : List Triple) → All (λ c. is_before c t ≡ true) cells → c.i ≡ t.i → c.j ≡ t.j
    → with_value_raised t (cells ++ c ∷ []) ≡ cells ++ greater c t ∷ []
raised_last t c [] h e f = raised_here t c [] e f
raised_last t c (b ∷ cells) h e f =
    raised_later t b (cells ++ c ∷ []) (All-head (λ c. is_before c t ≡ true) b cells h)
    ∙ ap (λ xs. b ∷ xs) (raised_last t c cells (All-tail (λ c. is_before c t ≡ true) b cells h) e f)

-- cells in order, cut before the last
pub before_last : (c : Triple) (cells : List Triple) → InOrder (cells ++ c ∷ []) → All (λ b. is_before b c ≡ true) cells
before_last c [] h = All-nil (λ b. is_before b c ≡ true)
before_last c (b ∷ cells) h =
    All-cons (λ b. is_before b c ≡ true) b cells
    (subst (Ahead b) (get_or_push cells c c (length cells) refl) (pairs_head Ahead b (cells ++ c ∷ []) h (length cells) c (omega (arith, length_push cells c))))
    (before_last c cells (pairs_tail Ahead b (cells ++ c ∷ []) h))

-- a triple behind the last of cells in order
pub ordered_push : (cells : List Triple) (t c : Triple) (n : ℕ) → length cells ≡ n + 1 → c ≡ get_or cells n c → is_before c t ≡ true → InOrder cells → InOrder (cells ++ t ∷ [])
ordered_push cells t c n len e b h = all_pairs_push Ahead cells t h (λ k d l.
    elim (cases_lt k n) [
      | inl early ↦
          let here : get_or cells n d ≡ c = get_or_default cells n d c (omega arith) ∙ sym e in
          before_trans (get_or cells k d) c t (subst (Ahead (get_or cells k d)) here (h k n d early (omega arith))) b
      | inr late ↦
          let k_is : k ≡ n = omega arith in
          let here : get_or cells k d ≡ c = ap (λ m. get_or cells m d) k_is ∙ get_or_default cells n d c (omega arith) ∙ sym e in
          subst (λ u. is_before u t ≡ true) (sym here) b
    ])

pub ordered_one : (t : Triple) → InOrder (t ∷ [])
ordered_one t = pairs_cons Ahead t [] (λ k d l. absurd (omega arith)) (pairs_none Ahead)

pub gathered_twice : (ts : List Triple) → gathered_cells (gathered_cells ts) ≡ gathered_cells ts
gathered_twice ts = gathered_itself (gathered_cells ts) (gathered_ordered ts)

-- how far triples are in order once one more came
pub settled_stays : (ts more : List Triple) (n : ℕ) → n ≤ length ts → InOrder (take n ts) → InOrder (take n (ts ++ more))
settled_stays ts more n l h = subst InOrder (sym (take-append-le n ts more l)) h

pub settled_more : (ts : List Triple) (t c : Triple) (n : ℕ) → n ≡ length ts → 0 < n → c ≡ get_or ts (n - 1) c → is_before c t ≡ true → InOrder (take n ts)
    → InOrder (take (n + 1) (ts ++ t ∷ []))
settled_more ts t c n len some e b h =
    let whole : take n ts ≡ ts = take_all n ts (omega arith) in
    subst InOrder (sym (take_all (n + 1) (ts ++ t ∷ []) (omega (arith, length_push ts t))))
    (ordered_push ts t c (n - 1) (omega arith) e b (subst InOrder whole h))

pub settled_first : (ts : List Triple) (t : Triple) → length ts ≡ 0 → InOrder (take 1 (ts ++ t ∷ []))
settled_first [] t e = ordered_one t
settled_first (x ∷ ts) t e = absurd (omega arith)

-- triples of which the first n are in order
pub gathered_from : (ts : List Triple) (n : ℕ) → InOrder (take n ts) → raised_all (take n ts) (drop n ts) ≡ gathered_cells ts
gathered_from ts n h =
    ap (λ cells. raised_all cells (drop n ts)) (sym (gathered_itself (take n ts) h))
    ∙ sym (fold-append (λ cells t. with_value_raised t cells) [] (take n ts) (drop n ts))
    ∙ ap gathered_cells (take-append-drop n ts)

-- triples that gather alike gather alike with more
pub gathered_alike : (xs ys more : List Triple) → gathered_cells xs ≡ gathered_cells ys → gathered_cells (xs ++ more) ≡ gathered_cells (ys ++ more)
gathered_alike xs ys more e =
    fold-append (λ cells t. with_value_raised t cells) [] xs more
    ∙ ap (λ cells. raised_all cells more) e
    ∙ sym (fold-append (λ cells t. with_value_raised t cells) [] ys more)

-- one more map
pub together_more : (maps : List (List Triple)) (k : ℕ) (cells : List Triple) → k < length maps → cells ≡ get_or maps k cells
    → together (take (k + 1) maps) ≡ gathered_cells (flat_map (λ cells. cells) (take k maps) ++ cells)
together_more maps k cells l e =
    ap together (take_more maps k cells l)
    ∙ ap gathered_cells (flat_map-append (λ cells. cells) (take k maps) (get_or maps k cells ∷ []))
    ∙ ap (λ ts. gathered_cells (flat_map (λ cells. cells) (take k maps) ++ ts)) (append-nil (get_or maps k cells) ∙ sym e)

-- ---- None at all

raised_some : (t : Triple) (cells : List Triple) → 0 < length (with_value_raised t cells)
raised_some t [] = omega arith
raised_some t (c ∷ cells) =
    elim (place_cases c t) [
      | inl x ↦ omega (arith, ap length (raised_later t c cells x))
      | inr o ↦ elim o [
        | inl x ↦ omega (arith, ap length (raised_here t c cells x.0 x.1))
        | inr x ↦ omega (arith, ap length (raised_first t c cells x))
      ]
    ]

raised_all_some : (cells ts : List Triple) → 0 < length cells → 0 < length (raised_all cells ts)
raised_all_some cells [] h = h
raised_all_some cells (t ∷ ts) h = raised_all_some (with_value_raised t cells) ts (raised_some t cells)

pub gathered_none : (ts : List Triple) → eqb (length ts) 0 ≡ eqb (length (gathered_cells ts)) 0
gathered_none [] = refl
gathered_none (t ∷ ts) =
    let some : 0 < length (gathered_cells (t ∷ ts)) = raised_all_some (t ∷ []) ts (omega arith) in
    ne_eqb (length (t ∷ ts)) 0 (λ e. absurd (omega arith)) ∙ sym (ne_eqb (length (gathered_cells (t ∷ ts))) 0 (λ e. absurd (omega arith)))
