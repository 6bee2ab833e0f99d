-- The items of one rank among pairs of a rank and an item.
use Rattle.std.proofs.Common.{ℕ, length, suc, arith, ◌<◌, ◌+◌, ◌≡◌, ◌≢◌, ◌==◌, cond, List, [], ◌∷◌, ◌++◌, Some, map, take, slice_get, filter, All, refl, sym, ap, ◌∙◌, subst, inl, inr}
use Rattle.std.proofs.lemmas.Bool.{cases_eq, eq-eqb, ne_eqb}
use Rattle.std.proofs.lemmas.List.{append-nil, map-append, take_more}
use Rattle.std.proofs.lemmas.List.Elements.{All-nil, All-cons, filter-append}
use Rattle.std.proofs.lemmas.Option.{get_or_from_slice_get, slice_get_within}
use Rattle.bale_items.specs.declared.Item.{Item}
use Rattle.list_laws.specs.Sums.{total}
use Rattle.list_laws.proofs.Lists.{all_head, all_tail}
use Rattle.list_laws.proofs.Sums.{total_one, total_zero}
use Rattle.round_program.specs.Canonical.{items_of}

-- the items of a list and of one behind it
pub items_push : (f : ℕ) (xs ys : List (ℕ × Item)) → items_of f (xs ++ ys) ≡ items_of f xs ++ items_of f ys
items_push f xs ys = ap (map (λ e. e.1)) (filter-append (λ e. e.0 == f) xs ys) ∙ map-append (λ e. e.1) (filter (λ e. e.0 == f) xs) (filter (λ e. e.0 == f) ys)

-- a pair in front
pub items_here : (e : ℕ × Item) (es : List (ℕ × Item)) → items_of e.0 (e ∷ es) ≡ e.1 ∷ items_of e.0 es
items_here e es = ap (λ b. map (λ x. x.1) (cond b (e ∷ filter (λ x. x.0 == e.0) es) (filter (λ x. x.0 == e.0) es))) (eq-eqb e.0 e.0 refl)

pub items_other : (g : ℕ) (e : ℕ × Item) (es : List (ℕ × Item)) → (e.0 ≡ g → ⊥) → items_of g (e ∷ es) ≡ items_of g es
items_other g e es d = ap (λ b. map (λ x. x.1) (cond b (e ∷ filter (λ x. x.0 == g) es) (filter (λ x. x.0 == g) es))) (ne_eqb e.0 g d)

took : (es : List (ℕ × Item)) (i : ℕ) (e : ℕ × Item) → slice_get es i ≡ Some e → take (i + 1) es ≡ take i es ++ e ∷ []
took es i e is = take_more es i e (slice_get_within es i e is) ∙ ap (λ x. take i es ++ x ∷ []) (get_or_from_slice_get es i e e is)

-- one more pair of a list: its item stands at the end of its own rank's
pub items_more : (es : List (ℕ × Item)) (i : ℕ) (e : ℕ × Item) → slice_get es i ≡ Some e → items_of e.0 (take (i + 1) es) ≡ items_of e.0 (take i es) ++ e.1 ∷ []
items_more es i e is =
    ap (items_of e.0) (took es i e is) ∙ (items_push e.0 (take i es) (e ∷ []) ∙ ap (λ xs. items_of e.0 (take i es) ++ xs) (items_here e []))

pub items_more_other : (es : List (ℕ × Item)) (i d : ℕ) (e : ℕ × Item) → slice_get es i ≡ Some e → d ≢ e.0 → items_of d (take (i + 1) es) ≡ items_of d (take i es)
items_more_other es i d e is apart =
    ap (items_of d) (took es i e is) ∙ (items_push d (take i es) (e ∷ []) ∙ (ap (λ xs. items_of d (take i es) ++ xs) (items_other d e [] (λ q. apart (sym q))) ∙ append-nil (items_of d (take i es))))

-- what holds of each pair of a list holds of the items of one number
pub picked : (P : ℕ × Item → Type 0) (Q : Item → Type 0) (r : ℕ) (es : List (ℕ × Item)) → ((e : ℕ × Item) → P e → e.0 ≡ r → Q e.1) → All P es → All Q (items_of r es)
picked P Q r [] f a = All-nil Q
picked P Q r (e ∷ es) f a =
    let rest : All Q (items_of r es) = picked P Q r es f (all_tail P e es a) in
    elim (cases_eq e.0 r) [
      | inl same ↦ subst (λ b. All Q (map (λ x. x.1) (cond b (e ∷ filter (λ x. x.0 == r) es) (filter (λ x. x.0 == r) es)))) (sym (eq-eqb e.0 r same)) (All-cons Q e.1 (items_of r es) (f e (all_head P e es a) same) rest)
      | inr apart ↦ subst (λ b. All Q (map (λ x. x.1) (cond b (e ∷ filter (λ x. x.0 == r) es) (filter (λ x. x.0 == r) es)))) (sym (ne_eqb e.0 r apart)) rest
    ]

front : (P : ℕ → Item → Type 0) (e : ℕ × Item) (es : List (ℕ × Item)) → All (P e.0) (items_of e.0 (e ∷ es)) → P e.0 e.1
front P e es h = all_head (P e.0) e.1 (items_of e.0 es) (subst (All (P e.0)) (items_here e es) h)

later : (P : ℕ → Item → Type 0) (f : ℕ) (e : ℕ × Item) (es : List (ℕ × Item)) → All (P f) (items_of f (e ∷ es)) → All (P f) (items_of f es)
later P f e es h =
    elim (cases_eq e.0 f) [
      | inl same ↦ all_tail (P f) e.1 (items_of f es) (subst (All (P f)) (subst (λ k. items_of k (e ∷ es) ≡ e.1 ∷ items_of k es) same (items_here e es)) h)
      | inr apart ↦ subst (All (P f)) (items_other f e es apart) h
    ]

-- and what holds of the items of each number holds of each pair
pub from_picked : (P : ℕ → Item → Type 0) (es : List (ℕ × Item)) → ((f : ℕ) → All (P f) (items_of f es)) → All (λ e. P e.0 e.1) es
from_picked P [] h = All-nil (λ e. P e.0 e.1)
from_picked P (e ∷ es) h =
    All-cons (λ x. P x.0 x.1) e es (front P e es (h e.0)) (from_picked P es (λ f. later P f e es (h f)))

-- items that all go to ranks below p are the items of these ranks
pub items_total : (p : ℕ) (es : List (ℕ × Item)) → All (λ e. e.0 < p) es → total p (λ d. length (items_of d es)) ≡ length es
items_total p [] a = total_zero p (λ d. length (items_of d [])) (λ k l. refl)
items_total p (e ∷ es) a =
    let low : e.0 < p = all_head (λ x. x.0 < p) e es a in
    let rest : total p (λ d. length (items_of d es)) ≡ length es = items_total p es (all_tail (λ x. x.0 < p) e es a) in
    let one : total p (λ d. length (items_of d (e ∷ es))) + length (items_of e.0 es) ≡ total p (λ d. length (items_of d es)) + length (items_of e.0 (e ∷ es)) =
    total_one p (λ d. length (items_of d es)) (λ d. length (items_of d (e ∷ es))) e.0 low (λ k n. ap length (sym (items_other k e es (λ q. n (sym q))))) in
    let here : length (items_of e.0 (e ∷ es)) ≡ suc (length (items_of e.0 es)) = ap length (items_here e es) in
    omega arith
