-- Lists by epoch and rank, and parts of them.
use Rattle.std.proofs.Common.{◌≡◌, ◌≢◌, ℕ, zero, suc, ◌+◌, ◌-◌, ◌<◌, ◌≤◌, ◌==◌, ◌&&◌, nat_lt, Bool, true, false, cond, List, [], ◌∷◌, ◌++◌, length, take, slice_get, Option, Some, inl, inr, refl, sym, ap, ◌∙◌, arith, eq-eqb, ne_eqb, length-append}
use Rattle.std.proofs.lemmas.Bool.{cases_eq, cases_lt, lt-ltb, le-ltb}
use Rattle.bale_items.specs.declared.item.Item.{Item}
use Rattle.list_laws.proofs.Lists.{get_before, get_last}
use Rattle.list_laws.specs.Lists.{IsPrefix}
use Rattle.port_bank.specs.Machine.{ItemLists, for_ranks, with_item, without_last, Part, IsThrough, done_of}

pub for_ranks-within : (n : ℕ) (lists : ItemLists) (e r : ℕ) → r < n → for_ranks n lists e r ≡ lists e r
for_ranks-within n lists e r h = ap (λ b. cond b (lists e r) []) (lt-ltb r n h)

pub for_ranks-past : (n : ℕ) (lists : ItemLists) (e r : ℕ) → n ≤ r → for_ranks n lists e r ≡ []
for_ranks-past n lists e r h = ap (λ b. cond b (lists e r) []) (le-ltb r n h)

-- lists that are the same for each rank
pub lists_same : (n : ℕ) (f g : ItemLists) → ((e r : ℕ) → r < n → f e r ≡ g e r) → for_ranks n f ≡ for_ranks n g
lists_same n f g h =
    let each : (e r : ℕ) → for_ranks n f e r ≡ for_ranks n g e r = λ e r. elim (cases_lt r n) [
      | inl less ↦ ap (λ u. cond (nat_lt r n) u []) (h e r less)
      | inr more ↦ for_ranks-past n f e r more ∙ sym (for_ranks-past n g e r more)
    ] in
    λ i e r. each e r i

-- a place is one epoch and one rank
pub at_place : (e f r q : ℕ) → (f ≡ e) → (q ≡ r) → ((f == e) && (q == r)) ≡ true
at_place e f r q a b = ap (λ c. c && (q == r)) (eq-eqb f e a) ∙ eq-eqb q r b

pub at_other_epoch : (e f r q : ℕ) → f ≢ e → ((f == e) && (q == r)) ≡ false
at_other_epoch e f r q a = ap (λ c. c && (q == r)) (ne_eqb f e a)

pub at_other_rank : (e f r q : ℕ) → q ≢ r → ((f == e) && (q == r)) ≡ false
at_other_rank e f r q a = ap (λ c. (f == e) && c) (ne_eqb q r a) ∙ elim (f == e) as (λ c. (c && false) ≡ false) [ true ↦ refl | false ↦ refl ]

-- lists that differ at one place
pub lists_with : (n e r : ℕ) (x : Item) (f g : ItemLists) → r < n → g e r ≡ f e r ++ x ∷ [] → ((q : ℕ) → q < n → q ≢ r → g e q ≡ f e q) → ((d q : ℕ) → q < n → d ≢ e → g d q ≡ f d q)
    → for_ranks n g ≡ with_item (for_ranks n f) e r x
lists_with n e r x f g below here other past =
    let keeps : (d q : ℕ) → ((d == e) && (q == r)) ≡ false → g d q ≡ f d q → q < n → for_ranks n g d q ≡ with_item (for_ranks n f) e r x d q = λ d q no same h.
    for_ranks-within n g d q h ∙ (same ∙ (sym (for_ranks-within n f d q h) ∙ sym (ap (λ c. cond c (for_ranks n f d q ++ x ∷ []) (for_ranks n f d q)) no))) in
    let grows : (d q : ℕ) → d ≡ e → q ≡ r → for_ranks n g d q ≡ with_item (for_ranks n f) e r x d q = λ d q a b.
    ap (λ k. for_ranks n g k q) a ∙ (ap (for_ranks n g e) b
    ∙ (for_ranks-within n g e r below ∙ (here ∙ (ap (λ u. u ++ x ∷ []) (sym (for_ranks-within n f e r below))
    ∙ (ap (λ k. for_ranks n f k r ++ x ∷ []) (sym a) ∙ (ap (λ k. for_ranks n f d k ++ x ∷ []) (sym b)
    ∙ sym (ap (λ c. cond c (for_ranks n f d q ++ x ∷ []) (for_ranks n f d q)) (at_place e d r q a b)))))))) in
    let each : (d q : ℕ) → for_ranks n g d q ≡ with_item (for_ranks n f) e r x d q = λ d q. elim (cases_lt q n) [
      | inl h ↦ elim (cases_eq d e) [
        | inl a ↦ elim (cases_eq q r) [
          | inl b ↦ grows d q a b
          | inr b ↦ keeps d q (at_other_rank e d r q b) (ap (λ k. g k q) a ∙ (other q h b ∙ ap (λ k. f k q) (sym a))) h
        ]
        | inr a ↦ keeps d q (at_other_epoch e d r q a) (past d q h a) h
      ]
      | inr h ↦
          let no : ((d == e) && (q == r)) ≡ false = at_other_rank e d r q (λ b. omega arith) in
          for_ranks-past n g d q h ∙ (sym (for_ranks-past n f d q h) ∙ sym (ap (λ c. cond c (for_ranks n f d q ++ x ∷ []) (for_ranks n f d q)) no))
    ] in
    λ i d q. each d q i

-- and one that loses the item again
pub lists_without : (n e r : ℕ) (x : Item) (f g : ItemLists) → r < n → g e r ++ x ∷ [] ≡ f e r → take (length (f e r) - 1) (f e r) ≡ g e r
    → ((q : ℕ) → q < n → q ≢ r → g e q ≡ f e q) → ((d q : ℕ) → q < n → d ≢ e → g d q ≡ f d q)
    → for_ranks n g ≡ without_last (for_ranks n f) e r
lists_without n e r x f g below here cut other past =
    let shorter : ItemLists → ℕ → ℕ → List Item = λ h d q. take (length (h d q) - 1) (h d q) in
    let keeps : (d q : ℕ) → ((d == e) && (q == r)) ≡ false → for_ranks n g d q ≡ for_ranks n f d q → for_ranks n g d q ≡ without_last (for_ranks n f) e r d q = λ d q no same.
    same ∙ sym (ap (λ c. cond c (shorter (for_ranks n f) d q) (for_ranks n f d q)) no) in
    let within : (d q : ℕ) → q < n → g d q ≡ f d q → for_ranks n g d q ≡ for_ranks n f d q = λ d q h same. for_ranks-within n g d q h ∙ (same ∙ sym (for_ranks-within n f d q h)) in
    let loses : (d q : ℕ) → d ≡ e → q ≡ r → for_ranks n g d q ≡ without_last (for_ranks n f) e r d q = λ d q a b.
    ap (λ k. for_ranks n g k q) a ∙ (ap (for_ranks n g e) b
    ∙ (for_ranks-within n g e r below ∙ (sym cut ∙ (ap (λ u. take (length u - 1) u) (sym (for_ranks-within n f e r below))
    ∙ (ap (λ k. shorter (for_ranks n f) k r) (sym a) ∙ (ap (λ k. shorter (for_ranks n f) d k) (sym b)
    ∙ sym (ap (λ c. cond c (shorter (for_ranks n f) d q) (for_ranks n f d q)) (at_place e d r q a b)))))))) in
    let each : (d q : ℕ) → for_ranks n g d q ≡ without_last (for_ranks n f) e r d q = λ d q. elim (cases_lt q n) [
      | inl h ↦ elim (cases_eq d e) [
        | inl a ↦ elim (cases_eq q r) [
          | inl b ↦ loses d q a b
          | inr b ↦ keeps d q (at_other_rank e d r q b) (within d q h (ap (λ k. g k q) a ∙ (other q h b ∙ ap (λ k. f k q) (sym a))))
        ]
        | inr a ↦ keeps d q (at_other_epoch e d r q a) (within d q h (past d q h a))
      ]
      | inr h ↦ keeps d q (at_other_rank e d r q (λ b. omega arith)) (for_ranks-past n g d q h ∙ sym (for_ranks-past n f d q h))
    ] in
    λ i d q. each d q i

-- parts by their lists
pub same_part : (e : ℕ) (d c : Bool) (l : Option ℕ) (f f' g g' : ItemLists) → f' ≡ f → g' ≡ g
    → ◌≡◌ {A = Part} (record { epoch = e; done = d; complete = c; latest = l; pushed = f'; pulled = g' }) (record { epoch = e; done = d; complete = c; latest = l; pushed = f; pulled = g })
same_part e d c l f f' g g' p q = λ i. record { epoch = e; done = d; complete = c; latest = l; pushed = p i; pulled = q i }

-- an item at its place
pub with-item_here : (lists : ItemLists) (e r : ℕ) (x : Item) → with_item lists e r x e r ≡ lists e r ++ x ∷ []
with-item_here lists e r x = ap (λ b. cond (b && (r == r)) (lists e r ++ x ∷ []) (lists e r)) (eq-eqb e e refl) ∙ ap (λ b. cond b (lists e r ++ x ∷ []) (lists e r)) (eq-eqb r r refl)

-- an item that is appended to a front stands next in the whole
pub next_of : (xs ys : List Item) (x : Item) → IsPrefix (xs ++ x ∷ []) ys → slice_get ys (length xs) ≡ Some x
next_of xs ys x b =
    ap (λ l. slice_get l (length xs)) b.is
    ∙ (get_before (xs ++ x ∷ []) b.rest (length xs) (omega (arith, length-append xs (x ∷ []))) ∙ get_last xs x)

-- through by the epoch and the mark done
pub through_same : (e e' : ℕ) (p p' : Part) → e ≡ e' → p.epoch ≡ p'.epoch → p.done ≡ p'.done → IsThrough e p → IsThrough e' p'
through_same e e' p p' same epoch done h = elim h [ inl k ↦ inl (sym epoch ∙ (k.0 ∙ same), sym done ∙ k.1) | inr less ↦ inr (omega arith) ]

-- in an epoch that it is through with, a rank was done
pub through_done : (e : ℕ) (p : Part) → IsThrough e p → e < done_of p
through_done e p h = elim h [
  | inl k ↦ (let n : done_of p ≡ p.epoch + 1 = ap (λ c. cond c (p.epoch + 1) p.epoch) k.1 in omega (arith, n, k.0))
  | inr less ↦ (let n : p.epoch ≤ done_of p = elim p.done as (λ c. p.epoch ≤ cond c (p.epoch + 1) p.epoch) [ true ↦ omega arith | false ↦ omega arith ] in omega (arith, n, less))
]

pub all_below : (n m : ℕ) → ((e : ℕ) → e < n → e < m) → n ≤ m
all_below zero m h = omega arith
all_below (suc n) m h = let last = h n (omega arith) in omega arith
