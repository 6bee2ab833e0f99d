-- Every element of a list that is dealt out reaches its receiver once: after a round in which the
-- ranks emit what is theirs of a list, each rank is as if it alone had gone through the list and
-- absorbed what is sent to it.
use Rattle.std.proofs.Common.{ℕ, ◌<◌, ◌≤◌, ◌≡◌, Bool, true, false, cond, eqb, List, [], ◌∷◌, Some, map, length, slice_get, All, arith, inl, inr, refl, sym, ap, ◌∙◌, subst}
use Rattle.std.proofs.lemmas.Bool.{cases_eq, cases_lt, eq-eqb, ne_eqb}
use Rattle.std.proofs.lemmas.List.Elements.{All-nil, All-cons}
use Rattle.std.proofs.lemmas.Option.{slice_get_past}
use Rattle.bale_items.specs.declared.Item.{Item}
use Rattle.list_laws.proofs.Lists.{find, within, all_head, all_tail}
use Rattle.round_program.specs.Rules.{Rules}
use Rattle.round_program.specs.Laws.{Laws}
use Rattle.round_program.specs.Canonical.{items_of, emissions_to, emitted_of, absorbed_round, InRound}
use Rattle.round_program.specs.Orders.{absorb_each}
use Rattle.round_program.proofs.Orders.{canonical_order}
use Rattle.sparse_rows.specs.Deals.{dealt}
use Rattle.sparse_rows.proofs.Deals.{filter_dealt}

-- what comes to rank r, as it stands in the list: each item with the rank that it is from
abbrev pub came_to : {X : Type 0} → (X → ℕ) → (X → ℕ) → (X → Item) → ℕ → List X → List (ℕ × Item)
came_to from to item r xs = map (λ x. (from x, item x)) (dealt to r xs)

one_item : {X : Type 0} (item : X → Item) (b : Bool) (e : ℕ × Item) (es : List (ℕ × Item)) (x : X) (xs : List X)
    → e.1 ≡ item x → map (λ w. w.1) es ≡ map item xs → map (λ w. w.1) (cond b (e ∷ es) es) ≡ map item (cond b (x ∷ xs) xs)
one_item item true e es x xs here rest = ap (λ y. y ∷ map (λ w. w.1) es) here ∙ ap (λ ys. item x ∷ ys) rest
one_item item false e es x xs here rest = rest

-- the items of one number among those of a list
pub items_of_map : {X : Type 0} (to : X → ℕ) (item : X → Item) (r : ℕ) (xs : List X)
    → items_of r (map (λ x. (to x, item x)) xs) ≡ map item (dealt to r xs)
items_of_map to item r [] = refl
items_of_map to item r (x ∷ xs) = one_item item (eqb (to x) r) (to x, item x) _ x (dealt to r xs) refl (items_of_map to item r xs)

-- no element belongs to a number past all owners
pub dealt_past : {X : Type 0} (owner : X → ℕ) (p r : ℕ) (xs : List X) → All (λ x. owner x < p) xs → p ≤ r → dealt owner r xs ≡ []
dealt_past owner p r [] low past = refl
dealt_past owner p r (x ∷ xs) low past =
    let here : owner x < p = all_head (λ x. owner x < p) x xs low in
    ap (λ b. cond b (x ∷ dealt owner r xs) (dealt owner r xs)) (ne_eqb (owner x) r (λ e. absurd (omega arith)))
    ∙ dealt_past owner p r xs (all_tail (λ x. owner x < p) x xs low) past

-- of what comes to rank r, the items of one sender
pub came_from : {X : Type 0} (from to : X → ℕ) (item : X → Item) (r f : ℕ) (xs : List X)
    → items_of f (came_to from to item r xs) ≡ map item (dealt to r (dealt from f xs))
came_from from to item r f xs =
    items_of_map from item f (dealt to r xs) ∙ ap (map item) (filter_dealt to r (λ x. eqb (from x) f) xs)

-- what each rank emits to each is what is theirs of the list: then so is what each absorbs
pub every_entry : {S X : Type 0} (R : Rules S) → Laws R → (p n : ℕ) (shape : List ℕ) (most : ℕ) (ss : List S) (from to : X → ℕ) (item : X → Item) (xs : List X)
    → InRound R p n shape most ss → All (λ x. from x < p) xs
    → ((f r : ℕ) (s : S) → r < p → slice_get ss f ≡ Some s → emissions_to R s r ≡ map item (dealt to r (dealt from f xs)))
    → (r : ℕ) (s : S) → slice_get ss r ≡ Some s
    → slice_get (absorbed_round R ss) r ≡ Some (absorb_each R s (came_to from to item r xs))
every_entry R laws p n shape most ss from to item xs all low sends r s at =
    let low_r : r < p = subst (λ k. r < k) all.size (within ss r s at) in
    canonical_order R laws p n shape most ss r s (came_to from to item r xs) all at (λ f.
    came_from from to item r f xs
    ∙ (elim (cases_lt f (length ss)) [
      | inl l ↦
          let t : (t : _) × (slice_get ss f ≡ Some t) = find ss f l in
          sym (ap (λ o. emitted_of R o r) t.1 ∙ sends f r t.0 low_r t.1)
      | inr past ↦
          ap (λ ys. map item (dealt to r ys)) (dealt_past from p f xs low (subst (λ k. k ≤ f) all.size past))
          ∙ sym (ap (λ o. emitted_of R o r) (slice_get_past ss f past))
    ]))

-- the same where each rank emits what it owns of the list, in order
pub every_owned : {S X : Type 0} (R : Rules S) → Laws R → (p n : ℕ) (shape : List ℕ) (most : ℕ) (ss : List S) (from to : X → ℕ) (item : X → Item) (xs : List X)
    → InRound R p n shape most ss → All (λ x. from x < p) xs
    → ((f : ℕ) (s : S) → slice_get ss f ≡ Some s → R.emissions s ≡ map (λ x. (to x, item x)) (dealt from f xs))
    → (r : ℕ) (s : S) → slice_get ss r ≡ Some s
    → slice_get (absorbed_round R ss) r ≡ Some (absorb_each R s (came_to from to item r xs))
every_owned R laws p n shape most ss from to item xs all low sends =
    every_entry R laws p n shape most ss from to item xs all low (λ f r s low_r at.
    ap (items_of r) (sends f s at) ∙ items_of_map to item r (dealt from f xs))

-- what comes to a rank has the key of that rank, where an item's key tells its receiver
pub came_keyed : {X : Type 0} (P : ℕ × Item → Type 0) (from to : X → ℕ) (item : X → Item) (r : ℕ) (xs : List X)
    → ((x : X) → to x ≡ r → P (from x, item x)) → All P (came_to from to item r xs)
came_keyed P from to item r [] key = All-nil P
came_keyed P from to item r (x ∷ xs) key =
    let rest : All P (came_to from to item r xs) = came_keyed P from to item r xs key in
    elim (cases_eq (to x) r) [
      | inl same ↦
          subst (λ b. All P (map (λ x. (from x, item x)) (cond b (x ∷ dealt to r xs) (dealt to r xs)))) (sym (eq-eqb (to x) r same))
          (All-cons P (from x, item x) (came_to from to item r xs) (key x same) rest)
      | inr apart ↦
          subst (λ b. All P (map (λ x. (from x, item x)) (cond b (x ∷ dealt to r xs) (dealt to r xs)))) (sym (ne_eqb (to x) r apart)) rest
    ]

-- functions that agree on a list's elements have the same images
pub same_map : {X Y : Type 0} (f g : X → Y) (xs : List X) → All (λ x. f x ≡ g x) xs → map f xs ≡ map g xs
same_map f g [] h = refl
same_map f g (x ∷ xs) h = ap (λ y. y ∷ map f xs) (all_head (λ x. f x ≡ g x) x xs h) ∙ ap (λ ys. g x ∷ ys) (same_map f g xs (all_tail (λ x. f x ≡ g x) x xs h))
