-- Items are handed over one after the other.
use Rattle.std.proofs.Common.{◌≡◌, ℕ, zero, suc, ◌+◌, ◌-◌, ◌<◌, ◌≤◌, Bool, true, false, List, [], ◌∷◌, length, slice_get, drop, Some, refl, sym, ap, subst, ◌∙◌, arith, add-one, get_or}
use Rattle.std.specs.List.{All}
use Rattle.std.proofs.lemmas.List.{get_or-drop, length-drop}
use Rattle.std.proofs.lemmas.Option.{same_Some, slice_get_within, get_or_from_slice_get}
use Rattle.bale_items.specs.declared.item.Item.{Item}
use Rattle.round_program.specs.Emissions.{HandsOver}

-- what is left of a list from a place on
place : {X : Type 0} (es : List X) (i : ℕ) (e : X) → slice_get es i ≡ Some e → drop i es ≡ e ∷ drop (suc i) es
place [] i e is = absurd (cc)
place (y ∷ ys) zero e is = ap (λ z. z ∷ ys) (same_Some y e is)
place (y ∷ ys) (suc i) e is = place ys i e is

pub from_place : {X : Type 0} (es : List X) (i : ℕ) (e : X) → slice_get es i ≡ Some e → drop i es ≡ e ∷ drop (i + 1) es
from_place es i e is = place es i e is ∙ ap (λ n. e ∷ drop n es) (sym (add-one i))

pub past_end : {X : Type 0} (es : List X) (i : ℕ) → length es ≤ i → drop i es ≡ []
past_end [] zero h = refl
past_end [] (suc i) h = refl
past_end (y ∷ ys) zero h = absurd (omega (arith, h))
past_end (y ∷ ys) (suc i) h = past_end ys i (omega (arith, h))

-- from number `from` on those below `next` are handed over: what is handed over of the rest goes on
-- from there
abbrev pub Reaches : {K : Type 0} → (K → ℕ → Item → Bool → K → Type 0) → List (ℕ × Item) → ℕ → ℕ → K → K → Type 0
Reaches {K} hands es from next start now = (n : ℕ) (end : K) → HandsOver hands (drop next es) n now end → HandsOver hands (drop from es) (next - from + n) start end

pub reaches_none : {K : Type 0} (hands : K → ℕ → Item → Bool → K → Type 0) (es : List (ℕ × Item)) (from : ℕ) (start : K) → Reaches hands es from from start start
reaches_none hands es from start n end h = subst (λ m. HandsOver hands (drop from es) m start end) (omega arith) h

pub reaches_more : {K : Type 0} (hands : K → ℕ → Item → Bool → K → Type 0) (es : List (ℕ × Item)) (from next : ℕ) (e : ℕ × Item) (start now then : K) → from ≤ next → slice_get es next ≡ Some e
    → hands now e.0 e.1 true then → Reaches hands es from next start now → Reaches hands es from (next + 1) start then
reaches_more hands es from next e start now then forward is step before n end h =
    let left : HandsOver hands (drop next es) (suc n) now end = subst (λ xs. HandsOver hands xs (suc n) now end) (sym (from_place es next e is)) (then, step, h) in
    let count : next - from + suc n ≡ next + 1 - from + n = omega (arith, forward) in
    subst (λ m. HandsOver hands (drop from es) m start end) count (before (suc n) end left)

-- then one is refused, or none is left
pub refused_at : {K : Type 0} (hands : K → ℕ → Item → Bool → K → Type 0) (es : List (ℕ × Item)) (from next : ℕ) (e : ℕ × Item) (start now then : K) → slice_get es next ≡ Some e
    → hands now e.0 e.1 false then → Reaches hands es from next start now → HandsOver hands (drop from es) (next - from) start then
refused_at hands es from next e start now then is step before =
    let count : next - from + 0 ≡ next - from = omega arith in
    subst (λ m. HandsOver hands (drop from es) m start then) count (before 0 then (subst (λ xs. HandsOver hands xs 0 now then) (sym (from_place es next e is)) step))

pub none_at : {K : Type 0} (hands : K → ℕ → Item → Bool → K → Type 0) (es : List (ℕ × Item)) (from next : ℕ) (start now : K) → length es ≤ next
    → Reaches hands es from next start now → HandsOver hands (drop from es) (next - from) start now
none_at hands es from next start now past before =
    let count : next - from + 0 ≡ next - from = omega arith in
    subst (λ m. HandsOver hands (drop from es) m start now) count (before 0 now (subst (λ xs. HandsOver hands xs 0 now now) (sym (past_end es next past)) (refl, refl)))

-- what holds of all that is left holds of each
pub all_after : {X : Type 0} (P : X → Type 0) (es : List X) (from next : ℕ) (e : X) → from ≤ next → slice_get es next ≡ Some e → All P (drop from es) → P e
all_after P es from next e forward is all =
    let place : from + (next - from) ≡ next = omega (arith, forward) in
    let low : next - from < length (drop from es) = omega (arith, forward, slice_get_within es next e is, length-drop from es) in
    subst P (get_or-drop from es (next - from) e ∙ (ap (λ k. get_or es k e) place ∙ get_or_from_slice_get es next e e is)) (all (next - from) e low)

-- what is handed over as seen through a part of the state
pub seen_through : {K J : Type 0} (f : K → J) (hands : K → ℕ → Item → Bool → K → Type 0) (seen : J → ℕ → Item → Bool → J → Type 0) (es : List (ℕ × Item)) (n : ℕ) (s t : K)
    → ((a b : K) (to : ℕ) (x : Item) (accepted : Bool) → hands a to x accepted b → seen (f a) to x accepted (f b)) → HandsOver hands es n s t → HandsOver seen es n (f s) (f t)
seen_through f hands seen [] n s t each h = (h.0, ap f h.1)
seen_through f hands seen (e ∷ es) zero s t each h = each s t e.0 e.1 false h
seen_through f hands seen (e ∷ es) (suc n) s t each h = (f h.0, each s h.0 e.0 e.1 true h.1, seen_through f hands seen es n h.0 t each h.2)

-- what no step changes stays
pub stays_same : {J : Type 0} (es : List (ℕ × Item)) (n : ℕ) (s t : J) → HandsOver (λ a to x accepted b. b ≡ a) es n s t → t ≡ s
stays_same [] n s t h = h.1
stays_same (e ∷ es) zero s t h = h
stays_same (e ∷ es) (suc n) s t h = stays_same es n h.0 t h.2 ∙ h.1

-- the first of what is left, and the rest
pub first_left : {X : Type 0} (es : List X) (i : ℕ) (e : X) (rest : List X) → drop i es ≡ e ∷ rest → slice_get es i ≡ Some e
first_left [] zero e rest is = absurd (cc)
first_left [] (suc i) e rest is = absurd (cc)
first_left (y ∷ ys) zero e rest is = ap (λ xs. slice_get xs 0) is
first_left (y ∷ ys) (suc i) e rest is = first_left ys i e rest is

pub rest_left : {X : Type 0} (es : List X) (i : ℕ) (e : X) (rest : List X) → drop i es ≡ e ∷ rest → drop (i + 1) es ≡ rest
rest_left es i e rest is = ap (drop 1) (sym (from_place es i e (first_left es i e rest is)) ∙ is)

pub nothing_left : {X : Type 0} (es : List X) (i : ℕ) → drop i es ≡ [] → length es ≤ i
nothing_left es i is = omega (arith, length-drop i es, ap length is)
