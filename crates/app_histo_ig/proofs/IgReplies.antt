-- The replies of a rank of ig, list by list of the queries that came.
use Rattle.std.proofs.Common.{◌≡◌, ℕ, zero, suc, ◌+◌, ◌-◌, ◌<◌, ◌≤◌, min, max, Bool, All, inl, inr, List, [], ◌∷◌, ◌++◌, map, length, slice_get, drop, Some, sym, ap, subst, ◌∙◌, arith, add-one}
use Rattle.std.proofs.lemmas.Bool.{cases_lt}
use Rattle.std.proofs.lemmas.List.{length-append, length-map, length-drop, drop-drop, drop-append-le}
use Rattle.bale_items.specs.declared.item.Item.{Item}
use Rattle.round_program.specs.Emissions.{HandsOver}
use Rattle.round_program.proofs.Emissions.{Reaches, reaches_more, from_place, past_end, first_left, rest_left, all_after}
use Rattle.list_laws.proofs.Lists.{find, get_map}
use Rattle.app_histo_ig.specs.Igs.{ig_reply_to, ig_replies_from}

-- the replies from one list of queries on
abbrev pub from_list : ℕ → List ℕ → List (List Item) → ℕ → List (ℕ × Item)
from_list ranks sums queries k = ig_replies_from ranks sums k (drop k queries)

-- are those to this list, and then those from the next one on
pub list_first : (ranks : ℕ) (sums : List ℕ) (queries : List (List Item)) (k : ℕ) (q : List Item) → slice_get queries k ≡ Some q
    → from_list ranks sums queries k ≡ map (ig_reply_to ranks sums k) q ++ from_list ranks sums queries (k + 1)
list_first ranks sums queries k q is =
    ap (ig_replies_from ranks sums k) (from_place queries k q is) ∙ ap (λ n. map (ig_reply_to ranks sums k) q ++ ig_replies_from ranks sums n (drop (k + 1) queries)) (sym (add-one k))

pub no_list : (ranks : ℕ) (sums : List ℕ) (queries : List (List Item)) (k : ℕ) → length queries ≤ k → from_list ranks sums queries k ≡ []
no_list ranks sums queries k past = ap (ig_replies_from ranks sums k) (past_end queries k past)

pub count_first : (ranks : ℕ) (sums : List ℕ) (queries : List (List Item)) (k : ℕ) (q : List Item) → slice_get queries k ≡ Some q
    → length (from_list ranks sums queries k) ≡ length q + length (from_list ranks sums queries (k + 1))
count_first ranks sums queries k q is =
    ap length (list_first ranks sums queries k q is) ∙ length-append (map (ig_reply_to ranks sums k) q) (from_list ranks sums queries (k + 1))
    ∙ ap (λ n. n + length (from_list ranks sums queries (k + 1))) (length-map q (ig_reply_to ranks sums k))

pub get_behind : {X : Type 0} (xs ys : List X) (i : ℕ) → length xs ≤ i → slice_get (xs ++ ys) i ≡ slice_get ys (i - length xs)
get_behind [] ys i h = ap (slice_get ys) (let e : i ≡ i - 0 = omega arith in e)
get_behind (x ∷ xs) ys zero h = absurd (omega (arith, h))
get_behind (x ∷ xs) ys (suc i) h = get_behind xs ys i (omega (arith, h)) ∙ ap (slice_get ys) (let e : i - length xs ≡ suc i - suc (length xs) = omega arith in e)

-- what is left of all replies where the next one is of this list, and where the list is over
left_here : (es xs rest : List (ℕ × Item)) (first next at : ℕ) → drop first es ≡ xs ++ rest → first ≤ next → at ≡ next - first → at ≤ length xs → drop next es ≡ drop at xs ++ rest
left_here es xs rest first next at is low place high =
    let there : first + at ≡ next = omega (arith, low, place) in
    ap (λ n. drop n es) (sym there) ∙ (sym (drop-drop at first es) ∙ (ap (drop at) is ∙ drop-append-le at xs rest high))

pub left_behind : (es xs rest : List (ℕ × Item)) (first : ℕ) → drop first es ≡ xs ++ rest → drop (first + length xs) es ≡ rest
left_behind es xs rest first is =
    let all : length xs ≤ length xs = omega arith in
    sym (drop-drop (length xs) first es) ∙ (ap (drop (length xs)) is ∙ (drop-append-le (length xs) xs rest all ∙ ap (λ l. l ++ rest) (past_end xs (length xs) all)))

-- ---- Handing over a list's replies, as a part of all

-- all of them
reaches_all : {K : Type 0} (hands : K → ℕ → Item → Bool → K → Type 0) (es xs rest : List (ℕ × Item)) (from next : ℕ) (start now then : K) → from ≤ next → drop next es ≡ xs ++ rest
    → HandsOver hands xs (length xs) now then → Reaches hands es from next start now → Reaches hands es from (next + length xs) start then
reaches_all hands es [] rest from next start now then forward is h before =
    let place : next ≡ next + 0 = omega arith in
    subst (λ n. Reaches hands es from n start then) place (subst (λ k. Reaches hands es from next start k) (sym h.1) before)
reaches_all hands es (x ∷ xs) rest from next start now then forward is h before =
    let place : next + 1 + length xs ≡ next + suc (length xs) = omega arith in
    subst (λ n. Reaches hands es from n start then) place
    (reaches_all hands es xs rest from (next + 1) start h.0 then (omega (arith, forward)) (rest_left es next x (xs ++ rest) is) h.2
    (reaches_more hands es from next x start now h.0 forward (first_left es next x (xs ++ rest) is) h.1 before))

-- some of them, where one is refused
stops_within : {K : Type 0} (hands : K → ℕ → Item → Bool → K → Type 0) (xs rest : List (ℕ × Item)) (n : ℕ) (now then : K) → n < length xs → HandsOver hands xs n now then → HandsOver hands (xs ++ rest) n now then
stops_within hands [] rest n now then low h = absurd (omega (arith, low))
stops_within hands (x ∷ xs) rest zero now then low h = h
stops_within hands (x ∷ xs) rest (suc n) now then low h = (h.0, h.1, stops_within hands xs rest n h.0 then (omega (arith, low)) h.2)

-- a list's replies from the next one on were handed over, up to number m of them: all of them,
-- whether or not the next one was of this list
pub handed_list : {K : Type 0} (hands : K → ℕ → Item → Bool → K → Type 0) (es xs rest : List (ℕ × Item)) (from first next at m : ℕ) (start now then : K) → from ≤ next → drop first es ≡ xs ++ rest → first ≤ next
    → at ≡ min next (first + length xs) - first → m ≡ length xs → HandsOver hands (drop at xs) (m - at) now then → Reaches hands es from next start now
    → Reaches hands es from (max next (first + length xs)) start then
handed_list hands es xs rest from first next at m start now then forward is low a all h before =
    elim (cases_lt next (first + length xs)) [
      | inl here ↦
          let place : at ≡ next - first = omega (arith, a, here) in
          let size : length (drop at xs) ≡ m - at = omega (arith, length-drop at xs, all) in
          let end : next + length (drop at xs) ≡ max next (first + length xs) = omega (arith, size, place, low, here, all) in
          subst (λ n. Reaches hands es from n start then) end
          (reaches_all hands es (drop at xs) rest from next start now then forward (left_here es xs rest first next at is low place (omega (arith, place, here)))
          (subst (λ n. HandsOver hands (drop at xs) n now then) (sym size) h) before)
      | inr past ↦
          let place : length xs ≤ at = omega (arith, a, past) in
          let end : next ≡ max next (first + length xs) = omega (arith, past) in
          let none : HandsOver hands [] (m - at) now then = subst (λ ys. HandsOver hands ys (m - at) now then) (past_end xs at place) h in
          subst (λ n. Reaches hands es from n start then) end (subst (λ k. Reaches hands es from next start k) (sym none.1) before)
    ]

-- or some of them: the list isn't over, so it has the next one
pub handed_part : {K : Type 0} (hands : K → ℕ → Item → Bool → K → Type 0) (es xs rest : List (ℕ × Item)) (from first next at m : ℕ) (start now then : K) → from ≤ next → drop first es ≡ xs ++ rest → first ≤ next
    → at ≡ min next (first + length xs) - first → at ≤ m → m < length xs → HandsOver hands (drop at xs) (m - at) now then → Reaches hands es from next start now
    → HandsOver hands (drop from es) (first + m - from) start then
handed_part hands es xs rest from first next at m start now then forward is low a up some h before =
    let place : at ≡ next - first = omega (arith, a, up, some) in
    let here : drop next es ≡ drop at xs ++ rest = left_here es xs rest first next at is low place (omega (arith, up, some)) in
    let count : next - from + (m - at) ≡ first + m - from = omega (arith, forward, low, place, up) in
    subst (λ n. HandsOver hands (drop from es) n start then) count
    (before (m - at) then
    (subst (λ ys. HandsOver hands ys (m - at) now then) (sym here) (stops_within hands (drop at xs) rest (m - at) now then (omega (arith, length-drop at xs, up, some)) h)))

-- it goes to the rank that asked
pub may_here : (P : ℕ → Type 0) (ranks : ℕ) (sums : List ℕ) (to : ℕ) (q : List Item) (es rest : List (ℕ × Item)) (from first next at : ℕ) → from ≤ next → drop first es ≡ map (ig_reply_to ranks sums to) q ++ rest → first ≤ next
    → at ≡ min next (first + length q) - first → at < length q → All (λ e. P e.0) (drop from es) → P to
may_here P ranks sums to q es rest from first next at forward is low a some all =
    let xs : List (ℕ × Item) = map (ig_reply_to ranks sums to) q in
    let size : length xs ≡ length q = length-map q (ig_reply_to ranks sums to) in
    let place : at ≡ next - first = omega (arith, a, some) in
    let x = find q at some in
    let here : slice_get xs at ≡ Some (ig_reply_to ranks sums to x.0) = get_map (ig_reply_to ranks sums to) q at x.0 x.1 in
    let left : drop next es ≡ drop at xs ++ rest = left_here es xs rest first next at is low place (omega (arith, size, some)) in
    let first_is : drop next es ≡ ig_reply_to ranks sums to x.0 ∷ (drop (at + 1) xs ++ rest) = left ∙ ap (λ ys. ys ++ rest) (from_place xs at (ig_reply_to ranks sums to x.0) here) in
    all_after (λ e. P e.0) es from next (ig_reply_to ranks sums to x.0) forward (first_left es next (ig_reply_to ranks sums to x.0) (drop (at + 1) xs ++ rest) first_is) all

-- a list ends within all replies
pub ends_within : (ranks : ℕ) (sums : List ℕ) (to : ℕ) (q : List Item) (es rest : List (ℕ × Item)) (first : ℕ) → drop first es ≡ map (ig_reply_to ranks sums to) q ++ rest → first ≤ length es → first + length q ≤ length es
ends_within ranks sums to q es rest first is low =
    omega (arith, length-drop first es, ap length is, length-append (map (ig_reply_to ranks sums to) q) rest, length-map q (ig_reply_to ranks sums to), low)
