-- The new numbers that a rank knows: those of the rows or columns that it owns.
use Rattle.std.proofs.Common.{ℕ, ◌+◌, ◌-◌, ◌*◌, ◌/◌, ◌%◌, ◌<◌, ◌≡◌, ◌==◌, ◌++◌, List, [], ◌∷◌, take, length, get_or, arith, sym, ap, ◌∙◌, subst}
use Rattle.std.specs.List.{enumerate_from}
use Rattle.std.proofs.Math.Nat.{mod-lt}
use Rattle.std.proofs.lemmas.Nat.{div-add-mod'}
use Rattle.std.proofs.lemmas.List.{length-map, take_more}
use Rattle.std.proofs.lemmas.List.Elements.{All-map, All-filter}
use Rattle.std.proofs.lemmas.Option.{get_or_from_slice_get}
use Rattle.list_laws.proofs.Lists.{get_map, within}
use Rattle.mtx_text.specs.Permutations.{Permutes}
use Rattle.mtx_text.proofs.Bands.{as_many, all_below}
use Rattle.sparse_rows.specs.Deals.{dealt}
use Rattle.sparse_rows.proofs.Starts.{all_numbered}
use Rattle.sparse_rows.proofs.Turns.{turn_place, turn_read, turn_count}
use Rattle.app_permute.specs.Reorderings.{number_among}
use Rattle.app_permute.specs.Permutes.{HasNumbers, new_number}
use Rattle.app_permute.specs.PermuteRuns.{own_numbers}

-- the numbers with their places
abbrev placed : ℕ → ℕ → List ℕ → List (ℕ × ℕ)
placed ranks r p = dealt (λ (e : ℕ × ℕ). e.0 % ranks) r (enumerate_from 0 p)

-- number k of a rank's own
pub own_read : (ranks r k d : ℕ) (p : List ℕ) → r < ranks → k < length (own_numbers ranks r p) → (k * ranks + r < length p) × (get_or (own_numbers ranks r p) k d ≡ get_or p (k * ranks + r) d)
own_read ranks r k d p own low =
    let size : length (own_numbers ranks r p) ≡ length (placed ranks r p) = length-map (placed ranks r p) (λ e. e.1) in
    let at = turn_read ranks r k p own (subst (λ n. k < n) size low) in (
      within p (k * ranks + r) at.0 at.2,
      get_or_from_slice_get (own_numbers ranks r p) k at.0 d (get_map (λ (e : ℕ × ℕ). e.1) (placed ranks r p) k (k * ranks + r, at.0) at.1)
          ∙ sym (get_or_from_slice_get p (k * ranks + r) at.0 d at.2),
    )

pub own_place : (ranks x : ℕ) (p : List ℕ) → 0 < ranks → x < length p → x / ranks < length (own_numbers ranks (x % ranks) p)
own_place ranks x p some low =
    subst (λ n. x / ranks < n) (sym (length-map (placed ranks (x % ranks) p) (λ e. e.1))) (turn_place ranks x p some low)

-- the owner of x knows the new number of x
pub number_is : (ranks x : ℕ) (p : List ℕ) → 0 < ranks → x < length p → new_number ranks (own_numbers ranks (x % ranks) p) x ≡ number_among p x
number_is ranks x p some low =
    (own_read ranks (x % ranks) (x / ranks) 0 p (mod-lt x some) (own_place ranks x p some low)).1 ∙ ap (number_among p) (div-add-mod' x ranks)

pub has_numbers : (ranks r n : ℕ) (p : List ℕ) → r < ranks → Permutes n p → HasNumbers ranks r n (own_numbers ranks r p)
has_numbers ranks r n p own h =
    record {
      below = All-map (λ x. x < n) (λ (e : ℕ × ℕ). e.1) (placed ranks r p) (All-filter (λ (e : ℕ × ℕ). e.0 % ranks == r) (λ (e : ℕ × ℕ). e.1 < n) (enumerate_from 0 p) (all_numbered (λ x. x < n) 0 p (all_below n p h)));
      placed = λ x low mine. subst (λ k. x / ranks < length (own_numbers ranks k p)) mine (own_place ranks x p (omega arith) (subst (λ k. x < k) (sym (as_many n p h)) low));
    }

-- how many there are
pub own_count : (ranks r : ℕ) (p : List ℕ) → r < ranks → length (own_numbers ranks r p) ≡ (length p + (ranks - 1 - r)) / ranks
own_count ranks r p own =
    let start : 0 + r ≡ 0 * ranks + r = grind arith in
    length-map (placed ranks r p) (λ e. e.1) ∙ turn_count ranks r p 0 0 r (ranks - 1 - r) own (omega arith) start

-- and one more of them
pub own_more : (ranks r k : ℕ) (p old all : List ℕ) → r < ranks → k < length (own_numbers ranks r p) → old ≡ take k (own_numbers ranks r p)
    → all ≡ old ++ number_among p (k * ranks + r) ∷ [] → all ≡ take (k + 1) (own_numbers ranks r p)
own_more ranks r k p old all own low so_far one =
    one ∙ ap (λ ns. ns ++ number_among p (k * ranks + r) ∷ []) so_far
    ∙ ap (λ n. take k (own_numbers ranks r p) ++ n ∷ []) (sym (own_read ranks r k 0 p own low).1)
    ∙ sym (take_more (own_numbers ranks r p) k 0 low)
