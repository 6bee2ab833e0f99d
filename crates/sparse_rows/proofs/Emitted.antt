-- Ranks of which each is made from its number emit what is said of each number.
use Rattle.std.proofs.Common.{◌≡◌, ℕ, ◌+◌, ◌<◌, ◌++◌, List, [], ◌∷◌, All, length, map, get_or, slice_get, Some, arith, refl, sym, ap, ◌∙◌, subst}
use Rattle.std.specs.List.{range_with_len, flat_map}
use Rattle.std.proofs.lemmas.List.FromFn.{get_or-range_with_len, length-range_with_len, length-map-range_with_len}
use Rattle.std.proofs.lemmas.List.{length-map}
use Rattle.std.proofs.lemmas.Simd.{map-map}
use Rattle.bale_items.specs.declared.Item.{Item}
use Rattle.list_laws.proofs.Lists.{within, got_map, same_reads}
use Rattle.round_program.specs.Rules.{Rules}
use Rattle.round_program.specs.Canonical.{states_at}
use Rattle.sparse_rows.proofs.EveryEntry.{same_map}
use Rattle.sparse_rows.proofs.Starts.{made_at}
use Rattle.sparse_rows.specs.Emits.{Emit}

-- what holds below n holds of the numbers below n
below_all : (P : ℕ → Type 0) (n : ℕ) → ((r : ℕ) → r < n → P r) → All P (range_with_len 0 n)
below_all P n h k d l =
    let low : k < n = subst (λ c. k < c) (length-range_with_len 0 n) l in
    let is : get_or (range_with_len 0 n) k d ≡ k = get_or-range_with_len 0 n k d low ∙ (let z : 0 + k ≡ k = omega arith in z) in
    subst P (sym is) (h k low)

pub emit_made : {S : Type 0} (R : Rules S) (starts : List S) (n ranks : ℕ) (f : ℕ → S) (line : ℕ → List (ℕ × Item))
    → states_at R starts n ≡ map f (range_with_len 0 ranks) → ((r : ℕ) → r < ranks → R.emissions (f r) ≡ line r) → Emit R starts n ranks line
emit_made R starts n ranks f line is each =
    ap (map R.emissions) is ∙ map-map R.emissions f (range_with_len 0 ranks)
    ∙ same_map (λ r. R.emissions (f r)) line (range_with_len 0 ranks) (below_all (λ r. R.emissions (f r) ≡ line r) ranks each)

-- lists that agree element by element, one after the other
pub same_flat : {X Y : Type 0} (f g : X → List Y) (xs : List X) → ((x : X) → f x ≡ g x) → flat_map f xs ≡ flat_map g xs
same_flat f g [] h = refl
same_flat f g (x ∷ xs) h = ap (λ ys. ys ++ flat_map f xs) (h x) ∙ ap (λ ys. g x ++ ys) (same_flat f g xs h)

-- the same of any states, one by one
pub emit_each : {S : Type 0} (R : Rules S) (starts : List S) (n ranks : ℕ) (line : ℕ → List (ℕ × Item))
    → length (states_at R starts n) ≡ ranks → ((r : ℕ) (s : S) → slice_get (states_at R starts n) r ≡ Some s → R.emissions s ≡ line r) → Emit R starts n ranks line
emit_each {S} R starts n ranks line size each =
    let ss : List S = states_at R starts n in
    same_reads (map R.emissions ss) (map line (range_with_len 0 ranks)) (length-map ss R.emissions ∙ size ∙ sym (length-map-range_with_len line 0 ranks)) (λ r x there.
    let s = got_map R.emissions ss r x there in
    let low : r < ranks = subst (λ c. r < c) size (within ss r s.0 s.1) in
    made_at line ranks r low ∙ ap Some (sym (each r s.0 s.1) ∙ s.2))
