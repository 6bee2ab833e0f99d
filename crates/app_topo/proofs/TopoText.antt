-- The lines of an order, position by position.
use Rattle.std.proofs.Common.{◌≡◌, ℕ, zero, suc, ◌+◌, ◌≤◌, ◌∙◌, ◌++◌, List, [], ◌∷◌, Some, None, Option, length, slice_get, take, arith, refl, sym, ap, subst, append-nil}
use Rattle.std.specs.List.{flat_map, enumerate_from}
use Rattle.std.proofs.lemmas.Option.{get_or_from_slice_get}
use Rattle.std.proofs.lemmas.List.{take_more, take_all}
use Rattle.std.proofs.lemmas.List.Concat.{flat_map-append}
use Rattle.bale_types.specs.Stream.{taken_with, IsTakenPrefix}
use Rattle.bale_types.proofs.Moves.{after-after, front_in_loop}
use Rattle.list_laws.proofs.Lists.{within}
use Rattle.app_topo.specs.Levels.{Claim}
use Rattle.app_topo.specs.TopoLines.{topo_line}

abbrev pub position_line : ℕ × Claim → List ℕ
position_line e = topo_line e.0 e.1

abbrev pub positions : List Claim → List (ℕ × Claim)
positions order = enumerate_from 0 order

numbered_get : (n k : ℕ) (xs : List Claim) (c : Claim) → slice_get xs k ≡ Some c → slice_get (enumerate_from n xs) k ≡ Some (n + k, c)
numbered_get n k [] c at = absurd (cc)
numbered_get n zero (x ∷ xs) c at =
    let same : Some x ≡ Some c = at in
    let place : n ≡ n + zero = omega arith in
    ap (λ (o : Option Claim). numbered_head n o) same ∙ ap (λ k. Some (k, c)) place
  where
    numbered_head : ℕ → Option Claim → Option (ℕ × Claim)
    numbered_head n None = None
    numbered_head n (Some x) = Some (n, x)
numbered_get n (suc k) (x ∷ xs) c at =
    let place : n + 1 + k ≡ n + suc k = omega arith in
    numbered_get (n + 1) k xs c at ∙ ap (λ k. Some (k, c)) place

pub at_position : (order : List Claim) (x : ℕ) (c : Claim) → slice_get order x ≡ Some c → slice_get (positions order) x ≡ Some (x, c)
at_position order x c at = (let place : 0 + x ≡ x = omega arith in numbered_get 0 x order c at ∙ ap (λ k. Some (k, c)) place)

-- one line more
pub lines_more : (order : List Claim) (x : ℕ) (c : Claim) (new mid old : Option (List ℕ)) → slice_get order x ≡ Some c
    → new ≡ taken_with mid (topo_line x c) → mid ≡ taken_with old (flat_map position_line (take x (positions order))) → new ≡ taken_with old (flat_map position_line (take (x + 1) (positions order)))
lines_more order x c new mid old at step so_far =
    let ts : List (ℕ × Claim) = positions order in
    let here : slice_get ts x ≡ Some (x, c) = at_position order x c at in
    let longer : take (x + 1) ts ≡ take x ts ++ (x, c) ∷ [] = take_more ts x (x, c) (within ts x (x, c) here) ∙ ap (λ u. take x ts ++ u ∷ []) (get_or_from_slice_get ts x (x, c) (x, c) here) in
    let whole : flat_map position_line (take x ts) ++ topo_line x c ≡ flat_map position_line (take (x + 1) ts) =
    ap (λ l. flat_map position_line (take x ts) ++ l) (sym (append-nil (topo_line x c)))
    ∙ sym (flat_map-append position_line (take x ts) ((x, c) ∷ []))
    ∙ ap (flat_map position_line) (sym longer) in
    step ∙ ap (λ o. taken_with o (topo_line x c)) so_far ∙ after-after old (flat_map position_line (take x ts)) (topo_line x c) ∙ ap (taken_with old) whole

-- the line that failed
pub front_at : (order : List Claim) (x : ℕ) (c : Claim) (taken mid old : Option (List ℕ)) → slice_get order x ≡ Some c
    → IsTakenPrefix taken (taken_with mid (topo_line x c)) → mid ≡ taken_with old (flat_map position_line (take x (positions order))) → IsTakenPrefix taken (taken_with old (flat_map position_line (positions order)))
front_at order x c taken mid old at front so_far =
    let ts : List (ℕ × Claim) = positions order in
    let here : slice_get ts x ≡ Some (x, c) = at_position order x c at in
    front_in_loop position_line taken mid old ts x (x, c) (within ts x (x, c) here) so_far
    (subst (λ e. IsTakenPrefix taken (taken_with mid (position_line e))) (sym (get_or_from_slice_get ts x (x, c) (x, c) here)) front)

-- all lines
pub lines_all : (order : List Claim) (x : ℕ) (old : Option (List ℕ)) → length order ≤ x → taken_with old (flat_map position_line (take x (positions order))) ≡ taken_with old (flat_map position_line (positions order))
lines_all order x old far = ap (λ ts. taken_with old (flat_map position_line ts)) (take_all x (positions order) (subst (λ k. k ≤ x) (sym (count 0 order)) far))
  where
    count : (n : ℕ) (xs : List Claim) → length (enumerate_from n xs) ≡ length xs
    count n [] = refl
    count n (x ∷ xs) = ap suc (count (n + 1) xs)
