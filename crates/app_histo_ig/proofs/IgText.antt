-- The lines of ig, entry by entry.
use Rattle.std.proofs.Common.{◌≡◌, ℕ, ◌+◌, ◌∙◌, ◌++◌, List, [], ◌∷◌, Some, Option, ℤ, get_or, slice_get, take, sym, ap, subst, append-nil}
use Rattle.std.specs.List.{flat_map}
use Rattle.std.proofs.lemmas.Option.{get_or_from_slice_get}
use Rattle.std.proofs.lemmas.List.{take_more}
use Rattle.std.proofs.lemmas.List.Concat.{flat_map-append}
use Rattle.bale_types.specs.Stream.{taken_with, IsTakenPrefix}
use Rattle.bale_types.proofs.Moves.{after-after, front_in_loop}
use Rattle.bale_items.specs.declared.triple.Triple.{Triple}
use Rattle.list_laws.proofs.Lists.{within}
use Rattle.app_histo_ig.specs.IgLines.{column_sum, ig_line}

pub line_is : (ts : List Triple) (t : Triple) (i j : ℕ) (sum : ℤ) → i ≡ t.i → j ≡ t.j → sum ≡ column_sum t.j ts → ig_line i j sum ≡ ig_line t.i t.j (column_sum t.j ts)
line_is ts t i j sum a b c = ap (λ k. ig_line k j sum) a ∙ ap (λ k. ig_line t.i k sum) b ∙ ap (λ k. ig_line t.i t.j k) c

-- one line more
pub lines_more : (f : Triple → List ℕ) (ts : List Triple) (e : ℕ) (t : Triple) (line : List ℕ) (new mid old : Option (List ℕ)) → slice_get ts e ≡ Some t → line ≡ f t
    → new ≡ taken_with mid line → mid ≡ taken_with old (flat_map f (take e ts)) → new ≡ taken_with old (flat_map f (take (e + 1) ts))
lines_more f ts e t line new mid old at is step so_far =
    let longer : take (e + 1) ts ≡ take e ts ++ t ∷ [] = take_more ts e t (within ts e t at) ∙ ap (λ u. take e ts ++ u ∷ []) (get_or_from_slice_get ts e t t at) in
    let whole : flat_map f (take e ts) ++ line ≡ flat_map f (take (e + 1) ts) =
    ap (λ l. flat_map f (take e ts) ++ l) (is ∙ sym (append-nil (f t)))
    ∙ sym (flat_map-append f (take e ts) (t ∷ []))
    ∙ ap (flat_map f) (sym longer) in
    step ∙ ap (λ o. taken_with o line) so_far ∙ after-after old (flat_map f (take e ts)) line ∙ ap (taken_with old) whole

-- the line that failed
pub front_at : (f : Triple → List ℕ) (ts : List Triple) (e : ℕ) (t : Triple) (line : List ℕ) (taken mid old : Option (List ℕ)) → slice_get ts e ≡ Some t → line ≡ f t
    → IsTakenPrefix taken (taken_with mid line) → mid ≡ taken_with old (flat_map f (take e ts)) → IsTakenPrefix taken (taken_with old (flat_map f ts))
front_at f ts e t line taken mid old at is front so_far =
    front_in_loop f taken mid old ts e t (within ts e t at) so_far
    (subst (λ l. IsTakenPrefix taken (taken_with mid l)) (is ∙ ap f (sym (get_or_from_slice_get ts e t t at))) front)

-- what is read of an entry in a list that is the matrix's
pub field_at : (h : Triple → ℕ) (xs ts : List Triple) (e : ℕ) (t d : Triple) → xs ≡ ts → slice_get ts e ≡ Some t → h (get_or xs e d) ≡ h t
field_at h xs ts e t d same at = ap (λ ys. h (get_or ys e d)) same ∙ ap h (get_or_from_slice_get ts e t d at)
