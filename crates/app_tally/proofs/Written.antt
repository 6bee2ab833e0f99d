-- The entries of a written tally, one after the other.
use Rattle.std.proofs.Common.{ℕ, ◌+◌, ◌<◌, ◌≡◌, List, [], Option, Some, Result, Ok, Err, OnErr, map, get_or, take, length, slice_get, sym, ap, ◌∙◌, subst}
use Rattle.std.specs.List.{flat_map}
use Rattle.std.proofs.lemmas.Option.{get_or_from_slice_get}
use Rattle.bale_types.specs.Stream.{taken_with, IsTakenPrefix}
use Rattle.bale_types.proofs.Moves.{front_in_loop}
use Rattle.list_laws.proofs.Lists.{find, get_map, get_once}
use Rattle.mtx_text.proofs.WrittenPieces.{pieces_more}
use Rattle.app_tally.specs.Counts.{Entry, count_text}

pub on_err_map : {T E : Type 0} {P Q : Type 0} (r : Result T E) → (P → Q) → OnErr r P → OnErr r Q
on_err_map (Ok x) f p = tt
on_err_map (Err e) f p = f p

-- an entry by its two parts
whole : (es : List Entry) (i n : ℕ) (l : List ℕ) (d : Entry) → i < length es → slice_get (map (λ e. e.0) es) i ≡ Some l → slice_get (map (λ e. e.1) es) i ≡ Some n → get_or es i d ≡ (l, n)
whole es i n l d low a b =
    let w : (w : Entry) × (slice_get es i ≡ Some w) = find es i low in
    get_or_from_slice_get es i w.0 d w.1
    ∙ ap (λ x. (x, w.0.1)) (get_once (map (λ e. e.0) es) i w.0.0 l (get_map (λ e. e.0) es i w.0 w.1) a)
    ∙ ap (λ x. (l, x)) (get_once (map (λ e. e.1) es) i w.0.1 n (get_map (λ e. e.1) es i w.0 w.1) b)

pub entry_more : (old mid new : Option (List ℕ)) (es : List Entry) (i n : ℕ) (l : List ℕ) → i < length es → slice_get (map (λ e. e.0) es) i ≡ Some l → slice_get (map (λ e. e.1) es) i ≡ Some n
    → new ≡ taken_with mid (count_text (l, n)) → mid ≡ taken_with old (flat_map count_text (take i es)) → new ≡ taken_with old (flat_map count_text (take (i + 1) es))
entry_more old mid new es i n l low a b e so_far =
    pieces_more count_text old mid new es i ([], 0) low (e ∙ ap (λ w. taken_with mid (count_text w)) (sym (whole es i n l ([], 0) low a b))) so_far

pub entry_front : (taken mid old : Option (List ℕ)) (es : List Entry) (i n : ℕ) (l : List ℕ) → i < length es → slice_get (map (λ e. e.0) es) i ≡ Some l → slice_get (map (λ e. e.1) es) i ≡ Some n
    → mid ≡ taken_with old (flat_map count_text (take i es)) → IsTakenPrefix taken (taken_with mid (count_text (l, n))) → IsTakenPrefix taken (taken_with old (flat_map count_text es))
entry_front taken mid old es i n l low a b so_far front =
    front_in_loop count_text taken mid old es i ([], 0) low so_far (subst (λ w. IsTakenPrefix taken (taken_with mid (count_text w))) (sym (whole es i n l ([], 0) low a b)) front)
