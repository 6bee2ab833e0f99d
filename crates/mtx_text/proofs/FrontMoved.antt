-- What goes from the front of one of several lists to the end of another only moves.
use Rattle.std.proofs.Common.{ℕ, suc, ◌+◌, ◌<◌, ◌≡◌, List, ◌∷◌, ◌++◌, length, get_or, set, take, drop, IsPermutation, sym, ap, ◌∙◌, subst}
use Rattle.std.specs.List.{flat_map}
use Rattle.std.proofs.lemmas.List.{append_assoc, set_split, set-get_or, take_more, flat_map_more}
use Rattle.std.proofs.lemmas.List.Concat.{flat_map-append}
use Rattle.std.proofs.lemmas.List.Sorted.{IsPermutation-append_comm, IsPermutation-append_left, IsPermutation-sym, IsPermutation-trans}

to_middle : {A : Type 0} → (front fs xs gs : List A) → IsPermutation (front ++ (fs ++ (xs ++ gs))) (fs ++ ((front ++ xs) ++ gs))
to_middle front fs xs gs =
    let a : (front ++ fs) ++ (xs ++ gs) ≡ front ++ (fs ++ (xs ++ gs)) = append_assoc front fs (xs ++ gs) in
    let b : (fs ++ front) ++ (xs ++ gs) ≡ fs ++ ((front ++ xs) ++ gs) = append_assoc fs front (xs ++ gs) ∙ ap (λ l. fs ++ l) (sym (append_assoc front xs gs)) in
    subst (λ l. IsPermutation l (fs ++ ((front ++ xs) ++ gs))) a
    (subst (IsPermutation ((front ++ fs) ++ (xs ++ gs))) b
    (IsPermutation-append_left (xs ++ gs) (front ++ fs) (fs ++ front) (IsPermutation-append_comm front fs)))

flat_set : {X A : Type 0} → (f : X → List A) (xs : List X) (k : ℕ) (x : X) → k < length xs
    → flat_map f (set xs k x) ≡ flat_map f (take k xs) ++ (f x ++ flat_map f (drop (suc k) xs))
flat_set f xs k x l = ap (flat_map f) (set_split xs k x l) ∙ flat_map-append f (take k xs) (x ∷ drop (suc k) xs)

-- what one list has more at its end, the list at k has less at its front
pub front_moved : {X A : Type 0} → (f : X → List A) (runs : List X) (k : ℕ) (run rest : X) (old new : List A) → k < length runs
    → run ≡ get_or runs k run → new ++ f rest ≡ old ++ f run
    → IsPermutation (old ++ flat_map f runs) (new ++ flat_map f (set runs k rest))
front_moved {X} {A} f runs k run rest old new l e h =
    let fs : List A = flat_map f (take k runs) in
    let gs : List A = flat_map f (drop (suc k) runs) in
    let before : flat_map f runs ≡ fs ++ (f run ++ gs) = ap (flat_map f) (sym (ap (set runs k) e ∙ set-get_or runs k run)) ∙ flat_set f runs k run l in
    let after : flat_map f (set runs k rest) ≡ fs ++ (f rest ++ gs) = flat_set f runs k rest l in
    let out : IsPermutation (old ++ flat_map f runs) (fs ++ ((old ++ f run) ++ gs)) =
    subst (λ l. IsPermutation (old ++ l) (fs ++ ((old ++ f run) ++ gs))) (sym before) (to_middle old fs (f run) gs) in
    let back : IsPermutation (fs ++ ((new ++ f rest) ++ gs)) (new ++ flat_map f (set runs k rest)) =
    subst (λ l. IsPermutation (fs ++ ((new ++ f rest) ++ gs)) (new ++ l)) (sym after) (IsPermutation-sym _ _ (to_middle new fs (f rest) gs)) in
    IsPermutation-trans _ _ _ out (subst (λ l. IsPermutation (fs ++ (l ++ gs)) (new ++ flat_map f (set runs k rest))) h back)

-- one list more is appended
pub list_appended : {X A : Type 0} → (f : X → List A) (lists : List X) (k : ℕ) (d : X) (start old new : List A) → k < length lists
    → new ≡ old ++ f (get_or lists k d) → old ≡ start ++ flat_map f (take k lists) → new ≡ start ++ flat_map f (take (k + 1) lists)
list_appended f lists k d start old new l more so_far =
    more ∙ ap (λ l. l ++ f (get_or lists k d)) so_far ∙ flat_map_more f start (take k lists) (get_or lists k d)
    ∙ ap (λ l. start ++ flat_map f l) (sym (take_more lists k d l))
