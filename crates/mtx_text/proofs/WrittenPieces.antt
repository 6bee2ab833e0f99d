-- The pieces of a written text, one after the other.
use Rattle.std.proofs.Common.{ℕ, ◌+◌, ◌<◌, ◌≡◌, List, [], ◌∷◌, ◌++◌, Option, get_or, take, length, sym, ap, ◌∙◌, refl}
use Rattle.std.specs.List.{flat_map}
use Rattle.std.proofs.lemmas.List.{append_assoc, append-nil, take_more}
use Rattle.std.proofs.lemmas.List.Concat.{flat_map-append}
use Rattle.bale_types.specs.Stream.{taken_with, IsTakenPrefix}
use Rattle.bale_types.proofs.Moves.{after-after, after-nil, front_joined}

pub pieces_more : {X : Type 0} (f : X → List ℕ) (old mid new : Option (List ℕ)) (xs : List X) (i : ℕ) (d : X) → i < length xs
    → new ≡ taken_with mid (f (get_or xs i d)) → mid ≡ taken_with old (flat_map f (take i xs)) → new ≡ taken_with old (flat_map f (take (i + 1) xs))
pieces_more f old mid new xs i d l e h =
    let step : flat_map f (take (i + 1) xs) ≡ flat_map f (take i xs) ++ f (get_or xs i d) =
    ap (flat_map f) (take_more xs i d l) ∙ flat_map-append f (take i xs) (get_or xs i d ∷ []) ∙ ap (λ ys. flat_map f (take i xs) ++ ys) (append-nil (f (get_or xs i d))) in
    e ∙ ap (λ (t : Option (List ℕ)). taken_with t (f (get_or xs i d))) h ∙ after-after old (flat_map f (take i xs)) (f (get_or xs i d)) ∙ ap (taken_with old) (sym step)

-- a prefix of the first of three pieces, of the second, of the third, and all three
pub front_first : (taken old : Option (List ℕ)) (a b c : List ℕ) → IsTakenPrefix taken (taken_with old a) → IsTakenPrefix taken (taken_with old (a ++ (b ++ c)))
front_first taken old a b c h = front_joined taken old old [] a (b ++ c) (a ++ (b ++ c)) (sym (after-nil old)) refl h

pub front_second : (taken mid old : Option (List ℕ)) (a b c : List ℕ) → mid ≡ taken_with old a → IsTakenPrefix taken (taken_with mid b) → IsTakenPrefix taken (taken_with old (a ++ (b ++ c)))
front_second taken mid old a b c e h = front_joined taken mid old a b c (a ++ (b ++ c)) e (append_assoc a b c) h

pub all_two : (end mid old : Option (List ℕ)) (a b : List ℕ) → end ≡ taken_with mid b → mid ≡ taken_with old a → end ≡ taken_with old (a ++ b)
all_two end mid old a b f e = f ∙ ap (λ (t : Option (List ℕ)). taken_with t b) e ∙ after-after old a b

pub front_third : (taken end mid old : Option (List ℕ)) (a b c : List ℕ) → mid ≡ taken_with old a → end ≡ taken_with mid b → IsTakenPrefix taken (taken_with end c) → IsTakenPrefix taken (taken_with old (a ++ (b ++ c)))
front_third taken end mid old a b c e f h =
    front_joined taken end old (a ++ b) c [] (a ++ (b ++ c)) (all_two end mid old a b f e) (append-nil (a ++ b ++ c) ∙ append_assoc a b c) h

pub all_three : (last end mid old : Option (List ℕ)) (a b c : List ℕ) → last ≡ taken_with end c → end ≡ taken_with mid b → mid ≡ taken_with old a → last ≡ taken_with old (a ++ (b ++ c))
all_three last end mid old a b c g f e = all_two last end old (a ++ b) c g (all_two end mid old a b f e) ∙ ap (taken_with old) (append_assoc a b c)
