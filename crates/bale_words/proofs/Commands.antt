-- The command that is built name by name, and its words.
use Rattle.std.proofs.Common.{ℕ, ◌≡◌, ◌<◌, ◌+◌, List, [], ◌∷◌, ◌++◌, map, length, take, get_or, codes, sym, ap, ◌∙◌}
use Rattle.std.proofs.lemmas.List.{map-append, take_more}
use Rattle.clap.specs.Simple.{App, with_rule}
use Rattle.clap.specs.Walk.{Rule}
use Rattle.bale_words.specs.declared.options.Pair.{Pair}
use Rattle.bale_words.specs.Options.{word_of}
use Rattle.bale_words.specs.Pairs.{given_pairs, given_pair}
use Rattle.bale_words.specs.Clap.{app_named, option_rule, command_words}

-- one more option
pub app_more : (names : List (List ℕ)) (n : List ℕ) → with_rule (app_named names) (option_rule n) ≡ app_named (names ++ n ∷ [])
app_more names n = ap with_rules (sym (map-append option_rule names (n ∷ [])))
  where
    with_rules : List Rule → App
    with_rules rs = record { top = record (app_named names).top { rules = rs }; subs = [] }

-- a map over one element more
pub map_more : {X Y : Type 0} (f : X → Y) (xs : List X) (i : ℕ) (x : X) → i < length xs → x ≡ get_or xs i x → map f (take (i + 1) xs) ≡ map f (take i xs) ++ f x ∷ []
map_more f xs i x l e = ap (map f) (take_more xs i x l) ∙ (map-append f (take i xs) (get_or xs i x ∷ []) ∙ ap (λ y. map f (take i xs) ++ f y ∷ []) (sym e))

pub map_next : {X Y : Type 0} (f : X → Y) (xs : List X) (i : ℕ) (d : X) → i < length xs → map f (take (i + 1) xs) ≡ map f (take i xs) ++ f (get_or xs i d) ∷ []
map_next f xs i d l = ap (map f) (take_more xs i d l) ∙ map-append f (take i xs) (get_or xs i d ∷ [])

-- the words of one pair more
pub words_more : {X : Type 0} (f : X → List ℕ) (words : List X) (w : X) (pairs : List Pair) (i : ℕ) (p : Pair) → i < length pairs → p ≡ get_or pairs i p
    → map f words ≡ command_words (given_pairs (take i pairs)) → f w ≡ word_of (given_pair p) → map f (words ++ w ∷ []) ≡ command_words (given_pairs (take (i + 1) pairs))
words_more f words w pairs i p l e so_far one =
    map-append f words (w ∷ [])
    ∙ (ap (λ ws. ws ++ f w ∷ []) so_far
    ∙ (ap (λ x. (codes "bale" ∷ map word_of (given_pairs (take i pairs))) ++ x ∷ []) one
    ∙ ap (λ ws. codes "bale" ∷ ws) (sym (ap (map word_of) (map_more given_pair pairs i p l e) ∙ map-append word_of (given_pairs (take i pairs)) (given_pair p ∷ [])))))
