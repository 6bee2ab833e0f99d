-- Options read word by word.
use Rattle.std.proofs.Common.{ℕ, ◌≡◌, ◌<◌, ◌+◌, List, [], ◌∷◌, ◌++◌, Option, Some, None, map, length, drop, get_or, refl, sym, ap, ◌∙◌}
use Rattle.std.specs.Option.{option_map}
use Rattle.std.proofs.lemmas.List.{append_assoc, map-append, drop_more}
use Rattle.bale_words.specs.declared.options.Pair.{Pair}
use Rattle.bale_words.specs.Options.{Given, with_first, given_from}
use Rattle.bale_words.specs.Pairs.{given_pairs, given_pair}

-- one more option is put at the end
pub more_given : (pairs : List Pair) (p : Pair) (done : List Given) (more : Option (List Given)) → given_pairs pairs ≡ done
    → option_map (λ gs. done ++ gs) (with_first p.name.now p.value.now more) ≡ option_map (λ gs. given_pairs (pairs ++ p ∷ []) ++ gs) more
more_given pairs p done None e = refl
more_given pairs p done (Some gs) e =
    ap (λ xs. Some (xs ++ given_pair p ∷ gs)) (sym e)
    ∙ ap (λ xs. Some xs) (sym (append_assoc (given_pairs pairs) (given_pair p ∷ []) gs) ∙ ap (λ xs. xs ++ gs) (sym (map-append given_pair pairs (p ∷ []))))

-- the words from one on
front : {X : Type 0} (f : X → List ℕ) (words : List X) (i : ℕ) (w : X) (word : List ℕ) → i < length words → w ≡ get_or words i w → word ≡ f w
    → map f (drop i words) ≡ word ∷ map f (drop (i + 1) words)
front f words i w word l e b = ap (map f) (drop_more words i w l) ∙ ap (λ x. x ∷ map f (drop (i + 1) words)) (ap f (sym e) ∙ sym b)

-- one word more was read, or is no option
pub none_here : {X : Type 0} (f : X → List ℕ) (words : List X) (i : ℕ) (w : X) (word : List ℕ) (done : List Given) (waiting : Option (List ℕ)) (all : Option (List Given))
    → all ≡ option_map (λ gs. done ++ gs) (given_from waiting (map f (drop i words))) → i < length words → w ≡ get_or words i w → word ≡ f w
    → ((ws : List (List ℕ)) → given_from waiting (word ∷ ws) ≡ None) → all ≡ None
none_here f words i w word done waiting all so_far l e b none =
    so_far ∙ ap (option_map (λ gs. done ++ gs)) (ap (given_from waiting) (front f words i w word l e b) ∙ none (map f (drop (i + 1) words)))

pub more_here : {X : Type 0} (f : X → List ℕ) (words : List X) (i : ℕ) (w : X) (word : List ℕ) (pairs after : List Pair) (waiting next : Option (List ℕ)) (all : Option (List Given))
    → all ≡ option_map (λ gs. given_pairs pairs ++ gs) (given_from waiting (map f (drop i words))) → i < length words → w ≡ get_or words i w → word ≡ f w
    → ((ws : List (List ℕ)) (done : List Given) → given_pairs pairs ≡ done → option_map (λ gs. done ++ gs) (given_from waiting (word ∷ ws)) ≡ option_map (λ gs. given_pairs after ++ gs) (given_from next ws))
    → all ≡ option_map (λ gs. given_pairs after ++ gs) (given_from next (map f (drop (i + 1) words)))
more_here f words i w word pairs after waiting next all so_far l e b step =
    so_far ∙ (ap (λ ws. option_map (λ gs. given_pairs pairs ++ gs) (given_from waiting ws)) (front f words i w word l e b) ∙ step (map f (drop (i + 1) words)) (given_pairs pairs) refl)
