-- The items of the first so many.
use Rattle.std.proofs.Common.{◌≡◌, ℕ, zero, suc, ◌≤◌, List, [], ◌∷◌, ◌++◌, length, take, drop, refl, sym, ap, ◌∙◌, arith}
use Rattle.bale_items.specs.declared.item.Item.{Item}
use Rattle.list_laws.specs.Lists.{IsPrefix}
use Rattle.round_program.specs.Canonical.{items_of}
use Rattle.round_program.proofs.Items.{items_push}

pub take_drop : {X : Type 0} (n : ℕ) (xs : List X) → take n xs ++ drop n xs ≡ xs
take_drop zero xs = refl
take_drop (suc n) [] = refl
take_drop (suc n) (x ∷ xs) = ap (λ ys. x ∷ ys) (take_drop n xs)

pub items_begin : (d n : ℕ) (es : List (ℕ × Item)) → IsPrefix (items_of d (take n es)) (items_of d es)
items_begin d n es = record { rest = items_of d (drop n es); is = ap (items_of d) (sym (take_drop n es)) ∙ items_push d (take n es) (drop n es) }

take_past : {X : Type 0} (n : ℕ) (xs : List X) → length xs ≤ n → take n xs ≡ xs
take_past zero [] h = refl
take_past zero (x ∷ xs) h = absurd (omega (arith, h))
take_past (suc n) [] h = refl
take_past (suc n) (x ∷ xs) h = ap (λ ys. x ∷ ys) (take_past n xs (omega (arith, h)))

pub take_whole : {X : Type 0} (n : ℕ) (xs : List X) → n ≡ length xs → take n xs ≡ xs
take_whole n xs e = take_past n xs (omega (arith, e))
