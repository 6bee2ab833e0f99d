-- What a rank hands over of the items that it sends.
use Rattle.std.specs.Prelude.{◌≡◌, ℕ, zero, suc, Bool, true, false, List, [], ◌∷◌}
use Rattle.bale_items.specs.declared.item.Item.{Item}

-- Of items, each with its receiver, the first n were handed over and accepted, one after the other;
-- then none was left, or the next one was refused. `hands` says what handing over one item may do.
-- Of (1,x), (0,y), where n is 1, x was accepted and y was refused.
abbrev pub HandsOver : {K : Type 0} → (K → ℕ → Item → Bool → K → Type 0) → List (ℕ × Item) → ℕ → K → K → Type 0
HandsOver hands [] n s t = (n ≡ 0) × (t ≡ s)
HandsOver hands (e ∷ es) zero s t = hands s e.0 e.1 false t
HandsOver {K} hands (e ∷ es) (suc n) s t = (mid : K) × hands s e.0 e.1 true mid × HandsOver hands es n mid t
