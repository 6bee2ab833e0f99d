-- Lists that begin others.
use Rattle.std.proofs.Common.{◌≡◌, ◌≤◌, Bool, List, [], ◌∷◌, ◌++◌, map, length, refl, sym, ap, ◌∙◌, arith, length-append}
use Rattle.std.specs.List.{filter, flat_map}
use Rattle.std.proofs.lemmas.List.{append-nil, append_assoc, map-append}
use Rattle.std.proofs.lemmas.List.Elements.{filter-append}
use Rattle.std.proofs.lemmas.List.Concat.{flat_map-append}
use Rattle.list_laws.specs.Lists.{IsPrefix}

module _ {T : Type 0} where
  pub begins_refl : (xs : List T) → IsPrefix xs xs
  begins_refl xs = record { rest = []; is = sym (append-nil xs) }

  pub begins_nil : (xs : List T) → IsPrefix [] xs
  begins_nil xs = record { rest = xs; is = refl }

  pub begins_more : (xs ys : List T) → IsPrefix xs (xs ++ ys)
  begins_more xs ys = record { rest = ys; is = refl }

  pub begins_trans : (xs ys zs : List T) → IsPrefix xs ys → IsPrefix ys zs → IsPrefix xs zs
  begins_trans xs ys zs p q = record { rest = p.rest ++ q.rest; is = q.is ∙ (ap (λ u. u ++ q.rest) p.is ∙ append_assoc xs p.rest q.rest) }

  pub begins_cons : (x : T) (xs ys : List T) → IsPrefix xs ys → IsPrefix (x ∷ xs) (x ∷ ys)
  begins_cons x xs ys p = record { rest = p.rest; is = ap (λ u. x ∷ u) p.is }

  pub begins_same : (xs ys zs : List T) → ys ≡ zs → IsPrefix xs ys → IsPrefix xs zs
  begins_same xs ys zs e p = record { rest = p.rest; is = sym e ∙ p.is }

  pub begins_shorter : (xs ys : List T) → IsPrefix xs ys → length xs ≤ length ys
  begins_shorter xs ys p = omega (arith, ap length p.is, length-append xs p.rest)

  -- a front as long as the whole is the whole
  pub begins_whole : (xs ys : List T) → IsPrefix xs ys → length ys ≤ length xs → ys ≡ xs
  begins_whole xs ys p short = p.is ∙ none_more p.rest (omega (arith, ap length p.is, length-append xs p.rest, short)) where
    none_more : (zs : List T) → length zs ≤ 0 → xs ++ zs ≡ xs
    none_more [] h = append-nil xs
    none_more (z ∷ zs) h = absurd (omega (arith, h))

module _ {S T : Type 0} where
  pub begins_map : (f : S → T) (xs ys : List S) → IsPrefix xs ys → IsPrefix (map f xs) (map f ys)
  begins_map f xs ys p = record { rest = map f p.rest; is = ap (map f) p.is ∙ map-append f xs p.rest }

  pub begins_flat_map : (f : S → List T) (xs ys : List S) → IsPrefix xs ys → IsPrefix (flat_map f xs) (flat_map f ys)
  begins_flat_map f xs ys p = record { rest = flat_map f p.rest; is = ap (flat_map f) p.is ∙ flat_map-append f xs p.rest }

pub begins_filter : {T : Type 0} (keep : T → Bool) (xs ys : List T) → IsPrefix xs ys → IsPrefix (filter keep xs) (filter keep ys)
begins_filter keep xs ys p = record { rest = filter keep p.rest; is = ap (filter keep) p.is ∙ filter-append keep xs p.rest }
