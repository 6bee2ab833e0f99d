-- A list that is written place by place becomes the map of what it was.
use Rattle.std.proofs.Common.{ℕ, ◌≡◌, ◌+◌, ◌<◌, ◌≤◌, List, [], ◌∷◌, ◌++◌, length, take, drop, get_or, set, map, arith, refl, sym, ap, subst, ◌∙◌}
use Rattle.std.proofs.lemmas.List.{length-set, drop_more, take_all, drop_all, append_assoc, append-nil, map_more, set_at, get_or_at, length-map, length-take-le}

-- a write at each place in turn: the places before are done
pub record Mapped {X : Type 0} (f : X → X) (xs ys : List X) (i : ℕ) : Type 0 where
  pub count : length ys ≡ length xs
  pub is : ys ≡ map f (take i xs) ++ drop i xs

pub mapped_start : {X : Type 0} (f : X → X) (xs : List X) → Mapped f xs xs 0
mapped_start f xs = record { count = refl; is = refl }

pub mapped_more : {X : Type 0} (f : X → X) (xs ys : List X) (i : ℕ) (d : X) → i < length xs → Mapped f xs ys i → Mapped f xs (set ys i (f (get_or ys i d))) (i + 1)
mapped_more f xs ys i d l m =
    let front : length (map f (take i xs)) ≡ i = length-map (take i xs) f ∙ length-take-le i xs (omega arith) in
    let split : ys ≡ map f (take i xs) ++ get_or xs i d ∷ drop (i + 1) xs = m.is ∙ ap (λ zs. map f (take i xs) ++ zs) (drop_more xs i d l) in
    let here : get_or ys i d ≡ get_or xs i d = ap (λ zs. get_or zs i d) split ∙ get_or_at (map f (take i xs)) (get_or xs i d) (drop (i + 1) xs) d i front in
    let one : map f (take (i + 1) xs) ≡ map f (take i xs) ++ f (get_or xs i d) ∷ [] = map_more f xs i d l in
    record {
      count = length-set ys i (f (get_or ys i d)) ∙ m.count;
      is =
          ap (λ z. set ys i (f z)) here
          ∙ ap (λ zs. set zs i (f (get_or xs i d))) split
          ∙ set_at (map f (take i xs)) (get_or xs i d) (drop (i + 1) xs) (f (get_or xs i d)) i front
          ∙ sym (append_assoc (map f (take i xs)) (f (get_or xs i d) ∷ []) (drop (i + 1) xs))
          ∙ ap (λ zs. zs ++ drop (i + 1) xs) (sym one);
    }

pub mapped_end : {X : Type 0} (f : X → X) (xs ys : List X) (i : ℕ) → length xs ≤ i → Mapped f xs ys i → ys ≡ map f xs
mapped_end f xs ys i l m = m.is ∙ ap (λ zs. map f zs ++ drop i xs) (take_all i xs l) ∙ ap (λ zs. map f xs ++ zs) (drop_all i xs l) ∙ append-nil (map f xs)

pub mapped_step : {X : Type 0} (f : X → X) (xs ys : List X) (i : ℕ) (x x' : X) → i < length xs → Mapped f xs ys i → x ≡ get_or ys i x → x' ≡ f x → Mapped f xs (set ys i x') (i + 1)
mapped_step f xs ys i x x' l m e s = subst (λ z. Mapped f xs (set ys i z) (i + 1)) (ap f (sym e) ∙ sym s) (mapped_more f xs ys i x l m)
