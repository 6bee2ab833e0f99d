-- The places of a route: its ends, and the links between them.
use Rattle.std.proofs.Common.{ℕ, ◌≡◌, ◌+◌, ◌-◌, ◌<◌, ◌≤◌, List, [], ◌∷◌, length, arith, refl, sym, ap, subst, ◌∙◌, inl, inr}
use Rattle.std.proofs.lemmas.Bool.{cases_lt}
use Rattle.route_tensor.specs.Grid.{ranks, coord, place, IsGrid}
use Rattle.route_tensor.specs.Link.{IsLink, IsOnRoute}
use Rattle.route_tensor.proofs.Coordinates.{Positive, place_below, coord-place_low, coord-place_high, coord_past, same_rank}

-- a place's coordinates, by which side of h they are on
pub coord-place : (dims : List ℕ) (s d h i : ℕ) (P : ℕ → Type 0) → Positive dims → (i ≤ h → P (coord dims d i)) → (h < i → P (coord dims s i)) → P (coord dims (place dims s d h) i)
coord-place dims s d h i P p low high =
    elim (cases_lt h i) as (λ _. P (coord dims (place dims s d h) i)) [
      | inl q ↦ subst P (sym (coord-place_high dims s d h i p q)) (high q)
      | inr q ↦ subst P (sym (coord-place_low dims s d h i p q)) (low q)
    ]

-- no hop: still at the sender
pub place-zero : (dims : List ℕ) (s d : ℕ) → place dims s d 0 ≡ s
unfolding place
place-zero [] s d = refl
place-zero (n ∷ ns) s d = refl

-- all hops: at the destination
pub place-all : (dims : List ℕ) (s d : ℕ) → Positive dims → s < ranks dims → d < ranks dims → place dims s d (length dims) ≡ d
place-all dims s d p a b =
    same_rank dims _ _ p (place_below dims s d (length dims) p a b) b (λ i.
    coord-place dims s d (length dims) i (λ c. c ≡ coord dims d i) p (λ q. refl) (λ q. coord_past dims s i q ∙ sym (coord_past dims d i q)))

-- the places before and after hop h are the ends of a link
pub place_link : (dims : List ℕ) (s d h : ℕ) → IsGrid dims → s < ranks dims → d < ranks dims → 1 ≤ h → h ≤ length dims → IsLink dims h (place dims s d (h - 1)) (place dims s d h)
place_link dims s d h g a b first last = record {
  first_hop = first;
  last_hop = last;
  sender = place_below dims s d (h - 1) g.positive a b;
  reader = place_below dims s d h g.positive a b;
  agree = λ i ne.
      coord-place dims s d (h - 1) i (λ c. c ≡ coord dims (place dims s d h) i) g.positive
      (λ low. sym (coord-place_low dims s d h i g.positive (omega arith)))
      (λ high. sym (coord-place_high dims s d h i g.positive (omega (arith, ne))));
}

-- the link of a route is one
pub route_link : (dims : List ℕ) (s d h a b : ℕ) → IsGrid dims → IsOnRoute dims s d h a b → IsLink dims h a b
route_link dims s d h a b g r = subst (λ x. IsLink dims h x b) (sym r.from) (subst (λ y. IsLink dims h (place dims s d (h - 1)) y) (sym r.to) (place_link dims s d h g r.sender r.destination r.first_hop r.last_hop))

-- the hops before the last one of a route are on it
pub route_next : (dims : List ℕ) (s d h a b : ℕ) → IsOnRoute dims s d h a b → h < length dims → IsOnRoute dims s d (h + 1) b (place dims s d (h + 1))
route_next dims s d h a b r l = record {
  first_hop = omega arith;
  last_hop = omega arith;
  sender = r.sender;
  destination = r.destination;
  from = let e : h + 1 - 1 ≡ h = omega arith in r.to ∙ ap (place dims s d) (sym e);
  to = refl;
}
