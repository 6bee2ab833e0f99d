-- A table as far as it is filled, and neighbours that differ.
use Rattle.std.proofs.Common.{ℕ, ◌≡◌, ◌≢◌, ◌+◌, ◌<◌, List, [], ◌∷◌, ◌++◌, length, get_or, set, sum, arith, sym, ap, subst, ◌∙◌, inl, inr}
use Rattle.std.proofs.lemmas.Bool.{cases_eq}
use Rattle.std.proofs.lemmas.List.{length-set, length_push, get_or-set_same, get_or-set_other}
use Rattle.list_laws.specs.Lists.{EachAt}
use Rattle.list_laws.proofs.Lists.{each_push}
use Rattle.route_tensor.specs.Grid.{ranks, coord, IsGrid}
use Rattle.route_tensor.specs.Link.{links, links_before}
use Rattle.route_tensor.specs.Neighbour.{hop_to, neighbour, link_to, link_from}
use Rattle.route_tensor.specs.declared.routes.Neighbour.{Neighbour}
use Rattle.route_tensor.specs.Routes.{about}
use Rattle.route_tensor.proofs.Links.{link_below}
use Rattle.route_tensor.proofs.Ends.{link_once}
use Rattle.route_tensor.proofs.Neighbours.{to_neighbour, from_neighbour, coord-neighbour}

-- a table that is made as far as d
pub record Filled {X : Type 0} (P : ℕ → X → Type 0) (d : ℕ) (xs : List X) : Type 0 where
  pub count : length xs ≡ d
  pub each : EachAt P xs

pub filled_more : {X : Type 0} (P : ℕ → X → Type 0) (d : ℕ) (xs : List X) (x : X) → Filled P d xs → P d x → Filled P (d + 1) (xs ++ x ∷ [])
filled_more P d xs x f p = record {
  count = length_push xs x ∙ ap (λ n. n + 1) f.count;
  each = each_push P xs x f.each (subst (λ n. P n x) (sym f.count) p);
}

-- a neighbour's hop and rank tell its number
same_neighbour : (dims : List ℕ) (r i j : ℕ) → IsGrid dims → i < sum dims → j < sum dims → hop_to dims i ≡ hop_to dims j → neighbour dims r i ≡ neighbour dims r j → i ≡ j
same_neighbour dims r i j g p q h n =
    sym (coord-neighbour dims r i g p)
    ∙ ap (λ k. links_before dims k + coord dims (neighbour dims r i) k) h
    ∙ ap (λ x. links_before dims (hop_to dims j) + coord dims x (hop_to dims j)) n
    ∙ coord-neighbour dims r j g q

-- the links to and from different neighbours have different numbers
to_apart : (dims : List ℕ) (r i j : ℕ) → IsGrid dims → r < ranks dims → i < sum dims → j < sum dims → i ≢ j → link_to dims r i ≢ link_to dims r j
to_apart dims r i j g a p q ne e =
    let o = link_once dims _ _ _ _ _ _ g (to_neighbour dims r i g a p) (to_neighbour dims r j g a q) e in
    ne (same_neighbour dims r i j g p q o.0 o.2)

from_apart : (dims : List ℕ) (r i j : ℕ) → IsGrid dims → r < ranks dims → i < sum dims → j < sum dims → i ≢ j → link_from dims r i ≢ link_from dims r j
from_apart dims r i j g a p q ne e =
    let o = link_once dims _ _ _ _ _ _ g (from_neighbour dims r i g a p) (from_neighbour dims r j g a q) e in
    ne (same_neighbour dims r i j g p q o.0 o.1)

cross_apart : (dims : List ℕ) (r i j : ℕ) → IsGrid dims → r < ranks dims → i < sum dims → j < sum dims → i ≢ j → link_to dims r i ≢ link_from dims r j
cross_apart dims r i j g a p q ne e =
    let o = link_once dims _ _ _ _ _ _ g (to_neighbour dims r i g a p) (from_neighbour dims r j g a q) e in
    ne (same_neighbour dims r i j g p q o.0 (o.2 ∙ o.1))

-- two writes of one value
at_first : (xs : List ℕ) (a b x d : ℕ) → a < length xs → get_or (set (set xs a x) b x) a d ≡ x
at_first xs a b x d l =
    elim (cases_eq a b) as (λ _. get_or (set (set xs a x) b x) a d ≡ x) [
      | inl e ↦ subst (λ c. get_or (set (set xs a x) b x) c d ≡ x) (sym e) (get_or-set_same (set xs a x) b x d (omega (arith, length-set xs a x, l, e)))
      | inr ne ↦ get_or-set_other (set xs a x) b a x d ne ∙ get_or-set_same xs a x d l
    ]

at_second : (xs : List ℕ) (a b x d : ℕ) → b < length xs → get_or (set (set xs a x) b x) b d ≡ x
at_second xs a b x d l = get_or-set_same (set xs a x) b x d (omega (arith, length-set xs a x, l))

at_neither : (xs : List ℕ) (a b c x d : ℕ) → c ≢ a → c ≢ b → get_or (set (set xs a x) b x) c d ≡ get_or xs c d
at_neither xs a b c x d p q = get_or-set_other (set xs a x) b c x d q ∙ get_or-set_other xs a c x d p

-- the numbers by link, as far as neighbour i
pub record Numbered (dims : List ℕ) (r i : ℕ) (numbers : List ℕ) : Type 0 where
  pub count : length numbers ≡ links dims
  pub to : (j d : ℕ) → j < i → get_or numbers (link_to dims r j) d ≡ j
  pub from : (j d : ℕ) → j < i → get_or numbers (link_from dims r j) d ≡ j

pub numbered_more : (dims : List ℕ) (r i : ℕ) (numbers : List ℕ) → IsGrid dims → r < ranks dims → i < sum dims → Numbered dims r i numbers →
    Numbered dims r (i + 1) (set (set numbers (link_to dims r i) i) (link_from dims r i) i)
numbered_more dims r i numbers g a q n =
    let x = link_to dims r i in
    let y = link_from dims r i in
    let here : x < length numbers = subst (λ m. x < m) (sym n.count) (link_below dims _ _ _ g (to_neighbour dims r i g a q)) in
    let there : y < length numbers = subst (λ m. y < m) (sym n.count) (link_below dims _ _ _ g (from_neighbour dims r i g a q)) in
    record {
      count = length-set (set numbers x i) y i ∙ length-set numbers x i ∙ n.count;
      to = λ j d l. elim (cases_eq j i) as (λ _. get_or (set (set numbers x i) y i) (link_to dims r j) d ≡ j) [
        | inl e ↦ subst (λ k. get_or (set (set numbers x i) y i) (link_to dims r k) d ≡ k) (sym e) (at_first numbers x y i d here)
        | inr ne ↦
            let before : j < sum dims = omega (arith, l, q, ne) in
            at_neither numbers x y (link_to dims r j) i d (to_apart dims r j i g a before q ne) (cross_apart dims r j i g a before q ne) ∙ n.to j d (omega (arith, l, ne))
      ];
      from = λ j d l. elim (cases_eq j i) as (λ _. get_or (set (set numbers x i) y i) (link_from dims r j) d ≡ j) [
        | inl e ↦ subst (λ k. get_or (set (set numbers x i) y i) (link_from dims r k) d ≡ k) (sym e) (at_second numbers x y i d there)
        | inr ne ↦
            let before : j < sum dims = omega (arith, l, q, ne) in
            at_neither numbers x y (link_from dims r j) i d
            (λ e. cross_apart dims r i j g a q before (λ z. ne (sym z)) (sym e)) (from_apart dims r j i g a before q ne) ∙ n.from j d (omega (arith, l, ne))
      ];
    }

-- what stands past the end of a table of neighbours
abbrev pub no_neighbour : Neighbour
no_neighbour = record { rank = 0; hop = 0; link_to = 0; link_from = 0; digit = 0; next = 0; high = 0; filler = 0 }

-- the same with what the table of the neighbours says
pub links_within : (dims : List ℕ) (r i : ℕ) (n : Neighbour) → IsGrid dims → r < ranks dims → i < sum dims → n ≡ about dims r i → (n.link_to < links dims) × (n.link_from < links dims)
links_within dims r i n g a q e = (
  subst (λ m. m < links dims) (sym (ap (λ x. x.link_to) e)) (link_below dims _ _ _ g (to_neighbour dims r i g a q)),
  subst (λ m. m < links dims) (sym (ap (λ x. x.link_from) e)) (link_below dims _ _ _ g (from_neighbour dims r i g a q)),
)

pub numbered_by : (dims : List ℕ) (r i : ℕ) (numbers : List ℕ) (n : Neighbour) → IsGrid dims → r < ranks dims → i < sum dims → n ≡ about dims r i → Numbered dims r i numbers →
    Numbered dims r (i + 1) (set (set numbers n.link_to i) n.link_from i)
numbered_by dims r i numbers n g a q e m =
    let P : Neighbour → Type 0 = λ x. Numbered dims r (i + 1) (set (set numbers x.link_to i) x.link_from i) in
    subst P (sym e) (numbered_more dims r i numbers g a q m)
