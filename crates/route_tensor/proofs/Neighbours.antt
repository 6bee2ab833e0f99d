-- A neighbour's number and its hop, read from each other.
use Rattle.std.proofs.Common.{ℕ, ◌≡◌, ◌+◌, ◌-◌, ◌<◌, ◌≤◌, List, length, sum, arith, sym, ap, ◌∙◌}
use Rattle.route_tensor.specs.Grid.{ranks, dim, coord, IsGrid}
use Rattle.route_tensor.specs.Link.{IsLink, links_before, link, links}
use Rattle.route_tensor.specs.Ends.{hop_at, sender_at, reader_at}
use Rattle.route_tensor.specs.Neighbour.{hop_to, neighbour, link_to, link_from, out_index, in_index}
use Rattle.route_tensor.proofs.Links.{coord_in, before_more, sum_take_le}
use Rattle.route_tensor.proofs.Ends.{hop_among_has, hop_among_in, with_coord_is_link, coord-with_coord_at, with_coord_reader, number_ends, hop_at-link, sender_at-link, reader_at-link}

-- what is known of a neighbour's number
pub record HasNumber (dims : List ℕ) (h i : ℕ) : Type 0 where
  pub first : 1 ≤ h
  pub last : h ≤ length dims
  pub from : links_before dims h ≤ i
  pub below : i < links_before dims h + dim dims h

pub hop_to_has : (dims : List ℕ) (i : ℕ) → i < sum dims → HasNumber dims (hop_to dims i) i
hop_to_has dims i q =
    let k = hop_among_has 1 dims i (omega (arith, q)) in
    record { first = k.first; last = k.last; from = omega (arith, k.from); below = omega (arith, k.below) }

pub hop_to_is : (dims : List ℕ) (h i : ℕ) → HasNumber dims h i → hop_to dims i ≡ h
hop_to_is dims h i k = hop_among_in 1 dims h i k.first k.last (omega (arith, k.from)) (omega (arith, k.below))

-- the number of the neighbour with coordinate c
pub number_made : (dims : List ℕ) (h c : ℕ) → 1 ≤ h → h ≤ length dims → c < dim dims h → HasNumber dims h (links_before dims h + c)
number_made dims h c p l q = record { first = p; last = l; from = omega arith; below = omega (arith, q) }

pub number_below : (dims : List ℕ) (h i : ℕ) → HasNumber dims h i → i < sum dims
number_below dims h i k = omega (arith, k.below, before_more dims h k.first k.last, sum_take_le dims h)

-- a neighbour is a link away
pub to_neighbour : (dims : List ℕ) (r i : ℕ) → IsGrid dims → r < ranks dims → i < sum dims → IsLink dims (hop_to dims i) r (neighbour dims r i)
to_neighbour dims r i g a q =
    let k = hop_to_has dims i q in
    with_coord_is_link dims r (hop_to dims i) _ g k.first k.last a (omega (arith, k.from, k.below))

pub turned : (dims : List ℕ) (h a b : ℕ) → IsLink dims h a b → IsLink dims h b a
turned dims h a b l = record { first_hop = l.first_hop; last_hop = l.last_hop; sender = l.reader; reader = l.sender; agree = λ i ne. sym (l.agree i ne) }

pub from_neighbour : (dims : List ℕ) (r i : ℕ) → IsGrid dims → r < ranks dims → i < sum dims → IsLink dims (hop_to dims i) (neighbour dims r i) r
from_neighbour dims r i g a q = turned dims _ _ _ (to_neighbour dims r i g a q)

-- its coordinate tells its number
pub coord-neighbour : (dims : List ℕ) (r i : ℕ) → IsGrid dims → i < sum dims → links_before dims (hop_to dims i) + coord dims (neighbour dims r i) (hop_to dims i) ≡ i
coord-neighbour dims r i g q =
    let k = hop_to_has dims i q in
    let e : coord dims (neighbour dims r i) (hop_to dims i) ≡ i - links_before dims (hop_to dims i) =
    coord-with_coord_at dims r (hop_to dims i) _ g k.first k.last (omega (arith, k.from, k.below)) in
    omega (arith, e, k.from)

-- the links to and from a neighbour give its number back
pub out_index-link_to : (dims : List ℕ) (r i : ℕ) → IsGrid dims → r < ranks dims → i < sum dims → out_index dims (link_to dims r i) ≡ i
out_index-link_to dims r i g a q =
    let l = to_neighbour dims r i g a q in
    rw (hop_at-link dims _ _ _ g l, reader_at-link dims _ _ _ g l) (coord-neighbour dims r i g q)

pub in_index-link_from : (dims : List ℕ) (r i : ℕ) → IsGrid dims → r < ranks dims → i < sum dims → in_index dims (link_from dims r i) ≡ i
in_index-link_from dims r i g a q =
    let l = from_neighbour dims r i g a q in
    rw (hop_at-link dims _ _ _ g l, sender_at-link dims _ _ _ g l) (coord-neighbour dims r i g q)

-- a link is one to, or from, a neighbour
pub neighbour_at : (dims : List ℕ) (h a b : ℕ) → IsGrid dims → IsLink dims h a b → neighbour dims a (links_before dims h + coord dims b h) ≡ b
neighbour_at dims h a b g l =
    let k = number_made dims h (coord dims b h) l.first_hop l.last_hop (coord_in dims b h g.positive l.first_hop l.last_hop) in
    let e : links_before dims h + coord dims b h - links_before dims h ≡ coord dims b h = omega arith in
    rw (hop_to_is dims h _ k, e) (with_coord_reader dims h a b g l)

pub link_to_at : (dims : List ℕ) (h a b : ℕ) → IsGrid dims → IsLink dims h a b → link_to dims a (links_before dims h + coord dims b h) ≡ link dims h a b
link_to_at dims h a b g l =
    let k = number_made dims h (coord dims b h) l.first_hop l.last_hop (coord_in dims b h g.positive l.first_hop l.last_hop) in
    let e = neighbour_at dims h a b g l in
    ap (λ j. link dims j a (neighbour dims a (links_before dims h + coord dims b h))) (hop_to_is dims h _ k) ∙ ap (link dims h a) e

pub link_from_at : (dims : List ℕ) (h a b : ℕ) → IsGrid dims → IsLink dims h a b → link_from dims b (links_before dims h + coord dims a h) ≡ link dims h a b
link_from_at dims h a b g l =
    let k = number_made dims h (coord dims a h) l.first_hop l.last_hop (coord_in dims a h g.positive l.first_hop l.last_hop) in
    let e = neighbour_at dims h b a g (turned dims h a b l) in
    ap (λ j. link dims j (neighbour dims b (links_before dims h + coord dims a h)) b) (hop_to_is dims h _ k) ∙ ap (λ x. link dims h x b) e

pub index_below : (dims : List ℕ) (h a b : ℕ) → IsGrid dims → IsLink dims h a b → links_before dims h + coord dims b h < sum dims
index_below dims h a b g l = number_below dims h _ (number_made dims h (coord dims b h) l.first_hop l.last_hop (coord_in dims b h g.positive l.first_hop l.last_hop))

-- by the number of the link
pub record StandsAt (dims : List ℕ) (r i l : ℕ) (made : ℕ → ℕ) : Type 0 where
  pub below : i < sum dims
  pub number : made i ≡ l

pub out_stands : (dims : List ℕ) (r l : ℕ) → IsGrid dims → l < links dims → sender_at dims l ≡ r → StandsAt dims r (out_index dims l) l (link_to dims r)
out_stands dims r l g q e =
    let n = number_ends dims l g q in
    record {
      below = index_below dims _ _ _ g n.link;
      number = ap (λ x. link_to dims x (out_index dims l)) (sym e) ∙ link_to_at dims _ _ _ g n.link ∙ n.number;
    }

pub in_stands : (dims : List ℕ) (r l : ℕ) → IsGrid dims → l < links dims → reader_at dims l ≡ r → StandsAt dims r (in_index dims l) l (link_from dims r)
in_stands dims r l g q e =
    let n = number_ends dims l g q in
    record {
      below = index_below dims _ _ _ g (turned dims _ _ _ n.link);
      number = ap (λ x. link_from dims x (in_index dims l)) (sym e) ∙ link_from_at dims _ _ _ g n.link ∙ n.number;
    }

-- the hop of a link, by the number of the neighbour at its other end
pub hop_to-out_index : (dims : List ℕ) (l : ℕ) → IsGrid dims → l < links dims → hop_to dims (out_index dims l) ≡ hop_at dims l
hop_to-out_index dims l g q =
    let k = (number_ends dims l g q).link in
    hop_to_is dims (hop_at dims l) _ (number_made dims (hop_at dims l) _ k.first_hop k.last_hop (coord_in dims (reader_at dims l) (hop_at dims l) g.positive k.first_hop k.last_hop))

pub hop_to-in_index : (dims : List ℕ) (l : ℕ) → IsGrid dims → l < links dims → hop_to dims (in_index dims l) ≡ hop_at dims l
hop_to-in_index dims l g q =
    let k = (number_ends dims l g q).link in
    hop_to_is dims (hop_at dims l) _ (number_made dims (hop_at dims l) _ k.first_hop k.last_hop (coord_in dims (sender_at dims l) (hop_at dims l) g.positive k.first_hop k.last_hop))
