-- Numbers of links: how many there are, and which belong to a hop.
use Rattle.std.proofs.Common.{ℕ, zero, suc, ◌≡◌, ◌+◌, ◌-◌, ◌*◌, ◌/◌, ◌%◌, ◌<◌, ◌≤◌, List, [], ◌∷◌, length, take, get_or, sum, arith, refl, sym, ap, subst, ◌∙◌, inl, inr, mul-add}
use Rattle.std.proofs.lemmas.List.Sums.{sum_by-cons}
use Rattle.std.proofs.lemmas.Bool.{cases_lt}
use Rattle.std.proofs.lemmas.List.{take_all}
use Rattle.std.proofs.lemmas.Nat.{mul-add-lt, div-add-mod'}
use Rattle.std.proofs.Math.Nat.{mul_comm, suc-mul, mul-suc, mul-le-mul_left}
use Rattle.route_tensor.specs.Grid.{ranks, dim, coord, place, IsGrid}
use Rattle.route_tensor.specs.Link.{IsLink, links_before, link, links}
use Rattle.route_tensor.proofs.Coordinates.{Positive, first-positive, rest-positive, ranks_some, coord_below, place_below, coord-place_low, coord-place_high}
use Rattle.route_tensor.proofs.Places.{coord-place}

pub sum-cons : (n : ℕ) (ns : List ℕ) → sum (n ∷ ns) ≡ n + sum ns
sum-cons n ns = sum_by-cons (λ x. x) n ns

sum_more : (dims : List ℕ) (h : ℕ) → h < length dims → sum (take (suc h) dims) ≡ sum (take h dims) + get_or dims h 0
sum_more [] h l = absurd (omega (arith, l))
sum_more (n ∷ ns) zero l = omega arith
sum_more (n ∷ ns) (suc h) l = omega (arith, sum_more ns h (omega (arith, l)), sum-cons n (take (suc h) ns), sum-cons n (take h ns))

pub sum_le_product : (a b : ℕ) → 0 < a → 0 < b → a + b ≤ a * b + 1
sum_le_product zero b p q = absurd (omega (arith, p))
sum_le_product (suc a) zero p q = absurd (omega (arith, q))
sum_le_product (suc a) (suc b) p q = omega (arith, suc-mul a (suc b), mul-suc a b)

-- the dimensions of a grid are small
sum_small_more : (dims : List ℕ) → Positive dims → sum dims + 1 ≤ ranks dims + length dims
unfolding ranks
sum_small_more [] p = omega arith
sum_small_more (n ∷ ns) p =
    let more = rest-positive n ns p in
    omega (arith, sum_small_more ns more, sum_le_product n (ranks ns) (first-positive n ns p) (ranks_some ns more), sum-cons n ns)

pub sum_small : (dims : List ℕ) → IsGrid dims → sum dims ≤ 66
sum_small dims g = omega (arith, sum_small_more dims g.positive, g.small, g.few)

-- one hop more
pub before_more : (dims : List ℕ) (h : ℕ) → 1 ≤ h → h ≤ length dims → sum (take h dims) ≡ links_before dims h + dim dims h
before_more dims zero p l = absurd (omega (arith, p))
before_more dims (suc h) p l = let e : suc h - 1 ≡ h = omega arith in rw e (sum_more dims h (omega arith))

pub sum_take_le : (dims : List ℕ) (h : ℕ) → sum (take h dims) ≤ sum dims
sum_take_le [] zero = omega arith
sum_take_le [] (suc h) = omega arith
sum_take_le (n ∷ ns) zero = omega arith
sum_take_le (n ∷ ns) (suc h) = omega (arith, sum_take_le ns h, sum-cons n (take h ns), sum-cons n ns)

-- a coordinate is below its dimension
pub coord_in : (dims : List ℕ) (r h : ℕ) → Positive dims → 1 ≤ h → h ≤ length dims → coord dims r h < dim dims h
coord_in dims r zero p a b = absurd (omega (arith, a))
coord_in dims r (suc h) p a b = let e : suc h - 1 ≡ h = omega arith in rw e (coord_below dims r h p (omega arith))

-- the links of a hop lie between those of the hops before and those of the hops after
pub link_within : (dims : List ℕ) (h a b : ℕ) → IsGrid dims → IsLink dims h a b → link dims h a b < ranks dims * sum (take h dims)
link_within dims h a b g l =
    let n = dim dims h in
    let c : a * n + coord dims b h < n * ranks dims = mul-add-lt a n (coord dims b h) (ranks dims) l.sender (coord_in dims b h g.positive l.first_hop l.last_hop) in
    let e : ranks dims * sum (take h dims) ≡ ranks dims * links_before dims h + ranks dims * n =
    ap (λ m. ranks dims * m) (before_more dims h l.first_hop l.last_hop) ∙ mul-add (ranks dims) (links_before dims h) n in
    omega (arith, c, e, mul_comm n (ranks dims))

pub link_below : (dims : List ℕ) (h a b : ℕ) → IsGrid dims → IsLink dims h a b → link dims h a b < links dims
link_below dims h a b g l = omega (arith, link_within dims h a b g l, mul-le-mul_left (ranks dims) (sum_take_le dims h))

-- a number below p for each coordinate up to hop h
pub below_more : (p : ℕ) (dims : List ℕ) (h x : ℕ) → 1 ≤ h → h ≤ length dims → x < p * sum (take h dims) → x < p * links_before dims h + p * dim dims h
below_more p dims h x f l q = omega (arith, q, ap (λ m. p * m) (before_more dims h f l), mul-add p (links_before dims h) (dim dims h))

-- the ranks that differ in coordinate h alone
pub with_coord_link : (dims : List ℕ) (r x h : ℕ) → IsGrid dims → 1 ≤ h → h ≤ length dims → r < ranks dims → x < ranks dims → IsLink dims h r (place dims (place dims r x h) r (h - 1))
with_coord_link dims r x h g first last a b =
    let p = g.positive in
    let moved = place dims r x h in
    let m : moved < ranks dims = place_below dims r x h p a b in
    record {
      first_hop = first;
      last_hop = last;
      sender = a;
      reader = place_below dims moved r (h - 1) p m a;
      agree = λ i ne. sym (coord-place dims moved r (h - 1) i (λ c. c ≡ coord dims r i) p
          (λ low. refl)
          (λ high. coord-place_high dims r x h i p (omega (arith, ne))));
    }

pub coord-with_coord : (dims : List ℕ) (r x h : ℕ) → Positive dims → 1 ≤ h → coord dims (place dims (place dims r x h) r (h - 1)) h ≡ coord dims x h
coord-with_coord dims r x h p first = coord-place_high dims (place dims r x h) r (h - 1) h p (omega arith) ∙ coord-place_low dims r x h h p (omega arith)

-- a link's number from its parts
pub number_of : (dims : List ℕ) (h number a b : ℕ) → 0 < dim dims h → ranks dims * links_before dims h ≤ number →
    a ≡ (number - ranks dims * links_before dims h) / dim dims h → coord dims b h ≡ (number - ranks dims * links_before dims h) % dim dims h → link dims h a b ≡ number
number_of dims h number a b some from e f =
    let rest = number - ranks dims * links_before dims h in
    let g : rest / dim dims h * dim dims h + rest % dim dims h ≡ rest = div-add-mod' rest (dim dims h) in
    rw (e, f) (omega (arith, g))

-- past the numbers of all hops but one there is another hop
pub one_hop_more : (p : ℕ) (dims : List ℕ) (h x : ℕ) → x < p * sum dims → p * sum (take h dims) ≤ x → h < length dims
one_hop_more p dims h x q r =
    elim (cases_lt h (length dims)) as (λ _. h < length dims) [
      | inl w ↦ w
      | inr w ↦ absurd (omega (arith, r, q, ap (λ ns. p * sum ns) (take_all h dims w)))
    ]

pub below_all : (p : ℕ) (dims : List ℕ) (h x : ℕ) → h ≡ length dims → x < p * sum dims → x < p * sum (take h dims)
below_all p dims h x e q = subst (λ m. x < p * sum m) (sym (take_all h dims (omega (arith, e)))) q
