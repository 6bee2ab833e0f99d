-- The ends of a link, read from its number and back.
use Rattle.std.proofs.Common.{ℕ, zero, suc, ◌≡◌, ◌≢◌, ◌+◌, ◌-◌, ◌*◌, ◌/◌, ◌%◌, ◌<◌, ◌≤◌, List, [], ◌∷◌, length, take, get_or, sum, arith, refl, sym, ap, subst, ◌∙◌, inl, inr, mul-add, cond, ltb}
use Rattle.std.proofs.lemmas.Bool.{cases_lt, cases_eq, cond-true, cond-false, lt-ltb, le-ltb}
use Rattle.std.proofs.lemmas.Nat.{div-mul-add, mod-mul-add, div_below, mod_below}
use Rattle.std.proofs.Math.Nat.{mul-zero}
use Rattle.route_tensor.specs.Grid.{ranks, dim, coord, place, IsGrid}
use Rattle.route_tensor.specs.Link.{IsLink, links_before, link, links}
use Rattle.route_tensor.specs.Ends.{hop_among, hop_at, within_hop, sender_at, with_coord, reader_at}
use Rattle.route_tensor.proofs.Coordinates.{Positive, first-positive, rest-positive, low_digit, high_digits, digits_below, quotient_below, same_rank}
use Rattle.route_tensor.proofs.Links.{sum-cons, coord_in, link_within, below_more, with_coord_link, coord-with_coord, number_of}

-- the coordinates of a rank with one coordinate set
pub coord-with_coord_same : (dims : List ℕ) (r h c : ℕ) → Positive dims → h < length dims → c < get_or dims h 0 → coord dims (with_coord dims r (suc h) c) (suc h) ≡ c
unfolding with_coord coord
coord-with_coord_same [] r h c p l q = absurd (omega (arith, l))
coord-with_coord_same (n ∷ ns) r zero c p l q = low_digit n c _ q
coord-with_coord_same (n ∷ ns) r (suc h) c p l q =
    ap (λ x. coord ns x (suc h)) (high_digits n (r % n) _ (mod_below r n (first-positive n ns p)))
    ∙ coord-with_coord_same ns (r / n) h c (rest-positive n ns p) (omega (arith, l)) q

pub coord-with_coord_other : (dims : List ℕ) (r h c i : ℕ) → Positive dims → c < get_or dims h 0 → i ≢ suc h → coord dims (with_coord dims r (suc h) c) i ≡ coord dims r i
unfolding with_coord coord
coord-with_coord_other [] r h c i p q ne = refl
coord-with_coord_other (n ∷ ns) r h c zero p q ne = refl
coord-with_coord_other (n ∷ ns) r zero c (suc zero) p q ne = absurd (ne refl)
coord-with_coord_other (n ∷ ns) r zero c (suc (suc i)) p q ne = ap (λ x. coord ns x (suc i)) (high_digits n c _ q)
coord-with_coord_other (n ∷ ns) r (suc h) c (suc zero) p q ne = low_digit n (r % n) _ (mod_below r n (first-positive n ns p))
coord-with_coord_other (n ∷ ns) r (suc h) c (suc (suc i)) p q ne =
    ap (λ x. coord ns x (suc i)) (high_digits n (r % n) _ (mod_below r n (first-positive n ns p)))
    ∙ coord-with_coord_other ns (r / n) h c (suc i) (rest-positive n ns p) q (λ e. ne (ap suc e))

pub with_coord_below : (dims : List ℕ) (r h c : ℕ) → Positive dims → r < ranks dims → c < get_or dims h 0 → with_coord dims r (suc h) c < ranks dims
unfolding with_coord ranks
with_coord_below [] r h c p a q = a
with_coord_below (n ∷ ns) r zero c p a q = digits_below n c _ _ q (quotient_below n r _ (first-positive n ns p) a)
with_coord_below (n ∷ ns) r (suc h) c p a q =
    digits_below n (r % n) _ _ (mod_below r n (first-positive n ns p)) (with_coord_below ns (r / n) h c (rest-positive n ns p) (quotient_below n r _ (first-positive n ns p) a) q)

-- the other end of a link is its sender with one coordinate set
pub with_coord_reader : (dims : List ℕ) (h a b : ℕ) → IsGrid dims → IsLink dims h a b → with_coord dims a h (coord dims b h) ≡ b
with_coord_reader dims zero a b g l = absurd (omega (arith, l.first_hop))
with_coord_reader dims (suc h) a b g l =
    let e : suc h - 1 ≡ h = omega arith in
    let q : coord dims b (suc h) < get_or dims h 0 = subst (λ i. coord dims b (suc h) < get_or dims i 0) e (coord_in dims b (suc h) g.positive l.first_hop l.last_hop) in
    same_rank dims _ _ g.positive (with_coord_below dims a h _ g.positive l.sender q) l.reader (λ i.
    elim (cases_eq i (suc h)) as (λ _. coord dims (with_coord dims a (suc h) (coord dims b (suc h))) i ≡ coord dims b i) [
      | inl same ↦ subst (λ j. coord dims (with_coord dims a (suc h) (coord dims b (suc h))) j ≡ coord dims b j) (sym same) (coord-with_coord_same dims a h _ g.positive l.last_hop q)
      | inr other ↦ coord-with_coord_other dims a h _ i g.positive q other ∙ l.agree i other
    ])

-- the hop of a number
hop_among_is : (p : ℕ) (dims : List ℕ) (h x : ℕ) → h < length dims → p * sum (take h dims) ≤ x → x < p * sum (take h dims) + p * get_or dims h 0 → hop_among p dims x ≡ suc h
unfolding hop_among
hop_among_is p [] h x l a b = absurd (omega (arith, l))
hop_among_is p (n ∷ ns) zero x l a b =
    let q : x < p * n = omega (arith, b, mul-zero p) in
    cond-true _ _ _ (lt-ltb x (p * n) q)
hop_among_is p (n ∷ ns) (suc h) x l a b =
    let s : p * sum (n ∷ take h ns) ≡ p * n + p * sum (take h ns) = ap (λ m. p * m) (sum-cons n (take h ns)) ∙ mul-add p n (sum (take h ns)) in
    let q : p * n ≤ x = omega (arith, s, a) in
    let from : p * sum (take h ns) ≤ x - p * n = omega (arith, s, a) in
    let to : x - p * n < p * sum (take h ns) + p * get_or ns h 0 = omega (arith, s, a, b) in
    cond-false _ _ _ (le-ltb x (p * n) q) ∙ ap suc (hop_among_is p ns h (x - p * n) (omega (arith, l)) from to)

-- the hop that a number is among
pub hop_among_in : (p : ℕ) (dims : List ℕ) (h x : ℕ) → 1 ≤ h → h ≤ length dims → p * links_before dims h ≤ x → x < p * links_before dims h + p * dim dims h → hop_among p dims x ≡ h
hop_among_in p dims zero x f l a b = absurd (omega (arith, f))
hop_among_in p dims (suc h) x f l a b =
    let e : suc h - 1 ≡ h = omega arith in
    hop_among_is p dims h x l
    (subst (λ i. p * sum (take i dims) ≤ x) e a)
    (subst (λ i. x < p * sum (take i dims) + p * get_or dims i 0) e b)

pub hop_at_is : (dims : List ℕ) (h x : ℕ) → 1 ≤ h → h ≤ length dims → ranks dims * links_before dims h ≤ x → x < ranks dims * links_before dims h + ranks dims * dim dims h → hop_at dims x ≡ h
unfolding hop_at
hop_at_is dims h x f l a b = hop_among_in (ranks dims) dims h x f l a b

-- what the number of a link gives back
pub hop_at-link : (dims : List ℕ) (h a b : ℕ) → IsGrid dims → IsLink dims h a b → hop_at dims (link dims h a b) ≡ h
hop_at-link dims h a b g l =
    hop_at_is dims h (link dims h a b) l.first_hop l.last_hop (omega arith) (below_more (ranks dims) dims h (link dims h a b) l.first_hop l.last_hop (link_within dims h a b g l))

within-link : (dims : List ℕ) (h a b : ℕ) → IsGrid dims → IsLink dims h a b → within_hop dims (link dims h a b) ≡ a * dim dims h + coord dims b h
unfolding within_hop
within-link dims h a b g l = rw (hop_at-link dims h a b g l) (omega arith)

pub sender_at-link : (dims : List ℕ) (h a b : ℕ) → IsGrid dims → IsLink dims h a b → sender_at dims (link dims h a b) ≡ a
unfolding sender_at
sender_at-link dims h a b g l =
    rw (within-link dims h a b g l, hop_at-link dims h a b g l) (div-mul-add a (dim dims h) (coord dims b h) (coord_in dims b h g.positive l.first_hop l.last_hop))

pub reader_at-link : (dims : List ℕ) (h a b : ℕ) → IsGrid dims → IsLink dims h a b → reader_at dims (link dims h a b) ≡ b
unfolding reader_at
reader_at-link dims h a b g l =
    let c : (a * dim dims h + coord dims b h) % dim dims h ≡ coord dims b h = mod-mul-add a (dim dims h) (coord dims b h) (coord_in dims b h g.positive l.first_hop l.last_hop) in
    rw (sender_at-link dims h a b g l, within-link dims h a b g l, hop_at-link dims h a b g l, c) (with_coord_reader dims h a b g l)

-- the links have different numbers
pub link_once : (dims : List ℕ) (h a b i c d : ℕ) → IsGrid dims → IsLink dims h a b → IsLink dims i c d → link dims h a b ≡ link dims i c d → (h ≡ i) × (a ≡ c) × (b ≡ d)
link_once dims h a b i c d g l m e = (
  sym (hop_at-link dims h a b g l) ∙ ap (hop_at dims) e ∙ hop_at-link dims i c d g m,
  sym (sender_at-link dims h a b g l) ∙ ap (sender_at dims) e ∙ sender_at-link dims i c d g m,
  sym (reader_at-link dims h a b g l) ∙ ap (reader_at dims) e ∙ reader_at-link dims i c d g m,
)

-- a rank with one coordinate set, made of two places
pub with_coord_made : (dims : List ℕ) (r h c x : ℕ) → IsGrid dims → 1 ≤ h → h ≤ length dims → r < ranks dims → x < ranks dims → coord dims x h ≡ c → place dims (place dims r x h) r (h - 1) ≡ with_coord dims r h c
with_coord_made dims r h c x g first last a b e =
    let l = with_coord_link dims r x h g first last a b in
    let f : coord dims (place dims (place dims r x h) r (h - 1)) h ≡ c = coord-with_coord dims r x h g.positive first ∙ e in
    sym (with_coord_reader dims h r _ g l) ∙ ap (with_coord dims r h) f

-- the ends of a number whose hop is known
pub sender_at_is : (dims : List ℕ) (x h : ℕ) → h ≡ hop_at dims x → sender_at dims x ≡ (x - ranks dims * links_before dims h) / dim dims h
unfolding sender_at within_hop
sender_at_is dims x h e = rw (sym e) refl

pub reader_at_is : (dims : List ℕ) (x h : ℕ) → h ≡ hop_at dims x →
    reader_at dims x ≡ with_coord dims ((x - ranks dims * links_before dims h) / dim dims h) h ((x - ranks dims * links_before dims h) % dim dims h)
unfolding reader_at within_hop
reader_at_is dims x h e = rw (sender_at_is dims x h e, sym e) refl

-- a number below that of all links is among those of its hop
pub record HopHas (p : ℕ) (dims : List ℕ) (h x : ℕ) : Type 0 where
  pub first : 1 ≤ h
  pub last : h ≤ length dims
  pub from : p * links_before dims h ≤ x
  pub below : x < p * links_before dims h + p * dim dims h

hop_here : (p n : ℕ) (ns : List ℕ) (x : ℕ) → x < p * n → HopHas p (n ∷ ns) 1 x
hop_here p n ns x q = record { first = omega arith; last = omega arith; from = omega (arith, mul-zero p); below = omega (arith, mul-zero p, q) }

hop_later : (p n : ℕ) (ns : List ℕ) (h x : ℕ) → p * n ≤ x → HopHas p ns h (x - p * n) → HopHas p (n ∷ ns) (suc h) x
hop_later p n ns zero x q r = absurd (omega (arith, r.first))
hop_later p n ns (suc h) x q r =
    let e : suc h - 1 ≡ h = omega arith in
    let f : suc (suc h) - 1 ≡ suc h = omega arith in
    let s : p * sum (n ∷ take h ns) ≡ p * n + p * sum (take h ns) = ap (λ m. p * m) (sum-cons n (take h ns)) ∙ mul-add p n (sum (take h ns)) in
    let from : p * sum (take h ns) ≤ x - p * n = subst (λ i. p * sum (take i ns) ≤ x - p * n) e r.from in
    let below : x - p * n < p * sum (take h ns) + p * get_or ns h 0 = subst (λ i. x - p * n < p * sum (take i ns) + p * get_or ns i 0) e r.below in
    record {
      first = omega arith;
      last = omega (arith, r.last);
      from = rw f (omega (arith, s, from, q));
      below = rw f (omega (arith, s, below, q));
    }

pub hop_among_has : (p : ℕ) (dims : List ℕ) (x : ℕ) → x < p * sum dims → HopHas p dims (hop_among p dims x) x
unfolding hop_among
hop_among_has p [] x q = absurd (omega (arith, q, mul-zero p))
hop_among_has p (n ∷ ns) x q =
    elim (cases_lt x (p * n)) as (λ _. HopHas p (n ∷ ns) (cond (ltb x (p * n)) 1 (suc (hop_among p ns (x - p * n)))) x) [
      | inl w ↦ subst (λ h. HopHas p (n ∷ ns) h x) (sym (cond-true _ _ _ (lt-ltb x (p * n) w))) (hop_here p n ns x w)
      | inr w ↦ subst (λ h. HopHas p (n ∷ ns) h x) (sym (cond-false _ _ _ (le-ltb x (p * n) w)))
          (hop_later p n ns (hop_among p ns (x - p * n)) x w (hop_among_has p ns (x - p * n)
          (let s : p * sum (n ∷ ns) ≡ p * n + p * sum ns = ap (λ m. p * m) (sum-cons n ns) ∙ mul-add p n (sum ns) in omega (arith, s, q, w))))
    ]

pub hop_at_has : (dims : List ℕ) (x : ℕ) → x < links dims → HopHas (ranks dims) dims (hop_at dims x) x
unfolding hop_at
hop_at_has dims x q = hop_among_has (ranks dims) dims x q

-- a rank with one coordinate set is a link away
pub with_coord_is_link : (dims : List ℕ) (r h c : ℕ) → IsGrid dims → 1 ≤ h → h ≤ length dims → r < ranks dims → c < dim dims h → IsLink dims h r (with_coord dims r h c)
with_coord_is_link dims r zero c g p l a q = absurd (omega (arith, p))
with_coord_is_link dims r (suc h) c g p l a q =
    let e : suc h - 1 ≡ h = omega arith in
    let q' : c < get_or dims h 0 = subst (λ i. c < get_or dims i 0) e q in
    record {
      first_hop = p;
      last_hop = l;
      sender = a;
      reader = with_coord_below dims r h c g.positive a q';
      agree = λ i ne. sym (coord-with_coord_other dims r h c i g.positive q' ne);
    }

pub coord-with_coord_at : (dims : List ℕ) (r h c : ℕ) → IsGrid dims → 1 ≤ h → h ≤ length dims → c < dim dims h → coord dims (with_coord dims r h c) h ≡ c
coord-with_coord_at dims r zero c g p l q = absurd (omega (arith, p))
coord-with_coord_at dims r (suc h) c g p l q =
    let e : suc h - 1 ≡ h = omega arith in
    coord-with_coord_same dims r h c g.positive l (subst (λ i. c < get_or dims i 0) e q)

-- the number of the link with the ends of a number
abbrev pub link_number : List ℕ → ℕ → ℕ
link_number dims x = link dims (hop_at dims x) (sender_at dims x) (reader_at dims x)

-- the ends of a number are those of a link with that number
pub record IsLinkNumber (dims : List ℕ) (x : ℕ) : Type 0 where
  pub link : IsLink dims (hop_at dims x) (sender_at dims x) (reader_at dims x)
  pub number : link_number dims x ≡ x

pub number_ends : (dims : List ℕ) (x : ℕ) → IsGrid dims → x < links dims → IsLinkNumber dims x
unfolding sender_at reader_at within_hop
number_ends dims x g q =
    let h = hop_at dims x in
    let k = hop_at_has dims x q in
    let n = dim dims h in
    let some : 0 < n = g.positive (h - 1) 0 (omega (arith, k.first, k.last)) in
    let rest = x - ranks dims * links_before dims h in
    let below : rest < ranks dims * n = omega (arith, k.from, k.below) in
    let a : rest / n < ranks dims = div_below rest n (ranks dims) some below in
    let c : rest % n < n = mod_below rest n some in
    record {
      link = with_coord_is_link dims (rest / n) h (rest % n) g k.first k.last a c;
      number = number_of dims h x (rest / n) (with_coord dims (rest / n) h (rest % n)) some k.from refl (coord-with_coord_at dims (rest / n) h (rest % n) g k.first k.last c);
    }
