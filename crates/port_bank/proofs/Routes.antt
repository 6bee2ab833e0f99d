-- The ends of the links of a route, and that each number of a link is that of the link between its
-- ends.
use Rattle.std.proofs.Common.{◌≡◌, ℕ, suc, ◌+◌, ◌-◌, ◌*◌, ◌/◌, ◌%◌, ◌<◌, ◌≤◌, List, [], ◌∷◌, length, take, get_or, sum, sym, ap, subst, ◌∙◌, inl, inr, arith, mul-add}
use Rattle.std.proofs.lemmas.Bool.{cases_lt}
use Rattle.std.proofs.lemmas.List.Sums.{sum_by-cons}
use Rattle.std.proofs.lemmas.List.Elements.{All-get_or}
use Rattle.std.proofs.lemmas.Nat.{div_below, mod_below, div-add-mod'}
use Rattle.route_tensor.specs.Grid.{ranks, coord, place, IsGrid}
use Rattle.route_tensor.specs.Link.{IsLink, link, links}
use Rattle.route_tensor.specs.Ends.{hop_at, sender_at, with_coord, reader_at}
use Rattle.route_tensor.proofs.Links.{link_below}
use Rattle.route_tensor.proofs.Places.{place_link}
use Rattle.route_tensor.proofs.Ends.{hop_at_is, sender_at_is, reader_at_is, hop_at-link, sender_at-link, reader_at-link, coord-with_coord_same, coord-with_coord_other, with_coord_below}
use Rattle.port_bank.specs.Flow.{hop_link}

pub hop-on_route : (dims : List ℕ) (s d h : ℕ) → IsGrid dims → s < ranks dims → d < ranks dims → 1 ≤ h → h ≤ length dims → hop_at dims (hop_link dims s d h) ≡ h
hop-on_route dims s d h g a b first last = hop_at-link dims h _ _ g (place_link dims s d h g a b first last)

pub sender-on_route : (dims : List ℕ) (s d h : ℕ) → IsGrid dims → s < ranks dims → d < ranks dims → 1 ≤ h → h ≤ length dims → sender_at dims (hop_link dims s d h) ≡ place dims s d (h - 1)
sender-on_route dims s d h g a b first last = sender_at-link dims h _ _ g (place_link dims s d h g a b first last)

pub reader-on_route : (dims : List ℕ) (s d h : ℕ) → IsGrid dims → s < ranks dims → d < ranks dims → 1 ≤ h → h ≤ length dims → reader_at dims (hop_link dims s d h) ≡ place dims s d h
reader-on_route dims s d h g a b first last = reader_at-link dims h _ _ g (place_link dims s d h g a b first last)

pub link-on_route : (dims : List ℕ) (s d h : ℕ) → IsGrid dims → s < ranks dims → d < ranks dims → 1 ≤ h → h ≤ length dims → hop_link dims s d h < links dims
link-on_route dims s d h g a b first last = link_below dims h _ _ g (place_link dims s d h g a b first last)

sum_first : (n : ℕ) (ns : List ℕ) → sum (n ∷ ns) ≡ n + sum ns
sum_first n ns = sum_by-cons (λ x. x) n ns

-- The links of hop h + 1 lie here among all links.
record Found (p : ℕ) (ns : List ℕ) (l h : ℕ) : Type 0 where
  pub last : h < length ns
  pub from : p * sum (take h ns) ≤ l
  pub below : l < p * sum (take h ns) + p * get_or ns h 0

-- each number is of some hop
found : (p : ℕ) (ns : List ℕ) (l : ℕ) → l < p * sum ns → (h : ℕ) × Found p ns l h
found p [] l k = absurd (omega arith)
found p (n ∷ ns) l k = elim (cases_lt l (p * n)) [
  | inl here ↦ (0, record { last = omega arith; from = omega arith; below = omega arith })
  | inr past ↦
      let whole : p * sum (n ∷ ns) ≡ p * n + p * sum ns = ap (λ m. p * m) (sum_first n ns) ∙ mul-add p n (sum ns) in
      let r = found p ns (l - p * n) (omega (arith, k, whole)) in
      let lower : p * sum (take (suc r.0) (n ∷ ns)) ≡ p * n + p * sum (take r.0 ns) = ap (λ m. p * m) (sum_first n (take r.0 ns)) ∙ mul-add p n (sum (take r.0 ns)) in
      let last : r.0 < length ns = r.1.last in
      let from : p * sum (take r.0 ns) ≤ l - p * n = r.1.from in
      let below : l - p * n < p * sum (take r.0 ns) + p * get_or ns r.0 0 = r.1.below in
      (suc r.0, record { last = omega arith; from = omega arith; below = omega arith })
]

-- The ends of a link and its number.
pub record IsNumber (dims : List ℕ) (l h a b : ℕ) : Type 0 where
  pub is_link : IsLink dims h a b
  pub number : link dims h a b ≡ l

between : (dims : List ℕ) (l h : ℕ) → IsGrid dims → h < length dims → ranks dims * sum (take h dims) ≤ l → l < ranks dims * sum (take h dims) + ranks dims * get_or dims h 0
    → IsNumber dims l (suc h) ((l - ranks dims * sum (take h dims)) / get_or dims h 0)
    (with_coord dims ((l - ranks dims * sum (take h dims)) / get_or dims h 0) (suc h) ((l - ranks dims * sum (take h dims)) % get_or dims h 0))
between dims l h g last from below =
    let n : ℕ = get_or dims h 0 in
    let w : ℕ = l - ranks dims * sum (take h dims) in
    let some : 0 < n = All-get_or (λ m. 0 < m) dims h 0 last g.positive in
    let rank : w / n < ranks dims = div_below w n (ranks dims) some (omega arith) in
    let digit : w % n < n = mod_below w n some in
    let back : suc h - 1 ≡ h = omega arith in
    let b : ℕ = with_coord dims (w / n) (suc h) (w % n) in
    let c : coord dims b (suc h) ≡ w % n = coord-with_coord_same dims (w / n) h (w % n) g.positive last digit in
    record {
      is_link = record {
        first_hop = omega arith;
        last_hop = omega arith;
        sender = rank;
        reader = with_coord_below dims (w / n) h (w % n) g.positive rank digit;
        agree = λ i ne. sym (coord-with_coord_other dims (w / n) h (w % n) i g.positive digit ne);
      };
      number = ap (λ m. ranks dims * sum (take m dims) + w / n * get_or dims m 0 + coord dims b (suc h)) back ∙ omega (arith, c, div-add-mod' w n);
    }

numbered_at : (dims : List ℕ) (l h : ℕ) → IsGrid dims → h < length dims → ranks dims * sum (take h dims) ≤ l → l < ranks dims * sum (take h dims) + ranks dims * get_or dims h 0
    → hop_at dims l ≡ suc h → IsNumber dims l (suc h) (sender_at dims l) (reader_at dims l)
numbered_at dims l h g last from below hop =
    let back : suc h - 1 ≡ h = omega arith in
    let a = sender_at_is dims l (suc h) (sym hop) ∙ ap (λ m. (l - ranks dims * sum (take m dims)) / get_or dims m 0) back in
    let b = reader_at_is dims l (suc h) (sym hop)
    ∙ ap (λ m. with_coord dims ((l - ranks dims * sum (take m dims)) / get_or dims m 0) (suc h) ((l - ranks dims * sum (take m dims)) % get_or dims m 0)) back in
    subst (λ r. IsNumber dims l (suc h) r (reader_at dims l)) (sym a) (subst (IsNumber dims l (suc h) _) (sym b) (between dims l h g last from below))

pub numbered : (dims : List ℕ) (l : ℕ) → IsGrid dims → l < links dims → IsNumber dims l (hop_at dims l) (sender_at dims l) (reader_at dims l)
numbered dims l g k =
    let f = found (ranks dims) dims l k in
    let back : suc f.0 - 1 ≡ f.0 = omega arith in
    let last : f.0 < length dims = f.1.last in
    let hop : hop_at dims l ≡ suc f.0 = hop_at_is dims (suc f.0) l (omega arith) (omega arith)
    (subst (λ m. ranks dims * sum (take m dims) ≤ l) (sym back) f.1.from) (subst (λ m. l < ranks dims * sum (take m dims) + ranks dims * get_or dims m 0) (sym back) f.1.below) in
    subst (λ h. IsNumber dims l h (sender_at dims l) (reader_at dims l)) (sym hop) (numbered_at dims l f.0 g f.1.last f.1.from f.1.below hop)
