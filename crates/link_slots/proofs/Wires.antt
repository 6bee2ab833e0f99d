-- The links of a grid, as the bank wires them.
use Rattle.std.proofs.Common.{◌≡◌, ℕ, zero, suc, ◌+◌, ◌-◌, ◌*◌, ◌/◌, ◌%◌, ◌<◌, ◌≤◌, inl, inr, List, [], ◌∷◌, length, take, sum, refl, sym, ap, subst, ◌∙◌, arith}
use Rattle.std.proofs.lemmas.Bool.{cases_lt}
use Rattle.std.proofs.lemmas.Nat.{div-mul-add, mod-mul-add}
use Rattle.std.proofs.Math.Nat.{mod-le, div-le_self, mul_comm, mul-le-mul_right, suc-mul}
use mathlib.Core.Logic.{dite}
use native.Mathlib.Decide.{ℕ_discrete}
use Rattle.route_tensor.specs.Grid.{ranks, dim, coord, place, IsGrid}
use Rattle.route_tensor.specs.Link.{IsLink, links, links_before, link}
use Rattle.route_tensor.proofs.Coordinates.{quotient_below, same_rank, lone_below, coord-lone}
use Rattle.route_tensor.proofs.Links.{coord_in, with_coord_link, coord-with_coord, number_of, below_all, below_more}
use Rattle.route_tensor.specs.Ends.{hop_at, sender_at, reader_at}
use Rattle.route_tensor.proofs.Ends.{hop_at-link, sender_at-link, reader_at-link}
use Rattle.link_slots.specs.Wiring.{IsWired}
use Rattle.link_slots.specs.Shape.{Shape, IsShape, wiring}

-- a link by its number: its hop and its ends
pub record IsNumbered (dims : List ℕ) (l : ℕ) : Type 0 where
  pub hop : ℕ
  pub from : ℕ
  pub to : ℕ
  pub joins : IsLink dims hop from to
  pub number : link dims hop from to ≡ l

record OfHop (dims : List ℕ) (l : ℕ) : Type 0 where
  hop : ℕ
  first : 1 ≤ hop
  last : hop ≤ length dims
  low : ranks dims * links_before dims hop ≤ l
  high : l < ranks dims * sum (take hop dims)

find_hop : (dims : List ℕ) (l n h : ℕ) → l < links dims → h + n ≡ length dims → ranks dims * sum (take h dims) ≤ l → OfHop dims l
find_hop dims l zero h inside e low = let f = below_all (ranks dims) dims h l (omega arith) inside in absurd (omega arith)
find_hop dims l (suc n) h inside e low = elim (cases_lt l (ranks dims * sum (take (suc h) dims))) as (λ _. OfHop dims l) [
  | inl below ↦ record { hop = suc h; first = omega arith; last = omega arith; low = (let q : suc h - 1 ≡ h = omega arith in subst (λ z. ranks dims * sum (take z dims) ≤ l) (sym q) low); high = below }
  | inr above ↦ find_hop dims l n (suc h) inside (omega arith) above
]

pub numbered : (dims : List ℕ) (l : ℕ) → IsGrid dims → l < links dims → IsNumbered dims l
numbered dims l g inside =
    let f = find_hop dims l (length dims) 0 inside (omega arith) (nothing (ranks dims) l) in
    let h : ℕ = f.hop in
    let some : 0 < dim dims h = (let c = coord_in dims 0 h g.positive f.first f.last in omega arith) in
    let rest : ℕ = l - ranks dims * links_before dims h in
    let rest_below : rest < dim dims h * ranks dims = (let q = below_more (ranks dims) dims h l f.first f.last f.high in let r = f.low in let c = mul_comm (dim dims h) (ranks dims) in omega arith) in
    let a : ℕ = rest / dim dims h in
    let c : ℕ = rest % dim dims h in
    let a_below : a < ranks dims = quotient_below (dim dims h) rest (ranks dims) some rest_below in
    let c_below : c < dim dims h = omega arith in
    let x : ℕ = c * ranks (take (h - 1) dims) in
    let x_below : x < ranks dims = lone_below dims h c g.positive f.first f.last c_below in
    let b : ℕ = place dims (place dims a x h) a (h - 1) in
    let b_coord : coord dims b h ≡ c = coord-with_coord dims a x h g.positive f.first ∙ coord-lone dims h c g.positive f.first f.last c_below in
    record { hop = h; from = a; to = b; joins = with_coord_link dims a x h g f.first f.last a_below x_below; number = number_of dims h l a b some f.low refl b_coord }
  where
    nothing : (p l : ℕ) → p * sum (take 0 dims) ≤ l
    nothing p l = omega arith

module _ (dims : List ℕ) (g : IsGrid dims) (l : ℕ) (inside : l < links dims) where
  pub hop_is : hop_at dims l ≡ (numbered dims l g inside).hop
  hop_is = ap (hop_at dims) (sym (numbered dims l g inside).number) ∙ hop_at-link dims _ _ _ g (numbered dims l g inside).joins

  pub from_is : sender_at dims l ≡ (numbered dims l g inside).from
  from_is = ap (sender_at dims) (sym (numbered dims l g inside).number) ∙ sender_at-link dims _ _ _ g (numbered dims l g inside).joins

  pub to_is : reader_at dims l ≡ (numbered dims l g inside).to
  to_is = ap (reader_at dims) (sym (numbered dims l g inside).number) ∙ reader_at-link dims _ _ _ g (numbered dims l g inside).joins

  -- the link joins its ends
  pub ends_join : IsLink dims (hop_at dims l) (sender_at dims l) (reader_at dims l)
  ends_join = subst (λ (z : ℕ × ℕ × ℕ). IsLink dims z.0 z.1 z.2) (λ k. (sym hop_is k, sym from_is k, sym to_is k)) (numbered dims l g inside).joins

  pub ends_number : link dims (hop_at dims l) (sender_at dims l) (reader_at dims l) ≡ l
  ends_number = ap (λ (z : ℕ × ℕ × ℕ). link dims z.0 z.1 z.2) (λ k. (hop_is k, from_is k, to_is k)) ∙ (numbered dims l g inside).number

-- r*k + h is not r'*k + h' but where both parts are the same
same_parts : (k r q h m : ℕ) → h < k → m < k → r * k + h ≡ q * k + m → (r ≡ q) × (h ≡ m)
same_parts k r q h m a b e =
    (sym (div-mul-add r k h a) ∙ ap (λ z. z / k) e ∙ div-mul-add q k m b, sym (mod-mul-add r k h a) ∙ ap (λ z. z % k) e ∙ mod-mul-add q k m b)

-- a coordinate is at most its rank
coord_under : (dims : List ℕ) (r h : ℕ) → coord dims r h ≤ r
unfolding coord
coord_under [] r h = omega arith
coord_under (n ∷ ns) r zero = omega arith
coord_under (n ∷ ns) r (suc zero) = mod-le r n
coord_under (n ∷ ns) r (suc (suc h)) = let q = coord_under ns (r / n) (suc h) in let d = div-le_self r n in omega arith

-- a dimension is at most the number of ranks
dim_small : (dims : List ℕ) (h : ℕ) → IsGrid dims → 1 ≤ h → h ≤ length dims → dim dims h ≤ 64
dim_small dims h g first last = elim (cases_lt 64 (dim dims h)) as (λ _. dim dims h ≤ 64) [
  | inl over ↦ absurd (let c = coord-lone dims h 64 g.positive first last over in let p = lone_below dims h 64 g.positive first last over in
      let q = coord_under dims (64 * ranks (take (h - 1) dims)) h in let r = g.small in omega arith)
  | inr within ↦ within
]

-- links of one doorbell have one reader and one hop
pub same_bell : (s : Shape) → IsShape s → (l m : ℕ) → l < links s.dims → m < links s.dims → (wiring s).bell l ≡ (wiring s).bell m → (reader_at s.dims l ≡ reader_at s.dims m) × (hop_at s.dims l ≡ hop_at s.dims m)
same_bell s is l m a b e =
    let dims : List ℕ = s.dims in let k : ℕ = length dims in
    let i = ends_join dims is.grid l a in let j = ends_join dims is.grid m b in
    let x = i.first_hop in let y = j.first_hop in let p = i.last_hop in let q = j.last_hop in
    let t = same_parts k (reader_at dims l) (reader_at dims m) (hop_at dims l - 1) (hop_at dims m - 1) (omega arith) (omega arith) e in
    let z = t.1 in (t.0, omega arith)

-- a bit of a doorbell is one of 64
pub bit_small : (s : Shape) → IsShape s → (l : ℕ) → l < links s.dims → (wiring s).bit l < 64
bit_small s is l inside = let j = ends_join s.dims is.grid l inside in let c = coord_in s.dims (sender_at s.dims l) (hop_at s.dims l) is.grid.positive j.first_hop j.last_hop in
    let d = dim_small s.dims (hop_at s.dims l) is.grid j.first_hop j.last_hop in omega arith

-- a hop is one of three
pub hop_small : (s : Shape) → IsShape s → (l : ℕ) → l < links s.dims → (1 ≤ hop_at s.dims l) × (hop_at s.dims l ≤ 3)
hop_small s is l inside = let j = ends_join s.dims is.grid l inside in let f = is.grid.few in let a = j.first_hop in let b = j.last_hop in (a, omega arith)

pub wired : (s : Shape) → IsShape s → IsWired (wiring s)
wired s is =
    let dims : List ℕ = s.dims in let g = is.grid in let k : ℕ = length dims in
    let joins : (l : ℕ) → l < links dims → IsLink dims (hop_at dims l) (sender_at dims l) (reader_at dims l) = ends_join dims g in
    let low : (l : ℕ) → l < links dims → hop_at dims l - 1 < k = λ l h. (let j = joins l h in let a = j.first_hop in let b = j.last_hop in omega arith) in
    let parts : (l m : ℕ) → l < links dims → m < links dims → (wiring s).bell l ≡ (wiring s).bell m → (reader_at dims l ≡ reader_at dims m) × (hop_at dims l ≡ hop_at dims m) =
    λ l m a b e. (let t = same_parts k (reader_at dims l) (reader_at dims m) (hop_at dims l - 1) (hop_at dims m - 1) (low l a) (low m b) e in
    let x = (joins l a).first_hop in let y = (joins m b).first_hop in let z = t.1 in (t.0, omega arith)) in
    record {
      some_slots = is.some;
      few_slots = (let f = is.few in omega arith);
      rung = λ l h. (let j = joins l h in let r = j.reader in let f = low l h in
          let t : suc (reader_at dims l) * k ≤ ranks dims * k = mul-le-mul_right k r in let u = suc-mul (reader_at dims l) k in
          let x : ℕ = reader_at dims l * k in let y : ℕ = ranks dims * k in let z : ℕ = suc (reader_at dims l) * k in
          let t' : z ≤ y = t in let u' : z ≡ x + k = u in let goal : x + (hop_at dims l - 1) < y = omega arith in goal);
      bit_fits = λ l h. (let j = joins l h in
          let hop : (reader_at dims l * k + (hop_at dims l - 1)) % k + 1 ≡ hop_at dims l = (let q = mod-mul-add (reader_at dims l) k (hop_at dims l - 1) (low l h) in let a = j.first_hop in omega arith) in
          subst (λ z. coord dims (sender_at dims l) (hop_at dims l) < dim dims z) (sym hop) (coord_in dims (sender_at dims l) (hop_at dims l) g.positive j.first_hop j.last_hop));
      one_reader = λ l m a b e. (parts l m a b e).0;
      one_bit = λ l m a b e f.
          let t = parts l m a b e in let j = joins l a in let i = joins m b in
          let alike : (c : ℕ) → coord dims (sender_at dims l) c ≡ coord dims (sender_at dims m) c =
          λ c. dite (ℕ_discrete c (hop_at dims l))
          (λ here. ap (coord dims (sender_at dims l)) here ∙ f ∙ ap (coord dims (sender_at dims m)) (sym t.1 ∙ sym here))
          (λ ne. j.agree c ne ∙ ap (λ z. coord dims z c) t.0 ∙ sym (i.agree c (λ q. ne (q ∙ sym t.1)))) in
          let senders : sender_at dims l ≡ sender_at dims m = same_rank dims (sender_at dims l) (sender_at dims m) g.positive j.sender i.sender alike in
          sym (ends_number dims g l a) ∙ ap (λ (z : ℕ × ℕ × ℕ). link dims z.0 z.1 z.2) (λ q. (t.1 q, senders q, t.0 q)) ∙ ends_number dims g m b;
    }

-- a rank sends on at most one link of a doorbell
pub one_sender : (s : Shape) → IsShape s → (l m : ℕ) → l < links s.dims → m < links s.dims → (wiring s).bell l ≡ (wiring s).bell m → sender_at s.dims l ≡ sender_at s.dims m → l ≡ m
one_sender s is l m a b bell from =
    (wired s is).one_bit l m a b bell (ap (λ (z : ℕ × ℕ). coord s.dims z.0 z.1) (λ k. (from k, (same_bell s is l m a b bell).1 k)))
