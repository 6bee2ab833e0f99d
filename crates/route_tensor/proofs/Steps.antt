-- The next step of an entry, read from its tag.
use Rattle.std.proofs.Common.{ℕ, zero, suc, ◌≡◌, ◌+◌, ◌-◌, ◌*◌, ◌<◌, ◌≤◌, List, [], ◌∷◌, length, take, arith, refl, sym, ap, ◌∙◌, inl, inr}
use Rattle.std.proofs.lemmas.Bool.{cases_lt}
use Rattle.std.proofs.Math.Nat.{zero-mod, zero-div}
use Rattle.bale_items.specs.declared.item.Tag.{Tag}
use Rattle.route_tensor.specs.declared.routes.Onward.{Onward}
use Rattle.route_tensor.specs.declared.routes.Neighbour.{Neighbour}
use Rattle.route_tensor.specs.Grid.{ranks, dim, coord, place, IsGrid}
use Rattle.route_tensor.specs.Tag.{digit, with_digit, IsFair, rank_of, tag_rank, sender_of}
use Rattle.route_tensor.specs.Routes.{passed_on}
use Rattle.route_tensor.proofs.Coordinates.{Positive, place_by_stride, same_rank, place_below, ranks_some}
use Rattle.route_tensor.proofs.Places.{coord-place}
use Rattle.route_tensor.proofs.Tags.{coord-tag_rank, tag_rank_below}

-- a tag read as a rank, on the last hop
tag_rank_last : (dims : List ℕ) (tag : Tag) → IsGrid dims → IsFair dims (length dims) tag → tag_rank dims tag ≡ tag.d1 + dim dims 1 * tag.d2
unfolding rank_of digit
tag_rank_last [] tag g f = absurd (omega (arith, g.some))
tag_rank_last (n1 ∷ []) tag g f = let e : tag.d2 ≡ 0 = f.past 2 (omega arith) in ap (λ x. tag.d1 + n1 * x) (sym e)
tag_rank_last (n1 ∷ n2 ∷ []) tag g f = let e : tag.d2 + n2 * 0 ≡ tag.d2 = omega arith in ap (λ x. tag.d1 + n1 * x) e
tag_rank_last (n1 ∷ n2 ∷ n3 ∷ []) tag g f =
    let z : tag.d3 ≡ 0 = f.here in
    let a : tag.d3 + n3 * 0 ≡ 0 = omega (arith, z) in
    let b : tag.d2 + n2 * 0 ≡ tag.d2 = omega arith in
    ap (λ x. tag.d1 + n1 * (tag.d2 + n2 * x)) a ∙ ap (λ x. tag.d1 + n1 * x) b
tag_rank_last (n1 ∷ n2 ∷ n3 ∷ n4 ∷ ns) tag g f = absurd (omega (arith, g.few))

coord-rank_zero : (dims : List ℕ) (i : ℕ) → coord dims 0 i ≡ 0
unfolding coord
coord-rank_zero [] i = refl
coord-rank_zero (n ∷ ns) zero = refl
coord-rank_zero (n ∷ ns) (suc zero) = zero-mod n
coord-rank_zero (n ∷ ns) (suc (suc i)) = ap (λ r. coord ns r (suc i)) (zero-div n) ∙ coord-rank_zero ns (suc i)

-- a place with low coordinates of a rank that has no others
place_on_zero : (dims : List ℕ) (a t h : ℕ) → Positive dims → h ≤ length dims → t < ranks dims → ((i : ℕ) → h < i → coord dims t i ≡ 0) → place dims a t h ≡ place dims a 0 h + t
place_on_zero dims a t h p l q high =
    let w = ranks (take h dims) in
    let none : 0 < ranks dims = ranks_some dims p in
    let e : place dims 0 t h ≡ t = same_rank dims _ _ p (place_below dims 0 t h p none q) q (λ i.
    coord-place dims 0 t h i (λ c. c ≡ coord dims t i) p (λ low. refl) (λ more. coord-rank_zero dims i ∙ sym (high i more))) in
    omega (arith, e, place_by_stride dims 0 t h p l, place_by_stride dims a t h p l, place_by_stride dims a 0 h p l, zero-mod w)

last_digit : (dims : List ℕ) (tag : Tag) → IsGrid dims → IsFair dims (length dims) tag → (i : ℕ) → length dims ≤ i → digit tag i ≡ 0
last_digit dims tag g f i q =
    elim (cases_lt (length dims) i) as (λ _. digit tag i ≡ 0) [
      | inl more ↦ f.past i more
      | inr same ↦ let e : i ≡ length dims = omega arith in ap (digit tag) e ∙ f.here
    ]

-- the sender, on the last hop
pub last_sender : (dims : List ℕ) (tag : Tag) (a h : ℕ) → IsGrid dims → h ≡ length dims → IsFair dims (length dims) tag →
    place dims a 0 (h - 1) + tag.d1 + dim dims 1 * tag.d2 ≡ sender_of dims tag (length dims) a
last_sender dims tag a h g e f =
    let k = length dims in
    let t = tag_rank dims tag in
    let m : place dims a t (k - 1) ≡ place dims a 0 (k - 1) + t =
    place_on_zero dims a t (k - 1) g.positive (omega arith) (tag_rank_below dims k tag g f) (λ i q. coord-tag_rank dims k tag i g f ∙ last_digit dims tag g f i (omega (arith, q, g.some))) in
    rw e (omega (arith, m, tag_rank_last dims tag g f))

-- the next step of an entry, by hop
abbrev pub onward : ℕ → ℕ → ℕ → ℕ → Onward
onward out a b c = record { out = out; tag = record { d1 = a; d2 = b; d3 = c } }

pub passed_on_1 : (n : Neighbour) (tag : Tag) → n.hop ≡ 1 → onward (n.next + tag.d2) n.digit 0 tag.d3 ≡ passed_on n tag
unfolding digit with_digit
passed_on_1 n tag e = rw e refl

pub passed_on_2 : (n : Neighbour) (tag : Tag) → n.hop ≡ 2 → onward (n.next + tag.d3) tag.d1 n.digit 0 ≡ passed_on n tag
unfolding digit with_digit
passed_on_2 n tag e = rw e refl
