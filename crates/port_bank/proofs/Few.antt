-- How many parcels so many entries travel in.
use Rattle.std.proofs.Common.{◌≡◌, ℕ, zero, suc, ◌+◌, ◌*◌, ◌/◌, ◌<◌, ◌≤◌, Bool, true, false, cond, List, [], ◌∷◌, length, refl, arith}
use Rattle.std.specs.List.{sum_by}
use Rattle.std.proofs.Math.Nat.{suc-mul, le-div_iff_mul-le}
use Rattle.std.proofs.lemmas.List.Elements.{All-head, All-tail}
use Rattle.std.proofs.lemmas.List.Sums.{sum_by-cons}
use Rattle.item_buffer.specs.Contents.{Shipped}
use Rattle.port_bank.specs.Logs.{segment}
use Rattle.port_bank.specs.Shapes.{IsFilled, IsConveyorShape, TravelInFew}

-- How many entries some parcels hold.
abbrev total : List Shipped → ℕ
total ps = sum_by (λ p. length p.entries) ps

-- All but one of some parcels are full.
abbrev Full : ℕ → List Shipped → Type 0
Full cap ps = length ps * cap ≤ total ps + cap

full_none : (cap : ℕ) → Full cap []
full_none cap = omega arith

-- one more parcel, which is full, or the only one
full_more : (cap : ℕ) (p : Shipped) (ps : List Shipped) → length p.entries ≡ cap → Full cap ps → Full cap (p ∷ ps)
full_more cap p ps full rest = omega (arith, full, rest, sum_by-cons (λ (q : Shipped). length q.entries) p ps, suc-mul (length ps) cap)

full_one : (cap : ℕ) (p : Shipped) → Full cap (p ∷ [])
full_one cap p = omega arith

first_full : (cap : ℕ) (p : Shipped) (ps : List Shipped) (b : Bool) → p.last ≡ b → (p.last ≡ false → IsFilled false cap p) → Full cap (segment 0 ps) → Full cap (p ∷ cond b [] (segment 0 ps))
first_full cap p ps true is filled rest = full_one cap p
first_full cap p ps false is filled rest = full_more cap p (segment 0 ps) (filled is) rest

-- so are those of each segment
pub segment_full : (cap e : ℕ) (log : List Shipped) → IsConveyorShape false cap log → Full cap (segment e log)
segment_full cap e [] shape = full_none cap
segment_full cap zero (p ∷ ps) shape =
    first_full cap p ps p.last refl (All-head (λ q. q.last ≡ false → IsFilled false cap q) p ps shape) (segment_full cap zero ps (All-tail (λ q. q.last ≡ false → IsFilled false cap q) p ps shape))
segment_full cap (suc e) (p ∷ ps) shape =
    let rest = All-tail (λ q. q.last ≡ false → IsFilled false cap q) p ps shape in
    elim p.last as (λ b. Full cap (cond b (segment e ps) (segment (suc e) ps))) [ true ↦ segment_full cap e ps rest | false ↦ segment_full cap (suc e) ps rest ]

pub travel_in_few : (cap : ℕ) (log : List Shipped) → 0 < cap → IsConveyorShape false cap log → TravelInFew cap log
travel_in_few cap log some shape = λ e. few (segment e log) (segment_full cap e log shape) where
  few : (ps : List Shipped) → Full cap ps → length ps ≤ total ps / cap + 1
  few [] full = omega arith
  few (p ∷ ps) full =
      let rest : length ps * cap ≤ total (p ∷ ps) = omega (arith, full, suc-mul (length ps) cap) in
      let few' : length ps ≤ total (p ∷ ps) / cap = (le-div_iff_mul-le some).1 rest in
      omega (arith, few')
