-- Every walk has a walk with the same ends that meets no vertex twice and weighs at most as much:
-- cycles are cut.
use Rattle.std.proofs.Common.{ℕ, ◌+◌, ◌≤◌, ◌<◌, ◌≡◌, Bool, true, false, eqb, List, [], ◌∷◌, length, All, arith, inl, inr, refl, sym, subst}
use Rattle.std.specs.Prelude.{◌||◌}
use Rattle.std.specs.List.{list_any, IsDistinct, AllByRecursion}
use Rattle.std.proofs.lemmas.Bool.{cases_Bool, eqb-true, or_cases, false≢true}
use Rattle.std.proofs.lemmas.List.Elements.{All-contains}
use Rattle.std.proofs.lemmas.Map.Keys.{IsDistinct-cons, IsDistinct-tail, IsDistinct-from_apart}
use Rattle.std.proofs.lemmas.Map.Steps.{length-le_from_distinct_below}
use Rattle.bale_items.specs.declared.triple.Triple.{Triple}
use Rattle.least_walks.specs.Walks.{IsWalk, weight_of}
use Rattle.least_walks.proofs.Settled.{cost, weight_cons}

-- the vertices that a walk meets, up to its end t
abbrev pub stops : List Triple → ℕ → List ℕ
stops [] t = t ∷ []
stops (e ∷ w) t = e.i ∷ stops w t

pub record IsSimple (es : List Triple) (s t limit : ℕ) : Type 0 where
  pub walk : List Triple
  pub is : IsWalk es s t walk
  pub light : weight_of walk ≤ limit
  pub apart : IsDistinct eqb (stops walk t)

lighter : (es : List Triple) (s t m n : ℕ) → IsSimple es s t m → m ≤ n → IsSimple es s t n
lighter es s t m n h l = record { walk = h.walk; is = h.is; light = (let k : weight_of h.walk ≤ m = h.light in omega arith); apart = h.apart }

-- the part of a walk from a vertex that it meets
cut_from : (es : List Triple) (i j t : ℕ) (w : List Triple) → IsWalk es j t w → IsDistinct eqb (stops w t) → list_any (eqb i) (stops w t) ≡ true → IsSimple es i t (weight_of w)
cut_from es i j t [] walk apart met =
    record {
      walk = [];
      is = elim (or_cases (eqb i t) false met) [ inl here ↦ eqb-true i t here | inr no_more ↦ absurd (false≢true no_more) ];
      light = omega arith;
      apart = apart;
    }
cut_from es i j t (e ∷ w) walk apart met =
    elim (or_cases (eqb i e.i) (list_any (eqb i) (stops w t)) met) [
      | inl here ↦ record { walk = e ∷ w; is = (walk.0, sym (eqb-true i e.i here), walk.2); light = omega arith; apart = apart }
      | inr later ↦
          lighter es i t (weight_of w) (weight_of (e ∷ w)) (cut_from es i e.j t w walk.2 (IsDistinct-tail eqb e.i (stops w t) apart) later)
          (let sum : weight_of (e ∷ w) ≡ cost e + weight_of w = weight_cons e w in omega arith)
    ]

none_of : (i : ℕ) (xs : List ℕ) → list_any (eqb i) xs ≡ false → AllByRecursion (λ y. eqb i y ≡ false) xs
none_of i [] h = tt
none_of i (x ∷ xs) h = ((both (eqb i x) (list_any (eqb i) xs) h).0, none_of i xs (both (eqb i x) (list_any (eqb i) xs) h).1)
  where
    both : (a b : Bool) → (a || b) ≡ false → (a ≡ false) × (b ≡ false)
    both true b h = absurd (false≢true (sym h))
    both false b h = (refl, h)

pub simple_of : (es : List Triple) (s t : ℕ) (w : List Triple) → IsWalk es s t w → IsSimple es s t (weight_of w)
simple_of es s t [] walk =
    record { walk = []; is = walk; light = omega arith; apart = IsDistinct-from_apart eqb (t ∷ []) (λ i j d l m. absurd (omega arith)) }
simple_of es s t (e ∷ w) walk =
    let rest : IsSimple es e.j t (weight_of w) = simple_of es e.j t w walk.2 in
    let sum : weight_of (e ∷ w) ≡ cost e + weight_of w = weight_cons e w in
    let low : weight_of rest.walk ≤ weight_of w = rest.light in
    elim (cases_Bool (list_any (eqb s) (stops rest.walk t))) [
      | inl met ↦ lighter es s t (weight_of rest.walk) (weight_of (e ∷ w)) (cut_from es s e.j t rest.walk rest.is rest.apart met) (omega arith)
      | inr new' ↦
          record {
            walk = e ∷ rest.walk;
            is = (walk.0, walk.1, rest.is);
            light = (let one : weight_of (e ∷ rest.walk) ≡ cost e + weight_of rest.walk = weight_cons e rest.walk in omega arith);
            apart =
                IsDistinct-cons eqb e.i (stops rest.walk t)
                (none_of e.i (stops rest.walk t) (subst (λ v. list_any (eqb v) (stops rest.walk t) ≡ false) (sym walk.1) new'))
                rest.apart;
          }
    ]

stops_length : (w : List Triple) (t : ℕ) → length (stops w t) ≡ length w + 1
stops_length [] t = refl
stops_length (e ∷ w) t = (let rest : length (stops w t) ≡ length w + 1 = stops_length w t in omega arith)

stop_below : (es : List Triple) (n : ℕ) → All (λ (e : Triple). e.i < n) es → (w : List Triple) (s t : ℕ) → IsWalk es s t w → t < n → (q : ℕ) → list_any (eqb q) (stops w t) ≡ true → q < n
stop_below es n low [] s t walk lt q met =
    elim (or_cases (eqb q t) false met) [ inl here ↦ subst (λ k. k < n) (sym (eqb-true q t here)) lt | inr no_more ↦ absurd (false≢true no_more) ]
stop_below es n low (e ∷ w) s t walk lt q met =
    elim (or_cases (eqb q e.i) (list_any (eqb q) (stops w t)) met) [
      | inl here ↦ subst (λ k. k < n) (sym (eqb-true q e.i here)) (All-contains (λ (e : Triple). e.i < n) es e low walk.0)
      | inr later ↦ stop_below es n low w e.j t walk.2 lt q later
    ]

-- among n vertices a walk that meets none twice has fewer than n edges
pub simple_short : (es : List Triple) (n s t limit : ℕ) → All (λ (e : Triple). e.i < n) es → t < n → (h : IsSimple es s t limit) → length h.walk < n
simple_short es n s t limit low lt h =
    let few : length (stops h.walk t) ≤ n = length-le_from_distinct_below (stops h.walk t) n h.apart (stop_below es n low h.walk s t h.is lt) in
    let len : length (stops h.walk t) ≡ length h.walk + 1 = stops_length h.walk t in
    omega arith
