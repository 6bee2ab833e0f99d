-- Where no edge improves a weight, every weight is least: by induction on the walk.
use Rattle.std.proofs.Common.{ℕ, ℤ, pos, negsuc, true, not, All, get_or, ◌+◌, ◌≤◌, ◌≡◌, List, [], ◌∷◌, ◌++◌, Option, Some, None, arith, refl, sym, ap, ◌∙◌, subst}
use Rattle.std.specs.Prelude.{Contains, nat_abs, int_lt}
use Rattle.std.proofs.lemmas.Option.{same_Some}
use Rattle.std.proofs.lemmas.List.Sums.{AllPass-from_list_all, sum_by-cons, sum_by-append}
use Rattle.bale_items.specs.declared.triple.Triple.{Triple}
use Rattle.least_walks.specs.Walks.{IsWalk, no_negative, weight_of, AtMost, IsLeast}

-- the weight of an edge
abbrev pub cost : Triple → ℕ
cost e = nat_abs e.v

pub weight_cons : (e : Triple) (w : List Triple) → weight_of (e ∷ w) ≡ cost e + weight_of w
weight_cons e w = sum_by-cons cost e w

-- a value that isn't negative is the number that it has
pub plain_is : (v : ℤ) → not (int_lt v (pos 0)) ≡ true → v ≡ pos (nat_abs v)
plain_is (pos n) h = refl
plain_is (negsuc n) h = absurd (cc)

pub all_plain : (es : List Triple) → no_negative es ≡ true → All (λ (t : Triple). t.v ≡ pos (nat_abs t.v)) es
all_plain es h = λ k d l. plain_is (get_or es k d).v (AllPass-from_list_all (λ (t : Triple). not (int_lt t.v (pos 0))) es h k d l)

-- a walk and one more edge
pub walk_push : (es : List Triple) (s t : ℕ) (w : List Triple) (e : Triple) → IsWalk es s t w → Contains es e → e.i ≡ t → IsWalk es s e.j (w ++ e ∷ [])
walk_push es s t [] e h c i = (c, i ∙ sym h, refl)
walk_push es s t (d ∷ w) e h c i = (h.0, h.1, walk_push es d.j t w e h.2 c i)

pub weight_push : (w : List Triple) (e : Triple) → weight_of (w ++ e ∷ []) ≡ weight_of w + cost e
weight_push w e =
    let one : weight_of (e ∷ []) ≡ cost e + weight_of [] = weight_cons e [] in
    let none : weight_of [] ≡ 0 = refl in
    let all : weight_of (w ++ e ∷ []) ≡ weight_of w + weight_of (e ∷ []) = sum_by-append cost w (e ∷ []) in
    omega arith

-- ---- At most

pub at_most_le : (o : Option ℕ) (m n : ℕ) → AtMost o m → m ≤ n → AtMost o n
at_most_le o m n h l = (h.0, h.1, let k : h.0 ≤ m = h.2 in omega arith)

-- no edge improves a weight
abbrev pub Relaxed : List Triple → (ℕ → Option ℕ) → Type 0
Relaxed es found = (e : Triple) → Contains es e → (m : ℕ) → found e.i ≡ Some m → AtMost (found e.j) (m + cost e)

pub relaxed_walk : (es : List Triple) (found : ℕ → Option ℕ) → Relaxed es found → (w : List Triple) (s t m : ℕ) → found s ≡ Some m → IsWalk es s t w → AtMost (found t) (m + weight_of w)
relaxed_walk es found h [] s t m at walk = (m, subst (λ v. found v ≡ Some m) walk at, (let z : weight_of [] ≡ 0 = refl in omega arith))
relaxed_walk es found h (e ∷ w) s t m at walk =
    let one : AtMost (found e.j) (m + cost e) = h e walk.0 m (subst (λ v. found v ≡ Some m) (sym walk.1) at) in
    let k : ℕ = one.0 in
    let low : k ≤ m + cost e = one.2 in
    let rest : AtMost (found t) (k + weight_of w) = relaxed_walk es found h w e.j t k one.1 walk.2 in
    at_most_le (found t) (k + weight_of w) (m + weight_of (e ∷ w)) rest (let sum : weight_of (e ∷ w) ≡ cost e + weight_of w = weight_cons e w in omega arith)

-- each weight is that of a walk
abbrev pub Walked : List Triple → ℕ → (ℕ → Option ℕ) → Type 0
Walked es s found = (v m : ℕ) → found v ≡ Some m → (w : List Triple) × IsWalk es s v w × (weight_of w ≡ m)

-- where no edge improves a weight, each is least
pub least_at : (es : List Triple) (s : ℕ) (found : ℕ → Option ℕ) → Relaxed es found → Walked es s found → AtMost (found s) 0 → (v : ℕ) → IsLeast es s v (found v)
least_at es s found relaxed walked start v =
    record {
      walked = walked v;
      least = λ w walk.
          let zero : start.0 ≤ 0 = start.2 in
          at_most_le (found v) (start.0 + weight_of w) (weight_of w) (relaxed_walk es found relaxed w s v start.0 start.1 walk) (omega arith);
    }

-- ---- A least weight is one alone

pub least_once : (es : List Triple) (s t : ℕ) (a b : Option ℕ) → IsLeast es s t a → IsLeast es s t b → a ≡ b
least_once es s t None None h k = refl
least_once es s t None (Some n) h k = let w = k.walked n refl in let m = h.least w.0 w.1 in absurd (none_some m.0 m.1)
  where
    none_some : (m : ℕ) → None ≡ Some m → ⊥
    none_some m e = cc
least_once es s t (Some m) None h k = let w = h.walked m refl in let n = k.least w.0 w.1 in absurd (none_some n.0 n.1)
  where
    none_some : (m : ℕ) → None ≡ Some m → ⊥
    none_some m e = cc
least_once es s t (Some m) (Some n) h k =
    let w = h.walked m refl in
    let u = k.walked n refl in
    let a = h.least u.0 u.1 in
    let b = k.least w.0 w.1 in
    let am : m ≡ a.0 = same_Some m a.0 a.1 in
    let bn : n ≡ b.0 = same_Some n b.0 b.1 in
    let al : a.0 ≤ weight_of u.0 = a.2 in
    let bl : b.0 ≤ weight_of w.0 = b.2 in
    let wm : weight_of w.0 ≡ m = w.2 in
    let un : weight_of u.0 ≡ n = u.2 in
    let same : m ≡ n = omega arith in
    ap Some same
