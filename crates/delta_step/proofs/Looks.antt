-- Facts of stages carry over to stages that look the same, and pending vertices have weights.
use Rattle.std.proofs.Common.{ℕ, ◌+◌, ◌≤◌, ◌<◌, ◌≡◌, Bool, true, not, ◌&&◌, List, [], ◌∷◌, Some, None, length, slice_get, All, arith, inl, inr, refl, sym, ap, ◌∙◌, subst, sum_by, zero, suc}
use Rattle.std.proofs.lemmas.Bool.{and_parts, cases_lt}
use Rattle.std.proofs.lemmas.Option.{same_Some}
use Rattle.std.proofs.lemmas.List.Elements.{All-contains, All-head, All-tail}
use Rattle.std.proofs.lemmas.List.Sums.{sum_by-cons}
use Rattle.bale_items.specs.declared.triple.Triple.{Triple}
use Rattle.least_walks.specs.Walks.{IsWalk, AtMost}
use Rattle.least_walks.specs.Vertices.{weight_in}
use Rattle.least_walks.proofs.Settled.{cost}
use Rattle.app_sssp.proofs.Rounds.{Stage}
use Rattle.delta_step.proofs.Buckets.{Offers, Owes, Within, Beyond, active, calmed_stage}

-- pending vertices have weights
abbrev pub Weighed : Stage → Type 0
Weighed x = (v : ℕ) → x.fresh v ≡ true → (m : ℕ) × (x.found v ≡ Some m)

pub offers_weighed : (es : List Triple) (sent : Triple → Bool) (x y : Stage) → Offers es sent x y → Weighed x → Weighed y
offers_weighed es sent x y round w v pending =
    elim (round.each v) [
      | inl same ↦ (let f = w v (sym same.1 ∙ pending) in (f.0, same.0 ∙ f.1))
      | inr new' ↦ (new'.1.before + cost new'.1.edge, new'.1.new)
    ]

pub calmed_weighed : (width b : ℕ) (x : Stage) → Weighed x → Weighed (calmed_stage width b x)
calmed_weighed width b x w v pending = w v (and_parts (x.fresh v) (not (weight_in width b (x.found v))) pending).0

pub look_weighed : (x y : Stage) → ((v : ℕ) → y.found v ≡ x.found v) → ((v : ℕ) → y.fresh v ≡ x.fresh v) → Weighed x → Weighed y
look_weighed x y f g w v pending = (let k = w v (sym (g v) ∙ pending) in (k.0, f v ∙ k.1))

pub owes_open : (es : List Triple) (s width : ℕ) (old new : ℕ → Bool) (x : Stage) → ((v : ℕ) → old v ≡ new v) → Owes es s width old x → Owes es s width new x
owes_open es s width old new x same h =
    record {
      walked = h.walked;
      start = h.start;
      owed = λ e has m found. elim (h.owed e has m found) [
        | inl relaxed ↦ inl relaxed
        | inr (inl pending) ↦ inr (inl pending)
        | inr (inr late) ↦ inr (inr (sym (same e.i) ∙ late.0, late.1))
      ];
    }

pub look_owes : (es : List Triple) (s width : ℕ) (open' : ℕ → Bool) (x y : Stage) → ((v : ℕ) → y.found v ≡ x.found v) → ((v : ℕ) → y.fresh v ≡ x.fresh v) → Owes es s width open' x → Owes es s width open' y
look_owes es s width open' x y f g h =
    record {
      walked = λ v m found. h.walked v m (sym (f v) ∙ found);
      start = subst (λ o. AtMost o 0) (sym (f s)) h.start;
      owed = λ e has m found. elim (h.owed e has m (sym (f e.i) ∙ found)) [
        | inl relaxed ↦ inl (subst (λ o. AtMost o (m + cost e)) (sym (f e.j)) relaxed)
        | inr (inl pending) ↦ inr (inl (g e.i ∙ pending))
        | inr (inr late) ↦ inr (inr late)
      ];
    }

pub within_open : (width b top : ℕ) (old new : ℕ → Bool) (x : Stage) → ((v : ℕ) → old v ≡ new v) → Within width b top old x → Within width b top new x
within_open width b top old new x same h =
    record {
      floor = h.floor;
      open_in = λ v m o found. h.open_in v m (same v ∙ o) found;
      below = h.below;
      open_found = λ v o. h.open_found v (same v ∙ o);
    }

pub look_beyond : (width f top : ℕ) (x y : Stage) → ((v : ℕ) → y.found v ≡ x.found v) → ((v : ℕ) → y.fresh v ≡ x.fresh v) → Beyond width f top x → Beyond width f top y
look_beyond width f top x y a b h =
    record {
      floor = λ v m pending found. h.floor v m (sym (b v) ∙ pending) (sym (a v) ∙ found);
      below = λ v m found. h.below v m (sym (a v) ∙ found);
    }

-- a walk ends inside the graph
pub walk_inside : (es : List Triple) (n : ℕ) → All (λ (e : Triple). e.j < n) es → (w : List Triple) (s t : ℕ) → IsWalk es s t w → s < n → t < n
walk_inside es n cols [] s t walk l = subst (λ k. k < n) walk l
walk_inside es n cols (e ∷ w) s t walk l = walk_inside es n cols w e.j t walk.2 (All-contains (λ (e : Triple). e.j < n) es e cols walk.0)

-- ---- Sums of votes

module _ {X : Type 0} (f : X → ℕ) where
  -- where each has a vote or more, one that has more shows in the sum
  pub sum_more : (ss : List X) (r : ℕ) (s : X) → All (λ x. 1 ≤ f x) ss → slice_get ss r ≡ Some s → length ss + f s ≤ sum_by f ss + 1
  sum_more [] r s h at = absurd (no_one s at)
    where
      no_one : (s : X) → None ≡ Some s → ⊥
      no_one s e = cc
  sum_more (x ∷ xs) zero s h at =
      let is : x ≡ s = same_Some x s at in
      let sum : sum_by f (x ∷ xs) ≡ f x + sum_by f xs = sum_by-cons f x xs in
      let rest : length xs ≤ sum_by f xs = sum_least xs (All-tail (λ x. 1 ≤ f x) x xs h) in
      let e : f x ≡ f s = ap f is in
      omega arith
    where
      sum_least : (xs : List X) → All (λ x. 1 ≤ f x) xs → length xs ≤ sum_by f xs
      sum_least [] h = omega arith
      sum_least (y ∷ ys) h =
          let sum : sum_by f (y ∷ ys) ≡ f y + sum_by f ys = sum_by-cons f y ys in
          let rest : length ys ≤ sum_by f ys = sum_least ys (All-tail (λ x. 1 ≤ f x) y ys h) in
          let one : 1 ≤ f y = All-head (λ x. 1 ≤ f x) y ys h in
          omega arith
  sum_more (x ∷ xs) (suc r) s h at =
      let sum : sum_by f (x ∷ xs) ≡ f x + sum_by f xs = sum_by-cons f x xs in
      let rest : length xs + f s ≤ sum_by f xs + 1 = sum_more xs r s (All-tail (λ x. 1 ≤ f x) x xs h) at in
      let one : 1 ≤ f x = All-head (λ x. 1 ≤ f x) x xs h in
      omega arith

  -- a sum that isn't 0 has a part that isn't
  pub sum_some : (ss : List X) → 0 < sum_by f ss → (r : ℕ) × (s : X) × (slice_get ss r ≡ Some s) × (0 < f s)
  sum_some [] h = absurd (let z : sum_by f [] ≡ 0 = refl in omega arith)
  sum_some (x ∷ xs) h =
      let sum : sum_by f (x ∷ xs) ≡ f x + sum_by f xs = sum_by-cons f x xs in
      elim (cases_lt 0 (f x)) [
        | inl l ↦ (0, x, refl, l)
        | inr m ↦ (let rest = sum_some xs (omega arith) in (suc rest.0, rest.1, rest.2, rest.3))
      ]

pub look_active : (width b : ℕ) (x y : Stage) → ((v : ℕ) → y.found v ≡ x.found v) → ((v : ℕ) → y.fresh v ≡ x.fresh v) → (u : ℕ) → active width b x u ≡ true → active width b y u ≡ true
look_active width b x y f g u h = ap (λ a. a && weight_in width b (y.found u)) (g u) ∙ ap (λ o. x.fresh u && weight_in width b o) (f u) ∙ h
