-- A step on each link in turn: what was done on the links before, and that nothing was done on
-- those after.
use Rattle.std.proofs.Common.{◌≡◌, ◌≢◌, ℕ, ◌+◌, ◌<◌, ◌≤◌, List, length, get_or, set, refl, sym, subst, ◌∙◌, arith, inl, inr}
use Rattle.std.proofs.lemmas.Bool.{cases_eq, cases_lt}
use Rattle.std.proofs.lemmas.List.{length-set, get_or-set_same, get_or-set_other, get_or_default}

-- Step tells what a step did on one link: the link before and after it, and what the port shows
-- there before and after.
pub record Sweep {X Y : Type 0} (Step : X → X → Y → Y → Type 0) (d : X) (link : ℕ → ℕ) (upto : ℕ) (xs ys : List X) (before after : ℕ → Y) : Type 0 where
  pub count : length ys ≡ length xs
  pub done : (k : ℕ) → k < upto → k < length xs → Step (get_or xs k d) (get_or ys k d) (before (link k)) (after (link k))
  pub rest : (k : ℕ) → upto ≤ k → get_or ys k d ≡ get_or xs k d
  pub shown : (k : ℕ) → upto ≤ k → k < length xs → after (link k) ≡ before (link k)

pub sweep_start : {X Y : Type 0} (Step : X → X → Y → Y → Type 0) (d : X) (link : ℕ → ℕ) (xs : List X) (before : ℕ → Y) → Sweep Step d link 0 xs xs before before
sweep_start Step d link xs before = record { count = refl; done = λ k h w. absurd (omega arith); rest = λ k h. refl; shown = λ k h w. refl }

-- what a step on link i leaves, where it changed nothing that the port shows of the others
pub sweep_more : {X Y : Type 0} (Step : X → X → Y → Y → Type 0) (d : X) (link : ℕ → ℕ) (i : ℕ) (xs ys : List X) (before mid after : ℕ → Y) (x y : X) → i < length xs
    → Sweep Step d link i xs ys before mid → x ≡ get_or ys i x → Step x y (mid (link i)) (after (link i)) → ((k : ℕ) → k < length xs → k ≢ i → after (link k) ≡ mid (link k))
    → Sweep Step d link (i + 1) xs (set ys i y) before after
sweep_more {X} {Y} Step d link i xs ys before mid after x y w s here step others = record {
  count = length-set ys i y ∙ s.count;
  done = λ k h v. elim (cases_eq k i) [
    | inl e ↦ subst (λ j. Step (get_or xs j d) (get_or (set ys i y) j d) (before (link j)) (after (link j))) (sym e) at_i
    | inr ne ↦
        subst (λ z. Step (get_or xs k d) z (before (link k)) (after (link k))) (sym (get_or-set_other ys i k y d ne))
        (subst (λ z. Step (get_or xs k d) (get_or ys k d) (before (link k)) z) (sym (others k v ne)) (s.done k (omega arith) v))
  ];
  rest = λ k h. get_or-set_other ys i k y d (omega arith) ∙ s.rest k (omega arith);
  shown = λ k h v. others k v (omega arith) ∙ s.shown k (omega arith) v;
} where
  at_i : Step (get_or xs i d) (get_or (set ys i y) i d) (before (link i)) (after (link i))
  at_i =
      subst (λ z. Step (get_or xs i d) z (before (link i)) (after (link i))) (sym (get_or-set_same ys i y d (omega (arith, s.count))))
      (subst (λ z. Step z y (before (link i)) (after (link i))) (here ∙ (get_or_default ys i x d (omega (arith, s.count)) ∙ s.rest i (omega arith)))
      (subst (λ z. Step x y z (after (link i))) (s.shown i (omega arith) w) step))

-- what the steps so far, and none on the other links, did on each link
pub sweep_each : {X Y : Type 0} (Step : X → X → Y → Y → Type 0) (d : X) (link : ℕ → ℕ) (i : ℕ) (xs ys : List X) (before after : ℕ → Y) → ((x : X) (s : Y) → Step x x s s)
    → Sweep Step d link i xs ys before after → (k : ℕ) → k < length xs → Step (get_or xs k d) (get_or ys k d) (before (link k)) (after (link k))
sweep_each Step d link i xs ys before after none s k w = elim (cases_lt k i) [
  | inl h ↦ s.done k h w
  | inr h ↦
      subst (λ z. Step (get_or xs k d) z (before (link k)) (after (link k))) (sym (s.rest k h))
      (subst (λ z. Step (get_or xs k d) (get_or xs k d) (before (link k)) z) (sym (s.shown k h w)) (none (get_or xs k d) (before (link k))))
]

-- link i before its step
pub sweep_here : {X Y : Type 0} (Step : X → X → Y → Y → Type 0) (d : X) (link : ℕ → ℕ) (i : ℕ) (xs ys : List X) (before mid : ℕ → Y) (x : X) → i < length xs
    → Sweep Step d link i xs ys before mid → x ≡ get_or ys i x → x ≡ get_or xs i d
sweep_here Step d link i xs ys before mid x w s here = here ∙ (get_or_default ys i x d (omega (arith, s.count)) ∙ s.rest i (omega arith))
