-- Which numbers of which links go through one slot.
use Rattle.std.proofs.Common.{◌≡◌, ℕ, suc, ◌+◌, ◌*◌, ◌%◌, ◌<◌, ◌≤◌, sym, arith}
use Rattle.std.proofs.Math.Nat.{mul-le-mul_left, mul-suc}
use mathlib.Core.Logic.{dite}
use native.Mathlib.Decide.{dec_le, ℕ_discrete}
use Rattle.atomic_table.proofs.Lists.{one_turn}
use Rattle.link_slots.specs.Wiring.{Wiring, slot_of}

below : (k l m a b : ℕ) → 0 < k → l < m → k * l + a % k ≡ k * m + b % k → ⊥
below k l m a b some_slots h e =
    let further : k * suc l ≤ k * m = mul-le-mul_left k h in
    let wider : k * suc l ≡ k * l + k = mul-suc k l in
    let x : ℕ = k * l in let y : ℕ = k * m in let z : ℕ = k * suc l in
    let h1 : z ≤ y = further in let h2 : z ≡ x + k = wider in let h3 : x + a % k ≡ y + b % k = e in omega arith

module _ (w : Wiring) (some_slots : 0 < w.slots) where
  pub same_link : (l m a b : ℕ) → slot_of w l a ≡ slot_of w m b → l ≡ m
  same_link l m a b e = dite (ℕ_discrete l m) (λ s. s) (λ n. dite (dec_le (suc l) m) (λ h. absurd (below w.slots l m a b some_slots h e)) (λ h. absurd (below w.slots m l b a some_slots (omega arith) (sym e))))

  -- of the K numbers from g on, no two go through one slot
  pub same_number : (l a b g : ℕ) → g ≤ a → a < g + w.slots → g ≤ b → b < g + w.slots → slot_of w l a ≡ slot_of w l b → a ≡ b
  same_number l a b g la ha lb hb e =
      let x : ℕ = w.slots * l in let e' : x + a % w.slots ≡ x + b % w.slots = e in
      let r : a % w.slots ≡ b % w.slots = omega arith in
      dite (dec_le a b) (λ h. one_turn a b w.slots h (omega arith) r) (λ h. sym (one_turn b a w.slots (omega arith) (omega arith) (sym r)))

  pub slot_inside : (l n : ℕ) → l < w.links → slot_of w l n < w.slots * w.links
  slot_inside l n h =
      let further : w.slots * suc l ≤ w.slots * w.links = mul-le-mul_left w.slots h in
      let wider : w.slots * suc l ≡ w.slots * l + w.slots = mul-suc w.slots l in
      let x : ℕ = w.slots * l in let y : ℕ = w.slots * w.links in let z : ℕ = w.slots * suc l in
      let h1 : z ≤ y = further in let h2 : z ≡ x + w.slots = wider in
      let goal : x + n % w.slots < y = omega arith in goal
