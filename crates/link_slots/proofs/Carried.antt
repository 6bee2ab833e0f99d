-- A seat lays down what it holds and takes it up in another order.
use Rattle.std.proofs.Common.{◌≡◌, ◌≢◌, ℕ, zero, suc, ◌<◌, ◌≤◌, ◌⊎◌, List, [], ◌∷◌, set, sym, refl, ap, ◌∙◌, subst, inl, inr, ⊎_elim, arith, length-set}
use mathlib.Core.Option.{Option, none, some, some-injective, some-ne-none}
use lib.ListN.{get_elem?}
use Rattle.atomic_table.specs.Table.{Act, keeps, takes, gives, chain, carried_after, homes_after, Valid}
use Rattle.atomic_table.proofs.Lists.{set_here, set_else}
use Rattle.link_slots.specs.HeldSlots.{NoTwice}
use Rattle.link_slots.proofs.Lookups.{at_inside, same_list, at_written}

module _ {T : Type 0} where
  -- all carried slots are away from home, each once
  pub record Away (hs : List (Option T)) (c : List (ℕ × T)) : Type 0 where
    pub once : NoTwice c
    pub out : (i : ℕ) (x : ℕ × T) → get_elem? c i ≡ some x → get_elem? hs x.0 ≡ some none

  -- brings the element number i, which is y, to the front
  abbrev pub fetch : List (ℕ × T) → ℕ → ℕ × T → Act T
  fetch [] i y = keeps
  fetch (x ∷ c) zero y = keeps
  fetch (x ∷ c) (suc i) y = chain gives (chain (fetch c i y) (chain gives (chain (takes x.0 x.1) (takes y.0 y.1))))

  -- the list without the element number i
  abbrev pub without : List (ℕ × T) → ℕ → List (ℕ × T)
  without [] i = []
  without (x ∷ c) zero = c
  without (x ∷ c) (suc i) = x ∷ without c i

  -- an element of the list without the number i stands in the list, at another number
  pub stands : (c : List (ℕ × T)) (i j : ℕ) (x : ℕ × T) → get_elem? (without c i) j ≡ some x → (k : ℕ) × (get_elem? c k ≡ some x) × (k ≢ i) × ((j < i) × (k ≡ j) ⊎ (i ≤ j) × (k ≡ suc j))
  stands [] i j x e = absurd (some-ne-none x (sym e))
  stands (y ∷ c) zero j x e = (suc j, e, (λ h. omega arith), inr (omega arith, refl))
  stands (y ∷ c) (suc i) zero x e = (zero, e, (λ h. omega arith), inl (omega arith, refl))
  stands (y ∷ c) (suc i) (suc j) x e = let t = stands c i j x e in (suc t.0, t.1, (λ h. t.2 (omega arith)), ⊎_elim (λ u. inl (omega arith, omega arith)) (λ u. inr (omega arith, omega arith)) t.3)

  -- an element of the list is the number i, or stands in the list without it
  pub stays : (c : List (ℕ × T)) (i k : ℕ) (x : ℕ × T) → get_elem? c k ≡ some x → k ≢ i → (j : ℕ) × (get_elem? (without c i) j ≡ some x)
  stays [] i k x e n = absurd (some-ne-none x (sym e))
  stays (y ∷ c) zero zero x e n = absurd (n refl)
  stays (y ∷ c) zero (suc k) x e n = (k, e)
  stays (y ∷ c) (suc i) zero x e n = (zero, e)
  stays (y ∷ c) (suc i) (suc k) x e n = let t = stays c i k x e (λ h. n (ap suc h)) in (suc t.0, t.1)

  -- four writes that leave two places as they were
  settled : (hs : List (Option T)) (a b : ℕ) (p q : Option T) → get_elem? hs a ≡ some none → get_elem? hs b ≡ some none → a ≢ b
      → set (set (set (set hs a p) b q) a none) b none ≡ hs
  settled hs a b p q ha hb ne =
      let la = at_inside hs a none ha in let lb = at_inside hs b none hb in
      let h1 = set hs a p in let h2 = set h1 b q in let h3 = set h2 a none in
      let n1 = length-set hs a p in let n2 = length-set h1 b q in let n3 = length-set h2 a none in
      same_list _ _ (λ j. ⊎_elim (λ t. t.1 ∙ sym hb ∙ ap (get_elem? hs) (sym t.0))
      (λ t. t.1 ∙ ⊎_elim (λ u. u.1 ∙ sym ha ∙ ap (get_elem? hs) (sym u.0))
      (λ u. u.1 ∙ set_else h1 b j q t.0 ∙ set_else hs a j p u.0) (at_written h2 a j none (omega arith)))
      (at_written h3 b j none (omega arith)))

  pub record Fetched (hs : List (Option T)) (c : List (ℕ × T)) (i : ℕ) (y : ℕ × T) : Type 0 where
    pub valid : Valid hs c (fetch c i y)
    pub homes : homes_after hs c (fetch c i y) ≡ hs
    pub carried : carried_after c (fetch c i y) ≡ y ∷ without c i

  away_rest : (hs : List (Option T)) (x : ℕ × T) (c : List (ℕ × T)) → Away hs (x ∷ c) → Away (set hs x.0 (some x.1)) c
  away_rest hs x c away = record {
    once = λ i j a b p q e. let h : suc i ≡ suc j = away.once (suc i) (suc j) a b p q e in omega arith;
    out = λ i z e. set_else hs x.0 z.0 (some x.1) (λ h. let n : suc i ≡ zero = away.once (suc i) zero z x e refl h in omega arith) ∙ away.out (suc i) z e;
  }

  pub fetched : (hs : List (Option T)) (c : List (ℕ × T)) (i : ℕ) (y : ℕ × T) → Away hs c → get_elem? c i ≡ some y → Fetched hs c i y
  fetched hs [] i y away e = absurd (some-ne-none y (sym e))
  fetched hs (x ∷ c) zero y away e = record { valid = tt; homes = refl; carried = ap (λ (z : ℕ × T). z ∷ c) (some-injective x y e) }
  fetched hs (x ∷ c) (suc i) y away e =
      let h1 : List (Option T) = set hs x.0 (some x.1) in
      let in' : Fetched h1 c i y = fetched h1 c i y (away_rest hs x c away) e in
      let h2 : List (Option T) = homes_after h1 c (fetch c i y) in
      let d : List (ℕ × T) = carried_after c (fetch c i y) in
      let ne : x.0 ≢ y.0 = λ h. let n : suc i ≡ zero = away.once (suc i) zero y x e refl (sym h) in omega arith in
      let ha = away.out zero x refl in let hb = away.out (suc i) y e in
      let h3 : List (Option T) = set h1 y.0 (some y.1) in
      let la = at_inside hs x.0 none ha in let lb = at_inside hs y.0 none hb in
      let n1 = length-set hs x.0 (some x.1) in let n3 = length-set h1 y.0 (some y.1) in
      let P : List (Option T) → List (ℕ × T) → Type 0 = λ h z. Valid h z (chain gives (chain (takes x.0 x.1) (takes y.0 y.1))) in
      let Q : List (Option T) → List (ℕ × T) → List (Option T) = λ h z. homes_after h z (chain gives (chain (takes x.0 x.1) (takes y.0 y.1))) in
      let R : List (ℕ × T) → List (ℕ × T) = λ z. carried_after z (chain gives (chain (takes x.0 x.1) (takes y.0 y.1))) in
      let both : (h2, d) ≡ (h1, y ∷ without c i) = λ k. (in'.homes k, in'.carried k) in record {
        valid = (
          tt,
          (
            in'.valid,
            subst (λ (z : List (Option T) × List (ℕ × T)). P z.0 z.1) (sym both)
                (tt, ((set_else h1 y.0 x.0 (some y.1) ne ∙ set_here hs x.0 (some x.1) la), (set_else h3 x.0 y.0 none (λ h. ne (sym h)) ∙ set_here h1 y.0 (some y.1) (omega arith)))),
          ),
        );
        homes = ap (λ (z : List (Option T) × List (ℕ × T)). Q z.0 z.1) both ∙ settled hs x.0 y.0 (some x.1) (some y.1) ha hb ne;
        carried = ap R in'.carried;
      }
