-- A place as one number stands for the place.
use Rattle.std.proofs.Common.{◌≡◌, ℕ, ◌<◌, ◌==◌, ◌&&◌, true, nat_lt, List, [], ◌∷◌, refl, inl, inr, arith}
use Rattle.std.proofs.lemmas.Bool.{cases_eq, and_parts, ltb-true, eq-eqb, ne_eqb}
use Rattle.bale_items.specs.declared.triple.Triple.{Triple}
use Rattle.mtx_text.specs.Grammar.{has_place}
use Rattle.mtx_text.specs.code.Places.{key_of, has_key, narrow}

one_key : (i j p q : ℕ) → j < 65_536 → q < 65_536 → (p == i && q == j) ≡ (key_of p q == key_of i j)
one_key i j p q h k =
    elim (cases_eq (key_of p q) (key_of i j)) [
      | inl e ↦
          let a : p ≡ i = omega arith in
          let b : q ≡ j = omega arith in
          rw (eq-eqb p i a, eq-eqb q j b, eq-eqb (key_of p q) (key_of i j) e)
      | inr n ↦
          elim (cases_eq p i) [
            | inl a ↦
                let b : q ≡ j → ⊥ = λ b. n (omega arith) in
                rw (eq-eqb p i a, ne_eqb q j b, ne_eqb (key_of p q) (key_of i j) n)
            | inr a ↦ rw (ne_eqb p i a, ne_eqb (key_of p q) (key_of i j) n)
          ]
    ]

pub place_key : (entries : List Triple) (i j : ℕ) → j < 65_536 → narrow entries ≡ true → has_place i j entries ≡ has_key (key_of i j) entries
place_key [] i j h slim = refl
place_key (t ∷ ts) i j h slim =
    let parts = and_parts (nat_lt t.j 65_536) (narrow ts) slim in
    rw (one_key i j t.i t.j h (ltb-true t.j 65_536 parts.0), place_key ts i j h parts.1)
