-- Entries at places of their own are a finite map.
use Rattle.std.proofs.Common.{ℕ, zero, suc, ◌<◌, ◌≡◌, ℤ, false, List, [], ◌∷◌, Some, Contains, length, get_or, slice_get, arith, rules, inl, inr, refl, sym, ◌∙◌, subst}
use Rattle.std.specs.List.{AllPairs}
use Rattle.std.proofs.lemmas.Bool.{cases_Bool, false_from_ne_true}
use Rattle.std.proofs.lemmas.Option.{same_Some, slice_get_within, get_or_from_slice_get}
use Rattle.bale_items.specs.declared.triple.Triple.{Triple}
use Rattle.mtx_text.specs.Sparse.{SamePlace}
use Rattle.mtx_text.specs.Maps.{is_at, value_at}
use Rattle.mtx_text.proofs.PlaceOrder.{pairs_head, pairs_tail}
use Rattle.mtx_text.proofs.Raised.{value_first, value_later, at_parts, at_from, same_triple}

abbrev Apart : Triple → Triple → Type 0
Apart s t = ¬ SamePlace s t

pub listed : (entries : List Triple) (e : ℕ) (t : Triple) → AllPairs Apart entries → slice_get entries e ≡ Some t → value_at entries t.i t.j ≡ Some t.v
listed [] e t once h = absurd (search (rules, h))
listed (x ∷ entries) zero t once h =
    let same : x ≡ t = same_Some x t h in
    subst (λ u. value_at (x ∷ entries) u.i u.j ≡ Some u.v) same (value_first x.i x.j x entries (at_from x.i x.j x refl refl))
listed (x ∷ entries) (suc e) t once h =
    let inside : e < length entries = slice_get_within entries e t h in
    let here : get_or entries e t ≡ t = get_or_from_slice_get entries e t t h in
    let apart : Apart x t = subst (Apart x) here (pairs_head Apart x entries once e t inside) in
    let away : is_at t.i t.j x ≡ false = false_from_ne_true (is_at t.i t.j x) (λ g.
    let p : (x.i ≡ t.i) × (x.j ≡ t.j) = at_parts t.i t.j x g in
    apart (record { row = p.0; col = p.1 })) in
    value_later t.i t.j x entries away ∙ listed entries e t (pairs_tail Apart x entries once) h

pub mapped : (entries : List Triple) (i j : ℕ) (v : ℤ) → value_at entries i j ≡ Some v → Contains entries (record { i = i; j = j; v = v })
mapped [] i j v h = absurd (search (rules, h))
mapped (x ∷ entries) i j v h =
    elim (cases_Bool (is_at i j x)) [
      | inl here ↦
          let p : (x.i ≡ i) × (x.j ≡ j) = at_parts i j x here in
          let val : x.v ≡ v = same_Some x.v v (sym (value_first i j x entries here) ∙ h) in
          (0, omega arith, same_triple x (record { i = i; j = j; v = v }) p.0 p.1 val)
      | inr away ↦
          let r : Contains entries (record { i = i; j = j; v = v }) = mapped entries i j v (sym (value_later i j x entries away) ∙ h) in
          (suc r.0, omega (arith, r.1), r.2)
    ]
