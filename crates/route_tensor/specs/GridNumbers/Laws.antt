-- A grid that is kept is told by its dimensions.
use Rattle.std.proofs.Common.{ℕ, zero, suc, ◌≡◌, List, arith, refl, sym}
use Rattle.std.specs.Prelude.{length}
use Rattle.std.specs.List.{slice_index_or}
use Rattle.route_tensor.specs.GridNumbers.{IsKeptGrid, dims_kept}
use Rattle.route_tensor.specs.declared.grid.Grid.TheInside.{Inside}

record GivesBack (dims : List ℕ) (k m1 m2 m3 : ℕ) : Type 0 where
  hops : length dims ≡ k
  first : slice_index_or dims 0 1 ≡ m1
  second : slice_index_or dims 1 1 ≡ m2
  third : slice_index_or dims 2 1 ≡ m3

kept_back : (hops n1 n2 n3 : ℕ) → IsKeptGrid hops n1 n2 n3 → GivesBack (dims_kept hops n1 n2 n3) hops n1 n2 n3
kept_back zero n1 n2 n3 k = absurd (omega (arith, k.grid.some))
kept_back (suc zero) n1 n2 n3 k =
    record { hops = refl; first = refl; second = sym (k.second (omega arith)); third = sym (k.third (omega arith)) }
kept_back (suc (suc zero)) n1 n2 n3 k =
    record { hops = refl; first = refl; second = refl; third = sym (k.third (omega arith)) }
kept_back (suc (suc (suc zero))) n1 n2 n3 k = record { hops = refl; first = refl; second = refl; third = refl }
kept_back (suc (suc (suc (suc h)))) n1 n2 n3 k = absurd (omega (arith, k.few))

inside : ℕ → ℕ → ℕ → ℕ → Inside
inside k m1 m2 m3 = record { hops = k; n1 = m1; n2 = m2; n3 = m3 }

same_inside : (k k' m1 m1' m2 m2' m3 m3' : ℕ) → k ≡ k' → m1 ≡ m1' → m2 ≡ m2' → m3 ≡ m3'
    → inside k m1 m2 m3 ≡ inside k' m1' m2' m3'
same_inside k k' m1 m1' m2 m2' m3 m3' e e1 e2 e3 = cc

-- the fields of a grid are those that its dimensions give back
pub inverse_of_kept : (a : Inside) → IsKeptGrid a.hops a.n1 a.n2 a.n3 →
    (let dims = dims_kept a.hops a.n1 a.n2 a.n3 in
    let back : Inside =
    record {
      hops = length dims;
      n1 = slice_index_or dims 0 1;
      n2 = slice_index_or dims 1 1;
      n3 = slice_index_or dims 2 1;
    } in back ≡ a)
unfolding inside
inverse_of_kept a k =
    let b = kept_back a.hops a.n1 a.n2 a.n3 k in
    same_inside _ _ _ _ _ _ _ _ b.hops b.first b.second b.third
