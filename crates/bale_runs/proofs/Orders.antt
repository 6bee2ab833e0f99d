-- The ranks from 0 on are an order of all ranks.
use Rattle.std.proofs.Common.{◌≡◌, ℕ, zero, suc, ◌+◌, ◌<◌, List, [], ◌∷◌, ◌++◌, length, length-append, slice_get, Some, refl, sym, ap, subst, ◌∙◌, arith, inl, inr}
use Rattle.std.specs.List.{range_with_len}
use Rattle.std.proofs.lemmas.Bool.{cases_lt}
use Rattle.list_laws.proofs.Lists.{within, get_once, get_last, get_before, all_from_gets}
use Rattle.mtx_text.proofs.Shuffles.{range_more}
use Rattle.rank_group.specs.Ranks.{IsOrder}

-- the ranks below i, in order
record Below (i : ℕ) (order : List ℕ) : Type 0 where
  size : length order ≡ i
  at : (k : ℕ) → k < i → slice_get order k ≡ Some k

below_none : Below 0 []
below_none = record { size = refl; at = λ k low. absurd (omega (arith, low)) }

below_more : (i : ℕ) (order order' : List ℕ) → Below i order → order' ≡ order ++ i ∷ [] → Below (i + 1) order'
below_more i order order' v more =
    record {
      size = omega (arith, ap length more, length-append order (i ∷ []), v.size);
      at = λ k low. elim (cases_lt k i) [
        | inl before ↦ ap (λ o. slice_get o k) more ∙ (get_before order (i ∷ []) k (omega (arith, before, v.size)) ∙ v.at k before)
        | inr past ↦
            let same : k ≡ length order = omega (arith, low, past, v.size) in
            ap (λ o. slice_get o k) more ∙ (ap (slice_get (order ++ i ∷ [])) same ∙ (get_last order i ∙ ap Some (sym v.size ∙ sym same)))
      ];
    }

below_range : (n : ℕ) → Below n (range_with_len 0 n)
below_range zero = below_none
below_range (suc n) =
    let more : n + 1 ≡ suc n = omega arith in
    subst (λ k. Below k (range_with_len 0 k)) more (below_more n (range_with_len 0 n) (range_with_len 0 (n + 1)) (below_range n) (range_more n))

below_all : (n : ℕ) (order : List ℕ) → Below n order → IsOrder n order
below_all n order v =
    record {
      size = v.size;
      below = all_from_gets (λ r. r < n) order (λ k x at.
          let low : k < n = omega (arith, within order k x at, v.size) in
          subst (λ y. y < n) (get_once order k k x (v.at k low) at) low);
      each = λ r low. (r, v.at r low);
    }

in_order : (n : ℕ) → IsOrder n (range_with_len 0 n)
in_order n = below_all n (range_with_len 0 n) (below_range n)

-- the order that a list of all ranks is
pub by_number : (n p : ℕ) (order : List ℕ) → order ≡ range_with_len 0 n → n ≡ p → order ≡ range_with_len 0 p
by_number n p order e same = e ∙ ap (range_with_len 0) same

pub ordered : (n p : ℕ) (order : List ℕ) → order ≡ range_with_len 0 n → n ≡ p → IsOrder p order
ordered n p order e same = subst (λ m. IsOrder m order) same (subst (λ (ranks : List ℕ). IsOrder n ranks) (sym e) (in_order n))
