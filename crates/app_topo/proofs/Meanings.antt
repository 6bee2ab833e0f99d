-- The order that topo answers is valid, and where it answers none, none is.
use Rattle.std.proofs.Common.{◌≡◌, ℕ, true, Some, None, List, length, get_or, ◌<◌, reverse, cond, inl, inr, sym, ap, ◌∙◌, subst}
use Rattle.std.proofs.lemmas.Bool.{cases_Bool}
use Rattle.std.proofs.lemmas.List.{length-reverse}
use Rattle.std.proofs.lemmas.Option.{none-some, same_Some}
use Rattle.mtx_text.specs.Sparse.{Sparse, IsSparse}
use Rattle.app_topo.specs.Levels.{Claim, claims_after, levels_complete, topo_order, row_position, col_position}
use Rattle.app_topo.specs.Triangular.{IsValid}
use Rattle.app_topo.proofs.LevelFacts.{rows_below}
use Rattle.app_topo.proofs.Printed.{complete_parts, complete_size, printed}
use Rattle.app_topo.proofs.TopoEnding.{none_valid}

-- what is known of an order
pub record IsFound (m : Sparse) (order : List Claim) : Type 0 where
  pub size : length order ≡ m.rows
  pub valid : IsValid m.rows m.entries (row_position order) (col_position order)

whole : (m : Sparse) → IsSparse m → m.rows ≡ m.cols → levels_complete m.rows (claims_after m.rows m.entries m.rows) ≡ true → IsFound m (reverse (claims_after m.rows m.entries m.rows))
whole m is square complete =
    let claims : List Claim = claims_after m.rows m.entries m.rows in
    record {
      size = length-reverse claims ∙ complete_size m.rows claims (rows_below m.rows m.entries m.rows) (complete_parts m.rows claims complete);
      valid = printed m.rows m.entries (record { row = λ k d l. (is.inside k d l).row; col = λ k d l. subst (λ n. (get_or m.entries k d).j < n) (sym square) (is.inside k d l).col }) complete;
    }

pub found : (m : Sparse) (order : List Claim) → IsSparse m → m.rows ≡ m.cols → topo_order m.rows m.entries ≡ Some order → IsFound m order
found m order is square h =
    let claims : List Claim = claims_after m.rows m.entries m.rows in
    elim (cases_Bool (levels_complete m.rows claims)) [
      | inl complete ↦
          let same : reverse claims ≡ order = same_Some (reverse claims) order (sym (ap (λ b. cond b (Some (reverse claims)) None) complete) ∙ h) in
          subst (IsFound m) same (whole m is square complete)
      | inr broken ↦ absurd (none-some order (sym (ap (λ b. cond b (Some (reverse claims)) None) broken) ∙ h))
    ]

pub none : (m : Sparse) (p q : ℕ → ℕ) → IsSparse m → m.rows ≡ m.cols → topo_order m.rows m.entries ≡ None → IsValid m.rows m.entries p q → ⊥
none m p q is square h v =
    let claims : List Claim = claims_after m.rows m.entries m.rows in
    elim (cases_Bool (levels_complete m.rows claims)) [
      | inl complete ↦ none-some (reverse claims) (sym h ∙ ap (λ b. cond b (Some (reverse claims)) None) complete)
      | inr broken ↦ none_valid m p q square is broken v
    ]
