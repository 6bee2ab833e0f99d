use Rattle.std.proofs.Common.{ℕ, sym, ◌≡◌, arith, inl, inr, length, ap, ◌∙◌, subst, List, ◌≤◌, eqb, false}
use Rattle.std.specs.Result.{IfOk}
use Rattle.route_tensor.specs.Refusal.{refusal}
use Rattle.route_tensor.proofs.Kept.{refusal_order, dims_kept-all}
use Rattle.std.proofs.lemmas.Bool.{eqb-true, eqb-false}
use Rattle.route_tensor.proofs.grid.Grid.new.Goals as goal

some : (dims : List ℕ) → eqb (length dims) 0 ≡ false → 1 ≤ length dims
some dims e = let ne = eqb-false (length dims) 0 e in omega arith

pub returns-then-is_empty-clause-refused : goal.returns-then-is_empty-clause-refused
returns-then-is_empty-clause-refused c =
    sym (refusal_order _ (elim c.then-is_empty.either [
      | inl e ↦ inl (eqb-true _ 0 (sym c.is_empty.ensures ∙ e))
      | inr e ↦ inr e.1
    ]))

pub returns-clause-refused : goal.returns-clause-refused
returns-clause-refused c = c.of_three.ensures.refused ∙ ap refusal (rw (c.dim_or_one.ensures, c.dim_or_one-2.ensures, c.dim_or_one-3.ensures) (dims_kept-all _ (some c.args.dims.now (sym c.is_empty.ensures ∙ c.if-is_empty.false)) c.if-dims-gt-MOST_HOPS.false))

pub returns-clause-made : goal.returns-clause-made
returns-clause-made c = subst (λ dims. IfOk c.of_three.result (λ g. g ≡ dims)) (rw (c.dim_or_one.ensures, c.dim_or_one-2.ensures, c.dim_or_one-3.ensures) (dims_kept-all _ (some c.args.dims.now (sym c.is_empty.ensures ∙ c.if-is_empty.false)) c.if-dims-gt-MOST_HOPS.false)) c.of_three.ensures.made
