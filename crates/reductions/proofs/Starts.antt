-- The ranks that are made each from its rank: what stands at a place, and that all are in one round
-- of one run.
use Rattle.std.proofs.Common.{◌≡◌, Result, IfOk, sym, subst}
use Rattle.list_laws.proofs.Results.{if_ok_is, if_ok_from}
pub use Rattle.sparse_rows.proofs.Starts.{made_at, made_from, made_in_round, made_more}

-- what holds of what was to be made holds of what was made
pub made_so : {X E : Type 0} (P : X → Type 0) (r : Result X E) (y : X) → IfOk r (λ x. x ≡ y) → P y → IfOk r P
made_so P r y is p = if_ok_from P r (λ x e. subst P (sym (if_ok_is (λ x. x ≡ y) r x e is)) p)
