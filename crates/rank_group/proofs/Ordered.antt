-- Turns and sweeps, and one more after them.
use Rattle.std.proofs.Common.{ℕ, zero, suc, List, [], ◌∷◌, ◌++◌, refl, subst}
use Rattle.rank_group.specs.Turns.{InTurn, InSweeps}

module _ {X : Type 0} (step : ℕ → X → X → Type 0) where
  pub turns_more : (rs : List ℕ) (r : ℕ) (a b c : X) → InTurn step rs a b → step r b c → InTurn step (rs ++ r ∷ []) a c
  turns_more [] r a b c so_far one = (c, subst (λ z. step r z c) so_far one, refl)
  turns_more (q ∷ rs) r a b c so_far one = (so_far.0, so_far.1, turns_more rs r so_far.0 b c so_far.2 one)

  pub sweeps_more : (order : List ℕ) (k : ℕ) (a b c : X) → InSweeps step order k a b → InTurn step order b c → InSweeps step order (suc k) a c
  sweeps_more order zero a b c so_far one = (c, subst (λ z. InTurn step order z c) so_far one, refl)
  sweeps_more order (suc k) a b c so_far one = (so_far.0, so_far.1, sweeps_more order k so_far.0 b c so_far.2 one)
