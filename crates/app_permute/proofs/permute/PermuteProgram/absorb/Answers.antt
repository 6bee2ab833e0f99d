use Rattle.std.proofs.Common.{sym, subst}
use Rattle.round_program.specs.Laws.{Fits}
use Rattle.app_permute.specs.Permutes.{permute_rules}
use Rattle.app_permute.specs.code.PermuteView.{permute_state}
use Rattle.app_permute.proofs.PermuteSteps.{raise_valid}
use Rattle.app_permute.proofs.permute.PermuteProgram.absorb.Goals as goal

pub invariant_of-self : goal.invariant_of-self
invariant_of-self c =
    raise_valid (permute_state c.self.inside) _ c.args.from c.args.item _ c.self.invariant
    (subst (λ s. Fits permute_rules s c.args.from c.args.item) (sym c.self.view_is) c.requires) c.raise_kept.ensures
