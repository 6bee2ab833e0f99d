use Rattle.app_permute.specs.code.TransposeView.{transpose_state}
use Rattle.app_permute.proofs.TransposeOwners.{raise_valid}
use Rattle.app_permute.proofs.transpose.TransposeProgram.absorb.Goals as goal

pub invariant_of-self : goal.invariant_of-self
invariant_of-self c = raise_valid (transpose_state c.self.inside) _ c.args.item _ c.self.invariant c.raise_cell.ensures
