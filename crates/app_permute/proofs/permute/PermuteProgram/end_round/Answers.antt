use Rattle.std.proofs.Common.{ap, ◌∙◌}
use Rattle.app_permute.specs.Permutes.{permute_rules}
use Rattle.app_permute.specs.code.PermuteView.{permute_state}
use Rattle.app_permute.proofs.PermuteSteps.{ended_valid, ended_is}
use Rattle.app_permute.proofs.permute.PermuteProgram.end_round.Goals as goal

pub invariant_of-self : goal.invariant_of-self
invariant_of-self c =
    ended_valid (permute_state c.self.inside) _ _ _ c.take_cells.new.list.items _ _ c.self.invariant c.saturating_add-self-inside.ensures c.take_cells.ensures.came c.take_cells.ensures.kept c.deref.ensures.value c.deref-2.ensures.value c.renumber.ensures

pub returns-clause-ended : goal.returns-clause-ended
returns-clause-ended c =
    ended_is (permute_state c.self.inside) c.args.votes _ _ _ c.take_cells.new.list.items _ _ c.saturating_add-self-inside.ensures c.take_cells.ensures.came c.take_cells.ensures.kept c.deref.ensures.value c.deref-2.ensures.value c.renumber.ensures
    ∙ ap (λ t. permute_rules.ended t c.args.votes) c.self.view_is
