use Rattle.std.proofs.Common.{[], ◌∷◌, ◌++◌, ap, ◌∙◌}
use Rattle.rank_group.specs.declared.closed_round.ClosedRound.TheVariants.{Plain}
use Rattle.biconvey.proofs.drive.finish.Goals as goal

pub returns-clause-rounds : goal.returns-clause-rounds
returns-clause-rounds g c = (
  Plain c.close.result,
  Plain c.close-2.result,
  c.in_ok-add-2.ensures.added ∙ (ap (λ xs. xs ++ Plain c.close-2.result ∷ []) (c.in_ok-add.ensures.added ∙ ap (λ xs. xs ++ Plain c.close.result ∷ []) c.new-rounds.ensures)),
  c.close.ensures.round,
  c.close.ensures.in_order,
  c.close-2.ensures.round,
  c.close-2.ensures.in_order,
)
