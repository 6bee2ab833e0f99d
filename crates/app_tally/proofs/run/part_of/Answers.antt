use Rattle.std.proofs.Common.{[], sym, ap, subst, ◌∙◌}
use Rattle.app_tally.specs.Tallies.{IsTallying}
use Rattle.app_tally.specs.TallyRuns.{own_lines}
use Rattle.app_tally.proofs.TallyRounds.{begins_valid}
use Rattle.app_tally.proofs.run.part_of.Goals as goal

pub new-requires : goal.new-requires
new-requires c =
    subst (λ own. IsTallying (record { rank = c.args.rank; ranks = c.args.ranks; round = 0; own = own; came = [] })) (sym (c.new-own.ensures ∙ ap (own_lines c.args.ranks c.args.rank) c.in_ok-share.ensures))
    (begins_valid c.args.ranks c.args.rank c.args.lines.now c.requires.below c.known.ensures.letters)
