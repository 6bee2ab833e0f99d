use Rattle.std.proofs.Common.{◌≡◌, map}
use Rattle.std.specs.List.{range_with_len}
use Rattle.elastic.specs.Mails.{mailing}
use Rattle.app_tally.specs.Tallies.{tally_rules}
use Rattle.app_tally.specs.TallyRuns.{tally_begins}
use Rattle.app_tally.proofs.run.tally_start.Given as goal

abbrev pub invariant-loop-rank : goal.invariant-loop-rank
invariant-loop-rank l = l.progs ≡ map (λ r. mailing tally_rules (tally_begins l.ranks l.lines r)) (range_with_len 0 l.rank)
