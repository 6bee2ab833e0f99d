use Rattle.std.proofs.Common.{◌≡◌, map, sym, subst, ◌∙◌}
use Rattle.list_laws.proofs.Results.{if_ok_is, if_ok_from}
use Rattle.app_tally.specs.Counts.{tally_of, IsTally}
use Rattle.app_tally.specs.code.CountView.{counted_lines}
use Rattle.app_tally.proofs.Tallied.{same_tally, tally_is}
use Rattle.app_tally.proofs.run.tally_end.Goals as goal

pub returns-clause-counts : goal.returns-clause-counts
returns-clause-counts c = λ lines h.
    if_ok_from (λ a. a ≡ tally_of lines) c.tally_all.result
    (λ a e. if_ok_is (λ a. a ≡ tally_of (counted_lines (map (λ l. (l.1.now, l.2)) c.in_ok-all.all.items))) c.tally_all.result a e c.tally_all.ensures
    ∙ same_tally (counted_lines (map (λ l. (l.1.now, l.2)) c.in_ok-all.all.items)) lines (c.in_ok-all.ensures.times lines h))

pub returns-clause-each : goal.returns-clause-each
returns-clause-each c = λ lines h.
    if_ok_from (IsTally lines) c.tally_all.result
    (λ a e. subst (IsTally lines) (sym (if_ok_is (λ a. a ≡ tally_of lines) c.tally_all.result a e (returns-clause-counts c lines h))) (tally_is lines))
