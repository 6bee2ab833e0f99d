use Rattle.std.proofs.Common.{◌≡◌, [], map, sym, ap, subst, ◌∙◌, arith}
use Rattle.std.specs.List.{range_with_len}
use Rattle.round_program.specs.Canonical.{InRound, EndsWithin}
use Rattle.sparse_rows.proofs.Starts.{made_more}
use Rattle.elastic.specs.Mails.{mailing, mail_rules}
use Rattle.app_tally.specs.Tallies.{tally_rules}
use Rattle.app_tally.specs.TallyRuns.{tally_begins, tally_starts}
use Rattle.app_tally.proofs.TallyRounds.{starts_in_round, within_one}
use Rattle.app_tally.proofs.run.tally_start.Goals as goal

pub loop-rank-preserved : goal.loop-rank-preserved
loop-rank-preserved c =
    made_more (λ r. mailing tally_rules (tally_begins c.args.ranks c.args.lines.now r)) c.loop-rank.rank c.loop-rank.progs c.add.new.self c.in_ok-part_of.field-0 c.loop-rank.invariant c.in_ok-part_of.ensures c.in_ok-add.ensures.added

pub returns-clause-begins : goal.returns-clause-begins
returns-clause-begins c =
    let all : c.loop-rank.rank ≡ c.args.ranks = omega arith in
    let is : c.loop-rank.progs ≡ tally_starts c.args.ranks c.args.lines.now = c.loop-rank.invariant ∙ ap (λ n. map (λ r. mailing tally_rules (tally_begins c.args.ranks c.args.lines.now r)) (range_with_len 0 n)) all in
    subst (InRound (mail_rules tally_rules) c.args.ranks 0 [] 1) (sym is) (starts_in_round c.args.ranks c.args.lines.now c.known.ensures.letters)

pub returns-clause-ends : goal.returns-clause-ends
returns-clause-ends c =
    let all : c.loop-rank.rank ≡ c.args.ranks = omega arith in
    let is : c.loop-rank.progs ≡ tally_starts c.args.ranks c.args.lines.now = c.loop-rank.invariant ∙ ap (λ n. map (λ r. mailing tally_rules (tally_begins c.args.ranks c.args.lines.now r)) (range_with_len 0 n)) all in
    subst (λ ps. EndsWithin (mail_rules tally_rules) ps 1) (sym is) (within_one c.args.ranks c.args.lines.now c.known.ensures.letters)
