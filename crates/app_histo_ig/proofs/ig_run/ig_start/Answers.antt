use Rattle.std.proofs.Common.{◌≡◌, [], ◌∷◌, arith, map, sym, ap, ◌∙◌, subst}
use Rattle.std.specs.List.{range_with_len}
use Rattle.round_program.specs.Canonical.{InRound}
use Rattle.app_histo_ig.specs.Igs.{ig_rules}
use Rattle.app_histo_ig.specs.IgRuns.{ig_begins, ig_starts}
use Rattle.sparse_rows.proofs.Starts.{made_more}
use Rattle.app_histo_ig.proofs.IgRounds.{starts_in_round, within_three}
use Rattle.app_histo_ig.proofs.ig_run.ig_start.Goals as goal

pub loop-rank-preserved : goal.loop-rank-preserved
loop-rank-preserved c =
    made_more (ig_begins c.args.ranks c.args.m.now) c.loop-rank.rank c.loop-rank.progs c.add.new.self c.in_ok-part_of.field-0 c.loop-rank.invariant c.in_ok-part_of.ensures c.in_ok-add.ensures.added

pub returns-clause-begins : goal.returns-clause-begins
returns-clause-begins c =
    let all : c.loop-rank.rank ≡ c.args.ranks = omega arith in
    let is : c.loop-rank.progs ≡ ig_starts c.args.ranks c.args.m.now = c.loop-rank.invariant ∙ ap (λ n. map (ig_begins c.args.ranks c.args.m.now) (range_with_len 0 n)) all in
    subst (InRound ig_rules c.args.ranks 0 (c.args.m.now.cols ∷ []) 3) (sym is) (starts_in_round c.args.ranks c.args.m.now c.known.ensures)

pub returns-clause-ends : goal.returns-clause-ends
returns-clause-ends c = within_three c.loop-rank.progs
