use Rattle.std.proofs.Common.{◌≡◌, [], ◌∷◌, arith, map, sym, ap, ◌∙◌, subst}
use Rattle.std.specs.List.{range_with_len}
use Rattle.round_program.specs.Canonical.{InRound}
use Rattle.sparse_rows.proofs.Starts.{made_more}
use Rattle.app_permute.specs.Transposes.{transpose_rules}
use Rattle.app_permute.specs.TransposeRuns.{transpose_begins, transpose_starts}
use Rattle.app_permute.proofs.TransposeOwners.{starts_in_round, within_one}
use Rattle.app_permute.proofs.transpose_run.transpose_start.Goals as goal

pub loop-rank-preserved : goal.loop-rank-preserved
loop-rank-preserved c =
    made_more (transpose_begins c.args.ranks c.args.m.now) c.loop-rank.rank c.loop-rank.progs c.add.new.self c.in_ok-part_of.field-0 c.loop-rank.invariant c.in_ok-part_of.ensures c.in_ok-add.ensures.added

pub returns-clause-begins : goal.returns-clause-begins
returns-clause-begins c =
    let all : c.loop-rank.rank ≡ c.args.ranks = omega arith in
    let is : c.loop-rank.progs ≡ transpose_starts c.args.ranks c.args.m.now = c.loop-rank.invariant ∙ ap (λ n. map (transpose_begins c.args.ranks c.args.m.now) (range_with_len 0 n)) all in
    subst (InRound transpose_rules c.args.ranks 0 (c.args.m.now.cols ∷ c.args.m.now.rows ∷ []) 1) (sym is) (starts_in_round c.args.ranks c.args.m.now c.known.ensures)

pub returns-clause-ends : goal.returns-clause-ends
returns-clause-ends c = within_one c.loop-rank.progs
