use Rattle.std.proofs.Common.{◌≡◌, [], ◌∷◌, arith, map, sym, ap, ◌∙◌, subst}
use Rattle.std.specs.List.{range_with_len}
use Rattle.round_program.specs.Canonical.{InRound}
use Rattle.sparse_rows.proofs.Starts.{made_more}
use Rattle.app_permute.specs.Permutes.{permute_rules}
use Rattle.app_permute.specs.PermuteRuns.{permute_begins, permute_starts}
use Rattle.app_permute.proofs.PermuteOwners.{starts_in_round, within_three}
use Rattle.app_permute.proofs.permute_run.permute_start.Goals as goal

pub loop-rank-preserved : goal.loop-rank-preserved
loop-rank-preserved c =
    made_more (permute_begins c.args.ranks c.args.m.now c.args.rp.now c.args.cp.now) c.loop-rank.rank c.loop-rank.progs c.add.new.self c.in_ok-part_of.field-0 c.loop-rank.invariant c.in_ok-part_of.ensures c.in_ok-add.ensures.added

pub returns-clause-begins : goal.returns-clause-begins
returns-clause-begins c =
    let m = c.args.m.now in
    let all : c.loop-rank.rank ≡ c.args.ranks = omega arith in
    let is : c.loop-rank.progs ≡ permute_starts c.args.ranks m c.args.rp.now c.args.cp.now = c.loop-rank.invariant ∙ ap (λ n. map (permute_begins c.args.ranks m c.args.rp.now c.args.cp.now) (range_with_len 0 n)) all in
    subst (InRound permute_rules c.args.ranks 0 (m.rows ∷ m.cols ∷ []) 3) (sym is) (starts_in_round c.args.ranks m c.args.rp.now c.args.cp.now c.known.ensures c.requires.rows c.requires.cols)

pub returns-clause-ends : goal.returns-clause-ends
returns-clause-ends c = within_three c.loop-rank.progs
