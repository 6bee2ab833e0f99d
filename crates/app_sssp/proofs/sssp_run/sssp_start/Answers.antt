use Rattle.std.proofs.Common.{◌≡◌, ◌+◌, [], ◌∷◌, arith, map, sym, ap, ◌∙◌, subst}
use Rattle.std.specs.List.{range_with_len}
use Rattle.round_program.specs.Canonical.{InRound, EndsWithin}
use Rattle.sparse_rows.proofs.Starts.{made_more}
use Rattle.app_sssp.specs.Sssps.{sssp_rules}
use Rattle.app_sssp.specs.SsspRuns.{sssp_begins, sssp_starts}
use Rattle.app_sssp.proofs.Begins.{starts_in_round}
use Rattle.app_sssp.proofs.Ends.{run_ends}
use Rattle.app_sssp.proofs.sssp_run.sssp_start.Goals as goal

pub loop-rank-preserved : goal.loop-rank-preserved
loop-rank-preserved c =
    made_more (sssp_begins c.args.ranks c.args.m.now c.args.source) c.loop-rank.rank c.loop-rank.progs c.add.new.self c.in_ok-part_of.field-0 c.loop-rank.invariant c.in_ok-part_of.ensures c.in_ok-add.ensures.added

pub returns-clause-begins : goal.returns-clause-begins
returns-clause-begins c =
    let all : c.loop-rank.rank ≡ c.args.ranks = omega arith in
    let is : c.loop-rank.progs ≡ sssp_starts c.args.ranks c.args.m.now c.args.source = c.loop-rank.invariant ∙ ap (λ n. map (sssp_begins c.args.ranks c.args.m.now c.args.source) (range_with_len 0 n)) all in
    subst (InRound sssp_rules c.args.ranks 0 (c.args.m.now.rows ∷ []) (c.args.m.now.rows + 1)) (sym is)
    (starts_in_round c.args.ranks c.args.m.now c.args.source c.known.ensures c.requires.source.square)

pub returns-clause-ends : goal.returns-clause-ends
returns-clause-ends c =
    let all : c.loop-rank.rank ≡ c.args.ranks = omega arith in
    let is : c.loop-rank.progs ≡ sssp_starts c.args.ranks c.args.m.now c.args.source = c.loop-rank.invariant ∙ ap (λ n. map (sssp_begins c.args.ranks c.args.m.now c.args.source) (range_with_len 0 n)) all in
    subst (λ ps. EndsWithin sssp_rules ps (c.args.m.now.rows + 1)) (sym is)
    (run_ends c.args.ranks c.args.m.now c.args.source c.requires.ranks.some (record { matrix = c.known.ensures; square = c.requires.source.square; weights = c.requires.weights }) c.requires.source.within)
