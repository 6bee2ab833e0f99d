use Rattle.std.proofs.Common.{◌≡◌, ◌+◌, ◌*◌, [], ◌∷◌, arith, map, sym, ap, ◌∙◌, subst}
use Rattle.std.specs.List.{range_with_len}
use Rattle.round_program.specs.Canonical.{InRound, EndsWithin}
use Rattle.sparse_rows.proofs.Starts.{made_more}
use Rattle.delta_step.specs.Deltas.{delta_rules}
use Rattle.delta_step.specs.DeltaRuns.{delta_begins, delta_starts}
use Rattle.delta_step.proofs.Begins.{starts_in_round}
use Rattle.delta_step.proofs.Ends.{run_ends}
use Rattle.delta_step.proofs.delta_run.delta_start.Goals as goal

pub loop-rank-preserved : goal.loop-rank-preserved
loop-rank-preserved c =
    made_more (delta_begins c.args.ranks c.args.m.now c.args.source c.args.delta) c.loop-rank.rank c.loop-rank.progs c.add.new.self c.in_ok-part_of.field-0 c.loop-rank.invariant c.in_ok-part_of.ensures c.in_ok-add.ensures.added

pub returns-clause-begins : goal.returns-clause-begins
returns-clause-begins c =
    let all : c.loop-rank.rank ≡ c.args.ranks = omega arith in
    let is : c.loop-rank.progs ≡ delta_starts c.args.ranks c.args.m.now c.args.source c.args.delta = c.loop-rank.invariant ∙ ap (λ n. map (delta_begins c.args.ranks c.args.m.now c.args.source c.args.delta) (range_with_len 0 n)) all in
    subst (InRound delta_rules c.args.ranks 0 (c.args.m.now.rows ∷ []) (c.args.m.now.rows * (c.args.m.now.rows + 2) + 2)) (sym is)
    (starts_in_round c.args.ranks c.args.m.now c.args.source c.args.delta c.requires.width.positive c.requires.width.narrow c.known.ensures c.requires.source.square)

pub returns-clause-ends : goal.returns-clause-ends
returns-clause-ends c =
    let all : c.loop-rank.rank ≡ c.args.ranks = omega arith in
    let is : c.loop-rank.progs ≡ delta_starts c.args.ranks c.args.m.now c.args.source c.args.delta = c.loop-rank.invariant ∙ ap (λ n. map (delta_begins c.args.ranks c.args.m.now c.args.source c.args.delta) (range_with_len 0 n)) all in
    subst (λ ps. EndsWithin delta_rules ps (c.args.m.now.rows * (c.args.m.now.rows + 2) + 2)) (sym is)
    (run_ends c.args.ranks c.args.m.now c.args.source c.args.delta c.requires.ranks.some c.requires.ranks.few c.requires.width.positive c.requires.width.narrow
    (record { matrix = c.known.ensures; square = c.requires.source.square; weights = c.requires.weights }) c.requires.source.within)
