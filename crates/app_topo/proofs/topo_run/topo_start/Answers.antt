use Rattle.std.proofs.Common.{◌≡◌, ◌+◌, ◌*◌, [], ◌∷◌, arith, map, sym, ap, ◌∙◌, subst}
use Rattle.std.specs.List.{range_with_len}
use Rattle.round_program.specs.Canonical.{InRound, EndsWithin}
use Rattle.sparse_rows.proofs.Starts.{made_more}
use Rattle.app_topo.specs.Topos.{topo_rules}
use Rattle.app_topo.specs.TopoRuns.{topo_begins, topo_starts}
use Rattle.app_topo.proofs.TopoRun.{within}
use Rattle.app_topo.proofs.TopoStart.{starts_in_round}
use Rattle.app_topo.proofs.topo_run.topo_start.Goals as goal

pub loop-rank-preserved : goal.loop-rank-preserved
loop-rank-preserved c =
    made_more (topo_begins c.args.ranks c.args.m.now) c.loop-rank.rank c.loop-rank.progs c.add.new.self c.in_ok-part_of.field-0 c.loop-rank.invariant c.in_ok-part_of.ensures c.in_ok-add.ensures.added

pub returns-clause-begins : goal.returns-clause-begins
returns-clause-begins c =
    let m = c.args.m.now in
    let all : c.loop-rank.rank ≡ c.args.ranks = omega arith in
    let is : c.loop-rank.progs ≡ topo_starts c.args.ranks m = c.loop-rank.invariant ∙ ap (λ n. map (topo_begins c.args.ranks m) (range_with_len 0 n)) all in
    subst (InRound topo_rules c.args.ranks 0 (m.rows ∷ []) (2 * m.rows + 2)) (sym is) (starts_in_round c.args.ranks m c.requires.square c.known.ensures)

pub returns-clause-ends : goal.returns-clause-ends
returns-clause-ends c =
    let m = c.args.m.now in
    let all : c.loop-rank.rank ≡ c.args.ranks = omega arith in
    let is : c.loop-rank.progs ≡ topo_starts c.args.ranks m = c.loop-rank.invariant ∙ ap (λ n. map (topo_begins c.args.ranks m) (range_with_len 0 n)) all in
    subst (λ ps. EndsWithin topo_rules ps (2 * m.rows + 2)) (sym is) (within c.args.ranks m c.requires.ranks.some c.requires.square c.known.ensures)
