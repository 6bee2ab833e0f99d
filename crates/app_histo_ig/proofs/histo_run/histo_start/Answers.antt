use Rattle.std.proofs.Common.{◌≡◌, [], ◌∷◌, arith, map, sym, ap, ◌∙◌, subst}
use Rattle.std.specs.List.{range_with_len}
use Rattle.round_program.specs.Canonical.{InRound}
use Rattle.app_histo_ig.specs.Histos.{histo_rules}
use Rattle.app_histo_ig.specs.HistoRuns.{histo_begins, histo_starts}
use Rattle.sparse_rows.proofs.Starts.{made_more}
use Rattle.app_histo_ig.proofs.HistoOwners.{starts_in_round}
use Rattle.app_histo_ig.proofs.histo_run.histo_start.Goals as goal

pub loop-rank-preserved : goal.loop-rank-preserved
loop-rank-preserved c =
    made_more (histo_begins c.args.ranks c.args.m.now) c.loop-rank.rank c.loop-rank.progs c.add.new.self c.in_ok-part_of.field-0 c.loop-rank.invariant c.in_ok-part_of.ensures c.in_ok-add.ensures.added

pub returns-clause-begins : goal.returns-clause-begins
returns-clause-begins c =
    let all : c.loop-rank.rank ≡ c.args.ranks = omega arith in
    let is : c.loop-rank.progs ≡ histo_starts c.args.ranks c.args.m.now = c.loop-rank.invariant ∙ ap (λ n. map (histo_begins c.args.ranks c.args.m.now) (range_with_len 0 n)) all in
    subst (InRound histo_rules c.args.ranks 0 (c.args.m.now.cols ∷ []) 1) (sym is) (starts_in_round c.args.ranks c.args.m.now c.known.ensures)
