use Rattle.std.proofs.Common.{◌∙◌, ◌≤◌, ap, sym, subst}
use Rattle.std.specs.Option.{option_copied}
use Rattle.app_sssp.proofs.Owners.{rank_found, rank_rows}
use Rattle.app_sssp.proofs.sssp_run.vertices_in.Goals as goal

pub unreachable-requires : goal.unreachable-requires
unreachable-requires c =
    rank_found c.requires.0 c.requires.1 c.args.p.now c.requires.2 0 c.requires.2.some (sym c.get.ensures ∙ ap option_copied c.in_default.is)

pub returns-clause-rows : goal.returns-clause-rows
returns-clause-rows c = λ m source h. c.rows.ensures ∙ rank_rows m source c.args.p.now h c.in-Some.first.now (sym c.get.ensures ∙ ap option_copied c.in-Some.is)

pub returns-clause-few : goal.returns-clause-few
returns-clause-few c =
    subst (λ n. n ≤ 16384) (sym (c.rows.ensures ∙ rank_rows c.requires.0 c.requires.1 c.args.p.now c.requires.2 c.in-Some.first.now (sym c.get.ensures ∙ ap option_copied c.in-Some.is)))
    c.requires.2.graph.matrix.tall
