use Rattle.std.proofs.Common.{◌∙◌, ◌≤◌, ap, sym, subst}
use Rattle.std.specs.Option.{option_copied}
use Rattle.app_histo_ig.proofs.HistoOwners.{rank_found, rank_cols}
use Rattle.app_histo_ig.proofs.histo_run.columns_counted.Goals as goal

pub unreachable-requires : goal.unreachable-requires
unreachable-requires c =
    rank_found c.requires.0 c.args.p.now c.requires.1 0 c.requires.1.some (sym c.get.ensures ∙ ap option_copied c.in_default.is)

pub returns-clause-columns : goal.returns-clause-columns
returns-clause-columns c = λ m h.
    c.cols.ensures ∙ rank_cols m c.args.p.now h 0 c.in-Some.first.now h.some (sym c.get.ensures ∙ ap option_copied c.in-Some.is)

pub returns-clause-few : goal.returns-clause-few
returns-clause-few c =
    subst (λ n. n ≤ 16384) (sym (c.cols.ensures ∙ rank_cols c.requires.0 c.args.p.now c.requires.1 0 c.in-Some.first.now c.requires.1.some (sym c.get.ensures ∙ ap option_copied c.in-Some.is)))
    c.requires.1.matrix.wide
