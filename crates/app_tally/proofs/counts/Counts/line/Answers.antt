use Rattle.std.proofs.Common.{◌<◌, slice_get, length, map, sym, ap, subst, ◌∙◌}
use Rattle.app_tally.proofs.Counted.{entries_count, line_of}
use Rattle.app_tally.proofs.counts.Counts.line.Goals as goal

pub at-requires : goal.at-requires
at-requires c =
    subst (λ n. c.args.i < n) (entries_count c.self.inside.lines c.self.inside.times.items c.self.invariant ∙ c.self.invariant.same) (subst (λ es. c.args.i < length es) (sym c.self.view_is) c.requires)

pub returns : goal.returns
returns c =
    ap (λ es. slice_get (map (λ e. e.0) es) c.args.i) (sym c.self.view_is)
    ∙ line_of c.self.inside.lines c.self.inside.times.items c.args.i c.at.result.now c.self.invariant c.at.ensures
