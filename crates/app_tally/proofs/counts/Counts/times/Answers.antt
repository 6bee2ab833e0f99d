use Rattle.std.proofs.Common.{◌<◌, slice_get, length, map, rules, refl, sym, ap, subst, ◌∙◌}
use Rattle.std.proofs.lemmas.Option.{slice_get_read}
use Rattle.app_tally.proofs.Counted.{entries_count, times_of}
use Rattle.app_tally.proofs.counts.Counts.times.Goals as goal

pub index-requires : goal.index-requires
index-requires c =
    let low : c.args.i < length c.self.inside.times.items =
    subst (λ n. c.args.i < n) (entries_count c.self.inside.lines c.self.inside.times.items c.self.invariant) (subst (λ es. c.args.i < length es) (sym c.self.view_is) c.requires) in
    search rules

pub returns : goal.returns
returns c =
    let low : c.args.i < length c.self.inside.times.items =
    subst (λ n. c.args.i < n) (entries_count c.self.inside.lines c.self.inside.times.items c.self.invariant) (subst (λ es. c.args.i < length es) (sym c.self.view_is) c.requires) in
    ap (λ es. slice_get (map (λ e. e.1) es) c.args.i) (sym c.self.view_is)
    ∙ times_of c.self.inside.lines c.self.inside.times.items c.args.i c.index.result.now c.self.invariant
    (slice_get_read c.self.inside.times.items (length c.self.inside.times.items) c.args.i c.index.result.now refl low c.index.ensures)
