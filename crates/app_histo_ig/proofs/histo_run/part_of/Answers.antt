use Rattle.std.proofs.Common.{◌≡◌, ◌+◌, ◌/◌, ◌<◌, All, map, replicate, sym, ap, ◌∙◌, subst}
use Rattle.sparse_rows.specs.Owners.{Numbered, own_entries}
use Rattle.sparse_rows.proofs.Starts.{own_part, part_below}
use Rattle.app_histo_ig.proofs.HistoOwners.{begins_named, begins_is}
use Rattle.app_histo_ig.proofs.histo_run.part_of.Goals as goal

pub columns_of-requires : goal.columns_of-requires
columns_of-requires c = part_below c.args.ranks c.args.rank c.args.m.now.entries c.args.parts.now c.requires.below c.requires.dealt

pub new-requires-clause-named : goal.new-requires-clause-named
new-requires-clause-named c =
    let is : c.in_ok-columns.columns.items ≡ map (λ (e : Numbered). e.1.j) (own_entries c.args.ranks c.args.rank c.args.m.now.entries) =
    c.in_ok-columns.ensures ∙ ap (map (λ (e : Numbered). e.1.j)) (own_part c.args.ranks c.args.rank c.args.m.now.entries c.args.parts.now c.requires.below c.requires.dealt) in
    subst (λ n. All (λ j. j < n) c.in_ok-columns.columns.items) (sym c.cols-2.ensures)
    (subst (All (λ j. j < c.args.m.now.cols)) (sym is) (begins_named c.args.ranks c.args.m.now c.args.rank c.known.ensures))

pub returns : goal.returns
returns c =
    let is : c.in_ok-columns.columns.items ≡ map (λ (e : Numbered). e.1.j) (own_entries c.args.ranks c.args.rank c.args.m.now.entries) =
    c.in_ok-columns.ensures ∙ ap (map (λ (e : Numbered). e.1.j)) (own_part c.args.ranks c.args.rank c.args.m.now.entries c.args.parts.now c.requires.below c.requires.dealt) in
    c.new.ensures
    ∙ begins_is c.args.ranks c.args.m.now c.args.rank c.cols-2.result c.in_ok-columns.columns.items c.in_ok-counts.counts.items c.cols-2.ensures is
    (c.in_ok-counts.ensures ∙ ap (λ n. replicate (n / c.args.ranks + 1) 0) c.cols.ensures)
