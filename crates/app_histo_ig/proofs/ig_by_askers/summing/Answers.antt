use Rattle.std.proofs.Common.{◌+◌, ◌/◌, map, replicate, sym, ap, ◌∙◌, subst}
use Rattle.sparse_rows.specs.Owners.{own_entries}
use Rattle.app_histo_ig.specs.code.IgSent.{own_entry, to_add}
use Rattle.app_histo_ig.specs.Sums.{IsSums}
use Rattle.sparse_rows.proofs.Starts.{own_part, part_below}
use Rattle.app_histo_ig.proofs.IgSent.{own_values}
use Rattle.app_histo_ig.proofs.SumsStarts.{begins_valid, begins_is}
use Rattle.app_histo_ig.proofs.ig_by_askers.summing.Goals as goal

pub own_of-requires : goal.own_of-requires
own_of-requires c = part_below c.args.ranks c.args.rank c.args.m.now.entries c.args.parts.now c.requires.below c.requires.dealt

pub new-requires : goal.new-requires
new-requires c =
    let own = own_part c.args.ranks c.args.rank c.args.m.now.entries c.args.parts.now c.requires.below c.requires.dealt in
    subst IsSums (sym (begins_is c.args.ranks c.args.m.now c.args.rank c.cols-2.result (map (to_add c.args.ranks) c.in_ok-own.own.items) c.in_ok-sums.sums.items c.cols-2.ensures
    (ap (map (to_add c.args.ranks)) (c.in_ok-own.ensures ∙ ap (map own_entry) own) ∙ own_values c.args.ranks (own_entries c.args.ranks c.args.rank c.args.m.now.entries))
    (c.in_ok-sums.ensures ∙ ap (λ n. replicate (n / c.args.ranks + 1) 0) c.cols.ensures)))
    (begins_valid c.args.ranks c.args.m.now c.args.rank c.requires.below c.known.ensures)

pub returns : goal.returns
returns c =
    let own = own_part c.args.ranks c.args.rank c.args.m.now.entries c.args.parts.now c.requires.below c.requires.dealt in
    c.new.ensures
    ∙ begins_is c.args.ranks c.args.m.now c.args.rank c.cols-2.result (map (to_add c.args.ranks) c.in_ok-own.own.items) c.in_ok-sums.sums.items c.cols-2.ensures
    (ap (map (to_add c.args.ranks)) (c.in_ok-own.ensures ∙ ap (map own_entry) own) ∙ own_values c.args.ranks (own_entries c.args.ranks c.args.rank c.args.m.now.entries))
    (c.in_ok-sums.ensures ∙ ap (λ n. replicate (n / c.args.ranks + 1) 0) c.cols.ensures)
