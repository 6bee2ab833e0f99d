use Rattle.std.proofs.Common.{ℕ, ◌+◌, ◌/◌, length, map, replicate, sym, ap, ◌∙◌, subst}
use Rattle.sparse_rows.specs.Owners.{own_entries}
use Rattle.app_histo_ig.specs.Igs.{IsIg}
use Rattle.app_histo_ig.specs.code.IgSent.{own_entry, number_and_column, to_add}
use Rattle.sparse_rows.proofs.Starts.{own_part, part_below}
use Rattle.app_histo_ig.proofs.IgRounds.{begins_valid, begins_is}
use Rattle.app_histo_ig.proofs.IgSent.{own_numbers, own_values}
use Rattle.app_histo_ig.proofs.ig_run.part_of.Goals as goal

pub own_of-requires : goal.own_of-requires
own_of-requires c = part_below c.args.ranks c.args.rank c.args.m.now.entries c.args.parts.now c.requires.below c.requires.dealt

pub len-requires : goal.len-requires
len-requires c = part_below c.args.ranks c.args.rank c.args.m.now.entries c.args.parts.now c.requires.below c.requires.dealt

pub len-requires-2 : goal.len-requires-2
len-requires-2 c = part_below c.args.ranks c.args.rank c.args.m.now.entries c.args.parts.now c.requires.below c.requires.dealt

pub new-requires : goal.new-requires
new-requires c =
    let own = own_part c.args.ranks c.args.rank c.args.m.now.entries c.args.parts.now c.requires.below c.requires.dealt in
    subst IsIg (sym (begins_is c.args.ranks c.args.m.now c.args.rank c.cols-2.result _ _ _ _ _ c.cols-2.ensures
    (ap (map number_and_column) (c.in_ok-own_of.ensures ∙ ap (map own_entry) own) ∙ own_numbers (own_entries c.args.ranks c.args.rank c.args.m.now.entries))
    (c.in_ok-zeros.ensures ∙ ap (λ n. replicate (n / c.args.ranks + 1) 0) c.cols.ensures)
    c.in_ok-no_queries.ensures
    (ap (map (to_add c.args.ranks)) (c.in_ok-own_of.ensures ∙ ap (map own_entry) own) ∙ own_values c.args.ranks (own_entries c.args.ranks c.args.rank c.args.m.now.entries))
    (c.in_ok-zeros-2.ensures ∙ ap (λ n. replicate n 0) (c.len-2.ensures ∙ ap length own))))
    (begins_valid c.args.ranks c.args.m.now c.args.rank c.requires.below c.known.ensures)

pub returns : goal.returns
returns c =
    let own = own_part c.args.ranks c.args.rank c.args.m.now.entries c.args.parts.now c.requires.below c.requires.dealt in
    c.new.ensures
    ∙ begins_is c.args.ranks c.args.m.now c.args.rank c.cols-2.result _ _ _ _ _ c.cols-2.ensures
    (ap (map number_and_column) (c.in_ok-own_of.ensures ∙ ap (map own_entry) own) ∙ own_numbers (own_entries c.args.ranks c.args.rank c.args.m.now.entries))
    (c.in_ok-zeros.ensures ∙ ap (λ n. replicate (n / c.args.ranks + 1) 0) c.cols.ensures)
    c.in_ok-no_queries.ensures
    (ap (map (to_add c.args.ranks)) (c.in_ok-own_of.ensures ∙ ap (map own_entry) own) ∙ own_values c.args.ranks (own_entries c.args.ranks c.args.rank c.args.m.now.entries))
    (c.in_ok-zeros-2.ensures ∙ ap (λ n. replicate n 0) (c.len-2.ensures ∙ ap length own))
