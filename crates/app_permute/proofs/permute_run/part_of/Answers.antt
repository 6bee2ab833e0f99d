use Rattle.std.proofs.Common.{map, sym, ap, ◌∙◌, subst}
use Rattle.sparse_rows.specs.Owners.{Numbered, own_entries}
use Rattle.sparse_rows.proofs.Starts.{own_part, part_below}
use Rattle.app_permute.specs.Permutes.{IsPermuting}
use Rattle.app_permute.specs.code.Sent.{permute_sent}
use Rattle.app_permute.proofs.PermuteOwners.{begins_valid, begins_is}
use Rattle.app_permute.proofs.Sent.{entries_sent}
use Rattle.app_permute.proofs.permute_run.part_of.Goals as goal

pub cells_of-requires : goal.cells_of-requires
cells_of-requires c = part_below c.args.ranks c.args.rank c.args.m.now.entries c.args.parts.now c.requires.part.below c.requires.part.dealt

pub new-requires : goal.new-requires
new-requires c =
    let own = own_part c.args.ranks c.args.rank c.args.m.now.entries c.args.parts.now c.requires.part.below c.requires.part.dealt in
    subst IsPermuting (sym (begins_is c.args.ranks c.args.m.now c.args.rp.now c.args.cp.now c.args.rank _ _ _ _ _ c.rows.ensures c.cols.ensures
    c.in_ok-own_numbers.ensures c.in_ok-own_numbers-2.ensures
    (ap (permute_sent 0 c.args.ranks) (c.in_ok-cells_of.ensures ∙ ap (map (λ (e : Numbered). e.1)) own) ∙ entries_sent c.args.ranks (own_entries c.args.ranks c.args.rank c.args.m.now.entries))))
    (begins_valid c.args.ranks c.args.m.now c.args.rp.now c.args.cp.now c.args.rank c.requires.part.below c.known.ensures c.requires.rows c.requires.cols)

pub returns : goal.returns
returns c =
    let own = own_part c.args.ranks c.args.rank c.args.m.now.entries c.args.parts.now c.requires.part.below c.requires.part.dealt in
    c.new.ensures
    ∙ begins_is c.args.ranks c.args.m.now c.args.rp.now c.args.cp.now c.args.rank _ _ _ _ _ c.rows.ensures c.cols.ensures
    c.in_ok-own_numbers.ensures c.in_ok-own_numbers-2.ensures
    (ap (permute_sent 0 c.args.ranks) (c.in_ok-cells_of.ensures ∙ ap (map (λ (e : Numbered). e.1)) own) ∙ entries_sent c.args.ranks (own_entries c.args.ranks c.args.rank c.args.m.now.entries))
