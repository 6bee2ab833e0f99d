use Rattle.std.proofs.Common.{map, sym, ap, ◌∙◌, subst}
use Rattle.sparse_rows.specs.Owners.{Numbered, own_entries}
use Rattle.sparse_rows.proofs.Starts.{own_part, part_below}
use Rattle.app_permute.specs.Reorderings.{over_diagonal}
use Rattle.app_permute.specs.code.Sent.{permute_sent}
use Rattle.app_permute.specs.Transposes.{IsTransposing}
use Rattle.app_permute.proofs.Sent.{turned_sent}
use Rattle.app_permute.proofs.TransposeOwners.{begins_valid, begins_is}
use Rattle.app_permute.proofs.transpose_run.part_of.Goals as goal

pub turned_of-requires : goal.turned_of-requires
turned_of-requires c = part_below c.args.ranks c.args.rank c.args.m.now.entries c.args.parts.now c.requires.below c.requires.dealt

pub new-requires : goal.new-requires
new-requires c =
    let own = own_part c.args.ranks c.args.rank c.args.m.now.entries c.args.parts.now c.requires.below c.requires.dealt in
    subst IsTransposing (sym (begins_is c.args.ranks c.args.m.now c.args.rank _ _ _ c.cols.ensures c.rows.ensures
    (ap (permute_sent 0 c.args.ranks) (c.in_ok-outgoing.ensures ∙ ap (map (λ (e : Numbered). over_diagonal e.1)) own) ∙ turned_sent c.args.ranks (own_entries c.args.ranks c.args.rank c.args.m.now.entries))))
    (begins_valid c.args.ranks c.args.m.now c.args.rank c.requires.below c.known.ensures)

pub returns : goal.returns
returns c =
    let own = own_part c.args.ranks c.args.rank c.args.m.now.entries c.args.parts.now c.requires.below c.requires.dealt in
    c.new.ensures
    ∙ begins_is c.args.ranks c.args.m.now c.args.rank _ _ _ c.cols.ensures c.rows.ensures
    (ap (permute_sent 0 c.args.ranks) (c.in_ok-outgoing.ensures ∙ ap (map (λ (e : Numbered). over_diagonal e.1)) own) ∙ turned_sent c.args.ranks (own_entries c.args.ranks c.args.rank c.args.m.now.entries))
