use Rattle.std.proofs.Common.{◌+◌, ◌/◌, replicate, sym, ap, ◌∙◌, subst}
use Rattle.std.specs.List.{flat_map}
use Rattle.sparse_rows.proofs.Starts.{own_part, part_below}
use Rattle.app_topo.specs.Topos.{IsTopo}
use Rattle.app_topo.specs.TopoRuns.{first_sent}
use Rattle.app_topo.specs.code.TopoSent.{for_both}
use Rattle.app_topo.proofs.TopoKept.{both_first}
use Rattle.app_topo.proofs.TopoStart.{begins_valid, begins_is}
use Rattle.app_topo.proofs.topo_run.part_of.Goals as goal

pub entries_of-requires : goal.entries_of-requires
entries_of-requires c = part_below c.args.ranks c.args.rank c.args.m.now.entries c.args.parts.now c.requires.part.below c.requires.part.dealt

pub new-requires : goal.new-requires
new-requires c =
    let own = own_part c.args.ranks c.args.rank c.args.m.now.entries c.args.parts.now c.requires.part.below c.requires.part.dealt in
    subst IsTopo (sym (begins_is c.args.ranks c.args.m.now c.args.rank _ _ _ _ _ c.rows-2.ensures
    (c.in_ok-zeros.ensures ∙ ap (λ n. replicate (n / c.args.ranks + 1) 0) c.rows.ensures) (c.in_ok-zeros-2.ensures ∙ ap (λ n. replicate (n / c.args.ranks + 1) 0) c.rows.ensures) (c.in_ok-zeros-3.ensures ∙ ap (λ n. replicate (n / c.args.ranks + 1) 0) c.rows.ensures)
    (ap (flat_map (for_both c.args.ranks)) c.in_ok-entries_of.ensures ∙ both_first c.args.ranks _ ∙ ap (flat_map (first_sent c.args.ranks)) own)))
    (begins_valid c.args.ranks c.args.m.now c.args.rank c.requires.part.below c.requires.square c.known.ensures)

pub returns : goal.returns
returns c =
    let own = own_part c.args.ranks c.args.rank c.args.m.now.entries c.args.parts.now c.requires.part.below c.requires.part.dealt in
    c.new.ensures
    ∙ begins_is c.args.ranks c.args.m.now c.args.rank _ _ _ _ _ c.rows-2.ensures
    (c.in_ok-zeros.ensures ∙ ap (λ n. replicate (n / c.args.ranks + 1) 0) c.rows.ensures) (c.in_ok-zeros-2.ensures ∙ ap (λ n. replicate (n / c.args.ranks + 1) 0) c.rows.ensures) (c.in_ok-zeros-3.ensures ∙ ap (λ n. replicate (n / c.args.ranks + 1) 0) c.rows.ensures)
    (ap (flat_map (for_both c.args.ranks)) c.in_ok-entries_of.ensures ∙ both_first c.args.ranks _ ∙ ap (flat_map (first_sent c.args.ranks)) own)
