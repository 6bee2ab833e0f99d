use Rattle.std.proofs.Common.{◌<◌, ◌^◌, map, arith, sym, ap, ◌∙◌, subst, All}
use Rattle.std.specs.Option.{option_copied}
use Rattle.bale_items.specs.declared.triple.Triple.{Triple}
use Rattle.bale_items.specs.Bits.{twos_complement}
use Rattle.app_topo.specs.declared.placed.Placed.{Placed}
use Rattle.app_topo.specs.TopoEnds.{cell_of_level, cell_place}
use Rattle.app_topo.proofs.TopoEnding.{rank_found, rank_cells, rank_levels, ranks_more, whole_claims, whole_small}
use Rattle.app_topo.proofs.topo_answer.all_placed.Goals as goal

pub unreachable-requires : goal.unreachable-requires
unreachable-requires c = rank_found c.args.m.now c.args.p.now c.requires.ended c.loop-rank.rank (omega arith) (sym c.get.ensures ∙ ap option_copied c.in_default.is)

pub raise_placed-requires : goal.raise_placed-requires
raise_placed-requires c =
    subst (All (λ (q : Placed). q.level < 2 ^ 32)) (sym c.claimed.ensures)
    (rank_levels c.args.m.now c.args.p.now c.requires.ended c.loop-rank.rank c.in-Some.program.now (omega arith) (sym c.get.ensures ∙ ap option_copied c.in-Some.is))

pub loop-rank-preserved : goal.loop-rank-preserved
loop-rank-preserved c =
    ranks_more _ c.args.m.now c.loop-rank.rank c.loop-rank.all c.raise_placed.new.all (map cell_of_level c.claimed.result.now) c.loop-rank.invariant
    (ap (map cell_of_level) c.claimed.ensures ∙ rank_cells c.args.m.now c.args.p.now c.requires.ended c.loop-rank.rank c.in-Some.program.now (omega arith) (sym c.get.ensures ∙ ap option_copied c.in-Some.is))
    c.in_ok-raise_placed.ensures

pub returns-clause-claims : goal.returns-clause-claims
returns-clause-claims c = ap (map cell_place) c.into_entries.ensures.entries ∙ whole_claims c.args.m.now c.args.p.now c.requires.ended c.loop-rank.all c.loop-rank.rank (omega arith) c.loop-rank.invariant

pub returns-clause-small : goal.returns-clause-small
returns-clause-small c =
    subst (All (λ (u : Triple). twos_complement u.v < 2 ^ 32)) (sym c.into_entries.ensures.entries) (whole_small c.args.m.now c.args.p.now c.requires.ended c.loop-rank.all c.loop-rank.rank (omega arith) c.loop-rank.invariant)
