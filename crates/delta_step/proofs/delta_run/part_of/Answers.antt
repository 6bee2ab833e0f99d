use Rattle.std.proofs.Common.{ℕ, ◌<◌, arith, ◌+◌, ◌/◌, ◌==◌, ◌%◌, cond, map, replicate, sym, ap, ◌∙◌, subst}
use Rattle.bale_items.specs.declared.Item.{Item}
use Rattle.sparse_rows.specs.Owners.{Numbered, row_owner}
use Rattle.sparse_rows.proofs.Starts.{own_part, part_below}
use Rattle.sparse_rows.proofs.Places.{place_below}
use Rattle.least_walks.specs.Vertices.{unreached_vertex, improved_at}
use Rattle.delta_step.specs.Deltas.{IsDelta}
use Rattle.app_sssp.specs.SsspRuns.{edge_item}
use Rattle.delta_step.proofs.Begins.{begins_valid, begins_is}
use Rattle.delta_step.proofs.delta_run.part_of.Goals as goal

pub vertices_of-requires-clause-place : goal.vertices_of-requires-clause-place
vertices_of-requires-clause-place c =
    let rank : c.args.rank < c.args.ranks = c.requires.part.below in
    subst (λ n. c.args.source / c.args.ranks < n / c.args.ranks + 1) (sym c.rows.ensures)
    (place_below c.args.ranks c.args.m.now.rows c.args.source (omega arith) c.requires.source.within)

pub edges_of-requires-clause-rank : goal.edges_of-requires-clause-rank
edges_of-requires-clause-rank c = part_below c.args.ranks c.args.rank c.args.m.now.entries c.args.parts.now c.requires.part.below c.requires.part.dealt

pub new-requires : goal.new-requires
new-requires c =
    let own = own_part c.args.ranks c.args.rank c.args.m.now.entries c.args.parts.now c.requires.part.below c.requires.part.dealt in
    subst IsDelta
    (sym (begins_is c.args.ranks c.args.m.now c.args.source c.args.delta c.args.rank c.rows-rows.result c.in_ok-vertices.vertices c.in_ok-outgoing.outgoing.items c.rows-rows.ensures
    (c.in_ok-vertices.ensures ∙ ap (λ n. cond (c.args.source % c.args.ranks == c.args.rank) (improved_at (c.args.source / c.args.ranks) 0 (replicate (n / c.args.ranks + 1) unreached_vertex)) (replicate (n / c.args.ranks + 1) unreached_vertex)) c.rows.ensures)
    (c.in_ok-outgoing.ensures ∙ ap (map {B = ℕ × Item} (λ (e : Numbered). (row_owner c.args.ranks e, edge_item e))) own)))
    (begins_valid c.args.ranks c.args.m.now c.args.source c.args.delta c.args.rank c.requires.part.below c.requires.width.positive c.requires.width.narrow c.known.ensures c.requires.source.square)

pub returns : goal.returns
returns c =
    let own = own_part c.args.ranks c.args.rank c.args.m.now.entries c.args.parts.now c.requires.part.below c.requires.part.dealt in
    c.new.ensures
    ∙ begins_is c.args.ranks c.args.m.now c.args.source c.args.delta c.args.rank c.rows-rows.result c.in_ok-vertices.vertices c.in_ok-outgoing.outgoing.items c.rows-rows.ensures
    (c.in_ok-vertices.ensures ∙ ap (λ n. cond (c.args.source % c.args.ranks == c.args.rank) (improved_at (c.args.source / c.args.ranks) 0 (replicate (n / c.args.ranks + 1) unreached_vertex)) (replicate (n / c.args.ranks + 1) unreached_vertex)) c.rows.ensures)
    (c.in_ok-outgoing.ensures ∙ ap (map {B = ℕ × Item} (λ (e : Numbered). (row_owner c.args.ranks e, edge_item e))) own)
