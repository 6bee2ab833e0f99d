use Rattle.std.proofs.Common.{List, Bor, map, ap, ◌∙◌}
use Rattle.std.specs.List.{flat_map}
use Rattle.std.proofs.lemmas.List.{take_all}
use Rattle.bale_items.specs.declared.triple.Triple.{Triple}
use Rattle.mtx_text.specs.Cells.{gathered_cells, together}
use Rattle.mtx_text.proofs.Gathered.{gathered_permutes}
use Rattle.mtx_text.proofs.MapsTogether.{maps_more}
use Rattle.mtx_text.proofs.cells.Cells.of_maps.Goals as goal

abbrev now : Bor (List Triple) → List Triple
now list = list.now

pub loop-m-init : goal.loop-m-init
loop-m-init c = ap (λ l. gathered_cells (flat_map now l)) c.in_ok-lists.ensures.items

pub loop-m-preserved : goal.loop-m-preserved
loop-m-preserved c =
    maps_more now now c.args.maps.now c.loop-m.m-index c.m-item.result c.loop-m.lists.items c.push.new.self.items c.as_they_came.result c.loop-m-test.true c.m-item.is
    c.in_ok-push.ensures.items c.as_they_came.ensures c.loop-m.invariant

pub returns : goal.returns
returns c =
    gathered_permutes (flat_map now c.loop-m.lists.items) c.in_ok-triples.triples.items c.in_ok-triples.ensures
    ∙ c.loop-m.invariant
    ∙ ap (λ l. together (map now l)) (take_all c.loop-m.m-index c.args.maps.now c.loop-m-test.false)
