use Rattle.std.proofs.Common.{ap, ◌∙◌, length}
use Rattle.std.proofs.lemmas.List.{length-map}
use Rattle.least_walks.specs.Tables.{offers_by_place}
use Rattle.least_walks.specs.Vertices.{calm}
use Rattle.app_sssp.specs.laws.SsspLaws.{table_after_len}
use Rattle.app_sssp.specs.code.SsspView.{sssp_state}
use Rattle.app_sssp.proofs.Steps.{stopped_valid, ended_from, marked_in}
use Rattle.app_sssp.proofs.sssp.SsspProgram.end_round.Goals as goal

pub put_offers-requires-clause-edges : goal.put_offers-requires-clause-edges
put_offers-requires-clause-edges c =
    marked_in (sssp_state c.self.inside) c.deref.result.now (length c.settle_edges.new.table) (c.deref.ensures.value ∙ c.take_improved-improved.ensures.places)
    (ap length c.in_ok-settle_edges.ensures.table ∙ table_after_len (sssp_state c.self.inside) c.self.invariant)

pub put_offers-requires-clause-weights : goal.put_offers-requires-clause-weights
put_offers-requires-clause-weights c =
    marked_in (sssp_state c.self.inside) c.deref.result.now (length c.take_improved-improved.new.self) (c.deref.ensures.value ∙ c.take_improved-improved.ensures.places)
    (ap length c.take_improved-improved.ensures.calm ∙ length-map c.self.inside.vertices calm)

pub invariant_of-self-in_err-put_offers : goal.invariant_of-self-in_err-put_offers
invariant_of-self-in_err-put_offers c =
    stopped_valid (sssp_state c.self.inside) c.settle_edges.new.arriving c.settle_edges.new.table c.take_improved-improved.new.self c.self.invariant
    c.in_ok-settle_edges.ensures.settled c.in_ok-settle_edges.ensures.table c.take_improved-improved.ensures.calm

pub invariant_of-self-2 : goal.invariant_of-self-2
invariant_of-self-2 c =
    ended_from (sssp_state c.self.inside) c.saturating_add-self-inside.result c.settle_edges.new.arriving c.settle_edges.new.table c.take_improved-improved.new.self c.swap.new.x.items
    c.self.invariant c.saturating_add-self-inside.ensures c.in_ok-settle_edges.ensures.settled c.in_ok-settle_edges.ensures.table c.take_improved-improved.ensures.calm
    (ap (λ v. v.items) c.swap.ensures.x_after ∙ c.in_ok-put_offers.ensures ∙ ap (offers_by_place c.settle_edges.new.table c.take_improved-improved.new.self) (c.deref.ensures.value ∙ c.take_improved-improved.ensures.places))
