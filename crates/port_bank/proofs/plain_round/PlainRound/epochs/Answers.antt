use Rattle.std.proofs.Common.{◌≡◌, ◌<◌, List, length, map, ap, ◌∙◌, arith}
use Rattle.std.proofs.lemmas.List.{length-map}
use Rattle.route_tensor.specs.Link.{links}
use Rattle.list_laws.specs.Counts.{saturated_count}
use Rattle.port_bank.specs.Plain.{Channel}
use Rattle.port_bank.specs.Round.{ended_by_all, epochs_of}
use Rattle.port_bank.proofs.Closing.{some_links, least_more, least_all}
use Rattle.port_bank.proofs.plain_round.PlainRound.epochs.Goals as goal

pub loop-link-preserved : goal.loop-link-preserved
loop-link-preserved c = record {
  none = λ h. absurd (omega arith);
  some = λ h. c.min-least.ensures ∙ least_more c.deref-link-items.result.now c.loop-link.link-index c.loop-link.least c.ended.result c.link-item.result
      c.loop-link-test.true c.link-item.is c.loop-link.invariant.none c.loop-link.invariant.some c.ended.ensures;
}

pub returns-clause-value : goal.returns-clause-value
returns-clause-value c =
    let items : List Channel = c.self.inside.links.items in
    let some : 0 < links c.self.inside.grid = some_links c.self.inside.grid c.self.invariant.grid in
    let number : length (map (λ (x : Channel). x.got) items) ≡ links c.self.inside.grid = c.self.invariant.all_got in
    let same : length (map (λ (x : Channel). x.got) items) ≡ length items = length-map items (λ x. x.got) in
    let read : length c.deref-link-items.result.now ≡ length items = ap length c.deref-link-items.ensures.value in
    least_all c.deref-link-items.result.now c.loop-link.link-index c.loop-link.least (omega arith) c.loop-link-test.false c.loop-link.invariant.some
    ∙ (ap (λ (xs : List Channel). saturated_count (ended_by_all (map (λ x. x.got) xs))) c.deref-link-items.ensures.value ∙ ap (λ x. saturated_count (epochs_of x)) c.self.view_is)
