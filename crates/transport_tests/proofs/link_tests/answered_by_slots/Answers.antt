use Rattle.std.proofs.Common.{◌∙◌, refl, ap, rules}
use Rattle.item_buffer.specs.Contents.{Contents}
use Rattle.route_tensor.specs.Link.{links}
use Rattle.link_slots.specs.Shape.{shipped_all}
use Rattle.link_slots.specs.SeatView.{posted_on, collected_from}
use Rattle.link_slots.proofs.Opening.{no_sent, no_got}
use Rattle.transport_tests.proofs.ByHand.{begins}
use Rattle.transport_tests.proofs.link_tests.answered_by_slots.Goals as goal

pub new-requires-3 : goal.new-requires-3
new-requires-3 c =
    let made = c.port.ensures.seat ∙ c.seat.ensures.seat in
    let none = links c.in_ok-bank.bank.shape.dims in
    let there = c.port.result.seat in
    let begun = begins there.shape.dims there.rank (posted_on there) (collected_from there)
    (ap posted_on made ∙ ap shipped_all (no_sent Contents none)) (ap collected_from made ∙ ap shipped_all (no_got Contents none)) in
    record {
      new = record {
        same_dims = search rules;
        is_grid = c.in-Ok.ensures.grid;
        law = begun.0;
        none_sent = begun.1;
        none_got = begun.2;
        out_empty = refl;
        into_empty = refl;
      };
    }
