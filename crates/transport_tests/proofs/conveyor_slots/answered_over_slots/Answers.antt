use Rattle.std.proofs.Common.{◌∙◌, ap, rules}
use Rattle.item_buffer.specs.Contents.{Contents}
use Rattle.route_tensor.specs.Link.{links}
use Rattle.link_slots.specs.Shape.{shipped_all}
use Rattle.link_slots.specs.SeatView.{posted_on, collected_from}
use Rattle.link_slots.proofs.Opening.{no_sent, no_got}
use Rattle.transport_tests.proofs.conveyor_slots.answered_over_slots.Goals as goal

pub at_port-requires : goal.at_port-requires
at_port-requires c =
    let made = c.port.ensures.seat ∙ c.seat.ensures.seat in
    let none = links c.in_ok-bank.bank.shape.dims in
    record {
      begins = record {
        same_dims = search rules;
        one_hop = search rules;
        low = search rules;
        none_sent = ap posted_on made ∙ ap shipped_all (no_sent Contents none);
        none_got = ap collected_from made ∙ ap shipped_all (no_got Contents none);
      };
    }

pub at_port-requires-2 : goal.at_port-requires-2
at_port-requires-2 c =
    let made = c.port-2.ensures.seat ∙ c.seat-2.ensures.seat in
    let none = links c.in_ok-bank.bank.shape.dims in
    record {
      begins = record {
        same_dims = search rules;
        one_hop = search rules;
        low = search rules;
        none_sent = ap posted_on made ∙ ap shipped_all (no_sent Contents none);
        none_got = ap collected_from made ∙ ap shipped_all (no_got Contents none);
      };
    }
