use Rattle.std.proofs.Common.{true≢false, ap, ◌∙◌}
use Rattle.item_buffer.specs.Contents.{as_shipped}
use Rattle.port_bank.specs.Port.{Others}
use Rattle.link_slots.specs.SeatView.{posted_on, collected_from}
use Rattle.rank_group.proofs.NotedMoves.{no_less_same, not_same, no_less_collected, has_collected, collects_among}
use Rattle.rank_group.proofs.noting.NotingPortPort.collect.Goals as goal

pub invariant_of-self : goal.invariant_of-self
invariant_of-self g c =
    let x = c.args.self.now.first.value.seat in
    let y = c.args.self.now.port.seat in
    let z = c.collect-collected.new.self.seat in
    let got = c.collect-collected.ensures.collects.got c.in-Got.is in
    record {
      noted = λ none. absurd (true≢false none);
      grew = no_less_collected x y z c.args.link (as_shipped c.collect-collected.new.p) c.args.self.now.grew c.collect-collected.ensures.collects.same_outs.sent got;
      went = λ some. has_collected x y z c.args.link (as_shipped c.collect-collected.new.p) c.args.self.now.grew got;
    }

pub invariant_of-self-in-Nothing : goal.invariant_of-self-in-Nothing
invariant_of-self-in-Nothing g c =
    let x = c.args.self.now.first.value.seat in
    let y = c.args.self.now.port.seat in
    let z = c.collect-collected.new.self.seat in
    let got = c.collect-collected.ensures.collects.not_got c.in-Nothing.is in
    let sent = c.collect-collected.ensures.collects.same_outs.sent in
    record {
      noted = λ none. let same = c.args.self.now.noted none in record { sent = sent ∙ same.sent; got = got ∙ same.got };
      grew = no_less_same x y z c.args.self.now.grew sent got;
      went = λ some. not_same x y z (c.args.self.now.went some) sent got;
    }

pub returns-in-Got-clause-collects : goal.returns-in-Got-clause-collects
returns-in-Got-clause-collects g c =
    let x = c.args.self.now.first.value.seat in
    collects_among g.row.CAP _ c.args.link _ _ _ _ _ _ (ap (λ (o : Others). record { bank = o.bank; sent = posted_on x; got = collected_from x }) c.collect-collected.ensures.collects.same_port.others)
    c.collect-collected.ensures.collects

pub returns-in-Nothing-clause-collects : goal.returns-in-Nothing-clause-collects
returns-in-Nothing-clause-collects g c =
    let x = c.args.self.now.first.value.seat in
    collects_among g.row.CAP _ c.args.link _ _ _ _ _ _ (ap (λ (o : Others). record { bank = o.bank; sent = posted_on x; got = collected_from x }) c.collect-collected.ensures.collects.same_port.others)
    c.collect-collected.ensures.collects
