use Rattle.std.proofs.Common.{◌≡◌, ap, ◌∙◌}
use Rattle.item_buffer.specs.Contents.{as_shipped}
use Rattle.rank_handles.specs.Statistics.{received_one}
use Rattle.rank_handles.proofs.Counting.{statistics_received, statistics_same}
use Rattle.rank_handles.proofs.statistics.CountingPortPort.collect.Goals as goal

pub invariant_of-self : goal.invariant_of-self
invariant_of-self g c =
    let x = c.args.self.now.port.seat in
    let z = c.collect-collected.new.self.seat in
    let told = c.collect-collected.ensures.collects in
    record {
      counted = c.received.ensures
          ∙ ((λ k. received_one (c.len.ensures.value k) (c.args.self.now.counted k))
          ∙ statistics_received x z c.args.link (as_shipped c.collect-collected.new.p) c.requires.may.link told.same_port.dims told.same_outs.sent (told.got c.in-Got.is));
    }

pub invariant_of-self-in-Nothing : goal.invariant_of-self-in-Nothing
invariant_of-self-in-Nothing g c =
    let told = c.collect-collected.ensures.collects in
    record { counted = c.args.self.now.counted ∙ statistics_same c.args.self.now.port.seat c.collect-collected.new.self.seat told.same_port.dims told.same_outs.sent (told.not_got c.in-Nothing.is) }
