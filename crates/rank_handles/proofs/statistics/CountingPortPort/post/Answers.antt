use Rattle.std.proofs.Common.{◌≡◌, sym, ap, ◌∙◌, Ok}
use Rattle.item_buffer.specs.Contents.{as_shipped}
use Rattle.rank_handles.specs.Statistics.{sent_one}
use Rattle.rank_handles.proofs.Counting.{statistics_sent, statistics_same}
use Rattle.rank_handles.proofs.statistics.CountingPortPort.post.Goals as goal

pub invariant_of-self-in-Sent : goal.invariant_of-self-in-Sent
invariant_of-self-in-Sent g c =
    let x = c.args.self.now.port.seat in
    let z = c.post.new.self.seat in
    let sent = c.in_ok-posted.ensures.posts.sent (ap Ok c.in-Sent.is) in
    record {
      counted = c.sent.ensures
          ∙ ((λ k. sent_one (c.len-items.ensures.value k) (c.args.self.now.counted k))
          ∙ statistics_sent x z c.args.link (as_shipped c.args.p.now) c.requires.may.link c.post.ensures.posts.same_port.dims sent c.post.ensures.posts.same_ins.got);
    }

pub invariant_of-self-in-NoRoom : goal.invariant_of-self-in-NoRoom
invariant_of-self-in-NoRoom g c =
    let sent = c.in_ok-posted.ensures.posts.not_sent (λ e. let k = sym (ap Ok c.in-NoRoom.is) ∙ e in cc) in
    record { counted = c.args.self.now.counted ∙ statistics_same c.args.self.now.port.seat c.post.new.self.seat c.post.ensures.posts.same_port.dims sent c.post.ensures.posts.same_ins.got }
