use Rattle.std.proofs.Common.{true≢false, ap, Ok}
use Rattle.item_buffer.specs.Contents.{as_shipped}
use Rattle.port_bank.specs.Port.{Others}
use Rattle.link_slots.specs.SeatView.{posted_on, collected_from}
use Rattle.rank_group.proofs.NotedMoves.{no_less_posted, has_posted, posts_among}
use Rattle.rank_group.proofs.noting.NotingPortPort.post.Goals as goal

pub invariant_of-self-in-Sent : goal.invariant_of-self-in-Sent
invariant_of-self-in-Sent g c =
    let x = c.args.self.now.first.value.seat in
    let y = c.args.self.now.port.seat in
    let z = c.post.new.self.seat in
    let sent = c.in_ok-posted.ensures.posts.sent (ap Ok c.in-Sent.is) in
    record {
      noted = λ none. absurd (true≢false none);
      grew = no_less_posted x y z c.args.link (as_shipped c.args.p.now) c.args.self.now.grew sent c.post.ensures.posts.same_ins.got;
      went = λ some. has_posted x y z c.args.link (as_shipped c.args.p.now) c.args.self.now.grew sent;
    }

pub returns-in-Sent-clause-posts : goal.returns-in-Sent-clause-posts
returns-in-Sent-clause-posts g c =
    let x = c.args.self.now.first.value.seat in
    posts_among _ c.args.link _ _ _ _ _ _ (ap (λ (o : Others). record { bank = o.bank; sent = posted_on x; got = collected_from x }) c.post.ensures.posts.same_port.others)
    c.in_ok-posted.ensures.posts
