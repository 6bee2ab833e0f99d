use Rattle.std.proofs.Common.{◌≡◌, ◌∙◌, List, ℕ, refl, sym, ap, subst, lit<, rules, Ok}
use Rattle.item_buffer.specs.Contents.{Contents, as_shipped, blank}
use Rattle.route_tensor.specs.Grid.{IsGrid}
use Rattle.port_bank.specs.Logs.{with_parcel}
use Rattle.port_bank.proofs.Kept.{law_same}
use Rattle.transport_tests.proofs.ByHand.{first_posted, filled, none_ended, still_none}
use Rattle.transport_tests.proofs.hand.Hand.post.Goals as goal

pub post-requires : goal.post-requires
post-requires g c =
    let port = c.self.inside.port in
    let old = c.self.invariant in
    let pushed = filled c.self.inside.out c.try_push-accepted.new.self _ c.try_push-accepted.result old.out_empty c.try_push-accepted.ensures.appended c.try_push-accepted.ensures.full in (
      lit< tt,
      record {
        link = search rules;
        starts_here = search rules;
        fresh = ap (λ (x : Contents). x.taken) pushed;
        epoch = ap (λ (x : Contents). x.epoch) pushed ∙ sym (old.none_sent c.args.link);
        law = first_posted (g.P.Port.view port).dims (g.P.Port.view port).rank (g.P.Port.view port).sent (g.P.Port.view port).got c.args.link c.try_push-accepted.new.self _ (subst IsGrid (sym old.same_dims) old.is_grid) (search rules) pushed refl old.law;
      },
    )

pub invariant_of-hand : goal.invariant_of-hand
invariant_of-hand g c =
    let port = c.self.inside.port in
    let old = c.self.invariant in
    let p = c.try_push-accepted.new.self in
    let pushed = filled c.self.inside.out p _ c.try_push-accepted.result old.out_empty c.try_push-accepted.ensures.appended c.try_push-accepted.ensures.full in
    let same = c.post.ensures.posts.same_port in
    let sent = c.in_ok-posted.was ∙ ap Ok c.in-Sent.is in
    let more = c.post.ensures.posts.sent sent in
    let law = first_posted (g.P.Port.view port).dims (g.P.Port.view port).rank (g.P.Port.view port).sent (g.P.Port.view port).got c.args.link p _ (subst IsGrid (sym old.same_dims) old.is_grid) (search rules) pushed refl old.law in
    record {
      same_dims = same.dims ∙ old.same_dims;
      is_grid = old.is_grid;
      law = law_same (g.P.Port.view port).dims _ (g.P.Port.view port).rank _ (with_parcel (g.P.Port.view port).sent c.args.link (as_shipped p)) _ (g.P.Port.view port).got _ same.dims same.rank more c.post.ensures.posts.same_ins.got law;
      none_sent = none_ended (g.P.Port.view port).sent _ c.args.link (as_shipped p) more (ap (λ (x : Contents). x.last) pushed) old.none_sent;
      none_got = still_none (g.P.Port.view port).got _ c.post.ensures.posts.same_ins.got old.none_got;
      out_empty = c.clear.ensures ∙ ap (λ (x : Contents). blank x.epoch) (c.post.ensures.posts.emptied sent) ∙ ap (λ (x : Contents). blank x.epoch) pushed;
      into_empty = old.into_empty;
    }
