use Rattle.std.proofs.Common.{◌∙◌, sym, ap, subst}
use Rattle.item_buffer.specs.Contents.{as_shipped, blank}
use Rattle.route_tensor.specs.Grid.{IsGrid}
use Rattle.port_bank.specs.Logs.{with_parcel}
use Rattle.port_bank.proofs.Kept.{added_grows, law_got_more, law_same}
use Rattle.transport_tests.proofs.ByHand.{none_ended, still_none}
use Rattle.transport_tests.proofs.hand.Hand.collect.Goals as goal

pub invariant_of-hand : goal.invariant_of-hand
invariant_of-hand g c =
    let port = c.self.inside.port in
    let old = c.self.invariant in
    let p = as_shipped c.collect.new.p in
    let got = (g.P.Port.view port).got in
    let same = c.collect.ensures.collects.same_port in
    let sent = c.collect.ensures.collects.same_outs.sent in
    let more = c.collect.ensures.collects.got c.in-Got.is in
    record {
      same_dims = same.dims ∙ old.same_dims;
      is_grid = old.is_grid;
      law = law_same (g.P.Port.view port).dims _ (g.P.Port.view port).rank _ (g.P.Port.view port).sent _ (with_parcel got c.args.link p) _ same.dims same.rank sent more
          (law_got_more (g.P.Port.view port).dims (g.P.Port.view port).rank (g.P.Port.view port).sent got (with_parcel got c.args.link p) (subst IsGrid (sym old.same_dims) old.is_grid) (added_grows got c.args.link p) old.law);
      none_sent = still_none (g.P.Port.view port).sent _ sent old.none_sent;
      none_got = none_ended got _ c.args.link p more (sym c.last.ensures ∙ c.if-last.false) old.none_got;
      out_empty = old.out_empty;
      into_empty = c.clear.ensures ∙ ap blank (c.collect.ensures.collects.epoch c.in-Got.is ∙ old.none_got c.args.link);
    }
