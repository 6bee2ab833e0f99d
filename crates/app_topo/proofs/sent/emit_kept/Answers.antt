use Rattle.std.proofs.Common.{ℕ, true, subst, arith}
use Rattle.bale_items.specs.declared.item.Item.{Item}
use Rattle.round_program.proofs.Emissions.{reaches_more, refused_at, none_at, all_after}
use Rattle.app_topo.specs.code.TopoSent.{topo_sent}
use Rattle.app_topo.proofs.sent.emit_kept.Goals as goal

pub loop-next-preserved : goal.loop-next-preserved
loop-next-preserved g c =
    let i = c.loop-next.invariant in
    let hands = subst (λ b. g.D.Departures.hands c.loop-next.out c.emission_of-to.result.0 c.emission_of-to.result.1 b c.push.new.self) c.if-not-push.false c.push.ensures in
    record {
      all = i.all;
      forward = omega (arith, i.forward);
      low = omega (arith, c.loop-next-test.true);
      may = λ k d low. g.met.D.Departures.stays c.loop-next.out c.push.new.self c.emission_of-to.result.0 _ c.emission_of-to.result.1 true hands (i.may k d low);
      reaches = reaches_more g.D.Departures.hands (topo_sent c.args.round c.args.ranks c.args.kept.now.items) c.args.from c.loop-next.next c.emission_of-to.result c.args.out.now c.loop-next.out c.push.new.self i.forward c.emission_of-to.ensures hands i.reaches;
    }

pub returns-then-not-push : goal.returns-then-not-push
returns-then-not-push g c = record {
  forward = c.loop-next.invariant.forward;
  low = omega (arith, c.loop-next.invariant.low, c.loop-next.invariant.all);
  hands =
      let hands = subst (λ b. g.D.Departures.hands c.loop-next.out c.emission_of-to.result.0 c.emission_of-to.result.1 b c.push.new.self) c.if-not-push.true c.push.ensures in
      refused_at g.D.Departures.hands (topo_sent c.args.round c.args.ranks c.args.kept.now.items) c.args.from c.loop-next.next c.emission_of-to.result c.args.out.now c.loop-next.out c.push.new.self c.emission_of-to.ensures hands c.loop-next.invariant.reaches;
}

pub returns : goal.returns
returns g c = record {
  forward = c.loop-next.invariant.forward;
  low = omega (arith, c.loop-next.invariant.low, c.loop-next.invariant.all);
  hands =
      none_at g.D.Departures.hands (topo_sent c.args.round c.args.ranks c.args.kept.now.items) c.args.from c.loop-next.next c.args.out.now c.loop-next.out
      (omega (arith, c.loop-next-test.false, c.loop-next.invariant.all)) c.loop-next.invariant.reaches;
}

pub push-requires : goal.push-requires
push-requires g c =
    all_after (λ (e : ℕ × Item). g.D.Departures.may c.loop-next.out e.0) (topo_sent c.args.round c.args.ranks c.args.kept.now.items) c.args.from c.loop-next.next c.emission_of-to.result
    c.loop-next.invariant.forward c.emission_of-to.ensures c.loop-next.invariant.may
