use Rattle.std.proofs.Common.{true, map, subst, arith}
use Rattle.std.proofs.lemmas.List.{length-map}
use Rattle.round_program.proofs.Emissions.{reaches_more, refused_at, none_at}
use Rattle.app_histo_ig.specs.Igs.{ig_reply_to}
use Rattle.app_histo_ig.proofs.ig_replies.emit_to.Goals as goal

pub push-requires : goal.push-requires
push-requires g c = c.loop-next.invariant.may c.args.to (c.requires.may (omega (arith, c.loop-next.invariant.forward, c.loop-next-test.true)))

pub loop-next-preserved : goal.loop-next-preserved
loop-next-preserved g c =
    let i = c.loop-next.invariant in
    let hands = subst (λ b. g.D.Departures.hands c.loop-next.out c.args.to c.reply_of-reply.result b c.push.new.self) c.if-not-push.false c.push.ensures in
    record {
      forward = omega (arith, i.forward);
      low = omega (arith, c.loop-next-test.true);
      may = λ other h. g.met.D.Departures.stays c.loop-next.out c.push.new.self c.args.to other c.reply_of-reply.result true hands (i.may other h);
      reaches = reaches_more g.D.Departures.hands (map (ig_reply_to c.args.ranks c.args.sums.now c.args.to) c.args.queries.now) c.args.from c.loop-next.next (c.args.to, c.reply_of-reply.result) c.args.out.now c.loop-next.out c.push.new.self
          i.forward (c.reply_of-reply.ensures c.args.to) hands i.reaches;
    }

pub returns-then-not-push-clause-hands : goal.returns-then-not-push-clause-hands
returns-then-not-push-clause-hands g c =
    let hands = subst (λ b. g.D.Departures.hands c.loop-next.out c.args.to c.reply_of-reply.result b c.push.new.self) c.if-not-push.true c.push.ensures in
    refused_at g.D.Departures.hands (map (ig_reply_to c.args.ranks c.args.sums.now c.args.to) c.args.queries.now) c.args.from c.loop-next.next (c.args.to, c.reply_of-reply.result) c.args.out.now c.loop-next.out c.push.new.self
    (c.reply_of-reply.ensures c.args.to) hands c.loop-next.invariant.reaches

pub returns-clause-hands : goal.returns-clause-hands
returns-clause-hands g c =
    none_at g.D.Departures.hands (map (ig_reply_to c.args.ranks c.args.sums.now c.args.to) c.args.queries.now) c.args.from c.loop-next.next c.args.out.now c.loop-next.out
    (omega (arith, c.loop-next-test.false, length-map c.args.queries.now (ig_reply_to c.args.ranks c.args.sums.now c.args.to))) c.loop-next.invariant.reaches
