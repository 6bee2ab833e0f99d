use Rattle.std.proofs.Common.{ℕ, true, subst, arith}
use Rattle.bale_items.specs.declared.item.Item.{Item}
use Rattle.round_program.specs.Epochs.{vote_item}
use Rattle.round_program.proofs.Emissions.{reaches_none, reaches_more, refused_at, none_at, all_after}
use Rattle.rank_node.specs.Sending.{votes_to}
use Rattle.rank_node.proofs.Ballots.{votes_length, votes_get}
use Rattle.rank_node.proofs.sends.vote_each.Goals as goal

pub loop-next-init : goal.loop-next-init
loop-next-init g c = record {
  forward = omega arith;
  low = c.requires.from;
  may = c.requires.may;
  reaches = reaches_none g.D.Departures.hands (votes_to c.args.ranks c.args.vote) c.args.from c.args.out.now;
}

pub push-requires : goal.push-requires
push-requires g c =
    all_after (λ (e : ℕ × Item). g.D.Departures.may c.loop-next.out e.0) (votes_to c.args.ranks c.args.vote) c.args.from c.loop-next.next (c.loop-next.next, vote_item c.args.vote)
    c.loop-next.invariant.forward (votes_get c.args.ranks c.args.vote c.loop-next.next c.loop-next-test.true) c.loop-next.invariant.may

pub loop-next-preserved : goal.loop-next-preserved
loop-next-preserved g c =
    let i = c.loop-next.invariant in
    let hands = subst (λ b. g.D.Departures.hands c.loop-next.out c.loop-next.next (vote_item c.args.vote) b c.push.new.self) c.if-not-push.false c.push.ensures in
    record {
      forward = omega (arith, i.forward);
      low = omega (arith, c.loop-next-test.true, votes_length c.args.ranks c.args.vote);
      may = λ k d low. g.met.D.Departures.stays c.loop-next.out c.push.new.self c.loop-next.next _ (vote_item c.args.vote) true hands (i.may k d low);
      reaches =
          reaches_more g.D.Departures.hands (votes_to c.args.ranks c.args.vote) c.args.from c.loop-next.next (c.loop-next.next, vote_item c.args.vote) c.args.out.now c.loop-next.out c.push.new.self
          i.forward (votes_get c.args.ranks c.args.vote c.loop-next.next c.loop-next-test.true) hands i.reaches;
    }

pub returns-then-not-push-clause-hands : goal.returns-then-not-push-clause-hands
returns-then-not-push-clause-hands g c =
    let hands = subst (λ b. g.D.Departures.hands c.loop-next.out c.loop-next.next (vote_item c.args.vote) b c.push.new.self) c.if-not-push.true c.push.ensures in
    refused_at g.D.Departures.hands (votes_to c.args.ranks c.args.vote) c.args.from c.loop-next.next (c.loop-next.next, vote_item c.args.vote) c.args.out.now c.loop-next.out c.push.new.self
    (votes_get c.args.ranks c.args.vote c.loop-next.next c.loop-next-test.true) hands c.loop-next.invariant.reaches

pub returns-clause-hands : goal.returns-clause-hands
returns-clause-hands g c =
    none_at g.D.Departures.hands (votes_to c.args.ranks c.args.vote) c.args.from c.loop-next.next c.args.out.now c.loop-next.out
    (omega (arith, c.loop-next-test.false, votes_length c.args.ranks c.args.vote)) c.loop-next.invariant.reaches
