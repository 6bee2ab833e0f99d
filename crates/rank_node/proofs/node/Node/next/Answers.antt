use Rattle.std.proofs.Common.{◌≡◌, ◌+◌, ◌-◌, ◌^◌, true, inl, refl, sym, subst}
use Rattle.rank_node.specs.Sending.{is_voting}
use Rattle.rank_node.specs.Movers.{mover_state}
use Rattle.rank_node.specs.Next.{MayGoOn, KeepsTransport, BeginsEpoch}
use Rattle.rank_node.specs.Runs.{running}
use Rattle.rank_node.specs.Nodes.{NodeState}
use Rattle.rank_node.specs.declared.sends.Sends.TheVariants.{Emissions, Nothing, Votes}
use Rattle.rank_node.proofs.Onward.{seen_cap, not_lost, lost_sum}
use Rattle.rank_node.proofs.Next.{keeps_going, keeps_same, begins_votes, begins_round}
use Rattle.rank_node.proofs.OwnPulls.{spoiled_sum}
use Rattle.rank_node.proofs.node.Node.next.Goals as goal

pub returns-then-not-votes_now-clause-begins : goal.returns-then-not-votes_now-clause-begins
returns-then-not-votes_now-clause-begins g c = λ ok.
    let R = g.Q.Program.rules in
    let inside : NodeState g.row.Q.Denot = record { run = running c.self.inside.run; mover = mover_state c.self.inside.mover } in
    let may : MayGoOn R inside = subst (λ (m : NodeState g.row.Q.Denot). MayGoOn R m) (sym c.self.view_is) c.requires.goes_on in
    subst (λ (m : NodeState g.row.Q.Denot). BeginsEpoch R m (record { run = record { prog = inside.run.prog; round = inside.run.round; sends = Votes c.vote_of-vote.result c.self.inside.rank_count; next = 0; sum = 0; spoiled = inside.run.spoiled }; mover = mover_state c.reset.new.self })) c.self.view_is
    (begins_votes R inside may (mover_state c.reset.new.self) c.reset.ensures g.met.Q.Program.laws c.vote_of-vote.result c.self.inside.rank_count (sym c.if-not-votes_now.ensures) c.self.invariant c.vote_of-vote.ensures)

pub returns-in-Round-clause-begins : goal.returns-in-Round-clause-begins
returns-in-Round-clause-begins g c = λ ok.
    let R = g.Q.Program.rules in
    let inside : NodeState g.row.Q.Denot = record { run = running c.self.inside.run; mover = mover_state c.self.inside.mover } in
    let may : MayGoOn R inside = subst (λ (m : NodeState g.row.Q.Denot). MayGoOn R m) (sym c.self.view_is) c.requires.goes_on in
    let fine = not_lost inside.run.spoiled inside.run.sum c.is_lost.result c.is_lost.ensures c.if-is_lost.false in
    subst (λ (m : NodeState g.row.Q.Denot). BeginsEpoch R m (record { run = record { prog = c.end_prog.new.prog.value; round = inside.run.round + 1; sends = Emissions; next = 0; sum = 0; spoiled = inside.run.spoiled }; mover = mover_state c.reset-in-Round.new.self })) c.self.view_is
    (begins_round R inside may (mover_state c.reset-in-Round.new.self) c.reset-in-Round.ensures g.met.Q.Program.laws c.end_prog.new.prog.value inside.run.spoiled Emissions fine ((c.in-Round.ensures.round refl).0) (sym c.if-not-votes_now.ensures) refl
    (λ e. (c.in-Round.ensures.round refl).1) (λ s. fine.0) (λ s. absurd (cc)))

pub returns-in-SpoiledRound-clause-begins : goal.returns-in-SpoiledRound-clause-begins
returns-in-SpoiledRound-clause-begins g c = λ ok.
    let R = g.Q.Program.rules in
    let inside : NodeState g.row.Q.Denot = record { run = running c.self.inside.run; mover = mover_state c.self.inside.mover } in
    let may : MayGoOn R inside = subst (λ (m : NodeState g.row.Q.Denot). MayGoOn R m) (sym c.self.view_is) c.requires.goes_on in
    let fine = not_lost inside.run.spoiled inside.run.sum c.is_lost.result c.is_lost.ensures c.if-is_lost.false in
    subst (λ (m : NodeState g.row.Q.Denot). BeginsEpoch R m (record { run = record { prog = c.end_prog.new.prog.value; round = inside.run.round + 1; sends = Nothing; next = 0; sum = 0; spoiled = true }; mover = mover_state c.reset-in-SpoiledRound.new.self })) c.self.view_is
    (begins_round R inside may (mover_state c.reset-in-SpoiledRound.new.self) c.reset-in-SpoiledRound.ensures g.met.Q.Program.laws c.end_prog.new.prog.value true Nothing fine (c.in-SpoiledRound.ensures.spoiled_round refl) (sym c.if-not-votes_now.ensures) refl
    (λ e. absurd (cc)) (λ s. absurd (cc)) (λ s. refl))

pub returns-then-not-votes_now-clause-keeps : goal.returns-then-not-votes_now-clause-keeps
returns-then-not-votes_now-clause-keeps g c =
    subst (λ (m : NodeState g.row.Q.Denot). KeepsTransport g.row.CAP m.mover (mover_state c.reset.new.self)) c.self.view_is (keeps_going g.row.CAP _ _ c.reset.ensures (seen_cap c.reset.new.self))

pub returns-in-Round-clause-keeps : goal.returns-in-Round-clause-keeps
returns-in-Round-clause-keeps g c =
    subst (λ (m : NodeState g.row.Q.Denot). KeepsTransport g.row.CAP m.mover (mover_state c.reset-in-Round.new.self)) c.self.view_is (keeps_going g.row.CAP _ _ c.reset-in-Round.ensures (seen_cap c.reset-in-Round.new.self))

pub returns-in-SpoiledRound-clause-keeps : goal.returns-in-SpoiledRound-clause-keeps
returns-in-SpoiledRound-clause-keeps g c =
    subst (λ (m : NodeState g.row.Q.Denot). KeepsTransport g.row.CAP m.mover (mover_state c.reset-in-SpoiledRound.new.self)) c.self.view_is (keeps_going g.row.CAP _ _ c.reset-in-SpoiledRound.ensures (seen_cap c.reset-in-SpoiledRound.new.self))

pub returns-in-Nothing-clause-keeps : goal.returns-in-Nothing-clause-keeps
returns-in-Nothing-clause-keeps g c = subst (λ (m : NodeState g.row.Q.Denot). KeepsTransport g.row.CAP m.mover (mover_state c.self.inside.mover)) c.self.view_is (keeps_same g.row.CAP _ (seen_cap c.self.inside.mover))

pub returns-in-SpoiledNothing-clause-keeps : goal.returns-in-SpoiledNothing-clause-keeps
returns-in-SpoiledNothing-clause-keeps g c = subst (λ (m : NodeState g.row.Q.Denot). KeepsTransport g.row.CAP m.mover (mover_state c.self.inside.mover)) c.self.view_is (keeps_same g.row.CAP _ (seen_cap c.self.inside.mover))

pub returns-then-is_lost-clause-keeps : goal.returns-then-is_lost-clause-keeps
returns-then-is_lost-clause-keeps g c = subst (λ (m : NodeState g.row.Q.Denot). KeepsTransport g.row.CAP m.mover m.mover) c.self.view_is (keeps_same g.row.CAP _ (seen_cap c.self.inside.mover))

pub returns-then-is_lost-clause-no_memory : goal.returns-then-is_lost-clause-no_memory
returns-then-is_lost-clause-no_memory g c = λ err.
    let R = g.Q.Program.rules in
    let inside : NodeState g.row.Q.Denot = record { run = running c.self.inside.run; mover = mover_state c.self.inside.mover } in
    let may : MayGoOn R inside = subst (λ (m : NodeState g.row.Q.Denot). MayGoOn R m) (sym c.self.view_is) c.requires.goes_on in
    let votes : is_voting inside.run.sends ≡ true = sym (c.if-not-votes_now.ensures) in
    let sum : inside.run.sum ≡ 2 ^ 64 - 1 = lost_sum inside.run.spoiled inside.run.sum c.is_lost.result c.is_lost.ensures c.if-is_lost.true
    (spoiled_sum R may.history inside may.sent may.got may.node c.known.ensures may.over votes) in (
      subst (λ (m : NodeState g.row.Q.Denot). is_voting m.run.sends ≡ true) c.self.view_is votes,
      inl (subst (λ (m : NodeState g.row.Q.Denot). m.run.sum ≡ 2 ^ 64 - 1) c.self.view_is sum),
    )
