use Rattle.std.proofs.Common.{rules, ◌≡◌, subst}
use Rattle.rank_node.specs.Movers.{mover_state, mover_dims, mover_rank}
use Rattle.rank_node.specs.Nodes.{IsNode}
use Rattle.rank_node.specs.Runs.{running}
use Rattle.rank_node.proofs.mover.Mover.turn.Goals as goal

pub turn_conveyor-requires : goal.turn_conveyor-requires
turn_conveyor-requires g c =
    let R = g.Q.Program.rules in
    let sent = (g.P.Port.view c.args.port.now).sent in
    let got = (g.P.Port.view c.args.port.now).got in
    let h = c.requires.turns.first in (search rules, record { same_dims = subst (λ m. (g.P.Port.view c.args.port.now).dims ≡ mover_dims (mover_state m)) c.in-Convey.is c.requires.turns.same_dims; same_rank = subst (λ m. (g.P.Port.view c.args.port.now).rank ≡ mover_rank (mover_state m)) c.in-Convey.is c.requires.turns.same_rank; first = h; node = subst (λ m. IsNode R h (record { run = running c.args.run.now; mover = mover_state m }) sent got) c.in-Convey.is c.requires.turns.node })

pub turn_exstack-requires : goal.turn_exstack-requires
turn_exstack-requires g c =
    let R = g.Q.Program.rules in
    let sent = (g.P.Port.view c.args.port.now).sent in
    let got = (g.P.Port.view c.args.port.now).got in
    let h = c.requires.turns.first in (search rules, record { same_dims = subst (λ m. (g.P.Port.view c.args.port.now).dims ≡ mover_dims (mover_state m)) c.in-Exstack.is c.requires.turns.same_dims; same_rank = subst (λ m. (g.P.Port.view c.args.port.now).rank ≡ mover_rank (mover_state m)) c.in-Exstack.is c.requires.turns.same_rank; first = h; node = subst (λ m. IsNode R h (record { run = running c.args.run.now; mover = mover_state m }) sent got) c.in-Exstack.is c.requires.turns.node })
