use Rattle.std.proofs.Common.{rules, OnOk, sym, ap, subst, ◌∙◌}
use Rattle.rank_node.specs.Movers.{mover_state, mover_dims, mover_rank}
use Rattle.rank_node.specs.Runs.{running}
use Rattle.rank_node.specs.Turns.{Turns, TurnsInFull}
use Rattle.rank_node.specs.Nodes.{NodeState, IsNode}
use Rattle.rank_node.proofs.Onward.{seen_cap}
use Rattle.rank_node.proofs.node.Node.turn.Goals as goal

pub turn-requires : goal.turn-requires
turn-requires g c =
    let R = g.Q.Program.rules in
    let sent = (g.P.Port.view c.args.port.now).sent in
    let got = (g.P.Port.view c.args.port.now).got in
    let h = c.requires.turns.first in (search rules, record { same_dims = c.requires.turns.same_dims ∙ sym (ap (λ (m : NodeState g.row.Q.Denot). mover_dims m.mover) c.self.view_is); same_rank = c.requires.turns.same_rank ∙ sym (ap (λ (m : NodeState g.row.Q.Denot). mover_rank m.mover) c.self.view_is); first = h; node = subst (λ (m : NodeState g.row.Q.Denot). IsNode R h m sent got) (sym c.self.view_is) c.requires.turns.node })

pub returns-clause-cap : goal.returns-clause-cap
returns-clause-cap g c = seen_cap c.turn.new.self

pub returns-clause-turns : goal.returns-clause-turns
returns-clause-turns g c =
    subst (λ (m : NodeState g.row.Q.Denot). Turns g.row.CAP g.Q.Program.rules m (record { run = running c.turn.new.run; mover = mover_state c.turn.new.self }) (g.P.Port.view c.args.port.now) (g.P.Port.view c.turn.new.port)) c.self.view_is c.turn.ensures.turns

pub returns-clause-in_full : goal.returns-clause-in_full
returns-clause-in_full g c =
    subst (λ (m : NodeState g.row.Q.Denot). OnOk c.turn.result (TurnsInFull g.Q.Program.rules m (record { run = running c.turn.new.run; mover = mover_state c.turn.new.self }) (g.P.Port.view c.args.port.now) (g.P.Port.view c.turn.new.port))) c.self.view_is c.turn.ensures.in_full
