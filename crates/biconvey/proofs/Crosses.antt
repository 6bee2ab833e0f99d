-- What a rank at its two ports holds may go to another thread, where its asker may.
use denote.RattleType.{RattleType}
use denote.Ref.{NamedLft}
use denote.Struct.Declared.{shape}
use denote.Param.Send.{IsSend, sendable, view_send, recorded_send, struct_send}
use Rattle.std.proofs.Crossing.{crosses}
use Rattle.round_program.specs.declared.asker.Asker.{Ghosts}
use Rattle.convey.proofs.Crosses.{conveyor_send}
use Rattle.rank_group.proofs.Crosses.{port_send}
use Rattle.query_node.proofs.line.Line.TheSendSync.{the_send as line_send}
use Rattle.query_node.specs.contracts.bi_node.BiNode as Node
use Rattle.query_node.specs.contracts.bi_node.BiNode.TheInside as node
use Rattle.biconvey.specs.contracts.at_ports.AtPorts as AtPorts
use Rattle.biconvey.specs.contracts.at_ports.AtPorts.TheInside as at_ports

node_send : (A C H : RattleType) → IsSend A → IsSend (Node.the_row A C H)
node_send A C H s =
    let O = node.the_type A C H in
    let parts : IsSend (node.the_row A C H) = recorded_send (node.the_field A C H).row _ _ O.to_one
    (struct_send (shape O) (search (sendable, crosses, s) depth 40, (search sendable, (search (sendable, crosses, line_send) depth 40, (conveyor_send C H, (conveyor_send C H, tt)))))) in
    view_send (node.the_row A C H) _ _ _ _ parts

pub at_ports_send : (κ : NamedLft) (A C H : RattleType) (g : Ghosts A.Denot) → IsSend A → IsSend (AtPorts.the_row κ A C H g)
at_ports_send κ A C H g s =
    let O = at_ports.the_type κ A C H g in
    let parts : IsSend (at_ports.the_row κ A C H g) = recorded_send (at_ports.the_field κ A C H g).row _ _ O.to_one
    (struct_send (shape O) (search sendable, (node_send A C H s, (port_send κ C, (port_send κ C, (search sendable, (search sendable, tt))))))) in
    view_send (at_ports.the_row κ A C H g) _ _ _ _ parts
