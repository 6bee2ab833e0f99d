-- What a rank at its port holds may go to another thread, where its program may.
use denote.RattleType.{RattleType}
use denote.Ref.{NamedLft}
use denote.Struct.Declared.{shape}
use denote.Param.Send.{IsSend, sendable, view_send, recorded_send, struct_send}
use Rattle.std.proofs.Crossing.{crosses}
use Rattle.round_program.specs.declared.program.Program.{Ghosts}
use Rattle.link_slots.proofs.slot_bank.SlotBank.TheSendSync.{the_sync as bank_sync}
use Rattle.link_slots.proofs.seat.SlotSeat.TheSendSync.{the_send as seat_send}
use Rattle.link_slots.specs.contracts.port.SlotPort as SlotPort
use Rattle.convey.proofs.Crosses.{conveyor_send}
use Rattle.exstack.proofs.exstack.Exstack.TheSendSync.{the_send as exstack_send}
use Rattle.rank_node.proofs.run.Run.TheSendSync.{the_field_send as run_send}
use Rattle.rank_node.specs.contracts.mover.Mover as Mover
use Rattle.rank_node.specs.contracts.node.Node as Node
use Rattle.rank_node.specs.contracts.node.Node.TheInside as node
use Rattle.rank_group.specs.contracts.sweep.Rank as Rank
use Rattle.rank_group.specs.contracts.sweep.Rank.TheInside as rank
use Rattle.rank_group.specs.contracts.noting.NotingPort as Port
use Rattle.rank_group.specs.contracts.at_port.AtPort as AtPort
use Rattle.rank_group.specs.contracts.at_port.AtPort.TheInside as at_port

mover_send : (C H : RattleType) → IsSend (Mover.the_field C H).row
mover_send C H = search (sendable, crosses, conveyor_send, exstack_send) depth 40

node_send : (Q C H : RattleType) → IsSend Q → IsSend (Node.the_row Q C H)
node_send Q C H s =
    let O = node.the_type Q C H in
    let parts : IsSend (node.the_row Q C H) = recorded_send (node.the_field Q C H).row _ _ O.to_one (struct_send (shape O) (run_send Q s, (mover_send C H, (search sendable, tt)))) in
    view_send (node.the_row Q C H) _ _ _ _ parts

rank_send : (Q C H : RattleType) → IsSend Q → IsSend (Rank.the_row Q C H)
rank_send Q C H s =
    let O = rank.the_type Q C H in
    let parts : IsSend (rank.the_row Q C H) = recorded_send (rank.the_field Q C H).row _ _ O.to_one (struct_send (shape O) (node_send Q C H s, (search sendable, tt))) in
    view_send (rank.the_row Q C H) _ _ _ _ parts

slot_port_send : (κ : NamedLft) (C : RattleType) → IsSend (SlotPort.the_field κ C).row
slot_port_send κ C = search (sendable, crosses, bank_sync, seat_send) depth 40

pub port_send : (κ : NamedLft) (C : RattleType) → IsSend (Port.the_field κ C).row
port_send κ C = search (sendable, crosses, slot_port_send) depth 40

pub at_port_send : (κ : NamedLft) (Q C H : RattleType) (g : Ghosts Q.Denot) → IsSend Q → IsSend (AtPort.the_row κ Q C H g)
at_port_send κ Q C H g s =
    let O = at_port.the_type κ Q C H g in
    let parts : IsSend (at_port.the_row κ Q C H g) = recorded_send (at_port.the_field κ Q C H g).row _ _ O.to_one
    (struct_send (shape O) (search sendable, (rank_send Q C H s, (port_send κ C, (search sendable, (search sendable, (search sendable, tt))))))) in
    view_send (at_port.the_row κ Q C H g) _ _ _ _ parts
