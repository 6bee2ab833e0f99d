-- A conveyor may go to another thread. Rattle derives this by itself only where no field is a
-- `Snapshot`.
use denote.RattleType.{RattleType}
use denote.Param.Send.{IsSend, sendable}
use Rattle.std.proofs.Crossing.{crosses}
use Rattle.route_tensor.proofs.routes.Routes.TheSendSync.{the_send as routes_send}
use Rattle.item_buffer.proofs.parcel.Parcel.TheSendSync.{the_send as parcel_send}
use Rattle.hop_core.proofs.in_links.InLink.TheSendSync.{the_send as in_send}
use Rattle.hop_core.proofs.out_links.OutLink.TheSendSync.{the_send as out_send}
use Rattle.hop_core.specs.contracts.loan.Loan as Loan
use Rattle.hop_core.specs.contracts.state.RankState as State
use Rattle.convey.specs.contracts.conveyor.Conveyor as Conveyor

loan_send : (C : RattleType) → IsSend (Loan.the_field C).row
loan_send C = search (sendable, crosses, parcel_send) depth 40

state_send : (C H : RattleType) → IsSend (State.the_row C H)
state_send C H = search (sendable, crosses, routes_send, in_send, out_send, loan_send) depth 40

pub conveyor_send : (C H : RattleType) → IsSend (Conveyor.the_row C H)
conveyor_send C H = search (sendable, crosses, state_send, parcel_send) depth 40
