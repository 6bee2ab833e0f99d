-- What a handle may have may go to another thread.
use denote.RattleType.{RattleType}
use denote.Param.Send.{IsSend, sendable}
use Rattle.std.proofs.Crossing.{crosses}
use Rattle.link_slots.proofs.slot_bank.SlotBank.TheSendSync.{the_send as bank_send, the_sync as bank_sync}
use Rattle.link_slots.proofs.seat.SlotSeat.TheSendSync.{the_send as seat_send}
use Rattle.convey.proofs.Crosses.{conveyor_send}
use Rattle.rank_handles.proofs.cases.AnyGroup.TheSendSync.{the_send as group_send}
use Rattle.rank_handles.specs.contracts.rank.Rank as Rank
use Rattle.rank_handles.specs.contracts.cases.HopsCase as HopsCase
use Rattle.rank_handles.specs.contracts.cases.CapacityCase as CapacityCase
use Rattle.rank_handles.specs.contracts.cases.AnyRank as AnyRank
use Rattle.rank_handles.specs.contracts.elastic_rank.ElasticRank as ElasticRank
use Rattle.rank_handles.specs.contracts.part.Part as Part

rank_send : (C H : RattleType) → IsSend (Rank.the_row C H)
rank_send C H = search (sendable, crosses, bank_send, bank_sync, seat_send, conveyor_send) depth 40

hops_send : (C : RattleType) → IsSend (HopsCase.the_field C).row
hops_send C = search (sendable, rank_send) depth 40

capacity_send : IsSend CapacityCase.the_field.row
capacity_send = search (sendable, hops_send) depth 40

any_rank_send : IsSend AnyRank.the_row
any_rank_send = search (sendable, capacity_send) depth 40

elastic_send : IsSend ElasticRank.the_row
elastic_send = search (sendable, crosses, any_rank_send) depth 40

pub part_send : IsSend Part.the_row
part_send = search (sendable, any_rank_send, elastic_send, group_send) depth 40
