use denote.Param.Send.{param_send}
use Rattle.rank_handles.specs.contracts.part.Part as Part
use Rattle.rank_handles.proofs.Crosses.{part_send}
use Rattle.rank_handles.proofs.part.part_crosses.Goals as goal

pub crosses-requires-send-T : goal.crosses-requires-send-T
crosses-requires-send-T c κs = record { owned = part_send.owned; leaving = (param_send 0 Part.the_row part_send).leaving }
