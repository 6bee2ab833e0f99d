-- A handle may go to another thread where its part may.
use Rattle.std.proofs.Common.{Option, Some, None}
use mir.Raw.{raw}
use base.Shift.{Keyless}
use denote.Memory.{lone}
use denote.RawPtr.{Ptr}
use denote.Param.Send.{IsSend, owning_send, struct_send, sendable}
use denote.Builtin.{RawPtr}
use denote.Struct.Struct.{exits_of}
use denote.Struct.Owning.{shape, fields, to}
use Rattle.std_alloc.proofs.SendSync.{quiet, lies}
use Rattle.std.proofs.Crossing.{frees}
use Rattle.rank_handles.specs.declared.part.Part.{Part}
use Rattle.rank_handles.specs.Ownership.{holds, heap}
use Rattle.rank_handles.specs.contracts.part.Part as part
use Rattle.rank_handles.proofs.Crosses.{part_send}
use Rattle.rank_handles.specs.contracts.held.Held.{the_row, the_type}

keyless : (at : Ptr) (x : Option Part) → Keyless (holds at x)
keyless at None = tt
keyless at (Some x) = (lies part.the_row part_send at x, frees.frees heap (raw (lone part.the_row.mir)) at)

pub send : IsSend the_row
send = let O = the_type in let ps : IsSend RawPtr = search sendable in
    owning_send O (ps, tt) (λ d. keyless d.at d.value) (λ k. quiet (to O) (exits_of k (fields O)) ((struct_send (shape O) (ps, tt)).leaving k))
