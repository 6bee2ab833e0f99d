-- What a handle owns.
use Rattle.std.specs.Prelude.{Option, Some, None}
use base.Fml.{Fml, ftrue}
use denote.RawPtr.{Ptr}
use Rattle.std_heap.specs.contracts.GlobalAllocator.TheImpl.{ghosts}
use Rattle.std_heap.specs.declared.Global.{Global}
use Rattle.std_alloc.specs.Box.Ownership.{box_owns}
use Rattle.rank_handles.specs.declared.part.Part.{Part}
use Rattle.rank_handles.specs.contracts.part.Part.{the_row}

-- The heap, of which every handle says the same.
abbrev pub heap : Global
heap = record { memory = record { seal = tt } }

-- Of a part that there is: it is at the pointer, and its block may be freed.
abbrev pub holds : Ptr → Option Part → Fml
holds at None = ftrue
holds at (Some part) = box_owns (ghosts.dealloc_token heap) the_row at part
