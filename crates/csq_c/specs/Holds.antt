-- What a handle of C's owns.
use Rattle.std.specs.Prelude.{Option, Some, None}
use base.Fml.{Fml, feq}
use denote.RattleType.{RattleType}
use denote.RawPtr.{Ptr, null_ptr}
use mir.Syntax.{Ty}
use Rattle.std.specs.Box.Ownership.{box_owns}
use Rattle.std_heap.specs.declared.Global.{Global}
use Rattle.std_heap.specs.contracts.GlobalAllocator.TheImpl.{ghosts}

-- the heap's one handle
abbrev pub heap : Global
heap = record { memory = record { seal = tt } }

-- the right to free a block of the heap
abbrev pub frees : Ty → Ptr → Fml
frees = ghosts.dealloc_token heap

-- a box of the heap, or nothing at null
abbrev pub held : (R : RattleType) → Ptr → Option R.Denot → Fml
held R at None = feq Ptr at null_ptr
held R at (Some body) = box_owns frees R at body
