-- What a handle owns.
use Rattle.std.specs.Prelude.{Option, Some, None}
use base.Fml.{Fml, feq}
use denote.RattleType.{RattleType}
use denote.RawPtr.{Ptr, null_ptr}
use mir.Syntax.{Ty}
use Rattle.std.specs.Box.Ownership.{box_owns}
use Rattle.std.specs.declared.alloc.Global.{Global}
use Rattle.std.specs.contracts.impls.GlobalAllocator.TheImpl.{ghosts}

-- a handle of the C library's heap: each is like any other
abbrev pub heap : Global
heap = record { memory = record { seal = tt } }

-- the right to free a block of that heap
abbrev pub may_free : Ty → Ptr → Fml
may_free = ghosts.dealloc_token heap

-- the box at a pointer, or nothing, at null
abbrev pub owned_at : (R : RattleType) → Ptr → Option R.Denot → Fml
owned_at R p None = feq Ptr p null_ptr
owned_at R p (Some x) = box_owns may_free R p x
