-- What a handle owns may cross threads if what is in its box may, since the box is nobody else's.
use Rattle.std.proofs.Common.{Option, Some, None}
use base.Shift.{Keyless}
use mir.Raw.{raw}
use denote.Memory.{lone}
use denote.RattleType.{RattleType}
use denote.RawPtr.{Ptr}
use denote.Builtin.{RawPtr}
use denote.Param.Send.{IsSend, sendable}
use Rattle.std.proofs.Crossing as crossing
use Rattle.std_alloc.proofs.SendSync.{lies}
use Rattle.mp_c.specs.Owned.{heap, owned_at}

pub pointer_send : IsSend RawPtr
pointer_send = search sendable

pub keyless : (R : RattleType) → IsSend R → (p : Ptr) (m : Option R.Denot) → Keyless (owned_at R p m)
keyless R crosses p None = tt
keyless R crosses p (Some x) = (lies R crosses p x, crossing.frees.frees heap (raw (lone R.mir)) p)
