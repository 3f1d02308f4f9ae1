use Rattle.std.specs.Iterator.Adapters.{zip_first, zip_second}
use Rattle.mp_patch.proofs.Operations.Alike.{IsLeft}
use Rattle.mp_patch.proofs.patch.JsonPatch.same.Given as goal

abbrev pub invariant-loop-op : goal.invariant-loop-op
invariant-loop-op l = IsLeft l.self l.other (zip_first l.op-iterator).rest.now (zip_second l.op-iterator).rest.now
