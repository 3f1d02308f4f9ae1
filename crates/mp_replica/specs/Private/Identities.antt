-- Which identities a set has. Only private clauses cite it.
use Rattle.std.specs.Prelude.{◌↔◌, List, IsTrue}
use Rattle.std.specs.BTreeSet.{BTreeSet, contains}
use Rattle.std.specs.List.{Contains}
use Rattle.mp_replica.specs.PatchLog.{identity_cmp}
use Rattle.mp_replica.specs.declared.message.Identity.{Identity}

-- the set has those of the list, and no other
abbrev pub HasThese : BTreeSet Identity → List Identity → Type 0
HasThese set identities = (i : Identity) → IsTrue (contains identity_cmp set i) ↔ Contains identities i
