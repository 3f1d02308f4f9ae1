-- Runs of a replica: the patches that it received, as a relation between their list and the replica. The history is not
-- stored. Only membership in the list counts.
use Rattle.std.specs.Prelude.{◌≡◌, ◌≢◌, List, [], ◌∷◌, ◌++◌, Option, None, Some, option_map, ⊤}
use Rattle.mp_tree.specs.Document.{Document, IsDocument}
use Rattle.mp_tree.specs.Look.{Path}
use Rattle.mp_tree.specs.View.{document}
use Rattle.mp_merge.specs.Application.{merge_patch}
use Rattle.mp_merge.specs.Laws.{ClashesWithAMember}
use Rattle.mp_merge.specs.Outcome.{IsOutcome}
use Rattle.mp_replica.specs.Held.{HasJoined, HeldReplica}
use Rattle.mp_replica.specs.declared.replica.Received.{Received}
use Rattle.mp_replica.specs.declared.replica.Received.TheVariants.{Taken, Conflict, Pending, Refused}

-- what is shown once nothing is pending: what is pending, merged into what is there
abbrev pub settled : Document → Option Document → Document
settled shown None = shown
settled shown (Some p) = merge_patch (Some shown) p

-- the replica began with the start and received these patches: it has their join, and what it shows once nothing is
-- pending is their outcome
pub record Follows (start : Document) (received : List Document) (r : HeldReplica) : Type 0 where
  pub start_is_document : IsDocument start
  pub joined : HasJoined (option_map document r.joined) (option_map document r.pending) received
  pub outcome : IsOutcome start received (settled (document r.shown) (option_map document r.pending))

-- the patch was handed back
abbrev pub IsHandedBack : Received → Type 0
IsHandedBack (Conflict back) = ⊤
IsHandedBack other = ⊥

-- the patch clashes with one that was received
abbrev pub ClashesWithOne : List Document → Document → Type 0
ClashesWithOne received p = (w : Path) × ClashesWithAMember received p w

-- what `receive` makes of a replica that follows these patches
abbrev pub FollowsOn : Received → Document → List Document → Document → HeldReplica → Type 0
FollowsOn Taken start received p r = Follows start (received ++ p ∷ []) r × (r.pending ≡ None)
FollowsOn Pending start received p r = Follows start (received ++ p ∷ []) r × (r.pending ≢ None)
FollowsOn (Conflict back) start received p r =
    (document back ≡ p) × Follows start received r × (r.pending ≡ None) × ClashesWithOne received p
FollowsOn Refused start received p r = Follows start received r × (r.pending ≢ None)
