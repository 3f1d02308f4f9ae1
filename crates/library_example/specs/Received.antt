-- What a replica with the number of its start stores, which messages are of that start, and why a run of them ends early.
use Rattle.std.specs.Prelude.{◌≡◌, ◌≢◌, ◌∷◌, ◌++◌, ℕ, List, [], map, nat_eq, ⊤}
use Rattle.std.specs.List.{filter}
use Rattle.mp_tree.specs.Document.{Document}
use Rattle.mp_tree.specs.Look.{Path}
use Rattle.mp_tree.specs.View.{document}
use Rattle.mp_merge.specs.Lists.{PairwiseCompatible}
use Rattle.mp_merge.specs.declared.fault.JoinFault.{JoinFault}
use Rattle.mp_merge.specs.declared.fault.JoinFault.TheVariants.{Conflict, OutOfMemory}
use Rattle.mp_replica.specs.Held.{AreClashesWith, HeldReplica}
use Rattle.mp_replica.specs.declared.replica.Received.{Received}
use Rattle.library_example.specs.declared.receiving.Delivery.{Delivery}
use Rattle.library_example.specs.declared.receiving.Delivery.TheVariants.{Given}
use Rattle.library_example.specs.declared.receiving.EpochReplica.{EpochReplica}
use Rattle.library_example.specs.declared.receiving.PatchMessage.{PatchMessage}

-- ---- what is stored

-- the number of the start
abbrev pub epoch_of : EpochReplica → ℕ
epoch_of replica = replica.epoch

-- what the replica holds
abbrev pub replica_of : EpochReplica → HeldReplica
replica_of replica = replica.replica

-- ---- what arrives

-- the patches of the messages that are of this start, in the order in which they arrived
abbrev pub patches_of : ℕ → List PatchMessage → List Document
patches_of epoch messages = map (λ e. document e.patch) (filter (λ e. nat_eq e.epoch epoch) messages)

-- the patch was given to the replica, and this is true of the answer
abbrev pub IfGiven : Delivery → (Received → Type 0) → Type 0
IfGiven (Given answer) holds = holds answer
IfGiven other holds = ⊥

-- ---- what is refused

-- the first patch of the list that clashes with one before it, and the places at which it clashes with any of these
pub record IsFirstClash (patches : List Document) (places : List Path) : Type 0 where
  pub before : List Document
  pub patch : Document
  pub after : List Document
  pub are : patches ≡ before ++ patch ∷ after
  pub compatible : PairwiseCompatible before
  pub some : places ≢ []
  pub clashes : AreClashesWith before patch places

-- said of a list of patches; running out of memory says nothing of them
abbrev pub IsClashAmong : JoinFault → List Document → Type 0
IsClashAmong (Conflict places) patches = IsFirstClash patches places.items
IsClashAmong OutOfMemory patches = ⊤
