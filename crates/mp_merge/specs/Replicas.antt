-- What two replicas received that are to come to one document.
use Rattle.std.specs.Prelude.{◌≢◌, List, []}
use Rattle.mp_tree.specs.Document.{Document}
use Rattle.mp_merge.specs.Lists.{HaveSameMembers, PairwiseCompatible}

-- the same patches, at least one, in orders of their own and with repeats, and no two of them clash
pub record AreReplicas (here there : List Document) : Type 0 where
  pub same : HaveSameMembers here there
  pub some : here ≢ []
  pub compatible : PairwiseCompatible here
