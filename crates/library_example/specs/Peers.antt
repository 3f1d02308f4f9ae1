-- The JSON Patch that a peer is sent, which understands no merge patches.
use Rattle.std.specs.Prelude.{List}
use Rattle.mp_tree.specs.Document.{Document, IsDocument}
use Rattle.mp_patch.specs.Operation.{Operation}
use Rattle.mp_patch.specs.Run.{Runs}
use Rattle.mp_merge.specs.Join.{IsJoin}
use Rattle.mp_merge.specs.Outcome.{IsOutcome}
use Rattle.mp_merge.specs.Rewriting.{IsRewriting}

-- the rewriting of the patches' join against the start: first the tests, then the edits
pub record RewritesJoin (start : Document) (patches : List Document) (operations : List Operation) : Type 0 where
  pub joined : Document
  pub is_document : IsDocument joined
  pub is_join : IsJoin patches joined
  pub is_rewriting : IsRewriting start joined operations

-- it runs from the start to the outcome of the start and the patches
pub record LeadsToOutcome (start : Document) (patches : List Document) (operations : List Operation) : Type 0 where
  pub outcome : Document
  pub is_document : IsDocument outcome
  pub is_outcome : IsOutcome start patches outcome
  pub runs : Runs start operations outcome
