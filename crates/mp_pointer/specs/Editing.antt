-- What the editing of one part of a document does.
use Rattle.std.specs.Prelude.{◌≡◌, Some}
use Rattle.mp_tree.specs.Document.{Document}
use Rattle.mp_tree.specs.View.{document}
use Rattle.mp_tree.specs.declared.doc.Doc.{Doc}
use Rattle.mp_pointer.specs.Difference.{DifferOnlyAt}
use Rattle.mp_pointer.specs.Part.{part}
use Rattle.mp_pointer.specs.Spelling.{Tokens}

-- from the old to the new document, the part at t alone was edited, as `Edited` says
pub record EditsAt (Edited : Doc → Doc → Type 0) (t : Tokens) (old new : Doc) : Type 0 where
  pub before : Doc
  pub after : Doc
  pub edited : Edited before after
  pub stood : part (document old) t ≡ Some (document before)
  pub stands : part (document new) t ≡ Some (document after)
  pub only : DifferOnlyAt t (document old) (document new)

-- the same of what means a document by f
pub record EditsBy {V : Type 0} (f : V → Document) (Edited : V → V → Type 0) (t : Tokens) (old new : V) : Type 0 where
  pub before : V
  pub after : V
  pub edited : Edited before after
  pub stood : part (f old) t ≡ Some (f before)
  pub stands : part (f new) t ≡ Some (f after)
  pub only : DifferOnlyAt t (f old) (f new)
