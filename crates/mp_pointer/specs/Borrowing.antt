-- What a document ends as, once a `&mut` to one of its parts has ended.
use Rattle.std.specs.Prelude.{◌≡◌, Option, Some}
use Rattle.std.specs.Option.{OnSome}
use Rattle.std.specs.Borrow.{Fml, LendsSo, MutBor, RattleType}
use Rattle.mp_tree.specs.Document.{Document}
use Rattle.mp_tree.specs.Rows.{doc_row}
use Rattle.mp_tree.specs.View.{document}
use Rattle.mp_tree.specs.declared.doc.Doc.{Doc}
use Rattle.mp_pointer.specs.Difference.{DifferOnlyAt}
use Rattle.mp_pointer.specs.Part.{part}
use Rattle.mp_pointer.specs.Spelling.{Tokens}

-- e is d with its part at t made v: they differ at t alone
pub record PartBecomes (t : Tokens) (v d e : Document) : Type 0 where
  pub stands : part e t ≡ Some v
  pub only : DifferOnlyAt t d e

-- Of what borrows a part r, where `doc_of` is the document that it is: once the borrow ends,
-- the part at t is what was left in it and nothing else changed; at `None` nothing changed.
abbrev pub BorrowsPartOf : (R : RattleType) → (R.Denot → Doc) → Tokens → MutBor R.Denot → Option (MutBor Doc) → Fml
BorrowsPartOf R doc_of t lender r =
    LendsSo R doc_row lender r
    (λ new left. OnSome r (PartBecomes t (document left) (document (doc_of lender.now)) (document (doc_of new))))
    (λ new. document (doc_of new) ≡ document (doc_of lender.now))

-- the same of a document
abbrev pub BorrowsPart : Tokens → MutBor Doc → Option (MutBor Doc) → Fml
BorrowsPart = BorrowsPartOf doc_row (λ d. d)
