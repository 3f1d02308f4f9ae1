-- The values of a patch are documents: of each `Op`, and of what a document is a form of.
use Rattle.std.proofs.Common.{List, [], ◌∷◌, subst, codes}
use Rattle.mp_tree.specs.Document.{Items, no_items, item, Members, IsDocument, AreDocuments, IsMap}
use Rattle.mp_tree.specs.declared.doc.Doc.{Doc}
use Rattle.mp_tree.proofs.Facts.{IsDocument-document, found_document}
use Rattle.mp_patch.specs.Form.{Carries, EachForm, needed_members}
use Rattle.mp_patch.specs.Laws.{FormsHaveDocuments, PatchesHaveDocuments}
use Rattle.mp_patch.specs.Operation.{HasDocument, HaveDocuments}
use Rattle.mp_patch.specs.Operation.{Operation, add, remove, replace, move, copy, test}
use Rattle.mp_patch.specs.View.{operation_of}
use Rattle.mp_patch.specs.declared.op.Op.{Op}
use Rattle.mp_patch.specs.declared.op.Op.TheVariants as op

has_document : (o : Op Doc) → HasDocument (operation_of o)
has_document (op.Add path value) = IsDocument-document value
has_document (op.Remove path) = tt
has_document (op.Replace path value) = IsDocument-document value
has_document (op.Move origin path) = tt
has_document (op.Copy origin path) = tt
has_document (op.Test path value) = IsDocument-document value

pub have_documents : PatchesHaveDocuments
have_documents [] = tt
have_documents (o ∷ ops) = (has_document o, have_documents ops)

carried_document : (ms : Members) (o : Operation) → IsMap ms → Carries ms (needed_members o) → HasDocument o
carried_document ms (add t v) good carries = found_document (codes "value") ms v good carries.1.1.0
carried_document ms (remove t) good carries = tt
carried_document ms (replace t v) good carries = found_document (codes "value") ms v good carries.1.1.0
carried_document ms (move f t) good carries = tt
carried_document ms (copy f t) good carries = tt
carried_document ms (test t v) good carries = found_document (codes "value") ms v good carries.1.1.0

each_document : (ds : Items) (operations : List Operation) → AreDocuments ds → EachForm ds operations → HaveDocuments operations
each_document no_items [] good forms = tt
each_document no_items (o ∷ operations) good forms = absurd forms
each_document (item d ds) [] good forms = absurd forms
each_document (item d ds) (o ∷ operations) good ((ms, is, carries), forms) = (carried_document ms o (subst IsDocument is good.0) carries, each_document ds operations good.1 forms)

pub forms_have_documents : FormsHaveDocuments
forms_have_documents d operations good (ds, is, forms) = each_document ds operations (subst IsDocument is good) forms
