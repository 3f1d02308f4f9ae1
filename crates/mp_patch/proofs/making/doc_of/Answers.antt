use Rattle.std.proofs.Common.{◌≡◌, ◌∷◌, [], codes, ap, ap₂, sym, ◌∙◌, BTreeMap, String, Global}
use Rattle.mp_tree.specs.Document.{object, put, string}
use Rattle.mp_tree.specs.View.{members_of}
use Rattle.mp_tree.specs.Private.Entries.{members}
use Rattle.mp_tree.specs.declared.doc.Doc.{Doc}
use Rattle.mp_tree.proofs.Facts.{document-Members, document-Text}
use Rattle.mp_patch.specs.Form.{op_member, path_member}
use Rattle.mp_patch.specs.Private.Names.{name_of}
use Rattle.mp_patch.proofs.Shapes.Made.{with_origin, with_value, shape_members}
use Rattle.mp_patch.proofs.making.doc_of.Goals as goal
use Rattle.mp_patch.proofs.making.doc_of.Goals.{in-Some+in_ok-print+in_ok-set, in_default, in-Some-value+in_ok-copy+in_ok-set-2, in_default-value}

pub returns : goal.returns
returns c =
    let shape = c.args.shape.now in
    let common = members_of (op_member (name_of shape.name) ∷ path_member shape.path.now ∷ []) in
    let of_map = λ (m : BTreeMap (String Global) Doc). members m.entries in
    let origin : members c.match-shape.entries.entries ≡ with_origin shape.origin common = elim c.match-shape.branch [
      | in-Some+in_ok-print+in_ok-set w ↦ ap of_map w.entries-is
          ∙ w.in_ok-set.ensures
          ∙ ap₂ (put (codes "from")) (document-Text w.in_ok-print.field-0 ∙ ap string w.in_ok-print.ensures) c.in_ok-entries.ensures
          ∙ ap (λ o. with_origin o common) (sym w.in-Some.is)
      | in_default w ↦ ap of_map w.entries-is ∙ c.in_ok-entries.ensures ∙ ap (λ o. with_origin o common) (sym w.in_default.is)
    ]
    in
    let value : members c.match-shape-2.entries.entries ≡ with_value shape.value (with_origin shape.origin common) = elim c.match-shape-2.branch [
      | in-Some-value+in_ok-copy+in_ok-set-2 w ↦ ap of_map w.entries-is
          ∙ w.in_ok-set-2.ensures
          ∙ ap₂ (put (codes "value")) w.in_ok-copy.ensures.equal origin
          ∙ ap (λ v. with_value v (with_origin shape.origin common)) (sym w.in-Some-value.is)
      | in_default-value w ↦ ap of_map w.entries-is ∙ origin ∙ ap (λ v. with_value v (with_origin shape.origin common)) (sym w.in_default-value.is)
    ]
    in
    document-Members c.match-shape-2.entries ∙ ap object (value ∙ shape_members (name_of shape.name) shape.path.now shape.origin shape.value)
