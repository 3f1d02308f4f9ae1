-- A document and a patch have a rewriting, and its values are documents.
use Rattle.std.proofs.Common.{◌≡◌, inl, inr, List, [], ◌∷◌, ◌++◌, Option, None, Some, IfSome, map, refl, sym, ap, subst}
use Rattle.std.specs.List.{flat_map}
use Rattle.std.proofs.Math.Decide.{map_dec}
use Rattle.mp_tree.specs.Document.{Document, null, flag, whole, string, list, object, Members, no_members, member, find, IsDocument}
use Rattle.mp_tree.specs.Look.{Path, Look, nothing, an_object, plain, look, look_of}
use Rattle.mp_pointer.specs.Part.{part}
use Rattle.mp_patch.specs.Operation.{HasDocument, HaveDocuments}
use Rattle.mp_patch.specs.Operation.{Operation}
use Rattle.mp_merge.specs.Private.Edits.{GuardedEdit, IsOneEdit, AreEdits, AreMemberEdits}
use Rattle.mp_merge.specs.Laws.{RewritingExists, RewritingHasDocuments}
use Rattle.mp_merge.specs.Rewriting.{guard_of, guards, part_left, edit_to, edit}
use Rattle.mp_merge.specs.Application.{merge_patch, unless_null}
use Rattle.mp_merge.proofs.Application.ByName.{IsDocument-merge_patch}
use Rattle.mp_merge.proofs.Rewritings.Computed.{walk_is_rewriting}
use Rattle.mp_tree.proofs.Facts.{decide_document}
use Rattle.mp_pointer.proofs.Facts.{part-document}

decide_part : (a b : Option Document) → Dec (a ≡ b)
decide_part None None = yes refl
decide_part None (Some e) = no (λ same. cc)
decide_part (Some d) None = no (λ same. cc)
decide_part (Some d) (Some e) = map_dec (ap Some) (λ same. cc) (decide_document d e)

one_edit : (s : Path) (p : Document) (t : Option Document) → (found : List GuardedEdit) × IsOneEdit s p t found
one_edit s p t = elim (decide_part t (part_left s (Some p))) [
  | yes same ↦ ([], inl (same, refl))
  | no other ↦ ((guard_of s t, edit_to s (look_of t []) (part_left s (Some p))) ∷ [], inr (other, refl))
]

mutual
  pub some_edits : (p : Document) (s : Path) (t : Option Document) → (found : List GuardedEdit) × AreEdits s p t found
  some_edits (object ps) s (Some (object ds)) = some_member_edits ps s ds
  some_edits p s t = one_edit s p t

  some_member_edits : (ps : Members) (s : Path) (ds : Members) → (found : List GuardedEdit) × AreMemberEdits s ps ds found
  some_member_edits no_members s ds = ([], refl)
  some_member_edits (member n p ps) s ds =
      let first = some_edits p (s ++ n ∷ []) (find n ds) in
      let rest = some_member_edits ps s ds in
      (first.0 ++ rest.0, (first.0, rest.0, refl, first.1, rest.1))

pub rewriting_exists : RewritingExists
rewriting_exists d p good =
    let edits = some_edits p [] (Some d) in
    let operations = flat_map (λ (g : GuardedEdit). g.0) edits.0 ++ map (λ (g : GuardedEdit). g.1) edits.0 in
    (operations, walk_is_rewriting d p edits.0 operations good edits.1 refl)

-- ---- its values

HasDocument-edit_to : (w : Path) (l : Look) (v : Option Document) → IfSome v IsDocument → HasDocument (edit_to w l v)
HasDocument-edit_to w l None good = tt
HasDocument-edit_to w nothing (Some v) good = good
HasDocument-edit_to w an_object (Some v) good = good
HasDocument-edit_to w (plain x) (Some v) good = good

IsDocument-unless_null : (q : Document) → IsDocument q → IfSome (unless_null q (merge_patch None q)) IsDocument
IsDocument-unless_null null good = tt
IsDocument-unless_null (flag b) good = tt
IsDocument-unless_null (whole z) good = tt
IsDocument-unless_null (string s) good = tt
IsDocument-unless_null (list ds) good = good
IsDocument-unless_null (object ms) good = IsDocument-merge_patch None (object ms) tt good

IsDocument-part_left : (w : Path) (q : Option Document) → IfSome q IsDocument → IfSome (part_left w q) IsDocument
IsDocument-part_left w None good = tt
IsDocument-part_left [] (Some q) good = IsDocument-merge_patch None q tt good
IsDocument-part_left (n ∷ w) (Some q) good = IsDocument-unless_null q good

IsDocument-part : (p : Document) (w : Path) → IsDocument p → (q : Option Document) → part p w ≡ q → IfSome q IsDocument
IsDocument-part p w good None is = tt
IsDocument-part p w good (Some q) is = part-document w p q good is

have_documents : (d p : Document) → IsDocument p → (places : List Path) → HaveDocuments (map (edit d p) places)
have_documents d p good [] = tt
have_documents d p good (w ∷ places) = (
  HasDocument-edit_to w (look d w) (part_left w (part p w)) (IsDocument-part_left w (part p w) (IsDocument-part p w good (part p w) refl)),
  have_documents d p good places,
)

guards_have_documents : (d : Document) → IsDocument d → (places : List Path) (rest : List Operation) → HaveDocuments rest → HaveDocuments (guards d places ++ rest)
guards_have_documents d good [] rest others = others
guards_have_documents d good (w ∷ places) rest others = by (part d w) refl (guards_have_documents d good places rest others)
  where
    by : (v : Option Document) → part d w ≡ v → HaveDocuments (guards d places ++ rest) → HaveDocuments ((guard_of w v ++ guards d places) ++ rest)
    by None is later = later
    by (Some v) is later = (part-document w d v good is, later)

pub rewriting_has_documents : RewritingHasDocuments
rewriting_has_documents d p operations good patch is =
    subst HaveDocuments (sym is.guarded) (guards_have_documents d good is.places (map (edit d p) is.places) (have_documents d p patch is.places))
