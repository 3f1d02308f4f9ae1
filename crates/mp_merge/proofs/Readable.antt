-- What is made of documents that can be read can be read: merged documents, joins, and the values of rewritings.
use Rattle.std.proofs.Common.{◌≡◌, ◌≢◌, ◌≤◌, ℕ, ℤ, max, List, [], ◌∷◌, ◌++◌, Option, None, Some, IfSome, IsUtf8, map, refl, sym, ◌∙◌, subst, arith}
use Rattle.std.proofs.lemmas.List.Elements.{All-append, All-cons, All-contains_itself, All-head, All-nil, All-tail, All-weaker}
use Rattle.std.specs.List.{All, Contains}
use Rattle.mp_tree.specs.Document.{Document, null, flag, whole, string, list, object, Members, no_members, member, find, IsWhole, IsReadable, Throughout, ThroughoutMembers, depth}
use Rattle.mp_tree.specs.Look.{Path, Look, nothing, an_object, plain, look, look_of}
use Rattle.mp_tree.proofs.Facts.{cases_same, find-here, Throughout-find, Throughout-put, Throughout-without}
use Rattle.mp_pointer.specs.Laws.{PartsAreReadable, PartsAreShallower}
use Rattle.mp_pointer.specs.Part.{part}
use Rattle.mp_patch.specs.Form.{deepest, value_depth}
use Rattle.mp_patch.specs.Operation.{Operation, test}
use Rattle.mp_patch.specs.Writable.{AreTexts, IsWritable}
use Rattle.mp_merge.specs.Application.{depth_of, merge_patch, merge_patch_members, set_or_remove, target_members}
use Rattle.mp_merge.specs.EditPlace.{Changes, sets, clears, enters}
use Rattle.mp_merge.specs.Laws.{JoinIsReadable, MergedIsReadable, RewritingIsWritable, RewritingIsNoDeeper}
use Rattle.mp_merge.specs.Private.Unions.{earlier_or, union, union_members, union_over, union_with}
use Rattle.mp_merge.specs.Rewriting.{edit, edit_to, guard_of, guards, part_left}
use Rattle.mp_merge.proofs.Application.ByName.{IsDocument-merge_patch}
use Rattle.mp_merge.proofs.Application.Depth.{depth-merge_patch}
use Rattle.mp_merge.proofs.Joins.Laws.{compatible_from_join, empty_has_no_join, join_from_compatible, one_join}
use Rattle.mp_merge.proofs.Joins.Union.{IsDocument-union, depth-union}

-- ---- what holds of each number and text holds of those of a merged document, and of a union

module _ (N : ℤ → Type 0) (S : List ℕ → Type 0) where
  target-throughout : (t : Option Document) → IfSome t (Throughout N S) → ThroughoutMembers N S (target_members t)
  target-throughout None all = tt
  target-throughout (Some (object ts)) all = all
  target-throughout (Some t) all = tt

  change-throughout : (n : List ℕ) (p d : Document) (ms : Members) → S n → Throughout N S d → ThroughoutMembers N S ms → ThroughoutMembers N S (set_or_remove n p d ms)
  change-throughout n null d ms name here rest = Throughout-without N S n ms rest
  change-throughout n (flag b) d ms name here rest = Throughout-put N S n d ms name here rest
  change-throughout n (whole z) d ms name here rest = Throughout-put N S n d ms name here rest
  change-throughout n (string s) d ms name here rest = Throughout-put N S n d ms name here rest
  change-throughout n (list ds) d ms name here rest = Throughout-put N S n d ms name here rest
  change-throughout n (object ps) d ms name here rest = Throughout-put N S n d ms name here rest

  mutual
    merged-throughout : (t : Option Document) (p : Document) → IfSome t (Throughout N S) → Throughout N S p → Throughout N S (merge_patch t p)
    merged-throughout t null target all = tt
    merged-throughout t (flag b) target all = tt
    merged-throughout t (whole z) target all = all
    merged-throughout t (string s) target all = all
    merged-throughout t (list ds) target all = all
    merged-throughout t (object ps) target all = members-throughout (target_members t) ps (target-throughout t target) all

    members-throughout : (ts ps : Members) → ThroughoutMembers N S ts → ThroughoutMembers N S ps → ThroughoutMembers N S (merge_patch_members ts ps)
    members-throughout ts no_members target all = target
    members-throughout ts (member n p ps) target all =
        change-throughout n p (merge_patch (find n ts) p) (merge_patch_members ts ps) all.0 (merged-throughout (find n ts) p (Throughout-find N S n ts target) all.1) (members-throughout ts ps target all.2)

  earlier-throughout : (j : Option Document) (p : Document) → IfSome j (Throughout N S) → Throughout N S p → Throughout N S (earlier_or j p)
  earlier-throughout None p joined all = all
  earlier-throughout (Some j) p joined all = joined

  over-throughout : (j : Option Document) (ps both : Members) → IfSome j (Throughout N S) → ThroughoutMembers N S ps → ThroughoutMembers N S both → Throughout N S (union_over j ps both)
  over-throughout None ps both joined all whole_map = all
  over-throughout (Some (object js)) ps both joined all whole_map = whole_map
  over-throughout (Some j) ps both joined all whole_map = joined

  mutual
    with-throughout : (p : Document) (j : Option Document) → Throughout N S p → IfSome j (Throughout N S) → Throughout N S (union_with p j)
    with-throughout (object ps) j all joined =
        over-throughout j ps (union_members ps (target_members j)) joined all (union_members-throughout ps (target_members j) all (target-throughout j joined))
    with-throughout null j all joined = earlier-throughout j null joined all
    with-throughout (flag b) j all joined = earlier-throughout j (flag b) joined all
    with-throughout (whole z) j all joined = earlier-throughout j (whole z) joined all
    with-throughout (string s) j all joined = earlier-throughout j (string s) joined all
    with-throughout (list ds) j all joined = earlier-throughout j (list ds) joined all

    union_members-throughout : (ps js : Members) → ThroughoutMembers N S ps → ThroughoutMembers N S js → ThroughoutMembers N S (union_members ps js)
    union_members-throughout no_members js all joined = joined
    union_members-throughout (member n p ps) js all joined =
        Throughout-put N S n (union_with p (find n js)) (union_members ps js) all.0 (with-throughout p (find n js) all.1 (Throughout-find N S n js joined)) (union_members-throughout ps js all.2 joined)

  -- the names of a path at which there is something
  name-found : (n : List ℕ) (ms : Members) → ThroughoutMembers N S ms → IfSome (find n ms) (λ d. S n × Throughout N S d)
  name-found n no_members all = tt
  name-found n (member m d ms) all = cases_same n m
      (λ same. subst (λ k. IfSome (find k (member m d ms)) (λ e. S k × Throughout N S e)) (sym same) (rw (find-here m d ms) (all.0, all.1)))
      (λ other. rw other (name-found n ms all.2))

  path-throughout : (w : Path) (o : Option Document) → IfSome o (Throughout N S) → look_of o w ≢ nothing → All S w
  path-throughout w None all has = absurd (has refl)
  path-throughout [] (Some d) all has = All-nil S
  path-throughout (n ∷ w) (Some (object ms)) all has = by (find n ms) (name-found n ms all) has (path-throughout w (find n ms) (Throughout-find N S n ms all))
    where
      by : (o : Option Document) → IfSome o (λ d. S n × Throughout N S d) → look_of o w ≢ nothing → (look_of o w ≢ nothing → All S w) → All S (n ∷ w)
      by None found has rest = absurd (has refl)
      by (Some d) found has rest = All-cons S n w found.0 (rest has)
  path-throughout (n ∷ w) (Some null) all has = absurd (has refl)
  path-throughout (n ∷ w) (Some (flag b)) all has = absurd (has refl)
  path-throughout (n ∷ w) (Some (whole z)) all has = absurd (has refl)
  path-throughout (n ∷ w) (Some (string s)) all has = absurd (has refl)
  path-throughout (n ∷ w) (Some (list ds)) all has = absurd (has refl)

-- ---- merged documents and joins

merged_anywhere : (t : Option Document) (p : Document) → IfSome t IsReadable → IsReadable p → IsReadable (merge_patch t p)
merged_anywhere None p target can = record {
  is_document = IsDocument-merge_patch None p tt can.is_document;
  has_texts = merged-throughout (λ z. Unit {0}) IsUtf8 None p tt can.has_texts;
  in_range = merged-throughout IsWhole (λ s. Unit {0}) None p tt can.in_range;
  within = omega (arith, depth-merge_patch None p, can.within);
}
merged_anywhere (Some d) p target can = record {
  is_document = IsDocument-merge_patch (Some d) p target.is_document can.is_document;
  has_texts = merged-throughout (λ z. Unit {0}) IsUtf8 (Some d) p target.has_texts can.has_texts;
  in_range = merged-throughout IsWhole (λ s. Unit {0}) (Some d) p target.in_range can.in_range;
  within = omega (arith, depth-merge_patch (Some d) p, can.within, target.within);
}

pub merged_is_readable : MergedIsReadable
merged_is_readable d p target can = merged_anywhere (Some d) p target can

union_is_readable : (p j : Document) → IsReadable p → IsReadable j → IsReadable (union p j)
union_is_readable p j can could = record {
  is_document = IsDocument-union p j can.is_document could.is_document;
  has_texts = with-throughout (λ z. Unit {0}) IsUtf8 p (Some j) can.has_texts could.has_texts;
  in_range = with-throughout IsWhole (λ s. Unit {0}) p (Some j) can.in_range could.in_range;
  within = omega (arith, depth-union p j, can.within, could.within);
}

pub join_is_readable : JoinIsReadable
join_is_readable [] j good all joined = absurd (empty_has_no_join j joined)
join_is_readable (p ∷ patches) j good all joined =
    let made = join_from_compatible IsReadable union_is_readable p patches all (compatible_from_join (p ∷ patches) j joined) in
    subst IsReadable (one_join (p ∷ patches) made.0 j made.1.is_document good made.2 joined) made.1

-- ---- the values of a rewriting

-- an edit place is one at which the patch has something
has_something : (d p : Document) (w : Path) → Changes d p w → look p w ≢ nothing
has_something d p w (sets v here is other) none = let no : plain v ≡ nothing = sym here ∙ none in absurd (cc)
has_something d p w (clears here below there) none = let no : plain null ≡ nothing = sym here ∙ none in absurd (cc)
has_something d p w (enters here other) none = let no : an_object ≡ nothing = sym here ∙ none in absurd (cc)

left-readable : (w : Path) (o : Option Document) → IfSome o IsReadable → IfSome (part_left w o) IsReadable
left-readable w None can = tt
left-readable [] (Some q) can = merged_anywhere None q tt can
left-readable (n ∷ w) (Some null) can = tt
left-readable (n ∷ w) (Some (flag b)) can = merged_anywhere None (flag b) tt can
left-readable (n ∷ w) (Some (whole z)) can = merged_anywhere None (whole z) tt can
left-readable (n ∷ w) (Some (string s)) can = merged_anywhere None (string s) tt can
left-readable (n ∷ w) (Some (list ds)) can = merged_anywhere None (list ds) tt can
left-readable (n ∷ w) (Some (object ms)) can = merged_anywhere None (object ms) tt can

edit_to-writable : (w : Path) (l : Look) (o : Option Document) → AreTexts w → IfSome o IsReadable → IsWritable (edit_to w l o)
edit_to-writable w l None names can = names
edit_to-writable w nothing (Some v) names can = (names, can)
edit_to-writable w an_object (Some v) names can = (names, can)
edit_to-writable w (plain x) (Some v) names can = (names, can)

module _ (parts : PartsAreReadable) where
  part-readable : (d : Document) (w : Path) → IsReadable d → (o : Option Document) → part d w ≡ o → IfSome o IsReadable
  part-readable d w can None is = tt
  part-readable d w can (Some x) is = parts w d x can is

  guard-writable : (d : Document) (w : Path) (o : Option Document) → AreTexts w → IfSome o IsReadable → All IsWritable (guard_of w o)
  guard-writable d w None names can = All-nil IsWritable
  guard-writable d w (Some v) names can = All-cons IsWritable (test w v) [] (names, can) (All-nil IsWritable)

  guards-writable : (d : Document) (places : List Path) → IsReadable d → All AreTexts places → All IsWritable (guards d places)
  guards-writable d [] can names = All-nil IsWritable
  guards-writable d (w ∷ places) can names =
      All-append IsWritable (guard_of w (part d w)) (guards d places) (guard-writable d w (part d w) (All-head AreTexts w places names) (part-readable d w can (part d w) refl))
      (guards-writable d places can (All-tail AreTexts w places names))

  edits-writable : (d p : Document) (places : List Path) → IsReadable p → All AreTexts places → All IsWritable (map (edit d p) places)
  edits-writable d p [] can names = All-nil IsWritable
  edits-writable d p (w ∷ places) can names =
      All-cons IsWritable (edit d p w) (map (edit d p) places)
      (edit_to-writable w (look d w) (part_left w (part p w)) (All-head AreTexts w places names) (left-readable w (part p w) (part-readable p w can (part p w) refl)))
      (edits-writable d p places can (All-tail AreTexts w places names))

  pub rewriting_is_writable : RewritingIsWritable
  rewriting_is_writable d p operations can could is =
      let names : All AreTexts is.places =
      All-weaker (Contains is.places) AreTexts (λ w at. path-throughout (λ z. Unit {0}) IsUtf8 w (Some p) could.has_texts (has_something d p w ((is.all w).0 at).here)) is.places (All-contains_itself is.places) in
      subst (All IsWritable) (sym is.guarded) (All-append IsWritable (guards d is.places) (map (edit d p) is.places) (guards-writable d is.places can names) (edits-writable d p is.places could names))

-- ---- how deep its values are

left-depth : (w : Path) (o : Option Document) → depth_of (part_left w o) ≤ depth_of o
left-depth w None = omega arith
left-depth [] (Some q) = omega (arith, depth-merge_patch None q)
left-depth (n ∷ w) (Some null) = omega arith
left-depth (n ∷ w) (Some (flag b)) = omega arith
left-depth (n ∷ w) (Some (whole z)) = omega arith
left-depth (n ∷ w) (Some (string s)) = omega arith
left-depth (n ∷ w) (Some (list ds)) = omega arith
left-depth (n ∷ w) (Some (object ms)) = omega (arith, depth-merge_patch None (object ms))

edit_to-depth : (w : Path) (l : Look) (o : Option Document) → value_depth (edit_to w l o) ≤ depth_of o
edit_to-depth w l None = omega arith
edit_to-depth w nothing (Some v) = omega arith
edit_to-depth w an_object (Some v) = omega arith
edit_to-depth w (plain x) (Some v) = omega arith

module _ (parts : PartsAreShallower) where
  part-shallow : (d : Document) (w : Path) (o : Option Document) → part d w ≡ o → depth_of o ≤ depth d
  part-shallow d w None is = omega arith
  part-shallow d w (Some x) is = omega (arith, parts w d x is)

  edits-depth : (d p : Document) (places : List Path) → deepest (map (edit d p) places) ≤ depth p
  edits-depth d p [] = omega arith
  edits-depth d p (w ∷ places) =
      omega (arith, edit_to-depth w (look d w) (part_left w (part p w)), left-depth w (part p w), part-shallow p w (part p w) refl, edits-depth d p places)

  guards-depth : (d : Document) (places : List Path) (rest : List Operation) (n : ℕ) → depth d ≤ n → deepest rest ≤ n → deepest (guards d places ++ rest) ≤ n
  guards-depth d [] rest n within shallow = shallow
  guards-depth d (w ∷ places) rest n within shallow = by (part d w) refl (guards-depth d places rest n within shallow)
    where
      by : (o : Option Document) → part d w ≡ o → deepest (guards d places ++ rest) ≤ n → deepest ((guard_of w o ++ guards d places) ++ rest) ≤ n
      by None is later = later
      by (Some v) is later = omega (arith, parts w d v is, later)

  pub rewriting_is_no_deeper : RewritingIsNoDeeper
  rewriting_is_no_deeper d p operations is =
      subst (λ os. deepest os ≤ max (depth d) (depth p)) (sym is.guarded)
      (guards-depth d is.places (map (edit d p) is.places) (max (depth d) (depth p)) (omega arith) (omega (arith, edits-depth d p is.places)))
