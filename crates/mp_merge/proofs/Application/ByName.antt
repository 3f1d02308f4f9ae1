-- Application at each name, and one name after another.
use Rattle.std.proofs.Common.{◌≡◌, ℕ, List, cond, Option, Some, None, IfSome, refl, sym, ap, ◌∙◌}
use Rattle.mp_tree.specs.Document.{Document, null, flag, whole, string, list, object, Members, no_members, member, is_name, find, put, IsDocument, IsMap}
use Rattle.mp_merge.specs.Application.{target_members, set_or_remove, merge_patch, merge_patch_members, unless_null, after_patch}
use Rattle.mp_merge.specs.Laws.{AppliesAtEachName, MergedIsDocument, OthersReplace}
use Rattle.mp_tree.proofs.Facts.{IsDocument-find, find-put, find-without, find-below, IsMap-put, IsMap-without, members_same, cases_same, is_name-self}

-- ---- the result is a document

abbrev IsTarget : Option Document → Type 0
IsTarget t = IfSome t IsDocument

pub IsMap-target_members : (t : Option Document) → IsTarget t → IsMap (target_members t)
IsMap-target_members None good = tt
IsMap-target_members (Some null) good = tt
IsMap-target_members (Some (flag b)) good = tt
IsMap-target_members (Some (whole z)) good = tt
IsMap-target_members (Some (string s)) good = tt
IsMap-target_members (Some (list ds)) good = tt
IsMap-target_members (Some (object ts)) good = good

IsMap-set_or_remove : (n : List ℕ) (p d : Document) (ms : Members) → IsDocument d → IsMap ms → IsMap (set_or_remove n p d ms)
IsMap-set_or_remove n null d ms good map = IsMap-without n ms map
IsMap-set_or_remove n (flag b) d ms good map = IsMap-put n d ms good map
IsMap-set_or_remove n (whole z) d ms good map = IsMap-put n d ms good map
IsMap-set_or_remove n (string s) d ms good map = IsMap-put n d ms good map
IsMap-set_or_remove n (list ds) d ms good map = IsMap-put n d ms good map
IsMap-set_or_remove n (object ps) d ms good map = IsMap-put n d ms good map

mutual
  pub IsDocument-merge_patch : (t : Option Document) (p : Document) → IsTarget t → IsDocument p → IsDocument (merge_patch t p)
  IsDocument-merge_patch t null target good = tt
  IsDocument-merge_patch t (flag b) target good = tt
  IsDocument-merge_patch t (whole z) target good = tt
  IsDocument-merge_patch t (string s) target good = tt
  IsDocument-merge_patch t (list ds) target good = good
  IsDocument-merge_patch t (object ps) target good = IsMap-merge_patch_members (target_members t) ps (IsMap-target_members t target) good

  pub IsMap-merge_patch_members : (ts ps : Members) → IsMap ts → IsMap ps → IsMap (merge_patch_members ts ps)
  IsMap-merge_patch_members ts no_members targets good = targets
  IsMap-merge_patch_members ts (member n p ps) targets good =
      IsMap-set_or_remove n p (merge_patch (find n ts) p) (merge_patch_members ts ps) (IsDocument-merge_patch (find n ts) p (IsDocument-find n ts targets) good.0) (IsMap-merge_patch_members ts ps targets good.2)

pub merged_is_document : MergedIsDocument
merged_is_document d p good fine = IsDocument-merge_patch (Some d) p good fine

-- ---- at each name

pub find-set_or_remove : (q n : List ℕ) (p d : Document) (ms : Members) → IsMap ms → find q (set_or_remove n p d ms) ≡ cond (is_name q n) (unless_null p d) (find q ms)
find-set_or_remove q n null d ms map = find-without q n ms map
find-set_or_remove q n (flag b) d ms map = find-put q n d ms
find-set_or_remove q n (whole z) d ms map = find-put q n d ms
find-set_or_remove q n (string s) d ms map = find-put q n d ms
find-set_or_remove q n (list ds) d ms map = find-put q n d ms
find-set_or_remove q n (object ps) d ms map = find-put q n d ms

pub find-merge_patch_members : (ts ps : Members) → IsMap ts → IsMap ps → (n : List ℕ) → find n (merge_patch_members ts ps) ≡ after_patch (find n ts) (find n ps)
find-merge_patch_members ts no_members targets good q = refl
find-merge_patch_members ts (member n p ps) targets good q =
    find-set_or_remove q n p (merge_patch (find n ts) p) (merge_patch_members ts ps) (IsMap-merge_patch_members ts ps targets good.2)
    ∙ cases_same q n (λ here. rw (here, is_name-self)) (λ other. rw other (find-merge_patch_members ts ps targets good.2 q))

pub applies_at_each_name : AppliesAtEachName
applies_at_each_name t ps target good =
    let ts = target_members t in
    let map = IsMap-target_members t target in
    (merge_patch_members ts ps, refl, IsMap-merge_patch_members ts ps map good, find-merge_patch_members ts ps map good)

pub others_replace : OthersReplace
others_replace t null plain = refl
others_replace t (flag b) plain = refl
others_replace t (whole z) plain = refl
others_replace t (string s) plain = refl
others_replace t (list ds) plain = refl
others_replace t (object ps) plain = absurd (cc)

-- ---- one name after another

-- the first name of a patch may be changed first
pub merge_patch_members-step : (ts : Members) (n : List ℕ) (p : Document) (ps : Members) → IsMap ts → IsMap (member n p ps) → merge_patch_members ts (member n p ps) ≡ merge_patch_members (set_or_remove n p (merge_patch (find n ts) p) ts) ps
merge_patch_members-step ts n p ps targets good =
    let d = merge_patch (find n ts) p in
    let now = set_or_remove n p d ts in
    let now_map : IsMap now = IsMap-set_or_remove n p d ts (IsDocument-merge_patch (find n ts) p (IsDocument-find n ts targets) good.0) targets in
    let same : (q : List ℕ) → find q (merge_patch_members ts (member n p ps)) ≡ find q (merge_patch_members now ps) = λ q.
    find-merge_patch_members ts (member n p ps) targets good q
    ∙ cases_same q n
    (λ here.
    let none : find q ps ≡ None = ap (λ k. find k ps) here ∙ find-below n ps good.1 in
    let left : after_patch (find q ts) (find q (member n p ps)) ≡ unless_null p d = rw (here, is_name-self) in
    let right : find q now ≡ unless_null p d = find-set_or_remove q n p d ts targets ∙ rw (here, is_name-self) in
    left ∙ sym right ∙ sym (ap (after_patch (find q now)) none))
    (λ other.
    let stays : find q now ≡ find q ts = find-set_or_remove q n p d ts targets ∙ rw other in
    rw other (ap (λ t. after_patch t (find q ps)) (sym stays)))
    ∙ sym (find-merge_patch_members now ps now_map good.2 q) in
    members_same (merge_patch_members ts (member n p ps)) (merge_patch_members now ps) (IsMap-merge_patch_members ts (member n p ps) targets good) (IsMap-merge_patch_members now ps now_map good.2) same

-- a value that is no null is set
pub set_or_remove-other : (n : List ℕ) (p d : Document) (ms : Members) → (p ≡ null → ⊥) → set_or_remove n p d ms ≡ put n d ms
set_or_remove-other n null d ms other = absurd (other refl)
set_or_remove-other n (flag b) d ms other = refl
set_or_remove-other n (whole z) d ms other = refl
set_or_remove-other n (string s) d ms other = refl
set_or_remove-other n (list ds) d ms other = refl
set_or_remove-other n (object ps) d ms other = refl
