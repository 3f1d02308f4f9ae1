-- What each arm of the walk over a patch and a document adds.
use Rattle.std.proofs.Common.{◌≡◌, ◌≢◌, inr, ℕ, List, [], ◌∷◌, ◌++◌, Option, Some, None, refl, sym, ap, ap₂, ◌∙◌}
use Rattle.mp_tree.specs.Document.{Document, null, flag, whole, string, list, object, Members, no_members, member, find}
use Rattle.mp_tree.specs.Look.{Path, nothing, look, look_here}
use Rattle.mp_patch.specs.Operation.{add, remove, replace, test}
use Rattle.mp_merge.specs.Application.{merge_patch, unless_null}
use Rattle.mp_merge.specs.Private.Edits.{GuardedEdit, IsOneEdit, NotBothMaps, AreEdits, AreMemberEdits, Admitted, admit_edit}
use Rattle.mp_merge.specs.Private.Budgets.{add_each}
use Rattle.mp_merge.specs.Rewriting.{part_left, edit_to}
use Rattle.mp_merge.specs.Private.Growth.{GrewBy}
use Rattle.mp_merge.proofs.Budgets.{each_none, each_both}
use Rattle.mp_merge.proofs.Collections.Growth.{IsRestOf, grew_by_all, rest_after_one}

-- ---- one operation

left_below_root : (s : Path) (n : List ℕ) (p : Document) → part_left (s ++ n ∷ []) (Some p) ≡ unless_null p (merge_patch None p)
left_below_root [] n p = refl
left_below_root (m ∷ s) n p = refl

value_left : (p : Document) → p ≢ null → unless_null p (merge_patch None p) ≡ Some (merge_patch None p)
value_left null other = absurd (other refl)
value_left (flag b) other = refl
value_left (whole z) other = refl
value_left (string s) other = refl
value_left (list ds) other = refl
value_left (object ms) other = refl

-- the patch's part, as an application to nothing leaves it, is what it leaves at s
abbrev LeavesValue : Path → Document → Type 0
LeavesValue s p = part_left s (Some p) ≡ Some (merge_patch None p)

pub leaves_value : (s : Path) (n : List ℕ) (p : Document) → p ≢ null → LeavesValue (s ++ n ∷ []) p
leaves_value s n p other = left_below_root s n p ∙ value_left p other

leaves_nothing : (s : Path) (n : List ℕ) (p : Document) → p ≡ null → part_left (s ++ n ∷ []) (Some p) ≡ None
leaves_nothing s n p is = left_below_root s n p ∙ ap (λ q. unless_null q (merge_patch None q)) is

pub edit_removes : (s place other : Path) (n : List ℕ) (p v : Document) → p ≡ null → place ≡ s ++ n ∷ [] → other ≡ s ++ n ∷ [] → IsOneEdit (s ++ n ∷ []) p (Some v) ((test place v ∷ [], remove other) ∷ [])
edit_removes s place other n p v is there also =
    inr (
      λ same. let never : Some v ≡ None = same ∙ leaves_nothing s n p is in cc,
      ap₂ (λ u x. (test u v ∷ [], remove x) ∷ []) there also ∙ ap (λ o. (test (s ++ n ∷ []) v ∷ [], edit_to (s ++ n ∷ []) (look v []) o) ∷ []) (sym (leaves_nothing s n p is)),
    )

pub edit_adds : (s place : Path) (p q : Document) → LeavesValue s p → place ≡ s → q ≡ merge_patch None p → IsOneEdit s p None (([], add place q) ∷ [])
edit_adds s place p q left there is =
    inr (
      λ same. let never : None ≡ Some (merge_patch None p) = same ∙ left in cc,
      ap₂ (λ u x. ([], add u x) ∷ []) there is ∙ ap (λ o. ([], edit_to s nothing o) ∷ []) (sym left),
    )

same_value : (p v : Document) → NotBothMaps p (Some v) → v ≡ merge_patch None p → p ≡ v
same_value (object ps) (object ms) other is = absurd (other refl refl)
same_value (object ps) v other is = absurd (other refl (ap look_here is))
same_value null v other is = sym is
same_value (flag b) v other is = sym is
same_value (whole z) v other is = sym is
same_value (string s) v other is = sym is
same_value (list ds) v other is = sym is

over_value : (s : Path) (v x : Document) → edit_to s (look v []) (Some x) ≡ replace s x
over_value s null x = refl
over_value s (flag b) x = refl
over_value s (whole z) x = refl
over_value s (string t) x = refl
over_value s (list ds) x = refl
over_value s (object ms) x = refl

pub edit_replaces : (s place other : Path) (p v q : Document) → LeavesValue s p → NotBothMaps p (Some v) → p ≢ v → place ≡ s → other ≡ s → q ≡ merge_patch None p → IsOneEdit s p (Some v) ((test place v ∷ [], replace other q) ∷ [])
edit_replaces s place other p v q left never differ there also is =
    inr (
      λ same. let whole_is : Some v ≡ Some (merge_patch None p) = same ∙ left in differ (same_value p v never (let value_is : v ≡ merge_patch None p = cc in value_is)),
      ap (λ u. (test u v ∷ [], replace other q) ∷ []) there ∙ ap₂ (λ u x. (test s v ∷ [], replace u x) ∷ []) also is ∙ ap (λ o. (test s v ∷ [], o) ∷ []) (sym (over_value s v (merge_patch None p)))
          ∙ ap (λ o. (test s v ∷ [], edit_to s (look v []) o) ∷ []) (sym left),
    )

-- ---- at most one has a map

pub edits_one : (s : Path) (p : Document) (t : Option Document) (found : List GuardedEdit) → NotBothMaps p t → IsOneEdit s p t found → AreEdits s p t found
edits_one s (object ps) (Some (object ds)) found never one = absurd (never refl refl)
edits_one s (object ps) None found never one = one
edits_one s (object ps) (Some null) found never one = one
edits_one s (object ps) (Some (flag b)) found never one = one
edits_one s (object ps) (Some (whole z)) found never one = one
edits_one s (object ps) (Some (string r)) found never one = one
edits_one s (object ps) (Some (list ds)) found never one = one
edits_one s null t found never one = one
edits_one s (flag b) t found never one = one
edits_one s (whole z) t found never one = one
edits_one s (string r) t found never one = one
edits_one s (list ds) t found never one = one

-- ---- both have maps

pub both_maps : (old new : Admitted) (s place : Path) (p : Document) (t : Option Document) (ps ds : Members) → p ≡ object ps → t ≡ Some (object ds) → place ≡ s → GrewBy (add_each admit_edit) old new (AreMemberEdits place ps ds) → GrewBy (add_each admit_edit) old new (AreEdits s p t)
both_maps old new s place p t ps ds patch target there grew = rw (patch, target, ← there) grew

-- ---- name by name

-- what is still to be added, added to what is there, gives all that is added
abbrev pub IsEditsRest : Admitted → Admitted → Path → Members → Members → Members → Type 0
IsEditsRest before now s all left ds = IsRestOf (add_each admit_edit) (each_none admit_edit) (each_both admit_edit) before now (AreMemberEdits s left ds) (AreMemberEdits s all ds)

pub edits_after_one : (before now later : Admitted) (s : Path) (all left ds : Members) (n : List ℕ) (p : Document) → IsEditsRest before now s all (member n p left) ds → GrewBy (add_each admit_edit) now later (AreEdits (s ++ n ∷ []) p (find n ds))
    → IsEditsRest before later s all left ds
edits_after_one before now later s all left ds n p =
    rest_after_one (add_each admit_edit) (each_none admit_edit) (each_both admit_edit) before now later (AreEdits (s ++ n ∷ []) p (find n ds)) (AreMemberEdits s left ds) (AreMemberEdits s (member n p left) ds) (AreMemberEdits s all ds)
    (λ first rest here others. (first, rest, refl, here, others))

pub all_edits : (before now : Admitted) (s : Path) (all ds : Members) → IsEditsRest before now s all no_members ds → GrewBy (add_each admit_edit) before now (AreMemberEdits s all ds)
all_edits before now s all ds = grew_by_all (add_each admit_edit) (each_none admit_edit) (each_both admit_edit) before now (AreMemberEdits s all ds)

pub renamed : (now later : Admitted) (w s : Path) (m n : List ℕ) (p : Document) (t o : Option Document) → w ≡ s → m ≡ n → t ≡ o → GrewBy (add_each admit_edit) now later (AreEdits (w ++ m ∷ []) p t) → GrewBy (add_each admit_edit) now later (AreEdits (s ++ n ∷ []) p o)
renamed now later w s m n p t o path name part grew = rw (← path, ← name, ← part) grew
