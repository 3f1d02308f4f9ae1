-- Merging in place: what one name of an object comes to, and that a try that was refused can be made again.
use Rattle.std.proofs.Common.{◌≡◌, inl, inr, ℕ, List, [], ◌∷◌, cond, Option, Some, None, IfSome, refl, sym, ap, ◌∙◌, subst}
use Rattle.std.proofs.lemmas.List.Elements.{All-contains_itself, All-weaker}
use Rattle.std.specs.List.{All, Contains}
use Rattle.mp_tree.specs.Document.{Document, null, flag, whole, string, list, object, Members, member, find, put, IsDocument, IsMap}
use Rattle.mp_tree.specs.Look.{Path, nothing, an_object, plain, look, look_of}
use Rattle.mp_tree.proofs.Facts.{IsDocument-find, cases_same, find-put, is_name-self, members_same, find-here, Contains-twice, Contains-head, Contains-tail}
use Rattle.mp_merge.specs.Application.{after_patch, set_or_remove, in_turn, merge_patch, merge_patch_members, target_members, unless_null}
use Rattle.mp_merge.specs.Laws.{AppliedOnce, MergesIntoNull, TriesResume}
use Rattle.mp_merge.specs.Lists.{HaveSameMembers}
use Rattle.mp_merge.specs.Lists.{PairwiseCompatible}
use Rattle.mp_merge.specs.Private.Merging.{NeedsNoneAt, NeedsNoneIn, ResumesAt}
use Rattle.mp_merge.specs.Resumption.{NeedsNoMemory}
use Rattle.mp_merge.proofs.Application.ByName.{IsDocument-merge_patch, IsMap-merge_patch_members, find-set_or_remove, find-merge_patch_members, merge_patch_members-step}
use Rattle.mp_merge.proofs.Clashes.ByName.{compatible-self}
use Rattle.mp_merge.proofs.Collections.Members.{IsAmong, IsUntouched, left_is_other}
use Rattle.mp_merge.proofs.Application.InTurn.{applied_in_turn}
use Rattle.mp_merge.proofs.Outcome.{application_is_outcome, replicas_agree}

-- ---- a patch that is applied twice

pub merges_into_null : MergesIntoNull
merges_into_null null = refl
merges_into_null (flag b) = refl
merges_into_null (whole z) = refl
merges_into_null (string s) = refl
merges_into_null (list ds) = refl
merges_into_null (object ps) = refl

same_twice : (p : Document) → HaveSameMembers (p ∷ p ∷ []) (p ∷ [])
same_twice p q = (λ at. subst (Contains (p ∷ [])) (Contains-twice p q at) (Contains-head p []), λ at. Contains-tail p q (p ∷ []) at)

pub applied_once : AppliedOnce
applied_once d p good patch =
    let all : (q r : Document) → Contains (p ∷ p ∷ []) q → Contains (p ∷ p ∷ []) r → q ≡ r = λ q r one two. sym (Contains-twice p q one) ∙ Contains-twice p r two in
    let free : PairwiseCompatible (p ∷ p ∷ []) = λ q r one two. compatible-self q r (all q r one two) in
    let documents : All IsDocument (p ∷ p ∷ []) = All-weaker (Contains (p ∷ p ∷ [])) IsDocument (λ q at. subst IsDocument (Contains-twice p q at) patch) (p ∷ p ∷ []) (All-contains_itself (p ∷ p ∷ [])) in
    replicas_agree d (p ∷ p ∷ []) (p ∷ []) (in_turn d (p ∷ p ∷ [])) (merge_patch (Some d) p) (same_twice p) (IsDocument-merge_patch (Some (merge_patch (Some d) p)) p (IsDocument-merge_patch (Some d) p good patch) patch) (IsDocument-merge_patch (Some d) p good patch)
    (applied_in_turn d (p ∷ p ∷ []) good documents free) (application_is_outcome d p good patch)

mp_twice : (t : Option Document) (p : Document) → IfSome t IsDocument → IsDocument p → merge_patch (Some (merge_patch t p)) p ≡ merge_patch t p
mp_twice None p target good = ap (λ d. merge_patch (Some d) p) (sym (merges_into_null p)) ∙ applied_once null p tt good ∙ merges_into_null p
mp_twice (Some d) p target good = applied_once d p target good

-- what one name has after a change is changed no more
changed_once : (t : Option Document) (p : Document) → IfSome t IsDocument → IsDocument p → merge_patch (unless_null p (merge_patch t p)) p ≡ merge_patch t p
changed_once t null target good = refl
changed_once t (flag b) target good = refl
changed_once t (whole z) target good = refl
changed_once t (string s) target good = refl
changed_once t (list ds) target good = refl
changed_once t (object ps) target good = mp_twice t (object ps) target good

pub tries_resume : TriesResume
tries_resume d p [] tries = refl
tries_resume d p (e ∷ rest) tries = tries_resume e p rest tries.1 ∙ tries.0

-- ---- one name

changed_resumes : (n : List ℕ) (p : Document) (ts : Members) → IsMap ts → IsDocument p → ResumesAt n p ts (set_or_remove n p (merge_patch (find n ts) p) ts)
changed_resumes n p ts map good = record {
  others = λ m other. find-set_or_remove m n p (merge_patch (find n ts) p) ts map ∙ ap (λ b. cond b (unless_null p (merge_patch (find n ts) p)) (find m ts)) other;
  here = ap (λ t. merge_patch t p) (find-set_or_remove n n p (merge_patch (find n ts) p) ts map ∙ ap (λ b. cond b (unless_null p (merge_patch (find n ts) p)) (find n ts)) (is_name-self n)) ∙ changed_once (find n ts) p (IsDocument-find n ts map) good;
}

-- so it is if the value at the name is another one from which the patch's value gives the same
pub set_resumes : (n : List ℕ) (p d : Document) (ts us : Members) → us ≡ put n d ts → merge_patch (Some d) p ≡ merge_patch (find n ts) p → ResumesAt n p ts us
set_resumes n p d ts us is same = record {
  others = λ m other. ap (find m) is ∙ find-put m n d ts ∙ ap (λ b. cond b (Some d) (find m ts)) other;
  here = ap (λ o. merge_patch o p) (ap (find n) is ∙ find-put n n d ts ∙ ap (λ b. cond b (Some d) (find n ts)) (is_name-self n)) ∙ same;
}

-- so applying all of the patch gives the same as before
resumes_all : (ts us ps : Members) (n : List ℕ) (p : Document) → IsMap ts → IsMap us → IsMap ps → find n ps ≡ Some p → ResumesAt n p ts us → merge_patch_members us ps ≡ merge_patch_members ts ps
resumes_all ts us ps n p map now good carried resumes = members_same (merge_patch_members us ps) (merge_patch_members ts ps) (IsMap-merge_patch_members us ps now good) (IsMap-merge_patch_members ts ps map good) at_name
  where
    here : after_patch (find n us) (find n ps) ≡ after_patch (find n ts) (find n ps)
    here = ap (after_patch (find n us)) carried ∙ ap (unless_null p) resumes.here ∙ sym (ap (after_patch (find n ts)) carried)

    at_name : (q : List ℕ) → find q (merge_patch_members us ps) ≡ find q (merge_patch_members ts ps)
    at_name q =
        find-merge_patch_members us ps now good q
        ∙ cases_same q n
        (λ same. subst (λ k. after_patch (find k us) (find k ps) ≡ after_patch (find k ts) (find k ps)) (sym same) here)
        (λ other. ap (λ t. after_patch t (find q ps)) (resumes.others q other))
        ∙ sym (find-merge_patch_members ts ps map good q)

-- ---- the names that are left

-- the changes that are left, made to what there is now, give what all give, and so do all of them, made again
pub record MergesOn (before all now left : Members) : Type 0 where
  pub result : merge_patch_members now left ≡ merge_patch_members before all
  pub again : merge_patch_members now all ≡ merge_patch_members before all
  pub among : IsAmong left all
  pub untouched : IsUntouched left before now

module _ {before all now left : Members} {n : List ℕ} {p : Document} (map : IsMap now) (good : IsMap all) (on : MergesOn before all now (member n p left)) where
  carried : find n all ≡ Some p
  carried = on.among n p (find-here n p left)

  pub merges_again : {later : Members} → IsMap later → ResumesAt n p now later → merge_patch_members later all ≡ merge_patch_members before all
  merges_again {later = later} later_map resumes = resumes_all now later all n p map later_map good carried resumes ∙ on.again

  pub merges_on : {later : Members} → IsMap later → IsMap (member n p left) → later ≡ set_or_remove n p (merge_patch (find n now) p) now → MergesOn before all later left
  merges_on {later = later} later_map rest made =
      let resumes : ResumesAt n p now later = subst (ResumesAt n p now) (sym made) (changed_resumes n p now map rest.0) in
      let other = λ (q : List ℕ) (x : Document). left_is_other n q p x left rest.1 in
      record {
        result = ap (λ ms. merge_patch_members ms left) made ∙ sym (merge_patch_members-step now n p left map rest) ∙ on.result;
        again = merges_again later_map resumes;
        among = λ q x found. on.among q x (other q x found).1;
        untouched = λ q x found. resumes.others q (other q x found).0 ∙ on.untouched q x (other q x found).1;
      }

  -- if no value of the patch takes memory, the next one takes none
  pub needs_none_next : NeedsNoneIn all before → NeedsNoneAt p (find n now)
  needs_none_next needs = subst (NeedsNoneAt p) (sym (on.untouched n p (find-here n p left))) (needs n p carried)

-- ---- no memory

pub absent_needs : {p : Document} {t : Option Document} → (p ≡ null → ⊥) → t ≡ None → NeedsNoneAt p t → ⊥
absent_needs other absent (inl is) = other is
absent_needs other absent (inr there) = let never : Some there.0 ≡ None = sym there.1 ∙ absent in absurd (cc)

pub present_needs : {p d : Document} {t : Option Document} → (p ≡ null → ⊥) → t ≡ Some d → NeedsNoneAt p t → NeedsNoMemory d p
present_needs other here (inl is) = absurd (other is)
present_needs {p = p} {d = d} other here (inr there) = let same : there.0 ≡ d = (let both : Some there.0 ≡ Some d = sym there.1 ∙ here in cc) in subst (λ (e : Document). NeedsNoMemory e p) same there.2

-- an object there, and what the patch has below it
needs_at : (n : List ℕ) (ts ps : Members) (p : Document) → find n ps ≡ Some p → NeedsNoMemory (object ts) (object ps) → NeedsNoneAt p (find n ts)
needs_at n ts ps p found needs = by p (look_of-found []) refl
  where
    look_of-found : (w : Path) → look (object ps) (n ∷ w) ≡ look p w
    look_of-found w = ap (λ o. look_of o w) found

    no_value : (v : Document) → look p [] ≡ plain v → v ≡ null
    no_value v is = needs.nulls_alone (n ∷ []) v (look_of-found [] ∙ is)

    inside : (t : Option Document) → find n ts ≡ t → look p [] ≡ an_object → look_of t [] ≡ an_object → NeedsNoneAt p (find n ts)
    inside None is map there = absurd (let never : nothing ≡ an_object = there in cc)
    inside (Some d) is map there = inr (
      d,
      is,
      record {
        object_alone = map;
        nulls_alone = λ w v here. needs.nulls_alone (n ∷ w) v (look_of-found w ∙ here);
        objects_there = λ w here. sym (ap (λ o. look_of o w) is) ∙ needs.objects_there (n ∷ w) (look_of-found w ∙ here);
      },
    )

    by : (q : Document) → look (object ps) (n ∷ []) ≡ look p [] → q ≡ p → NeedsNoneAt p (find n ts)
    by null is same = inl (sym same)
    by (flag b) is same = absurd (let never = no_value (flag b) (ap (λ d. look d []) (sym same)) in cc)
    by (whole z) is same = absurd (let never = no_value (whole z) (ap (λ d. look d []) (sym same)) in cc)
    by (string s) is same = absurd (let never = no_value (string s) (ap (λ d. look d []) (sym same)) in cc)
    by (list ds) is same = absurd (let never = no_value (list ds) (ap (λ d. look d []) (sym same)) in cc)
    by (object qs) is same =
        let map : look p [] ≡ an_object = ap (λ d. look d []) (sym same) in
        inside (find n ts) refl map (needs.objects_there (n ∷ []) (is ∙ map))

pub needs_in : (t : Document) (ps : Members) → NeedsNoMemory t (object ps) → NeedsNoneIn ps (target_members (Some t))
needs_in (object ts) ps needs n p found = needs_at n ts ps p found needs
needs_in null ps needs n p found = absurd (let never = needs.objects_there [] refl in cc)
needs_in (flag b) ps needs n p found = absurd (let never = needs.objects_there [] refl in cc)
needs_in (whole z) ps needs n p found = absurd (let never = needs.objects_there [] refl in cc)
needs_in (string s) ps needs n p found = absurd (let never = needs.objects_there [] refl in cc)
needs_in (list ds) ps needs n p found = absurd (let never = needs.objects_there [] refl in cc)
