-- A union in place that ran out of memory can be made again.
use Rattle.std.proofs.Common.{◌≡◌, ◌≤◌, ℕ, List, [], ◌∷◌, true, cond, Option, Some, None, IfSome, refl, sym, ap, ◌∙◌, subst, arith}
use Rattle.mp_tree.specs.Document.{Document, object, Members, member, find, put, IsDocument, IsMap, members_depth}
use Rattle.mp_tree.specs.Look.{look_of}
use Rattle.mp_tree.proofs.Facts.{IsDocument-find, cases_same, find-here, find-put, is_name-self, is_here, members_same, Contains-head, Contains-tail}
use Rattle.mp_merge.specs.Clash.{Compatible}
use Rattle.mp_merge.specs.Join.{IsJoin, AddsNothing, JoinResumes}
use Rattle.mp_merge.specs.Private.Unions.{union, union_with, union_members, AddsNothingAt, Reunites, ReunitesAt, UnitesAt}
use Rattle.mp_merge.proofs.Clashes.ByName.{SameClashes, same_set}
use Rattle.mp_merge.proofs.Collections.Members.{IsAmong, IsUntouched, left_is_other}
use Rattle.mp_merge.proofs.Joins.ByName.{compatible_by_names}
use Rattle.mp_merge.proofs.Joins.Laws.{compatible_from_join, join_absorbs, join_is_commutative, join_is_idempotent, one_join, same_joins}
use Rattle.mp_merge.proofs.Joins.Union.{union_at, find-union_members, union_is_join, union_members-step, union_with-absent, IsDocument-union, IsMap-union_members}

-- ---- what a patch was united with takes it again

takes_again : (p u : Document) → IsDocument p → IsDocument u → IsJoin (u ∷ p ∷ []) u → Compatible p u × (union p u ≡ u)
takes_again p u good other has =
    let pair : IsJoin (p ∷ u ∷ []) u = (join_is_commutative u p u).0 has in
    let free : Compatible p u = compatible_from_join (p ∷ u ∷ []) u pair p u (Contains-head p (u ∷ [])) (Contains-tail p u (u ∷ []) (Contains-head u [])) in
    (free, one_join (p ∷ u ∷ []) (union p u) u (IsDocument-union p u good other) other (union_is_join p u good other free) pair)

united_again : (p : Document) (j : Option Document) → IsDocument p → IfSome j IsDocument → Reunites p j (Some (union_with p j))
united_again p None good other free = subst (λ u. Compatible p u × (union p u ≡ u)) (sym (union_with-absent p)) (takes_again p p good good (join_is_idempotent p))
united_again p (Some j) good other free =
    takes_again p (union p j) good (IsDocument-union p j good other) (join_absorbs j p (union p j) ((join_is_commutative p j (union p j)).0 (union_is_join p j good other free)))

-- ---- one name

-- another value is there, with which the patch's value unites to the same
pub reunites_set : (n : List ℕ) (p d : Document) (js us : Members) → us ≡ put n d js → Reunites p (find n js) (Some d) → ReunitesAt n p js us
reunites_set n p d js us is again = record {
  others = λ m other. ap (find m) is ∙ find-put m n d js ∙ ap (λ b. cond b (Some d) (find m js)) other;
  here = subst (Reunites p (find n js)) (sym (ap (find n) is ∙ find-put n n d js ∙ ap (λ b. cond b (Some d) (find n js)) (is_name-self n))) again;
}

-- so all of the patch is compatible with what is there now, and they unite to the same
reunites_all : (all js us : Members) (n : List ℕ) (p : Document) → IsMap all → IsMap js → IsMap us → find n all ≡ Some p → ReunitesAt n p js us → Reunites (object all) (Some (object js)) (Some (object us))
reunites_all all js us n p good map now carried at free = (compatible, ap object same)
  where
    by_name : (m : List ℕ) (x y : Document) → find m all ≡ Some x → find m js ≡ Some y → Compatible x y
    by_name = (compatible_by_names all js).0 free

    under : (o : Option Document) → find n js ≡ o → IfSome o (Compatible p)
    under None is = tt
    under (Some y) is = by_name n p y carried is

    here : IfSome (find n us) (Compatible p) × (union_with p (find n us) ≡ union_with p (find n js))
    here = at.here (under (find n js) refl)

    compatible : Compatible (object all) (object us)
    compatible = (compatible_by_names all us).1 (λ m x y has there. cases_same m n
        (λ is.
        let same : p ≡ x = (let both : Some p ≡ Some x = sym carried ∙ ap (λ k. find k all) (sym is) ∙ has in cc) in
        let stands : find n us ≡ Some y = ap (λ k. find k us) (sym is) ∙ there in
        subst (λ q. Compatible q y) same (subst (λ o. IfSome o (Compatible p)) stands here.0))
        (λ other. by_name m x y has (sym (at.others m other) ∙ there)))

    same : union_members all us ≡ union_members all js
    same = members_same (union_members all us) (union_members all js) (IsMap-union_members all us good now) (IsMap-union_members all js good map) (λ q.
        find-union_members q all us
        ∙ cases_same q n
        (λ is. subst (λ k. union_at (find k all) (find k us) ≡ union_at (find k all) (find k js)) (sym is)
        (ap (λ o. union_at o (find n us)) carried ∙ ap Some here.1 ∙ ap (λ o. union_at o (find n js)) (sym carried)))
        (λ other. ap (union_at (find q all)) (at.others q other))
        ∙ sym (find-union_members q all js))

reunites_then : (p : Document) (before now later : Option Document) → Reunites p before now → Reunites p now later → Reunites p before later
reunites_then p before now later first next free = let one = first free in let two = next one.0 in (two.0, two.1 ∙ one.1)

-- ---- name by name

-- the changes that are left clash with what there is now if all clash with what there was, and joined with it give the
-- result; and all of them can be united with it
pub record UnitesOn (before all now left : Members) : Type 0 where
  pub clashes : SameClashes all before left now
  pub result : union_members all before ≡ union_members left now
  pub again : Reunites (object all) (Some (object before)) (Some (object now))
  pub among : IsAmong left all
  pub untouched : IsUntouched left before now
  pub no_deeper : members_depth left ≤ members_depth all

module _ {before all now left : Members} {n : List ℕ} {p : Document} (map : IsMap now) (good : IsMap all) (on : UnitesOn before all now (member n p left)) where
  carried : find n all ≡ Some p
  carried = on.among n p (find-here n p left)

  pub unites_again : {later : Members} → IsMap later → ReunitesAt n p now later → Reunites (object all) (Some (object before)) (Some (object later))
  unites_again {later = later} later_map at =
      reunites_then (object all) (Some (object before)) (Some (object now)) (Some (object later)) on.again (reunites_all all now later n p good map later_map carried at)

  pub unites_on : {later : Members} → IsMap later → IsMap (member n p left) → UnitesAt true n p now later → UnitesOn before all later left
  unites_on {later = later} later_map rest at =
      let d = at.0 in
      let free = at.1.0 in
      let made : later ≡ put n (union_with p (find n now)) now = at.2 ∙ ap (λ x. put n x now) at.1.1 in
      let resumes : ReunitesAt n p now later = reunites_set n p (union_with p (find n now)) now later made (united_again p (find n now) rest.0 (IsDocument-find n now map)) in
      let other = λ (q : List ℕ) (x : Document). left_is_other n q p x left rest.1 in
      record {
        clashes = subst (SameClashes all before left) (sym at.2) (same_set d free rest on.clashes);
        result = on.result ∙ union_members-step n p left now map rest ∙ ap (union_members left) (sym made);
        again = unites_again later_map resumes;
        among = λ q x found. on.among q x (other q x found).1;
        untouched = λ q x found. resumes.others q (other q x found).0 ∙ on.untouched q x (other q x found).1;
        no_deeper = let deep = on.no_deeper in omega (arith, deep);
      }

  -- if the patch adds nothing, its next value adds nothing to what is there
  pub adds_nothing_next : AddsNothing (object before) (object all) → AddsNothingAt (find n now) p
  adds_nothing_next adds w has none =
      adds (n ∷ w) (λ absent. has (sym (ap (λ o. look_of o w) carried) ∙ absent)) (sym (ap (λ o. look_of o w) (on.untouched n p (find-here n p left))) ∙ none)

-- ---- no memory

-- a value adds something where nothing is
pub absent_adds : {p : Document} {o : Option Document} → o ≡ None → AddsNothingAt o p → ⊥
absent_adds {p = p} absent adds = adds [] (is_here p) (ap (λ o. look_of o []) absent)

-- ---- two patches

pub join_resumes : (p before now : Document) → IsDocument p → IsDocument before → IsDocument now → Compatible p before → Reunites p (Some before) (Some now) → JoinResumes before p now
join_resumes p before now good old later free again =
    let step = again free in
    let first : IsJoin (now ∷ p ∷ []) (union p before) = (join_is_commutative p now (union p before)).0 (subst (IsJoin (p ∷ now ∷ [])) step.1 (union_is_join p now good later step.0)) in
    let second : IsJoin (before ∷ p ∷ []) (union p before) = (join_is_commutative p before (union p before)).0 (union_is_join p before good old free) in
    record { compatible = step.0; joins = same_joins (now ∷ p ∷ []) (before ∷ p ∷ []) (union p before) (IsDocument-union p before good old) first second }
