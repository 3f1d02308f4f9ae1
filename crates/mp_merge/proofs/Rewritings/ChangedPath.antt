-- A document in which what is at the end of a path was set or taken out: what it looks like, and that an operation leads to it.
use Rattle.std.proofs.Common.{◌≡◌, ◌≢◌, ℕ, List, [], ◌∷◌, ◌++◌, false, cond, Option, Some, None, IfSome, refl, sym, ap, ◌∙◌, subst}
use Rattle.mp_tree.specs.Document.{Document, null, flag, whole, string, list, object, Members, is_name, find, put, without, IsDocument, IsMap}
use Rattle.mp_tree.specs.Look.{Path, look_of}
use Rattle.mp_tree.proofs.Facts.{find-put, find-without, IsMap-put, IsMap-without, IsDocument-find, cases_same, is_name-self}
use Rattle.mp_pointer.specs.Difference.{DifferOnlyAt, names}
use Rattle.mp_pointer.specs.Spelling.{BeginsWith}
use Rattle.mp_pointer.proofs.Facts.{child-object, names_of-put, DifferOnlyAt-child, DifferOnlyAt-root}
use Rattle.mp_merge.specs.Application.{target_members}
use Rattle.mp_merge.proofs.Application.Looks.{look-target_members}
use Rattle.mp_merge.proofs.Application.ByName.{IsMap-target_members}
use Rattle.mp_merge.proofs.Paths.Maps.{MapsAbove, at_path, look-at_path}

-- a name of a map is set, or taken out
abbrev pub with_name : List ℕ → Option Document → Members → Members
with_name n None ms = without n ms
with_name n (Some v) ms = put n v ms

find-with_name : (q n : List ℕ) (v : Option Document) (ms : Members) → IsMap ms → find q (with_name n v ms) ≡ cond (is_name q n) v (find q ms)
find-with_name q n None ms map = find-without q n ms map
find-with_name q n (Some v) ms map = find-put q n v ms

find-set : (n : List ℕ) (v : Option Document) (ms : Members) → IsMap ms → find n (with_name n v ms) ≡ v
find-set n v ms map = find-with_name n n v ms map ∙ ap (λ b. cond b v (find n ms)) (is_name-self n)

find-other : (q n : List ℕ) (v : Option Document) (ms : Members) → IsMap ms → is_name q n ≡ false → find q (with_name n v ms) ≡ find q ms
find-other q n v ms map other = find-with_name q n v ms map ∙ ap (λ b. cond b v (find q ms)) other

IsMap-with_name : (n : List ℕ) (v : Option Document) (ms : Members) → IfSome v IsDocument → IsMap ms → IsMap (with_name n v ms)
IsMap-with_name n None ms good map = IsMap-without n ms map
IsMap-with_name n (Some v) ms good map = IsMap-put n v ms good map

-- what is at the end of a path is set, or taken out
abbrev pub with_at : Path → Option Document → Option Document → Option Document
with_at [] v t = v
with_at (n ∷ w) v t = Some (object (with_name n (with_at w v (find n (target_members t))) (target_members t)))

pub IsDocument-with_at : (w : Path) (v t : Option Document) → IfSome v IsDocument → IfSome t IsDocument → IfSome (with_at w v t) IsDocument
IsDocument-with_at [] v t value good = value
IsDocument-with_at (n ∷ w) v t value good =
    let map = IsMap-target_members t good in
    IsMap-with_name n (with_at w v (find n (target_members t))) (target_members t) (IsDocument-with_at w v (find n (target_members t)) value (IsDocument-find n (target_members t) map)) map

-- ---- its looks

pub at_path-with_at : (w : Path) (v t : Option Document) → IfSome t IsDocument → at_path (with_at w v t) w ≡ v
at_path-with_at [] v t good = refl
at_path-with_at (n ∷ w) v t good =
    let map = IsMap-target_members t good in
    ap (λ o. at_path o w) (find-set n (with_at w v (find n (target_members t))) (target_members t) map)
    ∙ at_path-with_at w v (find n (target_members t)) (IsDocument-find n (target_members t) map)

pub maps-with_at : (w : Path) (v t : Option Document) → IfSome t IsDocument → MapsAbove (with_at w v t) w
maps-with_at [] v t good = tt
maps-with_at (n ∷ w) v t good =
    let map = IsMap-target_members t good in (
      refl,
      subst (λ o. MapsAbove o w) (sym (find-set n (with_at w v (find n (target_members t))) (target_members t) map))
          (maps-with_at w v (find n (target_members t)) (IsDocument-find n (target_members t) map)),
    )

pub look-with_at : (w r : Path) (v t : Option Document) → IfSome t IsDocument → look_of (with_at w v t) (w ++ r) ≡ look_of v r
look-with_at w r v t good = look-at_path w r (with_at w v t) ∙ ap (λ o. look_of o r) (at_path-with_at w v t good)

-- at every path that does not begin with the place it looks as before
pub look-elsewhere : (w : Path) (v t : Option Document) → IfSome t IsDocument → MapsAbove t w → (u : Path) → ¬ BeginsWith u w → look_of (with_at w v t) u ≡ look_of t u
look-elsewhere [] v t good maps u apart = absurd (apart (u, refl))
look-elsewhere (n ∷ w) v t good maps [] apart = sym maps.0
look-elsewhere (n ∷ w) v t good maps (k ∷ u) apart =
    let ms = target_members t in
    let map = IsMap-target_members t good in
    let new = with_at w v (find n ms) in
    cases_same k n
    (λ here.
    ap (λ q. look_of (find q (with_name n new ms)) u) here ∙ ap (λ o. look_of o u) (find-set n new ms map)
    ∙ look-elsewhere w v (find n ms) (IsDocument-find n ms map) maps.1 u (λ begins. apart (begins.0, ap (λ q. q ∷ u) here ∙ ap (λ r. n ∷ r) begins.1))
    ∙ look-target_members n u t ∙ ap (λ q. look_of t (q ∷ u)) (sym here))
    (λ other. ap (λ o. look_of o u) (find-other k n new ms map other) ∙ look-target_members k u t)

-- ---- it differs from the document at the place alone

-- the document that was made; with a value, or below the root, there is one
abbrev pub made : Option Document → Document
made None = null
made (Some d) = d

pub made_is : (w : Path) (c : Document) (t : Option Document) → with_at w (Some c) t ≡ Some (made (with_at w (Some c) t))
made_is [] c t = refl
made_is (n ∷ w) c t = refl

no_name_there : (w : Path) (z : Document) (o : Option Document) → at_path o w ≡ Some z → (x : Document) × (o ≡ Some x)
no_name_there w z None is = absurd (never w is)
  where
    never : (u : Path) → at_path None u ≡ Some z → ⊥
    never [] e = cc
    never (n ∷ u) e = never u e
no_name_there w z (Some x) is = (x, refl)

pub differ_at : (w : Path) (c x z : Document) → IsDocument x → MapsAbove (Some x) w → at_path (Some x) w ≡ Some z → DifferOnlyAt w x (made (with_at w (Some c) (Some x)))
differ_at [] c x z good maps is = DifferOnlyAt-root x c
differ_at (n ∷ w) c (object ms) z good maps is =
    let old = no_name_there w z (find n ms) is in
    let under : IfSome (Some old.0) IsDocument = subst (λ o. IfSome o IsDocument) old.1 (IsDocument-find n ms good) in
    let new = made (with_at w (Some c) (Some old.0)) in
    let there : with_at w (Some c) (find n ms) ≡ Some new = ap (with_at w (Some c)) old.1 ∙ made_is w c (Some old.0) in
    let deeper = differ_at w c old.0 z under (subst (λ o. MapsAbove o w) old.1 maps.1) (sym (ap (λ o. at_path o w) old.1) ∙ is) in
    let after : object (with_name n (with_at w (Some c) (find n ms)) ms) ≡ object (put n new ms) = ap (λ o. object (with_name n o ms)) there in
    let only : DifferOnlyAt (n ∷ w) (object ms) (object (put n new ms)) =
    DifferOnlyAt-child n w (object ms) (object (put n new ms)) old.0 new (ap names (sym (names_of-put n old.0 new ms good old.1)))
    (λ q other. child-object q ms ∙ sym (find-other q n (Some new) ms good (apart q other)) ∙ sym (child-object q (put n new ms)))
    (child-object n ms ∙ old.1)
    (child-object n (put n new ms) ∙ find-set n (Some new) ms good)
    deeper in
    subst (λ y. DifferOnlyAt (n ∷ w) (object ms) y) (sym after) only
  where
    apart : (q : List ℕ) → q ≢ n → is_name q n ≡ false
    apart q other = cases_same q n (λ same. absurd (other same)) (λ is. is)
differ_at (n ∷ w) c null z good maps is = let never = maps.0 in absurd (cc)
differ_at (n ∷ w) c (flag b) z good maps is = let never = maps.0 in absurd (cc)
differ_at (n ∷ w) c (whole k) z good maps is = let never = maps.0 in absurd (cc)
differ_at (n ∷ w) c (string s) z good maps is = let never = maps.0 in absurd (cc)
differ_at (n ∷ w) c (list ds) z good maps is = let never = maps.0 in absurd (cc)

-- ---- the last name, and the map that has it

pub with_at-push : (s : Path) (n : List ℕ) (v t : Option Document) → with_at (s ++ n ∷ []) v t ≡ with_at s (Some (object (with_name n v (target_members (at_path t s))))) t
with_at-push [] n v t = refl
with_at-push (m ∷ s) n v t = ap (λ o. Some (object (with_name m o (target_members t)))) (with_at-push s n v (find m (target_members t)))
