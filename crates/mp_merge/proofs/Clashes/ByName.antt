-- Clashes name by name.
use Rattle.std.proofs.Common.{◌≡◌, ◌≢◌, ◌↔◌, ℕ, List, [], ◌∷◌, Bool, true, false, Option, Some, None, IfSome, refl, sym, ap, ◌∙◌, subst, true≢false}
use Rattle.mp_tree.specs.Document.{Document, object, Members, no_members, member, find, put, IsMap}
use Rattle.mp_tree.specs.Look.{Path, nothing, an_object, plain, look, look_of, look_here}
use Rattle.mp_tree.proofs.Facts.{is_here, find-below, find-put, cases_same, find-here, same_plain}
use Rattle.mp_merge.specs.Clash.{Clash, Compatible}
use Rattle.mp_merge.specs.Private.Edits.{NotBothMaps}

-- ---- at the root

abbrev pub IsNoMap : Document → Type 0
IsNoMap d = look_here d ≡ plain d

pub no_map : (d : Document) → ((ms : Members) → d ≢ object ms) → IsNoMap d
no_map (object ms) never = absurd (never ms refl)
no_map d never = refl

pub not_both_first : (p : Document) (t : Option Document) → IsNoMap p → NotBothMaps p t
not_both_first p t plain_p map = absurd (let never : an_object ≡ plain p = sym map ∙ plain_p in cc)

pub not_both_second : (p q : Document) → IsNoMap q → NotBothMaps p (Some q)
not_both_second p q plain_q map other = let never : an_object ≡ plain q = sym other ∙ plain_q in cc

pub clash_at_root : (p q : Document) → (look_here p ≡ look_here q → ⊥) → Clash p q []
clash_at_root p q other = record { first = is_here p; second = is_here q; differ = other }

pub clash_of_others : (p q : Document) → IsNoMap p → (p ≡ q → ⊥) → Clash p q []
clash_of_others p q plain_p other = clash_at_root p q (λ same. other (same_plain p q (sym plain_p ∙ same)))

pub compatible-self : (p q : Document) → p ≡ q → Compatible p q
compatible-self p q same w clash = clash.differ (ap (λ d. look d w) same)

pub clash-sym : (p q : Document) (w : Path) → Clash p q w → Clash q p w
clash-sym p q w clash = record { first = clash.second; second = clash.first; differ = λ same. clash.differ (sym same) }

pub compatible-sym : (p q : Document) → Compatible p q → Compatible q p
compatible-sym p q none w clash = none w (clash-sym q p w clash)

pub decided : (b : Bool) {P : Type 0} → (b ≡ true) ↔ P → ((P → ⊥) → ⊥) → b ≡ true
decided true same never = refl
decided false same never = absurd (never (λ p. true≢false (sym (same.1 p))))

-- ---- name by name

-- the clashes of all the members with those of the other are those of the members that are left with it as it is now
abbrev pub SameClashes : Members → Members → Members → Members → Type 0
SameClashes ps qs left now = (w : Path) → Clash (object ps) (object qs) w ↔ Clash (object left) (object now) w

abbrev pub ClashOf : Option Document → Option Document → Path → Type 0
ClashOf p q w = (look_of p w ≡ nothing → ⊥) × (look_of q w ≡ nothing → ⊥) × (look_of p w ≡ look_of q w → ⊥)

pub clash_of : (ps qs : Members) (n : List ℕ) (w : Path) → Clash (object ps) (object qs) (n ∷ w) → ClashOf (find n ps) (find n qs) w
clash_of ps qs n w clash = (clash.first, clash.second, clash.differ)

pub clash_from : (ps qs : Members) (n : List ℕ) (w : Path) → ClashOf (find n ps) (find n qs) w → Clash (object ps) (object qs) (n ∷ w)
clash_from ps qs n w clash = record { first = clash.0; second = clash.1; differ = clash.2 }

-- the first name may be passed if nothing clashes under it
pass_first : (n : List ℕ) (p : Document) (ps qs : Members) → IsMap (member n p ps) → ((w : Path) → ClashOf (Some p) (find n qs) w → ⊥) → SameClashes (member n p ps) qs ps qs
pass_first n p ps qs map none [] = (λ clash. absurd (clash.differ refl), λ clash. absurd (clash.differ refl))
pass_first n p ps qs map none (m ∷ w) = cases_same m n
    (λ here. let absent : find m ps ≡ None = ap (λ k. find k ps) here ∙ find-below n ps map.1 in (
      λ clash. absurd (none w (subst (λ o. ClashOf o (find n qs) w) (find-here n p ps) (subst (λ k. ClashOf (find k (member n p ps)) (find k qs) w) here (clash_of (member n p ps) qs m w clash)))),
      λ clash. absurd (clash.first (ap (λ o. look_of o w) absent)),
    ))
    (λ other. let same : find m (member n p ps) ≡ find m ps = rw other refl in (
      λ clash. clash_from ps qs m w (subst (λ o. ClashOf o (find m qs) w) same (clash_of (member n p ps) qs m w clash)),
      λ clash. clash_from (member n p ps) qs m w (subst (λ o. ClashOf o (find m qs) w) (sym same) (clash_of ps qs m w clash)),
    ))

-- ---- under the first name

abbrev NoClashUnder : Document → Option Document → Type 0
NoClashUnder p q = (w : Path) → ClashOf (Some p) q w → ⊥

pub absent_under : (p : Document) (q : Option Document) → q ≡ None → NoClashUnder p q
absent_under p q absent w clash = clash.1 (ap (λ o. look_of o w) absent)

pub compatible_under : (p q : Document) (o : Option Document) → o ≡ Some q → Compatible p q → NoClashUnder p o
compatible_under p q o is none w clash =
    let there : ClashOf (Some p) (Some q) w = subst (λ x. ClashOf (Some p) x w) is clash in
    none w (record { first = there.0; second = there.1; differ = there.2 })

-- a clash under the first name is one of the members
pub clash_under : (n : List ℕ) (p q : Document) (ps qs : Members) (w : Path) → find n qs ≡ Some q → Clash p q w → Clash (object (member n p ps)) (object qs) (n ∷ w)
clash_under n p q ps qs w is clash =
    let there : ClashOf (Some p) (Some q) w = (clash.first, clash.second, clash.differ) in
    clash_from (member n p ps) qs n w (subst (λ o. ClashOf o (find n qs) w) (sym (find-here n p ps)) (subst (λ o. ClashOf (Some p) o w) (sym is) there))

-- if nothing clashes under the first name, the clashes with all the members are those with the members after it
pub same_behind : {n : List ℕ} {p : Document} {ps qs left now : Members} → NoClashUnder p (find n now) → IsMap (member n p left) → SameClashes ps qs (member n p left) now → SameClashes ps qs left now
same_behind {n = n} {p = p} {left = left} {now = now} none map same w =
    let later = pass_first n p left now map none w in
    (λ clash. later.0 ((same w).0 clash), λ clash. (same w).1 (later.1 clash))

-- ---- if the other is set at a name that is not left

set_aside : (n : List ℕ) (d : Document) (left now : Members) → find n left ≡ None → SameClashes left now left (put n d now)
set_aside n d left now absent [] = (λ clash. absurd (clash.differ refl), λ clash. absurd (clash.differ refl))
set_aside n d left now absent (m ∷ w) = cases_same m n
    (λ here. let none : find m left ≡ None = ap (λ k. find k left) here ∙ absent in (
      λ clash. absurd (clash.first (ap (λ o. look_of o w) none)),
      λ clash. absurd (clash.first (ap (λ o. look_of o w) none)),
    ))
    (λ other. let stays : find m (put n d now) ≡ find m now = find-put m n d now ∙ rw other refl in (
      λ clash. clash_from left (put n d now) m w (subst (λ o. ClashOf (find m left) o w) (sym stays) (clash_of left now m w clash)),
      λ clash. clash_from left now m w (subst (λ o. ClashOf (find m left) o w) stays (clash_of left (put n d now) m w clash)),
    ))

no_clash_under : (p : Document) (o : Option Document) → IfSome o (Compatible p) → NoClashUnder p o
no_clash_under p None free = absent_under p None refl
no_clash_under p (Some q) free = compatible_under p q (Some q) refl free

-- the first name was passed, and the other has been set there
pub same_set : {n : List ℕ} {p : Document} {ps qs left now : Members} (d : Document) → IfSome (find n now) (Compatible p) → IsMap (member n p left) → SameClashes ps qs (member n p left) now → SameClashes ps qs left (put n d now)
same_set {n = n} {p = p} {left = left} {now = now} d free map same w =
    let behind = same_behind (no_clash_under p (find n now) free) map same w in
    let aside = set_aside n d left now (find-below n left map.1) w in
    (λ clash. aside.0 (behind.0 clash), λ clash. behind.1 (aside.1 clash))

-- if all are compatible, so is what is at the first name
pub compatible_first : {n : List ℕ} {p : Document} {ps qs left now : Members} → SameClashes ps qs (member n p left) now → Compatible (object ps) (object qs) → IfSome (find n now) (Compatible p)
compatible_first {n = n} {p = p} {left = left} {now = now} same free = at (find n now) refl
  where
    at : (o : Option Document) → find n now ≡ o → IfSome o (Compatible p)
    at None is = tt
    at (Some q) is = λ w clash. free (n ∷ w) ((same (n ∷ w)).1 (clash_under n p q left now w is clash))

-- if none are left, all are compatible
pub compatible_all : {ps qs now : Members} → SameClashes ps qs no_members now → Compatible (object ps) (object qs)
compatible_all same [] clash = clash.differ refl
compatible_all same (n ∷ w) clash = ((same (n ∷ w)).0 clash).first refl
