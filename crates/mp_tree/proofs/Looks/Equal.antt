-- Two documents are equal exactly if their looks are equal at every path.
use Rattle.std.proofs.Common.{◌≡◌, ℕ, List, [], ◌∷◌, true, false, cond, Option, Some, None, IfSome, refl, sym, ap, subst}
use Rattle.mp_tree.specs.Document.{Document, null, object, Members, no_members, member, is_name, find, IsDocument, IsMap}
use Rattle.mp_tree.specs.Look.{Path, nothing, plain, look, look_of, look_here}
use Rattle.mp_tree.specs.Laws.{EqualLooks}
use Rattle.mp_tree.proofs.Maps.Finite.{members_same}

pub is_here : (d : Document) → look_here d ≡ nothing → ⊥
is_here null e = cc
is_here other e = cc

pub same_plain : (d e : Document) → plain d ≡ look_here e → d ≡ e
same_plain d (object ms) same = absurd (cc)
same_plain d other same = cc

-- a value of a map is a document
pub IsDocument-find : (q : List ℕ) (ms : Members) → IsMap ms → IfSome (find q ms) IsDocument
IsDocument-find q no_members good = tt
IsDocument-find q (member m d ms) good =
    elim (is_name q m) as (λ b. IfSome (cond b (Some d) (find q ms)) IsDocument) [ true ↦ good.0 | false ↦ IsDocument-find q ms good.2 ]

pub found_document : (n : List ℕ) (ms : Members) (v : Document) → IsMap ms → find n ms ≡ Some v → IsDocument v
found_document n ms v good at = subst (λ o. IfSome o IsDocument) at (IsDocument-find n ms good)

mutual
  same_from_looks : (d e : Document) → IsDocument d → IsDocument e → ((w : Path) → look d w ≡ look e w) → d ≡ e
  same_from_looks (object ms) (object es) good other looks =
      ap object (members_same ms es good other (λ q. found_same ms q (find q es) good (IsDocument-find q es other) (λ w. looks (q ∷ w))))
  same_from_looks (object ms) e good other looks = let here = looks [] in absurd (cc)
  same_from_looks d e good other looks = same_plain d e (looks [])

  found_same : (ms : Members) (q : List ℕ) (o : Option Document) → IsMap ms → IfSome o IsDocument → ((w : Path) → look_of (find q ms) w ≡ look_of o w) → find q ms ≡ o
  found_same no_members q o good other looks =
      (elim o as (λ r. ((w : Path) → look_of None w ≡ look_of r w) → None ≡ r) [ None ↦ λ h. refl | Some e ↦ λ h. absurd (is_here e (sym (h []))) ]) looks
  found_same (member m d ms) q o good other looks =
      (elim (is_name q m) as (λ b. ((w : Path) → look_of (cond b (Some d) (find q ms)) w ≡ look_of o w) → cond b (Some d) (find q ms) ≡ o) [
        | true ↦ λ h. (elim o as (λ r. IfSome r IsDocument → ((w : Path) → look d w ≡ look_of r w) → Some d ≡ r) [
          | None ↦ λ g k. absurd (is_here d (k []))
          | Some e ↦ λ g k. ap Some (same_from_looks d e good.0 g k)
        ]) other h
        | false ↦ λ h. found_same ms q o good.2 other h
      ]) looks

pub equal_looks : EqualLooks
equal_looks d e good other = (λ same w. ap (λ x. look x w) same, λ looks. same_from_looks d e good other looks)

-- ---- what looks as nothing does, and as a document does

pub none_there : (o : Option Document) → look_of o [] ≡ nothing → o ≡ None
none_there None none = refl
none_there (Some d) none = absurd (is_here d none)

pub same_there : (o : Option Document) (d : Document) → IfSome o IsDocument → IsDocument d → ((w : Path) → look_of o w ≡ look d w) → o ≡ Some d
same_there None d good is alike = absurd (is_here d (sym (alike [])))
same_there (Some e) d good is alike = ap Some ((equal_looks e d good is).1 alike)
