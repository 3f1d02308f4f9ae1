-- Compatibility and join, name by name.
use Rattle.std.proofs.Common.{◌≡◌, ◌≢◌, ◌↔◌, ◌⊎◌, inl, inr, ℕ, List, [], ◌∷◌, Option, Some, None, IfSome, refl, sym, ap, ◌∙◌, subst}
use Rattle.std.specs.List.{Contains}
use Rattle.mp_tree.specs.Document.{Document, object, Members, find, IsDocument, IsMap}
use Rattle.mp_tree.specs.Look.{Path, nothing, an_object, plain, look_of, look}
use Rattle.mp_tree.proofs.Facts.{is_here, IsDocument-find, same_plain, none_there, same_there, Contains-head, Contains-tail, Contains-cases, Contains-one, nothing_or, same_look}
use Rattle.mp_merge.specs.Clash.{Compatible}
use Rattle.mp_merge.specs.Join.{IsJoin, IsJoinAt}
use Rattle.mp_merge.specs.Laws.{CompatibleByNames, CompatibleIfEqual, JoinByNames, JoinOfEqual}
use Rattle.mp_merge.proofs.Clashes.ByName.{clash_at_root, compatible-self, compatible-sym}
use Rattle.mp_merge.proofs.Joins.Laws.{compatible_from_join, join_is_idempotent}

-- ---- compatibility

pub compatible_by_names : CompatibleByNames
compatible_by_names ps qs = (to, from)
  where
    to : Compatible (object ps) (object qs) → (n : List ℕ) (p q : Document) → find n ps ≡ Some p → find n qs ≡ Some q → Compatible p q
    to free n p q one other w clash = free (n ∷ w) (record {
      first = λ none. clash.first (sym (ap (λ o. look_of o w) one) ∙ none);
      second = λ none. clash.second (sym (ap (λ o. look_of o w) other) ∙ none);
      differ = λ alike. clash.differ (sym (ap (λ o. look_of o w) one) ∙ alike ∙ ap (λ o. look_of o w) other);
    })

    from : ((n : List ℕ) (p q : Document) → find n ps ≡ Some p → find n qs ≡ Some q → Compatible p q) → Compatible (object ps) (object qs)
    from free [] clash = clash.differ refl
    from free (n ∷ w) clash = by (find n ps) (find n qs) refl refl
      where
        by : (a b : Option Document) → find n ps ≡ a → find n qs ≡ b → ⊥
        by None b one other = clash.first (ap (λ o. look_of o w) one)
        by (Some p) None one other = clash.second (ap (λ o. look_of o w) other)
        by (Some p) (Some q) one other = free n p q one other w (record {
          first = λ none. clash.first (ap (λ o. look_of o w) one ∙ none);
          second = λ none. clash.second (ap (λ o. look_of o w) other ∙ none);
          differ = λ alike. clash.differ (ap (λ o. look_of o w) one ∙ alike ∙ sym (ap (λ o. look_of o w) other));
        })

equal_if_compatible : (p q : Document) → look p [] ≡ plain p → Compatible p q → p ≡ q
equal_if_compatible p q plain_p free = same_plain p q (sym plain_p ∙ same_look (look p []) (look q []) (λ other. free [] (clash_at_root p q other)))

pub compatible_if_equal : CompatibleIfEqual
compatible_if_equal p q (inl plain_p) = (equal_if_compatible p q plain_p, compatible-self p q)
compatible_if_equal p q (inr plain_q) = (λ free. sym (equal_if_compatible q p plain_q (compatible-sym p q free)), compatible-self p q)

-- ---- join

pub join_of_equal : JoinOfEqual
join_of_equal p q j plain_p = (to, from)
  where
    to : IsJoin (p ∷ q ∷ []) j → (p ≡ q) × (j ≡ p)
    to joined = (
      equal_if_compatible p q plain_p (compatible_from_join (p ∷ q ∷ []) j joined p q (Contains-head p (q ∷ [])) (Contains-tail p q (q ∷ []) (Contains-head q []))),
      sym (same_plain p j (sym plain_p ∙ sym (joined.said p (Contains-head p (q ∷ [])) [] (is_here p)))),
    )

    from : (p ≡ q) × (j ≡ p) → IsJoin (p ∷ q ∷ []) j
    from is = subst (λ d. IsJoin (p ∷ d ∷ []) j) is.0 (subst (λ d. IsJoin (p ∷ p ∷ []) d) (sym is.1) (join_is_idempotent p))

-- what a join looks like below a name, by what the two patches have there
record JoinsLooks (a b c : Option Document) : Type 0 where
  pub first : (w : Path) → look_of a w ≢ nothing → look_of c w ≡ look_of a w
  pub second : (w : Path) → look_of b w ≢ nothing → look_of c w ≡ look_of b w
  pub silent : (w : Path) → look_of a w ≡ nothing → look_of b w ≡ nothing → look_of c w ≡ nothing

alone : (a b c : Option Document) → JoinsLooks a b c → b ≡ None → (w : Path) → look_of c w ≡ look_of a w
alone a b c looks none w = elim (nothing_or (look_of a w)) [
  | inl absent ↦ looks.silent w absent (ap (λ o. look_of o w) none) ∙ sym absent
  | inr has ↦ looks.first w has
]

turned : (a b c : Option Document) → JoinsLooks a b c → JoinsLooks b a c
turned a b c looks = record { first = looks.second; second = looks.first; silent = λ w one other. looks.silent w other one }

both_there : (p q : Document) (c : Option Document) → JoinsLooks (Some p) (Some q) c → (d : Document) × (c ≡ Some d) × IsJoin (p ∷ q ∷ []) d
both_there p q None looks = absurd (is_here p (sym (looks.first [] (is_here p))))
both_there p q (Some d) looks = (
  d,
  refl,
  record {
    said = λ r at w has. elim (Contains-cases p r (q ∷ []) at) [
      | inl is ↦ subst (λ x. look d w ≡ look x w) is (looks.first w (λ none. has (sym (ap (λ x. look x w) is) ∙ none)))
      | inr there ↦ let is = Contains-one q r there in subst (λ x. look d w ≡ look x w) is (looks.second w (λ none. has (sym (ap (λ x. look x w) is) ∙ none)))
    ];
    silent = λ w none. looks.silent w (none p (Contains-head p (q ∷ []))) (none q (Contains-tail p q (q ∷ []) (Contains-head q [])));
  },
)

to_join_at : (a b c : Option Document) → IfSome a IsDocument → IfSome b IsDocument → IfSome c IsDocument → JoinsLooks a b c → IsJoinAt a b c
to_join_at None None c one other good looks = none_there c (looks.silent [] refl refl)
to_join_at (Some p) None c one other good looks = same_there c p good one (alone (Some p) None c looks refl)
to_join_at None (Some q) c one other good looks = same_there c q good other (alone (Some q) None c (turned None (Some q) c looks) refl)
to_join_at (Some p) (Some q) c one other good looks = both_there p q c looks

looks_of_one : (a c : Option Document) → c ≡ a → JoinsLooks a None c
looks_of_one a c is = record {
  first = λ w has. ap (λ o. look_of o w) is;
  second = λ w has. absurd (has refl);
  silent = λ w absent none. ap (λ o. look_of o w) is ∙ absent;
}

from_join_at : (a b c : Option Document) → IsJoinAt a b c → JoinsLooks a b c
from_join_at None None c is = looks_of_one None c is
from_join_at (Some p) None c is = looks_of_one (Some p) c is
from_join_at None (Some q) c is = turned (Some q) None c (looks_of_one (Some q) c is)
from_join_at (Some p) (Some q) c (d, is, joined) = record {
  first = λ w has. ap (λ o. look_of o w) is ∙ joined.said p (Contains-head p (q ∷ [])) w has;
  second = λ w has. ap (λ o. look_of o w) is ∙ joined.said q (Contains-tail p q (q ∷ []) (Contains-head q [])) w has;
  silent = λ w one other. ap (λ o. look_of o w) is ∙ joined.silent w (λ r at. elim (Contains-cases p r (q ∷ []) at) [
    | inl same ↦ ap (λ x. look x w) (sym same) ∙ one
    | inr there ↦ ap (λ x. look x w) (sym (Contains-one q r there)) ∙ other
  ]);
}

join_of_objects : (ps qs js : Members) → IsMap ps → IsMap qs → IsMap js → IsJoin (object ps ∷ object qs ∷ []) (object js) ↔ ((n : List ℕ) → IsJoinAt (find n ps) (find n qs) (find n js))
join_of_objects ps qs js one other good = (to, from)
  where
    to : IsJoin (object ps ∷ object qs ∷ []) (object js) → (n : List ℕ) → IsJoinAt (find n ps) (find n qs) (find n js)
    to joined n = to_join_at (find n ps) (find n qs) (find n js) (IsDocument-find n ps one) (IsDocument-find n qs other) (IsDocument-find n js good) (record {
      first = λ w has. joined.said (object ps) (Contains-head (object ps) (object qs ∷ [])) (n ∷ w) has;
      second = λ w has. joined.said (object qs) (Contains-tail (object ps) (object qs) (object qs ∷ []) (Contains-head (object qs) [])) (n ∷ w) has;
      silent = λ w absent none. joined.silent (n ∷ w) (λ r at. elim (Contains-cases (object ps) r (object qs ∷ []) at) [
        | inl same ↦ ap (λ x. look x (n ∷ w)) (sym same) ∙ absent
        | inr there ↦ ap (λ x. look x (n ∷ w)) (sym (Contains-one (object qs) r there)) ∙ none
      ]);
    })

    said_at : ((n : List ℕ) → IsJoinAt (find n ps) (find n qs) (find n js)) → (r : Document) → (object ps ≡ r) ⊎ (object qs ≡ r) → (w : Path) → look r w ≢ nothing → look (object js) w ≡ look r w
    said_at each r (inl same) [] has = ap (λ x. look x []) same
    said_at each r (inr same) [] has = ap (λ x. look x []) same
    said_at each r (inl same) (n ∷ w) has =
        (from_join_at (find n ps) (find n qs) (find n js) (each n)).first w (λ none. has (ap (λ x. look x (n ∷ w)) (sym same) ∙ none)) ∙ ap (λ x. look x (n ∷ w)) same
    said_at each r (inr same) (n ∷ w) has =
        (from_join_at (find n ps) (find n qs) (find n js) (each n)).second w (λ none. has (ap (λ x. look x (n ∷ w)) (sym same) ∙ none)) ∙ ap (λ x. look x (n ∷ w)) same

    silent_at : ((n : List ℕ) → IsJoinAt (find n ps) (find n qs) (find n js)) → (w : Path) → ((r : Document) → Contains (object ps ∷ object qs ∷ []) r → look r w ≡ nothing) → look (object js) w ≡ nothing
    silent_at each [] none = absurd (let never : an_object ≡ nothing = none (object ps) (Contains-head (object ps) (object qs ∷ [])) in cc)
    silent_at each (n ∷ w) none =
        (from_join_at (find n ps) (find n qs) (find n js) (each n)).silent w (none (object ps) (Contains-head (object ps) (object qs ∷ [])))
        (none (object qs) (Contains-tail (object ps) (object qs) (object qs ∷ []) (Contains-head (object qs) [])))

    from : ((n : List ℕ) → IsJoinAt (find n ps) (find n qs) (find n js)) → IsJoin (object ps ∷ object qs ∷ []) (object js)
    from each = record {
      said = λ r at. said_at each r (elim (Contains-cases (object ps) r (object qs ∷ []) at) [ inl same ↦ inl same | inr there ↦ inr (Contains-one (object qs) r there) ]);
      silent = silent_at each;
    }

-- at the root a join has the look of an object, as the patches have
no_other : (ps qs : Members) (j : Document) → look j [] ≢ an_object → IsJoin (object ps ∷ object qs ∷ []) j → ⊥
no_other ps qs j other joined = other (joined.said (object ps) (Contains-head (object ps) (object qs ∷ [])) [] (is_here (object ps)))

pub join_by_names : JoinByNames
join_by_names ps qs (object js) one other good = join_of_objects ps qs js one other good
join_by_names ps qs j one other good = (no_other ps qs j (λ same. cc), λ never. absurd never)
