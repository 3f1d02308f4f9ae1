-- The computed union of two compatible patches is their join.
use Rattle.std.proofs.Common.{◌≡◌, ◌≢◌, ◌≤◌, ◌⊎◌, ◌↔◌, inl, inr, ℕ, Bool, true, false, true≢false, List, [], ◌∷◌, ◌++◌, Option, Some, None, IfSome, max, refl, sym, ap, ◌∙◌, subst, arith}
use Rattle.std.proofs.lemmas.List.Elements.{Contains-push, Contains-push_cases, Contains-append_left}
use Rattle.std.specs.List.{Contains}
use Rattle.mp_tree.specs.Document.{Document, null, flag, whole, string, list, object, Members, no_members, member, find, put, IsDocument, IsMap, depth, members_depth}
use Rattle.mp_tree.specs.Look.{Path, Look, nothing, an_object, plain, look_here, look_of, look}
use Rattle.mp_tree.proofs.Facts.{find-put, find-below, IsMap-put, members_same, cases_same, is_name-self, is_here, IsDocument-find, members_depth-put, Contains-head, Contains-tail, Contains-cases, Contains-one, same_look}
use Rattle.mp_merge.specs.Application.{target_members, depth_of}
use Rattle.mp_merge.specs.Clash.{Compatible}
use Rattle.mp_merge.specs.Join.{IsJoin}
use Rattle.mp_merge.specs.Laws.{JoinOfOne}
use Rattle.mp_merge.specs.Private.Unions.{earlier_or, union_over, union_with, union_members, union, UnitesTo}
use Rattle.mp_merge.proofs.Application.ByName.{IsMap-target_members}
use Rattle.mp_merge.proofs.Application.Depth.{depth-find}
use Rattle.mp_merge.proofs.Clashes.ByName.{clash_at_root, clash_of_others, compatible-self, no_map}

-- ---- the union is a document

IsDocument-earlier_or : (j : Option Document) (p : Document) → IfSome j IsDocument → IsDocument p → IsDocument (earlier_or j p)
IsDocument-earlier_or None p joined good = good
IsDocument-earlier_or (Some j) p joined good = joined

IsDocument-union_over : (j : Option Document) (ps both : Members) → IfSome j IsDocument → IsMap ps → IsMap both → IsDocument (union_over j ps both)
IsDocument-union_over None ps both joined good map = good
IsDocument-union_over (Some (object js)) ps both joined good map = map
IsDocument-union_over (Some j) ps both joined good map = joined

mutual
  pub IsDocument-union_with : (p : Document) (j : Option Document) → IsDocument p → IfSome j IsDocument → IsDocument (union_with p j)
  IsDocument-union_with (object ps) j good joined =
      IsDocument-union_over j ps (union_members ps (target_members j)) joined good (IsMap-union_members ps (target_members j) good (IsMap-target_members j joined))
  IsDocument-union_with null j good joined = IsDocument-earlier_or j null joined good
  IsDocument-union_with (flag b) j good joined = IsDocument-earlier_or j (flag b) joined good
  IsDocument-union_with (whole z) j good joined = IsDocument-earlier_or j (whole z) joined good
  IsDocument-union_with (string s) j good joined = IsDocument-earlier_or j (string s) joined good
  IsDocument-union_with (list ds) j good joined = IsDocument-earlier_or j (list ds) joined good

  pub IsMap-union_members : (ps js : Members) → IsMap ps → IsMap js → IsMap (union_members ps js)
  IsMap-union_members no_members js good joined = joined
  IsMap-union_members (member n p ps) js good joined =
      IsMap-put n (union_with p (find n js)) (union_members ps js) (IsDocument-union_with p (find n js) good.0 (IsDocument-find n js joined)) (IsMap-union_members ps js good.2 joined)

pub IsDocument-union : (p j : Document) → IsDocument p → IsDocument j → IsDocument (union p j)
IsDocument-union p j good joined = IsDocument-union_with p (Some j) good joined

-- ---- at each name, and one name after another

pub union_with-absent : (p : Document) → union_with p None ≡ p
union_with-absent (object ps) = refl
union_with-absent p = refl

-- a patch that is not an object has no effect on what was joined before
union_with-plain : (p j : Document) → look_here p ≡ plain p → union_with p (Some j) ≡ j
union_with-plain (object ps) j is = absurd (cc)
union_with-plain p j is = refl

-- what was joined before stays if the patch does not carry the name
abbrev pub union_at : Option Document → Option Document → Option Document
union_at None j = j
union_at (Some p) j = Some (union_with p j)

pub find-union_members : (q : List ℕ) (ps js : Members) → find q (union_members ps js) ≡ union_at (find q ps) (find q js)
find-union_members q no_members js = refl
find-union_members q (member n p ps) js =
    find-put q n (union_with p (find n js)) (union_members ps js)
    ∙ cases_same q n (λ here. rw (here, is_name-self)) (λ other. rw other (find-union_members q ps js))

-- the first name of the patch may be united first
pub union_members-step : (n : List ℕ) (p : Document) (ps js : Members) → IsMap js → IsMap (member n p ps) → union_members (member n p ps) js ≡ union_members ps (put n (union_with p (find n js)) js)
union_members-step n p ps js joined good =
    let d = union_with p (find n js) in
    let now = put n d js in
    let now_map : IsMap now = IsMap-put n d js (IsDocument-union_with p (find n js) good.0 (IsDocument-find n js joined)) joined in
    let same : (q : List ℕ) → find q (union_members (member n p ps) js) ≡ find q (union_members ps now) = λ q.
    find-union_members q (member n p ps) js
    ∙ cases_same q n
    (λ here.
    let none : find q ps ≡ None = ap (λ k. find k ps) here ∙ find-below n ps good.1 in
    let left : union_at (find q (member n p ps)) (find q js) ≡ Some d = rw (here, is_name-self) in
    let right : find q now ≡ Some d = find-put q n d js ∙ rw (here, is_name-self) in
    left ∙ sym right ∙ sym (ap (λ o. union_at o (find q now)) none))
    (λ other.
    let stays : find q now ≡ find q js = find-put q n d js ∙ rw other in
    rw other (ap (union_at (find q ps)) (sym stays)))
    ∙ sym (find-union_members q ps now) in
    members_same (union_members (member n p ps) js) (union_members ps now) (IsMap-union_members (member n p ps) js good joined) (IsMap-union_members ps now good.2 now_map) same

-- ---- at each path

-- what was joined before, if it has something
abbrev over : Look → Look → Look
over nothing m = m
over an_object m = an_object
over (plain v) m = plain v

over-nothing : (l : Look) → over l nothing ≡ l
over-nothing nothing = refl
over-nothing an_object = refl
over-nothing (plain v) = refl

over-left : (l m : Look) → l ≢ nothing → over l m ≡ l
over-left nothing m here = absurd (here refl)
over-left an_object m here = refl
over-left (plain v) m here = refl

here-union_over : (j : Document) (ps both : Members) → look_here (union_over (Some j) ps both) ≡ look_here j
here-union_over (object js) ps both = refl
here-union_over j ps both = refl

-- two parts have no clash
abbrev HaveNoClash : Option Document → Option Document → Type 0
HaveNoClash p j = (w : Path) → look_of p w ≢ nothing → look_of j w ≢ nothing → look_of p w ≢ look_of j w → ⊥

look-union_at : (w : Path) (p j : Option Document) → HaveNoClash p j → look_of (union_at p j) w ≡ over (look_of j w) (look_of p w)
look-union_at w None j free = sym (over-nothing (look_of j w))
look-union_at [] (Some (object ps)) None free = refl
look-union_at [] (Some (object ps)) (Some j) free = here-union_over j ps (union_members ps (target_members (Some j))) ∙ sym (over-left (look_here j) an_object (is_here j))
look-union_at [] (Some p) None free = refl
look-union_at [] (Some p) (Some j) free = sym (over-left (look_here j) (look_here p) (is_here j))
look-union_at (n ∷ w) (Some (object ps)) None free = refl
look-union_at (n ∷ w) (Some (object ps)) (Some (object js)) free =
    ap (λ o. look_of o w) (find-union_members n ps js) ∙ look-union_at w (find n ps) (find n js) (λ u. free (n ∷ u))
look-union_at (n ∷ w) (Some (object ps)) (Some j) free = absurd (free [] (λ same. cc) (λ same. cc) (λ same. cc))
look-union_at (n ∷ w) (Some p) (Some (object js)) free = absurd (free [] (λ same. cc) (λ same. cc) (λ same. cc))
look-union_at (n ∷ w) (Some p) None free = refl
look-union_at (n ∷ w) (Some p) (Some j) free = refl

look-union : (p j : Document) → Compatible p j → (w : Path) → look (union p j) w ≡ over (look j w) (look p w)
look-union p j free w = look-union_at w (Some p) (Some j) (λ u first second differ. free u (record { first = first; second = second; differ = differ }))

-- ---- the union is a join

over-right : (l m : Look) → m ≢ nothing → (l ≢ nothing → m ≡ l) → over l m ≡ m
over-right nothing m here same = refl
over-right an_object m here same = sym (same (λ e. cc))
over-right (plain v) m here same = sym (same (λ e. cc))

-- compatible patches have one look if both have something
pub same_where_both : (p q : Document) → Compatible p q → (w : Path) → look p w ≢ nothing → look q w ≢ nothing → look p w ≡ look q w
same_where_both p q free w first second = same_look (look p w) (look q w) (λ differ. free w (record { first = first; second = second; differ = differ }))

-- the union with the join of some patches is the join of these and the patch: only membership counts
union_joins : (patches all : List Document) (p j : Document) → ((q : Document) → Contains all q → Contains patches q ⊎ (p ≡ q)) → Contains all p → ((q : Document) → Contains patches q → Contains all q)
    → IsJoin patches j → Compatible p j → IsJoin all (union p j)
union_joins patches all p j cases here there joined free = record { said = said; silent = silent }
  where
    said_by : (q : Document) → Contains patches q ⊎ (p ≡ q) → (w : Path) → look q w ≢ nothing → look (union p j) w ≡ look q w
    said_by q (inl at) w has =
        let same = joined.said q at w has in
        look-union p j free w ∙ over-left (look j w) (look p w) (λ none. has (sym same ∙ none)) ∙ same
    said_by q (inr is) w has =
        let own : look p w ≢ nothing = λ none. has (ap (λ d. look d w) (sym is) ∙ none) in
        look-union p j free w ∙ over-right (look j w) (look p w) own (λ other. same_where_both p j free w own other) ∙ ap (λ d. look d w) is

    said : (q : Document) → Contains all q → (w : Path) → look q w ≢ nothing → look (union p j) w ≡ look q w
    said q at = said_by q (cases q at)

    silent : (w : Path) → ((q : Document) → Contains all q → look q w ≡ nothing) → look (union p j) w ≡ nothing
    silent w none =
        look-union p j free w ∙ ap (λ l. over l (look p w)) (joined.silent w (λ q at. none q (there q at))) ∙ none p here

pub union_grows_join : (patches : List Document) (p j : Document) → IsDocument p → IsDocument j → IsJoin patches j → Compatible p j → IsJoin (patches ++ p ∷ []) (union p j)
union_grows_join patches p j good other joined free =
    union_joins patches (patches ++ p ∷ []) p j (λ q. Contains-push_cases patches p q) (Contains-push patches p) (λ q. Contains-append_left patches (p ∷ []) q) joined free

pub union_joins_first : (patches : List Document) (p j : Document) → IsJoin patches j → Compatible p j → IsJoin (p ∷ patches) (union p j)
union_joins_first patches p j joined free =
    union_joins patches (p ∷ patches) p j
    (λ q at. elim (Contains-cases p q patches at) [ inl is ↦ inr is | inr there ↦ inl there ])
    (Contains-head p patches) (λ q. Contains-tail p q patches) joined free

-- a patch alone is its own join
pub join-one : JoinOfOne
join-one p = record {
  said = λ q at w has. ap (λ d. look d w) (Contains-one p q at);
  silent = λ w none. none p (Contains-head p []);
}

pub union_is_join : (p j : Document) → IsDocument p → IsDocument j → Compatible p j → IsJoin (p ∷ j ∷ []) (union p j)
union_is_join p j good other free = union_joins_first (j ∷ []) p j (join-one j) free

-- ---- the union is no deeper than the deeper of the two

mutual
  pub depth-union_with : (p : Document) (j : Option Document) → depth (union_with p j) ≤ max (depth p) (depth_of j)
  depth-union_with (object ps) None = omega arith
  depth-union_with (object ps) (Some (object js)) = omega (arith, depth-union_members ps js)
  depth-union_with (object ps) (Some j) = omega arith
  depth-union_with p None = omega arith
  depth-union_with p (Some j) = omega arith

  depth-union_members : (ps js : Members) → members_depth (union_members ps js) ≤ max (members_depth ps) (members_depth js)
  depth-union_members no_members js = omega arith
  depth-union_members (member n p ps) js =
      omega (arith, members_depth-put n (union_with p (find n js)) (union_members ps js), depth-union_with p (find n js), depth-find n js, depth-union_members ps js)

pub depth-union : (p j : Document) → depth (union p j) ≤ max (depth p) (depth j)
depth-union p j = depth-union_with p (Some j)

-- ---- what the walk reports

-- if it united the two, their join is there now
pub join_of_united : (p j now : Document) → IsDocument p → IsDocument j → UnitesTo true p (Some j) now → IsJoin (j ∷ p ∷ []) now
join_of_united p j now good other is = subst (IsJoin (j ∷ p ∷ [])) (sym is.1) (union_grows_join (j ∷ []) p j good other (join-one j) is.0)

pub depth_of_united : (p j now : Document) → UnitesTo true p (Some j) now → depth now ≤ max (depth j) (depth p)
depth_of_united p j now is = subst (λ d. depth d ≤ max (depth j) (depth p)) (sym is.1) (omega (arith, depth-union p j))

-- if one of the two is not an object

pub unites_plain : (united : Bool) (p j : Document) → look_here p ≡ plain p → (united ≡ true) ↔ (p ≡ j) → UnitesTo united p (Some j) j
unites_plain true p j plain_p same = (compatible-self p j (same.0 refl), sym (union_with-plain p j plain_p))
unites_plain false p j plain_p same = λ free. free [] (clash_of_others p j plain_p (λ is. true≢false (sym (same.1 is))))

pub clash_with_other : (ps : Members) (j : Document) → ((ms : Members) → j ≢ object ms) → ¬ Compatible (object ps) j
clash_with_other ps j never free = free [] (clash_at_root (object ps) j (λ same. let other : an_object ≡ plain j = same ∙ no_map j never in cc))
