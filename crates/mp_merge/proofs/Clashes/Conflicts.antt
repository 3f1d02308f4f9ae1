-- All conflicts of two patches: they exist, they are one list, and it is what the walk over both adds.
use Rattle.std.proofs.Common.{◌≡◌, ◌⊎◌, inl, inr, ℕ, List, [], ◌∷◌, ◌++◌, map, cond, false, Option, Some, None, refl, sym, ap, ap₂, ◌∙◌, subst, append_assoc, append-nil}
use Rattle.std.proofs.lemmas.List.{map-append}
use Rattle.std.specs.List.{Contains}
use Rattle.mp_tree.specs.Document.{Document, null, flag, whole, string, list, object, Members, no_members, member, is_name, find, IsBelow, IsDocument, IsMap}
use Rattle.mp_tree.specs.Look.{Path, look, look_of}
use Rattle.mp_tree.proofs.Facts.{is_here, find-below, cases_same, find-here, same_plain, Contains-nil, no_member, decide_document, name_above}
use Rattle.mp_merge.specs.Clash.{Clash, Compatible, AreAllClashes, AreConflictsOfPair}
use Rattle.mp_merge.specs.Private.Edits.{NotBothMaps}
use Rattle.mp_merge.specs.Private.Clashes.{IsOneClash, WalksClashes, WalksMembers}
use Rattle.mp_merge.specs.Laws.{ClashesExist, EmptyIfCompatible, HaveOneList}
use Rattle.mp_merge.proofs.Clashes.ByName.{ClashOf, clash_of, clash_from}
use Rattle.mp_merge.proofs.Clashes.Exchange.{object_above}
use Rattle.mp_merge.proofs.Paths.Rising.{BeginsAbove, Lists, lists_none, lists_root, lists_both, same_rising, under_all}

-- ---- one path alone

same_here : (p q : Document) → NotBothMaps p (Some q) → look p [] ≡ look q [] → p ≡ q
same_here (object ps) q never same = absurd (never refl (sym same))
same_here null q never same = same_plain null q same
same_here (flag b) q never same = same_plain (flag b) q same
same_here (whole z) q never same = same_plain (whole z) q same
same_here (string s) q never same = same_plain (string s) q same
same_here (list ds) q never same = same_plain (list ds) q same

-- then the walk adds one clash or none
pub walks_one : (s : Path) (p q : Document) (places : List Path) → NotBothMaps p (Some q) → IsOneClash s p q places → WalksClashes s p (Some q) places
walks_one s (object ps) (object qs) places never one = absurd (never refl refl)
walks_one s (object ps) null places never one = one
walks_one s (object ps) (flag b) places never one = one
walks_one s (object ps) (whole z) places never one = one
walks_one s (object ps) (string t) places never one = one
walks_one s (object ps) (list ds) places never one = one
walks_one s null q places never one = one
walks_one s (flag b) q places never one = one
walks_one s (whole z) q places never one = one
walks_one s (string t) q places never one = one
walks_one s (list ds) q places never one = one

at_root_alone : (p q : Document) → NotBothMaps p (Some q) → (w : Path) → ClashOf (Some p) (Some q) w → w ≡ []
at_root_alone p q never [] clash = refl
at_root_alone p q never (n ∷ w) clash = absurd (never (object_above [] n w (Some p) clash.0) (object_above [] n w (Some q) clash.1))

-- the paths that the walk has found, each after the path at which it began
record Found (s : Path) (p : Document) (q : Option Document) (places : List Path) : Type 0 where
  paths : List Path
  lists : Lists (ClashOf (Some p) q) paths
  placed : places ≡ map (λ w. s ++ w) paths

found_one : (s : Path) (p q : Document) (places : List Path) → NotBothMaps p (Some q) → IsOneClash s p q places → Found s p (Some q) places
found_one s p q places never (inl (same, none)) = record {
  paths = [];
  lists = lists_none (ClashOf (Some p) (Some q)) (λ w clash. clash.2 (ap (λ d. look d w) same));
  placed = none;
}
found_one s p q places never (inr (differ, one)) = record {
  paths = [] ∷ [];
  lists = lists_root (ClashOf (Some p) (Some q)) (is_here p, is_here q, λ same. differ (same_here p q never same)) (at_root_alone p q never);
  placed = one ∙ ap (λ u. u ∷ []) (sym (append-nil s));
}

found_none : (s : Path) (p : Document) (places : List Path) → places ≡ [] → Found s p None places
found_none s p places none = record {
  paths = [];
  lists = lists_none (ClashOf (Some p) None) (λ w clash. clash.1 refl);
  placed = none;
}

-- ---- name by name

abbrev MembersClash : Members → Members → Path → Type 0
MembersClash ps qs w = Clash (object ps) (object qs) w

record FoundMembers (s : Path) (ps qs : Members) (places : List Path) : Type 0 where
  paths : List Path
  lists : Lists (MembersClash ps qs) paths
  placed : places ≡ map (λ w. s ++ w) paths

module _ (n : List ℕ) (p : Document) (ps qs : Members) (below : IsBelow n ps) where
  abbrev all_members : Members
  all_members = member n p ps

  from_first : (w : Path) → ClashOf (Some p) (find n qs) w → MembersClash all_members qs (n ∷ w)
  from_first w clash = clash_from all_members qs n w (subst (λ o. ClashOf o (find n qs) w) (sym (find-here n p ps)) clash)

  other_is : (k : List ℕ) → is_name k n ≡ false → find k all_members ≡ find k ps
  other_is k other = ap (λ b. cond b (Some p) (find k ps)) other

  from_rest : (w : Path) → MembersClash ps qs w → MembersClash all_members qs w
  from_rest [] clash = absurd (clash.differ refl)
  from_rest (k ∷ u) clash =
      cases_same k n
      (λ same. absurd (clash.first (ap (λ o. look_of o u) (ap (λ m. find m ps) same ∙ find-below n ps below))))
      (λ other. clash_from all_members qs k u (subst (λ o. ClashOf o (find k qs) u) (sym (other_is k other)) (clash_of ps qs k u clash)))

  rest_above : (w : Path) → MembersClash ps qs w → BeginsAbove n w
  rest_above [] clash = absurd (clash.differ refl)
  rest_above (k ∷ u) clash = (k, u, refl, name_above n k u ps below clash.first)

  split : (w : Path) → MembersClash all_members qs w → ((u : Path) × (n ∷ u ≡ w) × ClashOf (Some p) (find n qs) u) ⊎ MembersClash ps qs w
  split [] clash = absurd (clash.differ refl)
  split (k ∷ u) clash =
      cases_same k n
      (λ same. inl (
        u,
        ap (λ m. m ∷ u) (sym same),
        subst (λ o. ClashOf o (find n qs) u) (find-here n p ps) (subst (λ m. ClashOf (find m all_members) (find m qs) u) same (clash_of all_members qs k u clash)),
      ))
      (λ other. inr (clash_from ps qs k u (subst (λ o. ClashOf o (find k qs) u) (other_is k other) (clash_of all_members qs k u clash))))

  found_both : (s : Path) (first rest places : List Path) → places ≡ first ++ rest → Found (s ++ n ∷ []) p (find n qs) first → FoundMembers s ps qs rest → FoundMembers s all_members qs places
  found_both s first rest places is one others = record {
    paths = under_all n one.paths ++ others.paths;
    lists = lists_both n (ClashOf (Some p) (find n qs)) (MembersClash ps qs) (MembersClash all_members qs) one.paths others.paths one.lists others.lists from_first from_rest rest_above split;
    placed = is ∙ ap₂ (λ xs ys. xs ++ ys) (one.placed ∙ moved one.paths) others.placed ∙ sym (map-append (λ w. s ++ w) (under_all n one.paths) others.paths);
  }
    where
      moved : (ws : List Path) → map (λ w. (s ++ n ∷ []) ++ w) ws ≡ map (λ w. s ++ w) (under_all n ws)
      moved [] = refl
      moved (w ∷ ws) = ap₂ (λ x xs. x ∷ xs) (append_assoc s (n ∷ []) w) (moved ws)

found_no_members : (s : Path) (qs : Members) (places : List Path) → places ≡ [] → FoundMembers s no_members qs places
found_no_members s qs places none = record { paths = []; lists = lists_none (MembersClash no_members qs) never; placed = none }
  where
    never : (w : Path) → ¬ MembersClash no_members qs w
    never [] clash = clash.differ refl
    never (n ∷ w) clash = clash.first refl

under_maps : (s : Path) (ps qs : Members) (places : List Path) → FoundMembers s ps qs places → Found s (object ps) (Some (object qs)) places
under_maps s ps qs places found = record {
  paths = found.paths;
  lists = record {
    rising = found.lists.rising;
    all = λ w. (
      λ at. let clash = (found.lists.all w).0 at in (clash.first, clash.second, clash.differ),
      λ clash. (found.lists.all w).1 (record { first = clash.0; second = clash.1; differ = clash.2 }),
    );
  };
  placed = found.placed;
}

mutual
  found : (p : Document) (s : Path) (q : Option Document) (places : List Path) → IsDocument p → WalksClashes s p q places → Found s p q places
  found p s None places good walk = found_none s p places walk
  found (object ps) s (Some (object qs)) places good walk = under_maps s ps qs places (found_members ps s qs places good walk)
  found p s (Some q) places good walk = found_one s p q places (λ one two. cc) walk

  found_members : (ps : Members) (s : Path) (qs : Members) (places : List Path) → IsMap ps → WalksMembers s ps qs places → FoundMembers s ps qs places
  found_members no_members s qs places good none = found_no_members s qs places none
  found_members (member n p ps) s qs places good (first, rest, is, here, later) =
      found_both n p ps qs good.1 s first rest places is (found p (s ++ n ∷ []) (find n qs) first good.0 here) (found_members ps s qs rest good.2 later)

same_paths : (ws : List Path) → map (λ w. [] ++ w) ws ≡ ws
same_paths [] = refl
same_paths (w ∷ ws) = ap (λ xs. w ∷ xs) (same_paths ws)

-- what the walk adds from the root on is the list of all conflicts
pub walk_finds_all : (p q : Document) (places : List Path) → IsDocument p → WalksClashes [] p (Some q) places → AreAllClashes p q places
walk_finds_all p q places good walk =
    let all = found p [] (Some q) places good walk in
    let is : places ≡ all.paths = all.placed ∙ same_paths all.paths in
    subst (AreAllClashes p q) (sym is) (record {
      rising = all.lists.rising;
      all = λ w. (
        λ at. let clash = (all.lists.all w).0 at in record { first = clash.0; second = clash.1; differ = clash.2 },
        λ clash. (all.lists.all w).1 (clash.first, clash.second, clash.differ),
      );
    })

-- ---- the laws

one_clash : (s : Path) (p q : Document) → (places : List Path) × IsOneClash s p q places
one_clash s p q = elim (decide_document p q) [ yes same ↦ ([], inl (same, refl)) | no other ↦ (s ∷ [], inr (other, refl)) ]

mutual
  some_walk : (p : Document) (s : Path) (q : Option Document) → (places : List Path) × WalksClashes s p q places
  some_walk p s None = ([], refl)
  some_walk (object ps) s (Some (object qs)) = some_member_walk ps s qs
  some_walk p s (Some q) = one_clash s p q

  some_member_walk : (ps : Members) (s : Path) (qs : Members) → (places : List Path) × WalksMembers s ps qs places
  some_member_walk no_members s qs = ([], refl)
  some_member_walk (member n p ps) s qs =
      let first = some_walk p (s ++ n ∷ []) (find n qs) in
      let rest = some_member_walk ps s qs in
      (first.0 ++ rest.0, (first.0, rest.0, refl, first.1, rest.1))

pub clashes_exist : ClashesExist
clashes_exist p q good = let walk = some_walk p [] (Some q) in (walk.0, walk_finds_all p q walk.0 good walk.1)

pub one_list : HaveOneList
one_list p q places others one two =
    same_rising places others one.rising two.rising (λ w. (λ at. (two.all w).1 ((one.all w).0 at), λ at. (one.all w).1 ((two.all w).0 at)))

pub empty_if_compatible : EmptyIfCompatible
empty_if_compatible p q places are = (
  λ empty w clash. Contains-nil w (subst (λ (ws : List Path). Contains ws w) empty ((are.all w).1 clash)),
  λ free. no_member places (λ w at. free w ((are.all w).0 at)),
)

-- two patches are compatible, or have conflicts
pub compatible_or_conflicts : (p q : Document) → IsDocument p → Compatible p q ⊎ ((places : List Path) × AreConflictsOfPair p q places)
compatible_or_conflicts p q good = let all = clashes_exist p q good in by all.0 all.1
  where
    by : (places : List Path) → AreAllClashes p q places → Compatible p q ⊎ ((places : List Path) × AreConflictsOfPair p q places)
    by [] are = inl ((empty_if_compatible p q [] are).0 refl)
    by (w ∷ places) are = inr (w ∷ places, record { some = λ none. cc; clashes = are })

-- patches with conflicts are not compatible
pub conflicts_clash : (p q : Document) (places : List Path) → AreConflictsOfPair p q places → ¬ Compatible p q
conflicts_clash p q places conflicts free = conflicts.some ((empty_if_compatible p q places conflicts.clashes).1 free)
