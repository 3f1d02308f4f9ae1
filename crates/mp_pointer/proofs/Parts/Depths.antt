-- A part is less deep than what holds it, and how deep a document is, is given by where its maps and lists are.
use Rattle.std.proofs.Common.{◌≡◌, ◌<◌, ◌≤◌, ◌+◌, ℕ, zero, suc, max, List, [], ◌∷◌, length, Bool, true, false, cond, Option, None, Some, option_and_then, refl, sym, ap, ◌∙◌, subst, arith, length-append}
use Rattle.std.specs.Prelude.{⊤}
use Rattle.std.specs.Str.{bytes_eq}
use Rattle.mp_tree.specs.Document.{Document, null, flag, whole, string, list, object, Items, no_items, item, Members, no_members, member, find, IsDocument, AreDocuments, IsMap, depth, items_depth, members_depth}
use Rattle.mp_tree.specs.Elements.{nth}
use Rattle.mp_tree.proofs.Facts.{cases_same, is_name-self, find-below, value-depth}
use Rattle.mp_pointer.specs.Difference.{DifferOnlyAt, Kind, absent, scalar, names, array_of, kind, kind_of}
use Rattle.mp_pointer.specs.Part.{part, child, element_from, numeral}
use Rattle.mp_pointer.specs.Laws.{PartsAreShallower}
use Rattle.mp_pointer.specs.Spelling.{Tokens}
use Rattle.mp_pointer.proofs.Tokens.Indices.{child-numeral}
use Rattle.mp_pointer.proofs.Parts.Kinds.{cases_begins}
use Rattle.mp_pointer.proofs.Parts.Along.{child-object, kind-append}

-- ---- a part is less deep than what holds it

element-depth : (i : ℕ) (token : List ℕ) (ds : Items) (y : Document) → element_from i token ds ≡ Some y → depth y ≤ items_depth ds
element-depth i token no_items y is = cc
element-depth i token (item d ds) y is = picked (bytes_eq token (numeral i)) is (element-depth (suc i) token ds y)
  where
    picked : (b : Bool) → cond b (Some d) (element_from (suc i) token ds) ≡ Some y → (element_from (suc i) token ds ≡ Some y → depth y ≤ items_depth ds) → depth y ≤ max (depth d) (items_depth ds)
    picked true is later = let same : d ≡ y = cc in omega (arith, ap depth same)
    picked false is later = omega (arith, later is)

child-depth : (token : List ℕ) (d y : Document) → child token d ≡ Some y → suc (depth y) ≤ depth d
unfolding child
child-depth token null y is = cc
child-depth token (flag b) y is = cc
child-depth token (whole z) y is = cc
child-depth token (string s) y is = cc
child-depth token (list ds) y is = omega (arith, element-depth 0 token ds y is)
child-depth token (object ms) y is = omega (arith, value-depth token ms y is)

pub part-depth : PartsAreShallower
part-depth [] d x is = let same : d ≡ x = cc in omega (arith, ap depth same)
part-depth (token ∷ u) d x is = through (child token d) refl (λ e. part-depth u e x) is
  where
    through : (o : Option Document) → child token d ≡ o → ((e : Document) → part e u ≡ Some x → length u + depth x ≤ depth e) → option_and_then (λ e. part e u) o ≡ Some x → suc (length u) + depth x ≤ depth d
    through None here later is = cc
    through (Some e) here later is = omega (arith, child-depth token d e here, later e is)

-- ---- the depth is given by where maps and lists are

abbrev Nests : Kind → Type 0
Nests absent = ⊥
Nests (scalar v) = ⊥
Nests (names ns) = ⊤
Nests (array_of n) = ⊤

abbrev IsWithin : ℕ → Document → Type 0
IsWithin n d = (u : Tokens) → Nests (kind d u) → length u < n

abbrev nests_from : Option Document → Tokens → Type 0
nests_from o u = Nests (kind_of (option_and_then (λ d. part d u) o))

nests-depth : (x : Document) → Nests (kind_of (Some x)) → 0 < depth x
nests-depth null nests = absurd nests
nests-depth (flag b) nests = absurd nests
nests-depth (whole z) nests = absurd nests
nests-depth (string s) nests = absurd nests
nests-depth (list ds) nests = omega arith
nests-depth (object ms) nests = omega arith

within_depth : (d : Document) → IsWithin (depth d) d
within_depth d u nests = at (part d u) refl nests
  where
    at : (o : Option Document) → part d u ≡ o → Nests (kind_of o) → length u < depth d
    at None is nests = absurd nests
    at (Some x) is nests = omega (arith, part-depth u d x is, nests-depth x nests)

below_suc : (k n : ℕ) → 0 < n → ((m : ℕ) → n ≡ suc m → k ≤ m) → suc k ≤ n
below_suc k zero some below = absurd (omega arith)
below_suc k (suc m) some below = omega (arith, below m refl)

mutual
  depth_within : (n : ℕ) (d : Document) → IsDocument d → IsWithin n d → depth d ≤ n
  depth_within n null good within = omega arith
  depth_within n (flag b) good within = omega arith
  depth_within n (whole z) good within = omega arith
  depth_within n (string s) good within = omega arith
  depth_within n (list ds) good within =
      below_suc (items_depth ds) n (within [] tt)
      (λ m is. items_within m ds good (λ j u nests. omega (arith, is, within (numeral j ∷ u) (subst (λ o. nests_from o u) (sym (child-numeral (numeral j) j ds refl)) nests))))
  depth_within n (object ms) good within =
      below_suc (members_depth ms) n (within [] tt) (λ m is. members_within m ms good (λ q u nests. omega (arith, is, within (q ∷ u) (subst (λ o. nests_from o u) (sym (child-object q ms)) nests))))

  items_within : (n : ℕ) (ds : Items) → AreDocuments ds → ((j : ℕ) (u : Tokens) → nests_from (nth j ds) u → length u < n) → items_depth ds ≤ n
  items_within n no_items good within = omega arith
  items_within n (item d ds) good within = omega (arith, depth_within n d good.0 (within 0), items_within n ds good.1 (λ j. within (suc j)))

  members_within : (n : ℕ) (ms : Members) → IsMap ms → ((q : List ℕ) (u : Tokens) → nests_from (find q ms) u → length u < n) → members_depth ms ≤ n
  members_within n no_members good within = omega arith
  members_within n (member m d ms) good within =
      let first : find m (member m d ms) ≡ Some d = rw (is_name-self m) refl in
      omega (
        arith,
        depth_within n d good.0 (λ u nests. within m u (subst (λ o. nests_from o u) (sym first) nests)),
        members_within n ms good.2
            (λ q u nests. cases_same q m
            (λ same. absurd (subst (λ o. nests_from o u) (ap (λ k. find k ms) same ∙ find-below m ms good.1) nests))
            (λ other. let later : find q (member m d ms) ≡ find q ms = rw other refl in within q u (subst (λ o. nests_from o u) (sym later) nests))),
      )

-- a document that differs from another at s alone
pub depth-changed : (n : ℕ) (s : Tokens) (d e y : Document) → IsDocument e → DifferOnlyAt s d e → part e s ≡ Some y → depth d ≤ n → length s + depth y ≤ n → depth e ≤ n
depth-changed n s d e y good only stands shallow fits =
    depth_within n e good
    (λ u nests. cases_begins u s
    (λ begins.
    let there : kind e u ≡ kind y begins.0 = ap (kind e) begins.1 ∙ kind-append e y s begins.0 stands in
    let long : length u ≡ length s + length begins.0 = ap length begins.1 ∙ length-append s begins.0 in
    omega (arith, within_depth y begins.0 (subst Nests there nests), long))
    (λ apart. omega (arith, within_depth d u (subst Nests (sym (only u apart)) nests))))
