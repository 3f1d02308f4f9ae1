-- A part of a document is one, and that something is a document depends on the names of its maps.
use Rattle.std.proofs.Common.{◌≡◌, ℕ, suc, List, [], ◌∷◌, Bool, true, false, cond, Less, Option, None, Some, IfSome, option_and_then, refl, sym, ap, ◌∙◌, subst}
use Rattle.std.specs.Prelude.{⊤}
use Rattle.std.specs.Str.{bytes_eq}
use Rattle.mp_tree.specs.Document.{Document, null, flag, whole, string, list, object, Items, no_items, item, Members, no_members, member, name_cmp, find, IsBelow, IsDocument, AreDocuments, IsMap}
use Rattle.mp_tree.specs.Elements.{nth}
use Rattle.mp_tree.proofs.Facts.{cases_same, is_name-self, find-below, IsDocument-find}
use Rattle.mp_pointer.specs.Difference.{DifferOnlyAt, Kind, absent, scalar, names, array_of, kind, kind_of, names_of}
use Rattle.mp_pointer.specs.Part.{part, child, element_from, numeral}
use Rattle.mp_pointer.specs.Laws.{PartsAreDocuments}
use Rattle.mp_pointer.specs.Spelling.{Tokens}
use Rattle.mp_pointer.proofs.Tokens.Indices.{child-numeral}
use Rattle.mp_pointer.proofs.Parts.Kinds.{cases_begins}
use Rattle.mp_pointer.proofs.Parts.Along.{child-object, kind-append}

-- ---- a part of a document is one

element-document : (i : ℕ) (token : List ℕ) (ds : Items) (y : Document) → AreDocuments ds → element_from i token ds ≡ Some y → IsDocument y
element-document i token no_items y good is = cc
element-document i token (item d ds) y good is = picked (bytes_eq token (numeral i)) is (element-document (suc i) token ds y good.1)
  where
    picked : (b : Bool) → cond b (Some d) (element_from (suc i) token ds) ≡ Some y → (element_from (suc i) token ds ≡ Some y → IsDocument y) → IsDocument y
    picked true is later = let same : d ≡ y = cc in subst IsDocument same good.0
    picked false is later = later is

child-document : (token : List ℕ) (d y : Document) → IsDocument d → child token d ≡ Some y → IsDocument y
unfolding child
child-document token null y good is = cc
child-document token (flag b) y good is = cc
child-document token (whole z) y good is = cc
child-document token (string s) y good is = cc
child-document token (list ds) y good is = element-document 0 token ds y good is
child-document token (object ms) y good is = subst (λ o. IfSome o IsDocument) is (IsDocument-find token ms good)

pub part-document : PartsAreDocuments
part-document [] d x good is = let same : d ≡ x = cc in subst IsDocument same good
part-document (token ∷ u) d x good is = through (child token d) refl (λ e. part-document u e x) is
  where
    through : (o : Option Document) → child token d ≡ o → ((e : Document) → IsDocument e → part e u ≡ Some x → IsDocument x) → option_and_then (λ e. part e u) o ≡ Some x → IsDocument x
    through None here later is = cc
    through (Some e) here later is = later e (child-document token d e good here) is

-- ---- a document depends on the names of its maps

abbrev AllAbove : List ℕ → List (List ℕ) → Type 0
AllAbove n [] = ⊤
AllAbove n (m ∷ ns) = (name_cmp n m ≡ Less) × AllAbove n ns

abbrev Ascends : List (List ℕ) → Type 0
Ascends [] = ⊤
Ascends (n ∷ ns) = AllAbove n ns × Ascends ns

abbrev IsOrdered : Kind → Type 0
IsOrdered absent = ⊤
IsOrdered (scalar v) = ⊤
IsOrdered (names ns) = Ascends ns
IsOrdered (array_of n) = ⊤

all_above : (n : List ℕ) (ms : Members) → IsBelow n ms → AllAbove n (names_of ms)
all_above n no_members below = tt
all_above n (member m d ms) below = (below.0, all_above n ms below.1)

is_below : (n : List ℕ) (ms : Members) → AllAbove n (names_of ms) → IsBelow n ms
is_below n no_members above = tt
is_below n (member m d ms) above = (above.0, is_below n ms above.1)

ascends : (ms : Members) → IsMap ms → Ascends (names_of ms)
ascends no_members good = tt
ascends (member m d ms) good = (all_above m ms good.1, ascends ms good.2)

here_ordered : (x : Document) → IsDocument x → IsOrdered (kind_of (Some x))
here_ordered null good = tt
here_ordered (flag b) good = tt
here_ordered (whole z) good = tt
here_ordered (string s) good = tt
here_ordered (list ds) good = tt
here_ordered (object ms) good = ascends ms good

kinds_ordered : (d : Document) → IsDocument d → (u : Tokens) → IsOrdered (kind d u)
kinds_ordered d good u = at (part d u) refl
  where
    at : (o : Option Document) → part d u ≡ o → IsOrdered (kind_of o)
    at None is = tt
    at (Some x) is = here_ordered x (part-document u d x good is)

abbrev ordered_from : Option Document → Tokens → Type 0
ordered_from o u = IsOrdered (kind_of (option_and_then (λ d. part d u) o))

mutual
  from_kinds : (d : Document) → ((u : Tokens) → IsOrdered (kind d u)) → IsDocument d
  from_kinds null ordered = tt
  from_kinds (flag b) ordered = tt
  from_kinds (whole z) ordered = tt
  from_kinds (string s) ordered = tt
  from_kinds (list ds) ordered = items_from_kinds ds (λ j u. subst (λ o. ordered_from o u) (child-numeral (numeral j) j ds refl) (ordered (numeral j ∷ u)))
  from_kinds (object ms) ordered = members_from_kinds ms (ordered []) (λ q u. subst (λ o. ordered_from o u) (child-object q ms) (ordered (q ∷ u)))

  items_from_kinds : (ds : Items) → ((j : ℕ) (u : Tokens) → ordered_from (nth j ds) u) → AreDocuments ds
  items_from_kinds no_items ordered = tt
  items_from_kinds (item d ds) ordered = (from_kinds d (ordered 0), items_from_kinds ds (λ j. ordered (suc j)))

  members_from_kinds : (ms : Members) → Ascends (names_of ms) → ((q : List ℕ) (u : Tokens) → ordered_from (find q ms) u) → IsMap ms
  members_from_kinds no_members up ordered = tt
  members_from_kinds (member m d ms) up ordered =
      let first : find m (member m d ms) ≡ Some d = rw (is_name-self m) refl in
      let below = is_below m ms up.0 in (
        from_kinds d (λ u. subst (λ o. ordered_from o u) first (ordered m u)),
        below,
        members_from_kinds ms up.1
            (λ q u. cases_same q m
            (λ same. subst (λ o. ordered_from o u) (sym (ap (λ k. find k ms) same ∙ find-below m ms below)) tt)
            (λ other. let later : find q (member m d ms) ≡ find q ms = rw other refl in subst (λ o. ordered_from o u) later (ordered q u))),
      )

-- a document that differs from another at s alone
pub document-changed : (s : Tokens) (d e y : Document) → IsDocument d → DifferOnlyAt s d e → part e s ≡ Some y → IsDocument y → IsDocument e
document-changed s d e y good only stands new =
    from_kinds e
    (λ u. cases_begins u s
    (λ begins. subst IsOrdered (sym (ap (kind e) begins.1 ∙ kind-append e y s begins.0 stands)) (kinds_ordered y new begins.0))
    (λ apart. subst IsOrdered (only u apart) (kinds_ordered d good u)))
