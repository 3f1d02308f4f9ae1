-- The loop over the changes of a merge patch.
use Rattle.std.proofs.Common.{◌≡◌, ℕ, List, [], ◌∷◌, length, false, cond, Some, None, String, Global, string_bytes, string_cmp, refl, sym, ap, ◌∙◌, subst, arith}
use Rattle.std.specs.List.Sorted.{IsStrictlySortedBy}
use Rattle.std.specs.Map.{keys_of}
use Rattle.mp_tree.specs.Document.{Document, Members, no_members, member, is_name, find, IsDocument, IsMap, IsBelow}
use Rattle.mp_tree.specs.View.{members_by}
use Rattle.mp_tree.proofs.Facts.{IsMap-by, members-cons-by, cases_same, find-below}

-- the changes that a loop has left: their names ascend, and what `Holds` says holds of them
pub record ChangesLeftBy {V : Type 0} (f : V → Document) (es : List (String Global × V)) (Holds : Members → Type 0) : Type 0 where
  pub ascends : IsStrictlySortedBy string_cmp (keys_of es)
  pub holds : Holds (members_by f es)

-- the change p to the name n comes next, before those that are then left
pub record NextChangeBy {V : Type 0} (f : V → Document) (n : List ℕ) (p : Document) (left : List (String Global × V)) (Holds : Members → Type 0) : Type 0 where
  pub ascends : IsStrictlySortedBy string_cmp (keys_of left)
  pub map : IsMap (member n p (members_by f left))
  pub holds : Holds (member n p (members_by f left))

module _ {V : Type 0} (f : V → Document) (good : (v : V) → IsDocument (f v)) {es left : List (String Global × V)} {name : String Global} {change : V} {Holds : Members → Type 0} where
  pub next_change_by : ChangesLeftBy f es Holds → es ≡ (name, change) ∷ left → NextChangeBy f (string_bytes name) (f change) left Holds
  unfolding IsStrictlySortedBy
  next_change_by there steps =
      let whole : IsStrictlySortedBy string_cmp (keys_of ((name, change) ∷ left)) = subst (λ xs. IsStrictlySortedBy string_cmp (keys_of xs)) steps there.ascends in
      let first : members_by f es ≡ member (string_bytes name) (f change) (members_by f left) = ap (members_by f) steps ∙ members-cons-by f (name, change) left whole in
      record { ascends = whole.1; map = subst IsMap first (IsMap-by f good es); holds = subst Holds first there.holds }

  -- if what holds of it and those after it gives what is to hold of those alone
  pub pass_change_by : {Later : Members → Type 0} → ChangesLeftBy f es Holds → es ≡ (name, change) ∷ left
      → (IsMap (member (string_bytes name) (f change) (members_by f left)) → Holds (member (string_bytes name) (f change) (members_by f left)) → Later (members_by f left)) → ChangesLeftBy f left Later
  pass_change_by there steps gives = let next = next_change_by there steps in record { ascends = next.ascends; holds = gives next.map next.holds }

-- at the end it holds of no members
pub no_changes_by : {V : Type 0} (f : V → Document) {es : List (String Global × V)} {Holds : Members → Type 0} → ChangesLeftBy f es Holds → es ≡ [] → Holds no_members
no_changes_by f {Holds = Holds} there none = subst (λ xs. Holds (members_by f xs)) none there.holds

-- ---- the names that are left

-- what is left of the patch is some of it
abbrev pub IsAmong : Members → Members → Type 0
IsAmong left all = (q : List ℕ) (x : Document) → find q left ≡ Some x → find q all ≡ Some x

-- at the names that are left nothing has changed
abbrev pub IsUntouched : Members → Members → Members → Type 0
IsUntouched left before now = (q : List ℕ) (x : Document) → find q left ≡ Some x → find q now ≡ find q before

-- a name that is left after the first is another one
pub left_is_other : (n q : List ℕ) (p x : Document) (left : Members) → IsBelow n left → find q left ≡ Some x → (is_name q n ≡ false) × (find q (member n p left) ≡ Some x)
left_is_other n q p x left below found =
    cases_same q n
    (λ same. absurd (let none : find q left ≡ None = ap (λ k. find k left) same ∙ find-below n left below in let never = sym found ∙ none in cc))
    (λ other. (other, ap (λ b. cond b (Some p) (find q left)) other ∙ found))

-- ---- a patch of one name

module _ {A : Type 0} where
  none_behind : (e : A) (rest : List A) → length (e ∷ rest) ≡ 1 → rest ≡ []
  none_behind e [] long = refl
  none_behind e (x ∷ rest) long = absurd (omega arith)

  pub only : (es rest : List A) (e : A) → es ≡ e ∷ rest → length es ≡ 1 → es ≡ e ∷ []
  only es rest e is one = is ∙ ap (λ xs. e ∷ xs) (none_behind e rest (sym (ap length is) ∙ one))
