-- Each document is a form of operations, or has an error.
use Rattle.std.proofs.Common.{◌≡◌, ◌⊎◌, inl, inr, ℕ, suc, List, [], ◌∷◌, Option, None, Some, refl, sym, ap, ◌∙◌, subst, option_and_then, codes}
use Rattle.mp_tree.specs.Document.{Document, string, list, object, Items, no_items, item, Members, find}
use Rattle.mp_pointer.specs.Spelling.{Tokens, spell}
use Rattle.mp_pointer.proofs.Facts.{spells_or_is_faulty}
use Rattle.mp_patch.specs.Form.{Carries, EachForm, IsForm, IsFaulty, IsFaultyAt, IsNoPointer, Need, path_alone, a_value, an_origin, NamesOp, needed_members, op_member, path_member, value_member, from_member, text_at, text_of}
use Rattle.mp_patch.specs.Laws.{IsFormOrFaulty}
use Rattle.mp_patch.specs.Operation.{Operation, add, remove, replace, move, copy, test}
use Rattle.mp_tree.specs.Elements.{append}
use Rattle.mp_patch.specs.Private.Reading.{IsMapFault}
use Rattle.mp_patch.specs.declared.fault.FormCause.{FormCause}
use Rattle.mp_patch.specs.declared.fault.FormCause.TheVariants.{NotAnObject, NoOp, UnknownOp, NoPath, NoFrom, BadPointer, NoValue}
use Rattle.mp_patch.specs.declared.fault.FormFault.TheVariants as form_fault
use Rattle.mp_patch.specs.declared.fault.Refusal.TheVariants.{By}
use Rattle.mp_tree.proofs.Facts.{decide_name, either, same_elements}
use Rattle.mp_patch.proofs.Forms.Reading.{map_fault, no_pointer}

-- the tokens that a text spells, if it spells some
spelled : (text : List ℕ) → ((t : Tokens) × (text ≡ spell t)) ⊎ IsNoPointer text
spelled text = elim (spells_or_is_faulty text) [ inl p ↦ inl p | inr bad ↦ inr (no_pointer text bad.0 bad.1 bad.2) ]

-- ---- the operation that a name names

decide_names : (need : Need) (name : List ℕ) → Dec (NamesOp need name)
decide_names path_alone name = decide_name name _
decide_names a_value name = either (decide_name name _) (either (decide_name name _) (decide_name name _))
decide_names an_origin name = either (decide_name name _) (decide_name name _)

abbrev Known : List ℕ → Type 0
Known name = (need : Need) × NamesOp need name

known : (name : List ℕ) → Known name ⊎ ((need : Need) → ¬ NamesOp need name)
known name = by (decide_names path_alone name) (decide_names a_value name) (decide_names an_origin name)
  where
    by : Dec (NamesOp path_alone name) → Dec (NamesOp a_value name) → Dec (NamesOp an_origin name) → Known name ⊎ ((need : Need) → ¬ NamesOp need name)
    by (yes e) _ _ = inl (path_alone, e)
    by (no p) (yes e) _ = inl (a_value, e)
    by (no p) (no v) (yes e) = inl (an_origin, e)
    by (no p) (no v) (no o) = inr none
      where
        none : (need : Need) → ¬ NamesOp need name
        none path_alone = p
        none a_value = v
        none an_origin = o

-- ---- a map

text_found : (o : Option Document) (text : List ℕ) → option_and_then text_of o ≡ Some text → o ≡ Some (string text)
text_found None text at = cc
text_found (Some (string s)) text at = let same : s ≡ text = cc in ap (λ t. Some (string t)) same
text_found (Some d) text at = absurd (let none = at in cc)

module _ (ms : Members) where
  abbrev d : Document
  d = object ms

  abbrev Read : Type 0
  Read = ((o : Operation) × Carries ms (needed_members o)) ⊎ ((cause : FormCause) × IsMapFault (By cause) d)

  stands : (n text other : List ℕ) → text_at n d ≡ Some text → text ≡ other → find n ms ≡ Some (string other)
  stands n text other at is = text_found (find n ms) text at ∙ ap (λ t. Some (string t)) is

  -- with an operation's name and a path
  module _ (name path : List ℕ) (at : text_at (codes "op") d ≡ Some name) (there : text_at (codes "path") d ≡ Some path) where
    alone : name ≡ codes "remove" → Read
    alone is = elim (spelled path) [
      | inl p ↦ inl (remove p.0, (stands (codes "op") name (codes "remove") at is, (stands (codes "path") path (spell p.0) there p.1, tt)))
      | inr bad ↦ inr (BadPointer, (path_alone, (name, at, is), path, there, bad))
    ]

    with_value : (make : Tokens → Document → Operation) (op : List ℕ) → ((t : Tokens) (v : Document) → needed_members (make t v) ≡ op_member op ∷ path_member t ∷ value_member v ∷ []) → name ≡ op → NamesOp a_value name → Read
    with_value make op shape is names = elim (spelled path) [
      | inl p ↦ by p.0 p.1 (find (codes "value") ms) refl
      | inr bad ↦ inr (BadPointer, (a_value, (name, at, names), path, there, bad))
    ]
      where
        by : (t : Tokens) → path ≡ spell t → (o : Option Document) → find (codes "value") ms ≡ o → Read
        by t same None none = inr (NoValue, ((name, at, names), t, there ∙ ap Some same, none))
        by t same (Some v) value =
            inl (make t v, subst (Carries ms) (sym (shape t v)) (stands (codes "op") name op at is, (stands (codes "path") path (spell t) there same, (value, tt))))

    with_origin : (make : Tokens → Tokens → Operation) (op : List ℕ) → ((f t : Tokens) → needed_members (make f t) ≡ op_member op ∷ path_member t ∷ from_member f ∷ []) → name ≡ op → NamesOp an_origin name → Read
    with_origin make op shape is names = by (text_at (codes "from") d) refl (spelled path)
      where
        to : (t : Tokens) (from : List ℕ) → path ≡ spell t → text_at (codes "from") d ≡ Some from → ((f : Tokens) × (from ≡ spell f)) ⊎ IsNoPointer from → Read
        to t from same here (inl (f, spells)) = inl (make f t, subst (Carries ms) (sym (shape f t)) (stands (codes "op") name op at is, (stands (codes "path") path (spell t) there same, (stands (codes "from") from (spell f) here spells, tt))))
        to t from same here (inr bad) = inr (BadPointer, (an_origin, (name, at, names), path, there, (from, here, inr bad)))

        by : (o : Option (List ℕ)) → text_at (codes "from") d ≡ o → ((t : Tokens) × (path ≡ spell t)) ⊎ IsNoPointer path → Read
        by None none _ = inr (NoFrom, ((name, at, names), path, there, none))
        by (Some from) here (inl (t, same)) = to t from same here (spelled from)
        by (Some from) here (inr bad) = inr (BadPointer, (an_origin, (name, at, names), path, there, (from, here, inl bad)))

    read_known : Known name → Read
    read_known (path_alone, e) = alone e
    read_known (an_origin, inl e) = with_origin move _ (λ f t. refl) e (inl e)
    read_known (an_origin, inr e) = with_origin copy _ (λ f t. refl) e (inr e)
    read_known (a_value, inl e) = with_value add _ (λ t v. refl) e (inl e)
    read_known (a_value, inr (inl e)) = with_value replace _ (λ t v. refl) e (inr (inl e))
    read_known (a_value, inr (inr e)) = with_value test _ (λ t v. refl) e (inr (inr e))

  read_named : (name : List ℕ) → text_at (codes "op") d ≡ Some name → Known name ⊎ ((need : Need) → ¬ NamesOp need name) → (o : Option (List ℕ)) → text_at (codes "path") d ≡ o → Read
  read_named name at (inr unknown) o there = inr (UnknownOp, (name, at, unknown))
  read_named name at (inl (need, names)) None none = inr (NoPath, (need, (name, at, names), none))
  read_named name at (inl is) (Some path) there = read_known name path at there is

  read_map : (o : Option (List ℕ)) → text_at (codes "op") d ≡ o → Read
  read_map None none = inr (NoOp, none)
  read_map (Some name) at = read_named name at (known name) (text_at (codes "path") d) refl

  read_object : ((o : Operation) × IsForm d o) ⊎ ((cause : FormCause) × IsFaulty cause d)
  read_object = elim (read_map (text_at (codes "op") d) refl) [ inl form ↦ inl (form.0, (ms, refl, form.1)) | inr fault ↦ inr (fault.0, map_fault ms (By fault.0) fault.1) ]

-- ---- elements and documents

read_element : (d : Document) → ((o : Operation) × IsForm d o) ⊎ ((cause : FormCause) × IsFaulty cause d)
read_element (object ms) = read_object ms
read_element d = inr (NotAnObject, inl (refl, λ ms same. cc))

-- an element of a list is faulty, after forms
abbrev SomeFaulty : Items → Type 0
SomeFaulty ds = (number : ℕ) × (cause : FormCause) × IsFaultyAt number cause (list ds)

one_later : (d : Document) (o : Operation) (ds : Items) → IsForm d o → SomeFaulty ds → SomeFaulty (item d ds)
one_later d o ds form (number, cause, f) =
    let rest : ds ≡ append f.front (item f.element f.back) = same_elements ds _ f.is in (
      suc number,
      cause,
      record { front = item d f.front; element = f.element; back = f.back; is = ap (λ xs. list (item d xs)) rest; numbered = ap suc f.numbered; operations = o ∷ f.operations; forms = (form, f.forms); faulty = f.faulty },
    )

read_elements : (ds : Items) → ((operations : List Operation) × EachForm ds operations) ⊎ SomeFaulty ds
read_elements no_items = inl ([], tt)
read_elements (item d ds) = by (read_element d) (read_elements ds)
  where
    by : ((o : Operation) × IsForm d o) ⊎ ((cause : FormCause) × IsFaulty cause d) → ((operations : List Operation) × EachForm ds operations) ⊎ SomeFaulty ds → ((operations : List Operation) × EachForm (item d ds) operations) ⊎ SomeFaulty (item d ds)
    by (inr fault) rest = inr (0, fault.0, record { front = no_items; element = d; back = ds; is = refl; numbered = refl; operations = []; forms = tt; faulty = fault.1 })
    by (inl form) (inl rest) = inl (form.0 ∷ rest.0, (form.1, rest.1))
    by (inl form) (inr found) = inr (one_later d form.0 ds form.1 found)

pub is_form_or_faulty : IsFormOrFaulty
is_form_or_faulty (list ds) = elim (read_elements ds) [
  | inl forms ↦ inl (forms.0, (ds, refl, forms.1))
  | inr found ↦ inr (form_fault.Form found.0 found.1, (λ memory. cc), found.2)
]
is_form_or_faulty d = inr (form_fault.NotAnArray, (λ memory. cc), λ ds same. cc)
