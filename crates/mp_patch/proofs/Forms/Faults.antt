-- The laws of errors in form: a form has none, and no document has two.
use Rattle.std.proofs.Common.{◌≡◌, ◌⊎◌, inl, inr, List, [], ◌∷◌, None, refl, sym, ap, ◌∙◌, subst, codes, suc}
use Rattle.mp_tree.specs.Document.{Document, object, Items, no_items, item, Members}
use Rattle.mp_tree.specs.Elements.{count_of, append}
use Rattle.mp_tree.specs.Look.{at_name}
use Rattle.mp_pointer.specs.Spelling.{spell}
use Rattle.mp_tree.proofs.Facts.{same_some, some_none, same_elements, same_item}
use Rattle.mp_patch.specs.Form.{Carries, EachForm, IsForm, IsFaulty, HasNoPointer, HasOp, a_value, an_origin, form_causes, needed_members, text_at}
use Rattle.mp_patch.specs.Laws.{FormsHaveNoFault, HasOneFormFault}
use Rattle.mp_patch.specs.Operation.{Operation}
use Rattle.mp_patch.specs.declared.fault.FormCause.{FormCause}
use Rattle.mp_patch.specs.declared.fault.FormFault.TheVariants.{NotAnArray, Form, OutOfMemory}
use Rattle.mp_patch.proofs.FirstCause.{NoneHolds, none_first, one_first}
use Rattle.mp_patch.proofs.Forms.Needs.{need_of, place_of, has_op, path_text, from_text, value_there}

-- ---- a form has no error

module _ (ms : Members) (o : Operation) (a : Carries ms (needed_members o)) where
  origin_spelled : ¬ (HasOp an_origin (object ms) × (text_at (codes "from") (object ms) ≡ None))
  origin_spelled (origin, none) = let from = from_text ms o a origin in some_none (text_at (codes "from") (object ms)) (spell from.0) from.1 none

  pointers_good : ¬ (HasNoPointer (codes "path") (object ms) ⊎ (HasOp an_origin (object ms) × HasNoPointer (codes "from") (object ms)))
  pointers_good (inl (path, at, bad)) = bad (place_of o) (same_some (text_at (codes "path") (object ms)) path (spell (place_of o)) at (path_text ms o a))
  pointers_good (inr (origin, (text, at, bad))) = let from = from_text ms o a origin in bad from.0 (same_some (text_at (codes "from") (object ms)) text (spell from.0) at from.1)

  has_value : ¬ (HasOp a_value (object ms) × (at_name (codes "value") (object ms) ≡ None))
  has_value (value, none) = let there = value_there ms o a value in some_none (at_name (codes "value") (object ms)) there.0 there.1 none

  none_in_form : NoneHolds (form_causes (object ms))
  none_in_form =
      let has = has_op ms o a in
      let op : ¬ (text_at (codes "op") (object ms) ≡ None) = λ none. some_none (text_at (codes "op") (object ms)) has.0 has.1 none in
      let path : ¬ (text_at (codes "path") (object ms) ≡ None) = λ none. some_none (text_at (codes "path") (object ms)) (spell (place_of o)) (path_text ms o a) none in
      ((λ other. other ms refl), (op, ((λ unknown. unknown (need_of o) has), (path, (origin_spelled, (pointers_good, (has_value, tt)))))))

faultless : (cause : FormCause) (x : Document) (o : Operation) → IsForm x o → ¬ IsFaulty cause x
faultless cause x o (ms, is, a) = none_first (form_causes x) cause (subst (λ (d : Document). NoneHolds (form_causes d)) (sym is) (none_in_form ms o a))

form_at : (front : Items) (x : Document) (back : Items) (operations : List Operation) → EachForm (append front (item x back)) operations → (o : Operation) × IsForm x o
form_at no_items x back [] forms = absurd forms
form_at no_items x back (o ∷ operations) forms = (o, forms.0)
form_at (item d front) x back [] forms = absurd forms
form_at (item d front) x back (o ∷ operations) forms = form_at front x back operations forms.1

pub forms_have_no_fault : FormsHaveNoFault
forms_have_no_fault d operations OutOfMemory forms faulty = refl
forms_have_no_fault d operations NotAnArray (ds, is, forms) faulty = absurd (faulty ds is)
forms_have_no_fault d operations (Form op cause) (ds, is, forms) f =
    let same = same_elements ds (append f.front (item f.element f.back)) (sym is ∙ f.is) in
    let form = form_at f.front f.element f.back operations (subst (λ xs. EachForm xs operations) same forms) in
    absurd (faultless cause f.element form.0 form.1 f.faulty)

-- ---- a document has one error

abbrev OneElement : Items → Items → FormCause → FormCause → Type 0
OneElement front other_front cause other = (count_of front ≡ count_of other_front) × (cause ≡ other)

one_element : (cause other : FormCause) (front other_front : Items) (x y : Document) (back other_back : Items) (before other_before : List Operation) → append front (item x back) ≡ append other_front (item y other_back)
    → EachForm front before → EachForm other_front other_before → IsFaulty cause x → IsFaulty other y → OneElement front other_front cause other
one_element cause other no_items no_items x y back other_back before other_before same forms others faulty also =
    let here = same_item x y back other_back same in (refl, one_first (form_causes x) cause other faulty (subst (IsFaulty other) (sym here.0) also))
one_element cause other no_items (item e es) x y back other_back before [] same forms others faulty also = absurd others
one_element cause other no_items (item e es) x y back other_back before (o ∷ os) same forms others faulty also =
    let here = same_item x e back (append es (item y other_back)) same in absurd (faultless cause x o (subst (λ (d : Document). IsForm d o) (sym here.0) others.0) faulty)
one_element cause other (item d ds) no_items x y back other_back [] other_before same forms others faulty also = absurd forms
one_element cause other (item d ds) no_items x y back other_back (o ∷ os) other_before same forms others faulty also =
    let here = same_item d y (append ds (item x back)) other_back same in absurd (faultless other y o (subst (λ (z : Document). IsForm z o) here.0 forms.0) also)
one_element cause other (item d ds) (item e es) x y back other_back [] other_before same forms others faulty also = absurd forms
one_element cause other (item d ds) (item e es) x y back other_back (o ∷ os) [] same forms others faulty also = absurd others
one_element cause other (item d ds) (item e es) x y back other_back (o ∷ os) (p ∷ ps) same forms others faulty also =
    let rest = one_element cause other ds es x y back other_back os ps (same_item d e (append ds (item x back)) (append es (item y other_back)) same).1 forms.1 others.1 faulty also in
    (ap suc rest.0, rest.1)

pub has_one_fault : HasOneFormFault
has_one_fault d OutOfMemory other one two is also = absurd (one refl)
has_one_fault d NotAnArray OutOfMemory one two is also = absurd (two refl)
has_one_fault d (Form op cause) OutOfMemory one two is also = absurd (two refl)
has_one_fault d NotAnArray NotAnArray one two is also = refl
has_one_fault d NotAnArray (Form op cause) one two is also = absurd (is (append also.front (item also.element also.back)) also.is)
has_one_fault d (Form op cause) NotAnArray one two is also = absurd (also (append is.front (item is.element is.back)) is.is)
has_one_fault d (Form op cause) (Form number other) one two f g =
    let same = same_elements (append f.front (item f.element f.back)) (append g.front (item g.element g.back)) (sym f.is ∙ g.is) in
    let found = one_element cause other f.front g.front f.element g.element f.back g.back f.operations g.operations same f.forms g.forms f.faulty g.faulty in
    ap (λ n. Form n cause) (f.numbered ∙ found.0 ∙ sym g.numbered) ∙ ap (Form number) found.1
