-- Reading operations from documents that are forms of them, element by element.
use Rattle.std.proofs.Common.{◌≡◌, ◌≢◌, ◌⊎◌, inl, inr, ◌∷◌, ◌++◌, ℕ, List, [], length, map, None, Some, suc, append_assoc, append-nil, Result, Ok, Err, MatchResult, refl, sym, ap, ◌∙◌, subst, arith, codes}
use Rattle.std.proofs.lemmas.List.{map-append}
use Rattle.mp_tree.specs.Document.{Document, object, list, Members}
use Rattle.mp_tree.specs.View.{items_by}
use Rattle.mp_pointer.specs.Spelling.{Tokens, spell, IsPointerFault}
use Rattle.mp_pointer.specs.declared.fault.PointerFault.{PointerFault}
use Rattle.mp_pointer.proofs.Facts.{spellings_have_no_fault}
use Rattle.mp_patch.specs.Form.{NamesOp, Need, path_alone, a_value, an_origin, HasOp, HasNoPointer, Carries, EachForm, IsForm, IsFormFault, IsNoPointer, needed_members, text_at}
use Rattle.mp_patch.specs.Operation.{Operation}
use Rattle.mp_patch.specs.Private.Faults.{fault_of_element}
use Rattle.mp_patch.specs.Private.Names.{name_of}
use Rattle.mp_patch.specs.Private.Reading.{FindsNoPointer, IsMapFault, IsElementFault, IsOriginFault, IsTextFault}
use Rattle.mp_patch.specs.declared.fault.FormCause.{FormCause}
use Rattle.mp_patch.specs.declared.fault.FormCause.TheVariants.{NotAnObject, NoOp, UnknownOp, NoPath, NoFrom, BadPointer, NoValue}
use Rattle.mp_patch.specs.declared.fault.Refusal.{Refusal}
use Rattle.mp_patch.specs.declared.fault.Refusal.TheVariants.{By, OutOfMemory}
use Rattle.mp_patch.specs.declared.name.OpName.{OpName}
use Rattle.mp_patch.proofs.Forms.Needs.{one_need, value_or_origin}
use Rattle.mp_tree.proofs.Facts.{count_of-items-by, items-append-by, same_some, some_none}

-- ---- reading

pub no_pointer : (text : List ℕ) (fault : PointerFault) → fault ≢ PointerFault.OutOfMemory → IsPointerFault fault text → IsNoPointer text
no_pointer text fault known holds t is = known (spellings_have_no_fault t fault (subst (IsPointerFault fault) is holds))

-- what the reading found in a map is the first that is wrong with it
module _ (ms : Members) where
  abbrev d : Document
  d = object ms

  is_object : ¬ ((es : Members) → d ≢ object es)
  is_object other = other ms refl

  names_op : (name : List ℕ) → text_at (codes "op") d ≡ Some name → ¬ (text_at (codes "op") d ≡ None)
  names_op name at none = some_none (text_at (codes "op") d) name at none

  has_path : (path : List ℕ) → text_at (codes "path") d ≡ Some path → ¬ (text_at (codes "path") d ≡ None)
  has_path path at none = some_none (text_at (codes "path") d) path at none

  none_named : (name : List ℕ) → text_at (codes "op") d ≡ Some name → ((need : Need) → ¬ NamesOp need name) → (need : Need) → ¬ HasOp need d
  none_named name at unknown need (other, there, names) = unknown need (subst (NamesOp need) (same_some (text_at (codes "op") d) other name there at) names)

  -- with a bad pointer
  has_from : (need : Need) (path : List ℕ) → HasOp need d → FindsNoPointer need path d → ¬ (HasOp an_origin d × (text_at (codes "from") d ≡ None))
  has_from path_alone path has bad (origin, none) = let same : path_alone ≡ an_origin = one_need path_alone an_origin d has origin in cc
  has_from a_value path has bad (origin, none) = value_or_origin d has origin
  has_from an_origin path has (text, at, bad) (origin, none) = some_none (text_at (codes "from") d) text at none

  bad_pointer : (need : Need) (path : List ℕ) → HasOp need d → text_at (codes "path") d ≡ Some path → FindsNoPointer need path d → HasNoPointer (codes "path") d ⊎ (HasOp an_origin d × HasNoPointer (codes "from") d)
  bad_pointer path_alone path has at bad = inl (path, at, bad)
  bad_pointer a_value path has at bad = inl (path, at, bad)
  bad_pointer an_origin path has at (text, there, inl bad) = inl (path, at, bad)
  bad_pointer an_origin path has at (text, there, inr bad) = inr (has, (text, there, bad))

  -- with no value
  good_pointers : (t : Tokens) → HasOp a_value d → text_at (codes "path") d ≡ Some (spell t) → ¬ (HasNoPointer (codes "path") d ⊎ (HasOp an_origin d × HasNoPointer (codes "from") d))
  good_pointers t has at (inl (path, there, bad)) = bad t (same_some (text_at (codes "path") d) path (spell t) there at)
  good_pointers t has at (inr (origin, bad)) = value_or_origin d has origin

  pub map_fault : (fault : Refusal FormCause) → IsMapFault fault d → IsElementFault fault d
  map_fault (By NotAnObject) found = absurd found
  map_fault (By NoOp) none = inr (is_object, inl (refl, none))
  map_fault (By UnknownOp) (name, at, unknown) = inr (is_object, inr (names_op name at, inl (refl, none_named name at unknown)))
  map_fault (By NoPath) (need, has, none) = inr (is_object, inr (names_op has.0 has.1, inr ((λ unknown. unknown need has), inl (refl, none))))
  map_fault (By NoFrom) (has, path, at, none) = inr (is_object, inr (names_op has.0 has.1, inr ((λ unknown. unknown an_origin has), inr (has_path path at, inl (refl, (has, none))))))
  map_fault (By BadPointer) (need, has, path, at, bad) =
      inr (is_object, inr (names_op has.0 has.1, inr ((λ unknown. unknown need has), inr (has_path path at, inr (has_from need path has bad, inl (refl, bad_pointer need path has at bad))))))
  map_fault (By NoValue) (has, t, at, none) =
      inr (
        is_object,
        inr (
          names_op has.0 has.1,
          inr ((λ unknown. unknown a_value has), inr (has_path (spell t) at, inr ((λ h. value_or_origin d has h.0), inr (good_pointers t has at, inl (refl, (has, none)))))),
        ),
      )
  map_fault OutOfMemory found = tt

pub form_of_map : {O : Type 0} (g : O → Operation) (r : Result O (Refusal FormCause)) (ms : Members) (d : Document) → d ≡ object ms → MatchResult r (λ op. Carries ms (needed_members (g op))) (λ fault. IsMapFault fault (object ms))
    → MatchResult r (λ op. IsForm d (g op)) (λ fault. IsElementFault fault d)
form_of_map g (Ok op) ms d is carries = (ms, is, carries)
form_of_map g (Err fault) ms d is found = subst (IsElementFault fault) (sym is) (map_fault ms fault found)

module _ {V : Type 0} (f : V → Document) where
  EachForm-more : (vs : List V) (operations : List Operation) (v : V) (o : Operation) → EachForm (items_by f vs) operations → IsForm (f v) o → EachForm (items_by f (vs ++ v ∷ [])) (operations ++ o ∷ [])
  EachForm-more [] [] v o forms form = (form, tt)
  EachForm-more [] (p ∷ operations) v o forms form = absurd forms
  EachForm-more (x ∷ vs) [] v o forms form = absurd forms
  EachForm-more (x ∷ vs) (p ∷ operations) v o forms form = (forms.0, EachForm-more vs operations v o forms.1 form)

  as_many : {O : Type 0} (g : O → Operation) (vs : List V) (ops : List O) → EachForm (items_by f vs) (map g ops) → length ops ≡ length vs
  as_many g [] [] forms = refl
  as_many g [] (op ∷ ops) forms = absurd forms
  as_many g (v ∷ vs) [] forms = absurd forms
  as_many g (v ∷ vs) (op ∷ ops) forms = ap suc (as_many g vs ops forms.1)

-- ---- reading a list that is taken apart, each element as the document that it means

pub record AreReadTo {V O : Type 0} (f : V → Document) (g : O → Operation) (vs left : List V) (ops : List O) : Type 0 where
  pub passed : List V
  pub all : vs ≡ passed ++ left
  pub forms : EachForm (items_by f passed) (map g ops)

module _ {V O : Type 0} (f : V → Document) (g : O → Operation) (vs left : List V) (ops : List O) (r : AreReadTo f g vs left ops) where
  pub read_more : (v : V) (more : List V) (op : O) (new : List O) → left ≡ v ∷ more → IsForm (f v) (g op) → new ≡ ops ++ op ∷ [] → AreReadTo f g vs more new
  read_more v more op new next form pushed =
      let grown : map g new ≡ map g ops ++ g op ∷ [] = ap (map g) pushed ∙ map-append g ops (op ∷ []) in
      record {
        passed = r.passed ++ v ∷ [];
        all = r.all ∙ ap (λ ws. r.passed ++ ws) next ∙ sym (append_assoc r.passed (v ∷ []) more);
        forms = subst (λ os. EachForm (items_by f (r.passed ++ v ∷ [])) os) (sym grown) (EachForm-more f r.passed (map g ops) v (g op) r.forms form);
      }

  pub read_end : length left ≡ 0 → EachForm (items_by f vs) (map g ops)
  read_end none = subst (λ ws. EachForm (items_by f ws) (map g ops)) (sym (r.all ∙ ap (λ ws. r.passed ++ ws) (empty left none) ∙ append-nil r.passed)) r.forms
    where
      empty : (ws : List V) → length ws ≡ 0 → ws ≡ []
      empty [] none = refl
      empty (w ∷ ws) none = absurd (omega (arith, none))

  pub read_fault : (fault : Refusal FormCause) (v : V) (more : List V) → left ≡ v ∷ more → IsElementFault fault (f v) → IsFormFault (fault_of_element (length ops) fault) (list (items_by f vs))
  read_fault OutOfMemory v more next faulty = tt
  read_fault (By cause) v more next faulty = record {
    front = items_by f r.passed;
    element = f v;
    back = items_by f more;
    is = ap list (ap (items_by f) (r.all ∙ ap (λ ws. r.passed ++ ws) next) ∙ items-append-by f r.passed (v ∷ more));
    numbered = as_many f g r.passed ops r.forms ∙ sym (count_of-items-by f r.passed);
    operations = map g ops;
    forms = r.forms;
    faulty = faulty;
  }

-- ---- what is found in a map

pub no_slash_is_no_memory : PointerFault.NoSlash ≢ PointerFault.OutOfMemory
no_slash_is_no_memory e = cc

pub bad_tilde_is_no_memory : (place : ℕ) → PointerFault.BadTilde place ≢ PointerFault.OutOfMemory
bad_tilde_is_no_memory place e = cc

pub origin_fault : (fault : Refusal FormCause) (name path : List ℕ) (ms : Members) → text_at (codes "op") (object ms) ≡ Some name → NamesOp an_origin name → text_at (codes "path") (object ms) ≡ Some path → IsOriginFault fault path (object ms) → IsMapFault fault (object ms)
origin_fault (By NoFrom) name path ms op named at faulty = ((name, op, named), path, at, faulty)
origin_fault (By BadPointer) name path ms op named at faulty = (an_origin, (name, op, named), path, at, faulty)
origin_fault (By NotAnObject) name path ms op named at faulty = absurd faulty
origin_fault (By NoOp) name path ms op named at faulty = absurd faulty
origin_fault (By UnknownOp) name path ms op named at faulty = absurd faulty
origin_fault (By NoPath) name path ms op named at faulty = absurd faulty
origin_fault (By NoValue) name path ms op named at faulty = absurd faulty
origin_fault OutOfMemory name path ms op named at faulty = tt

pub path_fault : (named : OpName) (ms : Members) → text_at (codes "op") (object ms) ≡ Some (name_of named) → text_at (codes "path") (object ms) ≡ None → IsMapFault (By NoPath) (object ms)
path_fault OpName.Add ms op none = (a_value, (codes "add", op, inl refl), none)
path_fault OpName.Remove ms op none = (path_alone, (codes "remove", op, refl), none)
path_fault OpName.Replace ms op none = (a_value, (codes "replace", op, inr (inl refl)), none)
path_fault OpName.Move ms op none = (an_origin, (codes "move", op, inl refl), none)
path_fault OpName.Copy ms op none = (an_origin, (codes "copy", op, inr refl), none)
path_fault OpName.Test ms op none = (a_value, (codes "test", op, inr (inr refl)), none)

pub text_fault : (fault : Refusal FormCause) (name path : List ℕ) (ms : Members) → text_at (codes "op") (object ms) ≡ Some name → NamesOp a_value name → text_at (codes "path") (object ms) ≡ Some path → IsTextFault fault path → IsMapFault fault (object ms)
text_fault (By BadPointer) name path ms op named at bad = (a_value, (name, op, named), path, at, bad)
text_fault (By NotAnObject) name path ms op named at bad = absurd bad
text_fault (By NoOp) name path ms op named at bad = absurd bad
text_fault (By UnknownOp) name path ms op named at bad = absurd bad
text_fault (By NoPath) name path ms op named at bad = absurd bad
text_fault (By NoFrom) name path ms op named at bad = absurd bad
text_fault (By NoValue) name path ms op named at bad = absurd bad
text_fault OutOfMemory name path ms op named at bad = tt
