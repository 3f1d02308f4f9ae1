-- The first value that is wrong: there is one if the text is no document for it, and one alone.
use Rattle.std.proofs.Common.{◌≡◌, ◌≢◌, ◌≤◌, ◌-◌, ◌∷◌, ◌⊎◌, ℕ, zero, suc, List, [], Option, None, Some, Bool, true, false, if◌then◌else◌, nat_le, option_map, option_and_then, Ok, Err, inl, inr, refl, sym, ap, ◌∙◌, subst, arith}
use Rattle.std.proofs.lemmas.Bool.{le-leb}
use Rattle.serde_json.specs.Data as json
use Rattle.serde_json.specs.Data.{Data}
use Rattle.mp_tree.specs.Document.{Document, list, object, whole, item, put, depth, depth_limit}
use Rattle.mp_tree.specs.Text.{data_in, from_data, items_from_data, members_from_data, json_document, shallow_document, whole_document, whole_number}
use Rattle.mp_tree.specs.declared.fault.ReadFault.{ReadFault}
use Rattle.mp_tree.specs.declared.fault.ReadFault.TheVariants.{NotJson, NotWhole, TooDeep, OutOfMemory}
use Rattle.mp_tree.proofs.Facts.{depth-from}
use Rattle.mp_pointer.specs.Part.{numeral}
use Rattle.mp_pointer.specs.Spelling.{Tokens}
use Rattle.mp_texts.specs.FaultPlaces.{AreSoundItems, AreSoundMembers, HasNoFaultPlace, IsFaultPlace, IsFirstWrong, IsFirstItem, IsFirstMember, IsSound, IsWrong}
use Rattle.mp_texts.specs.Laws.{FaultHasPlace, FaultHasOnePlace, HasPlaceOrNone, NoPlaceIsNone}

wrong_or_not : (fault : ReadFault) (levels : ℕ) (d : Data) → IsWrong fault levels d ⊎ ¬ IsWrong fault levels d
wrong_or_not NotWhole levels (json.number n) = elim (whole_number n) as (λ o. (o ≡ None) ⊎ (o ≢ None)) [
  | None ↦ inl refl
  | Some z ↦ inr (λ none. absurd (cc))
]
wrong_or_not TooDeep zero (json.array ds) = inl tt
wrong_or_not TooDeep zero (json.object ms) = inl tt
wrong_or_not NotWhole levels json.null = inr (λ wrong. wrong)
wrong_or_not NotWhole levels (json.boolean b) = inr (λ wrong. wrong)
wrong_or_not NotWhole levels (json.string s) = inr (λ wrong. wrong)
wrong_or_not NotWhole levels (json.array ds) = inr (λ wrong. wrong)
wrong_or_not NotWhole levels (json.object ms) = inr (λ wrong. wrong)
wrong_or_not TooDeep zero json.null = inr (λ wrong. wrong)
wrong_or_not TooDeep zero (json.boolean b) = inr (λ wrong. wrong)
wrong_or_not TooDeep zero (json.number n) = inr (λ wrong. wrong)
wrong_or_not TooDeep zero (json.string s) = inr (λ wrong. wrong)
wrong_or_not TooDeep (suc levels) d = inr (λ wrong. wrong)
wrong_or_not NotJson levels d = inr (λ wrong. wrong)
wrong_or_not OutOfMemory levels d = inr (λ wrong. wrong)

-- ---- sound, or with a first value that is wrong

scalar_or : {W : Type 0} → W ⊎ ¬ W → (¬ W) ⊎ ((t : Tokens) × (W × (t ≡ [])))
scalar_or (inl wrong) = inr ([], (wrong, refl))
scalar_or (inr right) = inl right

parts_or : {W Sound : Type 0} {First : Tokens → Type 0} → W ⊎ ¬ W → Sound ⊎ ((t : Tokens) × First t)
    → ((¬ W) × Sound) ⊎ ((t : Tokens) × ((W × (t ≡ [])) ⊎ ((¬ W) × First t)))
parts_or (inl wrong) parts = inr ([], inl (wrong, refl))
parts_or (inr right) (inl sound) = inl (right, sound)
parts_or (inr right) (inr found) = inr (found.0, inr (right, found.1))

next_or : {Sound Rest : Type 0} {First Later : Tokens → Type 0} (n : List ℕ) → Sound ⊎ ((t : Tokens) × First t) → Rest ⊎ ((t : Tokens) × Later t)
    → (Sound × Rest) ⊎ ((t : Tokens) × (((rest : Tokens) × (t ≡ n ∷ rest) × First rest) ⊎ (Sound × Later t)))
next_or n (inl sound) (inl rest) = inl (sound, rest)
next_or n (inl sound) (inr later) = inr (later.0, inr (sound, later.1))
next_or n (inr found) rest = inr (n ∷ found.0, inl (found.0, refl, found.1))

mutual
  sound_or_first : (fault : ReadFault) (levels : ℕ) (d : Data) → IsSound fault levels d ⊎ ((t : Tokens) × IsFirstWrong fault levels d t)
  sound_or_first fault levels json.null = scalar_or (wrong_or_not fault levels json.null)
  sound_or_first fault levels (json.boolean b) = scalar_or (wrong_or_not fault levels (json.boolean b))
  sound_or_first fault levels (json.number n) = scalar_or (wrong_or_not fault levels (json.number n))
  sound_or_first fault levels (json.string s) = scalar_or (wrong_or_not fault levels (json.string s))
  sound_or_first fault levels (json.array ds) = parts_or (wrong_or_not fault levels (json.array ds)) (items_or_first fault (levels - 1) 0 ds)
  sound_or_first fault levels (json.object ms) = parts_or (wrong_or_not fault levels (json.object ms)) (members_or_first fault (levels - 1) ms)

  items_or_first : (fault : ReadFault) (levels i : ℕ) (ds : json.Items) → AreSoundItems fault levels ds ⊎ ((t : Tokens) × IsFirstItem fault levels i ds t)
  items_or_first fault levels i json.no_items = inl tt
  items_or_first fault levels i (json.item d ds) = next_or (numeral i) (sound_or_first fault levels d) (items_or_first fault levels (suc i) ds)

  members_or_first : (fault : ReadFault) (levels : ℕ) (ms : json.Members) → AreSoundMembers fault levels ms ⊎ ((t : Tokens) × IsFirstMember fault levels ms t)
  members_or_first fault levels json.no_members = inl tt
  members_or_first fault levels (json.member n d ms) = next_or n (sound_or_first fault levels d) (members_or_first fault levels ms)

-- ---- not both, and one alone

scalar_not : {W : Type 0} {t : Tokens} → ¬ W → W × (t ≡ []) → ⊥
scalar_not right found = right found.0

parts_not : {W Sound First : Type 0} {t : Tokens} → (Sound → First → ⊥) → (¬ W) × Sound → (W × (t ≡ [])) ⊎ ((¬ W) × First) → ⊥
parts_not never sound (inl wrong) = sound.0 wrong.0
parts_not never sound (inr found) = never sound.1 found.1

mutual
  not_both : (fault : ReadFault) (levels : ℕ) (d : Data) (t : Tokens) → IsSound fault levels d → IsFirstWrong fault levels d t → ⊥
  not_both fault levels json.null t = scalar_not
  not_both fault levels (json.boolean b) t = scalar_not
  not_both fault levels (json.number n) t = scalar_not
  not_both fault levels (json.string s) t = scalar_not
  not_both fault levels (json.array ds) t = parts_not (items_not_both fault (levels - 1) 0 ds t)
  not_both fault levels (json.object ms) t = parts_not (members_not_both fault (levels - 1) ms t)

  items_not_both : (fault : ReadFault) (levels i : ℕ) (ds : json.Items) (t : Tokens) → AreSoundItems fault levels ds → IsFirstItem fault levels i ds t → ⊥
  items_not_both fault levels i json.no_items t sound found = found
  items_not_both fault levels i (json.item d ds) t sound (inl here) = not_both fault levels d here.0 sound.0 here.2
  items_not_both fault levels i (json.item d ds) t sound (inr later) = items_not_both fault levels (suc i) ds t sound.1 later.1

  members_not_both : (fault : ReadFault) (levels : ℕ) (ms : json.Members) (t : Tokens) → AreSoundMembers fault levels ms → IsFirstMember fault levels ms t → ⊥
  members_not_both fault levels json.no_members t sound found = found
  members_not_both fault levels (json.member n d ms) t sound (inl here) = not_both fault levels d here.0 sound.0 here.2
  members_not_both fault levels (json.member n d ms) t sound (inr later) = members_not_both fault levels ms t sound.1 later.1

scalar_one : {W : Type 0} {t u : Tokens} → W × (t ≡ []) → W × (u ≡ []) → t ≡ u
scalar_one one other = one.1 ∙ sym other.1

parts_one : {W First Other : Type 0} {t u : Tokens} → (First → Other → t ≡ u) → (W × (t ≡ [])) ⊎ ((¬ W) × First) → (W × (u ≡ [])) ⊎ ((¬ W) × Other) → t ≡ u
parts_one same (inl one) (inl other) = scalar_one one other
parts_one same (inl one) (inr other) = absurd (other.0 one.0)
parts_one same (inr one) (inl other) = absurd (one.0 other.0)
parts_one same (inr one) (inr other) = same one.1 other.1

mutual
  one_first : (fault : ReadFault) (levels : ℕ) (d : Data) (t u : Tokens) → IsFirstWrong fault levels d t → IsFirstWrong fault levels d u → t ≡ u
  one_first fault levels json.null t u = scalar_one
  one_first fault levels (json.boolean b) t u = scalar_one
  one_first fault levels (json.number n) t u = scalar_one
  one_first fault levels (json.string s) t u = scalar_one
  one_first fault levels (json.array ds) t u = parts_one (one_first_item fault (levels - 1) 0 ds t u)
  one_first fault levels (json.object ms) t u = parts_one (one_first_member fault (levels - 1) ms t u)

  one_first_item : (fault : ReadFault) (levels i : ℕ) (ds : json.Items) (t u : Tokens) → IsFirstItem fault levels i ds t → IsFirstItem fault levels i ds u → t ≡ u
  one_first_item fault levels i json.no_items t u one other = absurd one
  one_first_item fault levels i (json.item d ds) t u (inl one) (inl other) = one.1 ∙ ap (λ r. numeral i ∷ r) (one_first fault levels d one.0 other.0 one.2 other.2) ∙ sym other.1
  one_first_item fault levels i (json.item d ds) t u (inl one) (inr other) = absurd (not_both fault levels d one.0 other.0 one.2)
  one_first_item fault levels i (json.item d ds) t u (inr one) (inl other) = absurd (not_both fault levels d other.0 one.0 other.2)
  one_first_item fault levels i (json.item d ds) t u (inr one) (inr other) = one_first_item fault levels (suc i) ds t u one.1 other.1

  one_first_member : (fault : ReadFault) (levels : ℕ) (ms : json.Members) (t u : Tokens) → IsFirstMember fault levels ms t → IsFirstMember fault levels ms u → t ≡ u
  one_first_member fault levels json.no_members t u one other = absurd one
  one_first_member fault levels (json.member n d ms) t u (inl one) (inl other) = one.1 ∙ ap (λ r. n ∷ r) (one_first fault levels d one.0 other.0 one.2 other.2) ∙ sym other.1
  one_first_member fault levels (json.member n d ms) t u (inl one) (inr other) = absurd (not_both fault levels d one.0 other.0 one.2)
  one_first_member fault levels (json.member n d ms) t u (inr one) (inl other) = absurd (not_both fault levels d other.0 one.0 other.2)
  one_first_member fault levels (json.member n d ms) t u (inr one) (inr other) = one_first_member fault levels ms t u one.1 other.1

-- ---- what is sound has no such error

mapped : {A B : Type 0} (f : A → B) (o : Option A) → o ≢ None → option_map f o ≢ None
mapped f None some = absurd (some refl)
mapped f (Some a) some = λ none. absurd (cc)

both_some : {A B C : Type 0} (f : A → B → C) (o : Option A) (r : Option B) → o ≢ None → r ≢ None → option_and_then (λ a. option_map (f a) r) o ≢ None
both_some f None r some more = absurd (some refl)
both_some f (Some a) r some more = mapped (f a) r more

mutual
  sound_whole : (levels : ℕ) (d : Data) → IsSound NotWhole levels d → from_data d ≢ None
  sound_whole levels json.null sound = λ none. absurd (cc)
  sound_whole levels (json.boolean b) sound = λ none. absurd (cc)
  sound_whole levels (json.number n) sound = mapped whole (whole_number n) sound
  sound_whole levels (json.string s) sound = λ none. absurd (cc)
  sound_whole levels (json.array ds) sound = mapped list (items_from_data ds) (items_whole (levels - 1) ds sound.1)
  sound_whole levels (json.object ms) sound = mapped object (members_from_data ms) (members_whole (levels - 1) ms sound.1)

  items_whole : (levels : ℕ) (ds : json.Items) → AreSoundItems NotWhole levels ds → items_from_data ds ≢ None
  items_whole levels json.no_items sound = λ none. absurd (cc)
  items_whole levels (json.item d ds) sound = both_some item (from_data d) (items_from_data ds) (sound_whole levels d sound.0) (items_whole levels ds sound.1)

  members_whole : (levels : ℕ) (ms : json.Members) → AreSoundMembers NotWhole levels ms → members_from_data ms ≢ None
  members_whole levels json.no_members sound = λ none. absurd (cc)
  members_whole levels (json.member n d ms) sound = both_some (put n) (from_data d) (members_from_data ms) (sound_whole levels d sound.0) (members_whole levels ms sound.1)

some_level : (levels n : ℕ) → ¬ (levels ≡ zero) → n ≤ levels - 1 → suc n ≤ levels
some_level zero n some within = absurd (some refl)
some_level (suc levels) n some within = omega (arith, within)

mutual
  sound_shallow : (levels : ℕ) (d : Data) → IsSound TooDeep levels d → json.depth d ≤ levels
  sound_shallow levels json.null sound = omega arith
  sound_shallow levels (json.boolean b) sound = omega arith
  sound_shallow levels (json.number n) sound = omega arith
  sound_shallow levels (json.string s) sound = omega arith
  sound_shallow levels (json.array ds) sound = some_level levels (json.items_depth ds) (λ none. sound.0 (subst (λ k. IsWrong TooDeep k (json.array ds)) (sym none) tt)) (items_shallow (levels - 1) ds sound.1)
  sound_shallow levels (json.object ms) sound = some_level levels (json.members_depth ms) (λ none. sound.0 (subst (λ k. IsWrong TooDeep k (json.object ms)) (sym none) tt)) (members_shallow (levels - 1) ms sound.1)

  items_shallow : (levels : ℕ) (ds : json.Items) → AreSoundItems TooDeep levels ds → json.items_depth ds ≤ levels
  items_shallow levels json.no_items sound = omega arith
  items_shallow levels (json.item d ds) sound = omega (arith, sound_shallow levels d sound.0, items_shallow levels ds sound.1)

  members_shallow : (levels : ℕ) (ms : json.Members) → AreSoundMembers TooDeep levels ms → json.members_depth ms ≤ levels
  members_shallow levels json.no_members sound = omega arith
  members_shallow levels (json.member n d ms) sound = omega (arith, sound_shallow levels d sound.0, members_shallow levels ms sound.1)

-- ---- of texts

pub one_fault_place : FaultHasOnePlace
one_fault_place fault text t u one other =
    let same : one.0 ≡ other.0 = cc in
    one_first fault depth_limit one.0 t u one.2 (subst (λ d. IsFirstWrong fault depth_limit d u) (sym same) other.2)

-- a text whose data are sound has neither error
not_of_sound : (fault : ReadFault) (d : Data) → IsSound fault depth_limit d → fault ≢ NotJson → fault ≢ OutOfMemory → whole_document (from_data d) ≡ Err fault → ⊥
not_of_sound fault d sound = by fault (from_data d) refl sound
  where
    shallow : (e : Document) → depth e ≤ depth_limit → shallow_document e ≡ Ok e
    shallow e within = rw (le-leb (depth e) depth_limit within) refl

    by : (fault : ReadFault) (o : Option Document) → from_data d ≡ o → IsSound fault depth_limit d → fault ≢ NotJson → fault ≢ OutOfMemory → whole_document o ≡ Err fault → ⊥
    by NotWhole None is sound json memory same = sound_whole depth_limit d sound is
    by TooDeep None is sound json memory same = cc
    by NotWhole (Some e) is sound json memory same = not_deep (nat_le (depth e) depth_limit) same
      where
        not_deep : (b : Bool) → (if b then Ok e else Err TooDeep) ≡ Err NotWhole → ⊥
        not_deep true same = cc
        not_deep false same = cc
    by TooDeep (Some e) is sound json memory same =
        let within : depth e ≤ depth_limit = omega (arith, depth-from d e is, sound_shallow depth_limit d sound) in
        let ok : shallow_document e ≡ Ok e = shallow e within in
        cc
    by NotJson o is sound json memory same = json refl
    by OutOfMemory o is sound json memory same = memory refl

pub fault_has_place : FaultHasPlace
fault_has_place fault text json memory is = by (data_in text) refl is
  where
    by : (o : Option Data) → data_in text ≡ o → json_document o ≡ Err fault → (t : Tokens) × IsFaultPlace fault text t
    by None read same = absurd (json (cc))
    by (Some d) read same = elim (sound_or_first fault depth_limit d) [
      | inl sound ↦ absurd (not_of_sound fault d sound json memory same)
      | inr found ↦ (found.0, (d, read, found.1))
    ]

pub has_place_or_none : HasPlaceOrNone
has_place_or_none fault text = by (data_in text) refl
  where
    by : (o : Option Data) → data_in text ≡ o → HasNoFaultPlace fault text ⊎ ((place : Tokens) × IsFaultPlace fault text place)
    by None read = inl (λ d found. absurd (cc))
    by (Some d) read = elim (sound_or_first fault depth_limit d) [
      | inl sound ↦ inl (λ e found. let same : d ≡ e = cc in subst (IsSound fault depth_limit) same sound)
      | inr found ↦ inr (found.0, (d, read, found.1))
    ]

pub no_place_is_none : NoPlaceIsNone
no_place_is_none fault text place none some = not_both fault depth_limit some.0 place (none some.0 some.1) some.2
