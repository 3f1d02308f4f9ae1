-- The first value that is wrong, of those that a walk has not passed.
use Rattle.std.proofs.Common.{◌≡◌, ◌<◌, ◌+◌, ◌-◌, ◌⊎◌, ℕ, suc, List, length, drop, get_or, inl, inr, sym, ap, ◌∙◌, subst}
use Rattle.std.proofs.lemmas.List.{drop_more}
use Rattle.serde_json.specs.Data as json
use Rattle.serde_json.specs.Data.{Data}
use Rattle.serde_json.specs.View.{items_view, view}
use Rattle.serde_json.specs.declared.value.Value.{Value}
use Rattle.mp_tree.specs.declared.fault.ReadFault.{ReadFault}
use Rattle.mp_tree.specs.declared.fault.ReadFault.TheVariants.{NotJson, OutOfMemory}
use Rattle.mp_pointer.specs.Spelling.{Tokens}
use Rattle.mp_texts.specs.FaultPlaces.{AreSoundItems, AreSoundMembers, IsFirstItem, IsFirstMember, IsSound, IsWrong}

-- what is found of the elements that are left, the first of which has the index i, is found of all
pub record ItemsLeft (fault : ReadFault) (levels i : ℕ) (left all : json.Items) : Type 0 where
  pub first : (t : Tokens) → IsFirstItem fault levels i left t → IsFirstItem fault levels 0 all t
  pub sound : AreSoundItems fault levels left → AreSoundItems fault levels all

pub record MembersLeft (fault : ReadFault) (levels : ℕ) (left all : json.Members) : Type 0 where
  pub first : (t : Tokens) → IsFirstMember fault levels left t → IsFirstMember fault levels all t
  pub sound : AreSoundMembers fault levels left → AreSoundMembers fault levels all

pub all_items : (fault : ReadFault) (levels : ℕ) (ds : json.Items) → ItemsLeft fault levels 0 ds ds
all_items fault levels ds = record { first = λ t is. is; sound = λ are. are }

pub all_members : (fault : ReadFault) (levels : ℕ) (ms : json.Members) → MembersLeft fault levels ms ms
all_members fault levels ms = record { first = λ t is. is; sound = λ are. are }

-- the next one is sound
pub pass_item : (fault : ReadFault) (levels i : ℕ) (d : Data) (left all : json.Items) → ItemsLeft fault levels i (json.item d left) all → IsSound fault levels d → ItemsLeft fault levels (suc i) left all
pass_item fault levels i d left all there is = record { first = λ t found. there.first t (inr (is, found)); sound = λ are. there.sound (is, are) }

pub pass_member : (fault : ReadFault) (levels : ℕ) (n : List ℕ) (d : Data) (left all : json.Members) → MembersLeft fault levels (json.member n d left) all → IsSound fault levels d → MembersLeft fault levels left all
pass_member fault levels n d left all there is = record { first = λ t found. there.first t (inr (is, found)); sound = λ are. there.sound (is, are) }

-- the element that is next, and those after it
pub next_item : (vs : List Value) (i : ℕ) (v : Value) → i < length vs → v ≡ get_or vs i v → items_view (drop i vs) ≡ json.item (view v) (items_view (drop (i + 1) vs))
next_item vs i v within is = ap items_view (drop_more vs i v within) ∙ ap (λ w. json.item (view w) (items_view (drop (i + 1) vs))) (sym is)

-- ---- errors of which no value is wrong

mutual
  sound_of_none : (fault : ReadFault) → ((levels : ℕ) (d : Data) → ¬ IsWrong fault levels d) → (levels : ℕ) (d : Data) → IsSound fault levels d
  sound_of_none fault right levels json.null = right levels json.null
  sound_of_none fault right levels (json.boolean b) = right levels (json.boolean b)
  sound_of_none fault right levels (json.number n) = right levels (json.number n)
  sound_of_none fault right levels (json.string s) = right levels (json.string s)
  sound_of_none fault right levels (json.array ds) = (right levels (json.array ds), sound_items fault right (levels - 1) ds)
  sound_of_none fault right levels (json.object ms) = (right levels (json.object ms), sound_members fault right (levels - 1) ms)

  sound_items : (fault : ReadFault) → ((levels : ℕ) (d : Data) → ¬ IsWrong fault levels d) → (levels : ℕ) (ds : json.Items) → AreSoundItems fault levels ds
  sound_items fault right levels json.no_items = tt
  sound_items fault right levels (json.item d ds) = (sound_of_none fault right levels d, sound_items fault right levels ds)

  sound_members : (fault : ReadFault) → ((levels : ℕ) (d : Data) → ¬ IsWrong fault levels d) → (levels : ℕ) (ms : json.Members) → AreSoundMembers fault levels ms
  sound_members fault right levels json.no_members = tt
  sound_members fault right levels (json.member n d ms) = (sound_of_none fault right levels d, sound_members fault right levels ms)

pub sound_of_others : (fault : ReadFault) → (fault ≡ NotJson) ⊎ (fault ≡ OutOfMemory) → (levels : ℕ) (d : Data) → IsSound fault levels d
sound_of_others fault (inl is) levels d = subst (λ f. IsSound f levels d) (sym is) (sound_of_none NotJson (λ levels e wrong. wrong) levels d)
sound_of_others fault (inr is) levels d = subst (λ f. IsSound f levels d) (sym is) (sound_of_none OutOfMemory (λ levels e wrong. wrong) levels d)
