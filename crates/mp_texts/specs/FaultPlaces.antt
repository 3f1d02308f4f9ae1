-- Where a text has the value for which it is no document: the first that is wrong, if the elements of an array are in the order
-- of their indices, and the members of an object in that of their names' UTF-8 bytes, in which the data have them.
use Rattle.std.specs.Prelude.{◌≡◌, ◌⊎◌, ◌-◌, ℕ, zero, suc, List, [], ◌∷◌, None, Some, ⊤}
use Rattle.serde_json.specs.Data as json
use Rattle.serde_json.specs.Data.{Data}
use Rattle.mp_tree.specs.Document.{depth_limit}
use Rattle.mp_tree.specs.Text.{data_in, whole_number}
use Rattle.mp_tree.specs.declared.fault.ReadFault.{ReadFault}
use Rattle.mp_tree.specs.declared.fault.ReadFault.TheVariants.{NotWhole, TooDeep}
use Rattle.mp_pointer.specs.Part.{numeral}
use Rattle.mp_pointer.specs.Spelling.{Tokens}

-- the value itself is wrong: a number that is not whole, or an array or an object if no level is left for it
abbrev pub IsWrong : ReadFault → ℕ → Data → Type 0
IsWrong NotWhole levels (json.number n) = whole_number n ≡ None
IsWrong TooDeep zero (json.array ds) = ⊤
IsWrong TooDeep zero (json.object ms) = ⊤
IsWrong fault levels d = ⊥

-- neither the value nor anything in it is wrong, if it has so many levels
abbrev mutual
  pub IsSound : ReadFault → ℕ → Data → Type 0
  IsSound fault levels (json.array ds) =
      ¬ IsWrong fault levels (json.array ds) × AreSoundItems fault (levels - 1) ds
  IsSound fault levels (json.object ms) =
      ¬ IsWrong fault levels (json.object ms) × AreSoundMembers fault (levels - 1) ms
  IsSound fault levels d = ¬ IsWrong fault levels d

  pub AreSoundItems : ReadFault → ℕ → json.Items → Type 0
  AreSoundItems fault levels json.no_items = ⊤
  AreSoundItems fault levels (json.item d ds) = IsSound fault levels d × AreSoundItems fault levels ds

  pub AreSoundMembers : ReadFault → ℕ → json.Members → Type 0
  AreSoundMembers fault levels json.no_members = ⊤
  AreSoundMembers fault levels (json.member n d ms) = IsSound fault levels d × AreSoundMembers fault levels ms

-- the tokens lead to the first value that is wrong
abbrev mutual
  pub IsFirstWrong : ReadFault → ℕ → Data → Tokens → Type 0
  IsFirstWrong fault levels (json.array ds) t =
      (IsWrong fault levels (json.array ds) × (t ≡ []))
      ⊎ (¬ IsWrong fault levels (json.array ds) × IsFirstItem fault (levels - 1) 0 ds t)
  IsFirstWrong fault levels (json.object ms) t =
      (IsWrong fault levels (json.object ms) × (t ≡ []))
      ⊎ (¬ IsWrong fault levels (json.object ms) × IsFirstMember fault (levels - 1) ms t)
  IsFirstWrong fault levels d t = IsWrong fault levels d × (t ≡ [])

  -- among elements of which the first has the index i
  pub IsFirstItem : ReadFault → ℕ → ℕ → json.Items → Tokens → Type 0
  IsFirstItem fault levels i json.no_items t = ⊥
  IsFirstItem fault levels i (json.item d ds) t =
      ((rest : Tokens) × (t ≡ numeral i ∷ rest) × IsFirstWrong fault levels d rest)
      ⊎ (IsSound fault levels d × IsFirstItem fault levels (suc i) ds t)

  pub IsFirstMember : ReadFault → ℕ → json.Members → Tokens → Type 0
  IsFirstMember fault levels json.no_members t = ⊥
  IsFirstMember fault levels (json.member n d ms) t =
      ((rest : Tokens) × (t ≡ n ∷ rest) × IsFirstWrong fault levels d rest)
      ⊎ (IsSound fault levels d × IsFirstMember fault levels ms t)

-- of what the bytes are read as, as a document
abbrev pub IsFaultPlace : ReadFault → List ℕ → Tokens → Type 0
IsFaultPlace fault text t = (d : Data) × (data_in text ≡ Some d) × IsFirstWrong fault depth_limit d t

-- nothing in it is wrong, if it is read at all
abbrev pub HasNoFaultPlace : ReadFault → List ℕ → Type 0
HasNoFaultPlace fault text = (d : Data) → data_in text ≡ Some d → IsSound fault depth_limit d
