-- What reading a single element of a patch answers. Only private clauses cite it.
use Rattle.std.specs.Prelude.{◌≡◌, ◌⊎◌, ℕ, codes, List, None, Some, ⊤}
use Rattle.mp_tree.specs.Document.{Document}
use Rattle.mp_tree.specs.Look.{at_name}
use Rattle.mp_pointer.specs.Spelling.{Tokens, spell}
use Rattle.mp_patch.specs.Form.{IsFaulty, IsNoPointer, HasOp, Need, path_alone, a_value, an_origin, NamesOp}
use Rattle.mp_patch.specs.Form.{text_at}
use Rattle.mp_patch.specs.declared.fault.FormCause.TheVariants.{NotAnObject, NoOp, UnknownOp, NoPath, NoFrom}
use Rattle.mp_patch.specs.declared.fault.FormCause.TheVariants.{BadPointer, NoValue}
use Rattle.mp_patch.specs.declared.fault.FormCause.{FormCause}
use Rattle.mp_patch.specs.declared.fault.Refusal.{Refusal}
use Rattle.mp_patch.specs.declared.fault.Refusal.TheVariants.{By, OutOfMemory}

-- out of memory says nothing
abbrev pub IsElementFault : Refusal FormCause → Document → Type 0
IsElementFault (By cause) d = IsFaulty cause d
IsElementFault OutOfMemory d = ⊤

-- ---- what the reading of an object has found if it gives the object up

-- the path is not a pointer, or the origin, if there is one
abbrev pub FindsNoPointer : Need → List ℕ → Document → Type 0
FindsNoPointer path_alone path d = IsNoPointer path
FindsNoPointer a_value path d = IsNoPointer path
FindsNoPointer an_origin path d =
    (origin : List ℕ) × (text_at (codes "from") d ≡ Some origin) × (IsNoPointer path ⊎ IsNoPointer origin)

abbrev pub IsMapFault : Refusal FormCause → Document → Type 0
IsMapFault (By NotAnObject) d = ⊥
IsMapFault (By NoOp) d = text_at (codes "op") d ≡ None
IsMapFault (By UnknownOp) d =
    (name : List ℕ) × (text_at (codes "op") d ≡ Some name) × ((need : Need) → ¬ NamesOp need name)
IsMapFault (By NoPath) d = (need : Need) × HasOp need d × (text_at (codes "path") d ≡ None)
IsMapFault (By NoFrom) d =
    HasOp an_origin d
    × (path : List ℕ)
    × (text_at (codes "path") d ≡ Some path)
    × (text_at (codes "from") d ≡ None)
IsMapFault (By BadPointer) d =
    (need : Need)
    × HasOp need d
    × (path : List ℕ)
    × (text_at (codes "path") d ≡ Some path)
    × FindsNoPointer need path d
IsMapFault (By NoValue) d =
    HasOp a_value d
    × (t : Tokens)
    × (text_at (codes "path") d ≡ Some (spell t))
    × (at_name (codes "value") d ≡ None)
IsMapFault OutOfMemory d = ⊤

-- the text spells no pointer
abbrev pub IsTextFault : Refusal FormCause → List ℕ → Type 0
IsTextFault (By BadPointer) text = IsNoPointer text
IsTextFault (By cause) text = ⊥
IsTextFault OutOfMemory text = ⊤

-- there is no origin, or one of the two spells no pointer
abbrev pub IsOriginFault : Refusal FormCause → List ℕ → Document → Type 0
IsOriginFault (By NoFrom) path d = text_at (codes "from") d ≡ None
IsOriginFault (By BadPointer) path d = FindsNoPointer an_origin path d
IsOriginFault (By cause) path d = ⊥
IsOriginFault OutOfMemory path d = ⊤

-- there is no value
abbrev pub IsValueFault : Refusal FormCause → Document → Type 0
IsValueFault (By NoValue) d = at_name (codes "value") d ≡ None
IsValueFault (By cause) d = ⊥
IsValueFault OutOfMemory d = ⊤
