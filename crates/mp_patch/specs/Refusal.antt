-- When an operation of a JSON Patch is refused (RFC 6902 sections 4 and 5), and by which cause.
use Rattle.std.specs.Prelude.{◌≡◌, ◌≢◌, ◌+◌, ◌<◌, ℕ, List, [], ◌∷◌, ◌++◌, length, Option, None, Some, ⊤}
use Rattle.mp_tree.specs.Document.{Document, null, flag, whole, string, list, object, depth, depth_limit}
use Rattle.mp_pointer.specs.Part.{part, numeral}
use Rattle.mp_tree.specs.Elements.{count_of}
use Rattle.mp_pointer.specs.Spelling.{Tokens, IsProperPrefix}
use Rattle.mp_patch.specs.First.{Causes, IsFirst}
use Rattle.mp_patch.specs.Operation.{Operation, add, remove, replace, move, copy, test, dash, Removes}
use Rattle.mp_patch.specs.declared.fault.Cause.{Cause}
use Rattle.mp_patch.specs.declared.fault.Cause.TheVariants.{IntoItself, RemoveRoot, Missing, NoPlace, TooDeep}
use Rattle.mp_patch.specs.declared.fault.Cause.TheVariants.{TestFailed}

-- there is nothing at t
abbrev pub IsMissing : Document → Tokens → Type 0
IsMissing d t = part d t ≡ None

-- the token n names no place for a new value there: if there is nothing, in a scalar, or in an array where n is
-- neither `-` nor an index at most its length
abbrev pub LacksPlace : List ℕ → Option Document → Type 0
LacksPlace n None = ⊤
LacksPlace n (Some null) = ⊤
LacksPlace n (Some (flag b)) = ⊤
LacksPlace n (Some (whole z)) = ⊤
LacksPlace n (Some (string s)) = ⊤
LacksPlace n (Some (list ds)) = (n ≢ dash) × ((i : ℕ) → n ≡ numeral i → count_of ds < i)
LacksPlace n (Some (object ms)) = ⊥

-- t is not empty, and its last token names no place in what the tokens before it name
abbrev pub HasNoPlace : Document → Tokens → Type 0
HasNoPlace d t = (s : Tokens) × (n : List ℕ) × (t ≡ s ++ n ∷ []) × LacksPlace n (part d s)

-- the tokens and the depth of the value are together over the limit
abbrev pub IsTooDeep : Tokens → Document → Type 0
IsTooDeep t v = depth_limit < length t + depth v

-- section 4.4: a move to where the part is changes nothing; for another one the place is judged in what the removal
-- leaves
abbrev pub LeavesNoPlace : Document → Tokens → Tokens → Type 0
LeavesNoPlace d f t = (f ≢ t) × (left : Document) × Removes f d left × HasNoPlace left t

-- what is at f is too deep for t
abbrev pub PartIsTooDeep : Document → Tokens → Tokens → Type 0
PartIsTooDeep d f t = (x : Document) × (part d f ≡ Some x) × IsTooDeep t x

-- what can refuse an operation, in the order in which it is judged
abbrev pub causes : Document → Operation → Causes Cause
causes d (add t v) = (NoPlace, HasNoPlace d t) ∷ (TooDeep, IsTooDeep t v) ∷ []
-- to remove the whole document is refused, since the standard does not say what that leaves
causes d (remove t) = (RemoveRoot, t ≡ []) ∷ (Missing, IsMissing d t) ∷ []
causes d (replace t v) = (Missing, IsMissing d t) ∷ (TooDeep, IsTooDeep t v) ∷ []
-- a place cannot be moved into itself, whether or not there is anything
causes d (move f t) =
    (IntoItself, IsProperPrefix f t)
    ∷ (Missing, IsMissing d f)
    ∷ (NoPlace, LeavesNoPlace d f t)
    ∷ (TooDeep, (f ≢ t) × PartIsTooDeep d f t)
    ∷ []
causes d (copy f t) = (Missing, IsMissing d f) ∷ (NoPlace, HasNoPlace d t) ∷ (TooDeep, PartIsTooDeep d f t) ∷ []
-- section 4.6: the part there is another value
causes d (test t v) = (Missing, IsMissing d t) ∷ (TestFailed, part d t ≢ Some v) ∷ []

-- the operation is refused by the first of these that holds
abbrev pub RefusedBy : Document → Operation → Cause → Type 0
RefusedBy d o cause = IsFirst cause (causes d o)
