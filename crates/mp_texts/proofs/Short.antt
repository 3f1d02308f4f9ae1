-- The answer of a call, if its text is no longer than the limit: the text is that of a document or of a JSON Patch.
use Rattle.std.proofs.Common.{◌≡◌, ◌<◌, ◌≤◌, ◌⊎◌, inl, inr, ℕ, List, length, Result, Ok, Err, MatchResult, String, Global, string_bytes, sym, subst}
use Rattle.mp_texts.specs.Answers.{IsTooLong, Within}
use Rattle.mp_texts.specs.declared.fault.TextsFault.{TextsFault}
use Rattle.mp_texts.specs.declared.fault.TextsFault.TheVariants.{OutOfMemory, TooLarge}

pub answered : (limit : ℕ) (r : Result (String Global) TextsFault) (bytes : List ℕ) (IsAnswer : List ℕ → Type 0) (IsFault : TextsFault → Type 0)
    → MatchResult r (λ answer. (string_bytes answer ≡ bytes) × (length bytes ≤ limit)) (λ fault. (fault ≡ OutOfMemory) ⊎ ((fault ≡ TooLarge 0) × (limit < length bytes)))
    → IsAnswer bytes → (IsTooLong limit IsAnswer → IsFault (TooLarge 0)) → IsFault OutOfMemory → MatchResult r (λ answer. Within limit IsAnswer (string_bytes answer)) IsFault
answered limit (Ok answer) bytes IsAnswer IsFault said is long none = subst (λ t. Within limit IsAnswer t) (sym said.0) (is, said.1)
answered limit (Err fault) bytes IsAnswer IsFault (inl is) answers long none = subst IsFault (sym is) none
answered limit (Err fault) bytes IsAnswer IsFault (inr said) answers long none = subst IsFault (sym said.0) (long (bytes, answers, said.1))
