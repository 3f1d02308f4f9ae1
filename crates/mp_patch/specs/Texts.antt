-- The causes in words, as a line of the program has them.
use Rattle.std.specs.Prelude.{ℕ, List, codes}
use Rattle.mp_patch.specs.declared.fault.Cause.{Cause}
use Rattle.mp_patch.specs.declared.fault.Cause.TheVariants.{IntoItself, RemoveRoot, Missing, NoPlace, TooDeep}
use Rattle.mp_patch.specs.declared.fault.Cause.TheVariants.{TestFailed}
use Rattle.mp_patch.specs.declared.fault.FormCause.{FormCause}
use Rattle.mp_patch.specs.declared.fault.FormCause.TheVariants.{NotAnObject, NoOp, UnknownOp, NoPath, NoFrom}
use Rattle.mp_patch.specs.declared.fault.FormCause.TheVariants.{BadPointer, NoValue}

-- why an element of a document is not an operation
abbrev pub form_text : FormCause → List ℕ
form_text NotAnObject = codes "not an object"
form_text NoOp = codes "no op"
form_text UnknownOp = codes "unknown op"
form_text NoPath = codes "no path"
form_text NoFrom = codes "no from"
form_text BadPointer = codes "bad pointer"
form_text NoValue = codes "no value"

-- why an operation is refused
abbrev pub cause_text : Cause → List ℕ
cause_text IntoItself = codes "into itself"
cause_text RemoveRoot = codes "remove of root"
cause_text Missing = codes "missing"
cause_text NoPlace = codes "no place"
cause_text TooDeep = codes "too deep"
cause_text TestFailed = codes "test failed"
