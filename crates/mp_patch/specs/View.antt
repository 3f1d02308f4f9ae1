-- The operation that an `Op` means.
use Rattle.std.specs.Prelude.{List, map}
use Rattle.mp_tree.specs.Document.{Document}
use Rattle.mp_tree.specs.View.{document}
use Rattle.mp_tree.specs.declared.doc.Doc.{Doc}
use Rattle.mp_patch.specs.Operation.{Operation, add, remove, replace, move, copy, test}
use Rattle.mp_patch.specs.declared.op.Op.{Op}
use Rattle.mp_patch.specs.declared.op.Op.TheVariants as op

-- its value as the document that it means by f
abbrev pub operation_by : {T : Type 0} → (T → Document) → Op T → Operation
operation_by f (op.Add path value) = add path (f value)
operation_by f (op.Remove path) = remove path
operation_by f (op.Replace path value) = replace path (f value)
operation_by f (op.Move origin path) = move origin path
operation_by f (op.Copy origin path) = copy origin path
operation_by f (op.Test path value) = test path (f value)

abbrev pub operations_by : {T : Type 0} → (T → Document) → List (Op T) → List Operation
operations_by f ops = map (operation_by f) ops

abbrev pub operation_of : Op Doc → Operation
operation_of = operation_by document

abbrev pub operations_of : List (Op Doc) → List Operation
operations_of ops = map operation_of ops
