-- The names of operations. Only private clauses cite it.
use Rattle.std.specs.Prelude.{ℕ, List, codes}
use Rattle.mp_patch.specs.declared.name.OpName.{OpName}
use Rattle.mp_patch.specs.declared.name.OpName.TheVariants as op

abbrev pub name_of : OpName → List ℕ
name_of op.Add = codes "add"
name_of op.Remove = codes "remove"
name_of op.Replace = codes "replace"
name_of op.Move = codes "move"
name_of op.Copy = codes "copy"
name_of op.Test = codes "test"
