-- What an operation needs to be written and read back.
use Rattle.std.specs.Prelude.{IsUtf8}
use Rattle.std.specs.List.{All}
use Rattle.mp_tree.specs.Document.{IsReadable}
use Rattle.mp_pointer.specs.Spelling.{Tokens}
use Rattle.mp_patch.specs.Operation.{Operation, add, remove, replace, move, copy, test}

-- each token is UTF-8
abbrev pub AreTexts : Tokens → Type 0
AreTexts t = All IsUtf8 t

-- so are its tokens, and its value can be read, if it has one
abbrev pub IsWritable : Operation → Type 0
IsWritable (add t v) = AreTexts t × IsReadable v
IsWritable (remove t) = AreTexts t
IsWritable (replace t v) = AreTexts t × IsReadable v
IsWritable (move f t) = AreTexts f × AreTexts t
IsWritable (copy f t) = AreTexts f × AreTexts t
IsWritable (test t v) = AreTexts t × IsReadable v
