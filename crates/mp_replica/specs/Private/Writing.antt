-- That a text is not handed out, and how far a pair is written before its places. Only private clauses cite it.
use Rattle.std.specs.Prelude.{◌<◌, ◌++◌, ℕ, List, codes, length, ⊤}
use Rattle.mp_tree.specs.Text.{text as compact}
use Rattle.mp_replica.specs.LogTexts.{identity_document}
use Rattle.mp_replica.specs.PatchLog.{Pair}
use Rattle.mp_replica.specs.declared.fault.LiveFault.{LiveFault}
use Rattle.mp_replica.specs.declared.fault.LiveFault.TheVariants.{TooLarge, OutOfMemory}

-- it has more bytes than the caller allows, or memory ran out
abbrev pub IsNotWritten : ℕ → LiveFault → List ℕ → Type 0
IsNotWritten limit TooLarge text = limit < length text
IsNotWritten limit OutOfMemory text = ⊤
IsNotWritten limit other text = ⊥

-- the text of a pair as far as its places
abbrev pub pair_head : Pair → List ℕ
pair_head pair =
    codes "{\"first\":" ++ compact (identity_document pair.first) ++ codes ",\"second\":"
    ++ compact (identity_document pair.second) ++ codes ",\"places\":"
