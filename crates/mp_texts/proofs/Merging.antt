-- Patches that are applied in turn leave what can be read.
use Rattle.std.proofs.Common.{List, [], ◌∷◌, Some}
use Rattle.std.proofs.lemmas.List.Elements.{All-head, All-tail}
use Rattle.std.specs.List.{All}
use Rattle.mp_tree.specs.Document.{Document, IsReadable}
use Rattle.mp_merge.specs.Application.{in_turn, merge_patch}
use Rattle.mp_merge.specs.Laws.{MergedIsReadable}

pub in_turn-readable : MergedIsReadable → (d : Document) (ps : List Document) → IsReadable d → All IsReadable ps → IsReadable (in_turn d ps)
in_turn-readable keeps d [] good all = good
in_turn-readable keeps d (p ∷ ps) good all =
    in_turn-readable keeps (merge_patch (Some d) p) ps (keeps d p good (All-head IsReadable p ps all)) (All-tail IsReadable p ps all)
