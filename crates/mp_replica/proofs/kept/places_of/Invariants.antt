use Rattle.std.proofs.Common.{◌≡◌, map, take}
use Rattle.mp_tree.specs.View.{document}
use Rattle.mp_texts.specs.Answers.{place_of}
use Rattle.mp_replica.proofs.kept.places_of.Given as goal

-- the spellings so far are those of the places
abbrev pub invariant-loop-spelling : goal.invariant-loop-spelling
invariant-loop-spelling l = map document (take l.spelling-index l.fn.spellings) ≡ map place_of l.places.items
