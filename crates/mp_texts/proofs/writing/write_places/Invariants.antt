use Rattle.std.proofs.Common.{◌≡◌, map, take}
use Rattle.mp_tree.specs.View.{document}
use Rattle.mp_texts.specs.Answers.{place_of}
use Rattle.mp_texts.proofs.writing.write_places.Given as goal

-- the spellings so far
abbrev pub invariant-loop-place : goal.invariant-loop-place
invariant-loop-place l = map document l.spellings.items ≡ map place_of (take l.place-index l.fn.places)
