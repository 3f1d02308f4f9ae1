-- The depth of a list of spellings.
use Rattle.std.proofs.Common.{◌≡◌, ◌≤◌, List, [], ◌∷◌, map, refl, arith}
use Rattle.mp_tree.specs.Document.{depth, depth_limit, items_depth}
use Rattle.mp_tree.specs.Elements.{items_of}
use Rattle.mp_pointer.specs.Spelling.{Tokens}
use Rattle.mp_texts.specs.Answers.{place_of, places_list}

no_depth : (places : List Tokens) → items_depth (items_of (map place_of places)) ≡ 0
no_depth [] = refl
no_depth (place ∷ places) = omega (arith, no_depth places)

pub places_depth : (places : List Tokens) → depth (places_list places) ≤ depth_limit
places_depth places = omega (arith, no_depth places)
