-- The weight of an operation in bytes: that of its places and of its value.
use Rattle.std.specs.Prelude.{◌+◌, ℕ, List, [], ◌∷◌}
use Rattle.mp_tree.specs.Weight.{weight}
use Rattle.mp_pointer.specs.Weight.{place_weight}
use Rattle.mp_patch.specs.Operation.{Operation, add, remove, replace, move, copy, test}

abbrev pub operation_weight : Operation → ℕ
operation_weight (add t v) = place_weight t + weight v
operation_weight (remove t) = place_weight t
operation_weight (replace t v) = place_weight t + weight v
operation_weight (move f t) = place_weight f + place_weight t
operation_weight (copy f t) = place_weight f + place_weight t
operation_weight (test t v) = place_weight t + weight v

-- of several operations, together
abbrev pub operations_weight : List Operation → ℕ
operations_weight [] = 0
operations_weight (o ∷ os) = operation_weight o + operations_weight os
