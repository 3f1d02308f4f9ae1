use Rattle.std.proofs.Common.{◌≡◌, ◌≤◌, Some, arith}
use Rattle.serde_json.specs.View.{view}
use Rattle.mp_tree.specs.Document.{depth}
use Rattle.mp_tree.specs.Text.{from_data}
use Rattle.mp_tree.specs.Values.{value_document}
use Rattle.mp_tree.proofs.Readings.Values.{depth-from}
use Rattle.mp_tree.proofs.value_reading.read_tree.Goals as goal
use Rattle.mp_tree.proofs.value_reading.read_tree.Goals.{in-Fits, in-TooDeep}

pub returns-clause-nests : goal.returns-clause-nests
returns-clause-nests c =
    let v = c.in_ok-value.value in
    let read : from_data (view v) ≡ Some (value_document v) = elim c.match-reading_of.branch [ in-Fits w ↦ w.in-Fits.ensures.0 | in-TooDeep w ↦ w.in-TooDeep.ensures.0 ] in
    let before : depth (value_document v) ≤ 127 = omega (arith, depth-from (view v) (value_document v) read, c.in_ok-value.ensures.nests) in
    rw c.trim.ensures before
