use Rattle.mp_tree.proofs.Readings.Faults.{faults_are_of_bytes, faults_are_of_arrays}
use Rattle.mp_tree.proofs.laws.bytes_have_faults.Goals as goal

pub returns : goal.returns
returns c = record { document = faults_are_of_bytes; elements = faults_are_of_arrays }
