-- What is read gives no error that is the machine's.
use Rattle.std.proofs.Common.{◌≢◌, Bool, true, false, if◌then◌else◌, nat_le, Option, None, Some, Ok, Err}
use Rattle.serde_json.specs.Data.{Data}
use Rattle.mp_tree.specs.Document.{Document, null, depth, depth_limit}
use Rattle.mp_tree.specs.Laws.{FaultsAreOfBytes, FaultsAreOfArrays}
use Rattle.mp_tree.specs.Text.{from_data, data_in, elements, whole_or_fault, json_or_fault, whole_document, json_document}
use Rattle.mp_tree.specs.declared.fault.DocsFault.TheVariants as elements_fault
use Rattle.mp_tree.specs.declared.fault.ReadFault.TheVariants as fault

of_shallow : (d : Document) (within : Bool) → (if within then Ok d else Err fault.TooDeep) ≢ Err fault.OutOfMemory
of_shallow d true = λ memory. cc
of_shallow d false = λ memory. cc

of_document : (d : Option Document) → whole_document d ≢ Err fault.OutOfMemory
of_document None = λ memory. cc
of_document (Some d) = of_shallow d (nat_le (depth d) depth_limit)

of_reading : (d : Option Data) → json_document d ≢ Err fault.OutOfMemory
of_reading None = λ memory. cc
of_reading (Some d) = of_document (from_data d)

pub faults_are_of_bytes : FaultsAreOfBytes
faults_are_of_bytes bytes = of_reading (data_in bytes)

of_elements : (d : Document) → elements d ≢ Err elements_fault.OutOfMemory
of_elements null = λ memory. cc
of_elements other = λ memory. cc

of_whole : (d : Option Document) → whole_or_fault d ≢ Err elements_fault.OutOfMemory
of_whole None = λ memory. cc
of_whole (Some d) = of_elements d

of_array : (d : Option Data) → json_or_fault d ≢ Err elements_fault.OutOfMemory
of_array None = λ memory. cc
of_array (Some d) = of_whole (from_data d)

pub faults_are_of_arrays : FaultsAreOfArrays
faults_are_of_arrays bytes = of_array (data_in bytes)
