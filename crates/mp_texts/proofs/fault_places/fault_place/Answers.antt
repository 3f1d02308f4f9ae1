use Rattle.mp_tree.specs.Document.{depth_limit}
use Rattle.mp_texts.proofs.FaultPlaces.{sound_of_others}
use Rattle.mp_texts.proofs.fault_places.fault_place.Goals as goal

-- of these errors no value is wrong
pub returns-in-NotJson : goal.returns-in-NotJson
returns-in-NotJson c = record { place = λ d read. sound_of_others c.args.fault c.in-NotJson.is depth_limit d }
