use Rattle.mp_texts.proofs.FirstFaults.{fault_has_place, has_place_or_none, no_place_is_none, one_fault_place}
use Rattle.mp_texts.proofs.laws.fault_places.Goals as goal

pub returns-clause-exists : goal.returns-clause-exists
returns-clause-exists c = fault_has_place

pub returns-clause-one : goal.returns-clause-one
returns-clause-one c = one_fault_place

pub returns-clause-some_or_none : goal.returns-clause-some_or_none
returns-clause-some_or_none c = has_place_or_none

pub returns-clause-not_both : goal.returns-clause-not_both
returns-clause-not_both c = no_place_is_none
