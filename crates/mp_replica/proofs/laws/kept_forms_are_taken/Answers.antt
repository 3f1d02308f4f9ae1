use Rattle.mp_replica.proofs.KeptPlaces.{held_were_taken, places_are_kept}
use Rattle.mp_replica.proofs.laws.kept_forms_are_taken.Goals as goal

pub returns-clause-kept : goal.returns-clause-kept
returns-clause-kept c = places_are_kept

pub returns-clause-taken : goal.returns-clause-taken
returns-clause-taken c = held_were_taken c.merge_laws.ensures
