use Rattle.mp_texts.proofs.Listed.{some_are_shown, these_are_shown}
use Rattle.mp_texts.proofs.laws.places_are_shown.Goals as goal

pub returns-clause-some : goal.returns-clause-some
returns-clause-some c = some_are_shown

pub returns-clause-these : goal.returns-clause-these
returns-clause-these c = these_are_shown
