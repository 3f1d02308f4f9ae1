-- The laws of the crates below that those over replies rest on. Only private clauses cite it.
use Rattle.mp_tree.specs.Laws.{FaultsAreOfBytes}
use Rattle.mp_texts.specs.Laws.{CallHasAnswer, CallHasOneAnswer, FaultHasOnePlace, FaultsShowTheAnswer, TheseAreShown, HasPlaceOrNone}
use Rattle.mp_texts.specs.Laws.{NoPlaceIsNone, SomeAreShown}

-- of places: each text that is no document has one for its error, or none, and a list of them has one text within a limit
pub record PlaceLaws : Type 0 where
  pub one_place : FaultHasOnePlace
  pub place_or_none : HasPlaceOrNone
  pub none_is_none : NoPlaceIsNone
  pub these_shown : TheseAreShown
  pub some_shown : SomeAreShown

pub record LawsOfTexts : Type 0 where
  pub of_bytes : FaultsAreOfBytes
  pub has_answer : CallHasAnswer
  pub one_answer : CallHasOneAnswer
  pub faults_show : FaultsShowTheAnswer
  pub places : PlaceLaws
