use Rattle.mp_c.proofs.laws.place_laws.Goals as goal

pub returns : goal.returns
returns c = record {
  one_place = c.fault_places.ensures.one;
  place_or_none = c.fault_places.ensures.some_or_none;
  none_is_none = c.fault_places.ensures.not_both;
  these_shown = c.places_are_shown.ensures.these;
  some_shown = c.places_are_shown.ensures.some;
}
