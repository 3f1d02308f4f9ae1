use Rattle.std.proofs.Common.{drop}
use Rattle.serde_json.specs.View.{items_view, members_view}
use Rattle.mp_texts.proofs.FaultPlaces.{ItemsLeft, MembersLeft}
use Rattle.mp_texts.proofs.fault_places.+first_wrong.Given as goal

-- the first that is wrong is among those that are left
abbrev pub invariant-first_item-loop-index : goal.invariant-first_item-loop-index
invariant-first_item-loop-index l = ItemsLeft l.fault l.levels l.index (items_view (drop l.index l.values.items)) (items_view l.values.items)

abbrev pub invariant-first_member-loop-name : goal.invariant-first_member-loop-name
invariant-first_member-loop-name l = MembersLeft l.fault l.levels (members_view l.name-iterator) (members_view l.values.entries)
