-- Members in any order (RFC 8259 section 4): what is read of a text in which the names of an object stand as they come.
use Rattle.mp_tree.specs.Document.{Document, list, object, Items, no_items, item, Members, no_members, member, put}

-- The members of each object by their names, in the order of names: each name once, with its last value.
abbrev mutual
  pub by_name : Document → Document
  by_name (list ds) = list (items_by_name ds)
  by_name (object ms) = object (members_by_name ms no_members)
  by_name scalar = scalar

  pub items_by_name : Items → Items
  items_by_name no_items = no_items
  items_by_name (item d ds) = item (by_name d) (items_by_name ds)

  -- those that were found before, and then each of these put there in turn
  pub members_by_name : Members → Members → Members
  members_by_name no_members found = found
  members_by_name (member n d ms) found = members_by_name ms (put n (by_name d) found)
