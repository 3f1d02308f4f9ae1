-- The types that a `Doc` holds, as the logic holds them, for the clauses on what a `&mut` borrows.
use denote.RattleType.{RattleType}
use Rattle.std.specs.contracts.alloc.Global as global
use Rattle.std.specs.contracts.vec.Vec as vec
use Rattle.std.specs.contracts.string.String as text
use Rattle.std.specs.contracts.collections.BTreeMap as tree
use Rattle.std.specs.contracts.impls.GlobalAllocator.TheImpl.{ghosts}
use Rattle.std.specs.contracts.impls.StringOrd.TheImpl as ord
use Rattle.std.specs.contracts.impls.StringPartialEq.TheImpl as eq
use Rattle.std.specs.contracts.impls.StringPartialOrd.TheImpl as partial_ord
use Rattle.mp_tree.specs.contracts.doc.Doc.{the_row}

-- of a list of elements of a type, and of a map from texts to values of a type
abbrev pub list_row_of : RattleType → RattleType
list_row_of row = vec.the_row row global.the_row ghosts

abbrev pub map_row_of : RattleType → RattleType
map_row_of row =
    tree.the_row (text.the_row global.the_row ghosts) row global.the_row
    (ord.ghosts global.the_row ghosts ord.no_dict ord.no_dict)
    (eq.ghosts global.the_row ghosts eq.no_dict eq.no_dict)
    (partial_ord.ghosts global.the_row ghosts partial_ord.no_dict partial_ord.no_dict) ghosts

-- of a document, of a list's elements, and of a map's entries
abbrev pub doc_row : RattleType
doc_row = the_row

abbrev pub items_row : RattleType
items_row = list_row_of the_row

abbrev pub members_row : RattleType
members_row = map_row_of the_row
