-- The document of a node, from what it is at its top.
use Rattle.mp_tree.specs.Document.{Document, null, flag, whole, string, list, object}
use Rattle.mp_tree.specs.View.{items_by, members_by, number_of}
use Rattle.mp_tree.specs.declared.node_kind.NodeKind.{NodeKind}
use Rattle.mp_tree.specs.declared.node_kind.NodeKind.TheVariants.{Null, Flag, Whole, Text, Items, Members}

-- where each part means a document by f
abbrev pub kind_document : {V : Type 0} → (V → Document) → NodeKind V → Document
kind_document f Null = null
kind_document f (Flag b) = flag b
kind_document f (Whole n) = whole (number_of n)
kind_document f (Text s) = string s.now
kind_document f (Items v) = list (items_by f v.now.items)
kind_document f (Members m) = object (members_by f m.now.entries)
