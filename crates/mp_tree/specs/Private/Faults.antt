-- The error that is answered if a reading fails. Only private clauses cite it.
use Rattle.mp_tree.specs.declared.converting.Unread.{Unread}
use Rattle.mp_tree.specs.declared.converting.Unread.TheVariants as unread
use Rattle.mp_tree.specs.declared.fault.DocsFault.{DocsFault}
use Rattle.mp_tree.specs.declared.fault.DocsFault.TheVariants.{NotJson, NotWhole, OutOfMemory}
use Rattle.mp_tree.specs.declared.fault.ReadFault.{ReadFault}
use Rattle.mp_tree.specs.declared.fault.ReadFault.TheVariants as fault

-- of a list of documents
abbrev pub docs_fault : Unread → DocsFault
docs_fault unread.NotJson = NotJson
docs_fault unread.NotWhole = NotWhole
docs_fault unread.OutOfMemory = OutOfMemory

-- of one document
abbrev pub read_fault : Unread → ReadFault
read_fault unread.NotJson = fault.NotJson
read_fault unread.NotWhole = fault.NotWhole
read_fault unread.OutOfMemory = fault.OutOfMemory
