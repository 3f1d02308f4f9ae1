-- The elements of an array: as many, at an index, one after another.
use Rattle.std.specs.Prelude.{ℕ, zero, suc, List, [], ◌∷◌, Option, None, Some}
use Rattle.mp_tree.specs.Document.{Document, Items, no_items, item}

-- the elements of a list of documents
abbrev pub items_of : List Document → Items
items_of [] = no_items
items_of (d ∷ ds) = item d (items_of ds)

-- the documents that they are, as a list
abbrev pub list_of : Items → List Document
list_of no_items = []
list_of (item d ds) = d ∷ list_of ds

-- how many there are
abbrev pub count_of : Items → ℕ
count_of no_items = 0
count_of (item d ds) = suc (count_of ds)

-- the element at an index, if the first is 0
abbrev pub nth : ℕ → Items → Option Document
nth i no_items = None
nth zero (item d ds) = Some d
nth (suc i) (item d ds) = nth i ds

-- the elements of the front and then those of the back
abbrev pub append : Items → Items → Items
append no_items back = back
append (item d front) back = item d (append front back)
