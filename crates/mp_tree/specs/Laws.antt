-- Laws over documents alone. Each is the contract of a function of the module `laws` that runs nothing.
use Rattle.std.specs.Prelude.{◌≡◌, ◌≢◌, ◌≤◌, ◌↔◌, ℕ, List, map, true, None, Some, Ok, Err, IsUtf8}
use Rattle.std.specs.List.{All}
use Rattle.serde_json.specs.declared.value.Value.{Value}
use Rattle.serde_json.specs.Read.{max_depth}
use Rattle.mp_tree.specs.Arrays.{IsArrayOf}
use Rattle.mp_tree.specs.ByName.{by_name}
use Rattle.mp_tree.specs.Document.{Document, Items, Members, IsDocument, IsMap, HasTexts, IsInRange, IsReadable}
use Rattle.mp_tree.specs.Document.{depth, depth_limit, find, is_name, put, without}
use Rattle.mp_tree.specs.Elements.{items_of, list_of}
use Rattle.mp_tree.specs.Look.{Path, look}
use Rattle.mp_tree.specs.Text.{document_in, documents_in, read, text}
use Rattle.mp_tree.specs.Values.{value_document}
use Rattle.mp_tree.specs.View.{document, number_of}
use Rattle.mp_tree.specs.declared.doc.Doc.{Doc}
use Rattle.mp_tree.specs.declared.fault.DocsFault.TheVariants as elements_fault
use Rattle.mp_tree.specs.declared.fault.ReadFault.TheVariants as fault
use Rattle.mp_tree.specs.declared.whole.Whole.{Whole}

-- each `Doc` means a document: its objects have their names once and in order, its texts are UTF-8, its numbers are within
-- the number rule
abbrev pub DocsAreDocuments : Type 0
DocsAreDocuments = (d : Doc) → IsDocument (document d) × HasTexts (document d) × IsInRange (document d)

-- so does each value of `serde_json`, where a number that is not within the number rule means 0
abbrev pub ValuesAreDocuments : Type 0
ValuesAreDocuments =
    (v : Value) → IsDocument (value_document v) × HasTexts (value_document v) × IsInRange (value_document v)

-- ---- texts

-- what is read can be read
abbrev pub ReadsReadable : Type 0
ReadsReadable = (bytes : List ℕ) (d : Document) → document_in bytes ≡ Ok d → IsReadable d

-- and so can each element of an array that is read
abbrev pub ReadsReadables : Type 0
ReadsReadables = (bytes : List ℕ) (ds : Items) → documents_in bytes ≡ Ok ds → All IsReadable (list_of ds)

-- out of memory is no error of the bytes
abbrev pub FaultsAreOfBytes : Type 0
FaultsAreOfBytes = (bytes : List ℕ) → document_in bytes ≢ Err fault.OutOfMemory

-- nor of an array's
abbrev pub FaultsAreOfArrays : Type 0
FaultsAreOfArrays = (bytes : List ℕ) → documents_in bytes ≢ Err elements_fault.OutOfMemory

-- what is written is read back
abbrev pub ReadsBack : Type 0
ReadsBack = (d : Document) → IsReadable d → read (text d) ≡ Some d

-- so are the elements of an array of texts, with white space around each
abbrev pub ArraysReadBack : Type 0
ArraysReadBack = (ds : List Document) (bytes : List ℕ) → All IsReadable ds → IsArrayOf (map text ds) bytes
    → documents_in bytes ≡ Ok (items_of ds)

-- that the texts within are UTF-8 is asked of what is written alone, as a `String` is
abbrev pub ReadsUtf8Back : Type 0
ReadsUtf8Back = (d : Document) → IsDocument d → IsInRange d → depth d ≤ depth_limit → IsUtf8 (text d)
    → read (text d) ≡ Some d

-- if the members of an object stand in any order, some names more than once, the document is read that has them by name; what
-- is read nests at most 127 deep
abbrev pub ReadsAnyOrder : Type 0
ReadsAnyOrder = (d : Document) → IsInRange d → HasTexts d → depth d ≤ max_depth → read (text d) ≡ Some (by_name d)

-- here too it is enough that what is written is UTF-8
abbrev pub ReadsUtf8AnyOrder : Type 0
ReadsUtf8AnyOrder = (d : Document) → IsInRange d → depth d ≤ max_depth → IsUtf8 (text d)
    → read (text d) ≡ Some (by_name d)

-- that document has its names once and in order
abbrev pub ByNameIsDocument : Type 0
ByNameIsDocument = (d : Document) → IsDocument (by_name d)

-- and a document, whose names are so already, is the same by name
abbrev pub DocumentIsByName : Type 0
DocumentIsByName = (d : Document) → IsDocument d → by_name d ≡ d

-- two documents that can be read are equal exactly if their texts are
abbrev pub EqualTexts : Type 0
EqualTexts = (d e : Document) → IsReadable d → IsReadable e → (d ≡ e) ↔ (text d ≡ text e)

-- ---- looks and numbers

-- the looks at every path decide what a document is
abbrev pub EqualLooks : Type 0
EqualLooks = (d e : Document) → IsDocument d → IsDocument e → (d ≡ e) ↔ ((w : Path) → look d w ≡ look e w)

-- equal numbers are equal values, whether they were made from an `i64` or from a `u64`
abbrev pub EqualNumbers : Type 0
EqualNumbers = (m n : Whole) → number_of m ≡ number_of n → m ≡ n

-- ---- objects

-- names are the same name exactly if they are equal
abbrev pub SameNames : Type 0
SameNames = (n m : List ℕ) → (is_name n m ≡ true) ↔ (n ≡ m)

-- an object with n set to d: an object that has d at n, and at each other name what was there
abbrev pub SetsOneName : Type 0
SetsOneName =
    (n : List ℕ) (d : Document) (ms : Members) → IsDocument d → IsMap ms
    → IsMap (put n d ms) × (find n (put n d ms) ≡ Some d) × ((m : List ℕ) → m ≢ n → find m (put n d ms) ≡ find m ms)

-- an object without n: an object that has nothing at n, and at each other name what was there
abbrev pub RemovesOneName : Type 0
RemovesOneName =
    (n : List ℕ) (ms : Members) → IsMap ms
    → IsMap (without n ms) × (find n (without n ms) ≡ None) × ((m : List ℕ) → m ≢ n → find m (without n ms) ≡ find m ms)

-- objects are equal exactly if they have the same at each name
abbrev pub EqualMaps : Type 0
EqualMaps = (ms es : Members) → IsMap ms → IsMap es → (ms ≡ es) ↔ ((n : List ℕ) → find n ms ≡ find n es)
