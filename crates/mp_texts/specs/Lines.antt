-- The line that says why there is no result, without a newline: the program prints it, and a reply of the library for C has it.
use Rattle.std.specs.Prelude.{ℕ, zero, suc, List, [], ◌∷◌, ◌++◌, codes, Option, None, Some}
use Rattle.std.specs.List.{flat_map}
use Rattle.mp_tree.specs.Document.{string}
use Rattle.mp_tree.specs.Text.{text as compact}
use Rattle.mp_tree.specs.declared.fault.ReadFault.{ReadFault}
use Rattle.mp_tree.specs.declared.fault.ReadFault.TheVariants as read
use Rattle.mp_pointer.specs.Part.{numeral}
use Rattle.mp_pointer.specs.Spelling.{Tokens, spell}
use Rattle.mp_pointer.specs.declared.fault.PointerFault.{PointerFault}
use Rattle.mp_pointer.specs.declared.fault.PointerFault.TheVariants as pointer
use Rattle.mp_patch.specs.Texts.{cause_text, form_text}
use Rattle.mp_patch.specs.declared.fault.ApplyFault.{ApplyFault}
use Rattle.mp_patch.specs.declared.fault.ApplyFault.TheVariants as apply
use Rattle.mp_patch.specs.declared.fault.FormFault.{FormFault}
use Rattle.mp_patch.specs.declared.fault.FormFault.TheVariants as form
use Rattle.mp_merge.specs.declared.comparing.Conflicts.{Conflicts}
use Rattle.mp_merge.specs.declared.fault.ListFault.{ListFault}
use Rattle.mp_merge.specs.declared.fault.ListFault.TheVariants as list
use Rattle.mp_texts.specs.declared.fault.TextsFault.{TextsFault}
use Rattle.mp_texts.specs.declared.fault.TextsFault.TheVariants as texts

-- ---- places

-- a pointer as a JSON string
abbrev pub pointer_text : Tokens → List ℕ
pointer_text w = compact (string (spell w))

-- pointers in their order, with a comma and one space between two
abbrev pub pointers_text : List Tokens → List ℕ
pointers_text [] = []
pointers_text (w ∷ ws) = pointer_text w ++ flat_map (λ u. codes ", " ++ pointer_text u) ws

-- after some places, how many more there are; without a number that there are more
abbrev pub and_rest : Option ℕ → List ℕ
and_rest None = codes " and more"
and_rest (Some zero) = []
and_rest (Some rest) = codes " and " ++ numeral rest ++ codes " more"

-- without a place, how many there are, if that is known
abbrev pub at_count : Option ℕ → List ℕ
at_count None = []
at_count (Some (suc zero)) = codes " at 1 place"
at_count (Some count) = codes " at " ++ numeral count ++ codes " places"

-- where two patches conflict: the first places, and how many more there are
abbrev pub at_places : List Tokens → Option ℕ → List ℕ
at_places [] rest = at_count rest
at_places (w ∷ ws) rest = codes " at " ++ pointers_text (w ∷ ws) ++ and_rest rest

-- ---- conflicts

-- two patches, by their numbers if they have any
abbrev pub which_patches : Option (ℕ × ℕ) → List ℕ
which_patches None = codes "two patches"
which_patches (Some numbers) = codes "patches " ++ numeral numbers.0 ++ codes " and " ++ numeral numbers.1

abbrev pub conflict_text : Option (ℕ × ℕ) → List Tokens → Option ℕ → List ℕ
conflict_text numbers places rest = codes "conflict: " ++ which_patches numbers ++ at_places places rest

-- ---- the line of each error

abbrev pub out_of_memory : List ℕ
out_of_memory = codes "out of memory"

abbrev pub missing : List ℕ
missing = codes "missing"

abbrev pub too_large : List ℕ
too_large = codes "too large"

-- why a text is no document, in words
abbrev pub read_text : ReadFault → List ℕ
read_text read.NotJson = codes "not JSON"
read_text read.NotWhole = codes "number not whole"
read_text read.TooDeep = codes "too deep"
read_text read.OutOfMemory = out_of_memory

-- an operation by its number, and what is wrong with it
abbrev pub operation_text : ℕ → List ℕ → List ℕ
operation_text number words = codes "operation " ++ numeral number ++ codes ": " ++ words

-- a list of patches; where two of them conflict follows
abbrev pub list_text : ListFault Conflicts → List ℕ
list_text list.NoPatches = codes "no patches"
list_text (list.ConflictOf first second conflicts) = codes "conflict: " ++ which_patches (Some (first, second))
list_text list.OutOfMemory = out_of_memory

abbrev pub form_line : FormFault → List ℕ
form_line form.NotAnArray = codes "not an array"
form_line (form.Form number cause) = operation_text number (form_text cause)
form_line form.OutOfMemory = out_of_memory

abbrev pub apply_line : ApplyFault → List ℕ
apply_line (apply.Refused number cause) = operation_text number (cause_text cause)
apply_line apply.OutOfMemory = out_of_memory

abbrev pub pointer_line : PointerFault → List ℕ
pointer_line pointer.NoSlash = codes "pointer: no slash"
pointer_line (pointer.BadTilde offset) = codes "pointer: bad tilde at " ++ numeral offset
pointer_line pointer.OutOfMemory = out_of_memory

-- what is said of an error, without its places
abbrev pub texts_line : TextsFault → List ℕ
texts_line (texts.Document why) = codes "document: " ++ read_text why
texts_line (texts.Patch number why) = codes "patch " ++ numeral number ++ codes ": " ++ read_text why
texts_line (texts.List why) = list_text why
texts_line (texts.Form why) = form_line why
texts_line (texts.Refused why) = apply_line why
texts_line (texts.Pointer why) = pointer_line why
texts_line texts.Missing = missing
texts_line (texts.TooLarge number) = too_large
texts_line texts.OutOfMemory = out_of_memory

-- ---- where a text is no document

-- the line of that error, and after it the place of the value for which it is none, if there is one
abbrev pub placed_line : List ℕ → Option Tokens → List ℕ
placed_line line None = line
placed_line line (Some w) = line ++ codes " at " ++ pointer_text w
