-- Laws of pointers alone. Each is the contract of a function of the module `laws` that runs nothing.
use Rattle.std.specs.Prelude.{◌≡◌, ◌≢◌, ◌<◌, ◌≤◌, ◌+◌, ◌^◌, ◌⊎◌, ◌↔◌, ℕ, List, length, None, Some, IsTrue, IsUtf8}
use Rattle.std.specs.Fmt.{decimal}
use Rattle.std.specs.List.{All}
use Rattle.mp_tree.specs.Document.{Document, IsDocument, IsReadable, Items, list, depth}
use Rattle.mp_tree.specs.Weight.{weight}
use Rattle.mp_pointer.specs.Difference.{DifferOnlyAt}
use Rattle.mp_pointer.specs.Part.{numeral, child, part}
use Rattle.mp_tree.specs.Elements.{count_of, nth}
use Rattle.mp_pointer.specs.Spelling.{Tokens, spell, IsPointerFault, are_same_tokens}
use Rattle.mp_pointer.specs.declared.fault.PointerFault.{PointerFault}
use Rattle.mp_pointer.specs.declared.fault.PointerFault.TheVariants.{OutOfMemory}

-- `==` of pointers is equality of their tokens
abbrev pub ComparesTokens : Type 0
ComparesTokens = (s t : Tokens) → IsTrue (are_same_tokens s t) ↔ (s ≡ t)

-- different lists of tokens have different spellings (RFC 6901 section 3)
abbrev pub HasOneSpelling : Type 0
HasOneSpelling = (s t : Tokens) → spell s ≡ spell t → s ≡ t

-- a text spells a list of tokens, or has an error (section 3)
abbrev pub SpellsOrIsFaulty : Type 0
SpellsOrIsFaulty = (text : List ℕ)
    → ((t : Tokens) × (text ≡ spell t)) ⊎ ((fault : PointerFault) × (fault ≢ OutOfMemory) × IsPointerFault fault text)

-- and not both
abbrev pub SpellingsHaveNoFault : Type 0
SpellingsHaveNoFault = (t : Tokens) (fault : PointerFault) → IsPointerFault fault (spell t) → fault ≡ OutOfMemory

-- and has one error alone; out of memory is none of a text
abbrev pub HasOnePointerFault : Type 0
HasOnePointerFault = (text : List ℕ) (fault other : PointerFault) → fault ≢ OutOfMemory → other ≢ OutOfMemory
    → IsPointerFault fault text → IsPointerFault other text → fault ≡ other

-- a token spells one index (RFC 6901 section 4)
abbrev pub SpellsOneIndex : Type 0
SpellsOneIndex = (i k : ℕ) → numeral i ≡ numeral k → i ≡ k

-- and that of an index is the number as it is printed
abbrev pub NumeralsArePrinted : Type 0
NumeralsArePrinted = (i : ℕ) → i < 2 ^ 64 → numeral i ≡ decimal i

-- in an array, the token that spells an index names the element at that place,
-- and from the array's length on nothing (RFC 6901 section 4)
abbrev pub NamesElements : Type 0
NamesElements = (i : ℕ) (ds : Items)
    → (child (numeral i) (list ds) ≡ nth i ds) × (count_of ds ≤ i → child (numeral i) (list ds) ≡ None)

-- and a token that spells no index names nothing in it
abbrev pub NamesNothingElse : Type 0
NamesNothingElse = (token : List ℕ) (ds : Items) → ((i : ℕ) → token ≢ numeral i) → child token (list ds) ≡ None

-- a part of a document is a document
abbrev pub PartsAreDocuments : Type 0
PartsAreDocuments = (t : Tokens) (d x : Document) → IsDocument d → part d t ≡ Some x → IsDocument x

-- and each token leads at least one level further down
abbrev pub PartsAreShallower : Type 0
PartsAreShallower = (t : Tokens) (d x : Document) → part d t ≡ Some x → length t + depth x ≤ depth d

-- documents that differ only at t and have the same part there are equal (RFC 6901 section 4)
abbrev pub EqualsByPart : Type 0
EqualsByPart = (t : Tokens) (d e x : Document) → IsDocument d → IsDocument e
    → DifferOnlyAt t d e → part d t ≡ Some x → part e t ≡ Some x → d ≡ e

-- a part of what can be read can be read
abbrev pub PartsAreReadable : Type 0
PartsAreReadable = (t : Tokens) (d x : Document) → IsReadable d → part d t ≡ Some x → IsReadable x

-- tokens that are UTF-8 are spelled in UTF-8
abbrev pub SpellingsAreTexts : Type 0
SpellingsAreTexts = (t : Tokens) → All IsUtf8 t → IsUtf8 (spell t)

-- and tokens that are spelled in UTF-8 are UTF-8
abbrev pub TokensAreTexts : Type 0
TokensAreTexts = (t : Tokens) → IsUtf8 (spell t) → All IsUtf8 t

-- if two documents differ at one place alone, the difference of their weights is that of their parts there
abbrev pub WeighsByPart : Type 0
WeighsByPart = (t : Tokens) (d e x y : Document) → IsDocument d → IsDocument e → DifferOnlyAt t d e
    → part d t ≡ Some x → part e t ≡ Some y → weight e + weight x ≡ weight d + weight y
