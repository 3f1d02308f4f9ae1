-- Why a call over texts of what stays in memory gives no answer. Out of memory says nothing; an error that a call can't have
-- is ⊥ there.
use Rattle.std.specs.Prelude.{◌≡◌, ◌≢◌, ◌<◌, ℕ, List, [], None, Some, MatchOption, Ok, Err, length, ⊤}
use Rattle.mp_tree.specs.Document.{Document}
use Rattle.mp_tree.specs.Text.{document_in, text as compact}
use Rattle.mp_tree.specs.View.{document}
use Rattle.mp_pointer.specs.Part.{part}
use Rattle.mp_pointer.specs.Spelling.{Tokens, spell, IsPointerFault}
use Rattle.mp_pointer.specs.declared.fault.PointerFault.{PointerFault}
use Rattle.mp_pointer.specs.declared.fault.PointerFault.TheVariants as pointer
use Rattle.mp_texts.specs.Texts.{AreCompatible}
use Rattle.mp_replica.specs.Held.{HeldPatches, HeldReplica}
use Rattle.mp_replica.specs.declared.fault.LiveFault.{LiveFault}
use Rattle.mp_replica.specs.declared.fault.LiveFault.TheVariants.{Document as NoDocument, Pointer, Missing, NoPatches}
use Rattle.mp_replica.specs.declared.fault.LiveFault.TheVariants.{Conflict, Pending, TooLarge, OutOfMemory}

-- what is reported of a text that spells no pointer
abbrev pub live_fault_of_pointer : PointerFault → LiveFault
live_fault_of_pointer pointer.OutOfMemory = OutOfMemory
live_fault_of_pointer refusal = Pointer refusal

-- the text is not a document
abbrev pub IsUnread : LiveFault → List ℕ → Type 0
IsUnread (NoDocument fault) text = document_in text ≡ Err fault
IsUnread OutOfMemory text = ⊤
IsUnread other text = ⊥

-- memory ran out
abbrev pub IsOutOfMemory : LiveFault → Type 0
IsOutOfMemory OutOfMemory = ⊤
IsOutOfMemory other = ⊥

-- the text of the document has more bytes than the caller allows
abbrev pub HasLongText : ℕ → Document → Type 0
HasLongText limit d = limit < length (compact d)

-- ---- replicas

-- nothing is shown, or its text is too long
abbrev pub IsUnshown : ℕ → LiveFault → HeldReplica → Type 0
IsUnshown limit Pending r = r.pending ≢ None
IsUnshown limit TooLarge r = (r.pending ≡ None) × HasLongText limit (document r.shown)
IsUnshown limit OutOfMemory r = ⊤
IsUnshown limit other r = ⊥

-- there is no join, or its text is too long
abbrev pub IsNotJoined : ℕ → LiveFault → HeldReplica → Type 0
IsNotJoined limit Pending r = r.pending ≢ None
IsNotJoined limit NoPatches r = (r.pending ≡ None) × (r.joined ≡ None)
IsNotJoined limit TooLarge r = (r.pending ≡ None) × MatchOption r.joined ⊥ (λ j. HasLongText limit (document j))
IsNotJoined limit OutOfMemory r = ⊤
IsNotJoined limit other r = ⊥

-- what is shown has no part at the pointer
pub record LacksPart (r : HeldReplica) (text : List ℕ) : Type 0 where
  pub settled : r.pending ≡ None
  pub tokens : Tokens
  pub spelled : text ≡ spell tokens
  pub no_part : part (document r.shown) tokens ≡ None

-- the part at the pointer has a text that is too long
pub record HasLongPart (limit : ℕ) (r : HeldReplica) (text : List ℕ) : Type 0 where
  pub settled : r.pending ≡ None
  pub tokens : Tokens
  pub spelled : text ≡ spell tokens
  pub there : Document
  pub is_part : part (document r.shown) tokens ≡ Some there
  pub too_long : HasLongText limit there

-- there is no part, or its text is too long; whether the text spells a pointer is looked at first
abbrev pub IsNoPart : ℕ → LiveFault → HeldReplica → List ℕ → Type 0
IsNoPart limit (Pointer fault) r text = (fault ≢ pointer.OutOfMemory) × IsPointerFault fault text
IsNoPart limit Pending r text = (r.pending ≢ None) × ((tokens : Tokens) × (text ≡ spell tokens))
IsNoPart limit Missing r text = LacksPart r text
IsNoPart limit TooLarge r text = HasLongPart limit r text
IsNoPart limit OutOfMemory r text = ⊤
IsNoPart limit other r text = ⊥

-- the places of a conflict are not known; whether the text is a document is looked at first
abbrev pub AreNoPlaces : LiveFault → HeldReplica → List ℕ → Type 0
AreNoPlaces (NoDocument fault) r text = document_in text ≡ Err fault
AreNoPlaces Pending r text = (r.pending ≢ None) × ((d : Document) × (document_in text ≡ Ok d))
AreNoPlaces OutOfMemory r text = ⊤
AreNoPlaces other r text = ⊥

-- ---- patches without a start

-- there is no join, or its text is too long
abbrev pub IsNoJoin : ℕ → LiveFault → HeldPatches → Type 0
IsNoJoin limit Conflict r = r.places ≢ None
IsNoJoin limit Pending r = (r.places ≡ None) × (r.pending ≢ None)
IsNoJoin limit NoPatches r = (r.places ≡ None) × (r.pending ≡ None) × (r.joined ≡ None)
IsNoJoin limit TooLarge r =
    (r.places ≡ None) × (r.pending ≡ None) × MatchOption r.joined ⊥ (λ j. HasLongText limit (document j))
IsNoJoin limit OutOfMemory r = ⊤
IsNoJoin limit other r = ⊥

-- said of the texts that were taken
abbrev pub IsNoJoinText : LiveFault → List (List ℕ) → Type 0
IsNoJoinText Conflict texts = ¬ AreCompatible texts
IsNoJoinText NoPatches texts = texts ≡ []
IsNoJoinText other texts = ⊤
