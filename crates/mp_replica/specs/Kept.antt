-- The kept form of patches without a start: one text, of their join or of the places of a conflict.
use Rattle.std.specs.Prelude.{◌≡◌, ◌≢◌, ◌<◌, ◌≤◌, ◌⊎◌, ◌++◌, ℕ, Bool, true, false, List, [], ◌∷◌, None, IsTrue, MatchOption, Ok, Err, length, ⊤}
use Rattle.std.specs.List.{Contains}
use Rattle.std.specs.List.Sorted.{IsStrictlySortedBy}
use Rattle.mp_tree.specs.Document.{Document}
use Rattle.mp_tree.specs.Look.{Path}
use Rattle.mp_tree.specs.Text.{document_in, text as compact}
use Rattle.mp_tree.specs.View.{document}
use Rattle.mp_merge.specs.Clash.{path_cmp}
use Rattle.mp_merge.specs.Within.{places_weight}
use Rattle.mp_texts.specs.Answers.{IsTextOf, places_list}
use Rattle.mp_replica.specs.Held.{HeldPatches, HeldPlaces, NoneIsPrefix, places_bound}
use Rattle.mp_replica.specs.declared.fault.LiveFault.{LiveFault}
use Rattle.mp_replica.specs.declared.fault.LiveFault.TheVariants.{Document as NoDocument, Pending, TooLarge, NotKept, OutOfMemory}

-- `!`, with which no JSON text begins, stands before the places of a conflict
abbrev pub mark : ℕ
mark = 33

-- and `+` behind it if there are more places than those that follow
abbrev pub more_mark : ℕ
more_mark = 43

abbrev pub marks : Bool → List ℕ
marks false = mark ∷ []
marks true = mark ∷ more_mark ∷ []

abbrev pub KeepsPlaces : HeldPlaces → List ℕ → Type 0
KeepsPlaces held text =
    (rest : List ℕ) × (text ≡ marks held.more ++ rest) × IsTextOf (places_list held.places) rest

-- what is written: the marks and the array of the places, the text of the join, or nothing
abbrev pub IsKeptText : HeldPatches → List ℕ → Type 0
IsKeptText r text =
    MatchOption r.places
    ((r.pending ≡ None) × MatchOption r.joined (text ≡ []) (λ j. text ≡ compact (document j)))
    (λ held. KeepsPlaces held text)

-- the same of patches that can be read: the text of the join is read back as that
abbrev pub IsKept : HeldPatches → List ℕ → Type 0
IsKept r text =
    MatchOption r.places ((r.pending ≡ None) × MatchOption r.joined (text ≡ []) (λ j. IsTextOf (document j) text))
    (λ held. KeepsPlaces held text)

-- at least one place is held, or there are more
abbrev pub AreSomePlaces : HeldPlaces → Type 0
AreSomePlaces held = IsTrue held.more ⊎ (held.places ≢ [])

-- places of a conflict as they can be held
pub record AreKeptPlaces (held : HeldPlaces) : Type 0 where
  pub some : AreSomePlaces held
  pub rising : IsStrictlySortedBy path_cmp held.places
  pub apart : NoneIsPrefix held.places
  pub within : places_weight held.places ≤ places_bound
  -- where whole patches conflict, there is no other place
  pub only : Contains held.places [] → ¬ IsTrue held.more

-- after the marks the text is read as an array of such places
abbrev pub ReadsPlaces : List ℕ → HeldPlaces → Type 0
ReadsPlaces text held =
    (rest : List ℕ) × (text ≡ marks held.more ++ rest) × (document_in rest ≡ Ok (places_list held.places))
    × AreKeptPlaces held

-- what a kept text holds: the empty one nothing, any document itself
abbrev pub IsHeldBy : List ℕ → HeldPatches → Type 0
IsHeldBy text r =
    (r.pending ≡ None)
    × MatchOption r.places (MatchOption r.joined (text ≡ []) (λ j. document_in text ≡ Ok (document j)))
    (λ held. ReadsPlaces text held × (r.joined ≡ None))

-- there is no kept form yet, or it has more bytes than the caller allows
abbrev pub IsNotKeptYet : ℕ → LiveFault → HeldPatches → Type 0
IsNotKeptYet limit Pending r = (r.places ≡ None) × (r.pending ≢ None)
IsNotKeptYet limit TooLarge r = (text : List ℕ) × IsKeptText r text × (limit < length text)
IsNotKeptYet limit OutOfMemory r = ⊤
IsNotKeptYet limit other r = ⊥

-- the whole text, or what stands after its marks
abbrev pub IsUnreadKept : List ℕ → List ℕ → Type 0
IsUnreadKept text read = (text ≡ read) ⊎ ((more : Bool) × (text ≡ marks more ++ read))

-- the text is no kept form
abbrev pub IsNoKept : LiveFault → List ℕ → Type 0
IsNoKept (NoDocument fault) text = (read : List ℕ) × IsUnreadKept text read × (document_in read ≡ Err fault)
IsNoKept NotKept text =
    (rest : List ℕ) × (d : Document) × (more : Bool) × (text ≡ marks more ++ rest) × (document_in rest ≡ Ok d)
    × ((places : List Path) → AreKeptPlaces (record { places = places; more = more }) → d ≢ places_list places)
IsNoKept OutOfMemory text = ⊤
IsNoKept other text = ⊥
