-- What is read as places, and why something is not. Only private clauses cite it.
use Rattle.std.specs.Prelude.{◌≡◌, ◌≢◌, ◌++◌, ◌⊎◌, ℕ, Bool, true, false, List, [], ◌∷◌, Ok, Err, ⊤}
use Rattle.std.specs.declared.cmp.Ordering.TheVariants.{Less}
use Rattle.mp_tree.specs.Document.{Document, name_cmp}
use Rattle.mp_tree.specs.Look.{Path}
use Rattle.mp_tree.specs.Text.{document_in}
use Rattle.mp_texts.specs.Answers.{places_list}
use Rattle.mp_replica.specs.Held.{HeldPlaces}
use Rattle.mp_replica.specs.Kept.{AreKeptPlaces, more_mark}
use Rattle.mp_replica.specs.declared.fault.LiveFault.{LiveFault}
use Rattle.mp_replica.specs.declared.fault.LiveFault.TheVariants.{Document as NoDocument, NotKept, OutOfMemory}

-- the text is read as these places, whether there are more or not
abbrev pub AreRead : List ℕ → HeldPlaces → Type 0
AreRead text held = (document_in text ≡ Ok (places_list held.places)) × AreKeptPlaces held

-- it is not
abbrev pub AreUnread : LiveFault → Bool → List ℕ → Type 0
AreUnread (NoDocument fault) more text = document_in text ≡ Err fault
AreUnread NotKept more text =
    (d : Document) × (document_in text ≡ Ok d)
    × ((places : List Path) → AreKeptPlaces (record { places = places; more = more }) → d ≢ places_list places)
AreUnread OutOfMemory more text = ⊤
AreUnread other more text = ⊥

-- what stands between the first mark and the places
abbrev pub second_mark : Bool → List ℕ
second_mark false = []
second_mark true = more_mark ∷ []

-- with a second mark, or without
abbrev pub AreMarkedRead : List ℕ → HeldPlaces → Type 0
AreMarkedRead text held = (rest : List ℕ) × (text ≡ second_mark held.more ++ rest) × AreRead rest held

abbrev pub AreMarkedUnread : LiveFault → List ℕ → Type 0
AreMarkedUnread fault text = (more : Bool) × (rest : List ℕ) × (text ≡ second_mark more ++ rest) × AreUnread fault more rest

-- ---- places in order, none within another

-- at the first names in which the two differ this one has the lower
abbrev pub Precedes : Path → Path → Type 0
Precedes [] u = ⊥
Precedes (m ∷ w) [] = ⊥
Precedes (m ∷ w) (n ∷ u) = (name_cmp m n ≡ Less) ⊎ ((m ≡ n) × Precedes w u)

-- each precedes the next
abbrev pub EachPrecedes : List Path → Type 0
EachPrecedes [] = ⊤
EachPrecedes (w ∷ []) = ⊤
EachPrecedes (w ∷ u ∷ places) = Precedes w u × EachPrecedes (u ∷ places)
