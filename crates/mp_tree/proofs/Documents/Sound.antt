-- Documents that are sound at every level: their objects are maps, their numbers within the number rule, their texts UTF-8.
use Rattle.std.proofs.Common.{◌≤◌, List, [], ◌∷◌, map, IsUtf8, String, Global, string_bytes}
use Rattle.std.proofs.lemmas.Str.{IsUtf8-string_bytes}
use Rattle.mp_tree.specs.Document.{Document, list, object, IsDocument, IsWhole, IsInRange, HasTexts, IsReadable, depth, depth_limit, Throughout}
use Rattle.mp_tree.specs.View.{byte_entries, items_by, members_of}
use Rattle.mp_tree.proofs.Documents.Throughout.{Throughout-put, Throughout-weaker}
use Rattle.mp_tree.proofs.Maps.Finite.{IsMap-put}

abbrev pub IsSound : Document → Type 0
IsSound d = IsDocument d × Throughout IsWhole IsUtf8 d

in-range : (d : Document) → Throughout IsWhole IsUtf8 d → IsInRange d
in-range d all = Throughout-weaker IsWhole IsUtf8 IsWhole (λ s. Unit {0}) (λ z is. is) (λ s utf8. tt) d all

has-texts : (d : Document) → Throughout IsWhole IsUtf8 d → HasTexts d
has-texts d all = Throughout-weaker IsWhole IsUtf8 (λ z. Unit {0}) IsUtf8 (λ z is. tt) (λ s utf8. utf8) d all

pub rules_hold : (d : Document) → IsSound d → IsDocument d × HasTexts d × IsInRange d
rules_hold d sound = (sound.0, has-texts d sound.1, in-range d sound.1)

pub readable : (d : Document) → IsSound d → depth d ≤ depth_limit → IsReadable d
readable d sound within = record { is_document = sound.0; has_texts = has-texts d sound.1; in_range = in-range d sound.1; within = within }

-- ---- of parts that are

module _ {V : Type 0} (f : V → Document) where
  abbrev pub Sound : Type 0
  Sound = (v : V) × IsSound (f v)

  pub items_sound : (ds : List Sound) → IsSound (list (items_by f (map (λ e. e.0) ds)))
  items_sound [] = (tt, tt)
  items_sound (e ∷ ds) = let rest = items_sound ds in ((e.1.0, rest.0), (e.1.1, rest.1))

  pub members_sound : (ms : List (String Global × Sound)) → IsSound (object (members_of (byte_entries (map (λ (m : String Global × V). (m.0, f m.1)) (map (λ m. (m.0, m.1.0)) ms)))))
  members_sound [] = (tt, tt)
  members_sound (m ∷ ms) =
      let n = string_bytes m.0 in
      let d = f m.1.0 in
      let rest = members_sound ms in (IsMap-put n d _ m.1.1.0 rest.0, Throughout-put IsWhole IsUtf8 n d _ (IsUtf8-string_bytes m.0) m.1.1.1 rest.1)
