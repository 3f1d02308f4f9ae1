-- What a value means, variant by variant, and what each such document is.
use Rattle.std.proofs.Common.{◌≡◌, ◌≤◌, map, Vec, BTreeMap, String, Global, sym, ap, ◌∙◌, subst, rules}
use Rattle.std.proofs.lemmas.Str.{IsUtf8-string_bytes}
use Rattle.serde_json.specs.View.{number_view}
use Rattle.serde_json.specs.declared.value.Value.{Value, Array, Object, map-Value, fold-roll-Value, ind-Value, the_lemmas}
use Rattle.serde_json.specs.declared.value.Value.TheOpen.{Value-F}
use Rattle.mp_tree.specs.Document.{Document, list, object, IsDocument, IsReadable, depth, depth_limit}
use Rattle.mp_tree.specs.Laws.{ValuesAreDocuments}
use Rattle.mp_tree.specs.Text.{whole_number}
use Rattle.mp_tree.specs.View.{byte_entries, members_of}
use Rattle.mp_tree.specs.Private.Entries.{value_members}
use Rattle.mp_tree.specs.Values.{value_document, value_step, value_items}
use Rattle.mp_tree.proofs.Documents.Meaning.{byte_entries-map}
use Rattle.mp_tree.proofs.Documents.Sound.{IsSound, Sound, items_sound, members_sound, readable, rules_hold}
use Rattle.mp_tree.proofs.Valued.Numbers.{IsWhole-number_or_zero}

pub value-Array : (v : Vec Value Global) → value_document (Array v) ≡ list (value_items v.items)
value-Array v = search (rules, the_lemmas)

pub value-Object : (m : BTreeMap (String Global) Value) → value_document (Object m) ≡ object (value_members m.entries)
value-Object m =
    let opened : value_document (Object m) ≡ object (members_of (byte_entries (map (λ e. (e.0, value_document e.1)) m.entries))) = search (rules, the_lemmas) in
    opened ∙ ap (λ es. object (members_of es)) (byte_entries-map value_document m.entries)

pub value_of_map : {v : Value} (m : BTreeMap (String Global) Value) → v ≡ Object m → value_document v ≡ object (value_members m.entries)
value_of_map m is = ap value_document is ∙ value-Object m

-- ---- each is sound at every level

abbrev opened : Value-F (Sound value_document) → Document
opened y = value_step (map-Value Value Document value_document (map-Value (Sound value_document) Value (λ e. e.0) y))

sound-opened : (y : Value-F (Sound value_document)) → IsSound (opened y)
sound-opened (Value-F.Number n) = (tt, IsWhole-number_or_zero (whole_number (number_view n)))
sound-opened (Value-F.String s) = (tt, IsUtf8-string_bytes s)
sound-opened (Value-F.Array v) = items_sound value_document v.items
sound-opened (Value-F.Object m) = members_sound value_document m.entries
sound-opened scalar = (tt, tt)

-- by induction: what a value means is sound if its parts are
sound : (x : Value) → IsSound (value_document x)
sound = ind-Value (λ x. IsSound (value_document x)) (λ x y is.
    let whole_of = λ (z : Value-F Value). value_step (map-Value Value Document value_document z) in
    subst IsSound (sym (fold-roll-Value Document value_step x)) (subst (λ z. IsSound (whole_of z)) is (sound-opened y)))

pub IsDocument-value : (x : Value) → IsDocument (value_document x)
IsDocument-value x = (sound x).0

pub values_are_documents : ValuesAreDocuments
values_are_documents x = rules_hold (value_document x) (sound x)

pub IsReadable-value : (x : Value) → depth (value_document x) ≤ depth_limit → IsReadable (value_document x)
IsReadable-value x within = readable (value_document x) (sound x) within
