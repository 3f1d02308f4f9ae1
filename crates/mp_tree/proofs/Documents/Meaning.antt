-- What a `Doc` means, variant by variant, and what each such document is.
use Rattle.std.proofs.Common.{◌≡◌, ◌≤◌, List, [], ◌∷◌, map, String, Vec, BTreeMap, Global, string_bytes, refl, sym, ap, ◌∙◌, subst, rules}
use Rattle.mp_tree.specs.Document.{Document, null, string, list, object, IsDocument, IsReadable, depth, depth_limit}
use Rattle.mp_tree.specs.Laws.{DocsAreDocuments}
use Rattle.mp_tree.specs.View.{byte_entries, members_of, document, document_step, items}
use Rattle.mp_tree.specs.Private.Entries.{members}
use Rattle.mp_tree.specs.declared.doc.Doc.{Doc, Null, Text, Items, Members as Map, map-Doc, fold-roll-Doc, ind-Doc, the_lemmas}
use Rattle.mp_tree.specs.declared.doc.Doc.TheOpen.{Doc-F}
use Rattle.std.proofs.lemmas.List.Elements.{All-contains_itself, All-map, All-weaker}
use Rattle.std.proofs.lemmas.Str.{IsUtf8-string_bytes}
use Rattle.std.specs.List.{All, Contains}
use Rattle.mp_tree.proofs.Documents.Sound.{IsSound, Sound, items_sound, members_sound, readable, rules_hold}

pub byte_entries-map : {V W : Type 0} (f : V → W) (es : List (String Global × V)) → byte_entries (map (λ e. (e.0, f e.1)) es) ≡ map (λ e. (string_bytes e.0, f e.1)) es
byte_entries-map f [] = refl
byte_entries-map f (e ∷ es) = ap (λ r. (string_bytes e.0, f e.1) ∷ r) (byte_entries-map f es)

pub document-Null : document Null ≡ null
document-Null = search (rules, the_lemmas)

pub document-Text : (s : String Global) → document (Text s) ≡ string (string_bytes s)
document-Text s = search (rules, the_lemmas)

pub document-Items : (v : Vec Doc Global) → document (Items v) ≡ list (items v.items)
document-Items v = search (rules, the_lemmas)

pub document-Members : (m : BTreeMap (String Global) Doc) → document (Map m) ≡ object (members m.entries)
document-Members m =
    let opened : document (Map m) ≡ object (members_of (byte_entries (map (λ e. (e.0, document e.1)) m.entries))) = search (rules, the_lemmas) in
    opened ∙ ap (λ es. object (members_of es)) (byte_entries-map document m.entries)

pub document_of_map : {d : Doc} (m : BTreeMap (String Global) Doc) → d ≡ Map m → document d ≡ object (members m.entries)
document_of_map m is = ap document is ∙ document-Members m

-- ---- each is sound at every level

abbrev opened : Doc-F (Sound document) → Document
opened y = document_step (map-Doc Doc Document document (map-Doc (Sound document) Doc (λ e. e.0) y))

sound-opened : (y : Doc-F (Sound document)) → IsSound (opened y)
sound-opened (Doc-F.Whole n) = (tt, (n.at_least, n.at_most))
sound-opened (Doc-F.Text s) = (tt, IsUtf8-string_bytes s)
sound-opened (Doc-F.Items v) = items_sound document v.items
sound-opened (Doc-F.Members m) = members_sound document m.entries
sound-opened scalar = (tt, tt)

-- by induction: what a `Doc` means is sound if its parts are
sound : (x : Doc) → IsSound (document x)
sound = ind-Doc (λ x. IsSound (document x)) (λ x y is.
    let whole_of = λ (z : Doc-F Doc). document_step (map-Doc Doc Document document z) in
    subst IsSound (sym (fold-roll-Doc Document document_step x)) (subst (λ z. IsSound (whole_of z)) is (sound-opened y)))

pub IsDocument-document : (x : Doc) → IsDocument (document x)
IsDocument-document x = (sound x).0

pub docs_are_documents : DocsAreDocuments
docs_are_documents x = rules_hold (document x) (sound x)

pub IsReadable-document : (x : Doc) → depth (document x) ≤ depth_limit → IsReadable (document x)
IsReadable-document x within = readable (document x) (sound x) within

pub documents_by : {V : Type 0} (f : V → Document) (good : (v : V) → IsDocument (f v)) (vs : List V) → All IsDocument (map f vs)
documents_by f good vs = All-map IsDocument f vs (All-weaker (Contains vs) (λ v. IsDocument (f v)) (λ v at. good v) vs (All-contains_itself vs))
