-- What a kept form holds has taken what was taken where it was made.
use Rattle.std.proofs.Common.{◌≡◌, ◌≢◌, ◌<◌, ◌++◌, inr, ap₂, ℕ, zero, suc, length, take, drop, ◌-◌, ◌==◌, true≢false, slice_index_or, arith, Bool, true, false, List, [], ◌∷◌, map, Option, None, Some, MatchOption, Ok, option_map, if◌then◌else◌, refl, sym, ap, ◌∙◌, subst}
use Rattle.std.proofs.lemmas.List.{take_all}
use Rattle.std.specs.Str.{is_utf8}
use Rattle.serde_json.specs.Read as serde_json
use Rattle.json.proofs.OnLiterals.{json_on_literals}
use Rattle.mp_tree.specs.Document.{Document, list}
use Rattle.mp_tree.specs.Elements.{items_of}
use Rattle.mp_tree.specs.Look.{Path}
use Rattle.mp_tree.specs.Text.{data_in, document_in, json_document}
use Rattle.mp_tree.specs.View.{document}
use Rattle.mp_tree.specs.declared.doc.Doc.{Doc}
use Rattle.mp_pointer.specs.Laws.{HasOneSpelling}
use Rattle.mp_pointer.specs.Spelling.{spell}
use Rattle.mp_texts.specs.Answers.{IsTextOf, place_of, places_list}
use Rattle.mp_replica.specs.Held.{AreFirstPlaces, HasJoined, HeldPatches, HeldPlaces}
use Rattle.mp_replica.specs.Kept.{AreKeptPlaces, IsHeldBy, IsKept, IsNoKept, KeepsPlaces, ReadsPlaces, mark, marks, more_mark}
use Rattle.mp_replica.specs.Private.Places.{AreMarkedRead, AreMarkedUnread, AreUnread, second_mark}
use Rattle.mp_replica.specs.Taking.{HasTaken}
use Rattle.mp_replica.specs.declared.fault.LiveFault.{LiveFault}
use Rattle.mp_replica.specs.declared.fault.LiveFault.TheVariants as live
use Rattle.mp_replica.proofs.Taking.{conflict_taken, free_taken, if_conflict, if_free}

-- ---- no document is empty, and none begins with the mark

pub unread : (text : List ℕ) → serde_json.read text ≡ None → data_in text ≡ None
unread text none = by (is_utf8 text) refl
  where
    by : (b : Bool) → is_utf8 text ≡ b → data_in text ≡ None
    by true is = ap (λ b. if b then serde_json.read text else None) is ∙ none
    by false is = ap (λ b. if b then serde_json.read text else None) is

pub unread_nothing : serde_json.read [] ≡ None
unfolding json_on_literals
unread_nothing = refl

unread_mark : (rest : List ℕ) → serde_json.read (mark ∷ rest) ≡ None
unfolding json_on_literals
unread_mark rest = refl

unread_more : (rest : List ℕ) → serde_json.read (more_mark ∷ rest) ≡ None
unfolding json_on_literals
unread_more rest = refl

none_more : (rest : List ℕ) (d : Document) → document_in (more_mark ∷ rest) ≡ Ok d → ⊥
none_more rest d is = let never = sym (ap json_document (unread (more_mark ∷ rest) (unread_more rest))) ∙ is in cc

none_empty : (d : Document) → document_in [] ≡ Ok d → ⊥
none_empty d is = let never = sym (ap json_document (unread [] unread_nothing)) ∙ is in cc

none_marked : (rest : List ℕ) (d : Document) → document_in (mark ∷ rest) ≡ Ok d → ⊥
none_marked rest d is = let never = sym (ap json_document (unread (mark ∷ rest) (unread_mark rest))) ∙ is in cc

-- ---- the marks

first_mark : (more : Bool) (rest : List ℕ) → (s : List ℕ) × (marks more ++ rest ≡ mark ∷ s)
first_mark false rest = (rest, refl)
first_mark true rest = (more_mark ∷ rest, refl)

pub marks_of : (more : Bool) (rest : List ℕ) → marks more ++ rest ≡ mark ∷ (second_mark more ++ rest)
marks_of false rest = refl
marks_of true rest = refl

-- the marks and what follows them are known from the text, if that is a document
same_marks : (m n : Bool) (r s : List ℕ) (d e : Document) → document_in r ≡ Ok d → document_in s ≡ Ok e → marks m ++ r ≡ marks n ++ s → (m ≡ n) × (r ≡ s)
same_marks false false r s d e one other same = (refl, let both = same in cc)
same_marks true true r s d e one other same = (refl, let both = same in cc)
same_marks false true r s d e one other same = let is : r ≡ more_mark ∷ s = (let both = same in cc) in absurd (none_more s d (subst (λ t. document_in t ≡ Ok d) is one))
same_marks true false r s d e one other same = let is : s ≡ more_mark ∷ r = (let both = sym same in cc) in absurd (none_more r e (subst (λ t. document_in t ≡ Ok e) is other))

-- ---- one list of places

items_same : (ds es : List Document) → items_of ds ≡ items_of es → ds ≡ es
items_same [] [] same = refl
items_same [] (e ∷ es) same = absurd (cc)
items_same (d ∷ ds) [] same = absurd (cc)
items_same (d ∷ ds) (e ∷ es) same =
    let first : d ≡ e = cc in
    let rest : items_of ds ≡ items_of es = cc in
    ap (λ x. x ∷ ds) first ∙ ap (λ xs. e ∷ xs) (items_same ds es rest)

paths_same : HasOneSpelling → (ws us : List Path) → map place_of ws ≡ map place_of us → ws ≡ us
paths_same one [] [] same = refl
paths_same one [] (u ∷ us) same = absurd (cc)
paths_same one (w ∷ ws) [] same = absurd (cc)
paths_same one (w ∷ ws) (u ∷ us) same =
    let spelled : spell w ≡ spell u = cc in
    let rest : map place_of ws ≡ map place_of us = cc in
    ap (λ x. x ∷ ws) (one w u spelled) ∙ ap (λ xs. u ∷ xs) (paths_same one ws us rest)

-- a document that is no place stands in no list of places
pub no_place_there : (ds : List Doc) (k : ℕ) (d : Doc) → k < length ds → ((w : Path) → document (slice_index_or ds k d) ≢ place_of w) → (ws : List Path) → map document ds ≢ map place_of ws
no_place_there [] k d below none ws same = omega arith
no_place_there (x ∷ ds) k d below none [] same = cc
no_place_there (x ∷ ds) zero d below none (w ∷ ws) same = none w (cc)
no_place_there (x ∷ ds) (suc k) d below none (w ∷ ws) same = no_place_there ds k d (omega arith) none ws (cc)

-- so what is read as an array of these is read as no places
pub unread_places : (more : Bool) (text : List ℕ) (ds : List Doc) → document_in text ≡ Ok (list (items_of (map document ds))) → ((places : List Path) → map document ds ≢ map place_of places) → AreUnread live.NotKept more text
unread_places more text ds read none = (list (items_of (map document ds)), read, λ places some same. none places (items_same (map document ds) (map place_of places) (let both = same in cc)))

-- nor is an array of places that no conflict has
pub unread_unless_kept : HasOneSpelling → (more : Bool) (text : List ℕ) (ds : List Doc) (ws : List Path) → document_in text ≡ Ok (list (items_of (map document ds))) → map document ds ≡ map place_of ws
    → ¬ AreKeptPlaces (record { places = ws; more = more }) → AreUnread live.NotKept more text
unread_unless_kept one more text ds ws read are never = (
  list (items_of (map document ds)),
  read,
  λ places kept same.
      let is = paths_same one places ws (sym (items_same (map document ds) (map place_of places) (let both = same in cc)) ∙ are) in
      never (subst (λ l. AreKeptPlaces (record { places = l; more = more })) is kept),
)

pub places_same : HasOneSpelling → (ws us : List Path) → places_list ws ≡ places_list us → ws ≡ us
places_same one ws us same = paths_same one ws us (items_same (map place_of ws) (map place_of us) (let both = same in cc))

-- ---- what is held again

same_document : (d e : Document) (text : List ℕ) → IsTextOf d text → document_in text ≡ Ok e → d ≡ e
same_document d e text written read = let both = sym written.read_back ∙ read in cc

moved : {a b c d : Option Document} (taken : List Document) → a ≡ c → b ≡ d → HasJoined a b taken → HasJoined c d taken
moved {b = b} {c = c} taken one other has = subst (λ p. HasJoined c p taken) other (subst (λ j. HasJoined j b taken) one has)

abbrev one_held : List Path → Bool → HeldPlaces
one_held places more = record { places = places; more = more }

module _ (one : HasOneSpelling) (text : List ℕ) (before r : HeldPatches) (taken : List Document) where
  again : (bp rp : Option HeldPlaces) (bj rj : Option Doc) → before.places ≡ bp → r.places ≡ rp → before.joined ≡ bj → r.joined ≡ rj → r.pending ≡ None
      → MatchOption bp ((before.pending ≡ None) × MatchOption bj (text ≡ []) (λ j. IsTextOf (document j) text)) (λ held. KeepsPlaces held text)
      → MatchOption rp (MatchOption rj (text ≡ []) (λ j. document_in text ≡ Ok (document j))) (λ held. ReadsPlaces text held × (r.joined ≡ None)) → HasTaken before taken → HasTaken r taken
  again None None None None free also empty none settled kept held has =
      free_taken r taken also (moved taken (ap (option_map document) (empty ∙ sym none)) (ap (option_map document) (kept.0 ∙ sym settled)) (if_free before taken free has))
  again None None None (Some k) free also empty some settled kept held has = absurd (none_empty (document k) (subst (λ t. document_in t ≡ Ok (document k)) kept.1 held))
  again None None (Some j) None free also some none settled kept held has = absurd (none_empty (document j) (subst (λ t. document_in t ≡ Ok (document j)) held kept.1.read_back))
  again None None (Some j) (Some k) free also some other settled kept held has =
      let same : Some (document j) ≡ Some (document k) = ap Some (same_document (document j) (document k) text kept.1 held) in
      free_taken r taken also (moved taken (ap (option_map document) some ∙ same ∙ sym (ap (option_map document) other)) (ap (option_map document) (kept.0 ∙ sym settled)) (if_free before taken free has))
  again None (Some us) None rj free also empty some settled kept held has = let at = first_mark us.more held.0.0 in absurd (let never : [] ≡ mark ∷ at.0 = sym kept.1 ∙ held.0.1 ∙ at.1 in cc)
  again None (Some us) (Some j) rj free also some other settled kept held has =
      let at = first_mark us.more held.0.0 in absurd (none_marked at.0 (document j) (subst (λ t. document_in t ≡ Ok (document j)) (held.0.1 ∙ at.1) kept.1.read_back))
  again (Some ws) None bj None conflict also some none settled kept held has = let at = first_mark ws.more kept.0 in absurd (let never : [] ≡ mark ∷ at.0 = sym held ∙ kept.1 ∙ at.1 in cc)
  again (Some ws) None bj (Some k) conflict also some other settled kept held has =
      let at = first_mark ws.more kept.0 in absurd (none_marked at.0 (document k) (subst (λ t. document_in t ≡ Ok (document k)) (kept.1 ∙ at.1) held))
  again (Some ws) (Some us) bj rj conflict also some other settled kept held has =
      let both = same_marks ws.more us.more kept.0 held.0.0 (places_list ws.places) (places_list us.places) kept.2.read_back held.0.2 (sym kept.1 ∙ held.0.1) in
      let places : ws.places ≡ us.places = places_same one ws.places us.places (same_document (places_list ws.places) (places_list us.places) kept.0 kept.2 (subst (λ t. document_in t ≡ Ok (places_list us.places)) (sym both.1) held.0.2)) in
      let same : ws ≡ us = ap₂ one_held places both.0 in
      let was = if_conflict before taken ws conflict has in
      conflict_taken r taken us was.all also held.1 settled has.are_documents was.clashes (subst (AreFirstPlaces was.all) same was.first)

  pub kept_again : IsKept before text → IsHeldBy text r → HasTaken before taken → HasTaken r taken
  kept_again kept held has = again before.places r.places before.joined r.joined refl refl refl refl held.0 kept held.1 has

-- ---- what a text holds

pub held_nothing : (text : List ℕ) (r : HeldPatches) → text ≡ [] → r.joined ≡ None → r.pending ≡ None → r.places ≡ None → IsHeldBy text r
held_nothing text r empty no_join settled free = rw (free, no_join) (settled, empty)

pub held_conflict : (text tail : List ℕ) (held : HeldPlaces) → text ≡ mark ∷ tail → AreMarkedRead tail held → IsHeldBy text (record { joined = None; pending = None; places = Some held })
held_conflict text tail held marked read = (refl, ((read.0, marked ∙ ap (λ t. mark ∷ t) read.1 ∙ sym (marks_of held.more read.0), read.2.0, read.2.1), refl))

-- what is not read as places is not read as a kept form
pub no_kept : (fault : LiveFault) (text tail : List ℕ) → text ≡ mark ∷ tail → AreMarkedUnread fault tail → IsNoKept fault text
no_kept (live.Document f) text tail marked (more, rest, parts, unread) = (rest, inr (more, marked ∙ ap (λ t. mark ∷ t) parts ∙ sym (marks_of more rest)), unread)
no_kept live.NotKept text tail marked (more, rest, parts, unread) = (rest, unread.0, more, marked ∙ ap (λ t. mark ∷ t) parts ∙ sym (marks_of more rest), unread.1, unread.2)
no_kept live.OutOfMemory text tail marked unread = tt
no_kept (live.Pointer f) text tail marked (more, rest, parts, unread) = absurd unread
no_kept live.Missing text tail marked (more, rest, parts, unread) = absurd unread
no_kept live.NoPatches text tail marked (more, rest, parts, unread) = absurd unread
no_kept live.Conflict text tail marked (more, rest, parts, unread) = absurd unread
no_kept live.Pending text tail marked (more, rest, parts, unread) = absurd unread
no_kept live.TooLarge text tail marked (more, rest, parts, unread) = absurd unread

pub marked_text : (text : List ℕ) (d m : ℕ) → false ≡ (length text == 0) → slice_index_or text 0 d ≡ m → text ≡ m ∷ take (length text - 1) (drop 1 text)
marked_text [] d m some first = absurd (true≢false (sym some))
marked_text (b ∷ rest) d m some first = ap (λ x. x ∷ rest) first ∙ ap (λ t. m ∷ t) (sym (take_all (length (b ∷ rest) - 1) rest (omega arith)))
