-- The text of pairs that conflict is read as the array of them, and is the text of these pairs alone.
use Rattle.std.proofs.Common.{◌≡◌, ◌≤◌, ◌<◌, ◌^◌, ◌++◌, ℕ, true, pos, List, [], ◌∷◌, map, codes, Some, Ok, IsUtf8, refl, sym, ap, ap₂, ◌∙◌, subst, arith, append_assoc}
use Rattle.std.specs.List.{All}
use Rattle.std.proofs.lemmas.Int.{ints}
use Rattle.std.proofs.lemmas.List.Elements.{All-head, All-tail, All-weaker}
use Rattle.json.proofs.OnLiterals.{json_on_literals}
use Rattle.json.proofs.Printed.Utf8.{IsUtf8-are_ascii}
use Rattle.serde_json.specs.Written.{items_text}
use Rattle.mp_tree.specs.ByName.{by_name, items_by_name}
use Rattle.mp_tree.specs.Document.{Document, list, object, item, member, no_members, put, depth, items_depth, AreDocuments, IsInRange, HasTexts, IsWhole}
use Rattle.mp_tree.specs.Elements.{items_of}
use Rattle.mp_tree.specs.Laws.{DocumentIsByName, ReadsAnyOrder, ReadsUtf8AnyOrder}
use Rattle.mp_tree.specs.Look.{Path}
use Rattle.mp_tree.specs.Text.{document_in, items_data, read, text as compact}
use Rattle.mp_tree.proofs.Facts.{document_in-read}
use Rattle.mp_pointer.specs.Laws.{HasOneSpelling}
use Rattle.mp_pointer.specs.Spelling.{spell}
use Rattle.mp_texts.specs.Answers.{place_of, places_list}
use Rattle.mp_replica.specs.LogTexts.{identity_document, more_pairs_text, pair_text, pairs_text}
use Rattle.mp_replica.specs.PairsRead.{HasIdentitiesOf64Bits, HasNumbersOf64Bits, IsReadablePair, PairsReadBack, PairsReadUtf8Back, TextIsOfOnePairs, pair_document, pairs_document}
use Rattle.mp_replica.specs.PatchLog.{Pair}
use Rattle.mp_replica.specs.declared.message.Identity.{Identity}
use Rattle.mp_replica.proofs.Keeping.{places_same}

-- ---- what is written, with the names in the order of the text

abbrev pair_form : Pair → Document
pair_form pair = object (member (codes "first") (identity_document pair.first) (member (codes "second") (identity_document pair.second) (member (codes "places") (places_list pair.places) no_members)))

abbrev pairs_form : List Pair → Document
pairs_form pairs = list (items_of (map pair_form pairs))

seven : (a i b j c p e : List ℕ) → a ++ (i ++ (b ++ (j ++ (c ++ (p ++ e))))) ≡ a ++ i ++ b ++ j ++ c ++ p ++ e
seven a i b j c p e =
    sym (append_assoc a i (b ++ (j ++ (c ++ (p ++ e)))))
    ∙ sym (append_assoc (a ++ i) b (j ++ (c ++ (p ++ e))))
    ∙ sym (append_assoc (a ++ i ++ b) j (c ++ (p ++ e)))
    ∙ sym (append_assoc (a ++ i ++ b ++ j) c (p ++ e))
    ∙ sym (append_assoc (a ++ i ++ b ++ j ++ c) p e)

pair_text-form : (pair : Pair) → compact (pair_form pair) ≡ pair_text pair
unfolding json_on_literals
pair_text-form pair =
    seven (codes "{\"first\":") (compact (identity_document pair.first)) (codes ",\"second\":") (compact (identity_document pair.second)) (codes ",\"places\":") (compact (places_list pair.places)) (codes "}")

-- a pair after a bracket or a comma, and what follows it
then_more : (before : List ℕ) (pair : Pair) (rest more : List ℕ) → rest ≡ more ++ codes "]" → before ++ (compact (pair_form pair) ++ rest) ≡ before ++ pair_text pair ++ more ++ codes "]"
then_more before pair rest more same =
    ap₂ (λ t u. before ++ (t ++ u)) (pair_text-form pair) same
    ∙ sym (append_assoc before (pair_text pair) (more ++ codes "]"))
    ∙ sym (append_assoc (before ++ pair_text pair) more (codes "]"))

more_text-form : (pairs : List Pair) → items_text true (items_data (items_of (map pair_form pairs))) ≡ more_pairs_text pairs ++ codes "]"
more_text-form [] = refl
more_text-form (pair ∷ pairs) = then_more (codes ",") pair (items_text true (items_data (items_of (map pair_form pairs)))) (more_pairs_text pairs) (more_text-form pairs)

text-form : (pairs : List Pair) → compact (pairs_form pairs) ≡ pairs_text pairs
text-form [] = refl
text-form (pair ∷ pairs) = then_more (codes "[") pair (items_text true (items_data (items_of (map pair_form pairs)))) (more_pairs_text pairs) (more_text-form pairs)

-- ---- by name

places_good : (places : List Path) → AreDocuments (items_of (map place_of places))
places_good [] = tt
places_good (place ∷ places) = (tt, places_good places)

module _ (same : DocumentIsByName) where
  pair_by_name : (pair : Pair) → by_name (pair_form pair) ≡ pair_document pair
  pair_by_name pair =
      ap (λ places. object (put (codes "places") places (put (codes "second") (identity_document pair.second) (put (codes "first") (identity_document pair.first) no_members))))
      (same (places_list pair.places) (places_good pair.places))

  pairs_by_name : (pairs : List Pair) → items_by_name (items_of (map pair_form pairs)) ≡ items_of (map pair_document pairs)
  pairs_by_name [] = refl
  pairs_by_name (pair ∷ pairs) = ap₂ item (pair_by_name pair) (pairs_by_name pairs)

-- ---- what is written can be read

number_within : (n : ℕ) → n < 2 ^ 64 → IsWhole (pos n)
number_within n less = (omega (arith, ints), omega (arith, ints))

identity_within : (i : Identity) → HasNumbersOf64Bits i → IsInRange (identity_document i)
identity_within i has = (number_within i.sender has.sender, (number_within i.number has.number, tt))

places_within : (places : List Path) → IsInRange (places_list places)
places_within [] = tt
places_within (place ∷ places) = (tt, places_within places)

pairs_within : (pairs : List Pair) → All HasIdentitiesOf64Bits pairs → IsInRange (pairs_form pairs)
pairs_within [] all = tt
pairs_within (pair ∷ pairs) all =
    let here = All-head HasIdentitiesOf64Bits pair pairs all in (
      (tt, identity_within pair.first here.first, (tt, identity_within pair.second here.second, (tt, places_within pair.places, tt))),
      pairs_within pairs (All-tail HasIdentitiesOf64Bits pair pairs all),
    )

places_texts : (places : List Path) → All (λ place. IsUtf8 (spell place)) places → HasTexts (places_list places)
places_texts [] all = tt
places_texts (place ∷ places) all = (All-head (λ p. IsUtf8 (spell p)) place places all, places_texts places (All-tail (λ p. IsUtf8 (spell p)) place places all))

pairs_texts : (pairs : List Pair) → All IsReadablePair pairs → HasTexts (pairs_form pairs)
pairs_texts [] all = tt
pairs_texts (pair ∷ pairs) all =
    let here = All-head IsReadablePair pair pairs all in (
      (IsUtf8-are_ascii _ refl, (tt, (tt, tt)), (IsUtf8-are_ascii _ refl, (tt, (tt, tt)), (IsUtf8-are_ascii _ refl, places_texts pair.places here.places, tt))),
      pairs_texts pairs (All-tail IsReadablePair pair pairs all),
    )

no_depth : (places : List Path) → items_depth (items_of (map place_of places)) ≡ 0
no_depth [] = refl
no_depth (place ∷ places) = omega (arith, no_depth places)

pair_depth : (pair : Pair) → depth (pair_form pair) ≡ 2
pair_depth pair = omega (arith, no_depth pair.places)

document_depth : (pair : Pair) → depth (pair_document pair) ≡ 2
document_depth pair = omega (arith, no_depth pair.places)

each_within : (f : Pair → Document) → ((pair : Pair) → depth (f pair) ≡ 2) → (pairs : List Pair) → items_depth (items_of (map f pairs)) ≤ 2
each_within f two [] = omega arith
each_within f two (pair ∷ pairs) = omega (arith, two pair, each_within f two pairs)

-- ---- the reading

module _ (same : DocumentIsByName) where
  read_as : (pairs : List Pair) → read (compact (pairs_form pairs)) ≡ Some (by_name (pairs_form pairs)) → document_in (pairs_text pairs) ≡ Ok (pairs_document pairs)
  read_as pairs reads =
      document_in-read (pairs_text pairs) (pairs_document pairs)
      (subst (λ t. read t ≡ Some (pairs_document pairs)) (text-form pairs) (reads ∙ ap (λ ds. Some (list ds)) (pairs_by_name same pairs)))
      (omega (arith, each_within pair_document document_depth pairs))

  pub pairs_read_back : ReadsAnyOrder → PairsReadBack
  pairs_read_back reads pairs all =
      let numbers = All-weaker IsReadablePair HasIdentitiesOf64Bits (λ pair readable. readable.identities) pairs all in
      read_as pairs (reads (pairs_form pairs) (pairs_within pairs numbers) (pairs_texts pairs all) (omega (arith, each_within pair_form pair_depth pairs)))

  pub pairs_read_utf8 : ReadsUtf8AnyOrder → PairsReadUtf8Back
  pairs_read_utf8 reads pairs numbers utf8 =
      read_as pairs (reads (pairs_form pairs) (pairs_within pairs numbers) (omega (arith, each_within pair_form pair_depth pairs)) (subst IsUtf8 (sym (text-form pairs)) utf8))

-- ---- one list of pairs

abbrev identity_of : ℕ → ℕ → Identity
identity_of sender number = record { sender = sender; number = number }

abbrev pair_of : Identity → Identity → List Path → Pair
pair_of first second places = record { first = first; second = second; places = places }

identity_same : (i j : Identity) → identity_document i ≡ identity_document j → i ≡ j
identity_same i j same =
    let sender : i.sender ≡ j.sender = cc in
    let number : i.number ≡ j.number = cc in
    ap₂ identity_of sender number

pair_same : HasOneSpelling → (pair other : Pair) → pair_document pair ≡ pair_document other → pair ≡ other
pair_same one pair other same =
    let first : identity_document pair.first ≡ identity_document other.first = cc in
    let second : identity_document pair.second ≡ identity_document other.second = cc in
    let places : places_list pair.places ≡ places_list other.places = cc in
    ap₂ (λ i j. pair_of i j pair.places) (identity_same pair.first other.first first) (identity_same pair.second other.second second)
    ∙ ap (pair_of other.first other.second) (places_same one pair.places other.places places)

pairs_same : HasOneSpelling → (pairs others : List Pair) → items_of (map pair_document pairs) ≡ items_of (map pair_document others) → pairs ≡ others
pairs_same one [] [] same = refl
pairs_same one [] (other ∷ others) same = absurd (cc)
pairs_same one (pair ∷ pairs) [] same = absurd (cc)
pairs_same one (pair ∷ pairs) (other ∷ others) same =
    let first : pair_document pair ≡ pair_document other = cc in
    let rest : items_of (map pair_document pairs) ≡ items_of (map pair_document others) = cc in
    ap₂ (λ (p : Pair) ps. p ∷ ps) (pair_same one pair other first) (pairs_same one pairs others rest)

pub text_is_of_one_pairs : DocumentIsByName → ReadsUtf8AnyOrder → HasOneSpelling → TextIsOfOnePairs
text_is_of_one_pairs same reads one pairs others numbers other_numbers utf8 text =
    let here : document_in (pairs_text pairs) ≡ Ok (pairs_document pairs) = pairs_read_utf8 same reads pairs numbers utf8 in
    let there : document_in (pairs_text others) ≡ Ok (pairs_document others) = pairs_read_utf8 same reads others other_numbers (subst IsUtf8 text utf8) in
    let both : pairs_document pairs ≡ pairs_document others = (let is = sym here ∙ ap document_in text ∙ there in cc) in
    pairs_same one pairs others (let is = both in cc)
