-- What is read can be read: its texts are UTF-8, its numbers and its depth within the rules.
use Rattle.std.proofs.Common.{◌≡◌, ◌≤◌, ◌<◌, ◌^◌, ◌&&◌, ℕ, zero, suc, pos, neg_ℤ, nat_lt, nat_le, Bool, true, false, cond, List, [], ◌∷◌, length, Option, None, Some, IfSome, option_and_then, Ok, Err, IsUtf8, Ordering, Less, Equal, Greater, refl, subst, arith}
use Rattle.std.proofs.lemmas.Bool.{and_parts, leb-true, ltb-true}
use Rattle.std.proofs.lemmas.Int.{ints}
use Rattle.std.proofs.lemmas.Str.{IsUtf8-from_is_utf8}
use Rattle.std.proofs.lemmas.List.Elements.{All-cons, All-nil}
use Rattle.std.specs.List.{All}
use Rattle.std.specs.Ordering.{match_ordering}
use Rattle.std.specs.Str.{is_utf8}
use Rattle.json.specs.Json as json_text
use Rattle.json.specs.Json.{Json, Parse, parse_map, after_end_array, read_key, items_step, members_step, items, members, value_with, value}
use Rattle.json.specs.Lex.{tokens}
use Rattle.json.specs.Token as token
use Rattle.json.specs.Token.{Token}
use Rattle.serde_json.specs.Data as json
use Rattle.serde_json.specs.Data.{Data, Num, unsigned, negative, float}
use Rattle.serde_json.specs.Read as serde_json
use Rattle.serde_json.specs.Read.{number_of, of_json, of_items, of_members, max_depth}
use Rattle.serde_json.proofs.Nesting.{depth-read}
use Rattle.mp_tree.specs.Document.{Document, null, whole, string, list, object, Items, no_items, item, AreDocuments, IsDocument, IsWhole, IsReadable, depth, items_depth, depth_limit, Throughout, ThroughoutItems, ThroughoutMembers, put}
use Rattle.mp_tree.specs.Elements.{list_of}
use Rattle.mp_tree.specs.Laws.{ReadsReadable, ReadsReadables}
use Rattle.mp_tree.specs.Text.{from_data, items_from_data, members_from_data, whole_number, data_in, elements, whole_or_fault, json_or_fault, shallow_document, whole_document, json_document}
use Rattle.mp_tree.specs.declared.fault.ReadFault.TheVariants.{TooDeep}
use Rattle.mp_tree.proofs.Options.{if_both, if_either, if_mapped, if_then}
use Rattle.mp_tree.proofs.Readings.Documents.{document_of_data}
use Rattle.mp_tree.proofs.Texts.Written.{depth-from_data}
use Rattle.mp_tree.proofs.Documents.Sound.{readable}
use Rattle.mp_tree.proofs.Documents.Throughout.{Throughout-put}
use Rattle.mp_tree.proofs.Texts.Unescaped.{AreTexts, tokens-texts}

-- ---- the value that tokens are

abbrev mutual
  HasTokenTexts : Json → Type 0
  HasTokenTexts (json_text.string s) = IsUtf8 s
  HasTokenTexts (json_text.array js) = ItemsHaveTokenTexts js
  HasTokenTexts (json_text.object ms) = MembersHaveTokenTexts ms
  HasTokenTexts other = Unit {0}

  ItemsHaveTokenTexts : json_text.Items → Type 0
  ItemsHaveTokenTexts json_text.no_items = Unit {0}
  ItemsHaveTokenTexts (json_text.item j js) = HasTokenTexts j × ItemsHaveTokenTexts js

  MembersHaveTokenTexts : json_text.Members → Type 0
  MembersHaveTokenTexts json_text.no_members = Unit {0}
  MembersHaveTokenTexts (json_text.member k j ms) = IsUtf8 k × HasTokenTexts j × MembersHaveTokenTexts ms

abbrev Parsed : {A : Type 0} → (A → Type 0) → Option (A × List Token) → Type 0
Parsed P o = IfSome o (λ p. P p.0 × AreTexts p.1)

abbrev Keeps : {A : Type 0} → (A → Type 0) → Parse A → Type 0
Keeps P parse = (ts : List Token) → AreTexts ts → Parsed P (parse ts)

mapped : {A B : Type 0} (P : A → Type 0) (Q : B → Type 0) (h : A → B) → ((a : A) → P a → Q (h a)) → (o : Option (A × List Token)) → Parsed P o → Parsed Q (parse_map h o)
mapped P Q h keeps None parsed = tt
mapped P Q h keeps (Some p) parsed = (keeps p.0 parsed.0, parsed.1)

and_more : {B : Type 0} (Q : B → Type 0) (h : Json → B → B) → ((j : Json) (b : B) → HasTokenTexts j → Q b → Q (h j b)) → (more : Parse B) → Keeps Q more
    → (o : Option (Json × List Token)) → Parsed HasTokenTexts o → Parsed Q (option_and_then (λ q. parse_map (h q.0) (more q.1)) o)
and_more Q h keeps more again None parsed = tt
and_more Q h keeps more again (Some q) parsed = mapped Q Q (h q.0) (λ b fine. keeps q.0 b parsed.0 fine) (more q.1) (again q.1 parsed.1)

end-texts : (ts : List Token) → AreTexts ts → IfSome (after_end_array ts) AreTexts
end-texts (token.end_array ∷ ts) texts = texts.1
end-texts other texts = tt

key-texts : (ts : List Token) → AreTexts ts → IfSome (read_key ts) (λ p. IfSome p.0 IsUtf8 × AreTexts p.1)
key-texts (token.end_object ∷ ts) texts = (tt, texts.1)
key-texts (token.key s ∷ ts) texts = (texts.0, texts.1)
key-texts other texts = tt

module _ (p : Parse Json) (keeps : Keeps HasTokenTexts p) where
  item_turn : (more : Parse json_text.Items) → Keeps ItemsHaveTokenTexts more → (ts : List Token) (o : Option (List Token)) → AreTexts ts → IfSome o AreTexts → Parsed ItemsHaveTokenTexts (items_step p more ts o)
  item_turn more again ts (Some r) texts rest = (tt, rest)
  item_turn more again ts None texts rest = and_more ItemsHaveTokenTexts json_text.item (λ j b here fine. (here, fine)) more again (p ts) (keeps ts texts)

  items-keep : (n : ℕ) → Keeps ItemsHaveTokenTexts (items p n)
  unfolding items
  items-keep zero ts texts = tt
  items-keep (suc n) ts texts = item_turn (items p n) (items-keep n) ts (after_end_array ts) texts (end-texts ts texts)

  member_turn : (more : Parse json_text.Members) → Keeps MembersHaveTokenTexts more → (o : Option (Option (List ℕ) × List Token)) → IfSome o (λ q. IfSome q.0 IsUtf8 × AreTexts q.1)
      → Parsed MembersHaveTokenTexts (option_and_then (λ q. members_step p more q.0 q.1) o)
  member_turn more again None texts = tt
  member_turn more again (Some (None, s)) texts = (tt, texts.1)
  member_turn more again (Some (Some k, s)) texts = and_more MembersHaveTokenTexts (json_text.member k) (λ j b here fine. (texts.0, here, fine)) more again (p s) (keeps s texts.1)

  members-keep : (n : ℕ) → Keeps MembersHaveTokenTexts (members p n)
  unfolding members
  members-keep zero ts texts = tt
  members-keep (suc n) ts texts = member_turn (members p n) (members-keep n) (read_key ts) (key-texts ts texts)

one_level : (a : Parse json_text.Items) (o : Parse json_text.Members) → Keeps ItemsHaveTokenTexts a → Keeps MembersHaveTokenTexts o → Keeps HasTokenTexts (value_with a o)
one_level a o p q (token.begin_object ∷ ts) texts = mapped MembersHaveTokenTexts HasTokenTexts json_text.object (λ ms fine. fine) (o ts) (q ts texts.1)
one_level a o p q (token.begin_array ∷ ts) texts = mapped ItemsHaveTokenTexts HasTokenTexts json_text.array (λ js fine. fine) (a ts) (p ts texts.1)
one_level a o p q (token.string s ∷ ts) texts = (texts.0, texts.1)
one_level a o p q (token.number s ∷ ts) texts = (tt, texts.1)
one_level a o p q (token.boolean b ∷ ts) texts = (tt, texts.1)
one_level a o p q (token.null ∷ ts) texts = (tt, texts.1)
one_level a o p q other texts = tt

value-keeps : (d : ℕ) → Keeps HasTokenTexts (value d)
unfolding value
value-keeps zero = one_level (λ ts. None) (λ ts. None) (λ ts texts. tt) (λ ts texts. tt)
value-keeps (suc d) =
    one_level (λ ts. items (value d) (length ts) ts) (λ ts. members (value d) (length ts) ts)
    (λ ts. items-keep (value d) (value-keeps d) (length ts) ts) (λ ts. members-keep (value d) (value-keeps d) (length ts) ts)

last-texts : (o : Option (Json × List Token)) → Parsed HasTokenTexts o → IfSome (option_and_then (λ p. json_text.if_last p.0 p.1) o) HasTokenTexts
last-texts (Some (j, [])) parsed = parsed.0
last-texts other parsed = tt

-- ---- the numbers of a reading

abbrev IsNum : Num → Type 0
IsNum (unsigned n) = n < 2 ^ 64
IsNum (negative z) = IsWhole z
IsNum (float x) = Unit {0}

negative-whole : (n : ℕ) → 0 < n → n ≤ 2 ^ 63 → IsWhole (neg_ℤ (pos n))
negative-whole zero some small = absurd (omega arith)
negative-whole (suc n) some small = (omega (arith, ints), omega (arith, ints))

negative-num : (is : Bool) (n : ℕ) (other : Option Num) → IfSome other IsNum → IfSome (cond (is && nat_lt 0 n && nat_le n (2 ^ 63)) (Some (negative (neg_ℤ (pos n)))) other) IsNum
negative-num is n other rest = if_either IsNum (is && nat_lt 0 n && nat_le n (2 ^ 63)) _ other
    (λ fits. let both = and_parts (is && nat_lt 0 n) (nat_le n (2 ^ 63)) fits in negative-whole n (ltb-true _ _ (and_parts is (nat_lt 0 n) both.0).1) (leb-true _ _ both.1)) (λ no. rest)

unsigned-num : (is : Bool) (n : ℕ) (other : Option Num) → IfSome other IsNum → IfSome (cond (is && nat_lt n (2 ^ 64)) (Some (unsigned n)) other) IsNum
unsigned-num is n other rest = if_either IsNum (is && nat_lt n (2 ^ 64)) (Some (unsigned n)) other (λ fits. ltb-true _ _ (and_parts is (nat_lt n (2 ^ 64)) fits).1) (λ no. rest)

float-num : (is : Bool) (x : _) → IfSome (cond is (Some (float x)) None) IsNum
float-num true x = tt
float-num false x = tt

either-num : (b : Bool) (x y : Option Num) → IfSome x IsNum → IfSome y IsNum → IfSome (cond b x y) IsNum
either-num true x y first second = first
either-num false x y first second = second

number-num : (s : List ℕ) → IfSome (number_of s) IsNum
unfolding number_of
number-num s = search (either-num, negative-num, unsigned-num, float-num)

-- ---- the data

abbrev mutual
  IsData : Data → Type 0
  IsData (json.number n) = IsNum n
  IsData (json.string s) = IsUtf8 s
  IsData (json.array ds) = AreData ds
  IsData (json.object ms) = MembersAreData ms
  IsData other = Unit {0}

  AreData : json.Items → Type 0
  AreData json.no_items = Unit {0}
  AreData (json.item d ds) = IsData d × AreData ds

  MembersAreData : json.Members → Type 0
  MembersAreData json.no_members = Unit {0}
  MembersAreData (json.member k d ms) = IsUtf8 k × IsData d × MembersAreData ms

put_at : (o : Ordering) (a b c : json.Members) → MembersAreData a → MembersAreData b → MembersAreData c → MembersAreData (match_ordering o a b c)
put_at Less a b c p q r = p
put_at Equal a b c p q r = q
put_at Greater a b c p q r = r

put-data : (k : List ℕ) (d : Data) (ms : json.Members) → IsUtf8 k → IsData d → MembersAreData ms → MembersAreData (json.put k d ms)
put-data k d json.no_members name here all = (name, here, all)
put-data k d (json.member l e ms) name here all =
    put_at _ (json.member k d (json.member l e ms)) (json.member l d ms) (json.member l e (json.put k d ms)) (name, here, all) (all.0, here, all.2) (all.0, all.1, put-data k d ms name here all.2)

mutual
  json-data : (j : Json) → HasTokenTexts j → IfSome (of_json j) IsData
  json-data (json_text.number s) texts = if_mapped json.number IsNum IsData (number_of s) (λ n is. is) (number-num s)
  json-data (json_text.string s) texts = texts
  json-data (json_text.array js) texts = if_mapped json.array AreData IsData (of_items js) (λ ds fine. fine) (items-data js texts)
  json-data (json_text.object ms) texts = if_mapped json.object MembersAreData IsData (of_members ms json.no_members) (λ es fine. fine) (members-data ms json.no_members texts tt)
  json-data other texts = tt

  items-data : (js : json_text.Items) → ItemsHaveTokenTexts js → IfSome (of_items js) AreData
  items-data json_text.no_items texts = tt
  items-data (json_text.item j js) texts = if_both json.item IsData AreData AreData (of_json j) (of_items js) (λ d ds here fine. (here, fine)) (json-data j texts.0) (items-data js texts.1)

  members-data : (ms : json_text.Members) (found : json.Members) → MembersHaveTokenTexts ms → MembersAreData found → IfSome (of_members ms found) MembersAreData
  members-data json_text.no_members found texts all = all
  members-data (json_text.member k j ms) found texts all =
      if_then IsData MembersAreData (of_json j) _ (json-data j texts.1) (λ d fine. members-data ms (json.put k d found) texts.2 (put-data k d found texts.0 fine all))

read-data : (bytes : List ℕ) → IsUtf8 bytes → IfSome (serde_json.read bytes) IsData
read-data bytes utf8 = if_then HasTokenTexts IsData _ of_json (last-texts (value max_depth (tokens bytes)) (value-keeps max_depth (tokens bytes) (tokens-texts bytes utf8))) json-data

-- ---- the document

whole_number-range : (n : Num) → IsNum n → IfSome (whole_number n) IsWhole
whole_number-range (unsigned n) is = (omega (arith, ints), omega (arith, ints))
whole_number-range (negative z) is = is
whole_number-range (float x) is = tt

mutual
  throughout_from : (x : Data) → IsData x → IfSome (from_data x) (Throughout IsWhole IsUtf8)
  throughout_from (json.number n) is = if_mapped whole IsWhole (Throughout IsWhole IsUtf8) (whole_number n) (λ z range. range) (whole_number-range n is)
  throughout_from (json.string s) is = is
  throughout_from (json.array ds) is = if_mapped list (ThroughoutItems IsWhole IsUtf8) (Throughout IsWhole IsUtf8) (items_from_data ds) (λ es all. all) (items_throughout ds is)
  throughout_from (json.object ms) is = if_mapped object (ThroughoutMembers IsWhole IsUtf8) (Throughout IsWhole IsUtf8) (members_from_data ms) (λ es all. all) (members_throughout ms is)
  throughout_from other is = tt

  items_throughout : (ds : json.Items) → AreData ds → IfSome (items_from_data ds) (ThroughoutItems IsWhole IsUtf8)
  items_throughout json.no_items is = tt
  items_throughout (json.item d ds) is =
      if_both item (Throughout IsWhole IsUtf8) (ThroughoutItems IsWhole IsUtf8) (ThroughoutItems IsWhole IsUtf8) (from_data d) (items_from_data ds) (λ e es here all. (here, all)) (throughout_from d is.0) (items_throughout ds is.1)

  members_throughout : (ms : json.Members) → MembersAreData ms → IfSome (members_from_data ms) (ThroughoutMembers IsWhole IsUtf8)
  members_throughout json.no_members is = tt
  members_throughout (json.member n d ms) is =
      if_both (put n) (Throughout IsWhole IsUtf8) (ThroughoutMembers IsWhole IsUtf8) (ThroughoutMembers IsWhole IsUtf8) (from_data d) (members_from_data ms)
      (λ e es here all. Throughout-put IsWhole IsUtf8 n e es is.0 here all) (throughout_from d is.1) (members_throughout ms is.2)

-- of bytes, what their reading is and how deep it nests
pub record IsReadFrom (bytes : List ℕ) (x : Data) : Type 0 where
  pub throughout : IfSome (from_data x) (Throughout IsWhole IsUtf8)
  pub nests : json.depth x ≤ 127

pub data_in-is : (bytes : List ℕ) (x : Data) → data_in bytes ≡ Some x → IsReadFrom bytes x
data_in-is bytes x is = by (is_utf8 bytes) refl is
  where
    by : (b : Bool) → is_utf8 bytes ≡ b → cond b (serde_json.read bytes) None ≡ Some x → IsReadFrom bytes x
    by false utf8 is = absurd (cc)
    by true utf8 is = record {
      throughout = throughout_from x (subst (λ (o : Option Data). IfSome o IsData) is (read-data bytes (IsUtf8-from_is_utf8 bytes utf8)));
      nests = depth-read bytes x is;
    }

-- ---- what was read

-- the document of a reading
record IsFrom (d : Document) : Type 0 where
  is_document : IsDocument d
  throughout : Throughout IsWhole IsUtf8 d
  nests : depth d ≤ 127

from_reading : (bytes : List ℕ) (x : Data) (d : Document) → data_in bytes ≡ Some x → from_data x ≡ Some d → IsFrom d
from_reading bytes x d read is = let from = data_in-is bytes x read in record {
  is_document = subst (λ (o : Option Document). IfSome o IsDocument) is (document_of_data x);
  throughout = subst (λ (o : Option Document). IfSome o (Throughout IsWhole IsUtf8)) is from.throughout;
  nests = omega (arith, from.nests, subst (λ (o : Option Document). IfSome o (λ e. depth e ≤ json.depth x)) is (depth-from_data x));
}

all_readable : (ds : Items) → AreDocuments ds → ThroughoutItems IsWhole IsUtf8 ds → items_depth ds ≤ depth_limit → All IsReadable (list_of ds)
all_readable no_items good all within = All-nil IsReadable
all_readable (item d ds) good all within = All-cons IsReadable d (list_of ds) (readable d (good.0, all.0) (omega arith)) (all_readable ds good.1 all.1 (omega arith))

of_shallow : (d e : Document) → IsFrom e → shallow_document e ≡ Ok d → IsReadable d
of_shallow d e from is = by (nat_le (depth e) depth_limit) refl is
  where
    by : (b : Bool) → nat_le (depth e) depth_limit ≡ b → cond b (Ok e) (Err TooDeep) ≡ Ok d → IsReadable d
    by false deep is = absurd (cc)
    by true shallow is = let same : e ≡ d = cc in subst IsReadable same (readable e (from.is_document, from.throughout) (leb-true _ _ shallow))

pub reads_readable : ReadsReadable
reads_readable bytes d is = by_reading (data_in bytes) refl is
  where
    by_document : (x : Data) (o : Option Document) → data_in bytes ≡ Some x → from_data x ≡ o → whole_document o ≡ Ok d → IsReadable d
    by_document x None read none is = absurd (cc)
    by_document x (Some e) read whole_ones is = of_shallow d e (from_reading bytes x e read whole_ones) is

    by_reading : (o : Option Data) → data_in bytes ≡ o → json_document o ≡ Ok d → IsReadable d
    by_reading None none is = absurd (cc)
    by_reading (Some x) read is = by_document x (from_data x) read refl is

of_elements : (d : Document) (ds : Items) → IsFrom d → elements d ≡ Ok ds → All IsReadable (list_of ds)
of_elements (list es) ds from is = let same : es ≡ ds = cc in subst (λ es. All IsReadable (list_of es)) same (all_readable es from.is_document from.throughout (omega (arith, from.nests)))
of_elements other ds from is = absurd (cc)

pub reads_readables : ReadsReadables
reads_readables bytes ds is = by_reading (data_in bytes) refl is
  where
    by_document : (x : Data) (o : Option Document) → data_in bytes ≡ Some x → from_data x ≡ o → whole_or_fault o ≡ Ok ds → All IsReadable (list_of ds)
    by_document x None read none is = absurd (cc)
    by_document x (Some e) read whole_ones is = of_elements e ds (from_reading bytes x e read whole_ones) is

    by_reading : (o : Option Data) → data_in bytes ≡ o → json_or_fault o ≡ Ok ds → All IsReadable (list_of ds)
    by_reading None none is = absurd (cc)
    by_reading (Some x) read is = by_document x (from_data x) read refl is
