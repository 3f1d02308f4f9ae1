-- A text that was written is read back.
use Rattle.std.proofs.Common.{◌≡◌, ◌≤◌, ◌<◌, ◌^◌, ◌-◌, ◌≤ℤ◌, inl, inr, ℕ, ℤ, pos, negsuc, suc, max, List, [], ◌∷◌, Bool, true, false, Some, option_and_then, option_map, IsUtf8, decimal, refl, sym, ap, ap₂, ◌∙◌, subst, arith, append-nil}
use Rattle.std.proofs.lemmas.Bool.{cases_eq}
use Rattle.std.proofs.lemmas.Fmt.{IsAscii-decimal}
use Rattle.std.proofs.lemmas.Int.{ints}
use Rattle.std.proofs.lemmas.Str.{IsUtf8-append, IsUtf8-nil, IsUtf8-from_ascii, is_utf8-from_IsUtf8}
use Rattle.std.specs.Fmt.{digits, signed_decimal}
use Rattle.json.specs.Json as json_text
use Rattle.json.specs.Lex.{tokens}
use Rattle.json.specs.Print.{IsNumber}
use Rattle.json.specs.Tree as tree
use Rattle.json.specs.Tree.{HasNumbers, ItemsHaveNumbers, MembersHaveNumbers, json_tokens}
use Rattle.json.proofs.OnLiterals.{json_on_literals}
use Rattle.json.proofs.Printed.Decimals.{IsNumber-decimal, IsNumber-signed_decimal}
use Rattle.json.proofs.Printed.Tokens.{tokens-print}
use Rattle.json.proofs.Printed.Trees.{value-json_tokens, ArePrintable-json_tokens}
use Rattle.json.proofs.Printed.Utf8.{IsUtf8-quoted, IsUtf8-boolean, IsUtf8-are_ascii}
use Rattle.serde_json.specs.Data as json
use Rattle.serde_json.specs.Data.{Data, number}
use Rattle.serde_json.specs.Find.{of_integer}
use Rattle.serde_json.specs.Read as serde_json
use Rattle.serde_json.specs.Read.{number_of, of_json, of_items, of_members, max_depth}
use Rattle.serde_json.specs.Written.{number_text, outline, items_outline, members_outline, comma_if, items_text, members_text}
use Rattle.serde_json.proofs.Numbers.{number_of-decimal, number_of-negative}
use Rattle.serde_json.proofs.Texts.{print-outline}
use Rattle.mp_tree.specs.ByName.{by_name, items_by_name, members_by_name}
use Rattle.mp_tree.specs.Document.{Document, null, flag, whole, string, list, object, Items, no_items, item, Members, no_members, member, put, IsWhole, IsInRange, HasTexts, ThroughoutItems, ThroughoutMembers, depth}
use Rattle.mp_tree.specs.Laws.{ReadsBack, ReadsUtf8Back, ReadsAnyOrder, ReadsUtf8AnyOrder, EqualTexts}
use Rattle.mp_tree.specs.Text.{from_data, data_of, items_data, members_data, text, read, data_in}
use Rattle.mp_tree.proofs.Texts.ByName.{by_name-document, by_name-same, members_data-put}
use Rattle.mp_tree.proofs.Texts.Written.{depth-data_of, from_data-data_of}
use Rattle.mp_tree.proofs.Options.{some_same}

-- ---- a whole number's digits

least_is_number : IsNumber (signed_decimal (negsuc (2 ^ 63 - 1)))
unfolding json_on_literals digits
least_is_number = refl

IsNumber-negative : (n : ℕ) → n < 2 ^ 63 → IsNumber (signed_decimal (negsuc n))
IsNumber-negative n h = elim (cases_eq n (2 ^ 63 - 1)) [ inl same ↦ subst (λ k. IsNumber (signed_decimal (negsuc k))) (sym same) least_is_number | inr other ↦ IsNumber-signed_decimal (negsuc n) (omega arith) ]

bound_above : (n : ℕ) → pos n ≤ℤ pos (2 ^ 64 - 1) → n < 2 ^ 64
bound_above n h = omega (arith, ints)

bound_below : (n : ℕ) → negsuc (2 ^ 63 - 1) ≤ℤ negsuc n → n < 2 ^ 63
bound_below n h = omega (arith, ints)

pub has_number : (z : ℤ) → IsWhole z → IsNumber (number_text (of_integer z))
has_number (pos n) h = IsNumber-decimal n (bound_above n h.1)
has_number (negsuc n) h = IsNumber-negative n (bound_below n h.0)

reads_number : (z : ℤ) → IsWhole z → number_of (number_text (of_integer z)) ≡ Some (of_integer z)
reads_number (pos n) h = number_of-decimal n (bound_above n h.1)
reads_number (negsuc n) h = number_of-negative n (bound_below n h.0)

IsUtf8-number : (z : ℤ) → IsWhole z → IsUtf8 (number_text (of_integer z))
IsUtf8-number (pos n) h = IsUtf8-from_ascii (decimal n) (IsAscii-decimal n (bound_above n h.1))
IsUtf8-number (negsuc n) h =
    let below = bound_below n h.0 in
    IsUtf8-append (45 ∷ []) (decimal (suc n)) (IsUtf8-are_ascii (45 ∷ []) refl) (IsUtf8-from_ascii (decimal (suc n)) (IsAscii-decimal (suc n) (omega arith)))

-- ---- the tokens are those of a value that nests no deeper

mutual
  depth-outline : (x : Data) → tree.depth (outline x) ≡ json.depth x
  depth-outline (json.array xs) = ap suc (items_depth-outline xs)
  depth-outline (json.object ms) = ap suc (members_depth-outline ms)
  depth-outline other = refl

  items_depth-outline : (xs : json.Items) → tree.items_depth (items_outline xs) ≡ json.items_depth xs
  items_depth-outline json.no_items = refl
  items_depth-outline (json.item x xs) = ap₂ max (depth-outline x) (items_depth-outline xs)

  members_depth-outline : (xs : json.Members) → tree.members_depth (members_outline xs) ≡ json.members_depth xs
  members_depth-outline json.no_members = refl
  members_depth-outline (json.member n x xs) = ap₂ max (depth-outline x) (members_depth-outline xs)

mutual
  pub has_numbers : (d : Document) → IsInRange d → HasNumbers (outline (data_of d))
  has_numbers (whole z) h = has_number z h
  has_numbers (list ds) h = items_have_numbers ds h
  has_numbers (object ms) h = members_have_numbers ms h
  has_numbers other h = tt

  items_have_numbers : (ds : Items) → ThroughoutItems IsWhole (λ s. Unit {0}) ds → ItemsHaveNumbers (items_outline (items_data ds))
  items_have_numbers no_items h = tt
  items_have_numbers (item d ds) h = (has_numbers d h.0, items_have_numbers ds h.1)

  members_have_numbers : (ms : Members) → ThroughoutMembers IsWhole (λ s. Unit {0}) ms → MembersHaveNumbers (members_outline (members_data ms))
  members_have_numbers no_members h = tt
  members_have_numbers (member n d ms) h = (has_numbers d h.1, members_have_numbers ms h.2)

-- ---- members are read one after another, each put among those before it

mutual
  reads_outline : (d : Document) → IsInRange d → of_json (outline (data_of d)) ≡ Some (data_of (by_name d))
  reads_outline (whole z) range = ap (option_map number) (reads_number z range)
  reads_outline (list ds) range = ap (option_map json.array) (reads_items ds range)
  reads_outline (object ms) range = ap (option_map json.object) (reads_members ms no_members range)
  reads_outline other range = refl

  reads_items : (ds : Items) → ThroughoutItems IsWhole (λ s. Unit {0}) ds → of_items (items_outline (items_data ds)) ≡ Some (items_data (items_by_name ds))
  reads_items no_items range = refl
  reads_items (item d ds) range = rw (reads_outline d range.0, reads_items ds range.1)

  reads_members : (ms found : Members) → ThroughoutMembers IsWhole (λ s. Unit {0}) ms → of_members (members_outline (members_data ms)) (members_data found) ≡ Some (members_data (members_by_name ms found))
  reads_members no_members found range = refl
  reads_members (member n d ms) found range =
      let next : json.put n (data_of (by_name d)) (members_data found) ≡ members_data (put n (by_name d) found) = sym (members_data-put n (by_name d) found) in
      rw (reads_outline d range.1) (ap (of_members (members_outline (members_data ms))) next ∙ reads_members ms (put n (by_name d) found) range.2)

-- ---- the text is UTF-8

IsUtf8-comma : (later : Bool) → IsUtf8 (comma_if later)
IsUtf8-comma true = IsUtf8-are_ascii (44 ∷ []) refl
IsUtf8-comma false = IsUtf8-nil

one : (x : ℕ) (xs : List ℕ) → IsUtf8 (x ∷ []) → IsUtf8 xs → IsUtf8 (x ∷ xs)
one x xs = IsUtf8-append (x ∷ []) xs

mutual
  pub IsUtf8-text : (d : Document) → IsInRange d → HasTexts d → IsUtf8 (text d)
  IsUtf8-text null range texts = IsUtf8-are_ascii _ refl
  IsUtf8-text (flag b) range texts = IsUtf8-boolean b
  IsUtf8-text (whole z) range texts = IsUtf8-number z range
  IsUtf8-text (string s) range texts = IsUtf8-quoted s texts
  IsUtf8-text (list ds) range texts = one 91 _ (IsUtf8-are_ascii (91 ∷ []) refl) (IsUtf8-items false ds range texts)
  IsUtf8-text (object ms) range texts = one 123 _ (IsUtf8-are_ascii (123 ∷ []) refl) (IsUtf8-members false ms range texts)

  IsUtf8-items : (later : Bool) (ds : Items) → ThroughoutItems IsWhole (λ s. Unit {0}) ds → ThroughoutItems (λ z. Unit {0}) IsUtf8 ds → IsUtf8 (items_text later (items_data ds))
  IsUtf8-items later no_items range texts = IsUtf8-are_ascii (93 ∷ []) refl
  IsUtf8-items later (item d ds) range texts = IsUtf8-append _ _ (IsUtf8-comma later) (IsUtf8-append _ _ (IsUtf8-text d range.0 texts.0) (IsUtf8-items true ds range.1 texts.1))

  IsUtf8-members : (later : Bool) (ms : Members) → ThroughoutMembers IsWhole (λ s. Unit {0}) ms → ThroughoutMembers (λ z. Unit {0}) IsUtf8 ms → IsUtf8 (members_text later (members_data ms))
  IsUtf8-members later no_members range texts = IsUtf8-are_ascii (125 ∷ []) refl
  IsUtf8-members later (member n d ms) range texts =
      let value = IsUtf8-append _ _ (IsUtf8-text d range.1 texts.1) (IsUtf8-members true ms range.2 texts.2) in
      IsUtf8-append _ _ (IsUtf8-comma later) (IsUtf8-append _ _ (IsUtf8-quoted n texts.0) (one 58 _ (IsUtf8-are_ascii (58 ∷ []) refl) value))

-- ---- the round trip

-- the tokens are all that is read of bytes that are UTF-8
pub reads_same_tokens : (bytes : List ℕ) (d : Document) → IsUtf8 bytes → tokens bytes ≡ tokens (text d) → IsInRange d → depth d ≤ max_depth → data_in bytes ≡ Some (data_of (by_name d))
reads_same_tokens bytes d utf8 same range within =
    let j = outline (data_of d) in
    let printed : tokens (text d) ≡ json_tokens j = ap tokens (sym (print-outline (data_of d))) ∙ tokens-print (json_tokens j) (ArePrintable-json_tokens j (has_numbers d range)) in
    let nests : tree.depth j ≤ max_depth = omega (arith, depth-outline (data_of d), depth-data_of d) in
    let whole_text : serde_json.read bytes ≡ Some (data_of (by_name d)) =
    ap (λ o. option_and_then of_json (option_and_then (λ p. json_text.if_last p.0 p.1) o)) (ap (json_text.value max_depth) (same ∙ printed ∙ sym (append-nil (json_tokens j))) ∙ value-json_tokens j max_depth [] nests)
    ∙ reads_outline d range in
    rw (is_utf8-from_IsUtf8 bytes utf8) whole_text

pub read-any_utf8 : ReadsUtf8AnyOrder
read-any_utf8 d range within utf8 = ap (option_and_then from_data) (reads_same_tokens (text d) d utf8 refl range within) ∙ from_data-data_of (by_name d) (by_name-document d)

pub read-any_order : ReadsAnyOrder
read-any_order d range texts within = read-any_utf8 d range within (IsUtf8-text d range texts)

pub read-utf8 : ReadsUtf8Back
read-utf8 d good range within utf8 = read-any_utf8 d range (omega arith) utf8 ∙ ap Some (by_name-same d good)

pub read-text : ReadsBack
read-text d can = read-utf8 d can.is_document can.in_range can.within (IsUtf8-text d can.in_range can.has_texts)

pub same-text : EqualTexts
same-text d e can could = (λ same. ap text same, λ same. some_same d e (sym (read-text d can) ∙ ap read same ∙ read-text e could))
