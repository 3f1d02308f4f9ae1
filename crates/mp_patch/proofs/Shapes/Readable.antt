-- The document of operations whose values can be read can be read, if they are not too deep for it.
use Rattle.std.proofs.Common.{◌≡◌, ◌≤◌, ◌+◌, ℕ, List, [], ◌∷◌, Some, codes, IsUtf8, refl, arith}
use Rattle.std.proofs.lemmas.List.Elements.{All-cons, All-head, All-nil, All-tail, All-weaker}
use Rattle.std.proofs.lemmas.Str.{IsUtf8-from_is_utf8}
use Rattle.std.specs.List.{All}
use Rattle.std.specs.Prelude.{⊤}
use Rattle.std.specs.Str.{chars, is_utf8}
use lib.Utf8.{encode}
use Rattle.mp_tree.specs.Document.{Document, string, Members, no_members, put, IsDocument, IsMap, IsWhole, IsReadable, IsInRange, HasTexts, ThroughoutMembers, depth_limit}
use Rattle.mp_tree.specs.Laws.{DocsAreDocuments, ReadsUtf8Back}
use Rattle.mp_tree.specs.Text.{read, text}
use Rattle.mp_tree.specs.View.{members_of}
use Rattle.mp_tree.proofs.Facts.{IsMap-put, Throughout-put}
use Rattle.mp_pointer.specs.Laws.{SpellingsAreTexts}
use Rattle.mp_pointer.specs.Spelling.{Tokens, spell}
use Rattle.mp_patch.specs.Form.{op_member, path_member, needed_members, shapes, deepest}
use Rattle.mp_patch.specs.Laws.{ShapesAreReadable}
use Rattle.mp_patch.specs.Operation.{Operation, add, remove, replace, move, copy, test}
use Rattle.mp_patch.specs.View.{operation_of, operations_of}
use Rattle.mp_patch.specs.Writable.{IsWritable}
use Rattle.mp_patch.specs.declared.op.Op.{Op}
use Rattle.mp_tree.specs.declared.doc.Doc.{Doc}
use Rattle.mp_patch.specs.declared.op.Op.TheVariants as op
use Rattle.mp_patch.proofs.Shapes.Made.{shapes-depth}

-- of the value of an operation, if it has one
abbrev pub ValueIs : (Document → Type 0) → Operation → Type 0
ValueIs P (add t v) = P v
ValueIs P (remove t) = ⊤
ValueIs P (replace t v) = P v
ValueIs P (move f t) = ⊤
ValueIs P (copy f t) = ⊤
ValueIs P (test t v) = P v

-- of a value that can be read
value-is : (P : Document → Type 0) → ((v : Document) → IsReadable v → P v) → (o : Operation) → IsWritable o → ValueIs P o
value-is P holds (add t v) is = holds v is.1
value-is P holds (remove t) is = tt
value-is P holds (replace t v) is = holds v is.1
value-is P holds (move f t) is = tt
value-is P holds (copy f t) is = tt
value-is P holds (test t v) is = holds v is.1

-- of the spellings of its pointers
abbrev TokensAre : (List ℕ → Type 0) → Operation → Type 0
TokensAre T (add t v) = T (spell t)
TokensAre T (remove t) = T (spell t)
TokensAre T (replace t v) = T (spell t)
TokensAre T (move f t) = T (spell f) × T (spell t)
TokensAre T (copy f t) = T (spell f) × T (spell t)
TokensAre T (test t v) = T (spell t)

-- of the names of operations and of their members
record NamesAre (T : List ℕ → Type 0) : Type 0 where
  is_add : T (codes "add")
  is_remove : T (codes "remove")
  is_replace : T (codes "replace")
  is_move : T (codes "move")
  is_copy : T (codes "copy")
  is_test : T (codes "test")
  is_op : T (codes "op")
  is_path : T (codes "path")
  is_from : T (codes "from")
  is_value : T (codes "value")

-- ---- what holds of texts, of values and of each map that is made of them holds of shapes

module _ (P : Document → Type 0) (Each : Members → Type 0) (T : List ℕ → Type 0) (none : Each no_members) (texts : (s : List ℕ) → T s → P (string s))
    (more : (n : List ℕ) (d : Document) (ms : Members) → T n → P d → Each ms → Each (put n d ms)) (names : NamesAre T) where
  alone : (name : List ℕ) (t : Tokens) → T name → T (spell t) → Each (members_of (op_member name ∷ path_member t ∷ []))
  alone name t is path = more (codes "op") (string name) _ names.is_op (texts name is) (more (codes "path") (string (spell t)) no_members names.is_path (texts (spell t) path) none)

  with_one : (name n : List ℕ) (t : Tokens) (d : Document) → T name → T (spell t) → T n → P d → Each (members_of (op_member name ∷ path_member t ∷ (n, d) ∷ []))
  with_one name n t d is path third holds =
      more (codes "op") (string name) _ names.is_op (texts name is)
      (more (codes "path") (string (spell t)) (put n d no_members) names.is_path (texts (spell t) path) (more n d no_members third holds none))

  needed-each : (o : Operation) → TokensAre T o → ValueIs P o → Each (members_of (needed_members o))
  needed-each (add t v) spelled value = with_one (codes "add") (codes "value") t v names.is_add spelled names.is_value value
  needed-each (remove t) spelled value = alone (codes "remove") t names.is_remove spelled
  needed-each (replace t v) spelled value = with_one (codes "replace") (codes "value") t v names.is_replace spelled names.is_value value
  needed-each (move f t) spelled value = with_one (codes "move") (codes "from") t (string (spell f)) names.is_move spelled.1 names.is_from (texts (spell f) spelled.0)
  needed-each (copy f t) spelled value = with_one (codes "copy") (codes "from") t (string (spell f)) names.is_copy spelled.1 names.is_from (texts (spell f) spelled.0)
  needed-each (test t v) spelled value = with_one (codes "test") (codes "value") t v names.is_test spelled names.is_value value

-- ---- a shape is a document, and its numbers are within the rule

any_tokens : (o : Operation) → TokensAre (λ s. ⊤) o
any_tokens (add t v) = tt
any_tokens (remove t) = tt
any_tokens (replace t v) = tt
any_tokens (move f t) = (tt, tt)
any_tokens (copy f t) = (tt, tt)
any_tokens (test t v) = tt

any_names : NamesAre (λ s. ⊤)
any_names = record { is_add = tt; is_remove = tt; is_replace = tt; is_move = tt; is_copy = tt; is_test = tt; is_op = tt; is_path = tt; is_from = tt; is_value = tt }

IsDocument-shapes : (operations : List Operation) → All (ValueIs IsDocument) operations → IsDocument (shapes operations)
IsDocument-shapes [] all = tt
IsDocument-shapes (o ∷ operations) all = (
  needed-each IsDocument IsMap (λ s. ⊤) tt (λ s is. tt) (λ n d ms name. IsMap-put n d ms) any_names o (any_tokens o) (All-head (ValueIs IsDocument) o operations all),
  IsDocument-shapes operations (All-tail (ValueIs IsDocument) o operations all),
)

IsInRange-shapes : (operations : List Operation) → All (ValueIs IsInRange) operations → IsInRange (shapes operations)
IsInRange-shapes [] all = tt
IsInRange-shapes (o ∷ operations) all = (
  needed-each IsInRange (ThroughoutMembers IsWhole (λ s. ⊤)) (λ s. ⊤) tt (λ s is. tt) (Throughout-put IsWhole (λ s. ⊤)) any_names o (any_tokens o) (All-head (ValueIs IsInRange) o operations all),
  IsInRange-shapes operations (All-tail (ValueIs IsInRange) o operations all),
)

-- ---- its texts are UTF-8

names_are_texts : NamesAre IsUtf8
unfolding is_utf8 chars encode
names_are_texts = record {
  is_add = IsUtf8-from_is_utf8 (codes "add") refl;
  is_remove = IsUtf8-from_is_utf8 (codes "remove") refl;
  is_replace = IsUtf8-from_is_utf8 (codes "replace") refl;
  is_move = IsUtf8-from_is_utf8 (codes "move") refl;
  is_copy = IsUtf8-from_is_utf8 (codes "copy") refl;
  is_test = IsUtf8-from_is_utf8 (codes "test") refl;
  is_op = IsUtf8-from_is_utf8 (codes "op") refl;
  is_path = IsUtf8-from_is_utf8 (codes "path") refl;
  is_from = IsUtf8-from_is_utf8 (codes "from") refl;
  is_value = IsUtf8-from_is_utf8 (codes "value") refl;
}

module _ (spelled : SpellingsAreTexts) where
  spelled_tokens : (o : Operation) → IsWritable o → TokensAre IsUtf8 o
  spelled_tokens (add t v) is = spelled t is.0
  spelled_tokens (remove t) is = spelled t is
  spelled_tokens (replace t v) is = spelled t is.0
  spelled_tokens (move f t) is = (spelled f is.0, spelled t is.1)
  spelled_tokens (copy f t) is = (spelled f is.0, spelled t is.1)
  spelled_tokens (test t v) is = spelled t is.0

  HasTexts-shapes : (operations : List Operation) → All IsWritable operations → HasTexts (shapes operations)
  HasTexts-shapes [] all = tt
  HasTexts-shapes (o ∷ operations) all =
      let is = All-head IsWritable o operations all in (
        needed-each HasTexts (ThroughoutMembers (λ z. ⊤) IsUtf8) IsUtf8 tt (λ s utf8. utf8) (Throughout-put (λ z. ⊤) IsUtf8) names_are_texts o (spelled_tokens o is) (value-is HasTexts (λ v can. can.has_texts) o is),
        HasTexts-shapes operations (All-tail IsWritable o operations all),
      )

-- ---- so it can be read

pub shapes_are_readable : SpellingsAreTexts → ShapesAreReadable
shapes_are_readable spelled operations all within = record {
  is_document = IsDocument-shapes operations (All-weaker IsWritable (ValueIs IsDocument) (value-is IsDocument (λ v can. can.is_document)) operations all);
  has_texts = HasTexts-shapes spelled operations all;
  in_range = IsInRange-shapes operations (All-weaker IsWritable (ValueIs IsInRange) (value-is IsInRange (λ v can. can.in_range)) operations all);
  within = omega (arith, shapes-depth operations);
}

-- ---- the values of a `JsonPatch` are those of its documents

module _ (docs : DocsAreDocuments) where
  op-document : (o : Op Doc) → ValueIs IsDocument (operation_of o)
  op-document (op.Add path value) = (docs value).0
  op-document (op.Remove path) = tt
  op-document (op.Replace path value) = (docs value).0
  op-document (op.Move origin path) = tt
  op-document (op.Copy origin path) = tt
  op-document (op.Test path value) = (docs value).0

  op-range : (o : Op Doc) → ValueIs IsInRange (operation_of o)
  op-range (op.Add path value) = (docs value).2
  op-range (op.Remove path) = tt
  op-range (op.Replace path value) = (docs value).2
  op-range (op.Move origin path) = tt
  op-range (op.Copy origin path) = tt
  op-range (op.Test path value) = (docs value).2

  each_op : (P : Operation → Type 0) → ((o : Op Doc) → P (operation_of o)) → (ops : List (Op Doc)) → All P (operations_of ops)
  each_op P each [] = All-nil P
  each_op P each (o ∷ ops) = All-cons P (operation_of o) (operations_of ops) (each o) (each_op P each ops)

  pub shapes-readable : (ops : List (Op Doc)) → ReadsUtf8Back → 2 + deepest (operations_of ops) ≤ depth_limit → IsUtf8 (text (shapes (operations_of ops))) → read (text (shapes (operations_of ops))) ≡ Some (shapes (operations_of ops))
  shapes-readable ops back within utf8 =
      let operations = operations_of ops in
      back (shapes operations) (IsDocument-shapes operations (each_op (ValueIs IsDocument) op-document ops)) (IsInRange-shapes operations (each_op (ValueIs IsInRange) op-range ops)) (omega (arith, shapes-depth operations)) utf8
