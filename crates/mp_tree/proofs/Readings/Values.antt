-- What the data that bytes have say of the document that is read.
use Rattle.std.proofs.Common.{◌≡◌, ◌≤◌, ℕ, List, Bool, true, false, Some, None, IfSome, option_and_then, Ok, IsUtf8, refl, ap, ◌∙◌, subst}
use Rattle.std.proofs.lemmas.Bool.{le-leb}
use Rattle.std.proofs.lemmas.Str.{is_utf8-from_IsUtf8, IsUtf8-from_is_utf8}
use Rattle.std.specs.Str.{is_utf8}
use Rattle.serde_json.specs.Data as json
use Rattle.serde_json.specs.Data.{Data}
use Rattle.serde_json.specs.Read as serde_json
use Rattle.mp_tree.specs.Document.{Document, depth, depth_limit}
use Rattle.mp_tree.specs.Text.{data_in, from_data, document_in, json_document, read, shallow_document, whole_document}
use Rattle.mp_tree.proofs.Texts.Written.{depth-from_data}

pub data_in-some : (b : List ℕ) (x : Data) → IsUtf8 b → serde_json.read b ≡ Some x → data_in b ≡ Some x
data_in-some b x utf8 e = rw (is_utf8-from_IsUtf8 b utf8) e

pub data_in-none : (b : List ℕ) → (IsUtf8 b → serde_json.read b ≡ None) → data_in b ≡ None
data_in-none b h = split (is_utf8 b) refl
  where
    split : (r : Bool) → is_utf8 b ≡ r → data_in b ≡ None
    split true e = rw e (h (IsUtf8-from_is_utf8 b e))
    split false e = rw e

pub depth-from : (x : Data) (d : Document) → from_data x ≡ Some d → depth d ≤ json.depth x
depth-from x d e = subst (λ o. IfSome o (λ d. depth d ≤ json.depth x)) e (depth-from_data x)

within_limit : (d : Document) → depth d ≤ depth_limit → shallow_document d ≡ Ok d
within_limit d within = rw (le-leb (depth d) depth_limit within) refl

-- what is read within the depth rule is a document
pub document_in-read : (bytes : List ℕ) (d : Document) → read bytes ≡ Some d → depth d ≤ depth_limit → document_in bytes ≡ Ok d
document_in-read bytes d is within =
    (elim (data_in bytes) as (λ r. option_and_then from_data r ≡ Some d → json_document r ≡ Ok d) [
      | None ↦ λ same. absurd (cc)
      | Some v ↦ λ same. ap whole_document same ∙ within_limit d within
    ]) is

pub one_document : (bytes : List ℕ) (d e : Document) → document_in bytes ≡ Ok d → document_in bytes ≡ Ok e → d ≡ e
one_document bytes d e one other = cc
