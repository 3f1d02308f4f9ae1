-- The operations of a form that can be read can be written: their tokens and values are parts of the form.
use Rattle.std.proofs.Common.{◌≡◌, List, [], ◌∷◌, ℕ, Some, option_and_then, codes, IsUtf8, ap, ◌∙◌, subst, arith}
use Rattle.std.proofs.lemmas.List.Elements.{All-cons, All-nil}
use Rattle.std.specs.List.{All}
use Rattle.mp_tree.specs.Document.{Document, string, list, object, Items, no_items, item, Members, find, IsReadable}
use Rattle.mp_pointer.specs.Laws.{PartsAreReadable, TokensAreTexts}
use Rattle.mp_pointer.specs.Part.{part}
use Rattle.mp_pointer.specs.Spelling.{Tokens, spell}
use Rattle.mp_pointer.proofs.Facts.{child-object}
use Rattle.mp_patch.specs.Form.{Carries, EachForm, needed_members}
use Rattle.mp_patch.specs.Laws.{FormsAreWritable}
use Rattle.mp_patch.specs.Operation.{Operation, add, remove, replace, move, copy, test}
use Rattle.mp_patch.specs.Writable.{IsWritable}

-- ---- the elements of a form

first_readable : (d : Document) (ds : Items) → IsReadable (list (item d ds)) → IsReadable d
first_readable d ds can = record { is_document = can.is_document.0; has_texts = can.has_texts.0; in_range = can.in_range.0; within = omega (arith, can.within) }

rest_readable : (d : Document) (ds : Items) → IsReadable (list (item d ds)) → IsReadable (list ds)
rest_readable d ds can = record { is_document = can.is_document.1; has_texts = can.has_texts.1; in_range = can.in_range.1; within = omega (arith, can.within) }

-- ---- what an element carries

module _ (parts : PartsAreReadable) (spelled : TokensAreTexts) where
  value_at : (n : List ℕ) (ms : Members) (x : Document) → IsReadable (object ms) → find n ms ≡ Some x → IsReadable x
  value_at n ms x can is = parts (n ∷ []) (object ms) x can (ap (option_and_then (λ (c : Document). part c [])) (child-object n ms ∙ is))

  tokens_at : (n : List ℕ) (ms : Members) (t : Tokens) → IsReadable (object ms) → find n ms ≡ Some (string (spell t)) → All IsUtf8 t
  tokens_at n ms t can is = spelled t (value_at n ms (string (spell t)) can is).has_texts

  carried_writable : (ms : Members) (o : Operation) → IsReadable (object ms) → Carries ms (needed_members o) → IsWritable o
  carried_writable ms (add t v) can carries = (tokens_at (codes "path") ms t can carries.1.0, value_at (codes "value") ms v can carries.1.1.0)
  carried_writable ms (remove t) can carries = tokens_at (codes "path") ms t can carries.1.0
  carried_writable ms (replace t v) can carries = (tokens_at (codes "path") ms t can carries.1.0, value_at (codes "value") ms v can carries.1.1.0)
  carried_writable ms (move f t) can carries = (tokens_at (codes "from") ms f can carries.1.1.0, tokens_at (codes "path") ms t can carries.1.0)
  carried_writable ms (copy f t) can carries = (tokens_at (codes "from") ms f can carries.1.1.0, tokens_at (codes "path") ms t can carries.1.0)
  carried_writable ms (test t v) can carries = (tokens_at (codes "path") ms t can carries.1.0, value_at (codes "value") ms v can carries.1.1.0)

  each_writable : (ds : Items) (operations : List Operation) → IsReadable (list ds) → EachForm ds operations → All IsWritable operations
  each_writable no_items [] can forms = All-nil IsWritable
  each_writable no_items (o ∷ operations) can forms = absurd forms
  each_writable (item d ds) [] can forms = absurd forms
  each_writable (item d ds) (o ∷ operations) can ((ms, is, carries), forms) =
      All-cons IsWritable o operations (carried_writable ms o (subst IsReadable is (first_readable d ds can)) carries) (each_writable ds operations (rest_readable d ds can) forms)

  pub forms_are_writable : FormsAreWritable
  forms_are_writable form operations can (ds, is, forms) = each_writable ds operations (subst IsReadable is can) forms
