-- What an operation needs depends on its name, and what it needs stands in its form.
use Rattle.std.proofs.Common.{◌≡◌, ◌==◌, ◌+◌, inl, inr, ℕ, cond, List, get_or, Some, option_and_then, refl, sym, ap, ◌∙◌, codes}
use Rattle.mp_tree.specs.Document.{Document, object, Members}
use Rattle.mp_tree.specs.Look.{at_name}
use Rattle.mp_pointer.specs.Spelling.{Tokens, spell}
use Rattle.mp_tree.proofs.Facts.{same_some}
use Rattle.mp_patch.specs.Form.{Carries, HasOp, Need, path_alone, a_value, an_origin, NamesOp, needed_members, text_at, text_of}
use Rattle.mp_patch.specs.Operation.{Operation, add, remove, replace, move, copy, test}

-- ---- a name has one need, by two of its bytes

abbrev pub two_bytes : List ℕ → ℕ
two_bytes name = get_or name 0 0 + get_or name 2 0

abbrev need_by : ℕ → Need
need_by k = cond (k == 223) path_alone (cond (k == 227) an_origin (cond (k == 211) an_origin a_value))

abbrev need_named : List ℕ → Need
need_named name = need_by (two_bytes name)

need_is : (need : Need) (name : List ℕ) → NamesOp need name → need ≡ need_named name
need_is path_alone name e = ap need_named (sym e)
need_is a_value name (inl e) = ap need_named (sym e)
need_is a_value name (inr (inl e)) = ap need_named (sym e)
need_is a_value name (inr (inr e)) = ap need_named (sym e)
need_is an_origin name (inl e) = ap need_named (sym e)
need_is an_origin name (inr e) = ap need_named (sym e)

pub one_need : (need other : Need) (d : Document) → HasOp need d → HasOp other d → need ≡ other
one_need need other d (name, at, names) (also, there, too) =
    need_is need name names ∙ ap need_named (same_some (text_at (codes "op") d) name also at there) ∙ sym (need_is other also too)

pub value_or_origin : {P : Type 0} (d : Document) → HasOp a_value d → HasOp an_origin d → P
value_or_origin d one two = let same : a_value ≡ an_origin = one_need a_value an_origin d one two in cc

-- ---- what a form carries

abbrev pub need_of : Operation → Need
need_of (add t v) = a_value
need_of (remove t) = path_alone
need_of (replace t v) = a_value
need_of (move f t) = an_origin
need_of (copy f t) = an_origin
need_of (test t v) = a_value

abbrev pub place_of : Operation → Tokens
place_of (add t v) = t
place_of (remove t) = t
place_of (replace t v) = t
place_of (move f t) = t
place_of (copy f t) = t
place_of (test t v) = t

pub has_op : (ms : Members) (o : Operation) → Carries ms (needed_members o) → HasOp (need_of o) (object ms)
has_op ms (add t v) a = (_, ap (option_and_then text_of) a.0, inl refl)
has_op ms (remove t) a = (_, ap (option_and_then text_of) a.0, refl)
has_op ms (replace t v) a = (_, ap (option_and_then text_of) a.0, inr (inl refl))
has_op ms (move f t) a = (_, ap (option_and_then text_of) a.0, inl refl)
has_op ms (copy f t) a = (_, ap (option_and_then text_of) a.0, inr refl)
has_op ms (test t v) a = (_, ap (option_and_then text_of) a.0, inr (inr refl))

pub path_text : (ms : Members) (o : Operation) → Carries ms (needed_members o) → text_at (codes "path") (object ms) ≡ Some (spell (place_of o))
path_text ms (add t v) a = ap (option_and_then text_of) a.1.0
path_text ms (remove t) a = ap (option_and_then text_of) a.1.0
path_text ms (replace t v) a = ap (option_and_then text_of) a.1.0
path_text ms (move f t) a = ap (option_and_then text_of) a.1.0
path_text ms (copy f t) a = ap (option_and_then text_of) a.1.0
path_text ms (test t v) a = ap (option_and_then text_of) a.1.0

-- where an origin is needed, it is spelled
from_needed : (ms : Members) (o : Operation) → need_of o ≡ an_origin → Carries ms (needed_members o) → (f : Tokens) × (text_at (codes "from") (object ms) ≡ Some (spell f))
from_needed ms (move f t) is a = (f, ap (option_and_then text_of) a.1.1.0)
from_needed ms (copy f t) is a = (f, ap (option_and_then text_of) a.1.1.0)
from_needed ms o is a = absurd (let other = is in cc)

pub from_text : (ms : Members) (o : Operation) → Carries ms (needed_members o) → HasOp an_origin (object ms) → (f : Tokens) × (text_at (codes "from") (object ms) ≡ Some (spell f))
from_text ms o a has = from_needed ms o (one_need (need_of o) an_origin (object ms) (has_op ms o a) has) a

-- if a value is needed, it is there
value_needed : (ms : Members) (o : Operation) → need_of o ≡ a_value → Carries ms (needed_members o) → (v : Document) × (at_name (codes "value") (object ms) ≡ Some v)
value_needed ms (add t v) is a = (v, a.1.1.0)
value_needed ms (replace t v) is a = (v, a.1.1.0)
value_needed ms (test t v) is a = (v, a.1.1.0)
value_needed ms o is a = absurd (let other = is in cc)

pub value_there : (ms : Members) (o : Operation) → Carries ms (needed_members o) → HasOp a_value (object ms) → (v : Document) × (at_name (codes "value") (object ms) ≡ Some v)
value_there ms o a has = value_needed ms o (one_need (need_of o) a_value (object ms) (has_op ms o a) has) a
