use Rattle.std.proofs.Common.{◌≡◌, ◌≢◌, [], ◌∷◌, None, length, refl, sym, ap, ◌∙◌, subst, arith, eq-eqb, true≢false}
use Rattle.std.proofs.lemmas.Str.Pattern.{strip_prefix_char}
use Rattle.mp_pointer.specs.Bytes.{slash}
use Rattle.mp_pointer.specs.Private.BadTilde.{first_bad_tilde}
use Rattle.mp_pointer.specs.Spelling.{IsFirstBadTilde}
use Rattle.mp_pointer.proofs.Spellings.ReadBack.{first_bad-none, first_bad-back, lacks_slash}
use Rattle.mp_pointer.proofs.pointer.Pointer.parse.Goals as goal

pub returns-in_default-clause-fault : goal.returns-in_default-clause-fault
returns-in_default-clause-fault c =
    let text = c.args.text.now in
    let some : text ≢ [] = λ e. true≢false (sym (c.is_empty.ensures ∙ eq-eqb _ _ (ap length e)) ∙ c.if-is_empty.false) in
    lacks_slash text some (rw c.in_default.is at (strip_prefix_char slash text c.strip_prefix.result c.strip_prefix.ensures.cases (omega arith)))

pub pointer_after-requires : goal.pointer_after-requires
pointer_after-requires c =
    let rest_is = rw c.in-Some.is at (strip_prefix_char slash c.args.text.now c.strip_prefix.result c.strip_prefix.ensures.cases (omega arith)) in
    let rest = c.in-Some.rest.now in
    let good : first_bad_tilde (slash ∷ rest) ≡ None = ap first_bad_tilde (sym (c.as_bytes.ensures.value ∙ rest_is)) ∙ first_bad-none c.as_bytes.result.now c.in-None.ensures in
    first_bad-back (slash ∷ []) rest good

pub returns-in-Some-bad_tilde-clause-fault : goal.returns-in-Some-bad_tilde-clause-fault
returns-in-Some-bad_tilde-clause-fault c =
    let offset = c.in-Some-bad_tilde.offset in
    let rest_is = rw c.in-Some.is at (strip_prefix_char slash c.args.text.now c.strip_prefix.result c.strip_prefix.ensures.cases (omega arith)) in
    (rw rest_is refl, subst (λ xs. IsFirstBadTilde xs offset) c.as_bytes.ensures.value c.in-Some-bad_tilde.ensures)
