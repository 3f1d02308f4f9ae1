use Rattle.std.proofs.Common.{◌≡◌, ◌∷◌, ◌++◌, None, ap, ◌∙◌, sym, subst, append_assoc, arith, rules}
use Rattle.std.proofs.lemmas.Str.Pattern.{split_parts}
use Rattle.mp_pointer.specs.Bytes.{slash}
use Rattle.mp_pointer.specs.Spelling.{spell}
use Rattle.mp_pointer.specs.Private.BadTilde.{first_bad_tilde}
use Rattle.mp_pointer.proofs.Spellings.ReadBack.{first_bad-front, first_bad-after}
use Rattle.mp_pointer.proofs.spelling.pointer_after.Goals as goal

pub push_unescaped-requires-clause-between : goal.push_unescaped-requires-clause-between
push_unescaped-requires-clause-between c =
    let cut = rw c.in-Some.is at (split_parts slash c.parts.rest.now c.split_once.result c.split_once.ensures.cases (omega arith)) in
    cut.1

pub push_unescaped-requires-clause-escapes : goal.push_unescaped-requires-clause-escapes
push_unescaped-requires-clause-escapes c =
    let l = c.parts in
    let cut = rw c.in-Some.is at (split_parts slash l.rest.now c.split_once.result c.split_once.ensures.cases (omega arith)) in
    first_bad-front c.in-Some.part.now c.in-Some.more.now (subst (λ xs. first_bad_tilde xs ≡ None) cut.0 l.invariant.1)

pub parts-preserved : goal.parts-preserved
parts-preserved c =
    let l = c.parts in
    let part = c.in-Some.part.now in
    let more = c.in-Some.more.now in
    let cut = rw c.in-Some.is at (split_parts slash l.rest.now c.split_once.result c.split_once.ensures.cases (omega arith)) in
    let before = spell l.pointer in (
      ap (λ xs. xs ++ slash ∷ more) c.in_ok-push_unescaped.ensures ∙ append_assoc before (slash ∷ part) (slash ∷ more) ∙ ap (λ xs. before ++ slash ∷ xs) (sym cut.0) ∙ l.invariant.0,
      first_bad-after part slash more (subst (λ xs. first_bad_tilde xs ≡ None) cut.0 l.invariant.1),
      search rules,
    )

pub push_unescaped-requires-2-clause-between : goal.push_unescaped-requires-2-clause-between
push_unescaped-requires-2-clause-between c = rw c.in_default.is at (split_parts slash c.parts.rest.now c.split_once.result c.split_once.ensures.cases (omega arith))
