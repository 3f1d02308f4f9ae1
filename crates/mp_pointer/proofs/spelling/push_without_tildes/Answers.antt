use Rattle.std.proofs.Common.{◌≡◌, ◌∷◌, ◌++◌, string_bytes, sym, ap, ◌∙◌, subst, arith, rules}
use Rattle.std.proofs.lemmas.Str.Pattern.{split_parts}
use Rattle.mp_pointer.specs.Bytes.{slash, tilde}
use Rattle.mp_pointer.specs.Spelling.{escape, escaped_byte}
use Rattle.mp_pointer.proofs.Spellings.ReadBack.{Lacks, Lacks-front, Lacks-after, escape-plain, escape_step}
use Rattle.mp_pointer.proofs.spelling.push_without_tildes.Goals as goal

pub slashes-preserved : goal.slashes-preserved
slashes-preserved c =
    let l = c.slashes in
    let plain = c.in-Some.plain.now in
    let more = c.in-Some.more.now in
    let cut = rw c.in-Some.is at (split_parts slash l.rest.now c.split_once.result c.split_once.ensures.cases (omega arith)) in
    let lacks : Lacks tilde (plain ++ slash ∷ more) = subst (Lacks tilde) cut.0 l.invariant.1 in
    let written : string_bytes c.push_str.new.self ≡ string_bytes l.text ++ escape plain =
    c.in_ok-push_str.ensures.bytes ∙ ap (λ xs. string_bytes l.text ++ xs) (sym (escape-plain plain cut.1 (Lacks-front tilde plain (slash ∷ more) lacks))) in
    (escape_step slash _ _ plain l.rest.now more _ (c.in_ok-push_str-2.ensures.bytes ∙ ap (λ xs. xs ++ escaped_byte slash) written) cut.0 l.invariant.0, Lacks-after tilde slash plain more lacks, search rules)

pub returns : goal.returns
returns c =
    let l = c.slashes in
    let none = rw c.in_default.is at (split_parts slash l.rest.now c.split_once.result c.split_once.ensures.cases (omega arith)) in
    c.in_ok-push_str-3.ensures.bytes ∙ ap (λ xs. string_bytes l.text ++ xs) (sym (escape-plain l.rest.now none l.invariant.1)) ∙ l.invariant.0
