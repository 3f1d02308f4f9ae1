use Rattle.std.proofs.Common.{◌++◌, string_bytes, sym, ap, ◌∙◌, arith, rules}
use Rattle.std.proofs.lemmas.Str.Pattern.{split_parts}
use Rattle.mp_pointer.specs.Bytes.{tilde}
use Rattle.mp_pointer.specs.Spelling.{escaped_byte}
use Rattle.mp_pointer.proofs.Spellings.ReadBack.{escape-plain, escape_step}
use Rattle.mp_pointer.proofs.spelling.push_escaped.Goals as goal

pub push_without_tildes-requires : goal.push_without_tildes-requires
push_without_tildes-requires c =
    let cut = rw c.in-Some.is at (split_parts tilde c.tildes.rest.now c.split_once.result c.split_once.ensures.cases (omega arith)) in
    cut.1

pub tildes-preserved : goal.tildes-preserved
tildes-preserved c =
    let l = c.tildes in
    let cut = rw c.in-Some.is at (split_parts tilde l.rest.now c.split_once.result c.split_once.ensures.cases (omega arith)) in
    (escape_step tilde _ _ c.in-Some.plain.now l.rest.now c.in-Some.more.now _ (c.in_ok-push_str-2.ensures.bytes ∙ ap (λ xs. xs ++ escaped_byte tilde) c.in_ok-push_without_tildes.ensures) cut.0 l.invariant.0, search rules)

pub push_without_tildes-requires-2 : goal.push_without_tildes-requires-2
push_without_tildes-requires-2 c = rw c.in_default.is at (split_parts tilde c.tildes.rest.now c.split_once.result c.split_once.ensures.cases (omega arith))

pub returns-then-is_plain : goal.returns-then-is_plain
returns-then-is_plain c =
    let plain = c.is_plain.ensures c.if-is_plain.true in
    let token = c.args.token.now in
    c.in_ok-push_str.ensures.bytes ∙ ap (λ xs. string_bytes c.args.text.now ++ xs) (sym (escape-plain token (λ k less. (plain k less).1) (λ k less. (plain k less).0)))
