use Rattle.std.proofs.Common.{◌≡◌, [], ◌∷◌, ◌++◌, None, string_bytes, refl, ap, ◌∙◌, subst, arith, rules}
use Rattle.std.proofs.lemmas.List.Concat.{flat_map-append}
use Rattle.std.proofs.lemmas.Str.Pattern.{split_parts, strip_prefix_char}
use Rattle.mp_pointer.specs.Bytes.{slash, tilde, digit_zero, digit_one}
use Rattle.mp_pointer.specs.Spelling.{escape, escaped_byte}
use Rattle.mp_pointer.specs.Private.BadTilde.{first_bad_tilde}
use lib.Utf8.{encode}
use Rattle.mp_pointer.proofs.Spellings.ReadBack.{Lacks, Lacks-front, Lacks-after, escape-plain, unescape_step, first_bad-after, escape_follows}
use Rattle.mp_pointer.proofs.spelling.unescape.Goals as goal

pub escapes-preserved-in-Some-strip_prefix : goal.escapes-preserved-in-Some-strip_prefix
unfolding encode
escapes-preserved-in-Some-strip_prefix c =
    let l = c.escapes in
    let plain = c.in-Some.plain.now in
    let more = c.in-Some-strip_prefix.more.now in
    let cut = rw c.in-Some.is at (split_parts tilde l.rest.now c.split_once.result c.split_once.ensures.cases (omega arith)) in
    let code = rw c.in-Some-strip_prefix.is at (strip_prefix_char digit_zero c.in-Some.after.now c.strip_prefix.result c.strip_prefix.ensures.cases (omega arith)) in
    let rest_is : l.rest.now ≡ plain ++ tilde ∷ digit_zero ∷ more = cut.0 ∙ ap (λ xs. plain ++ tilde ∷ xs) code in
    let lacks : Lacks slash (plain ++ tilde ∷ digit_zero ∷ more) = subst (Lacks slash) rest_is l.invariant.1 in
    let good : first_bad_tilde (plain ++ tilde ∷ digit_zero ∷ more) ≡ None = subst (λ xs. first_bad_tilde xs ≡ None) rest_is l.invariant.2 in
    let now : string_bytes c.push.new.self ≡ (string_bytes l.token ++ plain) ++ tilde ∷ [] = c.in_ok-push.ensures.bytes ∙ ap (λ xs. xs ++ tilde ∷ []) c.in_ok-push_str.ensures.bytes in (
      unescape_step tilde digit_zero _ _ plain l.rest.now more _ refl now rest_is (Lacks-front slash plain (tilde ∷ digit_zero ∷ more) lacks) cut.1 l.invariant.0,
      Lacks-after slash digit_zero [] more (Lacks-after slash tilde plain (digit_zero ∷ more) lacks),
      first_bad-after [] digit_zero more (first_bad-after plain tilde (digit_zero ∷ more) good),
      search rules,
    )

pub escapes-preserved : goal.escapes-preserved
unfolding encode
escapes-preserved c =
    let l = c.escapes in
    let plain = c.in-Some.plain.now in
    let more = c.in-Some-strip_prefix-2.more.now in
    let cut = rw c.in-Some.is at (split_parts tilde l.rest.now c.split_once.result c.split_once.ensures.cases (omega arith)) in
    let code = rw c.in-Some-strip_prefix-2.is at (strip_prefix_char digit_one c.in-Some.after.now c.strip_prefix-in_default-strip_prefix.result c.strip_prefix-in_default-strip_prefix.ensures.cases (omega arith)) in
    let rest_is : l.rest.now ≡ plain ++ tilde ∷ digit_one ∷ more = cut.0 ∙ ap (λ xs. plain ++ tilde ∷ xs) code in
    let lacks : Lacks slash (plain ++ tilde ∷ digit_one ∷ more) = subst (Lacks slash) rest_is l.invariant.1 in
    let good : first_bad_tilde (plain ++ tilde ∷ digit_one ∷ more) ≡ None = subst (λ xs. first_bad_tilde xs ≡ None) rest_is l.invariant.2 in
    let now : string_bytes c.push-in-Some-strip_prefix-2.new.self ≡ (string_bytes l.token ++ plain) ++ slash ∷ [] = c.in_ok-push-2.ensures.bytes ∙ ap (λ xs. xs ++ slash ∷ []) c.in_ok-push_str.ensures.bytes in (
      unescape_step slash digit_one _ _ plain l.rest.now more _ refl now rest_is (Lacks-front slash plain (tilde ∷ digit_one ∷ more) lacks) cut.1 l.invariant.0,
      Lacks-after slash digit_one [] more (Lacks-after slash tilde plain (digit_one ∷ more) lacks),
      first_bad-after [] digit_one more (first_bad-after plain tilde (digit_one ∷ more) good),
      search rules,
    )

pub unreachable-requires : goal.unreachable-requires
unreachable-requires c =
    let l = c.escapes in
    let after = c.in-Some.after.now in
    let cut = rw c.in-Some.is at (split_parts tilde l.rest.now c.split_once.result c.split_once.ensures.cases (omega arith)) in
    let no_zero = rw c.in_default-strip_prefix.is at (strip_prefix_char digit_zero after c.strip_prefix.result c.strip_prefix.ensures.cases (omega arith)) in
    let no_one = rw c.in_default-strip_prefix-2.is at (strip_prefix_char digit_one after c.strip_prefix-in_default-strip_prefix.result c.strip_prefix-in_default-strip_prefix.ensures.cases (omega arith)) in
    escape_follows c.in-Some.plain.now after (subst (λ xs. first_bad_tilde xs ≡ None) cut.0 l.invariant.2) no_zero no_one

pub returns : goal.returns
returns c =
    let l = c.escapes in
    let none = rw c.in_default.is at (split_parts tilde l.rest.now c.split_once.result c.split_once.ensures.cases (omega arith)) in
    ap escape c.in_ok-push_str-2.ensures.bytes ∙ flat_map-append escaped_byte (string_bytes l.token) l.rest.now ∙ ap (λ xs. escape (string_bytes l.token) ++ xs) (escape-plain l.rest.now l.invariant.1 none) ∙ l.invariant.0
