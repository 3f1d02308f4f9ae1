use Rattle.std.proofs.Common.{[], ◌∷◌, sym, ◌∙◌, true≢false}
use Rattle.std.proofs.lemmas.Slice.Eq.{bytes_eq-Decides}
use Rattle.mp_pointer.specs.Bytes.{digit_zero}
use Rattle.mp_pointer.specs.Part.{numeral}
use Rattle.mp_pointer.proofs.Tokens.Indices.{index_parsed, no_index, bytes_differ}
use Rattle.mp_pointer.proofs.evaluating.index_of.Goals as goal

pub returns-then-eq : goal.returns-then-eq
unfolding numeral
returns-then-eq c = (bytes_eq-Decides c.args.token.now (digit_zero ∷ [])).0 (sym c.eq.ensures ∙ c.if-eq.true)

pub returns-then-begins_above_zero : goal.returns-then-begins_above_zero
returns-then-begins_above_zero c =
    let digit = c.begins_above_zero.ensures.0 c.if-begins_above_zero.true in
    rw c.ok.ensures.value (index_parsed c.args.token.now c.parse.result c.parse.ensures.value.0 digit.0 digit.1)

pub returns-else-begins_above_zero : goal.returns-else-begins_above_zero
returns-else-begins_above_zero c = λ i is.
    absurd (no_index c.args.token.now (λ digit. true≢false (sym (c.begins_above_zero.ensures.1 digit) ∙ c.if-begins_above_zero.false))
    (bytes_differ c.args.token.now (digit_zero ∷ []) c.eq.result c.eq.ensures c.if-eq.false) i is)
