use Rattle.std.proofs.Common.{◌≡◌, ◌<◌, ◌+◌, ◌∷◌, length, get_or, string_bytes, sym, ap, ◌∙◌, suc, arith}
use Rattle.std.specs.List.{slice_get}
use Rattle.mp_pointer.proofs.Spellings.Kept.{cut_rises, cut_is_boundary, token_is_boundary, cut_at, cut-none}
use Rattle.mp_pointer.proofs.pointer.Pointer.token.Goals as goal

pub overflow_add-slash : goal.overflow_add-slash
overflow_add-slash c =
    let rises : c.end_of-slash.result < get_or c.as_slice-ends.result.now c.args.number 0 = rw (c.end_of-slash.ensures, c.as_slice-ends.ensures.value)
    (cut_rises 0 c.self.inside.ends.items (string_bytes c.self.inside.text) c.args.number c.self.invariant.cuts (omega (arith, ap length c.as_slice-ends.ensures.value))) in
    omega (arith, rises, c.type_inv.ends c.args.number)

pub range-requires-clause-start_le_end : goal.range-requires-clause-start_le_end
range-requires-clause-start_le_end c =
    let rises = cut_rises 0 c.self.inside.ends.items (string_bytes c.self.inside.text) c.args.number c.self.invariant.cuts (omega (arith, ap length c.as_slice-ends.ensures.value)) in
    rw (c.end_of-slash.ensures, c.as_slice-ends.ensures.value) (omega (arith, rises))

pub range-requires-clause-start_boundary : goal.range-requires-clause-start_boundary
range-requires-clause-start_boundary c = λ _.
    let past : c.end_of-slash.result + 1 ≡ suc (get_or (0 ∷ c.self.inside.ends.items) c.args.number 0) = rw (c.end_of-slash.ensures, c.as_slice-ends.ensures.value) (omega arith) in
    rw (past, c.as_str.ensures.value)
    (token_is_boundary 0 c.self.inside.ends.items (string_bytes c.self.inside.text) c.args.number c.self.invariant.cuts (omega (arith, ap length c.as_slice-ends.ensures.value)))

pub range-requires-clause-end_boundary : goal.range-requires-clause-end_boundary
range-requires-clause-end_boundary c =
    rw (c.as_slice-ends.ensures.value, c.as_str.ensures.value)
    (cut_is_boundary 0 c.self.inside.ends.items (string_bytes c.self.inside.text) (suc c.args.number) c.self.invariant.cuts (omega (arith, ap length c.as_slice-ends.ensures.value)))

pub returns-then-number-ends : goal.returns-then-number-ends
returns-then-number-ends c =
    let past : c.end_of-slash.result + 1 ≡ suc (get_or (0 ∷ c.self.inside.ends.items) c.args.number 0) = rw (c.end_of-slash.ensures, c.as_slice-ends.ensures.value) (omega arith) in
    rw (c.range.ensures.value, c.as_str.ensures.value, past, c.as_slice-ends.ensures.value)
    (sym (cut_at 0 c.self.inside.ends.items (string_bytes c.self.inside.text) c.args.number (omega (arith, ap length c.as_slice-ends.ensures.value))) ∙ ap (λ t. slice_get t c.args.number) c.self.view_is)

pub returns-else-number-ends : goal.returns-else-number-ends
returns-else-number-ends c =
    sym (cut-none 0 c.self.inside.ends.items (string_bytes c.self.inside.text) c.args.number (omega (arith, ap length c.as_slice-ends.ensures.value))) ∙ ap (λ t. slice_get t c.args.number) c.self.view_is
