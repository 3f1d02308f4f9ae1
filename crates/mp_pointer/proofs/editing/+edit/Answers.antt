use Rattle.std.proofs.Common.{◌<◌, ◌^◌, [], length, get_or, vec_len, Some, None, refl, true≢false, sym, ap, ◌∙◌, arith, rules}
use Rattle.std.proofs.lemmas.Option.{slice_get-get_or}
use Rattle.std.specs.Vec.{with_item}
use Rattle.mp_pointer.specs.Part.{child}
use Rattle.mp_pointer.proofs.Changes.Edited.{slice_range-none, slice_range-more, edits_here-by, edited_child-by, part-none}
use Rattle.mp_pointer.proofs.Parts.Borrowed.{no_child}
use Rattle.mp_pointer.proofs.Parts.Children.{becomes_as, no_index_here-by, past_end-by, element_here-by, element_becomes-by, value_here-by, value_becomes-by}
use Rattle.mp_pointer.proofs.editing.+edit.Goals as goal

pub edit_between-returns-then-number-end : goal.edit_between-returns-then-number-end
edit_between-returns-then-number-end g t c =
    edits_here-by g.T.Node.means _ _ c.args.node.now c.edit.new.arg2 (slice_range-none c.args.pointer.now c.args.number c.args.end c.if-number-end.true) (search rules)

pub edit_between-returns-in_default-members_mut : goal.edit_between-returns-in_default-members_mut
edit_between-returns-in_default-members_mut g t c =
    let f = g.T.Node.means in
    let path = c.args.pointer.now in
    let token = get_or path c.args.number [] in
    let more : c.args.number < c.args.end = omega (arith, c.requires.ordered, c.if-number-end.false) in
    let tokens = slice_range-more path c.args.number c.args.end token (slice_get-get_or path c.args.number [] (omega (arith, more, c.requires.within))) more in
    (part-none (f c.args.node.now) _ _ token tokens (no_child token (f c.args.node.now) c.in_default.ensures.value c.in_default-members_mut.ensures.value), refl)

pub edit_element-returns-in_err-index : goal.edit_element-returns-in_err-index
edit_element-returns-in_err-index g t c =
    let f = g.T.Node.means in
    let token = c.in_ok-token.token.now in
    let old = c.args.elements.now in
    let tokens = slice_range-more c.args.pointer.now c.args.number c.args.end token (sym c.in_ok-token.ensures) c.requires.ordered in
    let short : length old.items < 2 ^ 64 = omega (arith, old.small, old.ok.0) in
    let none = ap (child token) (c.requires.made old) ∙ no_index_here-by f token old short c.in_err-index.ensures in
    rw c.from_residual-in_err-index.ensures (part-none (f (g.T.Node.of_items old)) _ _ token tokens none, refl)

pub edit_element-returns-in_err-element : goal.edit_element-returns-in_err-element
edit_element-returns-in_err-element g t c =
    let f = g.T.Node.means in
    let token = c.in_ok-token.token.now in
    let old = c.args.elements.now in
    let i = c.in_ok-index.index in
    let tokens = slice_range-more c.args.pointer.now c.args.number c.args.end token (sym c.in_ok-token.ensures) c.requires.ordered in
    let not_within : i < vec_len old → ⊥ = λ less. true≢false (sym (c.in_err-element.ensures.variant.1 less)) in
    let none = ap (child token) (c.requires.made old) ∙ past_end-by f token i old c.in_ok-index.ensures (omega (arith, not_within, old.ok.0)) in
    rw c.from_residual-in_err-element.ensures (part-none (f (g.T.Node.of_items old)) _ _ token tokens none, refl)

pub edit_element-returns : goal.edit_element-returns
edit_element-returns g t c =
    let f = g.T.Node.means in
    let made = c.requires.made in
    let token = c.in_ok-token.token.now in
    let old = c.args.elements.now in
    let i = c.in_ok-index.index in
    let x = c.in_ok-element.element.now in
    let w = c.edit_between.new.node in
    let new = with_item old i w in
    let tokens = slice_range-more c.args.pointer.now c.args.number c.args.end token (sym c.in_ok-token.ensures) c.requires.ordered in
    let within : i < length old.items = omega (arith, c.in_ok-element.ensures.variant.0 refl, old.ok.0) in
    edited_child-by f c.requires.documents _ c.edit_between.result token _ _ (g.T.Node.of_items old) (g.T.Node.of_items new) x w tokens
    (ap (child token) (made old) ∙ element_here-by f token i old x c.in_ok-index.ensures within c.in_ok-element.ensures.value)
    (becomes_as (made old) (made new) (element_becomes-by f token i old x w c.in_ok-index.ensures within c.in_ok-element.ensures.value)) c.edit_between.ensures

pub edit_member-returns-in_err-value : goal.edit_member-returns-in_err-value
edit_member-returns-in_err-value g t c =
    let f = g.T.Node.means in
    let token = c.in_ok-token.token.now in
    let old = c.args.entries.now in
    let tokens = slice_range-more c.args.pointer.now c.args.number c.args.end token (sym c.in_ok-token.ensures) c.requires.ordered in
    let none = ap (child token) (c.requires.made old) ∙ value_here-by f c.requires.documents token old None c.in_err-value.ensures.value in
    rw c.from_residual-in_err-value.ensures
    (part-none (f (g.T.Node.of_members old)) _ _ token tokens none, ap (λ m. f (g.T.Node.of_members m)) c.get_mut.follows.holds-at-none)

pub edit_member-returns : goal.edit_member-returns
edit_member-returns g t c =
    let f = g.T.Node.means in
    let good = c.requires.documents in
    let made = c.requires.made in
    let token = c.in_ok-token.token.now in
    let old = c.args.entries.now in
    let x = c.in_ok-value.value.now in
    let w = c.edit_between.new.node in
    let new = c.get_mut.follows.lender w in
    let tokens = slice_range-more c.args.pointer.now c.args.number c.args.end token (sym c.in_ok-token.ensures) c.requires.ordered in
    edited_child-by f good _ c.edit_between.result token _ _ (g.T.Node.of_members old) (g.T.Node.of_members new) x w tokens
    (ap (child token) (made old) ∙ value_here-by f good token old (Some x) c.in_ok-value.ensures.value)
    (becomes_as (made old) (made new) (value_becomes-by f good token old new x w c.in_ok-value.ensures.value ((c.get_mut.follows.holds w).3))) c.edit_between.ensures
