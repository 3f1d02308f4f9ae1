use Rattle.std.proofs.Common.{◌≡◌, ◌<◌, ◌+◌, length, MatchOption, sym, ap, ◌∙◌, subst, arith}
use Rattle.json.specs.Print.{quoted}
use Rattle.mp_tree.specs.Kind.{kind_document}
use Rattle.mp_tree.specs.Text.{text}
use Rattle.mp_tree.specs.View.{items_by, members_by}
use Rattle.mp_tree.specs.Private.Lengths.{bracketed, members_length}
use Rattle.mp_tree.proofs.Documents.Depths.{next_entry}
use Rattle.mp_tree.proofs.Texts.Lengths.{length-list, length-object}
use Rattle.mp_tree.proofs.text_lengths.+measure.Goals as goal

-- an array and an object are as long as their parts with the brackets
pub left_of_text-returns-in-Items : goal.left_of_text-returns-in-Items
left_of_text-returns-in-Items g t c =
    let same = ap (λ d. length (text d)) (c.kind.ensures.value ∙ ap (kind_document g.T.Node.means) c.in-Items.is) ∙ length-list (items_by g.T.Node.means c.in-Items.elements.now.items) in
    subst (λ n. MatchOption c.left_of_elements.result (c.args.budget < n) (λ left. left + n ≡ c.args.budget)) (sym same) c.left_of_elements.ensures

pub left_of_text-returns-in-Members : goal.left_of_text-returns-in-Members
left_of_text-returns-in-Members g t c =
    let same = ap (λ d. length (text d)) (c.kind.ensures.value ∙ ap (kind_document g.T.Node.means) c.in-Members.is) ∙ length-object (members_by g.T.Node.means c.in-Members.entries.now.entries) in
    subst (λ n. MatchOption c.left_of_entries.result (c.args.budget < n) (λ left. left + n ≡ c.args.budget)) (sym same) c.left_of_entries.ensures

-- a name or a value is too long
pub left_of_entries-returns-in_err-left_of_quoted : goal.left_of_entries-returns-in_err-left_of_quoted
left_of_entries-returns-in_err-left_of_quoted g t c =
    let f = g.T.Node.means in
    let next = next_entry f c.loop-name.invariant.ascends c.in-Some.ensures.steps in
    let same = ap (λ s. length (quoted s)) c.as_str.ensures.value in
    let over : c.args.budget < bracketed (members_length (members_by f c.args.entries.now.entries)) = omega (arith, c.loop-name.invariant.budget, ap members_length next.first, c.in_err-left_of_quoted.ensures, same) in
    rw c.from_residual-in_err-left_of_quoted.ensures over

pub left_of_entries-returns-in_err-named : goal.left_of_entries-returns-in_err-named
left_of_entries-returns-in_err-named g t c =
    let f = g.T.Node.means in
    let next = next_entry f c.loop-name.invariant.ascends c.in-Some.ensures.steps in
    let same = ap (λ s. length (quoted s)) c.as_str.ensures.value in
    let over : c.args.budget < bracketed (members_length (members_by f c.args.entries.now.entries)) = omega (arith, c.loop-name.invariant.budget, ap members_length next.first, c.in_ok-left_of_quoted.ensures, c.in_err-named.ensures, same) in
    rw c.from_residual-in_err-named.ensures over

pub left_of_entries-left_of_text-requires : goal.left_of_entries-left_of_text-requires
left_of_entries-left_of_text-requires g t c κs within =
    let next = next_entry g.T.Node.means c.loop-name.invariant.ascends c.in-Some.ensures.steps in
    (omega (arith, c.decreases, c.loop-name.invariant.deep, next.value_within), within)

pub left_of_entries-returns-in_err-left_of_text : goal.left_of_entries-returns-in_err-left_of_text
left_of_entries-returns-in_err-left_of_text g t c =
    let f = g.T.Node.means in
    let next = next_entry f c.loop-name.invariant.ascends c.in-Some.ensures.steps in
    let same = ap (λ s. length (quoted s)) c.as_str.ensures.value in
    let over : c.args.budget < bracketed (members_length (members_by f c.args.entries.now.entries)) = omega (arith, c.loop-name.invariant.budget, ap members_length next.first, c.in_ok-left_of_quoted.ensures, c.in_ok-named.ensures, c.in_err-left_of_text.ensures, same) in
    rw c.from_residual-in_err-left_of_text.ensures over

pub left_of_entries-returns-in_err-left-2 : goal.left_of_entries-returns-in_err-left-2
left_of_entries-returns-in_err-left-2 g t c =
    let f = g.T.Node.means in
    let next = next_entry f c.loop-name.invariant.ascends c.in-Some.ensures.steps in
    let same = ap (λ s. length (quoted s)) c.as_str.ensures.value in
    let over : c.args.budget < bracketed (members_length (members_by f c.args.entries.now.entries)) = omega (arith, c.loop-name.invariant.budget, ap members_length next.first, c.in_ok-left_of_quoted.ensures, c.in_ok-named.ensures, c.in_ok-left_of_text.ensures, c.in_err-left-2.ensures, same) in
    rw c.from_residual-in_err-left-2.ensures over

pub left_of_entries-loop-name-preserved : goal.left_of_entries-loop-name-preserved
left_of_entries-loop-name-preserved g t c =
    let next = next_entry g.T.Node.means c.loop-name.invariant.ascends c.in-Some.ensures.steps in
    let same = ap (λ s. length (quoted s)) c.as_str.ensures.value in
    record {
      ascends = next.ascends;
      budget = omega (arith, c.loop-name.invariant.budget, ap members_length next.first, c.in_ok-left_of_quoted.ensures, c.in_ok-named.ensures, c.in_ok-left_of_text.ensures, c.in_ok-left-2.ensures, same);
      deep = omega (arith, c.loop-name.invariant.deep, next.rest_within);
    }
