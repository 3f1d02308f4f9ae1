use Rattle.std.proofs.Common.{Some, option_map, string_bytes, sym, ap, ◌∙◌, arith}
use Rattle.serde_json.specs.View.{items_view}
use Rattle.serde_json.proofs.Views.{view-Object}
use Rattle.mp_tree.specs.Document.{depth, object}
use Rattle.mp_tree.specs.Text.{from_data, items_from_data}
use Rattle.mp_tree.proofs.Maps.Building.{seen-same, ascend_from_seen, insert-last-seen}
use Rattle.mp_tree.proofs.Texts.FromData.{from_value, read_as, items_from_data-all, items_from_data-none, members_from_data-all, read_one_more, none_if_refused}
use Rattle.mp_tree.proofs.Passed.{Passed-next, Passed-push, Passed-end, over-into_iter}
use Rattle.mp_tree.proofs.Documents.Meaning.{document-Members}
use Rattle.mp_tree.proofs.Documents.Shallow.{one_more_item, one_more_member, shallow_members, shallow_map}
use Rattle.mp_tree.proofs.converting.+doc_of.Goals as goal

pub doc_of-returns-in_ok-members_of-in-Object-clause-ok : goal.doc_of-returns-in_ok-members_of-in-Object-clause-ok
doc_of-returns-in_ok-members_of-in-Object-clause-ok t c =
    let docs = c.in_ok-members_of-in-Object in
    ap from_value c.in-Object.is ∙ ap from_data (view-Object c.in-Object.values) ∙ ap (option_map object) docs.ensures.ok ∙ ap Some (sym (document-Members docs.field-0))

pub docs_of-returns-in_err-doc_of-clause-not_whole : goal.docs_of-returns-in_err-doc_of-clause-not_whole
docs_of-returns-in_err-doc_of-clause-not_whole t c refused =
    let elements = c.loop-value.invariant.elements in
    let none = items_from_data-none elements.passed c.in-Some.value _ (c.in_err-doc_of.ensures.not_whole (grind arith)) in
    ap (λ vs. items_from_data (items_view vs)) (Passed-next elements c.in-Some.ensures.steps.0) ∙ none

pub docs_of-loop-value-preserved : goal.docs_of-loop-value-preserved
docs_of-loop-value-preserved t c =
    let l = c.loop-value in
    let same = sym c.in_ok-doc_of.ensures.ok in
    record {
      elements = Passed-push read_as from_value l.docs.items _ c.in_ok-doc_of.field-0 l.invariant.elements c.in-Some.ensures.steps.0 c.in_ok-push.ensures.items same;
      shallow = one_more_item l.docs.items _ c.in_ok-doc_of.field-0 l.invariant.shallow c.in_ok-push.ensures.items c.in_ok-doc_of.ensures.shallow;
      can_next = tt;
      is_finite = tt;
    }

pub docs_of-returns-clause-ok : goal.docs_of-returns-clause-ok
docs_of-returns-clause-ok t c =
    let l = c.loop-value in
    items_from_data-all c.args.values.items l.docs.items (Passed-end l.invariant.elements (over-into_iter l.value-iterator c.in-None.ensures.steps.0))

pub many_members_of-returns-in_err-doc_of-clause-not_whole : goal.many_members_of-returns-in_err-doc_of-clause-not_whole
many_members_of-returns-in_err-doc_of-clause-not_whole t c refused =
    none_if_refused _ _ _ _ _ c.loop-name.invariant.entries c.in-Some.ensures.steps (c.in_err-doc_of.ensures.not_whole (grind arith))

pub many_members_of-loop-name-preserved : goal.many_members_of-loop-name-preserved
many_members_of-loop-name-preserved t c =
    let l = c.loop-name in
    record {
      entries = read_one_more l.pairs.items _ _ _ c.in_ok-doc_of.field-0 l.invariant.entries c.in-Some.ensures.steps c.in_ok-push.ensures.items c.in_ok-doc_of.ensures.ok;
      shallow = one_more_member l.pairs.items _ _ c.in_ok-doc_of.field-0 l.invariant.shallow c.in_ok-push.ensures.items c.in_ok-doc_of.ensures.shallow;
      can_next = tt;
      is_finite = tt;
    }

pub many_members_of-map_of-requires : goal.many_members_of-map_of-requires
many_members_of-map_of-requires t c =
    let l = c.loop-name in
    ascend_from_seen read_as from_value l.pairs.items _ (Passed-end l.invariant.entries c.in-None.ensures.steps.0) c.into_iter-name-iterator.ensures.into_iter_gives.5

pub many_members_of-returns-clause-ok : goal.many_members_of-returns-clause-ok
many_members_of-returns-clause-ok t c =
    let l = c.loop-name in
    let docs = c.in_ok-map_of in
    members_from_data-all _ docs.field-0.entries (seen-same read_as docs.field-0.entries l.pairs.items docs.ensures ∙ Passed-end l.invariant.entries c.in-None.ensures.steps.0)

pub many_members_of-returns-clause-shallow : goal.many_members_of-returns-clause-shallow
many_members_of-returns-clause-shallow t c =
    let l = c.loop-name in
    shallow_map c.in_ok-map_of.field-0.entries l.pairs.items c.in_ok-map_of.ensures l.invariant.shallow

pub few_members_of-returns-in_err-doc_of-clause-not_whole : goal.few_members_of-returns-in_err-doc_of-clause-not_whole
few_members_of-returns-in_err-doc_of-clause-not_whole t c refused =
    none_if_refused _ _ _ _ _ c.loop-name.invariant.entries c.in-Some.ensures.steps (c.in_err-doc_of.ensures.not_whole (grind arith))

pub few_members_of-loop-name-preserved : goal.few_members_of-loop-name-preserved
few_members_of-loop-name-preserved t c =
    let l = c.loop-name in
    let entries = l.invariant.entries in
    let next = c.in-Some.ensures.steps in
    let doc = c.in_ok-doc_of.field-0 in
    let is = c.in_ok-doc_of.ensures.ok in
    let ascending = c.into_iter-name-iterator.ensures.into_iter_gives.5 in
    let last = insert-last-seen read_as from_value l.docs.entries _ c.in-Some.name c.in-Some.name doc c.in-Some.value entries next (ap (λ v. (string_bytes c.in-Some.name, v)) (sym is)) ascending c.in_ok-insert.ensures.entries in
    let shallow = one_more_member l.docs.entries _ c.in-Some.name doc l.invariant.shallow last c.in_ok-doc_of.ensures.shallow in
    record { entries = read_one_more l.docs.entries _ _ _ doc entries next last is; shallow = shallow; can_next = tt; is_finite = tt }

pub few_members_of-returns-clause-ok : goal.few_members_of-returns-clause-ok
few_members_of-returns-clause-ok t c =
    let l = c.loop-name in
    members_from_data-all _ l.docs.entries (Passed-end l.invariant.entries c.in-None.ensures.steps.0)

pub few_members_of-returns-clause-shallow : goal.few_members_of-returns-clause-shallow
few_members_of-returns-clause-shallow t c =
    let l = c.loop-name in
    shallow_members l.docs.entries l.invariant.shallow

pub doc_of-returns-in_ok-members_of-in-Object-clause-shallow : goal.doc_of-returns-in_ok-members_of-in-Object-clause-shallow
doc_of-returns-in_ok-members_of-in-Object-clause-shallow t c none =
    let docs = c.in_ok-members_of-in-Object in
    let parts = docs.ensures.shallow none in
    let below = c.levels_below-below-in-Object.ensures in
    let here = below.shallow parts.0 in
    (here.0, omega (arith, here.1, parts.1, below.below, ap depth (document-Members docs.field-0)))
