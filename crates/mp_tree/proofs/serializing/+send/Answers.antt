use Rattle.std.proofs.Common.{◌≡◌, [], length, drop, Some, sym, ap, ◌∙◌, subst, arith, rules}
use Rattle.std.proofs.lemmas.List.{drop_all}
use Rattle.std.proofs.lemmas.Result.{on_ok_weaker}
use Rattle.serde.specs.Event.{Logs, seq_begins, map_begins}
use Rattle.serde_json.specs.Events.{members_len, SendsItems, SendsMembers}
use Rattle.mp_tree.specs.Text.{items_data}
use Rattle.mp_tree.specs.View.{items_by}
use Rattle.mp_tree.proofs.Documents.Depths.{item_within, next_within}
use Rattle.mp_tree.proofs.Passed.{Passed-step}
use Rattle.mp_tree.proofs.Texts.IntoData.{entries_data_by, items_len-by, members_len-by, members_data-by}
use Rattle.mp_tree.proofs.serializing.+send.Goals as goal

pub send_items-returns : goal.send_items-returns
send_items-returns g t c =
    let f = g.T.Node.means in
    let given = c.deref-element-items.result.now in
    let docs = c.args.elements.now.items in
    let first = g.S.Serializer.written c.begin_seq.new.self in
    let len : c.len.result ≡ length docs = search rules in
    let begun = subst (λ n. Logs (g.S.Serializer.written c.args.out.now) first (seq_begins (Some n))) (len ∙ sym (items_len-by f docs)) c.in_ok-begin_seq.ensures in
    let none : drop c.loop-element.element-index given ≡ [] = drop_all c.loop-element.element-index given (omega arith) in
    on_ok_weaker c.end_seq.result (λ e. (
      first,
      begun,
      subst (λ ds. SendsItems (items_data (items_by f ds)) first (g.S.Serializer.written c.end_seq.new.self)) c.deref-element-items.ensures.value
          (c.loop-element.invariant (g.S.Serializer.written c.end_seq.new.self) (subst (λ ds. SendsItems (items_data (items_by f ds)) (g.S.Serializer.written c.loop-element.out) (g.S.Serializer.written c.end_seq.new.self)) (sym none) e)),
    )) c.end_seq.ensures

pub send_members-returns : goal.send_members-returns
send_members-returns g t c =
    let f = g.T.Node.means in
    let entries = c.args.entries.now.entries in
    let first = g.S.Serializer.written c.begin_map.new.self in
    let end = g.S.Serializer.written c.end_map.new.self in
    let len : c.len.result ≡ length entries = search rules in
    let all : c.into_iter-name-iterator.result ≡ entries = search rules in
    let same = members_data-by f entries c.iter-name-items.ensures.ordered in
    let begun = subst (λ n. Logs (g.S.Serializer.written c.args.out.now) first (map_begins (Some n))) (len ∙ sym (ap members_len same ∙ members_len-by f entries)) c.in_ok-begin_map.ensures in
    on_ok_weaker c.end_map.result (λ e. (
      first,
      begun,
      subst (λ ms. SendsMembers ms first end) (ap (entries_data_by f) all ∙ sym same)
          (c.loop-name.invariant.holds end (subst (λ es. SendsMembers (entries_data_by f es) (g.S.Serializer.written c.loop-name.out) end) (sym c.in-None.ensures.steps.0) e)),
    )) c.end_map.ensures

-- what a walk comes to is no deeper than what it goes over
pub send_items-send-requires : goal.send_items-send-requires
send_items-send-requires g t c κs within =
    let part = item_within g.T.Node.means c.element-item.is c.loop-element-test.true c.deref-element-items.ensures.value in
    (omega (arith, c.decreases, part), within)

pub send_members-send-requires : goal.send_members-send-requires
send_members-send-requires g t c κs within =
    let part = next_within g.T.Node.means c.loop-name.invariant c.in-Some.ensures.steps c.iter-name-items.ensures.ordered in
    (omega (arith, c.decreases, part), within)

pub send_members-loop-name-preserved : goal.send_members-loop-name-preserved
send_members-loop-name-preserved g t c = Passed-step c.loop-name.invariant c.in-Some.ensures.steps (search rules)
