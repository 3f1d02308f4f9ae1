use Rattle.std.proofs.Common.{◌≡◌, String, Global, ap, ap₂, string_bytes, ◌∙◌, arith, rules}
use Rattle.std.proofs.lemmas.Result.{IfOk-weaker}
use Rattle.mp_tree.specs.View.{members_of}
use Rattle.mp_tree.proofs.Documents.Depths.{item_within, next_within}
use Rattle.mp_tree.proofs.Maps.Building.{seen, ascend_from_seen, insert-last-seen, seen-same}
use Rattle.mp_tree.proofs.Passed.{Passed-push, Passed-end}
use Rattle.mp_tree.proofs.copying.+copy.Goals as goal

pub copy_members-loop-name-preserved : goal.copy_members-loop-name-preserved
copy_members-loop-name-preserved g t c =
    let f = g.T.Walked.means in
    let h = g.U.Walked.means in
    let l = c.loop-name in
    let e : String Global × _ = (c.in-Some.name.now, c.in-Some.value.now) in
    let copy : String Global × _ = (c.in_ok-copied_name.copied_name, c.in_ok-copied_value.copied_value) in
    let name : string_bytes copy.0 ≡ string_bytes e.0 = search rules in
    let same : seen h copy ≡ seen f e = ap₂ (λ n d. (n, d)) name c.in_ok-copied_value.ensures in
    Passed-push (seen h) (seen f) l.pairs.items _ copy l.invariant c.in-Some.ensures.steps c.in_ok-push.ensures.items same

pub copy_few-loop-name-preserved : goal.copy_few-loop-name-preserved
copy_few-loop-name-preserved g t c =
    let f = g.T.Walked.means in
    let h = g.U.Walked.means in
    let l = c.loop-name in
    let e : String Global × _ = (c.in-Some.name.now, c.in-Some.value.now) in
    let copy : String Global × _ = (c.in_ok-copied_name.copied_name, c.in_ok-copied_value.copied_value) in
    let name : string_bytes copy.0 ≡ string_bytes e.0 = search rules in
    let same : seen h copy ≡ seen f e = ap₂ (λ n d. (n, d)) name c.in_ok-copied_value.ensures in
    let last = insert-last-seen h f l.copies.entries _ copy.0 e.0 copy.1 e.1 l.invariant c.in-Some.ensures.steps same c.iter-name-items.ensures.ordered c.in_ok-insert.ensures.entries in
    Passed-push (seen h) (seen f) l.copies.entries _ copy l.invariant c.in-Some.ensures.steps last same

pub copy_few-returns : goal.copy_few-returns
copy_few-returns g t c = ap members_of (Passed-end c.loop-name.invariant c.in-None.ensures.steps.0)

pub copy_members-map_of-requires : goal.copy_members-map_of-requires
copy_members-map_of-requires g t c =
    let f = g.T.Walked.means in
    let h = g.U.Walked.means in
    let l = c.loop-name in
    ascend_from_seen h f l.pairs.items _ (Passed-end l.invariant c.in-None.ensures.steps.0) c.iter-name-items.ensures.ordered

pub copy_members-returns : goal.copy_members-returns
copy_members-returns g t c =
    let f = g.T.Walked.means in
    let h = g.U.Walked.means in
    let l = c.loop-name in
    let all = Passed-end l.invariant c.in-None.ensures.steps.0 in
    IfOk-weaker c.map_of.result _ _ (λ m built. ap members_of (seen-same h m.entries l.pairs.items built ∙ all)) c.map_of.ensures

-- what a walk comes to is no deeper than what it goes over
pub copy_items-copy_of-requires : goal.copy_items-copy_of-requires
copy_items-copy_of-requires g t c κs within =
    let part = item_within g.T.Walked.means c.element-item.is c.loop-element-test.true c.deref-element-items.ensures.value in
    (omega (arith, c.decreases, part), within)

pub copy_members-copy_of-requires : goal.copy_members-copy_of-requires
copy_members-copy_of-requires g t c κs within =
    let part = next_within g.T.Walked.means c.loop-name.invariant c.in-Some.ensures.steps c.iter-name-items.ensures.ordered in
    (omega (arith, c.decreases, part), within)

pub copy_few-copy_of-requires : goal.copy_few-copy_of-requires
copy_few-copy_of-requires g t c κs within =
    let part = next_within g.T.Walked.means c.loop-name.invariant c.in-Some.ensures.steps c.iter-name-items.ensures.ordered in
    (omega (arith, c.decreases, part), within)
