use Rattle.std.proofs.Common.{◌≡◌, ◌⊎◌, inl, inr, [], length, not, String, Global, string_bytes, sym, ap, ap₂, ◌∙◌, refl, rules, arith}
use Rattle.std.proofs.lemmas.Slice.Eq.{bytes_eq-Decides}
use Rattle.std.proofs.lemmas.Slice.Zip.{zip_turn, zip_end}
use Rattle.std.specs.Iterator.Adapters.{zip_first, zip_second}
use Rattle.mp_tree.specs.Document.{depth}
use Rattle.mp_tree.proofs.Maps.Building.{seen}
use Rattle.mp_tree.proofs.Documents.Depths.{item_depth-by, next_within}
use Rattle.mp_tree.proofs.Passed.{Passed-step, Passed-push}
use Rattle.mp_tree.proofs.Documents.SameParts.{length_from_items-by, length_from_members-by, at_from_items-by, items_from_each-by, next_same, all_same, seen_from_members-by, members_from_seen-by}
use Rattle.mp_tree.proofs.comparing.+same.Goals as goal
use Rattle.mp_tree.proofs.comparing.+same.Goals.{are_same_members-then-ne-via-then-ne, are_same_members-then-ne-via-else-ne+then-not-is_same}

pub are_same_items-returns-then-len : goal.are_same_items-returns-then-len
are_same_items-returns-then-len g t c = let f = g.T.Walked.means in (λ never. absurd (cc), λ same. absurd (omega (arith, length_from_items-by f c.args.elements.now.items c.args.others.now.items same)))

pub are_same_items-returns-then-not-is_same : goal.are_same_items-returns-then-not-is_same
are_same_items-returns-then-not-is_same g t c =
    let f = g.T.Walked.means in
    let l = c.loop-element in
    let one = c.args.elements.now.items in
    let two = c.args.others.now.items in
    let n = length l.yielded in
    let turn = zip_turn one two l.yielded c.into_iter-element-iterator.result l.element-iterator c.next.new.self c.next.result (search rules) (search rules) l.yielded_by (c.in-Some.element, c.in-Some.other) c.in-Some.is c.next.ensures.steps in
    let d = c.in-Some.element.now in (
      λ never. absurd (cc),
      λ same.
          let equal : f d ≡ f c.in-Some.other.now = ap f (turn.2 d) ∙ at_from_items-by f one two n d same ∙ ap f (sym (turn.3 d)) in
          let found = c.is_same.ensures.1 equal in absurd (cc),
    )

pub are_same_items-returns : goal.are_same_items-returns
are_same_items-returns g t c =
    let f = g.T.Walked.means in
    let l = c.loop-element in
    let one = c.args.elements.now.items in
    let two = c.args.others.now.items in
    let all = zip_end one two l.yielded c.into_iter-element-iterator.result l.element-iterator c.next.new.self c.next.result (search rules) (search rules) l.yielded_by c.in-None.is c.next.ensures.steps in
    let long : length one ≡ length two = search rules in
    (λ yes. items_from_each-by f one two long (λ k d below. l.invariant k d (omega arith)), λ same. search rules)

pub are_same_members-returns-then-len : goal.are_same_members-returns-then-len
are_same_members-returns-then-len g t c = let f = g.T.Walked.means in (λ never. absurd (cc), λ same. absurd (omega (arith, length_from_members-by f c.args.entries.now.entries c.args.others.now.entries c.len.ensures.ordered c.len-2.ensures.ordered same)))

pub are_same_members-returns-then-ne : goal.are_same_members-returns-then-ne
are_same_members-returns-then-ne g t c =
    let f = g.T.Walked.means in
    let l = c.loop-name in
    let e : String Global × _ = (c.in-Some.name.now, c.in-Some.value.now) in
    let o : String Global × _ = (c.in-Some.other_name.now, c.in-Some.other_value.now) in (
      λ never. absurd (cc),
      λ same.
          let alike = seen_from_members-by f _ _ c.iter.ensures.ordered c.iter-2.ensures.ordered same in
          let both = next_same (seen f) _ _ _ _ _ _ e o l.invariant c.in-Some.ensures.steps.0 c.in-Some.ensures.steps.1 alike in
          let names : string_bytes e.0 ≡ string_bytes o.0 = ap (λ p. p.0) both in
          let values : f e.1 ≡ f o.1 = ap (λ p. p.1) both in
          elim c.then-ne.branch [
            | are_same_members-then-ne-via-then-ne w ↦ let texts : c.as_str.result.now ≡ c.as_str-in-loop-name.result.now = c.as_str.ensures.value ∙ names ∙ sym c.as_str-in-loop-name.ensures.value in let found = c.ne.ensures ∙ ap not ((bytes_eq-Decides _ _).1 texts) in let taken = w.if-ne.true in absurd (cc)
            | are_same_members-then-ne-via-else-ne+then-not-is_same w ↦ let found = w.is_same.ensures.1 values in absurd (cc)
          ],
    )

pub are_same_members-loop-name-preserved : goal.are_same_members-loop-name-preserved
are_same_members-loop-name-preserved g t c =
    let f = g.T.Walked.means in
    let l = c.loop-name in
    let e : String Global × _ = (c.in-Some.name.now, c.in-Some.value.now) in
    let o : String Global × _ = (c.in-Some.other_name.now, c.in-Some.other_value.now) in
    let names : string_bytes e.0 ≡ string_bytes o.0 = search rules in
    let values : f e.1 ≡ f o.1 = c.is_same.ensures.0 (search rules) in
    let same : seen f e ≡ seen f o = ap₂ (λ n d. (n, d)) names values in
    Passed-step l.invariant c.in-Some.ensures.steps.0 (Passed-push (seen f) (seen f) l.invariant.passed _ e l.invariant.holds c.in-Some.ensures.steps.1 refl same)

pub are_same_members-returns : goal.are_same_members-returns
are_same_members-returns g t c =
    let f = g.T.Walked.means in
    let l = c.loop-name in
    let one = c.args.entries.now.entries in
    let two = c.args.others.now.entries in
    let left = zip_first l.name-iterator in
    let rest = zip_second l.name-iterator in
    let long : length one ≡ length two = sym c.len.ensures.len ∙ c.if-len.false ∙ c.len-2.ensures.len in
    let over : (left ≡ []) ⊎ (rest ≡ []) = elim c.in-None.ensures.steps [ inl end ↦ inl end.1.0 | inr end ↦ inr end.1.0 ] in
    let alike = all_same (seen f) one left two rest l.invariant long over in
    (λ yes. members_from_seen-by f one two alike, λ same. search rules)

-- what a walk comes to is no deeper than what it goes over
pub are_same_items-is_same-requires : goal.are_same_items-is_same-requires
are_same_items-is_same-requires g t c κs within =
    let f = g.T.Walked.means in
    let l = c.loop-element in
    let one = c.args.elements.now.items in
    let turn = zip_turn one c.args.others.now.items l.yielded c.into_iter-element-iterator.result l.element-iterator c.next.new.self c.next.result (search rules) (search rules) l.yielded_by (c.in-Some.element, c.in-Some.other) c.in-Some.is c.next.ensures.steps in
    let d = c.in-Some.element.now in
    let part = item_depth-by f one (length l.yielded) d turn.0 in
    let same = ap (λ x. depth (f x)) (turn.2 d) in
    (omega (arith, c.decreases, part, same), within)

pub are_same_members-is_same-requires : goal.are_same_members-is_same-requires
are_same_members-is_same-requires g t c κs within =
    let part = next_within g.T.Walked.means c.loop-name.invariant c.in-Some.ensures.steps.0 c.iter.ensures.ordered in
    (omega (arith, c.decreases, part), within)
