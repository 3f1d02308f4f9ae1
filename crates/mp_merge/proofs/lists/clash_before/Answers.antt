use Rattle.std.proofs.Common.{◌≡◌, ◌<◌, length, map, Some, slice_get, sym, ◌∙◌, subst, true≢false, arith}
use Rattle.mp_merge.specs.Clash.{Compatible, AreAllClashes}
use Rattle.mp_merge.specs.Lists.{IsClashBelow}
use Rattle.mp_merge.proofs.Clashes.Conflicts.{empty_if_compatible}
use Rattle.mp_merge.proofs.Joins.Numbered.{at_number, same_at, below_more}
use Rattle.mp_merge.proofs.lists.clash_before.Goals as goal

pub loop-first-preserved : goal.loop-first-preserved
loop-first-preserved g c =
    let f = g.T.Node.means in
    let ds = c.args.patches.now in
    let k = c.loop-first.first in
    let d = c.index-patches-first.result in
    let q = f c.index-patches-second.result in
    let free : Compatible (f d) q = c.are_compatible.ensures.0 c.if-not-are_compatible.false in
    let at : slice_get (map f ds) k ≡ Some (f d) = at_number f ds k d (omega (arith, c.loop-first-test.true, c.requires.within)) c.index-patches-first.is in
    below_more (map f ds) k (f d) q at free c.loop-first.invariant

pub returns-then-not-are_compatible : goal.returns-then-not-are_compatible
returns-then-not-are_compatible g c =
    let f = g.T.Node.means in
    let ds = c.args.patches.now in
    let k = c.loop-first.first in
    let d = c.index-patches-first-then-not-are_compatible.result in
    let p = f d in
    let q = f c.index-patches-second.result in
    let found = c.in_ok-conflicts.ensures in
    let places = found.all in
    let within : k < length ds = omega (arith, c.loop-first-test.true, c.requires.within) in
    let at : slice_get (map f ds) k ≡ Some p = at_number f ds k d within c.index-patches-first-then-not-are_compatible.is in
    let compared = same_at (map f ds) k p (f c.index-patches-first.result) at (at_number f ds k c.index-patches-first.result within c.index-patches-first.is) in
    let clashes : AreAllClashes p q places = found.clashes in
    let clash : IsClashBelow (map f ds) k c.args.second places = record {
      one = p;
      other = q;
      at_first = at;
      at_second = at_number f ds c.args.second c.index-patches-second.result c.requires.within c.index-patches-second.is;
      in_order = c.loop-first-test.true;
      conflicts = record {
        some = λ none. true≢false (sym (c.are_compatible.ensures.1 (subst (λ x. Compatible x q) compared ((empty_if_compatible p q places clashes).0 none))) ∙ c.if-not-are_compatible.true);
        clashes = clashes;
      };
      least_first = c.loop-first.invariant;
    } in
    (places, clash, found.first)

pub returns : goal.returns
returns g c q at_second i p less at_i =
    let f = g.T.Node.means in
    let ds = c.args.patches.now in
    let d = c.index-patches-second.result in
    let at : slice_get (map f ds) c.args.second ≡ Some (f d) = at_number f ds c.args.second d c.requires.within c.index-patches-second.is in
    subst (λ x. Compatible p x) (same_at (map f ds) c.args.second (f d) q at at_second) (c.loop-first.invariant i p (omega (arith, less, c.loop-first-test.false)) at_i)
