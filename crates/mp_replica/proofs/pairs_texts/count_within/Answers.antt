use Rattle.std.proofs.Common.{◌∷◌, [], length, map, take, ap, arith}
use Rattle.std.proofs.lemmas.List.{take_all}
use Rattle.mp_replica.specs.LogTexts.{pairs_text}
use Rattle.mp_replica.specs.PatchLog.{seen}
use Rattle.mp_replica.proofs.PairTexts.{fit_or_none, long-push, none_of_two, seen_more, some_of_two, spelled, spelled-append}
use Rattle.mp_replica.proofs.pairs_texts.count_within.Goals as goal

pub returns-in_default-clause-within : goal.returns-in_default-clause-within
returns-in_default-clause-within c =
    (omega (arith, c.loop-count-test.true), fit_or_none (map seen (take c.loop-count.count c.args.pairs.now)) c.args.limit c.loop-count.left c.loop-count.invariant)

pub returns-in_default-clause-longest : goal.returns-in_default-clause-longest
returns-in_default-clause-longest c within =
    let pairs = c.args.pairs.now in
    let k = c.loop-count.count in
    let pair = c.index-pairs-count.result in
    let more = ap (λ ps. length (pairs_text ps)) (seen_more pairs k pair c.loop-count-test.true c.index-pairs-count.is) in
    omega (arith, more, long-push (map seen (take k pairs)) (seen pair), none_of_two _ c.in_default.not-Some c.in_ok-after.ensures, c.loop-count.invariant)

pub loop-count-preserved : goal.loop-count-preserved
loop-count-preserved c =
    let pairs = c.args.pairs.now in
    let k = c.loop-count.count in
    let pair = c.index-pairs-count.result in
    let more = ap spelled (seen_more pairs k pair c.loop-count-test.true c.index-pairs-count.is) in
    omega (arith, more, spelled-append (map seen (take k pairs)) (seen pair ∷ []), some_of_two _ _ c.in-Some.after c.in-Some.is c.in_ok-after.ensures, c.loop-count.invariant)

pub returns-clause-within : goal.returns-clause-within
returns-clause-within c =
    let pairs = c.args.pairs.now in
    let all = ap (λ ps. spelled (map seen ps)) (take_all c.loop-count.count pairs (omega (arith, c.loop-count-test.false))) in
    let whole = ap (λ ps. spelled (map seen ps)) (take_all (length pairs) pairs (omega arith)) in
    (omega arith, fit_or_none (map seen (take (length pairs) pairs)) c.args.limit c.loop-count.left (omega (arith, whole, all, c.loop-count.invariant)))
