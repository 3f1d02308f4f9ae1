use Rattle.std.proofs.Common.{◌≡◌, ◌+◌, ◌++◌, ◌∷◌, [], map, take, sym, ap, ◌∙◌}
use Rattle.std.proofs.lemmas.List.{map-append, take_more}
use Rattle.mp_replica.specs.LogTexts.{pair_text}
use Rattle.mp_replica.specs.PatchLog.{seen}
use Rattle.mp_replica.proofs.PairTexts.{comma-push, comma_before, opened, opened-push}
use Rattle.mp_replica.proofs.pairs_texts.write_pairs.Goals as goal

pub loop-pair-preserved : goal.loop-pair-preserved
loop-pair-preserved c =
    let pairs = c.args.pairs.now in
    let k = c.loop-pair.pair-index in
    let pair = c.pair-item.result in
    let passed = map seen (take k pairs) in
    let now : map seen (take (k + 1) pairs) ≡ passed ++ seen pair ∷ [] =
    ap (map seen) (take_more pairs k pair c.loop-pair-test.true ∙ ap (λ x. take k pairs ++ x ∷ []) (sym c.pair-item.is)) ∙ map-append seen (take k pairs) (pair ∷ []) in
    let before = c.in_ok-push_str.ensures.bytes ∙ ap (λ t. t ++ c.loop-pair.before.now) c.loop-pair.invariant.text ∙ ap (λ t. opened passed ++ t) c.loop-pair.invariant.before in
    record {
      text = c.in_ok-push_pair.ensures ∙ ap (λ t. t ++ pair_text (seen pair)) before ∙ sym (opened-push passed (seen pair)) ∙ ap opened (sym now);
      before = sym (comma-push passed (seen pair)) ∙ ap comma_before (sym now);
    }
