use Rattle.std.proofs.Common.{◌≡◌, map, take, string_bytes}
use Rattle.mp_replica.specs.PatchLog.{seen}
use Rattle.mp_replica.proofs.PairTexts.{comma_before, opened}
use Rattle.mp_replica.proofs.pairs_texts.write_pairs.Given as goal

-- the array as far as the pairs that were passed, and what stands before the next
abbrev pub invariant-loop-pair : goal.invariant-loop-pair
invariant-loop-pair l = record {
  text : string_bytes l.text ≡ opened (map seen (take l.pair-index l.pairs));
  before : l.before ≡ comma_before (map seen (take l.pair-index l.pairs));
}
