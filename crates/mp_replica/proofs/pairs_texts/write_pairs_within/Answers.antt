use Rattle.std.proofs.Common.{length, nat_lt, string_bytes}
use Rattle.mp_replica.proofs.Bounded.{counts}
use Rattle.mp_replica.proofs.PairTexts.{first_text}
use Rattle.mp_replica.proofs.pairs_texts.write_pairs_within.Goals as goal

pub returns : goal.returns
returns c =
    let pairs = c.args.pairs.now in
    let n = c.in_ok-count.count in
    first_text c.args.limit n pairs c.in_ok-count.ensures.longest (string_bytes c.in_ok-text-2.text) (nat_lt n (length pairs)) c.in_ok-count.ensures.within.1 c.in_ok-text-2.ensures (counts n (length pairs))
