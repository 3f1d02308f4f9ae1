use Rattle.std.proofs.Common.{sym, ap, ◌∙◌}
use Rattle.std.specs.Ordering.{ordering_reverse}
use Rattle.mp_replica.proofs.Identities.{identities_total}
use Rattle.mp_replica.proofs.PairsFound.{has_both, includes_more, ordered_more}
use Rattle.mp_replica.proofs.pairs.note_pair.Goals as goal

pub returns-in_ok-insert-in-Less : goal.returns-in_ok-insert-in-Less
returns-in_ok-insert-in-Less c =
    let set = c.args.pairs.now in
    let now = c.insert.new.self in
    let is = c.in_ok-insert-in-Less.ensures.keys in
    let less = sym c.cmp.ensures ∙ c.in-Less.is in
    record { noted = (has_both set now c.args.one c.args.other is less).0; kept = includes_more set now c.args.one c.args.other is; ordered = ordered_more set now c.args.one c.args.other is less }

pub returns-in_ok-insert-in-Greater : goal.returns-in_ok-insert-in-Greater
returns-in_ok-insert-in-Greater c =
    let set = c.args.pairs.now in
    let now = c.insert-in-Greater.new.self in
    let is = c.in_ok-insert-in-Greater.ensures.keys in
    let less = identities_total.antisymm c.args.other c.args.one ∙ ap ordering_reverse (sym c.cmp.ensures ∙ c.in-Greater.is) in
    record { noted = (has_both set now c.args.other c.args.one is less).1; kept = includes_more set now c.args.other c.args.one is; ordered = ordered_more set now c.args.other c.args.one is less }
