use Rattle.std.proofs.Common.{inr, subst, sym, take}
use Rattle.mp_texts.specs.PlacesTexts.{IsLongestWithin}
use Rattle.mp_texts.proofs.Listed.{first_longest, none_longest}
use Rattle.mp_texts.proofs.writing.places_within.Goals as goal
use Rattle.mp_texts.proofs.writing.places_within.Goals.{then-limit-lt2, else-limit-lt2}

pub returns : goal.returns
returns c =
    let limit = c.args.limit in
    let places = c.args.places.now in
    elim c.if-limit-lt2.branch [
      | then-limit-lt2 w ↦ inr (c.if-limit-eq18446744073709551615.false, subst (λ n. IsLongestWithin limit places (take n places)) (sym w.count-is) (none_longest limit places w.if-limit-lt2.true))
      | else-limit-lt2 w ↦
          let counted = w.count_within-count in
          let most = first_longest limit places (record { count = counted.result; within = inr counted.ensures.within.1; longest = counted.ensures.longest }) in
          inr (c.if-limit-eq18446744073709551615.false, subst (λ n. IsLongestWithin limit places (take n places)) (sym w.count-is) most)
    ]
