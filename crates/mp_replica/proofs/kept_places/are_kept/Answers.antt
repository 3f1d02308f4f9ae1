use Rattle.std.proofs.Common.{◌≢◌, [], IsTrue, get_or, length, sym, ap, ◌∙◌, true≢false, ◌==◌}
use Rattle.std.proofs.lemmas.Bool.{eqb-true}
use Rattle.std.proofs.lemmas.List.{nil_from_length}
use Rattle.mp_tree.specs.Look.{Path}
use Rattle.mp_merge.specs.Within.{places_weight}
use Rattle.mp_replica.specs.Held.{places_bound}
use Rattle.mp_replica.proofs.KeptPlaces.{none_kept, rising_chain, some_kept, weighs_within}
use Rattle.mp_replica.proofs.kept_places.are_kept.Goals as goal
use Rattle.mp_replica.proofs.kept_places.are_kept.Goals.{else-more-via-then-more+else-is_empty-2, else-more-via-else-more}

pub returns-then-is_empty : goal.returns-then-is_empty
returns-then-is_empty c = none_kept c.args.places.now c.args.more (nil_from_length c.args.places.now (eqb-true _ 0 (sym c.is_empty.ensures ∙ c.if-is_empty.true)))

pub returns-then-rise : goal.returns-then-rise
returns-then-rise c =
    let places = c.args.places.now in
    let some : places ≢ [] = λ none. true≢false (sym (c.is_empty.ensures ∙ ap (λ l. length l == 0) none) ∙ c.if-is_empty.false) in
    let first : IsTrue c.args.more → (d : Path) × (get_or places 0 d ≢ []) = λ so. elim c.else-more.branch [
      | else-more-via-then-more+else-is_empty-2 w ↦ (
        w.index-places-0.result,
        λ root. true≢false (sym (w.is_empty-then-more.ensures.1 (w.index-places-0.is ∙ root)) ∙ w.if-is_empty-2.false),
      )
      | else-more-via-else-more w ↦ absurd (true≢false (sym so ∙ w.if-more.false))
    ] in
    let fits = weighs_within c.left_of.result places_bound (places_weight places) c.left_of.ensures in (
      λ so. some_kept places c.args.more some first (c.rise.ensures.0 c.if-rise.true) (fits.0 (sym c.is_some.ensures ∙ so)),
      λ are. c.is_some.ensures ∙ fits.1 are.within,
    )

pub returns-else-rise : goal.returns-else-rise
returns-else-rise c = (
  λ so. absurd (true≢false (sym so ∙ c.if-rise.false)),
  λ are. absurd (true≢false (sym (c.rise.ensures.1 (rising_chain c.args.places.now are.rising are.apart)) ∙ c.if-rise.false)),
)
