use Rattle.std.proofs.Common.{◌≡◌, ◌∷◌, ◌+◌, MatchOption, drop, inl, sym, ap, ◌∙◌, subst}
use Rattle.serde_json.specs.Data as json
use Rattle.serde_json.specs.View.{items_view, view}
use Rattle.mp_pointer.specs.Part.{numeral}
use Rattle.mp_texts.specs.FaultPlaces.{IsFirstWrong, IsFirstItem, IsSound}
use Rattle.mp_texts.proofs.FaultPlaces.{next_item}
use Rattle.mp_texts.proofs.fault_places.+first_wrong.Goals as goal

pub first_item-returns-in-Some : goal.first_item-returns-in-Some
first_item-returns-in-Some t c =
    let i = c.loop-index.index in
    let given = c.deref-value-items.result.now in
    let all = c.args.values.now.items in
    let v = c.value-item.result in
    let same : given ≡ all = c.deref-value-items.ensures.value in
    let next : items_view (drop i all) ≡ json.item (view v) (items_view (drop (i + 1) all)) =
    subst (λ vs. items_view (drop i vs) ≡ json.item (view v) (items_view (drop (i + 1) vs))) same (next_item given i v c.loop-index-test.true c.value-item.is) in
    let named : c.in_ok-under.field-0 ≡ numeral i ∷ c.in-Some.place = c.in_ok-under.ensures ∙ ap (λ n. n ∷ c.in-Some.place) (c.as_str.ensures.value ∙ c.in_ok-token.ensures) in
    c.loop-index.invariant.first c.in_ok-under.field-0 (subst (λ ds. IsFirstItem c.args.fault c.args.levels i ds c.in_ok-under.field-0) (sym next) (inl (c.in-Some.place, named, subst (λ o. MatchOption o (IsSound c.args.fault c.args.levels (view v)) (IsFirstWrong c.args.fault c.args.levels (view v))) c.in-Some.is c.in_ok-place.ensures)))
