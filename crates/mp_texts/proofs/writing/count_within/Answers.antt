use Rattle.std.proofs.Common.{◌≡◌, ◌<◌, ◌+◌, ◌∷◌, ◌++◌, [], ℕ, List, length, take, get_or, sym, ap, ◌∙◌, arith}
use Rattle.std.proofs.lemmas.List.{take_all, take_more}
use Rattle.mp_pointer.specs.Spelling.{Tokens}
use Rattle.mp_texts.specs.PlacesTexts.{listed}
use Rattle.mp_texts.proofs.Listed.{listed_within, listed-push, spelled, spelled-append}
use Rattle.mp_texts.proofs.writing.count_within.Goals as goal

-- one place more
more : (places : List Tokens) (k : ℕ) (w : Tokens) → k < length places → w ≡ get_or places k w → take (k + 1) places ≡ take k places ++ w ∷ []
more places k w within is = take_more places k w within ∙ ap (λ v. take k places ++ v ∷ []) (sym is)

pub returns-in_default-clause-within : goal.returns-in_default-clause-within
returns-in_default-clause-within c =
    (omega (arith, c.loop-count-test.true), listed_within (take c.loop-count.count c.args.places.now) c.args.limit c.requires (omega (arith, c.loop-count.invariant)))

pub returns-in_default-clause-longest : goal.returns-in_default-clause-longest
returns-in_default-clause-longest c within =
    let places = c.args.places.now in
    let k = c.loop-count.count in
    let w = c.index-places-count.result in
    let longer : listed (take (k + 1) places) ≡ listed (take k places ++ w ∷ []) = ap listed (more places k w c.loop-count-test.true c.index-places-count.is) in
    omega (arith, longer, listed-push (take k places) w, c.in_default.ensures, c.loop-count.invariant)

pub loop-count-preserved : goal.loop-count-preserved
loop-count-preserved c =
    let places = c.args.places.now in
    let k = c.loop-count.count in
    let w = c.index-places-count.result in
    let longer : spelled (take (k + 1) places) ≡ spelled (take k places ++ w ∷ []) = ap spelled (more places k w c.loop-count-test.true c.index-places-count.is) in
    omega (arith, longer, spelled-append (take k places) (w ∷ []), c.in-Some.ensures, c.loop-count.invariant)

pub returns-clause-within : goal.returns-clause-within
returns-clause-within c =
    let places = c.args.places.now in
    let all = ap spelled (take_all c.loop-count.count places (omega (arith, c.loop-count-test.false))) in
    (omega arith, listed_within (take (length places) places) c.args.limit c.requires (let e = take_all (length places) places (omega arith) in omega (arith, ap spelled e, all, c.loop-count.invariant)))
