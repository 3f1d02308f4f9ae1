use Rattle.std.proofs.Common.{◌≢◌, ◌∙◌, ap, arith, map, subst, sym}
use Rattle.std.proofs.lemmas.List.{take_all}
use Rattle.mp_tree.specs.Look.{Path}
use Rattle.mp_tree.specs.View.{document}
use Rattle.mp_texts.specs.Answers.{place_of}
use Rattle.mp_replica.proofs.Keeping.{no_place_there}
use Rattle.mp_replica.proofs.kept.places_of.Goals as goal

pub returns : goal.returns
returns c =
    let all = take_all c.loop-spelling.spelling-index c.args.spellings.now (omega (arith, c.loop-spelling-test.false)) in
    ap (map document) (sym all) ∙ c.loop-spelling.invariant

pub returns-in_default : goal.returns-in_default
returns-in_default c =
    let none : (w : Path) → document c.spelling-item.result ≢ place_of w = rw c.in_default.is at c.in_ok-place.ensures in
    no_place_there c.args.spellings.now c.loop-spelling.spelling-index c.spelling-item.result c.loop-spelling-test.true (subst (λ d. (w : Path) → document d ≢ place_of w) c.spelling-item.is none)
