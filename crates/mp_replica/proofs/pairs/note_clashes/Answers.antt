use Rattle.std.proofs.Common.{◌≡◌, List, None, Some, option_map, take, get_or, sym, ap, ◌∙◌, subst, true≢false}
use Rattle.mp_tree.specs.View.{document}
use Rattle.mp_tree.proofs.Facts.{some_same}
use Rattle.mp_merge.specs.Clash.{Compatible}
use Rattle.mp_replica.specs.PatchLog.{stored_in}
use Rattle.mp_replica.specs.declared.message.Identity.{Identity}
use Rattle.mp_replica.proofs.PairsFound.{AreNoted, no_identity, noted_none, noted_one}
use Rattle.mp_replica.proofs.Slices.{passed_all, passed_on}
use Rattle.mp_replica.proofs.pairs.note_clashes.Goals as goal
use Rattle.mp_replica.proofs.pairs.note_clashes.Goals.{in-Some+then-not-compatible+in_ok-note_pair, in-Some+else-not-compatible, in_default}

pub returns-in_err-note_pair-clause-kept : goal.returns-in_err-note_pair-clause-kept
returns-in_err-note_pair-clause-kept c x here = c.note_pair.ensures.kept x (c.loop-other.invariant.kept x here)

pub returns-in_err-note_pair-clause-ordered : goal.returns-in_err-note_pair-clause-ordered
returns-in_err-note_pair-clause-ordered c ordered = c.note_pair.ensures.ordered (c.loop-other.invariant.ordered ordered)

pub loop-other-preserved : goal.loop-other-preserved
loop-other-preserved c =
    let stored = stored_in c.args.patches.now.entries in
    let ids = c.args.others.now in
    let p = document c.args.patch.now in
    let k = c.loop-other.other-index in
    let j = get_or ids k no_identity in
    let inv = c.loop-other.invariant in
    let on = λ (l : List Identity). AreNoted c.args.identity stored p c.args.pairs.now c.match-get.fits c.match-get.pairs l in
    passed_on on ids k no_identity c.loop-other-test.true (elim c.match-get.branch [
      | in-Some+then-not-compatible+in_ok-note_pair w ↦
          let at : stored j ≡ Some (document w.in-Some.stored.now) = sym (ap (option_map document) w.in-Some.ensures.value) in
          let clash = λ (agree : Compatible p (document w.in-Some.stored.now)). true≢false (sym (w.compatible.ensures.1 agree) ∙ w.if-not-compatible.true) in
          rw (w.fits-is, w.pairs-is) (noted_one (take k ids) j inv (document w.in-Some.stored.now) at clash w.in_ok-note_pair.ensures.noted w.note_pair.ensures.kept w.note_pair.ensures.ordered)
      | in-Some+else-not-compatible w ↦
          let at : stored j ≡ Some (document w.in-Some.stored.now) = sym (ap (option_map document) w.in-Some.ensures.value) in
          rw (w.fits-is, w.pairs-is) (noted_none (take k ids) j inv (λ q here. subst (Compatible p) (some_same (document w.in-Some.stored.now) q (sym at ∙ here)) (w.compatible.ensures.0 w.if-not-compatible.false)))
      | in_default w ↦
          let none : stored j ≡ None = sym (ap (option_map document) w.in_default.ensures.value) in
          rw (w.fits-is, w.pairs-is) (noted_none (take k ids) j inv (λ q here. absurd (let never : None ≡ Some q = sym none ∙ here in cc)))
    ])

pub returns : goal.returns
returns c =
    let end = passed_all (λ (l : List Identity). AreNoted c.args.identity (stored_in c.args.patches.now.entries) (document c.args.patch.now) c.args.pairs.now c.loop-other.fits c.loop-other.pairs l) c.args.others.now c.loop-other.other-index
    c.loop-other-test.false c.loop-other.invariant in
    record { fits = end.fits_all; noted = end.noted; kept = end.kept; ordered = end.ordered }
