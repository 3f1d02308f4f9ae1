use Rattle.std.proofs.Common.{◌≡◌, ◌+◌, None, Some, option_map, take, get_or, sym, ap, ◌∙◌, subst}
use Rattle.mp_tree.specs.View.{document}
use Rattle.mp_tree.proofs.Facts.{IsDocument-document}
use Rattle.mp_merge.specs.Application.{merge_patch}
use Rattle.mp_replica.specs.PatchLog.{stored_in}
use Rattle.mp_replica.specs.Private.StoredPatches.{AreApart}
use Rattle.mp_replica.proofs.PairsFound.{no_identity}
use Rattle.mp_replica.proofs.Shown.{HasChosen, none_more, one_chosen}
use Rattle.mp_replica.proofs.Slices.{passed_all, passed_on, within_next}
use Rattle.mp_replica.proofs.stored_patches.StoredPatches.after.Goals as goal
use Rattle.mp_replica.proofs.stored_patches.StoredPatches.after.Goals.{in-Some+in_ok-merge_into, in_default}

pub loop-identity-preserved : goal.loop-identity-preserved
loop-identity-preserved c =
    let stored = stored_in c.self.inside.patches.entries in
    let chosen = c.args.chosen.now in
    let start = document c.args.start.now in
    let end = c.loop-identity.end in
    let k = c.loop-identity.identity-index in
    let i = get_or chosen k no_identity in
    let apart = subst (λ es. AreApart (stored_in es) chosen) (sym c.self.view_is) c.requires.apart in
    elim c.match-get.branch [
      | in-Some+in_ok-merge_into w ↦
          let p = w.in-Some.patch.now in
          let at : stored i ≡ Some (document p) = sym (ap (option_map document) w.in-Some.ensures.value) in
          subst (HasChosen stored start (take (k + 1) chosen)) (sym (ap document w.end-is ∙ w.in_ok-merge_into.ensures.merged)) (passed_on (λ l. HasChosen stored start l (merge_patch (Some (document end)) (document p))) chosen k no_identity
          c.loop-identity-test.true (one_chosen c.merge_laws.ensures stored start (document end) (document p) chosen (take k chosen) i (IsDocument-document c.args.start.now) (IsDocument-document end) (IsDocument-document p) apart
          (λ j at_j. within_next chosen k no_identity j c.loop-identity-test.true at_j) at c.loop-identity.invariant))
      | in_default w ↦
          let none : stored i ≡ None = sym (ap (option_map document) w.in_default.ensures.value) in
          subst (HasChosen stored start (take (k + 1) chosen)) (sym (ap document w.end-is))
          (passed_on (λ l. HasChosen stored start l (document end)) chosen k no_identity c.loop-identity-test.true (none_more stored start (document end) (take k chosen) i none c.loop-identity.invariant))
    ]

pub returns : goal.returns
returns c =
    let start = document c.args.start.now in
    let end = document c.loop-identity.end in
    let chosen = c.args.chosen.now in
    let here = passed_all (λ l. HasChosen (stored_in c.self.inside.patches.entries) start l end) chosen c.loop-identity.identity-index c.loop-identity-test.false c.loop-identity.invariant in
    let has = subst (λ es. HasChosen (stored_in es) start chosen end) c.self.view_is here in
    (has.patches, has.are_chosen, has.outcome)
