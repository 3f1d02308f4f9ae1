use Rattle.std.proofs.Common.{option_map, ap, ◌∙◌, subst}
use Rattle.std.proofs.lemmas.Result.{IfOk-weaker}
use Rattle.mp_tree.specs.View.{document}
use Rattle.mp_tree.proofs.Facts.{some_same}
use Rattle.mp_merge.specs.Within.{AreFirstConflicts}
use Rattle.mp_replica.specs.PatchLog.{stored_in}
use Rattle.mp_replica.proofs.stored_patches.StoredPatches.places_of.Goals as goal

pub returns-in-Some-Some : goal.returns-in-Some-Some
returns-in-Some-Some c =
    let p = document c.in-Some-Some.one.now in
    let q = document c.in-Some-Some.other.now in
    IfOk-weaker c.conflict_within.result _ _ (λ found are one other at_first at_second.
    let first = some_same p one (ap (option_map document) c.in-Some-Some.ensures.value ∙ ap (λ es. stored_in es c.args.first) c.self.view_is ∙ at_first) in
    let second = some_same q other (ap (option_map document) c.in-Some-Some.ensures'.value ∙ ap (λ es. stored_in es c.args.second) c.self.view_is ∙ at_second) in
    subst (λ d. AreFirstConflicts c.args.limit d other found.places.items found.total) first (subst (λ d. AreFirstConflicts c.args.limit p d found.places.items found.total) second are)) c.conflict_within.ensures
