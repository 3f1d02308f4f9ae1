use Rattle.std.proofs.Common.{◌≡◌, IfSome, option_map, sym, ◌∙◌, subst}
use Rattle.mp_tree.specs.View.{document}
use Rattle.mp_tree.proofs.Facts.{IsDocument-document, some_same}
use Rattle.mp_replica.specs.PatchLog.{Shows, stored_in}
use Rattle.mp_replica.specs.Private.StoredPatches.{StillShows}
use Rattle.mp_replica.proofs.Shown.{kept_up}
use Rattle.mp_replica.proofs.patch_log.PatchLog.store.Goals as goal

pub invariant_of-self : goal.invariant_of-self
invariant_of-self c =
    subst (λ es. IfSome (option_map document c.self.inside.shown) (Shows (document c.self.inside.start) (stored_in es))) (sym c.in_err-standing.ensures.unchanged) c.self.invariant

pub invariant_of-self-2 : goal.invariant_of-self-2
invariant_of-self-2 c =
    let standing = c.in_ok-standing.standing in
    let start = document c.self.inside.start in
    let fs = c.insert.new.self in
    let p = document c.in-Some.patch.now in
    let same : document c.args.patch ≡ p = some_same (document c.args.patch) p (sym c.in_ok-standing.ensures.stored.here ∙ sym c.in-Some.ensures) in
    kept_up standing start p c.self.inside.stored fs c.replace-shown.result c.shown_after.result (IsDocument-document c.self.inside.start) c.shown_after.ensures
    (λ shown good shows. subst (λ q. StillShows standing start shown q (stored_in fs)) same (c.in_ok-standing.ensures.shows start shown (IsDocument-document c.self.inside.start) good shows))
    (subst (λ o. IfSome (option_map document o) (Shows start (stored_in c.self.inside.stored))) (sym c.replace-shown.ensures.value) c.self.invariant)
