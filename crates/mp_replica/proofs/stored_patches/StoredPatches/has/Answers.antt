use Rattle.std.proofs.Common.{◌≡◌, ◌≢◌, ◌↔◌, None, true, subst}
use Rattle.mp_replica.specs.PatchLog.{stored_in}
use Rattle.mp_replica.proofs.Identities.{tells_stored}
use Rattle.mp_replica.proofs.stored_patches.StoredPatches.has.Goals as goal

pub returns : goal.returns
returns c =
    let i = c.args.identity in
    let yes = c.contains_key.result in
    let here : (yes ≡ true) ↔ (stored_in c.self.inside.patches.entries i ≢ None) = tells_stored c.self.inside.patches.entries i yes c.contains_key.ensures in
    subst (λ es. (yes ≡ true) ↔ (stored_in es i ≢ None)) c.self.view_is here
