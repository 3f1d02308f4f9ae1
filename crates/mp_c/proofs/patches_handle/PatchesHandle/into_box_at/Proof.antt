-- By hand, since a struct that owns memory is made: the same pointer, and what is owned at it.
use Rattle.std.proofs.Common.{refl}
use base.Logic.{emp, id⊢}
use contract.Monad.{fact_i}
use Rattle.mp_c.proofs.HandleSteps.{moved}
use Rattle.mp_c.specs.contracts.box_at.BoxAt as box_at
use Rattle.mp_c.specs.contracts.patches_handle.PatchesHandle as handle
use Rattle.mp_replica.specs.contracts.patches.Patches as held
use Rattle.mp_c.specs.contracts.patches_handle.PatchesHandle.into_box_at as f
use Rattle.mp_c.proofs.patches_handle.PatchesHandle.into_box_at.Statement.{statement}
use Rattle.mp_c.proofs.patches_handle.PatchesHandle.into_box_at.Code as code

pub into_box_at_spec : {M : Type 1} → statement M
into_box_at_spec 𝓤 𝓛 𝓜 𝓡 wired = moved handle.the_type (box_at.the_type held.the_row) (λ h. h.at) (λ b. b.at) (λ h. record { at = h.at; value = h.value }) 𝓛 𝓜 𝓡 (f.clauses 𝓛 𝓜.mem 𝓡.returns) f.Key.name
    (code.unfolded 𝓤 𝓛.H 𝓜 𝓡 wired) (λ h vs. id⊢ 𝓤 _) (λ h g x. fact_i 𝓤 _ (emp 𝓤) refl)
