-- By hand, since a struct that owns memory is made: the same pointer, and what is owned at it.
use Rattle.std.proofs.Common.{refl}
use base.Logic.{emp, id⊢}
use contract.Monad.{fact_i}
use Rattle.mp_c.proofs.HandleSteps.{moved}
use Rattle.mp_c.specs.contracts.box_at.BoxAt as box_at
use Rattle.mp_c.specs.contracts.replica_handle.ReplicaHandle as handle
use Rattle.mp_replica.specs.contracts.replica.Replica as held
use Rattle.mp_c.specs.contracts.replica_handle.ReplicaHandle.of as f
use Rattle.mp_c.proofs.replica_handle.ReplicaHandle.of.Statement.{statement}
use Rattle.mp_c.proofs.replica_handle.ReplicaHandle.of.Code as code

pub of_spec : {M : Type 1} → statement M
of_spec 𝓤 𝓛 𝓜 𝓡 wired = moved (box_at.the_type held.the_row) handle.the_type (λ b. b.at) (λ h. h.at) (λ b. record { at = b.at; value = b.value }) 𝓛 𝓜 𝓡 (f.clauses 𝓛 𝓜.mem 𝓡.returns) f.Key.name
    (code.unfolded 𝓤 𝓛.H 𝓜 𝓡 wired) (λ b vs. id⊢ 𝓤 _) (λ b g x. fact_i 𝓤 _ (emp 𝓤) refl)
