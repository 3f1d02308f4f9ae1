use Rattle.mp_merge.proofs.Convergence.{replicas_converge}
use Rattle.mp_merge.proofs.Joins.Laws.{join_is_associative, join_is_commutative, join_is_idempotent, pair_has_join}
use Rattle.mp_merge.proofs.laws.replicas_converge.Goals as goal

pub returns-clause-replicas : goal.returns-clause-replicas
returns-clause-replicas c = replicas_converge (record { rewriting_runs = c.rewriting_runs.ensures; one_end = c.one_end.ensures; unrefused = c.runs_are_not_refused.ensures })

pub returns-clause-commutative : goal.returns-clause-commutative
returns-clause-commutative c = join_is_commutative

pub returns-clause-associative : goal.returns-clause-associative
returns-clause-associative c = join_is_associative

pub returns-clause-idempotent : goal.returns-clause-idempotent
returns-clause-idempotent c = join_is_idempotent

pub returns-clause-refuses : goal.returns-clause-refuses
returns-clause-refuses c = pair_has_join
