use Rattle.mp_c.proofs.LogBuffers.{agree_on_conflicts, agree_on_documents}
use Rattle.mp_c.proofs.laws.logs_agree_in_their_buffers.Goals as goal

pub returns-clause-document : goal.returns-clause-document
returns-clause-document c = agree_on_documents c.alike_logs_agree.ensures.shown

pub returns-clause-conflicts : goal.returns-clause-conflicts
returns-clause-conflicts c = agree_on_conflicts c.alike_logs_agree.ensures.reported
