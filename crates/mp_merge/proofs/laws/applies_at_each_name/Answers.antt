use Rattle.mp_merge.proofs.Application.ByName.{applies_at_each_name, merged_is_document, others_replace}
use Rattle.mp_merge.proofs.laws.applies_at_each_name.Goals as goal

pub returns-clause-objects : goal.returns-clause-objects
returns-clause-objects c = applies_at_each_name

pub returns-clause-others : goal.returns-clause-others
returns-clause-others c = others_replace

pub returns-clause-document : goal.returns-clause-document
returns-clause-document c = merged_is_document
