use Rattle.mp_replica.proofs.Alike.{alike_begin_the_same, alike_refuse_the_same, alike_report_the_same, alike_show_the_same}
use Rattle.mp_replica.proofs.laws.alike_logs_agree.Goals as goal

pub returns-clause-shown : goal.returns-clause-shown
returns-clause-shown c = alike_show_the_same c.merge_laws.ensures

pub returns-clause-reported : goal.returns-clause-reported
returns-clause-reported c = alike_report_the_same c.merge_laws.ensures

pub returns-clause-begun : goal.returns-clause-begun
returns-clause-begun c = alike_begin_the_same c.merge_laws.ensures c.docs_are_documents.ensures

pub returns-clause-refused : goal.returns-clause-refused
returns-clause-refused c = alike_refuse_the_same
