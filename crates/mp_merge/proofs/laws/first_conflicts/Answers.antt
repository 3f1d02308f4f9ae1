use Rattle.mp_merge.proofs.Clashes.FirstOf.{all_if_within, first_conflicts_exist, one_front, one_report_within, reported_within, reported_without_limit}
use Rattle.mp_merge.proofs.laws.first_conflicts.Goals as goal

pub returns-clause-exist : goal.returns-clause-exist
returns-clause-exist c = first_conflicts_exist

pub returns-clause-one : goal.returns-clause-one
returns-clause-one c = one_front

pub returns-clause-all : goal.returns-clause-all
returns-clause-all c = all_if_within

pub returns-clause-reported : goal.returns-clause-reported
returns-clause-reported c = reported_within

pub returns-clause-one_report : goal.returns-clause-one_report
returns-clause-one_report c = one_report_within

pub returns-clause-without_limit : goal.returns-clause-without_limit
returns-clause-without_limit c = reported_without_limit
