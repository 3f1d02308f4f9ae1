use Rattle.mp_merge.proofs.Rewritings.Within.{one_fitting, rewriting_is_within_or_not, within_is_not_too_large}
use Rattle.mp_merge.proofs.laws.rewritings_within.Goals as goal

pub returns-clause-one_of_both : goal.returns-clause-one_of_both
returns-clause-one_of_both c = rewriting_is_within_or_not

pub returns-clause-not_both : goal.returns-clause-not_both
returns-clause-not_both c = within_is_not_too_large

pub returns-clause-one_fitting : goal.returns-clause-one_fitting
returns-clause-one_fitting c = one_fitting
