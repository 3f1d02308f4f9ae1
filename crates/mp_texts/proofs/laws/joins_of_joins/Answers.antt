use Rattle.mp_texts.proofs.Joins as joins
use Rattle.mp_texts.proofs.laws.joins_of_joins.Goals as goal

pub returns-clause-two : goal.returns-clause-two
returns-clause-two c = joins.join_of_two_joins

pub returns-clause-parts : goal.returns-clause-parts
returns-clause-parts c = joins.each_part_has_a_join c.join_laws.ensures
