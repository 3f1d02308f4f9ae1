use Rattle.mp_tree.specs.View.{document}
use Rattle.mp_replica.proofs.Growing.{all_clashes_found}
use Rattle.mp_replica.proofs.replica.Replica.conflicts.Goals as goal

pub returns-clause-places : goal.returns-clause-places
returns-clause-places c start received follows = all_clashes_found received (document c.args.patch.now) c.in_ok-places.field-0.places.items c.in_ok-places.field-0.total (c.in_ok-places.ensures.places start received follows)
