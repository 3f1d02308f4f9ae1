use Rattle.mp_tree.specs.View.{document}
use Rattle.mp_replica.proofs.TextRuns.{follows_texts_on}
use Rattle.mp_replica.proofs.replica.Replica.receive_text.Goals as goal

pub returns-clause-texts : goal.returns-clause-texts
returns-clause-texts c start texts follows =
    follows_texts_on c.receive.result start texts c.args.patch.now (document c.in_ok-patch.patch) c.args.self.now c.receive.new.self c.in_ok-patch.ensures follows (c.receive.ensures.follows follows.from follows.documents follows.follows)
