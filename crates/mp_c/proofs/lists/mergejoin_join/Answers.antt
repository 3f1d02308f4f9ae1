use Rattle.mp_texts.specs.Texts.{given}
use Rattle.mp_texts.specs.Calls.{join_texts}
use Rattle.mp_c.proofs.Exports.{replied}
use Rattle.mp_c.proofs.lists.mergejoin_join.Goals as goal

pub returns : goal.returns
returns c = replied c.args.limit (join_texts (given c.args.patches.now)) c.join_texts-joined.result c.report.result c.args.out.now c.report.new.out c.join_texts-joined.ensures c.report.ensures
