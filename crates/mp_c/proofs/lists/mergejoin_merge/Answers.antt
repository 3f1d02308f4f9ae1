use Rattle.mp_texts.specs.Texts.{given}
use Rattle.mp_texts.specs.Calls.{merge_texts}
use Rattle.mp_c.proofs.Exports.{replied}
use Rattle.mp_c.proofs.lists.mergejoin_merge.Goals as goal

pub returns : goal.returns
returns c = replied c.args.limit (merge_texts c.args.document.now (given c.args.patches.now)) c.merge_texts-merged.result c.report.result c.args.out.now c.report.new.out c.merge_texts-merged.ensures c.report.ensures
