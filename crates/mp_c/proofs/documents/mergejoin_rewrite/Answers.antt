use Rattle.mp_texts.specs.Calls.{rewrite_text}
use Rattle.mp_c.proofs.Exports.{replied}
use Rattle.mp_c.proofs.documents.mergejoin_rewrite.Goals as goal

pub returns : goal.returns
returns c = replied c.args.limit (rewrite_text c.args.document.now c.args.patch.now) c.rewrite_text-rewritten.result c.report.result c.args.out.now c.report.new.out c.rewrite_text-rewritten.ensures c.report.ensures
