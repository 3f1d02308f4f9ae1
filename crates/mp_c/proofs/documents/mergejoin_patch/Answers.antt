use Rattle.mp_texts.specs.Calls.{patch_text}
use Rattle.mp_c.proofs.Exports.{replied}
use Rattle.mp_c.proofs.documents.mergejoin_patch.Goals as goal

pub returns : goal.returns
returns c = replied c.args.limit (patch_text c.args.document.now c.args.patch.now) c.patch_text-patched.result c.report.result c.args.out.now c.report.new.out c.patch_text-patched.ensures c.report.ensures
