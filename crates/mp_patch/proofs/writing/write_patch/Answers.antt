use Rattle.std.proofs.Common.{ap, ◌∙◌, subst}
use Rattle.std.proofs.lemmas.Str.{IsUtf8-string_bytes}
use Rattle.std.specs.Str.{IsUtf8}
use Rattle.serde_json.proofs.FreeTexts.{text_of_value}
use Rattle.mp_tree.specs.Text.{data_of, read}
use Rattle.mp_tree.proofs.Facts.{has_float-data_of}
use Rattle.mp_patch.specs.Form.{shapes}
use Rattle.mp_patch.specs.View.{operations_of}
use Rattle.mp_patch.proofs.Shapes.Readable.{shapes-readable}
use Rattle.mp_patch.proofs.writing.write_patch.Goals as goal

-- the text is that of the shapes, which have no float
pub returns-in-Ok-clause-text : goal.returns-in-Ok-clause-text
returns-in-Ok-clause-text c =
    let d = shapes (operations_of c.args.patch.now) in
    let sent = c.in-Ok.ensures.events in
    text_of_value (data_of d) sent.0 _ sent.1 sent.2 (has_float-data_of d)

-- it is UTF-8, as every `String` is
pub returns-in-Ok-clause-reads_back : goal.returns-in-Ok-clause-reads_back
returns-in-Ok-clause-reads_back c = λ within.
    let is = returns-in-Ok-clause-text c in
    let utf8 = subst IsUtf8 is (IsUtf8-string_bytes c.in-Ok.written) in
    ap read is ∙ shapes-readable c.docs_are_documents.ensures c.args.patch.now c.texts_read_back.ensures.utf8 within utf8
