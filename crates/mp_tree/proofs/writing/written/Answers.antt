use Rattle.serde_json.proofs.FreeTexts.{text_of_value}
use Rattle.mp_tree.specs.Text.{data_of}
use Rattle.mp_tree.proofs.Texts.Written.{has_float-data_of}
use Rattle.mp_tree.proofs.writing.written.Goals as goal

-- the text is that of the document, which has no float
pub returns-in-Ok : goal.returns-in-Ok
returns-in-Ok g c =
    let d = g.T.Node.means c.args.node.now in
    let sent = c.in-Ok.ensures.events in
    text_of_value (data_of d) sent.0 _ sent.1 sent.2 (has_float-data_of d)
