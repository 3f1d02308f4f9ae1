use Rattle.std.proofs.Common.{ap, ◌∙◌}
use Rattle.std.proofs.lemmas.Result.{IfOk-weaker}
use Rattle.mp_tree.specs.Text.{read}
use Rattle.mp_tree.specs.Values.{value_document}
use Rattle.mp_tree.proofs.Texts.RoundTrip.{read-text}
use Rattle.mp_tree.proofs.Valued.Meaning.{IsReadable-value}
use Rattle.mp_tree.proofs.values.write_value.Goals as goal

pub returns : goal.returns
returns c =
    let v = c.args.value.now in
    record { text = c.written.ensures; reads_back = IfOk-weaker c.written.result _ _ (λ s is fits. ap read is ∙ read-text (value_document v) (IsReadable-value v fits)) c.written.ensures }
