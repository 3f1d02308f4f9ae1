use Rattle.mp_tree.specs.Values.{value_document}
use Rattle.mp_tree.proofs.Texts.RoundTrip.{read-text}
use Rattle.mp_tree.proofs.Valued.Meaning.{IsReadable-value}
use Rattle.mp_tree.proofs.values.write_value_within.Goals as goal

pub returns : goal.returns
returns c = let v = c.args.value.now in record { text = c.written_within.ensures; reads_back = λ fits. read-text (value_document v) (IsReadable-value v fits) }
