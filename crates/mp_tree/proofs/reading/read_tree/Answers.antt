use Rattle.std.proofs.Common.{refl, ap, ◌∙◌, arith}
use Rattle.std.proofs.lemmas.Result.{IfOk-weaker}
use Rattle.std.specs.Option.{option_and_then}
use Rattle.serde_json.specs.View.{view}
use Rattle.mp_tree.specs.View.{document}
use Rattle.mp_tree.specs.Text.{from_data}
use Rattle.mp_tree.proofs.Readings.Values.{depth-from}
use Rattle.mp_tree.proofs.reading.read_tree.Goals as goal

pub returns-clause-ok : goal.returns-clause-ok
returns-clause-ok c = IfOk-weaker c.doc_of.result _ _ (λ d e. ap (option_and_then from_data) c.in_ok-value.ensures.ok ∙ e) c.doc_of.ensures.ok

pub returns-clause-nests : goal.returns-clause-nests
returns-clause-nests c = IfOk-weaker c.doc_of.result _ _ (λ d e. omega (arith, depth-from (view c.in_ok-value.value) (document d) e, c.in_ok-value.ensures.nests)) c.doc_of.ensures.ok

pub returns-clause-not_whole : goal.returns-clause-not_whole
returns-clause-not_whole c refused =
    let is = c.in_ok-value.ensures.ok in
    (rw is refl, ap (option_and_then from_data) is ∙ c.doc_of.ensures.not_whole refused)
