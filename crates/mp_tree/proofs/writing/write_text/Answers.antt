use Rattle.std.proofs.Common.{◌≡◌, ap, ◌∙◌, rules}
use Rattle.std.proofs.lemmas.Result.{IfOk-weaker}
use Rattle.serde_json.specs.Data.{string}
use Rattle.serde_json.specs.View.{view}
use Rattle.serde_json.specs.Written.{compact_text, has_float}
use Rattle.serde_json.specs.declared.value.Value as value
use Rattle.serde_json.specs.declared.value.Value.{the_lemmas}
use Rattle.mp_tree.proofs.writing.write_text.Goals as goal

pub returns : goal.returns
returns c =
    let quoted : view (value.String c.in_ok-from_str.field-0) ≡ string c.args.plain.now = search (rules, the_lemmas, c.in_ok-from_str.ensures) in
    record { text = IfOk-weaker c.to_string.result _ _ (λ s is. is (ap has_float quoted) ∙ ap compact_text quoted) c.to_string.ensures.text }
