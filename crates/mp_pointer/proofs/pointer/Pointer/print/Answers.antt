use Rattle.std.proofs.Common.{string_bytes, ap, ◌∙◌}
use Rattle.std.proofs.lemmas.Result.{IfOk-weaker}
use Rattle.mp_pointer.specs.Spelling.{spell}
use Rattle.mp_pointer.proofs.Spellings.Kept.{text_is_spelling}
use Rattle.mp_pointer.proofs.pointer.Pointer.print.Goals as goal

pub returns-then-self : goal.returns-then-self
returns-then-self c =
    let same = text_is_spelling 0 c.self.inside.ends.items (string_bytes c.self.inside.text) c.self.invariant.cuts (c.self.invariant.plain c.if-self.true) in
    IfOk-weaker c.from_str.result _ _ (λ text is. is ∙ c.as_str.ensures.value ∙ same ∙ ap spell c.self.view_is) c.from_str.ensures.ok
