use Rattle.std.proofs.Common.{◌≡◌, ◌≢◌, ℕ, List, Option, None, Some, MatchOption, option_and_then, refl, ap, sym, ◌∙◌}
use Rattle.std.specs.Borrow.{Bor}
use Rattle.std.specs.Option.{option_copied}
use Rattle.mp_tree.specs.Document.{Document, null, flag, whole, string, list, object}
use Rattle.mp_tree.proofs.Facts.{looked_up-by}
use Rattle.mp_patch.specs.Form.{text_of}
use Rattle.mp_patch.proofs.reading.text_at.Goals as goal

text_shown : (r : Option (Bor (List ℕ))) (d : Document) → MatchOption r ((s : List ℕ) → d ≢ string s) (λ s. d ≡ string s.now) → option_copied r ≡ text_of d
text_shown (Some s) d is = sym (ap text_of is)
text_shown None null none = refl
text_shown None (flag b) none = refl
text_shown None (whole z) none = refl
text_shown None (string s) none = absurd (none s refl)
text_shown None (list ds) none = refl
text_shown None (object ms) none = refl

pub returns-in_err-get : goal.returns-in_err-get
returns-in_err-get g c = rw c.from_residual.ensures (sym (ap (option_and_then text_of) (looked_up-by g.T.Node.means c.requires.documents {n = c.args.name.now} c.args.entries.now.entries refl c.in_err-get.ensures.value)))

pub returns : goal.returns
returns g c =
    let found = looked_up-by g.T.Node.means c.requires.documents {n = c.args.name.now} c.args.entries.now.entries refl c.in_ok-get.ensures.value in
    text_shown c.text.result (g.T.Node.means c.in_ok-get.field-0.now) c.text.ensures ∙ sym (ap (option_and_then text_of) found)
