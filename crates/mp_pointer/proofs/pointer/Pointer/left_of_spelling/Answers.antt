use Rattle.std.proofs.Common.{◌≡◌, ◌<◌, ◌≤◌, ◌-◌, ◌+◌, ℕ, Option, None, Some, MatchOption, length, string_bytes, ap, ◌∙◌, arith}
use Rattle.std.specs.Option.{SomeIff}
use Rattle.mp_pointer.specs.Spelling.{spell}
use Rattle.mp_pointer.proofs.Spellings.Kept.{text_is_spelling}
use Rattle.mp_pointer.proofs.pointer.Pointer.left_of_spelling.Goals as goal

taken : (r : Option ℕ) (budget own n : ℕ) → own ≡ n → SomeIff r (own ≤ budget) (budget - own) → MatchOption r (budget < n) (λ left. left + n ≡ budget)
taken None budget own n same over = omega (arith, same, over)
taken (Some left) budget own n same is = omega (arith, same, is)

pub returns-then-self : goal.returns-then-self
returns-then-self c =
    let same : length (string_bytes c.self.inside.text) ≡ length (spell c.args.self.now) =
    ap length (text_is_spelling 0 c.self.inside.ends.items (string_bytes c.self.inside.text) c.self.invariant.cuts (c.self.invariant.plain c.if-self.true) ∙ ap spell c.self.view_is) in
    taken c.checked_sub.result c.args.budget (length c.as_str.result.now) (length (spell c.args.self.now)) (ap length c.as_str.ensures.value ∙ same) c.checked_sub.ensures
