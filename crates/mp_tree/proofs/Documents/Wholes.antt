-- Equal numbers are equal values: the two bounds of a `Whole` say no more than that they hold.
use Rattle.std.proofs.Common.{◌≡◌, ◌^◌, ◌-◌, ◌≤ℤ◌, ℤ, pos, negsuc, ap₂, subst}
use Rattle.mp_tree.specs.Laws.{EqualNumbers}
use Rattle.mp_tree.specs.declared.whole.Whole.{Whole}
use denote.Struct.Props.{props}

abbrev IsAtLeast : ℤ → Type 0
IsAtLeast z = negsuc (2 ^ 63 - 1) ≤ℤ z

abbrev IsAtMost : ℤ → Type 0
IsAtMost z = z ≤ℤ pos (2 ^ 64 - 1)

abbrev made : (z : ℤ) → IsAtLeast z → IsAtMost z → Whole
made z a b = record { value = z; at_least = a; at_most = b }

same_bounds : (z : ℤ) (a c : IsAtLeast z) (b d : IsAtMost z) → made z a b ≡ made z c d
same_bounds z a c b d =
    let above : IsProp (IsAtLeast z) = hlevel props in
    let below : IsProp (IsAtMost z) = hlevel props in
    ap₂ (made z) (above a c) (below b d)

same_made : (z w : ℤ) → z ≡ w → (a : IsAtLeast z) (b : IsAtMost z) (c : IsAtLeast w) (d : IsAtMost w) → made z a b ≡ made w c d
same_made z w same a b = subst (λ v. (c : IsAtLeast v) (d : IsAtMost v) → made z a b ≡ made v c d) same (λ c d. same_bounds z a c b d)

pub equal_numbers : EqualNumbers
equal_numbers m n same = same_made m.value n.value same m.at_least m.at_most n.at_least n.at_most
